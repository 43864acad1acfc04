-- The nodes of a body itself, without those of the bodies that stand in it.
use Rattle.std.specs.Prelude.{ℕ, ◌+◌, List, [], ◌∷◌, length, Option, Some, None}
use Rattle.cps_ir.specs.declared.body.Rule.{Rule}
use Rattle.cps_ir.specs.declared.body.Bind.{Bind}
use Rattle.cps_ir.specs.declared.body.Bind.TheVariants as bind
use Rattle.cps_ir.specs.declared.body.End.{End}
use Rattle.cps_ir.specs.declared.body.End.TheVariants as end
use Rattle.cps_ir.specs.declared.body.Body.{Body}
use Rattle.cps_ir.specs.Kept.{body_parts}

abbrev pub bind_own : Bind → ℕ
bind_own (bind.Fix fs) = length fs + 1
bind_own _ = 1

abbrev pub binds_own : List Bind → ℕ
binds_own [] = 0
binds_own (b ∷ binds) = bind_own b + binds_own binds

abbrev pub rules_own : List Rule → ℕ
rules_own [] = 0
rules_own (r ∷ rules) = (length r.tests + 1) + rules_own rules

abbrev pub end_own : End → ℕ
end_own (end.Match a rules otherwise) = rules_own rules + 1
end_own _ = 1

abbrev pub body_own : Body → ℕ
body_own b = binds_own b.binds + end_own b.end

-- a body that isn't there is an end alone
abbrev pub found_own : Option Body → ℕ
found_own None = 1
found_own (Some b) = body_own b

abbrev pub found_parts : Option Body → List ℕ
found_parts None = []
found_parts (Some b) = body_parts b
