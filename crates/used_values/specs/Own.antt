-- What a body uses as values itself, and what stands in it.
use Rattle.std.specs.Prelude.{ℕ, suc, ◌+◌, Bool, true, false, List, [], ◌∷◌, Option, Some, None}
use Rattle.sml_tree.specs.Sets.{union, union_over}
use Rattle.cps_ir.specs.declared.body.Bind.{Bind}
use Rattle.cps_ir.specs.declared.body.Bind.TheVariants as bind
use Rattle.cps_ir.specs.declared.body.Rule.{Rule as Chosen}
use Rattle.cps_ir.specs.declared.body.End.{End}
use Rattle.cps_ir.specs.declared.body.End.TheVariants as end
use Rattle.cps_ir.specs.declared.body.Body.{Body}
use Rattle.cps_ir.specs.Kept.{body_parts}
use Rattle.cps_ir.specs.Code.{Code, Make, Pick, Prim, Equal, Fix, Call, Match, Handler, SetHandler, Throw, Halt, Functions, NoFunction, Function, Rules, Otherwise, Rule}
use Rattle.cps_ir.specs.Free.{vars, vars_all, vars_tests}

abbrev pub own_bind : Bind → List ℕ
own_bind (bind.Make x shape atoms) = vars_all atoms
own_bind (bind.Pick x i a) = vars a
own_bind (bind.Prim x f atoms) = vars_all atoms
own_bind (bind.Fix fs) = []
own_bind (bind.Handler x) = []
own_bind (bind.SetHandler a) = vars a

abbrev pub own_rules : List Chosen → List ℕ
own_rules rules = union_over (λ r. vars_tests r.tests) rules

abbrev pub own_end : End → List ℕ
own_end (end.Equal a b truth k) = vars_all (a ∷ b ∷ k ∷ [])
own_end (end.Call a atoms) = vars_all atoms
own_end (end.Match a rules otherwise) = union (vars a) (own_rules rules)
own_end (end.Throw a) = vars a
own_end end.Halt = []

abbrev pub own_body : Body → List ℕ
own_body b = union (union_over own_bind b.binds) (own_end b.end)

abbrev pub own_at : Option Body → List ℕ
own_at None = []
own_at (Some b) = own_body b

abbrev pub is_comparison : End → Bool
is_comparison (end.Equal a b truth k) = true
is_comparison _ = false

abbrev pub compares_at : Option Body → Bool
compares_at None = false
compares_at (Some b) = is_comparison b.end

-- the bodies that stand in it, by number
abbrev pub parts_at : Option Body → List ℕ
parts_at None = []
parts_at (Some b) = body_parts b

-- how many bodies a body is, with those that stand in it
abbrev mutual
  pub bodies_in : Code → ℕ
  bodies_in (Make x shape atoms c) = bodies_in c
  bodies_in (Pick x i a c) = bodies_in c
  bodies_in (Prim x f atoms c) = bodies_in c
  bodies_in (Equal a b truth k) = 1
  bodies_in (Fix fs c) = bodies_in_functions fs + bodies_in c
  bodies_in (Call a atoms) = 1
  bodies_in (Match a rules) = suc (bodies_in_rules rules)
  bodies_in (Handler x c) = bodies_in c
  bodies_in (SetHandler a c) = bodies_in c
  bodies_in (Throw a) = 1
  bodies_in Halt = 1

  pub bodies_in_functions : Functions → ℕ
  bodies_in_functions NoFunction = 0
  bodies_in_functions (Function f p params body fs) = bodies_in body + bodies_in_functions fs

  pub bodies_in_rules : Rules → ℕ
  bodies_in_rules (Otherwise c) = bodies_in c
  bodies_in_rules (Rule tests c rules) = bodies_in c + bodies_in_rules rules
