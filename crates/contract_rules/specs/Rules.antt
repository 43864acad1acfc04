-- What is left of rules.
use Rattle.std.specs.Prelude.{◌≡◌, ℕ, List, [], ◌∷◌, Option, Some, None}
use Rattle.cps_ir.specs.declared.atom.Atom.{Atom}
use Rattle.cps_ir.specs.declared.atom.Test.{Test}
use Rattle.cps_ir.specs.declared.body.Rule.{Rule}
use Rattle.cps_ir.specs.Code.{Code}
use Rattle.cps_ir.specs.Program.{rules_of}
use Rattle.contract_laws.specs.Contract.{Made, nothing}
use Rattle.contract_round.specs.Round.{Inlined, known, tests_left, walk, rules_walk}
use Rattle.contract_rules.specs.declared.rules.RulesLeft.{RulesLeft}

abbrev pub left : List Rule → ℕ → RulesLeft
left rules otherwise = record { rules = rules; otherwise = otherwise }

-- a rule in front of those that are left, by what is left of its tests
abbrev pub one_rule : Option (List Test) → ℕ → RulesLeft → RulesLeft
one_rule None i l = l
one_rule (Some []) i l = left [] i
one_rule (Some (t ∷ tests)) i l = left (record { tests = t ∷ tests; body = i } ∷ l.rules) l.otherwise

module _ (texts : List (List ℕ)) (σ : ℕ → Atom) (τ : ℕ → Option Made) (a : Atom) where
  abbrev pub rules_known : List Rule → ℕ → RulesLeft
  rules_known [] otherwise = left [] otherwise
  rules_known (r ∷ rules) otherwise = one_rule (tests_left texts (known σ τ nothing) a r.tests) r.body (rules_known rules otherwise)

  -- they are the walk of the rules, with the walks of their bodies, whatever is put where it is called
  abbrev pub AreRulesLeft : List Rule → ℕ → RulesLeft → Type 0
  AreRulesLeft rules otherwise l =
      (ι : ℕ → Option Inlined) (part : ℕ → Code) → rules_walk texts (known σ τ ι) a (rules_of part rules otherwise) ≡ rules_of (λ i. walk texts (known σ τ ι) (part i)) l.rules l.otherwise
