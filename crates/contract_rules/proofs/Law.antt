-- Rules one after the other.
use Rattle.std.proofs.Common.{◌≡◌, ℕ, List, [], ◌∷◌, ◌++◌, Option, Some, None, refl, sym, ap, ◌∙◌}
use Rattle.cps_ir.specs.declared.atom.Atom.{Atom}
use Rattle.cps_ir.specs.declared.atom.Test.{Test}
use Rattle.cps_ir.specs.declared.body.Rule.{Rule}
use Rattle.cps_ir.specs.Code as tree
use Rattle.cps_ir.specs.Code.{Code, Rules, Otherwise}
use Rattle.cps_ir.specs.Program.{rules_of}
use Rattle.contract_laws.specs.Contract.{Made, nothing}
use Rattle.contract_round.specs.Round.{Inlined, Known, known, tests_left, rule_left, walk, rules_walk}
use Rattle.contract_known.proofs.Law.{left_is}
use Rattle.contract_rules.specs.declared.rules.RulesLeft.{RulesLeft}
use Rattle.contract_rules.specs.Rules.{left, one_rule, rules_known}

abbrev pub behind : List Rule → RulesLeft → RulesLeft
behind rs l = left (rs ++ l.rules) l.otherwise

module _ (texts : List (List ℕ)) (σ : ℕ → Atom) (τ : ℕ → Option Made) (a : Atom) where
  module _ (ι : ℕ → Option Inlined) (part : ℕ → Code) where
    abbrev K : Known
    K = known σ τ ι

    abbrev walks : ℕ → Code
    walks i = walk texts K (part i)

    one_is : (o : Option (List Test)) (i : ℕ) (rs : Rules) (l : RulesLeft) → rs ≡ rules_of walks l.rules l.otherwise → rule_left o (walks i) rs ≡ rules_of walks (one_rule o i l).rules (one_rule o i l).otherwise
    one_is None i rs l e = e
    one_is (Some []) i rs l e = refl
    one_is (Some (t ∷ ts)) i rs l e = ap (tree.Rule (t ∷ ts) (walks i)) e

    pub rules_are : (rules : List Rule) (otherwise : ℕ) → rules_walk texts K a (rules_of part rules otherwise) ≡ rules_of walks (rules_known texts σ τ a rules otherwise).rules (rules_known texts σ τ a rules otherwise).otherwise
    rules_are [] otherwise = refl
    rules_are (r ∷ rules) otherwise =
        ap (λ o. rule_left o (walks r.body) (rules_walk texts K a (rules_of part rules otherwise))) (sym (left_is texts σ τ ι a r.tests) ∙ left_is texts σ τ nothing a r.tests)
        ∙ one_is (tests_left texts (known σ τ nothing) a r.tests) r.body (rules_walk texts K a (rules_of part rules otherwise)) (rules_known texts σ τ a rules otherwise) (rules_are rules otherwise)
