use Rattle.std.proofs.Common.{◌≡◌, suc, ℕ, ◌+◌, ◌∷◌, [], ◌++◌, List, take, refl, ap, ◌∙◌, subst, arith}
use Rattle.std.specs.Prelude.{get_or}
use Rattle.std.proofs.Math.Seq.{take-suc}
use Rattle.sml_tree.specs.declared.bare.Rule.{Rule}
use Rattle.sml_types.specs.Tree.{Variable}
use Rattle.infer_state.specs.Fits.{settled_at}
use Rattle.infer_state.specs.Names.{names_bound, names_of_rules}
use Rattle.infer_closing.specs.Settling.{AreNewly}
use Rattle.infer_closing.proofs.GrowFacts.{grows_then, polys_kept, newly_then}
use Rattle.infer_closing.proofs.MatchFacts.{rules_end}
use Rattle.infer_closing.proofs.matched.settle_rules.Goals as goal

pub rules-preserved : goal.rules-preserved
rules-preserved c =
    let none : Rule = record { pat = 0; body = 0 } in
    let xs = c.args.rules.now in
    let i = c.rules.rule-index in
    let r : Rule = get_or xs i none in
    let p = c.args.bare.now in
    let u = c.args.unknowns.now in
    let old = c.args.settled.now.items in
    let mid = c.rules.settled.items in
    let new = c.settle_all.new.settled.items in
    let next : i + 1 ≡ suc i = omega arith in
    let taken : take (i + 1) xs ≡ take i xs ++ r ∷ [] = ap (λ k. take k xs) next ∙ take-suc xs i none c.rules-test.true in
    let e = c.in_ok-settle_all.ensures in
    let names = c.deref.ensures.value ∙ c.in_ok-names.ensures in
    record {
      grown = grows_then u u u old mid new c.rules.invariant.grown e.grown;
      newly =
          newly_then
          p
          Variable
          Variable
          (settled_at u.types old)
          (settled_at u.types mid)
          (settled_at u.types new)
          []
          (names_of_rules p.nodes (take i xs))
          (names_bound p.nodes r.pat)
          (names_of_rules p.nodes (take (i + 1) xs))
          (ap (names_of_rules p.nodes) taken ∙ rules_end p.nodes (take i xs) r)
          (λ v. refl)
          (polys_kept u u mid new e.grown c.rules.invariant.grown.there)
          c.rules.invariant.newly
          (subst (λ (ns : List ℕ). AreNewly p Variable (settled_at u.types mid) (settled_at u.types new) [] ns) names e.newly);
    }
