use Rattle.std.proofs.Common.{rules, ◌≡◌, true, false, subst}
use Rattle.std.specs.List.{AllByRecursion}
use Rattle.sml_tree.specs.declared.bare.Rule.{Rule}
use Rattle.infer_state.specs.Fits.{settled_at}
use Rattle.infer_state.specs.Names.{names_bound}
use Rattle.infer_closing.specs.Closing.{meaning}
use Rattle.infer_checks.specs.Ending.{Decides, AreMatchedNames, IsKnownIfNamed}
use Rattle.infer_checks.proofs.ListFacts.{all_take, all_at}
use Rattle.infer_checks.proofs.matched.are_matched.Goals as goal

pub returns-then-not-branch : goal.returns-then-not-branch
returns-then-not-branch c around q all =
    let p = c.args.bare.now in
    let m = meaning c.args.unknowns.now in
    let none : Rule = record { pat = 0; body = 0 } in
    let fails : c.in_ok-is_matched.field-0 ≡ false = search rules in
    let at = all_at (λ r. AllByRecursion (IsKnownIfNamed p m around) (names_bound p.nodes r.pat)) c.args.rules.now c.rules.rule-index none c.rules-test.true all in
    subst (Decides _ _) fails (c.in_ok-is_matched.ensures around q) at

pub rules-preserved : goal.rules-preserved
rules-preserved c around q =
    let p = c.args.bare.now in
    let m = meaning c.args.unknowns.now in
    let known = settled_at c.args.unknowns.now.types c.args.settled.now in
    let none : Rule = record { pat = 0; body = 0 } in
    let holds : c.in_ok-is_matched.field-0 ≡ true = search rules in
    all_take (λ r. AreMatchedNames p known m around (names_bound p.nodes r.pat)) c.args.rules.now c.rules.rule-index none c.rules-test.true (c.rules.invariant around q) (subst (Decides _ _) holds (c.in_ok-is_matched.ensures around q))
