use Rattle.std.proofs.Common.{List, sym, subst}
use Rattle.std.specs.List.{AllByRecursion}
use Rattle.sml_tree.specs.declared.bare.Rule.{Rule}
use Rattle.infer_state.specs.Fits.{settled_at}
use Rattle.infer_state.specs.Names.{names_bound}
use Rattle.infer_closing.specs.Closing.{meaning}
use Rattle.infer_checks.specs.Ending.{AreMatchedNames, IsKnownIfNamed}
use Rattle.infer_checks.proofs.Verdicts.{passed_of, refused_of}
use Rattle.infer_checks.proofs.node.check_rules.Goals as goal

pub returns-clause-finished : goal.returns-clause-finished
returns-clause-finished c =
    let p = c.args.bare.now in
    let u = c.args.unknowns.now in
    passed_of c.are_matched.result c.verdict.result _ _ c.are_matched.ensures
    (λ h around q. subst (λ (rules : List Rule). AllByRecursion (λ r. AreMatchedNames p (settled_at u.types c.args.settled.now) (meaning u) around (names_bound p.nodes r.pat)) rules) c.items-all.ensures (h around q))
    c.verdict.ensures.passed

pub returns-clause-refused : goal.returns-clause-refused
returns-clause-refused c =
    let p = c.args.bare.now in
    let u = c.args.unknowns.now in
    refused_of c.are_matched.result c.verdict.result _ _ c.are_matched.ensures
    (λ h around q known. h around q (subst (λ (rules : List Rule). AllByRecursion (λ r. AllByRecursion (IsKnownIfNamed p (meaning u) around) (names_bound p.nodes r.pat)) rules) (sym c.items-all.ensures) known))
    c.verdict.ensures.refused
