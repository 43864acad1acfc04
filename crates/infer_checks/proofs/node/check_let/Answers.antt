use Rattle.std.proofs.Common.{◌≡◌, ◌+◌, true, false, refl, sym, ap, ◌∙◌}
use Rattle.sml_types.specs.Escape.{mentions}
use Rattle.infer_closing.specs.Closing.{meaning}
use Rattle.infer_checks.proofs.KnownFacts.{node_at}
use Rattle.infer_checks.proofs.Verdicts.{passed_of, refused_of}
use Rattle.infer_checks.proofs.node.check_let.Goals as goal

pub returns-clause-finished : goal.returns-clause-finished
returns-clause-finished c =
    let p = c.args.bare.now in
    let u = c.args.unknowns.now in
    passed_of c.is_known.result c.verdict.result _ _ c.is_known.ensures
    (λ h around q. sym (h around q ∙ ap (mentions around.type_names) (node_at p u.types c.args.starts.now (meaning u) c.forms.ensures.kept.numbered c.requires.laid c.args.node (c.args.starts.now.nodes + c.args.node) c.requires.here refl)))
    c.verdict.ensures.passed

pub returns-clause-refused : goal.returns-clause-refused
returns-clause-refused c =
    let p = c.args.bare.now in
    let u = c.args.unknowns.now in
    refused_of c.is_known.result c.verdict.result _ _ c.is_known.ensures
    (λ h around q e. let clash : false ≡ true = h around q ∙ ap (mentions around.type_names) (node_at p u.types c.args.starts.now (meaning u) c.forms.ensures.kept.numbered c.requires.laid c.args.node (c.args.starts.now.nodes + c.args.node) c.requires.here refl) ∙ e in cc)
    c.verdict.ensures.refused
