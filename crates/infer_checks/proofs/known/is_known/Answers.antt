use Rattle.std.proofs.Common.{List, ℕ, ap, ◌∙◌}
use Rattle.std.specs.List.{list_all}
use Rattle.sml_types.specs.Poly.{is_in}
use Rattle.sml_unify.specs.Solved.{under}
use Rattle.infer_closing.specs.Closing.{meaning}
use Rattle.infer_checks.proofs.Mentions.{all_mentioned}
use Rattle.infer_checks.proofs.known.is_known.Goals as goal

pub returns : goal.returns
returns c around q =
    let u = c.args.unknowns.now in
    c.all_known.ensures around q
    ∙ ap (λ (ns : List ℕ). list_all (is_in around.type_names) ns) c.deref.ensures.value
    ∙ all_mentioned around.type_names c.in_ok-names.names.items (under u.types (meaning u) c.args.ty.0) c.in_ok-names.ensures
