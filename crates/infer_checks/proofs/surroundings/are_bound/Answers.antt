use Rattle.std.proofs.Common.{rules, ◌≡◌, true, sym, ◌∙◌}
use Rattle.sml_types.specs.Poly.{is_in}
use Rattle.infer_checks.proofs.ListFacts.{all_take}
use Rattle.infer_checks.proofs.surroundings.are_bound.Goals as goal

pub names-preserved : goal.names-preserved
names-preserved c around q =
    let found : c.is_bound.result ≡ true = search rules in
    all_take (λ x. is_in around.names x ≡ true) c.args.names.now c.names.name-index 0 c.names-test.true (c.names.invariant around q) (sym (c.is_bound.ensures around q) ∙ found)
