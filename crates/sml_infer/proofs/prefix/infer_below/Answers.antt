use Rattle.std.proofs.Common.{rules, ◌≡◌, ℕ, length, refl, sym, subst, ◌∙◌}
use Rattle.infer_scopes.specs.Scopes.{contexts_of}
use Rattle.infer_checks.specs.Checked.{IsChecked}
use Rattle.sml_infer.specs.Going.{now}
use Rattle.sml_infer.specs.Begun.{IsGoodPrefix}
use Rattle.sml_infer.proofs.StartFacts.{begun_going}
use Rattle.sml_infer.proofs.PassFacts.{going_as}
use Rattle.sml_infer.proofs.PrefixFacts.{is_ended}
use Rattle.sml_infer.proofs.prefix.infer_below.Goals as goal

pub run-requires-clause-prefix : goal.run-requires-clause-prefix
run-requires-clause-prefix c = subst (λ (n : ℕ). IsGoodPrefix c.args.bare.now n) (sym c.in_ok-work.ensures.below) c.in_ok-check_prefix.ensures

pub run-requires-clause-going : goal.run-requires-clause-going
run-requires-clause-going c =
    let p = c.args.bare.now in
    let d = c.in-Ok.prepared.declared in
    let w = c.in_ok-work.work in
    going_as p d (now w) c.args.count 0 0 w.count 0 0 (sym c.in_ok-work.ensures.below) refl refl (begun_going p c.args.count d c.in-Ok.prepared.unknowns w c.in-Ok.ensures.ok c.in_ok-work.ensures)

pub returns-in-Ok-finish-clause-ok : goal.returns-in-Ok-finish-clause-ok
returns-in-Ok-finish-clause-ok c =
    let p = c.args.bare.now in
    let d = c.in-Ok.prepared.declared in
    let begun = c.in_ok-work.ensures in
    let b = c.in_ok-work.work in
    let w = c.run.new.work in
    let count = c.args.count in
    let renames = c.in-Ok-finish.renames.items in
    let named : length w.settled.items ≡ length p.names = search rules in
    is_ended p count c.in_ok-limit.limit d c.in-Ok.prepared.unknowns b w renames c.in_ok-check_prefix.ensures c.in-Ok.ensures.ok begun
    (going_as p d (now w) b.count b.count (length p.nodes) count count (length p.nodes) begun.below begun.below refl c.in-Ok-run.ensures.going)
    c.in-Ok-run.ensures.kept c.in_ok-limit.ensures
    (c.are_types_below.ensures c.if-not-are_types_below.false)
    named
    (subst (λ (n : ℕ). IsChecked p d (contexts_of w.scopes) w.settled.items w.general.items w.unknowns n renames) (c.run.ensures.count ∙ begun.below) c.in-Ok-finish.ensures.checked)
