use Rattle.std.proofs.Common.{rules, ◌≡◌, true, false, ℕ, sym, ◌∙◌}
use Rattle.std.specs.Prelude.{get_or}
use Rattle.infer_closing.specs.Closing.{meaning}
use Rattle.infer_checks.specs.Ending.{IsNameKnown, IsKnownIfNamed}
use Rattle.infer_checks.proofs.ListFacts.{all_take, all_at}
use Rattle.infer_checks.proofs.KnownFacts.{name_test}
use Rattle.infer_checks.proofs.known.are_known.Goals as goal

pub returns-then-not-branch : goal.returns-then-not-branch
returns-then-not-branch c around q all =
    let u = c.args.unknowns.now in
    let p = c.args.bare.now in
    let x : ℕ = get_or c.args.names.now c.names.name-index 0 in
    let is = name_test p u.types c.args.starts.now (meaning u) c.forms.ensures.kept.numbered c.requires.laid around x c.in_ok-ty.ty.0 c.in_ok-is_known.field-0 c.in_ok-ty.ensures.0 c.in_ok-ty.ensures.1 (c.in_ok-is_known.ensures around q) in
    let no : c.in_ok-is_known.field-0 ≡ false = search rules in
    let yes = all_at (IsKnownIfNamed p (meaning u) around) c.args.names.now c.names.name-index 0 c.names-test.true all c.in_ok-ty.ensures.0 in
    let clash : false ≡ true = sym no ∙ is ∙ yes in
    cc

pub names-preserved : goal.names-preserved
names-preserved c around q =
    let u = c.args.unknowns.now in
    let p = c.args.bare.now in
    let x : ℕ = get_or c.args.names.now c.names.name-index 0 in
    let is = name_test p u.types c.args.starts.now (meaning u) c.forms.ensures.kept.numbered c.requires.laid around x c.in_ok-ty.ty.0 c.in_ok-is_known.field-0 c.in_ok-ty.ensures.0 c.in_ok-ty.ensures.1 (c.in_ok-is_known.ensures around q) in
    let yes : c.in_ok-is_known.field-0 ≡ true = search rules in
    all_take (IsNameKnown p (meaning u) around) c.args.names.now c.names.name-index 0 c.names-test.true (c.names.invariant around q) (sym is ∙ yes)
