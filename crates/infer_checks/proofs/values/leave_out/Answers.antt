use Rattle.std.proofs.Common.{rules, ◌≡◌, true, false, length, subst}
use Rattle.std.specs.List.{AllByRecursion}
use Rattle.infer_state.specs.Fits.{settled_at}
use Rattle.infer_checks.specs.Checked.{ending}
use Rattle.infer_checks.specs.Ending.{Decides}
use Rattle.infer_checks.specs.Node.{IsLeftOut, MayBeLeftOut}
use Rattle.infer_checks.proofs.ListFacts.{all_take, all_at}
use Rattle.infer_checks.proofs.ValueFacts.{none_left_out}
use Rattle.infer_checks.proofs.values.leave_out.Goals as goal

pub returns-then-is_empty : goal.returns-then-is_empty
returns-then-is_empty c =
    let u = c.args.unknowns.now in
    let none : length c.args.tyvars.now ≡ 0 = search rules in
    none_left_out (settled_at u.types c.args.settled.now) (ending u c.args.renames.now) c.args.tyvars.now c.args.names.now none

pub returns-then-not-branch : goal.returns-then-not-branch
returns-then-not-branch c all =
    let u = c.args.unknowns.now in
    let fails : c.in_ok-leaves_out.field-0 ≡ false = search rules in
    let at = all_at (λ x. AllByRecursion (MayBeLeftOut c.args.bare.now (settled_at u.types c.args.settled.now) (ending u c.args.renames.now) x) c.args.tyvars.now) c.args.names.now c.names.name-index 0 c.names-test.true all in
    subst (Decides _ _) fails c.in_ok-leaves_out.ensures at

pub names-preserved : goal.names-preserved
names-preserved c =
    let u = c.args.unknowns.now in
    let holds : c.in_ok-leaves_out.field-0 ≡ true = search rules in
    all_take (λ x. AllByRecursion (IsLeftOut (settled_at u.types c.args.settled.now) (ending u c.args.renames.now) x) c.args.tyvars.now) c.args.names.now c.names.name-index 0 c.names-test.true c.names.invariant (subst (Decides _ _) holds c.in_ok-leaves_out.ensures)
