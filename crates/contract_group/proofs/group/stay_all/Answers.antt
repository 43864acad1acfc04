use Rattle.std.proofs.Common.{ap, sym, ◌∙◌, length, ◌++◌, ◌≡◌, append-nil}
use Rattle.std.proofs.Common.{refl, []}
use Rattle.contract_group.proofs.Stays.{kept_on, bodies_on, tasks_on, pushed, not_pushed}
use Rattle.contract_group.specs.Group.{kept_front}
use Rattle.contract_group.proofs.Ends.{kept_end, bodies_end, tasks_end}
use Rattle.contract_group.proofs.group.stay_all.Goals as goal
use Rattle.contract_group.proofs.group.stay_all.Goals.{then-loop-i-test+else-i-roles, else-loop-i-test, in-Some+in_ok-push, in_default}

pub loop-i-preserved : goal.loop-i-preserved
loop-i-preserved c =
    let rs = c.args.roles.now in
    let fs = c.args.functions.now in
    let i = c.loop-i.i in
    let f = c.index-functions-i.result in
    let s = c.in_ok-function.ensures in
    let kept = c.loop-i.kept.items in
    let new : c.match-branch-2.kept.items ≡ kept ++ kept_front c.in_ok-function.field-0 [] =
    elim c.match-branch-2.branch [
      | in-Some+in_ok-push w ↦ pushed c.in_ok-function.field-0 w.in-Some.function kept c.match-branch-2.kept.items w.in-Some.is (ap (λ v. v.items) w.kept-is ∙ w.in_ok-push.ensures.items)
      | in_default w ↦ not_pushed c.in_ok-function.field-0 kept c.match-branch-2.kept.items w.in_default.is (ap (λ v. v.items) w.kept-is)
    ] in
    record {
      kept = kept_on rs fs i _ _ f _ c.loop-i.bodies.items c.stay.new.bodies.items c.loop-i-test.true c.if-i-roles.true refl c.index-functions-i.is s.bodies c.in_ok-function.field-0 kept c.match-branch-2.kept.items s.kept new ∙ c.loop-i.invariant.kept;
      bodies = bodies_on rs fs i _ _ f _ c.loop-i.bodies.items c.stay.new.bodies.items c.loop-i-test.true c.if-i-roles.true refl c.index-functions-i.is s.bodies ∙ c.loop-i.invariant.bodies;
      work = tasks_on rs fs i _ _ f _ c.loop-i.bodies.items c.stay.new.bodies.items c.loop-i-test.true c.if-i-roles.true refl c.index-functions-i.is s.bodies c.loop-i.work.items c.stay.new.work.items s.work ∙ c.loop-i.invariant.work;
    }

pub returns-clause-kept : goal.returns-clause-kept
returns-clause-kept c =
    let e = kept_end c.args.roles.now c.args.functions.now c.loop-i.i (length c.loop-i.bodies.items) in
    let k = c.loop-i.kept.items in
    sym (append-nil k)
    ∙ elim c.loop-i-test.branch [ then-loop-i-test+else-i-roles w ↦ sym (ap (λ fs. k ++ fs) (e.1 w.if-i-roles.false)) | else-loop-i-test w ↦ sym (ap (λ fs. k ++ fs) (e.0 w.loop-i-test.false)) ]
    ∙ c.loop-i.invariant.kept

pub returns-clause-bodies : goal.returns-clause-bodies
returns-clause-bodies c =
    let e = bodies_end c.args.roles.now c.args.functions.now c.loop-i.i c.loop-i.bodies.items in
    elim c.loop-i-test.branch [ then-loop-i-test+else-i-roles w ↦ sym (e.1 w.if-i-roles.false) | else-loop-i-test w ↦ sym (e.0 w.loop-i-test.false) ] ∙ c.loop-i.invariant.bodies

pub returns-clause-work : goal.returns-clause-work
returns-clause-work c =
    let e = tasks_end c.args.roles.now c.args.functions.now c.loop-i.i (length c.loop-i.bodies.items) c.loop-i.work.items in
    elim c.loop-i-test.branch [ then-loop-i-test+else-i-roles w ↦ sym (e.1 w.if-i-roles.false) | else-loop-i-test w ↦ sym (e.0 w.loop-i-test.false) ] ∙ c.loop-i.invariant.work
