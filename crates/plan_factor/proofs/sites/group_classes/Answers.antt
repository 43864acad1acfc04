use Rattle.std.proofs.Common.{◌≡◌, subst, ap, ◌∙◌, arith}
use Rattle.std.specs.Prelude.{slice_get}
use Rattle.std.proofs.lemmas.List.{take_all}
use Rattle.std.proofs.lemmas.Result.{IfOk-weaker}
use Rattle.sml_tree.specs.Sets.{has, union_over}
use Rattle.cps_free.specs.Same.{AreSame}
use Rattle.cps_free.proofs.Sets.{sorted_ascending}
use Rattle.plan_factor.specs.Groups.{classes_at, classes_in}
use Rattle.plan_factor.proofs.Sums.{classes_more, classes_listed}
use Rattle.plan_factor.proofs.sites.group_classes.Goals as goal

pub loop-i-init : goal.loop-i-init
loop-i-init c z = ap (λ ks. has ks z) c.new-set.ensures.empty

pub loop-i-preserved : goal.loop-i-preserved
loop-i-preserved c = classes_more c.args.layouts.now c.args.group.now c.loop-i.i-index _ c.loop-i.set.keys c.insert_classes.new.set.keys c.loop-i-test.true c.loop-i.invariant c.in_ok-insert_classes.ensures

pub returns : goal.returns
returns c =
    let all : AreSame c.loop-i.set.keys (classes_in c.args.layouts.now c.args.group.now) = subst (λ is. AreSame c.loop-i.set.keys (union_over (λ j. classes_at (slice_get c.args.layouts.now j)) is)) (take_all c.loop-i.i-index c.args.group.now (omega (arith, c.loop-i-test.false))) c.loop-i.invariant in
    IfOk-weaker c.listed.result (λ r. r ≡ c.loop-i.set.keys) (λ r. r ≡ classes_in c.args.layouts.now c.args.group.now) (λ r e. e ∙ classes_listed c.args.layouts.now c.args.group.now c.loop-i.set.keys c.requires (sorted_ascending c.loop-i.set.keys c.len.ensures.ordered) all) c.listed.ensures.items
