use Rattle.std.proofs.Common.{refl, subst, arith}
use Rattle.std.proofs.lemmas.List.{take_all}
use Rattle.variable_users.specs.Rows.{rows_of}
use Rattle.closure_layouts.specs.Tables.{AreNumbered}
use Rattle.closure_layouts.proofs.Rows.{none_numbered, class_put}
use Rattle.closure_layouts.proofs.tables.class_sets.Goals as goal

pub loop-i-init : goal.loop-i-init
loop-i-init c = none_numbered c.args.n c.in_ok-sets.sets.items c.in_ok-sets.ensures

pub loop-i-preserved : goal.loop-i-preserved
loop-i-preserved c =
    class_put c.args.classes.now c.loop-i.i c.args.n c.in_ok-number.field-0 c.items.result.now c.index-classes-i.result _ c.loop-i.sets.items c.add_class.new.sets.items c.loop-i-test.true refl c.items.ensures c.in_ok-number.ensures c.in_ok-add_class.ensures.len c.in_ok-add_class.ensures.members c.loop-i.invariant

pub returns : goal.returns
returns c = subst (λ ks. AreNumbered ks c.args.n (rows_of c.loop-i.sets.items)) (take_all c.loop-i.i c.args.classes.now (omega (arith, c.loop-i-test.false))) c.loop-i.invariant
