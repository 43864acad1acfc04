use Rattle.std.proofs.Common.{false}
use Rattle.convert_decide.specs.Decide.{item_in}
use Rattle.convert_terms.proofs.Formed.{bindings_declared, group_declared, name_declared, same_declared, nothing_declared, none_declared}
use Rattle.convert_terms.proofs.declarations.form.Goals as goal

pub returns-in_ok-task-in-Binds : goal.returns-in_ok-task-in-Binds
returns-in_ok-task-in-Binds c = bindings_declared (item_in false c.args.source.own.now) c.args.source.terms.now c.args.world.now _ c.args.binds.now _ c.args.declaration c.args.body c.args.next c.args.term.now c.in-Binds.field-0 c.args.scope c.args.continuation _ c.requires.stands c.in-Binds.is c.in_ok-task-in-Binds.ensures

pub returns-in_ok-task-in-Group : goal.returns-in_ok-task-in-Group
returns-in_ok-task-in-Group c = group_declared (item_in false c.args.source.own.now) c.args.source.terms.now c.args.world.now _ c.args.binds.now _ c.args.declaration c.args.body c.args.next c.args.term.now c.in-Group.group _ c.args.scope c.args.continuation _ c.in-Group.is c.items.ensures c.in_ok-task-in-Group.ensures

pub returns-in_ok-task-in-NewExn : goal.returns-in_ok-task-in-NewExn
returns-in_ok-task-in-NewExn c = name_declared (item_in false c.args.source.own.now) c.args.source.terms.now c.args.world.now _ c.args.binds.now _ c.args.declaration c.args.body c.args.next c.args.term.now c.in-NewExn.name c.args.scope c.args.continuation _ c.in-NewExn.is (c.in_ok-task-in-NewExn.ensures (item_in false c.args.source.own.now) c.args.source.terms.now)

pub returns-in_ok-task-in-SameExn : goal.returns-in_ok-task-in-SameExn
returns-in_ok-task-in-SameExn c = same_declared (item_in false c.args.source.own.now) c.args.source.terms.now c.args.world.now _ c.args.binds.now _ c.args.declaration c.args.body c.args.next c.args.term.now c.in-SameExn.name c.in-SameExn.constructor c.args.scope c.args.continuation _ c.in-SameExn.is (c.in_ok-task-in-SameExn.ensures (item_in false c.args.source.own.now) c.args.source.terms.now c.args.binds.now)

pub returns-in-Nothing : goal.returns-in-Nothing
returns-in-Nothing c = nothing_declared (item_in false c.args.source.own.now) c.args.source.terms.now c.args.world.now c.args.binds.now c.args.declaration c.args.body c.args.next c.args.term.now c.args.scope c.args.continuation c.in-Nothing.is

pub returns-in_default : goal.returns-in_default
returns-in_default c = none_declared (item_in false c.args.source.own.now) c.args.source.terms.now c.args.world.now c.args.binds.now c.args.declaration c.args.body c.args.next c.args.term.now c.args.scope c.args.continuation c.in_default.not-Binds c.in_default.not-Group c.in_default.not-NewExn c.in_default.not-SameExn c.in_default.not-Nothing
