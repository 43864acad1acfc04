use Rattle.std.proofs.Common.{nat_eq}
use Rattle.indexmap.specs.IndexMap.{get}
use Rattle.sml_unify.proofs.CopyFacts.{entry_there, entry_parts, entry_renames, copying_next, grown_then}
use Rattle.sml_unify.proofs.copies.copy_all.Goals as goal

pub add_copy-requires-clause-here : goal.add_copy-requires-clause-here
add_copy-requires-clause-here c = entry_there c.args.renames.now c.args.types.now c.args.order.now c.each.entry-index c.each.types (get nat_eq c.each.copies) c.each.invariant (record { ty = record { 0 = 0 }; head = record { 0 = 0 } }) c.each-test.true

pub add_copy-requires-clause-parts : goal.add_copy-requires-clause-parts
add_copy-requires-clause-parts c = entry_parts c.args.renames.now c.args.types.now c.args.order.now c.each.entry-index c.each.types (get nat_eq c.each.copies) c.each.invariant (record { ty = record { 0 = 0 }; head = record { 0 = 0 } }) c.each-test.true

pub add_copy-requires-clause-renames : goal.add_copy-requires-clause-renames
add_copy-requires-clause-renames c = entry_renames c.args.renames.now c.args.types.now c.args.order.now c.each.entry-index c.each.types (get nat_eq c.each.copies) c.each.invariant (record { ty = record { 0 = 0 }; head = record { 0 = 0 } }) c.each-test.true c.requires.renames

pub returns-in_err-add_copy-clause-grown : goal.returns-in_err-add_copy-clause-grown
returns-in_err-add_copy-clause-grown c =
    grown_then c.args.renames.now c.args.types.now c.each.types c.add_copy.new.types c.each.invariant.grown c.add_copy.ensures.grown

pub each-preserved : goal.each-preserved
each-preserved c =
    copying_next c.args.renames.now c.args.types.now c.args.order.now c.each.entry-index c.each.types (get nat_eq c.each.copies) c.each.invariant (record { ty = record { 0 = 0 }; head = record { 0 = 0 } }) c.each-test.true c.add_copy.new.types (get nat_eq c.add_copy.new.copies) c.in_ok-add_copy.ensures.ok c.add_copy.ensures.grown
