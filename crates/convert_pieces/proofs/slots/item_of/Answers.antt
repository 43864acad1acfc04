use Rattle.std.proofs.Common.{sym, ◌∙◌, refl}
use Rattle.cps_ir.specs.declared.atom.Atom.TheVariants as atom
use Rattle.convert_pieces.proofs.Tuples.{none_left, passed_slot}
use Rattle.convert_pieces.proofs.slots.item_of.Goals as goal

pub returns-then-at-atoms : goal.returns-then-at-atoms
returns-then-at-atoms c = none_left c.args.parts.now c.args.atoms.now c.loop-at.at c.args.slot c.if-at-atoms.true ∙ sym c.loop-at.invariant

pub loop-at-preserved : goal.loop-at-preserved
loop-at-preserved c =
    c.loop-at.invariant ∙ passed_slot c.args.parts.now c.args.atoms.now c.loop-at.at _ c.args.slot _ (atom.Var 0) c.loop-at-test.true c.if-at-atoms.false refl c.if-slot-parts.false
