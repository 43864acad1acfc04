use Rattle.std.proofs.Common.{◌≡◌, take, length}
use Rattle.rt_prims.specs.Text.{with_routines, order, AreFree}
use Rattle.rt_prims.proofs.text.put_routines.Given as goal

abbrev pub invariant-loop-routine : goal.invariant-loop-routine
invariant-loop-routine l = record {
  put : l.asm ≡ with_routines l.first l.fn.asm (take l.routine-index order);
  free : AreFree l.first l.routine-index l.asm;
  many : length l.asm.places ≡ length l.fn.asm.places;
}
