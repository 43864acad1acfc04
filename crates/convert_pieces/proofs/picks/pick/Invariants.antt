use Rattle.std.proofs.Common.{ℕ, ◌≤◌, length, drop}
use Rattle.cps_ir.specs.declared.atom.Atom.{Atom}
use Rattle.cps_ir.specs.Code.{Code}
use Rattle.convert_laws.specs.Convert.{Way, picks}
use Rattle.convert_pieces.specs.Emitted.{Emitted}
use Rattle.convert_pieces.specs.Ways.{going}
use Rattle.convert_pieces.proofs.picks.pick.Given as goal

abbrev pub invariant-loop-at : goal.invariant-loop-at
invariant-loop-at l = record {
  within : l.at ≤ length l.way;
  code : (rest : Way → Atom → ℕ → Code) → Emitted l.fn.binds l.binds (picks l.fn.way l.path l.fn.subject rest l.fn.next) (going l.way l.at (drop l.at l.path) l.reached.atom rest l.reached.next);
}
