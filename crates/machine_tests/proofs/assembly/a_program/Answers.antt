use Rattle.std.proofs.Common.{refl, arith}
use Rattle.rv_isa.specs.Table.{shape_of}
use Rattle.machine_tests.proofs.assembly.a_program.Goals as goal

pub ins-requires : goal.ins-requires
unfolding shape_of
ins-requires g c = rw c.i_type.ensures (omega arith, omega arith, refl, omega arith)

pub ins-requires-2 : goal.ins-requires-2
unfolding shape_of
ins-requires-2 g c = rw c.i_type-2.ensures (omega arith, omega arith, refl, omega arith)

pub ins-requires-3 : goal.ins-requires-3
unfolding shape_of
ins-requires-3 g c = rw c.s_type.ensures (refl, omega arith, omega arith, omega arith, refl)
