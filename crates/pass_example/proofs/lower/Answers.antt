use Rattle.std.proofs.Common.{sym, subst, List}
use Rattle.simulation.specs.Keeps.{Keeps}
use Rattle.pass_example.specs.declared.Instr.{Instr}
use Rattle.pass_example.specs.Frames.{run_ops}
use Rattle.pass_example.specs.Closures.{run_instrs}
use Rattle.pass_example.proofs.Simulates.{lowered_keeps}
use Rattle.pass_example.proofs.lower.Goals as goal

pub returns : goal.returns
returns c =
    subst (λ (code : List Instr). Keeps (run_ops c.args.program.now) (run_instrs code)) (sym c.in_ok-code.ensures) (lowered_keeps c.args.program.now)
