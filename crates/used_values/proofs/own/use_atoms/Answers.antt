use Rattle.std.proofs.Common.{refl}
use Rattle.cps_ir.specs.Free.{vars}
use Rattle.cps_free.proofs.Steps.{over_more}
use Rattle.used_values.proofs.own.use_atoms.Goals as goal

pub loop-atom-preserved : goal.loop-atom-preserved
loop-atom-preserved c =
    over_more vars c.args.atoms.now c.loop-atom.atom-index _ _ c.args.set.now.keys c.loop-atom.set.keys c.use_atom.new.set.keys c.loop-atom-test.true refl c.loop-atom.invariant c.in_ok-use_atom.ensures
