use Rattle.std.specs.Prelude.{take}
use Rattle.sml_tree.specs.Sets.{union}
use Rattle.cps_ir.specs.Free.{vars_all}
use Rattle.cps_free.specs.Same.{AreSame}
use Rattle.cps_free.proofs.binds.use_atoms.Given as goal

abbrev pub invariant-loop-atom : goal.invariant-loop-atom
invariant-loop-atom l = AreSame l.set.keys (union (vars_all (take l.atom-index l.atoms)) l.fn.set.keys)
