use Rattle.std.specs.Prelude.{take, map}
use Rattle.sml_tree.specs.Sets.{without}
use Rattle.cps_free.specs.Same.{AreSame}
use Rattle.cps_free.proofs.binds.remove_names.Given as goal

abbrev pub invariant-loop-function : goal.invariant-loop-function
invariant-loop-function l = AreSame l.set.keys (without l.fn.set.keys (map (λ f. f.name) (take l.function-index l.functions)))
