use Rattle.expand_types.proofs.right_sides.+is_typed_fn.Given as goal

abbrev pub decreases-is_typed_fn : goal.decreases-is_typed_fn
decreases-is_typed_fn l = l.at
