use Rattle.std.proofs.Common.{◌≡◌, ◌++◌, map, take}
use Rattle.emit_data.specs.Blocks.{code_words}
use Rattle.emit_data.proofs.sizes.push_functions.Given as goal

abbrev pub invariant-loop : goal.invariant-loop
invariant-loop l = l.sizes.items ≡ l.fn.sizes.items ++ map (λ f. code_words) (take l.index l.functions)
