use Rattle.std.proofs.Common.{◌≡◌, ◌*◌, ◌++◌, map, drop}
use Rattle.emit_text.specs.Text.{starts}
use Rattle.emit_data.proofs.places.block_places.Given as goal

abbrev pub invariant-loop-size : goal.invariant-loop-size
invariant-loop-size l = l.places.items ++ starts l.place (map (λ n. 2 * n) (drop l.size-index l.sizes)) ≡ starts l.start (map (λ n. 2 * n) l.sizes)
