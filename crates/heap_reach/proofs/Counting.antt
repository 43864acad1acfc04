-- There is one count.
use Rattle.std.proofs.Common.{ℕ, List, arith}
use Rattle.rv_machine.specs.State.{State}
use Rattle.simulation.specs.Blocks.{IsAmong}
use Rattle.simulation.proofs.Weights.{weight_contained}
use Rattle.rv_run.specs.Heap.{heap_word}
use Rattle.rv_run.specs.Counted.{block_size}
use Rattle.heap_reach.specs.Laws.{CountsAreOne}
use Rattle.heap_reach.proofs.Sets.{one, weighs}

pub one_count : (arena words : ℕ) (s : State) (roots : List ℕ) → CountsAreOne arena words s roots
one_count arena words s roots n m blocks many a b =
    let size : ℕ → ℕ = λ j. block_size (heap_word arena s j) in
    let to : (j : ℕ) → IsAmong j a.numbers → IsAmong j b.numbers = λ j h. b.all j (a.reached j h) in
    let from : (j : ℕ) → IsAmong j b.numbers → IsAmong j a.numbers = λ j h. a.all j (b.reached j h) in
    let p = weight_contained (λ j. block_size (heap_word arena s j)) a.numbers b.numbers a.distinct to in
    let q = weight_contained (λ j. block_size (heap_word arena s j)) b.numbers a.numbers b.distinct from in
    let r = weight_contained one a.numbers b.numbers a.distinct to in
    let t = weight_contained one b.numbers a.numbers b.distinct from in
    let u = weighs a.numbers in
    let v = weighs b.numbers in
    let w = a.sum in
    let x = b.sum in
    let y = a.many in
    let z = b.many in
    (omega arith, omega arith)
