-- The parts of the patterns stand behind them.
use Rattle.std.proofs.Common.{◌≡◌, ℕ, zero, suc, ◌+◌, ◌<◌, Bool, true, false, List, [], ◌∷◌, length, Some, refl, subst, arith}
use Rattle.std.proofs.lemmas.Bool.{ltb-true}
use Rattle.std.specs.Prelude.{slice_get, nat_lt, ◌&&◌}
use Rattle.std.specs.List.{AllByRecursion}
use Rattle.sml_tree.specs.declared.bare.Node.{Node}
use Rattle.sml_tree.specs.BareParts.{node_parts, IsNumbered}
use Rattle.middle_tests.specs.Patterns.{patterns}

abbrev behind : ℕ → ℕ → List ℕ → Bool
behind i n [] = true
behind i n (c ∷ cs) = nat_lt i c && (nat_lt c n && behind i n cs)

-- from node i on, of n nodes in all
abbrev all_behind : ℕ → ℕ → List Node → Bool
all_behind i n [] = true
all_behind i n (x ∷ nodes) = behind i n (node_parts x) && all_behind (suc i) n nodes

left : (a b : Bool) → (a && b) ≡ true → a ≡ true
left true b e = refl
left false b e = cc

right : (a b : Bool) → (a && b) ≡ true → b ≡ true
right true b e = e
right false b e = cc

are_behind : (i n : ℕ) (cs : List ℕ) → behind i n cs ≡ true → AllByRecursion (λ c. (i < c) × (c < n)) cs
are_behind i n [] h = tt
are_behind i n (c ∷ cs) h =
    let rest = right (nat_lt i c) (nat_lt c n && behind i n cs) h in
    ((ltb-true i c (left (nat_lt i c) (nat_lt c n && behind i n cs) h), ltb-true c n (left (nat_lt c n) (behind i n cs) rest)), are_behind i n cs (right (nat_lt c n) (behind i n cs) rest))

at_node : (i n : ℕ) (nodes : List Node) → all_behind i n nodes ≡ true → (k : ℕ) (x : Node) → slice_get nodes k ≡ Some x → (j : ℕ) → j ≡ k + i → AllByRecursion (λ c. (j < c) × (c < n)) (node_parts x)
at_node i n [] h k x e j s = cc
at_node i n (y ∷ nodes) h zero x e j s =
    let same : y ≡ x = cc in
    let here : i ≡ j = omega (arith, s) in
    subst (λ j. AllByRecursion (λ c. (j < c) × (c < n)) (node_parts x)) here (subst (λ x. AllByRecursion (λ c. (i < c) × (c < n)) (node_parts x)) same (are_behind i n (node_parts y) (left (behind i n (node_parts y)) (all_behind (suc i) n nodes) h)))
at_node i n (y ∷ nodes) h (suc k) x e j s = at_node (suc i) n nodes (right (behind i n (node_parts y)) (all_behind (suc i) n nodes) h) k x e j (omega (arith, s))

pub patterns_numbered : IsNumbered patterns
patterns_numbered i x e = at_node 0 (length patterns) patterns refl i x e i (omega arith)
