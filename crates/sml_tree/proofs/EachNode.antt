-- What holds of each node, from the list of nodes.
use Rattle.std.proofs.Common.{◌≡◌, ℕ, zero, suc, List, [], ◌∷◌, Some, refl, sym, subst}
use Rattle.std.specs.Prelude.{slice_get, ◌<◌, length}
use Rattle.std.specs.List.{AllByRecursion}
use Rattle.sml_tree.specs.declared.bare.Node.{Node}
use Rattle.sml_tree.specs.BareParts.{node_parts, IsNumbered}
use Rattle.sml_tree.specs.IsBare.{size, InRow, IsPreorder}

-- P holds of each node and its number, from number i on
abbrev pub EachFrom : (ℕ → Node → Type 0) → ℕ → List Node → Type 0
EachFrom P i [] = Unit {0}
EachFrom P i (n ∷ nodes) = P i n × EachFrom P (suc i) nodes

each_from : (P : ℕ → Node → Type 0) (Q : ℕ → ℕ) → ((i : ℕ) → Q (suc i) ≡ suc (Q i)) → (nodes : List Node) (i : ℕ) (n : Node) → EachFrom P (Q zero) nodes → slice_get nodes i ≡ Some n → P (Q i) n
each_from P Q next [] i n h e = cc
each_from P Q next (x ∷ nodes) zero n h e = let same : x ≡ n = cc in subst (P (Q zero)) same h.0
each_from P Q next (x ∷ nodes) (suc i) n h e =
    each_from P (λ k. Q (suc k)) (λ k. next (suc k)) nodes i n (subst (λ k. EachFrom P k nodes) (sym (next zero)) h.1) e

pub each_node : (P : ℕ → Node → Type 0) (nodes : List Node) → EachFrom P 0 nodes → (i : ℕ) (n : Node) → slice_get nodes i ≡ Some n → P i n
each_node P nodes h i n e = each_from P (λ k. k) (λ k. refl) nodes i n h e

pub numbered_by_list : (nodes : List Node) → EachFrom (λ i n. AllByRecursion (λ c. (i < c) × (c < length nodes)) (node_parts n)) 0 nodes → IsNumbered nodes
numbered_by_list nodes h = each_node (λ i n. AllByRecursion (λ c. (i < c) × (c < length nodes)) (node_parts n)) nodes h

pub preorder_by_list : (nodes : List Node) → EachFrom (λ i n. InRow (size nodes) (suc i) (node_parts n)) 0 nodes → size nodes 0 ≡ length nodes → IsPreorder nodes
preorder_by_list nodes h e =
    record { parts = each_node (λ i n. InRow (size nodes) (suc i) (node_parts n)) nodes h; whole = e }
