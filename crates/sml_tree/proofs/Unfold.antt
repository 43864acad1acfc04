-- What is defined from the parts up holds of a node by its parts.
use Rattle.std.proofs.Common.{◌≡◌, ℕ, zero, suc, ◌+◌, ◌<◌, ◌≤◌, List, [], ◌∷◌, Option, Some, None, length, refl, sym, subst, arith}
use Rattle.std.specs.Prelude.{slice_get}
use Rattle.std.specs.List.{AllByRecursion}
use Rattle.std.proofs.lemmas.Option.{slice_get_past}
use Rattle.sml_tree.specs.declared.bare.Node.{Node}
use Rattle.sml_tree.specs.BareParts.{node_parts, IsNumbered, at_node, within, from_parts}

-- each item has the one fact, where each has the other
pub all_map : {A : Type 0} {P Q : A → Type 0} → ((x : A) → P x → Q x) → (xs : List A) → AllByRecursion P xs → AllByRecursion Q xs
all_map f [] h = tt
all_map f (x ∷ xs) h = (f x h.0, all_map f xs h.1)

-- What `each` makes of a node is the same for parts that are the same, where `Same` may be equality, or equality at each argument.
module _ {A : Type 0} (none : A) (each : (ℕ → A) → ℕ → Node → A) (Same : A → A → Type 0) (same_none : Same none none) (only_parts : (f g : ℕ → A) (i : ℕ) (n : Node) → AllByRecursion (λ c. Same (f c) (g c)) (node_parts n) → Same (each f i n) (each g i n)) (nodes : List Node) (numbered : IsNumbered nodes) where
  -- past the last node there is none
  past_left : (f : ℕ → A) (i : ℕ) → length nodes ≤ i → Same none (at_node none each f i (slice_get nodes i))
  past_left f i h = subst (λ o. Same none (at_node none each f i o)) (sym (slice_get_past nodes i h)) same_none

  past_right : (f : ℕ → A) (i : ℕ) → length nodes ≤ i → Same (at_node none each f i (slice_get nodes i)) none
  past_right f i h = subst (λ o. Same (at_node none each f i o) none) (sym (slice_get_past nodes i h)) same_none

  -- a node is as its parts are
  same_at : (f g : ℕ → A) (i : ℕ) → ((c : ℕ) → i < c → Same (f c) (g c)) → Same (at_node none each f i (slice_get nodes i)) (at_node none each g i (slice_get nodes i))
  same_at f g i same = go (slice_get nodes i) refl
    where
      go : (o : Option Node) → slice_get nodes i ≡ o → Same (at_node none each f i o) (at_node none each g i o)
      go None e = same_none
      go (Some n) e = only_parts f g i n (all_map (λ c h. same c h.0) (node_parts n) (numbered i n e))

  enough : (k m i : ℕ) → length nodes ≤ k + i → length nodes ≤ m + i → Same (within none each k nodes i) (within none each m nodes i)
  enough zero zero i hk hm = same_none
  enough zero (suc m) i hk hm = past_left (within none each m nodes) i (omega arith)
  enough (suc k) zero i hk hm = past_right (within none each k nodes) i (omega arith)
  enough (suc k) (suc m) i hk hm =
      same_at (within none each k nodes) (within none each m nodes) i (λ c h. enough k m c (omega arith) (omega arith))

  pub by_parts : (i : ℕ) → Same (from_parts none each nodes i) (at_node none each (from_parts none each nodes) i (slice_get nodes i))
  by_parts i = enough (length nodes) (suc (length nodes)) i (omega arith) (omega arith)
