-- What a prefix asks of its nodes.
use Rattle.std.proofs.Common.{◌≡◌, ℕ, zero, suc, ◌+◌, ◌<◌, ◌≤◌, Bool, true, false, ◌&&◌, ◌⊎◌, inl, inr, List, [], ◌∷◌, length, Option, Some, refl, sym, ◌∙◌, subst, arith}
use Rattle.std.specs.Prelude.{slice_get, nat_lt}
use Rattle.std.specs.List.{AllByRecursion, list_all}
use Rattle.std.proofs.lemmas.Bool.{ltb-true}
use Rattle.std.proofs.lemmas.Option.{slice_get_within}
use Rattle.sml_tree.specs.declared.bare.Node.{Node}
use Rattle.sml_tree.specs.BareParts.{node_parts, IsNumbered}
use Rattle.infer_scopes.specs.Prefix.{near_parts, binding_parts, is_binder_at, IsGoodAt, IsPrefix}

left : (a b : Bool) → (a && b) ≡ true → a ≡ true
left true b e = refl
left false b e = cc

right : (a b : Bool) → (a && b) ≡ true → b ≡ true
right true b e = e
right false b e = cc

pub all_of : (p : ℕ → Bool) (Q : ℕ → Type 0) → ((x : ℕ) → p x ≡ true → Q x) → (xs : List ℕ) → list_all p xs ≡ true → AllByRecursion Q xs
all_of p Q f [] e = tt
all_of p Q f (x ∷ xs) e = (f x (left (p x) (list_all p xs) e), all_of p Q f xs (right (p x) (list_all p xs) e))

one_node : (o : Option Node) (n m : Node) → o ≡ Some n → o ≡ Some m → n ≡ m
one_node o n m e f = go (sym e ∙ f)
  where
    go : Some n ≡ Some m → n ≡ m
    go g = cc

module _ (nodes : List Node) (count at : ℕ) (n : Node) (here : slice_get nodes at ≡ Some n) (parts : List ℕ) (is : parts ≡ node_parts n) (between : list_all (λ c. nat_lt at c && nat_lt c (length nodes)) parts ≡ true) where
  numbered_here : (m : Node) → slice_get nodes at ≡ Some m → AllByRecursion (λ c. (at < c) × (c < length nodes)) (node_parts m)
  numbered_here m q =
      subst (λ (k : Node). AllByRecursion (λ c. (at < c) × (c < length nodes)) (node_parts k)) (one_node (slice_get nodes at) n m here q)
      (subst (AllByRecursion (λ c. (at < c) × (c < length nodes))) is (all_of (λ c. nat_lt at c && nat_lt c (length nodes)) (λ c. (at < c) × (c < length nodes)) (λ c e. (ltb-true at c (left (nat_lt at c) (nat_lt c (length nodes)) e), ltb-true c (length nodes) (right (nat_lt at c) (nat_lt c (length nodes)) e))) parts between))

  -- a node that isn't below the end
  pub good_past : count ≤ at → IsGoodAt nodes count at
  good_past past = record { numbered = numbered_here; parts = λ m l q. absurd (omega arith); binders = λ m l q. absurd (omega arith) }

  -- a node that is
  pub good_here : (near binding : List ℕ) → near ≡ near_parts n → list_all (λ c. nat_lt c count) near ≡ true → binding ≡ binding_parts n → list_all (λ c. is_binder_at (slice_get nodes c)) binding ≡ true → IsGoodAt nodes count at
  good_here near binding near_is below binding_is binders =
      record {
        numbered = numbered_here;
        parts = λ m l q.
            subst (λ (k : Node). AllByRecursion (λ c. c < count) (near_parts k)) (one_node (slice_get nodes at) n m here q)
            (subst (AllByRecursion (λ c. c < count)) near_is (all_of (λ c. nat_lt c count) (λ c. c < count) (λ c e. ltb-true c count e) near below));
        binders = λ m l q.
            subst (λ (k : Node). AllByRecursion (λ c. is_binder_at (slice_get nodes c) ≡ true) (binding_parts k)) (one_node (slice_get nodes at) n m here q)
            (subst (AllByRecursion (λ c. is_binder_at (slice_get nodes c) ≡ true)) binding_is (all_of (λ c. is_binder_at (slice_get nodes c)) (λ c. is_binder_at (slice_get nodes c) ≡ true) (λ c e. e) binding binders));
      }

last_or_before : (i n : ℕ) → i < n + 1 → (i < n) ⊎ (i ≡ n)
last_or_before zero zero l = inr refl
last_or_before zero (suc n) l = inl (omega arith)
last_or_before (suc i) zero l = absurd (omega arith)
last_or_before (suc i) (suc n) l = next (last_or_before i n (omega arith))
  where
    next : (i < n) ⊎ (i ≡ n) → (suc i < suc n) ⊎ (suc i ≡ suc n)
    next (inl h) = inl (omega arith)
    next (inr h) = inr (omega arith)

pub one_more_good : (nodes : List Node) (count at : ℕ) → ((i : ℕ) → i < at → IsGoodAt nodes count i) → IsGoodAt nodes count at → (i : ℕ) → i < at + 1 → IsGoodAt nodes count i
one_more_good nodes count at before here i l = go (last_or_before i at l)
  where
    go : (i < at) ⊎ (i ≡ at) → IsGoodAt nodes count i
    go (inl h) = before i h
    go (inr h) = subst (IsGoodAt nodes count) (sym h) here

pub all_numbered : (nodes : List Node) (count at : ℕ) → length nodes ≤ at → ((i : ℕ) → i < at → IsGoodAt nodes count i) → IsNumbered nodes
all_numbered nodes count at l all i n q = let w = slice_get_within nodes i n q in (all i (omega arith)).numbered n q

pub all_prefix : (nodes : List Node) (count at : ℕ) → length nodes ≤ at → ((i : ℕ) → i < at → IsGoodAt nodes count i) → IsPrefix nodes count
all_prefix nodes count at l all =
    record {
      parts = λ i n b q. let w = slice_get_within nodes i n q in (all i (omega arith)).parts n b q;
      binders = λ i n b q. let w = slice_get_within nodes i n q in (all i (omega arith)).binders n b q;
    }
