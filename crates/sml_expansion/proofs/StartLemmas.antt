-- Walking back over trees, and where the trees of a list begin.
use Rattle.std.proofs.Common.{◌≡◌, ◌≢◌, ◌<◌, ◌≤◌, ℕ, zero, suc, ◌+◌, ◌-◌, List, [], ◌∷◌, ◌++◌, length, get_or, slice_get, Some, refl, sym, ap, ◌∙◌, subst, arith, ◌⊎◌, inl, inr}
use Rattle.std.proofs.lemmas.Bool.{cases_lt}
use Rattle.std.proofs.lemmas.List.{append_assoc, append-nil, get_or_append_left, length-append}
use Rattle.std.proofs.lemmas.Option.{get_or_from_slice_get}
use Rattle.std.proofs.Math.Seq.{get_or-append_seam}
use Rattle.sml_tree.specs.declared.tree_node.TreeNode.{TreeNode}
use Rattle.sml_tree.specs.Parts.{parts_of}
use Rattle.sml_expansion.specs.Starts.{before, starts_behind, starts_of}

turn : (starts : List ℕ) (c j n k : ℕ) → c ≡ suc j → n ≡ suc k → before starts c n ≡ before starts j (get_or starts k 0)
turn starts c j n k e f = ap (λ x. before starts x n) e ∙ ap (λ x. before starts (suc j) x) f

pub turned : (starts : List ℕ) (done trees n m r : ℕ) → done < trees → n ≢ 0 → m ≡ get_or starts (n - 1) 0 → before starts (trees - done) n ≡ r → before starts (trees - (done + 1)) m ≡ r
turned starts done trees n m r h z e b =
    let c : trees - done ≡ suc (trees - (done + 1)) = omega (arith, h) in
    let p : n ≡ suc (n - 1) = omega (arith, z) in
    ap (before starts (trees - (done + 1))) e ∙ sym (turn starts (trees - done) (trees - (done + 1)) n (n - 1) c p) ∙ b

-- one tree back
pub back : (starts : List ℕ) (k n j : ℕ) → slice_get starts n ≡ Some j → before starts (suc k) (suc n) ≡ before starts k j
back starts k n j h = ap (before starts k) (get_or_from_slice_get starts n j 0 h)

-- no tree begins behind its root
abbrev pub IsBounded : List ℕ → Type 0
IsBounded starts = (i : ℕ) → get_or starts i 0 ≤ i

before_bounded : (starts : List ℕ) → IsBounded starts → (k n : ℕ) → before starts k n ≤ n
before_bounded starts h zero n = omega arith
before_bounded starts h (suc k) zero = omega arith
before_bounded starts h (suc k) (suc n) =
    let a : before starts k (get_or starts n 0) ≤ get_or starts n 0 = before_bounded starts h k (get_or starts n 0) in
    let b : get_or starts n 0 ≤ n = h n in
    omega (arith, a, b)

before_prefix : (starts more : List ℕ) → IsBounded starts → (k n : ℕ) → n ≤ length starts → before (starts ++ more) k n ≡ before starts k n
before_prefix starts more h zero n w = refl
before_prefix starts more h (suc k) zero w = refl
before_prefix starts more h (suc k) (suc n) w =
    let a : n < length starts = omega (arith, w) in
    let b : get_or starts n 0 ≤ n = h n in
    let c : get_or starts n 0 ≤ length starts = omega (arith, a, b) in
    ap (before (starts ++ more) k) (get_or_append_left starts more 0 n a) ∙ before_prefix starts more h k (get_or starts n 0) c

past : (xs : List ℕ) (i : ℕ) → length xs ≤ i → get_or xs i 0 ≡ 0
past [] i h = refl
past (x ∷ xs) zero h = absurd (omega (arith, h))
past (x ∷ xs) (suc i) h = let k : length xs ≤ i = omega (arith, h) in past xs i k

bounded_one_more : (starts : List ℕ) (x : ℕ) → IsBounded starts → x ≤ length starts → IsBounded (starts ++ x ∷ [])
bounded_one_more starts x h w i = step (cases_lt i (length starts)) (cases_lt (length starts) i)
  where
    step : (i < length starts) ⊎ (length starts ≤ i) → (length starts < i) ⊎ (i ≤ length starts) → get_or (starts ++ x ∷ []) i 0 ≤ i
    step (inl a) _ = let e : get_or (starts ++ x ∷ []) i 0 ≡ get_or starts i 0 = get_or_append_left starts (x ∷ []) 0 i a in let b : get_or starts i 0 ≤ i = h i in omega (arith, e, b)
    step (inr a) (inl b) =
        let l : length (starts ++ x ∷ []) ≡ length starts + 1 = length-append starts (x ∷ []) in
        let c : length (starts ++ x ∷ []) ≤ i = omega (arith, l, b) in
        let e : get_or (starts ++ x ∷ []) i 0 ≡ 0 = past (starts ++ x ∷ []) i c in
        omega (arith, e)
    step (inr a) (inr b) =
        let same : i ≡ length starts = omega (arith, a, b) in
        let e : get_or (starts ++ x ∷ []) i 0 ≡ x = ap (λ k. get_or (starts ++ x ∷ []) k 0) same ∙ get_or-append_seam starts x [] 0 in
        omega (arith, e, w, a)

-- The numbers behind those that are known, and what they say of each node.
pub record IsKnown (known : List ℕ) (nodes : List TreeNode) : Type 0 where
  pub more : List ℕ
  pub are : starts_behind known nodes ≡ known ++ more
  pub says : (i : ℕ) (n : TreeNode) → slice_get nodes i ≡ Some n → slice_get (known ++ more) (length known + i) ≡ Some (before (known ++ more) (parts_of n) (length known + i))

at_seam : (xs : List ℕ) (y : ℕ) (ys : List ℕ) → slice_get (xs ++ y ∷ ys) (length xs + 0) ≡ Some y
at_seam [] y ys = refl
at_seam (x ∷ xs) y ys =
    let e : suc (length xs) + 0 ≡ suc (length xs + 0) = omega arith in
    ap (slice_get (x ∷ xs ++ y ∷ ys)) e ∙ at_seam xs y ys

abbrev Says : List ℕ → ℕ → ℕ → Type 0
Says starts k i = slice_get starts i ≡ Some (before starts k i)

says_here : (known more : List ℕ) (k : ℕ) → IsBounded known → Says (known ++ before known k (length known) ∷ more) k (length known + 0)
says_here known more k h =
    let e : length known ≡ length known + 0 = omega arith in
    let w : length known ≤ length known = omega arith in
    at_seam known (before known k (length known)) more
    ∙ ap Some (sym (before_prefix known (before known k (length known) ∷ more) h k (length known) w) ∙ ap (before (known ++ before known k (length known) ∷ more) k) e)

says_behind : (known more : List ℕ) (x k i : ℕ) → Says ((known ++ x ∷ []) ++ more) k (length (known ++ x ∷ []) + i) → Says (known ++ x ∷ more) k (length known + suc i)
says_behind known more x k i s =
    let l : length (known ++ x ∷ []) ≡ length known + 1 = length-append known (x ∷ []) in
    let e : length (known ++ x ∷ []) + i ≡ length known + suc i = omega (arith, l) in
    subst (λ j. Says (known ++ x ∷ more) k j) e (subst (λ starts. Says starts k (length (known ++ x ∷ []) + i)) (append_assoc known (x ∷ []) more) s)

says_all : (known more : List ℕ) (n : TreeNode) (nodes : List TreeNode) → IsBounded known
    → ((i : ℕ) (m : TreeNode) → slice_get nodes i ≡ Some m → Says ((known ++ before known (parts_of n) (length known) ∷ []) ++ more) (parts_of m) (length (known ++ before known (parts_of n) (length known) ∷ []) + i))
    → (i : ℕ) (m : TreeNode) → slice_get (n ∷ nodes) i ≡ Some m → Says (known ++ before known (parts_of n) (length known) ∷ more) (parts_of m) (length known + i)
says_all known more n nodes h says zero m e =
    let same : n ≡ m = cc in
    subst (λ o. Says (known ++ before known (parts_of n) (length known) ∷ more) (parts_of o) (length known + 0)) same (says_here known more (parts_of n) h)
says_all known more n nodes h says (suc i) m e = says_behind known more (before known (parts_of n) (length known)) (parts_of m) i (says i m e)

known_one : (known : List ℕ) (n : TreeNode) (nodes : List TreeNode) → IsBounded known → IsKnown (known ++ before known (parts_of n) (length known) ∷ []) nodes → IsKnown known (n ∷ nodes)
known_one known n nodes h k = record {
  more = before known (parts_of n) (length known) ∷ k.more;
  are = k.are ∙ append_assoc known (before known (parts_of n) (length known) ∷ []) k.more;
  says = says_all known k.more n nodes h k.says;
}

known_none : (known : List ℕ) → IsKnown known []
known_none known = record { more = []; are = sym (append-nil known); says = λ i n e. no_node i n e }
  where
    no_node : (i : ℕ) (n : TreeNode) → slice_get {X = TreeNode} [] i ≡ Some n → Says (known ++ []) (parts_of n) (length known + i)
    no_node zero n e = cc
    no_node (suc i) n e = cc

all_known : (known : List ℕ) (nodes : List TreeNode) → IsBounded known → IsKnown known nodes
all_known known [] h = known_none known
all_known known (n ∷ nodes) h =
    let w : length known ≤ length known = omega arith in
    let b : before known (parts_of n) (length known) ≤ length known = before_bounded known h (parts_of n) (length known) in
    known_one known n nodes h (all_known (known ++ before known (parts_of n) (length known) ∷ []) nodes (bounded_one_more known (before known (parts_of n) (length known)) h b))

nothing_bounded : IsBounded []
nothing_bounded zero = omega arith
nothing_bounded (suc i) = omega arith

bounded_behind : (known : List ℕ) (nodes : List TreeNode) → IsBounded known → IsBounded (starts_behind known nodes)
bounded_behind known [] h = h
bounded_behind known (n ∷ nodes) h =
    let b : before known (parts_of n) (length known) ≤ length known = before_bounded known h (parts_of n) (length known) in
    bounded_behind (known ++ before known (parts_of n) (length known) ∷ []) nodes (bounded_one_more known (before known (parts_of n) (length known)) h b)

pub starts_bounded : (nodes : List TreeNode) → IsBounded (starts_of nodes)
starts_bounded nodes = bounded_behind [] nodes nothing_bounded

-- what the number of nodes before each node's tree is, by the same numbers
pub says_starts : (nodes : List TreeNode) (i : ℕ) (n : TreeNode) → slice_get nodes i ≡ Some n → slice_get (starts_of nodes) i ≡ Some (before (starts_of nodes) (parts_of n) i)
says_starts nodes i n e =
    let k : IsKnown [] nodes = all_known [] nodes nothing_bounded in
    let z : 0 + i ≡ i = omega arith in
    subst (λ starts. Says starts (parts_of n) i) (sym k.are) (subst (λ j. Says k.more (parts_of n) j) z (k.says i n e))
