-- Where the trees of a forest stand among numbered nodes.
use Rattle.std.proofs.Common.{◌≡◌, ℕ, suc, ◌<◌, ◌≤◌, ◌+◌, List, [], ◌∷◌, ◌++◌, length, refl, sym, ap, subst, ◌∙◌, Some, arith}
use Rattle.std.specs.Prelude.{slice_get}
use Rattle.std.specs.List.{AllByRecursion}
use Rattle.std.proofs.lemmas.List.{length-append, append_assoc, append-nil}
use Rattle.smlc_base.specs.declared.place.Place.{Place}
use Rattle.sml_tree.specs.declared.bare.Node.{Node}
use Rattle.sml_tree.specs.BareParts.{node_parts, IsNumbered, at_node}
use Rattle.sml_tree.specs.IsBare as spec
use Rattle.sml_tree.specs.IsBare.{InRow, IsPreorder, size_of, sum_of}
use Rattle.sml_tree.proofs.EachNode.{EachFrom, numbered_by_list, preorder_by_list}
use Rattle.sml_tree.proofs.Unfold.{by_parts}
use Rattle.sml_expansion.specs.Forests.{Forest, none, tree, grown, size, roots, numbered, places, with_parts}

-- the nodes from number i on are those of the forest
abbrev pub At : List Node → ℕ → Forest → Type 0
At nodes i none = Unit {0}
At nodes i (tree n p parts rest) = (slice_get nodes i ≡ Some (with_parts n (roots (suc i) parts))) × At nodes (suc i) parts × At nodes (suc (i + size parts)) rest

pub how_many : (i : ℕ) (f : Forest) → length (numbered i f) ≡ size f
how_many i none = refl
how_many i (tree n p parts rest) =
    let a = how_many (suc i) parts in let b = how_many (suc (i + size parts)) rest in
    let c = length-append (numbered (suc i) parts) (numbered (suc (i + size parts)) rest) in
    ap suc (c ∙ ap (λ x. x + length (numbered (suc (i + size parts)) rest)) a ∙ ap (λ x. size parts + x) b)

pub how_many_places : (f : Forest) → length (places f) ≡ size f
how_many_places none = refl
how_many_places (tree n p parts rest) =
    let a = how_many_places parts in let b = how_many_places rest in
    ap suc (length-append (places parts) (places rest) ∙ ap (λ x. x + length (places rest)) a ∙ ap (λ x. size parts + x) b)

get_middle : (front : List Node) (n : Node) (back : List Node) → slice_get (front ++ n ∷ back) (length front) ≡ Some n
get_middle [] n back = refl
get_middle (x ∷ front) n back = get_middle front n back

at_cut : (front : List Node) (f : Forest) (back : List Node) (i : ℕ) → length front ≡ i → At (front ++ (numbered i f ++ back)) i f
at_cut front none back i e = tt
at_cut front (tree n p parts rest) back i e =
    let x = with_parts n (roots (suc i) parts) in
    let j = suc (i + size parts) in
    let whole = front ++ (x ∷ ((numbered (suc i) parts ++ numbered j rest) ++ back)) in
    let e1 : length (front ++ x ∷ []) ≡ suc i = length-append front (x ∷ []) ∙ (omega (arith, e)) in
    let lp = how_many (suc i) parts in
    let e2 : length ((front ++ x ∷ []) ++ numbered (suc i) parts) ≡ j = length-append (front ++ x ∷ []) (numbered (suc i) parts) ∙ (omega (arith, e1, lp)) in (
      subst (λ k. slice_get whole k ≡ Some x) e (get_middle front x ((numbered (suc i) parts ++ numbered j rest) ++ back)),
      subst (λ l. At l (suc i) parts)
          (append_assoc front (x ∷ []) (numbered (suc i) parts ++ (numbered j rest ++ back)) ∙ ap (λ l. front ++ (x ∷ l)) (sym (append_assoc (numbered (suc i) parts) (numbered j rest) back)))
          (at_cut (front ++ x ∷ []) parts (numbered j rest ++ back) (suc i) e1),
      subst (λ l. At l j rest)
          (append_assoc (front ++ x ∷ []) (numbered (suc i) parts) (numbered j rest ++ back) ∙ append_assoc front (x ∷ []) (numbered (suc i) parts ++ (numbered j rest ++ back)) ∙ ap (λ l. front ++ (x ∷ l)) (sym (append_assoc (numbered (suc i) parts) (numbered j rest) back)))
          (at_cut ((front ++ x ∷ []) ++ numbered (suc i) parts) rest back j e2),
    )

-- the numbered nodes of a forest are where they are numbered
pub at_whole : (f : Forest) → At (numbered 0 f) 0 f
at_whole f = subst (λ l. At l 0 f) (append-nil (numbered 0 f)) (at_cut [] f [] 0 refl)

-- ---- What holds of each node

abbrev pub EachTree : (ℕ → Node → Type 0) → ℕ → Forest → Type 0
EachTree P i none = Unit {0}
EachTree P i (tree n p parts rest) = P i (with_parts n (roots (suc i) parts)) × EachTree P (suc i) parts × EachTree P (suc (i + size parts)) rest

each_append : (P : ℕ → Node → Type 0) (i : ℕ) (xs ys : List Node) → EachFrom P i xs → EachFrom P (i + length xs) ys → EachFrom P i (xs ++ ys)
each_append P i [] ys a b = let e : i + 0 ≡ i = omega arith in subst (λ j. EachFrom P j ys) e b
each_append P i (x ∷ xs) ys a b = let e : i + suc (length xs) ≡ suc i + length xs = omega arith in (a.0, each_append P (suc i) xs ys a.1 (subst (λ j. EachFrom P j ys) e b))

pub each_numbered : (P : ℕ → Node → Type 0) (i : ℕ) (f : Forest) → EachTree P i f → EachFrom P i (numbered i f)
each_numbered P i none h = tt
each_numbered P i (tree n p parts rest) h =
    let l = how_many (suc i) parts in
    let e : suc (i + size parts) ≡ suc i + length (numbered (suc i) parts) = omega (arith, l) in
    (h.0, each_append P (suc i) (numbered (suc i) parts) (numbered (suc (i + size parts)) rest) (each_numbered P (suc i) parts h.1) (subst (λ j. EachFrom P j (numbered (suc (i + size parts)) rest)) e (each_numbered P (suc (i + size parts)) rest h.2)))

pub all_numbered : (P : Node → Type 0) (i : ℕ) (f : Forest) → EachTree (λ j n. P n) i f → AllByRecursion P (numbered i f)
all_numbered P i f h = go (numbered i f) i (each_numbered (λ j n. P n) i f h)
  where
    go : (xs : List Node) (i : ℕ) → EachFrom (λ j n. P n) i xs → AllByRecursion P xs
    go [] i h = tt
    go (x ∷ xs) i h = (h.0, go xs (suc i) h.1)

-- ---- Each node has its parts

abbrev pub Fits : Node → Forest → Type 0
Fits n parts = (j : ℕ) → node_parts (with_parts n (roots j parts)) ≡ roots j parts

abbrev pub Fit : Forest → Type 0
Fit none = Unit {0}
Fit (tree n p parts rest) = Fits n parts × Fit parts × Fit rest

roots_in : (j : ℕ) (f : Forest) (from to : ℕ) → from ≤ j → j + size f ≤ to → AllByRecursion (λ c. (from ≤ c) × (c < to)) (roots j f)
roots_in j none from to a b = tt
roots_in j (tree n p parts rest) from to a b = ((a, (omega (arith, b))), roots_in (suc (j + size parts)) rest from to (omega (arith, a)) (omega (arith, b)))

numbered_trees : (i : ℕ) (f : Forest) (to : ℕ) → i + size f ≤ to → Fit f → EachTree (λ i n. AllByRecursion (λ c. (i < c) × (c < to)) (node_parts n)) i f
numbered_trees i none to le h = tt
numbered_trees i (tree n p parts rest) to le h = (
  subst (AllByRecursion (λ c. (i < c) × (c < to))) (sym (h.0 (suc i))) (roots_in (suc i) parts (suc i) to (omega arith) (omega (arith, le))),
  numbered_trees (suc i) parts to (omega (arith, le)) h.1,
  numbered_trees (suc (i + size parts)) rest to (omega (arith, le)) h.2,
)

pub is_numbered : (f : Forest) → Fit f → IsNumbered (numbered 0 f)
is_numbered f h =
    let l = how_many 0 f in
    numbered_by_list (numbered 0 f) (each_numbered _ 0 f (numbered_trees 0 f (length (numbered 0 f)) (omega (arith, l)) h))

module _ (nodes : List Node) (num : IsNumbered nodes) where
  same_parts : (f g : ℕ → ℕ) (i : ℕ) (n : Node) → AllByRecursion (λ c. f c ≡ g c) (node_parts n) → size_of f i n ≡ size_of g i n
  same_parts f g i n h = ap suc (go (node_parts n) h)
    where
      go : (cs : List ℕ) → AllByRecursion (λ c. f c ≡ g c) cs → sum_of f cs ≡ sum_of g cs
      go [] h = refl
      go (c ∷ cs) h = ap (λ x. x + sum_of f cs) h.0 ∙ ap (λ x. g c + x) (go cs h.1)

  sizes : (i : ℕ) (f : Forest) → At nodes i f → Fit f → (sum_of (spec.size nodes) (roots i f) ≡ size f) × InRow (spec.size nodes) i (roots i f)
  sizes i none a h = (refl, tt)
  sizes i (tree n p parts rest) a h =
      let inner = sizes (suc i) parts a.1 h.1 in
      let outer = sizes (suc (i + size parts)) rest a.2 h.2 in
      let own : spec.size nodes i ≡ suc (size parts) =
      by_parts 0 size_of (λ (x y : ℕ). x ≡ y) refl same_parts nodes num i
      ∙ ap (at_node 0 size_of (spec.size nodes) i) a.0
      ∙ ap (λ cs. suc (sum_of (spec.size nodes) cs)) (h.0 (suc i))
      ∙ ap suc inner.0 in
      let next : suc (i + size parts) ≡ i + spec.size nodes i = omega (arith, own) in (
        ap (λ x. x + sum_of (spec.size nodes) (roots (suc (i + size parts)) rest)) own ∙ ap (λ x. suc (size parts) + x) outer.0 ∙ (omega arith),
        (refl, subst (λ j. InRow (spec.size nodes) j (roots (suc (i + size parts)) rest)) next outer.1),
      )

  preorder_trees : (i : ℕ) (f : Forest) → At nodes i f → Fit f → EachTree (λ i n. InRow (spec.size nodes) (suc i) (node_parts n)) i f
  preorder_trees i none a h = tt
  preorder_trees i (tree n p parts rest) a h =
      (subst (InRow (spec.size nodes) (suc i)) (sym (h.0 (suc i))) (sizes (suc i) parts a.1 h.1).1, preorder_trees (suc i) parts a.1 h.1, preorder_trees (suc (i + size parts)) rest a.2 h.2)

-- one tree is numbered in preorder
pub is_preorder : (n : Node) (p : Place) (parts : Forest) → Fit (grown n p parts) → IsPreorder (numbered 0 (grown n p parts))
is_preorder n p parts h =
    let f = grown n p parts in
    let num = is_numbered f h in
    let s = (sizes (numbered 0 f) num 0 f (at_whole f) h).0 in
    let l = how_many 0 f in
    preorder_by_list (numbered 0 f) (each_numbered _ 0 f (preorder_trees (numbered 0 f) num 0 f (at_whole f) h)) (omega (arith, s, l))
