-- Sums of weights over lists without doubles.
use Rattle.std.proofs.Common.{◌≡◌, ℕ, ◌+◌, ◌≤◌, List, [], ◌∷◌, ◌++◌, map, ◌⊎◌, inl, inr, refl, sym, ap, ◌∙◌, subst, arith, ⊎_elim}
use Rattle.simulation.specs.Blocks.{IsAmong}
use Rattle.simulation.specs.Words.{IsDistinct, weight}
use Rattle.simulation.proofs.Lists.{among_append, among_map}

-- a list with one element less
record IsWithout {X : Type 0} (x : X) (ys rest : List X) (w : X → ℕ) : Type 0 where
  sum : weight w ys ≡ w x + weight w rest
  others : (y : X) → IsAmong y ys → (y ≡ x → ⊥) → IsAmong y rest

without : {X : Type 0} (w : X → ℕ) (x : X) (ys : List X) → IsAmong x ys → (rest : List X) × IsWithout x ys rest w
without w x [] h = absurd h
without w x (y ∷ ys) (inl e) = (
  ys,
  record {
    sum = ap (λ t. w t + weight w ys) (sym e);
    others = λ z i n. ⊎_elim (λ (q : z ≡ y). absurd (n (q ∙ sym e))) (λ (q : IsAmong z ys). q) i;
  },
)
without w x (y ∷ ys) (inr h) =
    let r = without w x ys h in (
      y ∷ r.0,
      record {
        sum = omega (arith, r.1.sum);
        others = λ z i n. ⊎_elim (λ (q : z ≡ y). inl q) (λ (q : IsAmong z ys). inr (r.1.others z q n)) i;
      },
    )

-- distinct elements of another list weigh no more than that list
pub weight_contained : {X : Type 0} (w : X → ℕ) (xs ys : List X) → IsDistinct xs → ((x : X) → IsAmong x xs → IsAmong x ys) → weight w xs ≤ weight w ys
weight_contained w [] ys d h = omega arith
weight_contained w (x ∷ xs) ys d h =
    let r = without w x ys (h x (inl refl)) in
    let i = weight_contained w xs r.0 d.1 (λ y m. r.1.others y (h y (inr m)) (λ e. d.0 (subst (λ t. IsAmong t xs) e m))) in
    omega (arith, r.1.sum, i)

distinct_map : {X Y : Type 0} (f : X → Y) (xs : List X) → IsDistinct xs → ((x y : X) → IsAmong x xs → IsAmong y xs → f x ≡ f y → x ≡ y) → IsDistinct (map f xs)
distinct_map f [] d h = tt
distinct_map f (x ∷ xs) d h =
    (λ i. let j = among_map f (f x) xs i in d.0 (subst (λ t. IsAmong t xs) (sym (h x j.0 (inl refl) (inr j.1) j.2)) j.1), distinct_map f xs d.1 (λ a b m n. h a b (inr m) (inr n)))

weight_map : {X Y : Type 0} (f : X → Y) (v : X → ℕ) (w : Y → ℕ) (xs : List X) → ((x : X) → IsAmong x xs → v x ≤ w (f x)) → weight v xs ≤ weight w (map f xs)
weight_map f v w [] h = omega arith
weight_map f v w (x ∷ xs) h =
    let i = weight_map f v w xs (λ y m. h y (inr m)) in omega (arith, h x (inl refl), i)

-- If keys tell distinct things apart, lie in a list, and weigh at least what the things do, the list weighs no less than all of them.
pub weight_keys : {X Y : Type 0} (key : X → Y) (v : X → ℕ) (w : Y → ℕ) (xs : List X) (ys : List Y) → IsDistinct xs → ((x y : X) → IsAmong x xs → IsAmong y xs → key x ≡ key y → x ≡ y) → ((x : X) → IsAmong x xs → IsAmong (key x) ys) → ((x : X) → IsAmong x xs → v x ≤ w (key x)) → weight v xs ≤ weight w ys
weight_keys key v w xs ys d one in_ys less =
    let a = weight_map key v w xs less in
    let b = weight_contained w (map key xs) ys (distinct_map key xs d one) (λ y m. let i = among_map key y xs m in subst (λ t. IsAmong t ys) (sym i.2) (in_ys i.0 i.1)) in
    omega (arith, a, b)

-- ---- Lists in parts

pub weight-append : {X : Type 0} (w : X → ℕ) (xs ys : List X) → weight w (xs ++ ys) ≡ weight w xs + weight w ys
weight-append w [] ys = omega arith
weight-append w (x ∷ xs) ys = let e = weight-append w xs ys in omega arith

-- the elements of the one kind, and those of the other
pub record Parted {X : Type 0} (P Q : X → Type 0) (w : X → ℕ) (zs : List X) : Type 0 where
  pub left : List X
  pub right : List X
  pub sum : weight w zs ≡ weight w left + weight w right
  pub left_distinct : IsDistinct left
  pub right_distinct : IsDistinct right
  pub left_all : (z : X) → IsAmong z left → P z × IsAmong z zs
  pub right_all : (z : X) → IsAmong z right → Q z × IsAmong z zs

pub parted : {X : Type 0} (P Q : X → Type 0) (w : X → ℕ) (zs : List X) → IsDistinct zs → ((z : X) → IsAmong z zs → P z ⊎ Q z) → Parted P Q w zs
parted P Q w [] d h = record { left = []; right = []; sum = refl; left_distinct = tt; right_distinct = tt; left_all = λ z m. absurd m; right_all = λ z m. absurd m }
parted {X} P Q w (z ∷ zs) d h =
    let r = parted P Q w zs d.1 (λ y m. h y (inr m)) in
    ⊎_elim
    (λ (p : P z). record {
      left = z ∷ r.left;
      right = r.right;
      sum = let e = r.sum in omega arith;
      left_distinct = (λ m. d.0 (r.left_all z m).1, r.left_distinct);
      right_distinct = r.right_distinct;
      left_all = λ y m. ⊎_elim (λ (e : y ≡ z). (subst P (sym e) p, inl e)) (λ (i : IsAmong y r.left). let a = r.left_all y i in (a.0, inr a.1)) m;
      right_all = λ y m. let a = r.right_all y m in (a.0, inr a.1);
    })
    (λ (q : Q z). record {
      left = r.left;
      right = z ∷ r.right;
      sum = let e = r.sum in omega arith;
      left_distinct = r.left_distinct;
      right_distinct = (λ m. d.0 (r.right_all z m).1, r.right_distinct);
      left_all = λ y m. let a = r.left_all y m in (a.0, inr a.1);
      right_all = λ y m. ⊎_elim (λ (e : y ≡ z). (subst Q (sym e) q, inl e)) (λ (i : IsAmong y r.right). let a = r.right_all y i in (a.0, inr a.1)) m;
    })
    (h z (inl refl))

-- If each x belongs to some y, and what belongs to a y weighs no more than it, all x weigh no more than all y.
pub weight_groups : {X Y : Type 0} (v : X → ℕ) (w : Y → ℕ) (Belongs : X → Y → Type 0) (ys : List Y) (xs : List X) → IsDistinct xs → ((x : X) → IsAmong x xs → (y : Y) × IsAmong y ys × Belongs x y) → ((y : Y) → IsAmong y ys → (zs : List X) → IsDistinct zs → ((z : X) → IsAmong z zs → Belongs z y) → weight v zs ≤ w y) → weight v xs ≤ weight w ys
weight_groups v w Belongs [] [] d each group = omega arith
weight_groups v w Belongs [] (x ∷ xs) d each group = absurd (each x (inl refl)).1
weight_groups {X} {Y} v w Belongs (y ∷ ys) xs d each group =
    let r = parted (λ x. Belongs x y) (λ x. (u : Y) × IsAmong u ys × Belongs x u) v xs d (λ x m.
    let e = each x m in
    ⊎_elim (λ (q : e.0 ≡ y). inl (subst (λ u. Belongs x u) q e.2)) (λ (q : IsAmong e.0 ys). inr (e.0, q, e.2)) e.1) in
    let a = group y (inl refl) r.left r.left_distinct (λ z m. (r.left_all z m).0) in
    let b = weight_groups v w Belongs ys r.right r.right_distinct (λ x m. (r.right_all x m).0) (λ u m. group u (inr m)) in
    let s = r.sum in
    omega arith

-- one address has one weight, however often it is listed
pub weight_one : {X : Type 0} (w : X → ℕ) (c : X) (zs : List X) → IsDistinct zs → ((z : X) → IsAmong z zs → z ≡ c) → weight w zs ≤ w c
weight_one w c zs d h = let a = weight_contained w zs (c ∷ []) d (λ z m. inl (h z m)) in omega arith

pub weight_zero : {X : Type 0} (w : X → ℕ) (zs : List X) → ((z : X) → IsAmong z zs → w z ≡ 0) → weight w zs ≡ 0
weight_zero w [] h = refl
weight_zero w (z ∷ zs) h = let a = h z (inl refl) in let b = weight_zero w zs (λ y m. h y (inr m)) in omega arith

-- Lists that have nothing in common, taken from one list, weigh no more than it.
pub weight_shares : {X Y : Type 0} (w : Y → ℕ) (share : X → List Y) (xs : List X) (ys : List Y) → IsDistinct xs → ((x : X) → IsAmong x xs → IsDistinct (share x)) → ((a b : X) (y : Y) → IsAmong a xs → IsAmong b xs → IsAmong y (share a) → IsAmong y (share b) → a ≡ b) → ((x : X) (y : Y) → IsAmong x xs → IsAmong y (share x) → IsAmong y ys) → weight (λ x. weight w (share x)) xs ≤ weight w ys
weight_shares {X} {Y} w share xs ys d each apart inside =
    let flat = flatten xs d each apart in
    let a = weight_contained w flat.0 ys flat.1 (λ y m. let i = flat.2 y m in inside i.0 y i.1 i.2) in
    let e = flat.3 in
    omega arith
  where
    joined : (x : X) (ls : List Y) (rest : List Y) → IsDistinct ls → IsDistinct rest → ((y : Y) → IsAmong y ls → IsAmong y rest → ⊥) → IsDistinct (ls ++ rest)
    joined x [] rest d e n = e
    joined x (l ∷ ls) rest d e n =
        (λ m. ⊎_elim (λ (q : IsAmong l ls). d.0 q) (λ (q : IsAmong l rest). n l (inl refl) q) (among_append l ls rest m), joined x ls rest d.1 e (λ y i j. n y (inr i) j))

    flatten : (xs : List X) → IsDistinct xs → ((x : X) → IsAmong x xs → IsDistinct (share x)) → ((a b : X) (y : Y) → IsAmong a xs → IsAmong b xs → IsAmong y (share a) → IsAmong y (share b) → a ≡ b) → (flat : List Y) × IsDistinct flat × ((y : Y) → IsAmong y flat → (x : X) × IsAmong x xs × IsAmong y (share x)) × (weight w flat ≡ weight (λ x. weight w (share x)) xs)
    flatten [] d each apart = ([], tt, λ y m. absurd m, refl)
    flatten (x ∷ xs) d each apart =
        let r = flatten xs d.1 (λ y m. each y (inr m)) (λ a b y i j. apart a b y (inr i) (inr j)) in (
          share x ++ r.0,
          joined x (share x) r.0 (each x (inl refl)) r.1 (λ y i j. let o = r.2 y j in d.0 (subst (λ t. IsAmong t xs) (sym (apart x o.0 y (inl refl) (inr o.1) i o.2)) o.1)),
          λ y m. ⊎_elim (λ (q : IsAmong y (share x)). (x, inl refl, q)) (λ (q : IsAmong y r.0). let o = r.2 y q in (o.0, inr o.1, o.2)) (among_append y (share x) r.0 m),
          let e = weight-append w (share x) r.0 in let g = r.3 in omega arith,
        )
