-- Lists of different numbers within a range.
use Rattle.std.proofs.Common.{◌≡◌, ℕ, suc, ◌≤◌, ◌<◌, Bool, true, false, ◌||◌, List, [], ◌∷◌, ◌++◌, nat_eq, refl, ◌⊎◌, inl, inr, arith, eqb-true}
use Rattle.std.specs.List.{AllByRecursion}
use Rattle.sml_tree.specs.IsBare.{IsDistinct}
use Rattle.sml_tree.specs.Sets.{has}
use Rattle.convert_laws.proofs.Unfold.{all_map}

pub record Within (lo hi : ℕ) (xs : List ℕ) : Type 0 where
  pub 0 : IsDistinct xs
  pub 1 : AllByRecursion (λ x. (lo ≤ x) × (x < hi)) xs

abbrev within : (lo hi : ℕ) (xs : List ℕ) → IsDistinct xs → AllByRecursion (λ x. (lo ≤ x) × (x < hi)) xs → Within lo hi xs
within lo hi xs d all = record { 0 = d; 1 = all }

pub none : (lo hi : ℕ) → Within lo hi []
none lo hi = within lo hi [] tt tt

pub wider : (lo hi low high : ℕ) (xs : List ℕ) → low ≤ lo → hi ≤ high → Within lo hi xs → Within low high xs
wider lo hi low high xs a b h =
    within low high xs h.0 (all_map (λ x (i : (lo ≤ x) × (x < hi)). (omega (arith, a, i.0), omega (arith, b, i.1))) xs h.1)

-- ---- What isn't in a list

unequal : (x y : ℕ) → (x < y) ⊎ (y < x) → nat_eq x y ≡ false
unequal x y apart = by (nat_eq x y) refl
  where
    clash : (x < y) ⊎ (y < x) → x ≡ y → nat_eq x y ≡ false
    clash (inl h) e = absurd (omega (arith, h, e))
    clash (inr h) e = absurd (omega (arith, h, e))

    by : (c : Bool) → nat_eq x y ≡ c → nat_eq x y ≡ false
    by true e = clash apart (eqb-true x y e)
    by false e = e

neither : (b c : Bool) → b ≡ false → c ≡ false → (b || c) ≡ false
neither true c e h = absurd cc
neither false c e h = h

below : (x lo hi : ℕ) (xs : List ℕ) → x < lo → AllByRecursion (λ y. (lo ≤ y) × (y < hi)) xs → has xs x ≡ false
below x lo hi [] h all = refl
below x lo hi (y ∷ xs) h all =
    neither (nat_eq x y) (has xs x) (unequal x y (inl (omega (arith, h, all.0.0)))) (below x lo hi xs h all.1)

above : (x lo hi : ℕ) (xs : List ℕ) → hi ≤ x → AllByRecursion (λ y. (lo ≤ y) × (y < hi)) xs → has xs x ≡ false
above x lo hi [] h all = refl
above x lo hi (y ∷ xs) h all =
    neither (nat_eq x y) (has xs x) (unequal x y (inr (omega (arith, h, all.0.1)))) (above x lo hi xs h all.1)

not_first : (b c : Bool) → (b || c) ≡ false → b ≡ false
not_first true c e = absurd cc
not_first false c e = refl

not_later : (b c : Bool) → (b || c) ≡ false → c ≡ false
not_later true c e = absurd cc
not_later false c e = e

has_none : (xs ys : List ℕ) (x : ℕ) → has xs x ≡ false → has ys x ≡ false → has (xs ++ ys) x ≡ false
has_none [] ys x h g = g
has_none (y ∷ xs) ys x h g =
    neither (nat_eq x y) (has (xs ++ ys) x) (not_first (nat_eq x y) (has xs x) h) (has_none xs ys x (not_later (nat_eq x y) (has xs x) h) g)

-- ---- One list behind another

apart : (xs ys : List ℕ) → IsDistinct xs → IsDistinct ys → AllByRecursion (λ x. has ys x ≡ false) xs → IsDistinct (xs ++ ys)
apart [] ys dx dy out = dy
apart (x ∷ xs) ys dx dy out = (has_none xs ys x dx.0 out.0, apart xs ys dx.1 dy out.1)

all_both : (P : ℕ → Type 0) (xs ys : List ℕ) → AllByRecursion P xs → AllByRecursion P ys → AllByRecursion P (xs ++ ys)
all_both P [] ys h g = g
all_both P (x ∷ xs) ys h g = (h.0, all_both P xs ys h.1 g)

-- the lower range first
pub joined : (lo mid hi : ℕ) (xs ys : List ℕ) → lo ≤ mid → mid ≤ hi → Within lo mid xs → Within mid hi ys → Within lo hi (xs ++ ys)
joined lo mid hi xs ys a b h g =
    within lo hi (xs ++ ys) (apart xs ys h.0 g.0 (all_map (λ x (i : (lo ≤ x) × (x < mid)). below x mid hi ys i.1 g.1) xs h.1)) (all_both (λ x. (lo ≤ x) × (x < hi)) xs ys (wider lo mid lo hi xs (omega arith) b h).1 (wider mid hi lo hi ys a (omega arith) g).1)

-- the higher range first
pub crossed : (lo mid hi : ℕ) (xs ys : List ℕ) → lo ≤ mid → mid ≤ hi → Within mid hi xs → Within lo mid ys → Within lo hi (xs ++ ys)
crossed lo mid hi xs ys a b h g =
    within lo hi (xs ++ ys) (apart xs ys h.0 g.0 (all_map (λ x (i : (mid ≤ x) × (x < hi)). above x lo mid ys i.0 g.1) xs h.1)) (all_both (λ x. (lo ≤ x) × (x < hi)) xs ys (wider mid hi lo hi xs a (omega arith) h).1 (wider lo mid lo hi ys (omega arith) b g).1)

pub front : (x hi : ℕ) (xs : List ℕ) → x < hi → Within (suc x) hi xs → Within x hi (x ∷ xs)
front x hi xs h g =
    within x hi (x ∷ xs) (below x (suc x) hi xs (omega arith) g.1, g.0) ((omega arith, h), (wider (suc x) hi x hi xs (omega arith) (omega arith) g).1)

-- with nothing behind it
pub alone : (lo hi : ℕ) (xs : List ℕ) → Within lo hi xs → Within lo hi (xs ++ [])
alone lo hi xs h =
    within lo hi (xs ++ []) (apart xs [] h.0 tt (all_map (λ x i. refl) xs h.1)) (all_both (λ x. (lo ≤ x) × (x < hi)) xs [] h.1 tt)

-- one more, which isn't there
pub put : (x lo hi : ℕ) (xs : List ℕ) → lo ≤ x → x < hi → has xs x ≡ false → Within lo hi xs → Within lo hi (x ∷ xs)
put x lo hi xs a b e h = within lo hi (x ∷ xs) (e, h.0) ((a, b), h.1)

pub lacks : (x lo hi : ℕ) (xs : List ℕ) → (x < lo) ⊎ (hi ≤ x) → Within lo hi xs → has xs x ≡ false
lacks x lo hi xs (inl h) w = below x lo hi xs h w.1
lacks x lo hi xs (inr h) w = above x lo hi xs h w.1

pub lacks_both : (xs ys : List ℕ) (x : ℕ) → has xs x ≡ false → has ys x ≡ false → has (xs ++ ys) x ≡ false
lacks_both xs ys x h g = has_none xs ys x h g

-- ---- Two ranges

abbrev pub Either : ℕ → ℕ → ℕ → ℕ → List ℕ → Type 0
Either f fe n e xs =
    IsDistinct xs × AllByRecursion (λ x. ((f ≤ x) × (x < fe)) ⊎ ((n ≤ x) × (x < e))) xs

out_of_either : (x f fe n e : ℕ) (xs : List ℕ) → (x < f) ⊎ (fe ≤ x) → x < n → AllByRecursion (λ y. ((f ≤ y) × (y < fe)) ⊎ ((n ≤ y) × (y < e))) xs → has xs x ≡ false
out_of_either x f fe n e [] o h all = refl
out_of_either x f fe n e (y ∷ xs) o h all =
    neither (nat_eq x y) (has xs x) (by o all.0) (out_of_either x f fe n e xs o h all.1)
  where
    by : (x < f) ⊎ (fe ≤ x) → ((f ≤ y) × (y < fe)) ⊎ ((n ≤ y) × (y < e)) → nat_eq x y ≡ false
    by (inl a) (inl b) = unequal x y (inl (omega (arith, a, b.0)))
    by (inr a) (inl b) = unequal x y (inr (omega (arith, a, b.1)))
    by (inl a) (inr b) = unequal x y (inl (omega (arith, h, b.0)))
    by (inr a) (inr b) = unequal x y (inl (omega (arith, h, b.0)))

-- a name of the one range, and then numbers of the other
pub one_more : (f fe n mid e : ℕ) (own rest : List ℕ) → f < fe → fe ≤ n → n ≤ mid → mid ≤ e → Within n mid own → Either (suc f) fe mid e rest → Either f fe n e (f ∷ (own ++ rest))
one_more f fe n mid e own rest a b c d w h =
    ((has_none own rest f (below f n mid own (omega (arith, a, b)) w.1) (out_of_either f (suc f) fe mid e rest (inl (omega arith)) (omega (arith, a, b, c)) h.1), apart own rest w.0 h.0 (all_map (λ x (i : (n ≤ x) × (x < mid)). out_of_either x (suc f) fe mid e rest (inr (omega (arith, b, i.0))) i.1 h.1) own w.1)), (inl (omega arith, a), all_both (λ x. ((f ≤ x) × (x < fe)) ⊎ ((n ≤ x) × (x < e))) own rest (all_map (λ x (i : (n ≤ x) × (x < mid)). inr (i.0, omega (arith, i.1, d))) own w.1) (all_map further rest h.1)))
  where
    further : (x : ℕ) → ((suc f ≤ x) × (x < fe)) ⊎ ((mid ≤ x) × (x < e)) → ((f ≤ x) × (x < fe)) ⊎ ((n ≤ x) × (x < e))
    further x (inl i) = inl (omega (arith, i.0), i.1)
    further x (inr i) = inr (omega (arith, c, i.0), i.1)

pub either_one : (f fe e : ℕ) (xs : List ℕ) → f ≤ fe → fe ≤ e → Either f fe fe e xs → Within f e xs
either_one f fe e xs a b h = within f e xs h.0 (all_map by xs h.1)
  where
    by : (x : ℕ) → ((f ≤ x) × (x < fe)) ⊎ ((fe ≤ x) × (x < e)) → (f ≤ x) × (x < e)
    by x (inl i) = (i.0, omega (arith, i.1, b))
    by x (inr i) = (omega (arith, a, i.0), i.1)

pub either_wider : (f fe n e low from to : ℕ) (xs : List ℕ) → low ≤ f → from ≤ n → e ≤ to → Either f fe n e xs → Either low fe from to xs
either_wider f fe n e low from to xs a b c h = (h.0, all_map by xs h.1)
  where
    by : (x : ℕ) → ((f ≤ x) × (x < fe)) ⊎ ((n ≤ x) × (x < e)) → ((low ≤ x) × (x < fe)) ⊎ ((from ≤ x) × (x < to))
    by x (inl i) = inl (omega (arith, a, i.0), i.1)
    by x (inr i) = inr (omega (arith, b, i.0), omega (arith, c, i.1))
