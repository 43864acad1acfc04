-- Chained bindings.
use Rattle.std.proofs.Common.{◌≡◌, ℕ, zero, suc, ◌+◌, ◌≤◌, ◌<◌, List, false, [], ◌∷◌, ◌++◌, Option, Some, None, inl, inr, length, refl, sym, ap, ◌∙◌, subst, arith, ◌⊎◌}
use Rattle.std.specs.Prelude.{slice_get, cond, nat_eq}
use Rattle.close_scopes.specs.declared.scopes.Bound.{Bound}
use Rattle.close_scopes.specs.declared.scopes.Link.{Link}
use Rattle.close_scopes.specs.Scopes.{link_at, AreChained, bounds_from, bounds_within, bounds, looked_up, over, Grows}

-- two limits that are both great enough, over links that agree below a number
module _ (links more : List Link) (chained : AreChained links) where
  enough : (k m n : ℕ) → n ≤ k → n ≤ m → ((i : ℕ) → i ≤ n → link_at more i ≡ link_at links i) → bounds_within k links n ≡ bounds_within m more n
  enough zero zero n h g e = refl
  enough zero (suc m) zero h g e = sym (ap (bounds_from (bounds_within m more)) (e 0 (omega arith)))
  enough zero (suc m) (suc n) h g e = absurd (omega (arith, h))
  enough (suc k) zero zero h g e = refl
  enough (suc k) zero (suc n) h g e = absurd (omega (arith, g))
  enough (suc k) (suc m) n h g e =
      by (link_at links n) refl (λ o lt. enough k m o (omega (arith, lt, h)) (omega (arith, lt, g)) (λ i le. e i (omega (arith, le, lt)))) ∙ sym (ap (bounds_from (bounds_within m more)) (e n (omega arith)))
    where
      by : (l : Option Link) → link_at links n ≡ l → ((o : ℕ) → o < n → bounds_within k links o ≡ bounds_within m more o) → bounds_from (bounds_within k links) (link_at links n) ≡ bounds_from (bounds_within m more) (link_at links n)
      by None f r = ap (bounds_from (bounds_within k links)) f ∙ sym (ap (bounds_from (bounds_within m more)) f)
      by (Some l) f r =
          ap (bounds_from (bounds_within k links)) f ∙ ap (λ bs. l.bound ∷ bs) (r l.outer (chained n l f)) ∙ sym (ap (bounds_from (bounds_within m more)) f)

same_link : (links : List Link) (l : Link) (i : ℕ) → i ≤ length links → link_at (links ++ l ∷ []) i ≡ link_at links i
same_link links l zero h = refl
same_link links l (suc i) h = at links i (omega (arith, h))
  where
    at : (ks : List Link) (i : ℕ) → i < length ks → slice_get (ks ++ l ∷ []) i ≡ slice_get ks i
    at [] i h = absurd (omega (arith, h))
    at (k ∷ ks) zero h = refl
    at (k ∷ ks) (suc i) h = at ks i (omega (arith, h))

last_link : (links : List Link) (l : Link) → slice_get (links ++ l ∷ []) (length links) ≡ Some l
last_link [] l = refl
last_link (k ∷ links) l = last_link links l

-- one binding outwards
pub one_outwards : (links : List Link) → AreChained links → (n : ℕ) (l : Link) → link_at links n ≡ Some l → bounds links n ≡ l.bound ∷ bounds links l.outer
one_outwards links chained zero l e = absurd (cc)
one_outwards links chained (suc n) l e =
    let lt : l.outer < suc n = chained (suc n) l e in
    ap (bounds_from (bounds_within n links)) e ∙ ap (λ bs. l.bound ∷ bs) (enough links links chained n l.outer l.outer (omega (arith, lt)) (omega arith) (λ i h. refl))

pub none_outwards : (links : List Link) (n : ℕ) → link_at links n ≡ None → bounds links n ≡ []
none_outwards links zero e = refl
none_outwards links (suc n) e = ap (bounds_from (bounds_within n links)) e

-- ---- One more

-- a link of the longer list is an earlier one or the last
earlier_or_last : (links : List Link) (l : Link) (i : ℕ) (k : Link) → slice_get (links ++ l ∷ []) i ≡ Some k → (slice_get links i ≡ Some k) ⊎ ((length links ≡ i) × (l ≡ k))
earlier_or_last [] l zero k e = let f : l ≡ k = cc in inr (refl, f)
earlier_or_last [] l (suc i) k e = absurd (cc)
earlier_or_last (j ∷ links) l zero k e = inl e
earlier_or_last (j ∷ links) l (suc i) k e = by (earlier_or_last links l i k e)
  where
    by : (slice_get links i ≡ Some k) ⊎ ((length links ≡ i) × (l ≡ k)) → (slice_get links i ≡ Some k) ⊎ ((suc (length links) ≡ suc i) × (l ≡ k))
    by (inl f) = inl f
    by (inr f) = inr (ap suc f.0, f.1)

pub still_chained : (links : List Link) (l : Link) → AreChained links → l.outer ≤ length links → AreChained (links ++ l ∷ [])
still_chained links l chained h zero k e = absurd (cc)
still_chained links l chained h (suc n) k e = by (earlier_or_last links l n k e)
  where
    by : (slice_get links n ≡ Some k) ⊎ ((length links ≡ n) × (l ≡ k)) → k.outer < suc n
    by (inl f) = chained (suc n) k f
    by (inr f) = let g : k.outer ≤ length links = subst (λ (j : Link). j.outer ≤ length links) f.1 h in let e = f.0 in omega (arith, g, e)

longer_by_one : (links : List Link) (l : Link) → length (links ++ l ∷ []) ≡ suc (length links)
longer_by_one [] l = refl
longer_by_one (k ∷ links) l = ap suc (longer_by_one links l)

pub grows : (links : List Link) (l : Link) → AreChained links → Grows links (links ++ l ∷ [])
grows links l chained = record {
  longer = let e = longer_by_one links l in omega (arith, e);
  same = λ n h. sym (enough links (links ++ l ∷ []) chained n n n (omega arith) (omega arith) (λ i g. same_link links l i (omega (arith, g, h))));
}

pub made : (links : List Link) (l : Link) (n : ℕ) → AreChained links → l.outer ≤ length links → n ≡ length (links ++ l ∷ []) → bounds (links ++ l ∷ []) n ≡ l.bound ∷ bounds links l.outer
made links l n chained h e =
    ap (bounds (links ++ l ∷ [])) (e ∙ longer_by_one links l)
    ∙ one_outwards (links ++ l ∷ []) (still_chained links l chained h) (suc (length links)) l (last_link links l)
    ∙ ap (λ bs. l.bound ∷ bs) ((grows links l chained).same l.outer h)

pub grows_on : (a b c : List Link) → Grows a b → Grows b c → Grows a c
grows_on a b c g h = record {
  longer = let x = g.longer in let y = h.longer in omega (arith, x, y);
  same = λ n le. h.same n (let x = g.longer in omega (arith, x, le)) ∙ g.same n le;
}

pub grows_none : (a : List Link) → Grows a a
grows_none a = record { longer = omega arith; same = λ n le. refl }

-- a look-up goes on outwards
pub looks_outwards : (links : List Link) (n : ℕ) (l : Link) (y : ℕ) → AreChained links → link_at links n ≡ Some l → nat_eq l.bound.key y ≡ false → looked_up (bounds links n) y ≡ looked_up (bounds links l.outer) y
looks_outwards links n l y chained e h =
    let other : nat_eq y l.bound.key ≡ false = turned y l.bound.key ∙ h in
    ap (λ bs. looked_up bs y) (one_outwards links chained n l e) ∙ ap (λ b. cond b (Some l.bound.found) (looked_up (bounds links l.outer) y)) other
  where
    turned : (a b : ℕ) → nat_eq a b ≡ nat_eq b a
    turned a b = grind arith
