-- Uses that come in one after another, and variables that go out.
use Rattle.std.proofs.Common.{◌≡◌, ℕ, suc, ◌+◌, ◌<◌, Bool, true, false, List, [], ◌∷◌, ◌++◌, cond, length, take, map, refl, sym, ap, ◌∙◌, subst, arith, Result, Ok, Err}
use Rattle.std.specs.Prelude.{nat_eq, ◌||◌, slice_index_or, OnOk}
use Rattle.std.proofs.Math.Seq.{take-suc}
use Rattle.closure_ir.specs.declared.body.Maker.{Maker}
use Rattle.place_laws.specs.Live.{is_in, without, without_all, names_of}
use Rattle.closed_live.specs.Same.{AreSame}
use Rattle.closed_live.proofs.Sets.{in_append, in_without, in_without_all, same_trans, append_same, behind_same, assoc_same, swap_same}

-- the same behind a step that answers the same
pub then_use : {E : Type 0} (r : Result (Unit {0}) E) (us mid new all : List ℕ) → AreSame (us ++ mid) all → OnOk r (AreSame new (us ++ mid)) → OnOk r (AreSame new all)
then_use (Ok u) us mid new all f h = same_trans new (us ++ mid) all h f
then_use (Err e) us mid new all f h = tt

up : (i : ℕ) (P : ℕ → Type 0) → P (suc i) → P (i + 1)
up i P h = let e : suc i ≡ i + 1 = omega arith in subst P e h

-- ---- One more, where g goes over a list by f

module _ {A : Type 0} (f : A → List ℕ) (g : List A → List ℕ) (more : (x : A) (xs : List A) → g (x ∷ xs) ≡ f x ++ g xs) where
  last : (xs : List A) (x : A) → AreSame (g (xs ++ x ∷ [])) (f x ++ g xs)
  last [] x = λ z. ap (is_in z) (more x [])
  last (y ∷ xs) x =
      same_trans (g (y ∷ (xs ++ x ∷ []))) (f y ++ g (xs ++ x ∷ [])) (f x ++ g (y ∷ xs)) (λ z. ap (is_in z) (more y (xs ++ x ∷ [])))
      (same_trans (f y ++ g (xs ++ x ∷ [])) (f y ++ (f x ++ g xs)) (f x ++ g (y ∷ xs)) (behind_same (f y) (g (xs ++ x ∷ [])) (f x ++ g xs) (last xs x))
      (same_trans (f y ++ (f x ++ g xs)) (f x ++ (f y ++ g xs)) (f x ++ g (y ∷ xs)) (swap_same (f y) (f x) (g xs)) (λ z. ap (λ ys. is_in z (f x ++ ys)) (sym (more y xs)))))

  over_suc : (xs : List A) (i : ℕ) (d : A) (old mid new : List ℕ) → i < length xs → AreSame mid (g (take i xs) ++ old) → AreSame new (f (slice_index_or xs i d) ++ mid) → AreSame new (g (take (suc i) xs) ++ old)
  over_suc xs i d old mid new lt m n =
      let x = slice_index_or xs i d in
      let all = g (take (suc i) xs) in
      same_trans new (f x ++ mid) (all ++ old) n
      (same_trans (f x ++ mid) (f x ++ (g (take i xs) ++ old)) (all ++ old) (behind_same (f x) mid (g (take i xs) ++ old) m)
      (same_trans (f x ++ (g (take i xs) ++ old)) ((f x ++ g (take i xs)) ++ old) (all ++ old) (assoc_same (f x) (g (take i xs)) old)
      (append_same (f x ++ g (take i xs)) all old old (λ z. sym (ap (λ ys. is_in z (g ys)) (take-suc xs i d lt) ∙ last (take i xs) x z)) (λ z. refl))))

  pub over_more : (xs : List A) (i : ℕ) (d x : A) (old mid new : List ℕ) → i < length xs → x ≡ slice_index_or xs i d → AreSame mid (g (take i xs) ++ old) → AreSame new (f x ++ mid) → AreSame new (g (take (i + 1) xs) ++ old)
  over_more xs i d x old mid new lt e m n =
      up i (λ k. AreSame new (g (take k xs) ++ old)) (over_suc xs i d old mid new lt m (subst (λ y. AreSame new (f y ++ mid)) e n))

-- three uses one behind another
pub three : (us vs xs mid one two new : List ℕ) → AreSame one (xs ++ mid) → AreSame two (vs ++ one) → AreSame new (us ++ two) → AreSame new ((us ++ (vs ++ xs)) ++ mid)
three us vs xs mid one two new f g h =
    same_trans new (us ++ two) ((us ++ (vs ++ xs)) ++ mid) h
    (same_trans (us ++ two) (us ++ ((vs ++ xs) ++ mid)) ((us ++ (vs ++ xs)) ++ mid)
    (behind_same us two ((vs ++ xs) ++ mid)
    (same_trans two (vs ++ one) ((vs ++ xs) ++ mid) g
    (same_trans (vs ++ one) (vs ++ (xs ++ mid)) ((vs ++ xs) ++ mid) (behind_same vs one (xs ++ mid) f) (assoc_same vs xs mid))))
    (assoc_same us (vs ++ xs) mid))

-- ---- One more goes out

mapped : (ms : List Maker) (m : Maker) → names_of (ms ++ m ∷ []) ≡ names_of ms ++ m.var ∷ []
mapped [] m = refl
mapped (k ∷ ms) m = ap (λ ns. k.var ∷ ns) (mapped ms m)

gone_suc : (ms : List Maker) (i : ℕ) (d : Maker) (old mid new : List ℕ) → i < length ms → AreSame mid (without_all (names_of (take i ms)) old) → AreSame new (without (slice_index_or ms i d).var mid) → AreSame new (without_all (names_of (take (suc i) ms)) old)
gone_suc ms i d old mid new lt m n z =
    let x = slice_index_or ms i d in
    n z
    ∙ in_without x.var mid z
    ∙ ap (cond (nat_eq x.var z) false) (m z ∙ in_without_all (names_of (take i ms)) old z)
    ∙ join (nat_eq x.var z) (is_in z (names_of (take i ms)))
    ∙ sym (ap (λ b. cond b false (is_in z old)) (ap (λ ks. is_in z (names_of ks)) (take-suc ms i d lt) ∙ ap (is_in z) (mapped (take i ms) x) ∙ in_append (names_of (take i ms)) (x.var ∷ []) z))
    ∙ sym (in_without_all (names_of (take (suc i) ms)) old z)
  where
    join : (a b : Bool) → cond a false (cond b false (is_in z old)) ≡ cond (b || (a || false)) false (is_in z old)
    join true true = refl
    join true false = refl
    join false true = refl
    join false false = refl

pub gone_more : (ms : List Maker) (i : ℕ) (d m : Maker) (old mid new : List ℕ) → i < length ms → m ≡ slice_index_or ms i d → AreSame mid (without_all (names_of (take i ms)) old) → AreSame new (without m.var mid) → AreSame new (without_all (names_of (take (i + 1) ms)) old)
gone_more ms i d m old mid new lt e h n =
    up i (λ k. AreSame new (without_all (names_of (take k ms)) old)) (gone_suc ms i d old mid new lt h (subst (λ (k : Maker). AreSame new (without k.var mid)) e n))

or_none : (a : Bool) → (a || false) ≡ a
or_none true = refl
or_none false = refl

pub use_none : (us xs : List ℕ) → xs ≡ [] → AreSame (us ++ xs) us
use_none us xs e z = in_append us xs z ∙ ap (λ ys. is_in z us || is_in z ys) e ∙ or_none (is_in z us)
