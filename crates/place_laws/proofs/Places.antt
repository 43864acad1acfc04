-- Laws of the rule of places: a new place is free, and places have homes of their own.
use Rattle.std.proofs.Common.{◌≡◌, ◌≢◌, ℕ, zero, suc, ◌-◌, ◌<◌, ◌≤◌, ◌==◌, ◌||◌, List, [], ◌∷◌, length, cond, Bool, true, false, ◌⊎◌, inl, inr, refl, sym, ap, ◌∙◌, subst, arith, ⊎_elim}
use Rattle.std.specs.Prelude.{nat_lt}
use Rattle.std.proofs.lemmas.Bool.{ltb-true, ltb-false}
use Rattle.std.proofs.lemmas.Bool.Decides.{eqb_tells}
use Rattle.simulation.specs.Blocks.{IsAmong}
use Rattle.placed_ir.specs.declared.home.Home.{Home}
use Rattle.placed_ir.specs.declared.home.Home.TheVariants as home
use Rattle.place_laws.specs.Live.{is_in, without, without_all}
use Rattle.place_laws.specs.Place.{above, least_from, least_free, home_of, registers, greater}

pub eq_true : (a b : ℕ) → a ≡ b → (a == b) ≡ true
eq_true a b e =
    ⊎_elim (λ (q : ((a == b) ≡ true) × (a ≡ b)). q.0)
    (λ (q : ((a == b) ≡ false) × (a ≢ b)). absurd (q.1 e)) (eqb_tells a b)

pub eq_false : (a b : ℕ) → a ≢ b → (a == b) ≡ false
eq_false a b n =
    ⊎_elim (λ (q : ((a == b) ≡ true) × (a ≡ b)). absurd (n q.1))
    (λ (q : ((a == b) ≡ false) × (a ≢ b)). q.0) (eqb_tells a b)

pub eq_or_not : (a b : ℕ) → (a ≡ b) ⊎ (a ≢ b)
eq_or_not a b =
    ⊎_elim (λ (q : ((a == b) ≡ true) × (a ≡ b)). inl q.1)
    (λ (q : ((a == b) ≡ false) × (a ≢ b)). inr q.1) (eqb_tells a b)

pub lt_or_not : (a b : ℕ) → (a < b) ⊎ (b ≤ a)
lt_or_not a b = by (nat_lt a b) refl
  where
    by : (c : Bool) → nat_lt a b ≡ c → (a < b) ⊎ (b ≤ a)
    by true z = inl (ltb-true a b z)
    by false z = inr (ltb-false a b z)

pub apart_cases : (a b : ℕ) → a ≢ b → (a < b) ⊎ (b < a)
apart_cases a b n = ⊎_elim (λ (l : a < b). inl l) (λ (l : b ≤ a). inr (omega arith)) (lt_or_not a b)

-- ---- The least free place

or_true : (a b : Bool) → b ≡ true → (a || b) ≡ true
or_true true b e = refl
or_true false b e = e

or_left : (a b : Bool) → a ≡ true → (a || b) ≡ true
or_left true b e = refl
or_left false b e = absurd (cc)

pub among_in : (n : ℕ) (ms : List ℕ) → IsAmong n ms → is_in n ms ≡ true
among_in n [] h = absurd h
among_in n (m ∷ ms) (inl e) = or_left (m == n) (is_in n ms) (eq_true m n (sym e))
among_in n (m ∷ ms) (inr h) = or_true (m == n) (is_in n ms) (among_in n ms h)

or_cases : (a b : Bool) → (a || b) ≡ true → (a ≡ true) ⊎ (b ≡ true)
or_cases true b e = inl refl
or_cases false b e = inr e

pub in_among : (n : ℕ) (ms : List ℕ) → is_in n ms ≡ true → IsAmong n ms
in_among n [] e = absurd (cc)
in_among n (m ∷ ms) e =
    ⊎_elim
    (λ (h : (m == n) ≡ true). ⊎_elim (λ (q : m ≡ n). inl (sym q)) (λ (q : m ≢ n). absurd (let k = eq_false m n q in let t : true ≡ false = sym h ∙ k in cc)) (eq_or_not m n))
    (λ (h : is_in n ms ≡ true). inr (in_among n ms h))
    (or_cases (m == n) (is_in n ms) e)

pub among_or_not : (n : ℕ) (ms : List ℕ) → IsAmong n ms ⊎ (IsAmong n ms → ⊥)
among_or_not n ms = by (is_in n ms) refl
  where
    by : (b : Bool) → is_in n ms ≡ b → IsAmong n ms ⊎ (IsAmong n ms → ⊥)
    by true e = inl (in_among n ms e)
    by false e = inr (λ h. let t : false ≡ true = sym e ∙ among_in n ms h in cc)

below_above : (n : ℕ) (ms : List ℕ) → IsAmong n ms → n < above ms
below_above n [] h = absurd h
below_above n (m ∷ ms) (inl e) = omega arith
below_above n (m ∷ ms) (inr h) = let l = below_above n ms h in omega arith

least_fresh : (k n : ℕ) (taken : List ℕ) → IsAmong (least_from k n taken) taken → ⊥
least_fresh zero n taken h = let l = below_above (above taken) taken h in absurd (omega arith)
least_fresh (suc k) n taken h = by (λ g. least_fresh k (suc n) taken g) (is_in n taken) refl h
  where
    by : (IsAmong (least_from k (suc n) taken) taken → ⊥) → (b : Bool) → is_in n taken ≡ b → IsAmong (cond b (least_from k (suc n) taken) n) taken → ⊥
    by f true e g = f g
    by f false e g = let t : false ≡ true = sym e ∙ among_in n taken g in cc

-- no variable that is looked at has it
pub free_fresh : (taken : List ℕ) (p : ℕ) → IsAmong p taken → p ≢ least_free taken
free_fresh taken p h e = least_fresh (suc (length taken)) 0 taken (subst (λ t. IsAmong t taken) e h)

-- ---- Homes

abbrev home_by : Bool → ℕ → Home
home_by b p = cond b (home.Register p) (home.Spill (p - registers))

-- places have homes of their own
pub homes_apart : (p q : ℕ) → p ≢ q → home_of p ≢ home_of q
homes_apart p q n e = by (nat_lt p registers) (nat_lt q registers) refl refl e
  where
    by : (b c : Bool) → nat_lt p registers ≡ b → nat_lt q registers ≡ c → home_by b p ≡ home_by c q → ⊥
    by true true f g k = n (let t : home.Register p ≡ home.Register q = k in cc)
    by true false f g k = let t : home.Register p ≡ home.Spill (q - registers) = k in cc
    by false true f g k = let t : home.Spill (p - registers) ≡ home.Register q = k in cc
    by false false f g k =
        let t : home.Spill (p - registers) ≡ home.Spill (q - registers) = k in
        let s : p - registers ≡ q - registers = cc in
        let u : 20 ≤ p = ltb-false p 20 f in
        let v : 20 ≤ q = ltb-false q 20 g in
        let w : p - 20 ≡ q - 20 = s in
        n (omega arith)

-- the first places are registers
pub home_register : (p : ℕ) → p < 20 → home_of p ≡ home.Register p
home_register p l = by (nat_lt p registers) refl
  where
    by : (b : Bool) → nat_lt p registers ≡ b → home_by b p ≡ home.Register p
    by true e = refl
    by false e = absurd (let m : 20 ≤ p = ltb-false p 20 e in omega arith)

-- ---- Live variables

pub without_keeps : (x y : ℕ) (ys : List ℕ) → IsAmong y ys → y ≢ x → IsAmong y (without x ys)
without_keeps x y [] h n = absurd h
without_keeps x y (z ∷ zs) h n = by (λ m. without_keeps x y zs m n) (z == x) refl h
  where
    by : (IsAmong y zs → IsAmong y (without x zs)) → (b : Bool) → (z == x) ≡ b → (y ≡ z) ⊎ IsAmong y zs → IsAmong y (cond b (without x zs) (z ∷ without x zs))
    by tail true e (inl q) = absurd (⊎_elim (λ (k : z ≡ x). n (q ∙ k)) (λ (k : z ≢ x). let t : true ≡ false = sym e ∙ eq_false z x k in cc) (eq_or_not z x))
    by tail true e (inr m) = tail m
    by tail false e (inl q) = inl q
    by tail false e (inr m) = inr (tail m)

pub without_all_keeps : (xs : List ℕ) (y : ℕ) (ys : List ℕ) → IsAmong y ys → (IsAmong y xs → ⊥) → IsAmong y (without_all xs ys)
without_all_keeps [] y ys h n = h
without_all_keeps (x ∷ xs) y ys h n = without_keeps x y (without_all xs ys) (without_all_keeps xs y ys h (λ m. n (inr m))) (λ e. n (inl e))

pub without_in : (x y : ℕ) (ys : List ℕ) → IsAmong y (without x ys) → IsAmong y ys × (y ≢ x)
without_in x y [] h = absurd h
without_in x y (z ∷ zs) h = by (λ m. without_in x y zs m) (z == x) refl h
  where
    by : (IsAmong y (without x zs) → IsAmong y zs × (y ≢ x)) → (b : Bool) → (z == x) ≡ b → IsAmong y (cond b (without x zs) (z ∷ without x zs)) → IsAmong y (z ∷ zs) × (y ≢ x)
    by tail true e m = let r = tail m in (inr r.0, r.1)
    by tail false e (inl q) = (inl q, λ k. let t : false ≡ true = sym e ∙ eq_true z x (sym q ∙ k) in cc)
    by tail false e (inr m) = let r = tail m in (inr r.0, r.1)

pub without_all_in : (xs : List ℕ) (y : ℕ) (ys : List ℕ) → IsAmong y (without_all xs ys) → IsAmong y ys × (IsAmong y xs → ⊥)
without_all_in [] y ys h = (h, λ m. m)
without_all_in (x ∷ xs) y ys h =
    let r = without_in x y (without_all xs ys) h in
    let q = without_all_in xs y ys r.0 in
    (q.0, λ m. ⊎_elim (λ (e : y ≡ x). r.1 e) (λ (k : IsAmong y xs). q.1 k) m)

-- a variable that isn't there isn't among them
pub not_among : (x : ℕ) (ys : List ℕ) → is_in x ys ≡ false → IsAmong x ys → ⊥
not_among x ys e m = let t : false ≡ true = sym e ∙ among_in x ys m in cc

-- ---- The greater of two

greater_by : (b : Bool) (m n : ℕ) → nat_lt m n ≡ b → (m ≤ cond b n m) × (n ≤ cond b n m)
greater_by true m n e = (let l : m < n = ltb-true m n e in omega arith, omega arith)
greater_by false m n e = (omega arith, ltb-false m n e)

pub greater_left : (m n : ℕ) → m ≤ greater m n
greater_left m n = (greater_by (nat_lt m n) m n refl).0

pub greater_right : (m n : ℕ) → n ≤ greater m n
greater_right m n = (greater_by (nat_lt m n) m n refl).1

pub greater_zero : (m n : ℕ) → m ≡ 0 → n ≡ 0 → greater m n ≡ 0
greater_zero m n e f = ap (λ x. greater x n) e ∙ ap (greater 0) f
