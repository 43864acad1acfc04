-- Labels of which none stands twice have slots of which none stands twice.
use Rattle.std.proofs.Common.{◌≡◌, ℕ, ◌<◌, ◌≤◌, ◌+◌, ◌⊎◌, inl, inr, true, false, ℤ, cond, List, [], ◌∷◌, map, refl, sym, ap, subst, ◌∙◌, arith, int_lt, eqb-true, ne_eqb, lt-ltb, ltb-true}
use Rattle.std.specs.Prelude.{Bool, not, nat_eq, nat_lt, ◌||◌, ◌&&◌, count_by, fold}
use Rattle.std.specs.List.{AllByRecursion, list_any}
use Rattle.sml_tree.specs.declared.bare.Lab.{Lab}
use Rattle.sml_tree.specs.declared.bare.Lab.TheVariants.{Num, Text}
use Rattle.sml_tree.specs.declared.bare.Field.{Field}
use Rattle.sml_tree.specs.Sets.{has}
use Rattle.sml_tree.specs.IsBare.{lab_less, bytes_less, IsRow, IsDistinct}
use Rattle.sml_expansion.specs.Bare.{fields}
use Rattle.sml_expansion.specs.Labels.{slot, lab_eq}
use Rattle.sml_expansion.specs.Forests.{fields_at}
use Rattle.expansion_laws.proofs.Contexts.{Among}
use Rattle.expansion_laws.proofs.Forms.{LabelsOnce}

-- ---- The order of labels

int_trans : (x y z : ℤ) → int_lt x y ≡ true → int_lt y z ≡ true → int_lt x z ≡ true
int_trans x y z a b = grind (arith, a, b)

int_self : (x : ℤ) → int_lt x x ≡ false
int_self x = grind arith

nat_trans : (x y z : ℕ) → nat_lt x y ≡ true → nat_lt y z ≡ true → nat_lt x z ≡ true
nat_trans x y z a b = let c = ltb-true x y a in let d = ltb-true y z b in lt-ltb x z (omega (arith, c, d))

nat_self : (x : ℕ) → nat_lt x x ≡ false
nat_self x = grind arith

either_way : (a b : Bool) → (a || b) ≡ true → (a ≡ true) ⊎ (b ≡ true)
either_way true b h = inl refl
either_way false b h = inr h

both_ways : (a b : Bool) → (a && b) ≡ true → (a ≡ true) × (b ≡ true)
both_ways true b h = (refl, h)
both_ways false b h = cc

bytes_trans : (xs ys zs : List ℕ) → bytes_less xs ys ≡ true → bytes_less ys zs ≡ true → bytes_less xs zs ≡ true
bytes_trans [] [] zs a b = cc
bytes_trans [] (y ∷ ys) [] a b = cc
bytes_trans [] (y ∷ ys) (z ∷ zs) a b = refl
bytes_trans (x ∷ xs) [] zs a b = cc
bytes_trans (x ∷ xs) (y ∷ ys) [] a b = cc
bytes_trans (x ∷ xs) (y ∷ ys) (z ∷ zs) a b = go (either_way (nat_lt x y) (nat_eq x y && bytes_less xs ys) a) (either_way (nat_lt y z) (nat_eq y z && bytes_less ys zs) b) (bytes_trans xs ys zs)
  where
    left : nat_lt x z ≡ true → (nat_lt x z || (nat_eq x z && bytes_less xs zs)) ≡ true
    left h = ap (λ w. w || (nat_eq x z && bytes_less xs zs)) h

    go : (nat_lt x y ≡ true) ⊎ ((nat_eq x y && bytes_less xs ys) ≡ true) → (nat_lt y z ≡ true) ⊎ ((nat_eq y z && bytes_less ys zs) ≡ true) → (bytes_less xs ys ≡ true → bytes_less ys zs ≡ true → bytes_less xs zs ≡ true) → (nat_lt x z || (nat_eq x z && bytes_less xs zs)) ≡ true
    go (inl c) (inl d) r = left (nat_trans x y z c d)
    go (inl c) (inr d) r = let s = eqb-true y z (both_ways (nat_eq y z) (bytes_less ys zs) d).0 in left (subst (λ w. nat_lt x w ≡ true) s c)
    go (inr c) (inl d) r = let s = eqb-true x y (both_ways (nat_eq x y) (bytes_less xs ys) c).0 in left (subst (λ w. nat_lt w z ≡ true) (sym s) d)
    go (inr c) (inr d) r =
        let p = both_ways (nat_eq x y) (bytes_less xs ys) c in let q = both_ways (nat_eq y z) (bytes_less ys zs) d in
        let same : nat_eq x z ≡ true = subst (λ w. nat_eq w z ≡ true) (sym (eqb-true x y p.0)) q.0 in
        right (nat_lt x z) (nat_eq x z) (bytes_less xs zs) same (r p.1 q.1)
      where
        right : (a b c : Bool) → b ≡ true → c ≡ true → (a || (b && c)) ≡ true
        right true b c h k = refl
        right false b c h k = ap (λ w. w && c) h ∙ k

bytes_self : (xs : List ℕ) → bytes_less xs xs ≡ false
bytes_self [] = refl
bytes_self (x ∷ xs) = none (nat_lt x x) (nat_eq x x) (bytes_less xs xs) (nat_self x) (bytes_self xs)
  where
    none : (a b c : Bool) → a ≡ false → c ≡ false → (a || (b && c)) ≡ false
    none true b c h k = h
    none false true c h k = k
    none false false c h k = refl

lab_trans : (x y z : Lab) → lab_less x y ≡ true → lab_less y z ≡ true → lab_less x z ≡ true
lab_trans (Num x) (Num y) (Num z) a b = int_trans x y z a b
lab_trans (Num x) (Num y) (Text zs) a b = refl
lab_trans (Num x) (Text ys) (Num z) a b = cc
lab_trans (Num x) (Text ys) (Text zs) a b = refl
lab_trans (Text xs) (Num y) z a b = cc
lab_trans (Text xs) (Text ys) (Num z) a b = cc
lab_trans (Text xs) (Text ys) (Text zs) a b = bytes_trans xs ys zs a b

lab_self : (x : Lab) → lab_less x x ≡ false
lab_self (Num x) = int_self x
lab_self (Text xs) = bytes_self xs

-- ---- Slots

count : (Lab → Bool) → List Lab → ℕ
count p [] = 0
count p (x ∷ xs) = cond (p x) 1 0 + count p xs

fold_count : (p : Lab → Bool) (xs : List Lab) (k : ℕ) → fold (λ a x. a + cond (p x) 1 0) k xs ≡ k + count p xs
unfolding count
fold_count p [] k = omega arith
fold_count p (x ∷ xs) k = fold_count p xs (k + cond (p x) 1 0) ∙ (omega arith)

count_same : (p : Lab → Bool) (xs : List Lab) → count_by p xs ≡ count p xs
count_same p xs = fold_count p xs 0 ∙ (omega arith)

one_at_most : (a b : Bool) → (a ≡ true → b ≡ true) → cond a 1 0 ≤ cond b 1 0
one_at_most true true f = omega arith
one_at_most true false f = absurd (no (f refl))
  where
    no : false ≡ true → ⊥
    no e = cc
one_at_most false true f = omega arith
one_at_most false false f = omega arith

at_most : (p q : Lab → Bool) → ((x : Lab) → p x ≡ true → q x ≡ true) → (xs : List Lab) → count p xs ≤ count q xs
unfolding count
at_most p q f [] = omega arith
at_most p q f (x ∷ xs) = let a = one_at_most (p x) (q x) (f x) in let b = at_most p q f xs in omega (arith, a, b)

fewer : (p q : Lab → Bool) → ((x : Lab) → p x ≡ true → q x ≡ true) → (y : Lab) → p y ≡ false → q y ≡ true → (xs : List Lab) → Among y xs → count p xs < count q xs
unfolding count
fewer p q f y a b [] h = absurd h
fewer p q f y a b (x ∷ xs) (inl e) =
    let c : ◌≡◌ {A = ℕ} (cond {A = ℕ} (p x) 1 0) 0 = ap (λ w. cond {A = ℕ} (p w) 1 0) (sym e) ∙ ap (λ w. cond {A = ℕ} w 1 0) a in
    let d : ◌≡◌ {A = ℕ} (cond {A = ℕ} (q x) 1 0) 1 = ap (λ w. cond {A = ℕ} (q w) 1 0) (sym e) ∙ ap (λ w. cond {A = ℕ} w 1 0) b in
    let r = at_most p q f xs in omega (arith, c, d, r)
fewer p q f y a b (x ∷ xs) (inr h) = let c = one_at_most (p x) (q x) (f x) in let r = fewer p q f y a b xs h in omega (arith, c, r)

slot_less : (labs : List Lab) (x y : Lab) → Among x labs → lab_less x y ≡ true → slot labs x < slot labs y
slot_less labs x y m h =
    let a = count_same (λ o. lab_less o x) labs in let b = count_same (λ o. lab_less o y) labs in
    let c = fewer (λ o. lab_less o x) (λ o. lab_less o y) (λ o e. lab_trans o x y e h) x (lab_self x) h labs m in
    omega (arith, a, b, c)

not_same : (labs : List Lab) (x y : Lab) → Among x labs → Among y labs → lab_eq x y ≡ false → nat_eq (slot labs x) (slot labs y) ≡ false
not_same labs x y a b e = ne_eqb (slot labs x) (slot labs y) (λ s. go (lab_less x y) (lab_less y x) e (slot_less labs x y a) (slot_less labs y x b) s)
  where
    go : (c d : Bool) → not (c || d) ≡ false → (c ≡ true → slot labs x < slot labs y) → (d ≡ true → slot labs y < slot labs x) → slot labs x ≡ slot labs y → ⊥
    go true d e f g s = let h = f refl in omega (arith, h, s)
    go false true e f g s = let h = g refl in omega (arith, h, s)
    go false false e f g s = absurd cc

eq_swap : (x y : Lab) → lab_eq x y ≡ lab_eq y x
eq_swap x y = ap not (swap (lab_less x y) (lab_less y x))
  where
    swap : (a b : Bool) → (a || b) ≡ (b || a)
    swap true true = refl
    swap true false = refl
    swap false true = refl
    swap false false = refl

none_seen : (test : Lab → Bool) (seen : List Lab) (y : Lab) → list_any test seen ≡ false → Among y seen → test y ≡ false
none_seen test [] y e h = absurd h
none_seen test (x ∷ seen) y e h = go (test x) refl e h (none_seen test seen y)
  where
    go : (b : Bool) → test x ≡ b → (b || list_any test seen) ≡ false → Among y (x ∷ seen) → (list_any test seen ≡ false → Among y seen → test y ≡ false) → test y ≡ false
    go true s e h r = absurd cc
    go false s e (inl m) r = ap test m ∙ s
    go false s e (inr m) r = r e m

-- those behind differ from each that was seen
differ : (x : Lab) (seen rest : List Lab) → Among x seen → LabelsOnce seen rest → (y : Lab) → Among y rest → lab_eq y x ≡ false
differ x seen [] m h y a = absurd a
differ x seen (w ∷ rest) m h y (inl e) = ap (λ v. lab_eq v x) e ∙ none_seen (lab_eq w) seen x h.0 m
differ x seen (w ∷ rest) m h y (inr a) = differ x (w ∷ seen) rest (inr m) h.1 y a

no_slot : (labs : List Lab) (x : Lab) (rest : List Lab) → Among x labs → ((y : Lab) → Among y rest → Among y labs × (lab_eq y x ≡ false)) → has (map (slot labs) rest) (slot labs x) ≡ false
no_slot labs x [] m f = refl
no_slot labs x (y ∷ rest) m f =
    let p = f y (inl refl) in
    rw (not_same labs x y m p.0 (eq_swap x y ∙ p.1)) (no_slot labs x rest m (λ w a. f w (inr a)))

slots_distinct : (labs seen rest : List Lab) → ((y : Lab) → Among y rest → Among y labs) → LabelsOnce seen rest → IsDistinct (map (slot labs) rest)
slots_distinct labs seen [] f h = tt
slots_distinct labs seen (x ∷ rest) f h =
    (no_slot labs x rest (f x (inl refl)) (λ y a. (f y (inr a), differ x (x ∷ seen) rest (inl refl) h.1 y a)), slots_distinct labs (x ∷ seen) rest (λ y a. f y (inr a)) h.1)

-- ---- The fields of a record

made_fields : List Lab → List Lab → List Field
made_fields all labs = map (λ l. record { lab = l; slot = slot all l; node = 0 }) labs

slots_of : (rs : List ℕ) (all labs : List Lab) → map (λ f. f.slot) (fields_at rs (made_fields all labs)) ≡ map (slot all) labs
unfolding made_fields
slots_of [] all [] = refl
slots_of (r ∷ rs) all [] = refl
slots_of [] all (l ∷ labs) = ap (λ w. slot all l ∷ w) (slots_of [] all labs)
slots_of (r ∷ rs) all (l ∷ labs) = ap (λ w. slot all l ∷ w) (slots_of rs all labs)

count_fields : (p : Lab → Bool) (rs : List ℕ) (all labs : List Lab) (k : ℕ) → fold (λ a x. a + cond (p x.lab) 1 0) k (fields_at rs (made_fields all labs)) ≡ fold (λ a x. a + cond (p x) 1 0) k labs
unfolding made_fields
count_fields p [] all [] k = refl
count_fields p (r ∷ rs) all [] k = refl
count_fields p [] all (l ∷ labs) k = count_fields p [] all labs (k + cond (p l) 1 0)
count_fields p (r ∷ rs) all (l ∷ labs) k = count_fields p rs all labs (k + cond (p l) 1 0)

slots_right : (total : Lab → ℕ) (rs : List ℕ) (all labs : List Lab) → ((l : Lab) → slot all l ≡ total l) → AllByRecursion (λ f. f.slot ≡ total f.lab) (fields_at rs (made_fields all labs))
unfolding made_fields
slots_right total [] all [] h = tt
slots_right total (r ∷ rs) all [] h = tt
slots_right total [] all (l ∷ labs) h = (h l, slots_right total [] all labs h)
slots_right total (r ∷ rs) all (l ∷ labs) h = (h l, slots_right total rs all labs h)

pub row_is : (rs : List ℕ) (labs : List Lab) → LabelsOnce [] labs → IsRow (fields_at rs (fields labs))
unfolding made_fields
row_is rs labs h = record {
  slots = slots_right (λ l. count_by (λ g. lab_less g.lab l) (fields_at rs (fields labs))) rs labs labs (λ l. sym (count_fields (λ o. lab_less o l) rs labs labs 0));
  distinct = subst IsDistinct (sym (slots_of rs labs labs)) (slots_distinct labs [] labs (λ y a. a) h);
}
