-- Tables of places, one entry after another.
use Rattle.std.proofs.Common.{◌≡◌, ◌≢◌, ℕ, zero, suc, ◌+◌, ◌<◌, ◌≤◌, List, [], ◌∷◌, ◌++◌, length, take, map, cond, inl, inr, refl, sym, ap, ◌∙◌, subst, arith, ⊎_elim, Result, Ok, Err, OnOk}
use Rattle.std.specs.Prelude.{slice_set, slice_index_or}
use Rattle.std.specs.List.{AllByRecursion}
use Rattle.std.proofs.Math.Seq.{take-suc}
use Rattle.std.proofs.lemmas.Option.{unwrap_or-slice_get}
use Rattle.std.proofs.lemmas.List.{get_or-set_other}
use Rattle.simulation.specs.Blocks.{IsAmong}
use Rattle.simulation.proofs.Lists.{among_append, among_one, among_left, among_right, length_last}
use Rattle.closure_ir.specs.declared.body.Rule.{Rule}
use Rattle.sml_tree.specs.Sets.{row_at}
use Rattle.place_laws.specs.Place.{Places, at_place}
use Rattle.place_laws.proofs.Places.{eq_or_not, eq_true, eq_false}
use Rattle.place_bodies.specs.Steps.{at_of}
use Rattle.place_bodies.specs.Whole.{HasPlaces}

-- a zero more is what stands past the end
pub zero_more : (t : List ℕ) (y : ℕ) → at_of (t ++ 0 ∷ []) y ≡ at_of t y
zero_more [] zero = refl
zero_more [] (suc y) = refl
zero_more (p ∷ t) zero = refl
zero_more (p ∷ t) (suc y) = zero_more t y

-- one variable more has its place
load_suc : (there : Places) (xs : List ℕ) (i : ℕ) (t u : List ℕ) → i < length xs → ((y : ℕ) → at_of u y ≡ at_place (at_of t) (slice_index_or xs i 0) (there (slice_index_or xs i 0)) y) → ((x : ℕ) → IsAmong x (take i xs) → at_of t x ≡ there x) → (x : ℕ) → IsAmong x (take (suc i) xs) → at_of u x ≡ there x
load_suc there xs i t u lt put h x m =
    let v = slice_index_or xs i 0 in
    ⊎_elim
    (λ (e : x ≡ v). put x ∙ ap (λ b. cond b (there v) (at_of t x)) (eq_true x v e) ∙ ap there (sym e))
    (λ (n : x ≢ v).
    put x ∙ ap (λ b. cond b (there v) (at_of t x)) (eq_false x v n)
    ∙ ⊎_elim (λ (a : IsAmong x (take i xs)). h x a) (λ (a : IsAmong x (v ∷ [])). absurd (n (among_one x v a))) (among_append x (take i xs) (v ∷ []) (subst (IsAmong x) (take-suc xs i 0 lt) m)))
    (eq_or_not x v)

mapped : (f : ℕ → ℕ) (xs : List ℕ) (i : ℕ) → i < length xs → at_of (map f xs) i ≡ f (slice_index_or xs i 0)
mapped f [] i lt = absurd (omega arith)
mapped f (x ∷ xs) zero lt = refl
mapped f (x ∷ xs) (suc i) lt = mapped f xs i (omega arith)

pub load_more : (there : Places) (xs places : List ℕ) (i d x p : ℕ) (t u : List ℕ) → i < length xs → x ≡ slice_index_or xs i d → p ≡ at_of places i → ((y : ℕ) → at_of u y ≡ at_place (at_of t) x p y) → ((y : ℕ) → IsAmong y (take i xs) → at_of t y ≡ there y) → places ≡ map there xs → (y : ℕ) → IsAmong y (take (i + 1) xs) → at_of u y ≡ there y
load_more there xs places i d x p t u lt e f put h whole =
    let up : suc i ≡ i + 1 = omega arith in
    let v = slice_index_or xs i 0 in
    let k : x ≡ v = e ∙ defaults xs i lt in
    let q : p ≡ there v = f ∙ ap (λ ps. at_of ps i) whole ∙ mapped there xs i lt in
    subst (λ j. (y : ℕ) → IsAmong y (take j xs) → at_of u y ≡ there y) up (load_suc there xs i t u lt (λ y. put y ∙ ap (λ w. at_place (at_of t) w p y) k ∙ ap (λ w. at_place (at_of t) v w y) q) h)
  where
    defaults : (ys : List ℕ) (j : ℕ) → j < length ys → slice_index_or ys j d ≡ slice_index_or ys j 0
    defaults [] j l = absurd (omega arith)
    defaults (y ∷ ys) zero l = refl
    defaults (y ∷ ys) (suc j) l = defaults ys j (omega arith)

-- ---- Rows that are begun

-- one row more, where the others stay
pub begun_more : (lives old new : List (List ℕ)) (at : Places) (m : ℕ) (ns : List ℕ) → HasPlaces lives new m at → ((c : ℕ) → (c ≡ m → ⊥) → row_at new c ≡ row_at old c) → AllByRecursion (λ n. HasPlaces lives old n at) ns → AllByRecursion (λ n. HasPlaces lives new n at) ns
begun_more lives old new at m [] here others h = tt
begun_more lives old new at m (n ∷ ns) here others h =
    (⊎_elim (λ (e : n ≡ m). subst (λ k. HasPlaces lives new k at) (sym e) here) (λ (k : n ≢ m). others n k ∙ h.0) (eq_or_not n m), begun_more lives old new at m ns here others h.1)

pub all_append : {A : Type 0} (P : A → Type 0) (xs ys : List A) → AllByRecursion P xs → AllByRecursion P ys → AllByRecursion P (xs ++ ys)
all_append P [] ys f g = g
all_append P (x ∷ xs) ys f g = (f.0, all_append P xs ys f.1 g)

pub longer : (n p : ℕ) (t u : List ℕ) → u ≡ t ++ p ∷ [] → n ≤ length t → n ≤ length u
longer n p t u e h = let k : length u ≡ suc (length t) = ap length e ∙ length_last t p in omega arith

pub row_other : (rows : List (List ℕ)) (n c : ℕ) (set : List ℕ) → c ≢ n → row_at (slice_set rows n set) c ≡ row_at rows c
row_other rows n c set h = unwrap_or-slice_get (slice_set rows n set) c [] ∙ get_or-set_other rows n c set [] h ∙ sym (unwrap_or-slice_get rows c [])

-- ---- Rules

abbrev pub bodies_of : List Rule → List ℕ
bodies_of rules = map (λ r. r.body) rules

pub rule_at : (P : ℕ → Type 0) (rules : List Rule) (i : ℕ) (d : Rule) → AllByRecursion P (bodies_of rules) → i < length rules → P (slice_index_or rules i d).body
rule_at P [] i d h lt = absurd (omega arith)
rule_at P (r ∷ rules) zero d h lt = h.0
rule_at P (r ∷ rules) (suc i) d h lt = rule_at P rules i d h.1 (omega arith)

among_at : (rules : List Rule) (i : ℕ) (d : Rule) → i < length rules → IsAmong (slice_index_or rules i d).body (bodies_of rules)
among_at [] i d lt = absurd (omega arith)
among_at (r ∷ rules) zero d lt = inl refl
among_at (r ∷ rules) (suc i) d lt = inr (among_at rules i d (omega arith))

pub rule_among : (rules : List Rule) (i : ℕ) (d r : Rule) → i < length rules → r ≡ slice_index_or rules i d → IsAmong r.body (bodies_of rules)
rule_among rules i d r lt e = subst (λ (k : Rule). IsAmong k.body (bodies_of rules)) (sym e) (among_at rules i d lt)

bodies_last : (rules : List Rule) (r : Rule) → bodies_of (rules ++ r ∷ []) ≡ bodies_of rules ++ r.body ∷ []
bodies_last [] r = refl
bodies_last (k ∷ rules) r = ap (λ ns. k.body ∷ ns) (bodies_last rules r)

pub rules_more : (P : ℕ → Type 0) (rules : List Rule) (i : ℕ) (d r : Rule) → i < length rules → r ≡ slice_index_or rules i d → AllByRecursion P (bodies_of (take i rules)) → P r.body → AllByRecursion P (bodies_of (take (i + 1) rules))
rules_more P rules i d r lt e h p =
    let up : suc i ≡ i + 1 = omega arith in
    let whole : bodies_of (take (i + 1) rules) ≡ bodies_of (take i rules) ++ r.body ∷ [] =
    ap (λ k. bodies_of (take k rules)) (sym up) ∙ ap bodies_of (take-suc rules i d lt) ∙ bodies_last (take i rules) (slice_index_or rules i d) ∙ ap (λ (k : Rule). bodies_of (take i rules) ++ k.body ∷ []) (sym e) in
    subst (AllByRecursion P) (sym whole) (all_append P (bodies_of (take i rules)) (r.body ∷ []) h (p, tt))

-- ---- And the last

pub finish_parts : {E : Type 0} (r : Result (Unit {0}) E) (lives mid new : List (List ℕ)) (at : Places) (o : ℕ) (ns : List ℕ) → AllByRecursion (λ n. HasPlaces lives mid n at) ns → OnOk r (HasPlaces lives new o at) → OnOk r ((c : ℕ) → (c ≡ o → ⊥) → row_at new c ≡ row_at mid c) → OnOk r (AllByRecursion (λ n. HasPlaces lives new n at) (ns ++ o ∷ []))
finish_parts (Ok u) lives mid new at o ns h here others = all_append (λ n. HasPlaces lives new n at) ns (o ∷ []) (begun_more lives mid new at o ns here others h) (here, tt)
finish_parts (Err e) lives mid new at o ns h here others = tt

pub finish_others : {E : Type 0} (r : Result (Unit {0}) E) (old mid new : List (List ℕ)) (o : ℕ) (ns : List ℕ) → ((c : ℕ) → (IsAmong c ns → ⊥) → row_at mid c ≡ row_at old c) → OnOk r ((c : ℕ) → (c ≡ o → ⊥) → row_at new c ≡ row_at mid c) → OnOk r ((c : ℕ) → (IsAmong c (ns ++ o ∷ []) → ⊥) → row_at new c ≡ row_at old c)
finish_others (Ok u) old mid new o ns f g = λ c n. g c (λ e. n (among_right c ns (o ∷ []) (inl e))) ∙ f c (λ a. n (among_left c ns (o ∷ []) a))
finish_others (Err e) old mid new o ns f g = tt
