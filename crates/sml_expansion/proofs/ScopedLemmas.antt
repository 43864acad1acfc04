-- Binding numbers, and taking bindings back.
use Rattle.std.proofs.Common.{◌≡◌, ◌≢◌, ◌<◌, ◌≤◌, ◌-◌, ◌+◌, Bool, true, false, length, arith, ℕ, zero, suc, List, [], ◌∷◌, ◌++◌, Option, Some, None, get_or, slice_set, reverse, map, take, drop, replicate, add-one, refl, sym, ap, ◌∙◌, subst, ◌⊎◌, inl, inr}
use Rattle.std.specs.Prelude.{if◌then◌else◌, nat_eq}
use Rattle.std.proofs.lemmas.Bool.{eq-eqb, eqb-true, cases_lt}
use Rattle.std.proofs.lemmas.List.{get_or-set_same, get_or-set_other, length-append, append_assoc, append-nil, reverse-append, map-append, length-map, length-reverse, take-append-le}
use Rattle.std.proofs.Math.Seq.{drop-cons}
use Rattle.sml_expansion.proofs.ReverseLemmas.{reverse_one}
use Rattle.sml_expansion.specs.Scoped.{latest, oldest, bound, Hide, Stands}

-- one more binding
pub latest_same : {T : Type 0} (k : ℕ) (x : T) (env : List (ℕ × T)) → latest ((k, x) ∷ env) k ≡ Some x
latest_same k x env = ap (λ b. if b then Some x else latest env k) (eq-eqb k k refl)

pub latest_other : {T : Type 0} (k j : ℕ) (x : T) (env : List (ℕ × T)) → nat_eq k j ≡ false → latest ((k, x) ∷ env) j ≡ latest env j
latest_other k j x env e = ap (λ b. if b then Some x else latest env j) e

pub bound_one : {T : Type 0} (log : List (ℕ × T × Option T)) (k : ℕ) (x : T) (h : Option T) → bound (log ++ (k, x, h) ∷ []) ≡ (k, x) ∷ bound log
bound_one log k x h = ap (map (λ b. (b.0, b.1))) (reverse_one log (k, x, h))

-- a table past its end
past : {T : Type 0} (xs : List (Option T)) (k : ℕ) → length xs ≤ k → get_or xs k None ≡ None
past [] k h = refl
past (x ∷ xs) zero h = absurd (omega (arith, h))
past (x ∷ xs) (suc k) h = let l : length xs ≤ k = omega (arith, h) in past xs k l

within : {T : Type 0} (xs : List (Option T)) (k : ℕ) (x : T) → get_or xs k None ≡ Some x → k < length xs
within xs k x e = step (cases_lt k (length xs))
  where
    step : (k < length xs) ⊎ (length xs ≤ k) → k < length xs
    step (inl h) = h
    step (inr h) = let n : get_or xs k None ≡ None = past xs k h in cc

same_or_not : (k j : ℕ) → (k ≡ j) ⊎ (nat_eq k j ≡ false)
same_or_not k j = step (nat_eq k j) refl
  where
    step : (b : Bool) → nat_eq k j ≡ b → (k ≡ j) ⊎ (nat_eq k j ≡ false)
    step true e = inl (eqb-true k j e)
    step false e = inr e

unlike : (k j : ℕ) → nat_eq k j ≡ false → j ≢ k
unlike k j e same = let t : nat_eq k j ≡ true = eq-eqb k j (sym same) in cc

abbrev Looks : {T : Type 0} → List (Option T) → List (ℕ × T) → Type 0
Looks meanings env = (k : ℕ) → get_or meanings k None ≡ latest env k

looks_on : {T : Type 0} (meanings : List (Option T)) (env : List (ℕ × T)) (k : ℕ) (x : T) → k < length meanings → Looks meanings env → Looks (slice_set meanings k (Some x)) ((k, x) ∷ env)
looks_on {T = T} meanings env k x w s j = step (same_or_not k j)
  where
    step : (k ≡ j) ⊎ (nat_eq k j ≡ false) → get_or (slice_set meanings k (Some x)) j None ≡ latest ((k, x) ∷ env) j
    step (inl e) = subst (λ i. get_or (slice_set meanings k (Some x)) i None ≡ latest ((k, x) ∷ env) i) e (get_or-set_same meanings k (Some x) None w ∙ sym (latest_same k x env))
    step (inr e) = get_or-set_other meanings k j (Some x) None (unlike k j e) ∙ s j ∙ sym (latest_other k j x env e)

looks_back : {T : Type 0} (meanings : List (Option T)) (env : List (ℕ × T)) (k : ℕ) (x : T) (h : Option T) → h ≡ latest env k → Looks meanings ((k, x) ∷ env) → Looks (slice_set meanings k h) env
looks_back {T = T} meanings env k x h hid s j = step (same_or_not k j)
  where
    inside : k < length meanings
    inside = within meanings k x (s k ∙ latest_same k x env)

    step : (k ≡ j) ⊎ (nat_eq k j ≡ false) → get_or (slice_set meanings k h) j None ≡ latest env j
    step (inl e) = subst (λ i. get_or (slice_set meanings k h) i None ≡ latest env i) e (get_or-set_same meanings k h None inside ∙ hid)
    step (inr e) = get_or-set_other meanings k j h None (unlike k j e) ∙ s j ∙ latest_other k j x env e

-- one more binding stands
pub stands_on : {T : Type 0} (meanings : List (Option T)) (log : List (ℕ × T × Option T)) (k : ℕ) (x : T) → k < length meanings → Stands meanings log → Stands (slice_set meanings k (Some x)) (log ++ (k, x, get_or meanings k None) ∷ [])
stands_on meanings log k x w s = record {
  now = subst (Looks (slice_set meanings k (Some x))) (sym (bound_one log k x (get_or meanings k None))) (looks_on meanings (bound log) k x w s.now);
  hide = subst Hide (sym (reverse_one log (k, x, get_or meanings k None))) (s.now k, s.hide);
}

-- one is taken back
pub stands_back : {T : Type 0} (meanings : List (Option T)) (log rest : List (ℕ × T × Option T)) (k : ℕ) (x : T) (h : Option T) → log ≡ rest ++ (k, x, h) ∷ [] → Stands meanings log → Stands (slice_set meanings k h) rest
stands_back meanings log rest k x h cut s =
    let hidden : Hide ((k, x, h) ∷ reverse rest) = subst Hide (ap reverse cut ∙ reverse_one rest (k, x, h)) s.hide in
    let looks : Looks meanings ((k, x) ∷ bound rest) = subst (Looks meanings) (ap bound cut ∙ bound_one rest k x h) s.now in
    record { now = looks_back meanings (bound rest) k x h hidden.0 looks; hide = hidden.1 }

-- what stands has its number in the table
pub stands_within : {T : Type 0} (meanings : List (Option T)) (log rest : List (ℕ × T × Option T)) (k : ℕ) (x : T) (h : Option T) → log ≡ rest ++ (k, x, h) ∷ [] → Stands meanings log → k < length meanings
stands_within meanings log rest k x h cut s =
    let looks : Looks meanings ((k, x) ∷ bound rest) = subst (Looks meanings) (ap bound cut ∙ bound_one rest k x h) s.now in
    within meanings k x (looks k ∙ latest_same k x (bound rest))

-- a longer table
abbrev nothing : {T : Type 0} → Option T
nothing = None

nothing_more : {T : Type 0} (n k : ℕ) → get_or (replicate n (nothing {T = T})) k (nothing {T = T}) ≡ nothing
nothing_more zero k = refl
nothing_more (suc n) zero = refl
nothing_more (suc n) (suc k) = nothing_more n k

no_more : {T : Type 0} (xs : List (Option T)) (n k : ℕ) → get_or (xs ++ replicate n None) k None ≡ get_or xs k None
no_more [] n k = nothing_more n k
no_more (x ∷ xs) n zero = refl
no_more (x ∷ xs) n (suc k) = no_more xs n k

pub stands_longer : {T : Type 0} (meanings longer : List (Option T)) (log : List (ℕ × T × Option T)) (n : ℕ) → longer ≡ meanings ++ replicate n None → Stands meanings log → Stands longer log
stands_longer meanings longer log n e s = record { now = λ k. ap (λ l. get_or l k None) e ∙ no_more meanings n k ∙ s.now k; hide = s.hide }

-- Taking back to a number of bindings.
pub oldest_all : {A : Type 0} (n : ℕ) (xs : List A) → length xs ≤ n → oldest n xs ≡ xs
oldest_all n xs h = let z : length xs - n ≡ 0 = omega (arith, h) in ap (λ k. drop k xs) z

pub oldest_rest : {A : Type 0} (n : ℕ) (xs : List A) → n < length xs → oldest n (drop 1 xs) ≡ oldest n xs
oldest_rest n [] h = absurd (omega (arith, h))
oldest_rest n (x ∷ xs) h = let e : suc (length xs) - n ≡ suc (length xs - n) = omega (arith, h) in sym (ap (λ k. drop k (x ∷ xs)) e)

dropped : {A : Type 0} (xs ys : List A) → drop (length xs) (xs ++ ys) ≡ ys
dropped [] ys = refl
dropped (x ∷ xs) ys = dropped xs ys

taken : {A : Type 0} (xs ys : List A) → take (length xs) (xs ++ ys) ≡ xs
taken [] ys = refl
taken (x ∷ xs) ys = ap (λ l. x ∷ l) (taken xs ys)

-- what stood before
pub oldest_behind : {A : Type 0} (n : ℕ) (newer env : List A) → length env ≡ n → oldest n (newer ++ env) ≡ env
oldest_behind n newer env e =
    let l : length (newer ++ env) ≡ length newer + length env = length-append newer env in
    let k : length (newer ++ env) - n ≡ length newer = omega (arith, l, e) in
    ap (λ m. drop m (newer ++ env)) k ∙ dropped newer env

pub newest_before : {A : Type 0} (n : ℕ) (newer env : List A) → length env ≡ n → take (length (newer ++ env) - n) (newer ++ env) ≡ newer
newest_before n newer env e =
    let l : length (newer ++ env) ≡ length newer + length env = length-append newer env in
    let k : length (newer ++ env) - n ≡ length newer = omega (arith, l, e) in
    ap (λ m. take m (newer ++ env)) k ∙ taken newer env

-- the bindings behind so many, in order
bound_first : {T : Type 0} (b : ℕ × T × Option T) (log : List (ℕ × T × Option T)) → bound (b ∷ log) ≡ bound log ++ (b.0, b.1) ∷ []
bound_first b log = ap (map (λ b. (b.0, b.1))) (reverse-append (b ∷ []) log) ∙ map-append (λ b. (b.0, b.1)) (reverse log) (b ∷ [])

as_many : {T : Type 0} (log : List (ℕ × T × Option T)) → length (bound log) ≡ length log
as_many log = length-map (reverse log) (λ b. (b.0, b.1)) ∙ length-reverse log

all_of : {A : Type 0} (n : ℕ) (xs : List A) → length xs ≤ n → take n xs ≡ xs
all_of zero [] h = refl
all_of (suc n) [] h = refl
all_of zero (x ∷ xs) h = absurd (omega (arith, h))
all_of (suc n) (x ∷ xs) h = let l : length xs ≤ n = omega (arith, h) in ap (λ l. x ∷ l) (all_of n xs l)

nothing_of : {A : Type 0} (n : ℕ) → take {A = A} n [] ≡ []
nothing_of zero = refl
nothing_of (suc n) = refl

reverse_map : {A B : Type 0} (f : A → B) (xs : List A) → reverse (map f (reverse xs)) ≡ map f xs
reverse_map f [] = refl
reverse_map f (x ∷ xs) =
    ap (λ l. reverse (map f l)) (reverse-append (x ∷ []) xs)
    ∙ ap reverse (map-append f (reverse xs) (x ∷ []))
    ∙ reverse_one (map f (reverse xs)) (f x)
    ∙ ap (λ l. f x ∷ l) (reverse_map f xs)

pub behind_log : {T : Type 0} (log : List (ℕ × T × Option T)) (n : ℕ) → map (λ b. (b.0, b.1)) (drop n log) ≡ reverse (take (length (bound log) - n) (bound log))
behind_log log zero =
    let l : length (bound log) ≤ length (bound log) - 0 = omega arith in
    sym (ap reverse (all_of (length (bound log) - 0) (bound log) l) ∙ reverse_map (λ b. (b.0, b.1)) log)
behind_log [] (suc n) = ap reverse (sym (nothing_of (0 - suc n)))
behind_log (b ∷ log) (suc n) =
    let whole : length (bound (b ∷ log)) ≡ suc (length log) = as_many (b ∷ log) in
    let rest : length (bound log) ≡ length log = as_many log in
    let k : length (bound (b ∷ log)) - suc n ≡ length (bound log) - n = omega (arith, whole, rest) in
    let few : length (bound log) - n ≤ length (bound log) = omega arith in
    behind_log log n ∙ ap reverse (sym (ap (λ l. take (length (bound (b ∷ log)) - suc n) l) (bound_first b log) ∙ ap (λ m. take m (bound log ++ (b.0, b.1) ∷ [])) k ∙ take-append-le (length (bound log) - n) (bound log) ((b.0, b.1) ∷ []) few))

-- one more is copied
pub copied : {T : Type 0} (log : List (ℕ × T × Option T)) (i : ℕ) (newer goal : List (ℕ × T)) (d : ℕ × T × Option T) → i < length log → newer ++ map (λ b. (b.0, b.1)) (drop i log) ≡ goal
    → (newer ++ ((get_or log i d).0, (get_or log i d).1) ∷ []) ++ map (λ b. (b.0, b.1)) (drop (i + 1) log) ≡ goal
copied log i newer goal d h e =
    append_assoc newer (((get_or log i d).0, (get_or log i d).1) ∷ []) (map (λ b. (b.0, b.1)) (drop (i + 1) log))
    ∙ ap (λ k. newer ++ ((get_or log i d).0, (get_or log i d).1) ∷ map (λ b. (b.0, b.1)) (drop k log)) (add-one i)
    ∙ ap (λ l. newer ++ map (λ b. (b.0, b.1)) l) (sym (drop-cons log i d h))
    ∙ e

pub all_copied : {T : Type 0} (log : List (ℕ × T × Option T)) (i : ℕ) (newer goal : List (ℕ × T)) → length log ≤ i → newer ++ map (λ b. (b.0, b.1)) (drop i log) ≡ goal → newer ≡ goal
all_copied log i newer goal h e = sym (append-nil newer) ∙ ap (λ l. newer ++ map (λ b. (b.0, b.1)) l) (sym (none_behind log i h)) ∙ e
  where
    none_behind : {A : Type 0} (xs : List A) (i : ℕ) → length xs ≤ i → drop i xs ≡ []
    none_behind [] zero h = refl
    none_behind [] (suc i) h = refl
    none_behind (x ∷ xs) zero h = absurd (omega (arith, h))
    none_behind (x ∷ xs) (suc i) h = let l : length xs ≤ i = omega (arith, h) in none_behind xs i l
