-- Each of some keys once.
use Rattle.std.proofs.Common.{◌≡◌, ◌<◌, ℕ, suc, Bool, true, false, not, ◌||◌, List, [], ◌∷◌, ◌++◌, Some, map, filter, length, get_or, take, drop, refl, sym, ap, ◌∙◌, append_assoc, eq-eqb, ne_eqb, add-one, ◌+◌, rules, tests}
use Rattle.std.proofs.lemmas.List.{take_more}
use Rattle.std.proofs.Math.Seq.{drop-cons}
use Rattle.std.specs.Prelude.{if◌then◌else◌, is_none, nat_eq}
use Rattle.std.proofs.lemmas.List.Folds.{list_any-append}
use Rattle.sml_expansion.specs.Scoped.{latest}
use Rattle.sml_expansion.specs.TypeVariables.{once, stands}

eq_turned : (x y : ℕ) → nat_eq x y ≡ nat_eq y x
eq_turned x y = step (nat_eq x y) refl
  where
    step : (b : Bool) → nat_eq x y ≡ b → nat_eq x y ≡ nat_eq y x
    step true e = let same : x ≡ y = search (rules, tests) in e ∙ sym (eq-eqb y x (sym same))
    step false e = let other : y ≡ x → ⊥ = λ same. (let t : nat_eq x y ≡ true = eq-eqb x y (sym same) in cc) in e ∙ sym (ne_eqb y x other)

-- what is bound has its key among those that are seen
pub seen_is : {T : Type 0} (env : List (ℕ × T)) (x : ℕ) → stands (map (λ v. v.0) env) x ≡ not (is_none (latest env x))
seen_is [] x = refl
seen_is (b ∷ env) x = ap (λ q. q || stands (map (λ v. v.0) env) x) (eq_turned x b.0) ∙ step (nat_eq b.0 x) (seen_is env x)
  where
    step : (q : Bool) → stands (map (λ v. v.0) env) x ≡ not (is_none (latest env x)) → (q || stands (map (λ v. v.0) env) x) ≡ not (is_none (if q then Some b.1 else latest env x))
    step true h = refl
    step false h = h

-- only what is seen matters
one_more : (s t : List ℕ) (k : ℕ) → ((x : ℕ) → stands s x ≡ stands t x) → (x : ℕ) → stands (k ∷ s) x ≡ stands (k ∷ t) x
one_more s t k h x = ap (λ q. nat_eq x k || q) (h x)

pub once_same : (s t : List ℕ) → ((x : ℕ) → stands s x ≡ stands t x) → (ks : List ℕ) → once s ks ≡ once t ks
once_same s t h [] = refl
once_same s t h (k ∷ ks) = ap (λ q. if q then once s ks else k ∷ once (k ∷ s) ks) (h k) ∙ step (stands t k) (once_same s t h ks) (once_same (k ∷ s) (k ∷ t) (one_more s t k h) ks)
  where
    step : (q : Bool) → once s ks ≡ once t ks → once (k ∷ s) ks ≡ once (k ∷ t) ks → (if q then once s ks else k ∷ once (k ∷ s) ks) ≡ (if q then once t ks else k ∷ once (k ∷ t) ks)
    step true e f = e
    step false e f = ap (λ q. k ∷ q) f

-- those that are bound may be left out before
pub once_apart : {T : Type 0} (s : List ℕ) (env : List (ℕ × T)) (ks : List ℕ) → once (s ++ map (λ v. v.0) env) ks ≡ once s (filter (λ x. is_none (latest env x)) ks)
once_apart s env [] = refl
once_apart s env (k ∷ ks) =
    ap (λ q. if q then once (s ++ map (λ v. v.0) env) ks else k ∷ once (k ∷ (s ++ map (λ v. v.0) env)) ks) (list_any-append (nat_eq k) s (map (λ v. v.0) env) ∙ ap (λ q. stands s k || q) (seen_is env k))
    ∙ step (stands s k) (is_none (latest env k)) refl (once_apart s env ks) (once_apart (k ∷ s) env ks)
  where
    step : (q r : Bool) → stands s k ≡ q → once (s ++ map (λ v. v.0) env) ks ≡ once s (filter (λ x. is_none (latest env x)) ks) → once (k ∷ s ++ map (λ v. v.0) env) ks ≡ once (k ∷ s) (filter (λ x. is_none (latest env x)) ks)
        → (if q || not r then once (s ++ map (λ v. v.0) env) ks else k ∷ once (k ∷ (s ++ map (λ v. v.0) env)) ks) ≡ once s (if r then k ∷ filter (λ x. is_none (latest env x)) ks else filter (λ x. is_none (latest env x)) ks)
    step true true is e f = e ∙ ap (λ q. if q then once s (filter (λ x. is_none (latest env x)) ks) else k ∷ once (k ∷ s) (filter (λ x. is_none (latest env x)) ks)) (sym is)
    step true false is e f = e
    step false true is e f = ap (λ q. k ∷ q) f ∙ ap (λ q. if q then once s (filter (λ x. is_none (latest env x)) ks) else k ∷ once (k ∷ s) (filter (λ x. is_none (latest env x)) ks)) (sym is)
    step false false is e f = e

-- one key further
pub pushed : {T : Type 0} (y : T) (seen seen' : List (ℕ × T)) (keys keys' : List ℕ) (k : ℕ) (left : List ℕ) → keys' ≡ (if is_none (latest seen k) then keys ++ k ∷ [] else keys) → seen' ≡ (if is_none (latest seen k) then (k, y) ∷ seen else seen)
    → keys' ++ once (map (λ v. v.0) seen') left ≡ keys ++ once (map (λ v. v.0) seen) (k ∷ left)
pushed y seen seen' keys keys' k left e f = ap (λ q. q ++ once (map (λ v. v.0) seen') left) e ∙ ap (λ q. (if is_none (latest seen k) then keys ++ k ∷ [] else keys) ++ once (map (λ v. v.0) q) left) f
    ∙ step (is_none (latest seen k)) ∙ ap (λ q. keys ++ (if q then once (map (λ v. v.0) seen) left else k ∷ once (k ∷ map (λ v. v.0) seen) left)) (sym (seen_is seen k))
  where
    step : (q : Bool) → (if q then keys ++ k ∷ [] else keys) ++ once (map (λ v. v.0) (if q then (k, y) ∷ seen else seen)) left ≡ keys ++ (if not q then once (map (λ v. v.0) seen) left else k ∷ once (k ∷ map (λ v. v.0) seen) left)
    step true = append_assoc keys (k ∷ []) (once (k ∷ map (λ v. v.0) seen) left)
    step false = refl

pub seen_more : {T : Type 0} (y : T) (seen seen' : List (ℕ × T)) (k x : ℕ) → seen' ≡ (if is_none (latest seen k) then (k, y) ∷ seen else seen) → stands (map (λ v. v.0) seen') x ≡ (nat_eq x k || stands (map (λ v. v.0) seen) x)
seen_more y seen seen' k x f = ap (λ q. stands (map (λ v. v.0) q) x) f ∙ step (is_none (latest seen k)) (seen_is seen k)
  where
    within : (b : Bool) → nat_eq x k ≡ b → stands (map (λ v. v.0) seen) k ≡ true → stands (map (λ v. v.0) seen) x ≡ (b || stands (map (λ v. v.0) seen) x)
    within true e h = let same : x ≡ k = search (rules, tests) in ap (stands (map (λ v. v.0) seen)) same ∙ h
    within false e h = refl

    step : (q : Bool) → stands (map (λ v. v.0) seen) k ≡ not q → stands (map (λ v. v.0) (if q then (k, y) ∷ seen else seen)) x ≡ (nat_eq x k || stands (map (λ v. v.0) seen) x)
    step true h = refl
    step false h = within (nat_eq x k) refl h

pub seen_on : (more : List ℕ) (i x : ℕ) (a b r : Bool) → i < length more → a ≡ (nat_eq x (get_or more i 0) || b) → b ≡ (stands (take i more) x || r) → a ≡ (stands (take (i + 1) more) x || r)
seen_on more i x a b r inside e f =
    e ∙ ap (λ q. nat_eq x (get_or more i 0) || q) f ∙ turn (nat_eq x (get_or more i 0)) (stands (take i more) x) r
    ∙ ap (λ q. q || r) (sym (ap (λ ks. stands ks x) (take_more more i 0 inside) ∙ list_any-append (nat_eq x) (take i more) (get_or more i 0 ∷ [])))
  where
    turn : (p q s : Bool) → (p || (q || s)) ≡ ((q || (p || false)) || s)
    turn true true s = refl
    turn true false s = refl
    turn false true s = refl
    turn false false s = refl

pub keys_on : (seen seen' keys keys' more first : List ℕ) (i : ℕ) → i < length more → keys' ++ once seen' (drop (suc i) more) ≡ keys ++ once seen (get_or more i 0 ∷ drop (suc i) more) → keys ++ once seen (drop i more) ≡ first → keys' ++ once seen' (drop (i + 1) more) ≡ first
keys_on seen seen' keys keys' more first i inside step before =
    ap (λ j. keys' ++ once seen' (drop j more)) (add-one i) ∙ step ∙ ap (λ ks. keys ++ once seen ks) (sym (drop-cons more i 0 inside)) ∙ before

pub all_keys : {T U : Type 0} (seen seen' : List (ℕ × T)) (vars : List (ℕ × U)) (none first all named left given occurring : List ℕ) → none ≡ [] → seen ≡ [] → first ≡ none ++ once (map (λ v. v.0) seen) named
    → ((x : ℕ) → stands (map (λ v. v.0) seen') x ≡ (stands named x || stands (map (λ v. v.0) seen) x)) → all ≡ first ++ once (map (λ v. v.0) seen') left
    → left ≡ filter (λ x. is_none (latest vars x)) occurring → named ≡ given → all ≡ once [] given ++ once (given ++ map (λ v. v.0) vars) occurring
all_keys seen seen' vars none first all named left given occurring is_none_yet unseen e f g is_left is_named =
    let start : first ≡ once [] given = e ∙ ap (λ q. q ++ once (map (λ v. v.0) seen) named) is_none_yet ∙ ap (λ q. once (map (λ v. v.0) q) named) unseen ∙ ap (once []) is_named in
    let same : (x : ℕ) → stands (map (λ v. v.0) seen') x ≡ stands given x = λ x. f x ∙ ap (λ q. stands named x || stands (map (λ v. v.0) q) x) unseen ∙ or_none (stands named x) ∙ ap (λ q. stands q x) is_named in
    g ∙ ap (λ q. q ++ once (map (λ v. v.0) seen') left) start ∙ ap (λ q. once [] given ++ q) (once_same (map (λ v. v.0) seen') given same left ∙ ap (once given) is_left ∙ sym (once_apart given vars occurring))
  where
    or_none : (p : Bool) → (p || false) ≡ p
    or_none true = refl
    or_none false = refl
