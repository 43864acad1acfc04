-- The closed functions are the greatest set whose functions need no variable but themselves and its members.
use Rattle.std.proofs.Common.{◌≡◌, ℕ, zero, suc, ◌+◌, ◌≤◌, Bool, true, false, List, [], ◌∷◌, length, ◌⊎◌, inl, inr, ⊎_elim, refl, sym, ap, ◌∙◌, subst, arith}
use Rattle.std.specs.Prelude.{nat_eq, filter, ◌&&◌, ◌||◌, if◌then◌else◌}
use Rattle.std.specs.List.{list_all}
use Rattle.std.proofs.lemmas.Bool.{eqb-true}
use Rattle.simulation.specs.Blocks.{IsAmong}
use Rattle.sml_tree.specs.Sets.{has}
use Rattle.cps_ir.specs.Code.{Code}
use Rattle.cps_ir.specs.Slim.{Layout, layouts, AreClosed, IsClosedSet}
use Rattle.close_laws.specs.Layouts.{needs_only, names_of_layouts, stay_closed, closed_after, closed_names}

-- ---- Tests

both : (a b : Bool) → (a && b) ≡ true → (a ≡ true) × (b ≡ true)
both true b e = (refl, e)
both false b e = absurd (cc)

and_true : (a b : Bool) → a ≡ true → b ≡ true → (a && b) ≡ true
and_true true b e f = f
and_true false b e f = absurd (cc)

or_either : (a b : Bool) → (a || b) ≡ true → (a ≡ true) ⊎ (b ≡ true)
or_either true b e = inl refl
or_either false b e = inr e

or_right : (a b : Bool) → b ≡ true → (a || b) ≡ true
or_right true b e = refl
or_right false b e = e

self_eq : (x : ℕ) → nat_eq x x ≡ true
self_eq x = grind arith

all_of : (f : ℕ → Bool) (xs : List ℕ) → list_all f xs ≡ true → (x : ℕ) → has xs x ≡ true → f x ≡ true
all_of f [] e x m = absurd (cc)
all_of f (y ∷ xs) e x m =
    let q = both (f y) (list_all f xs) e in
    ⊎_elim (λ (h : nat_eq x y ≡ true). ap f (eqb-true x y h) ∙ q.0) (λ (h : has xs x ≡ true). all_of f xs q.1 x h) (or_either (nat_eq x y) (has xs x) m)

of_all : (f : ℕ → Bool) (xs : List ℕ) → ((x : ℕ) → has xs x ≡ true → f x ≡ true) → list_all f xs ≡ true
of_all f [] h = refl
of_all f (y ∷ xs) h =
    and_true (f y) (list_all f xs) (h y (ap (λ b. b || has xs y) (self_eq y))) (of_all f xs (λ x m. h x (or_right (nat_eq x y) (has xs x) m)))

-- ---- Names of those that a test keeps

kept_named : (P : Layout → Bool) (all : List Layout) (x : ℕ) → has (names_of_layouts (filter P all)) x ≡ true → (l : Layout) × IsAmong l all × (l.name ≡ x) × (P l ≡ true)
kept_named P [] x h = absurd (cc)
kept_named P (l ∷ all) x h = by (P l) refl (λ g. let r = kept_named P all x g in (r.0, inr r.1, r.2, r.3)) h
  where
    by : (b : Bool) → P l ≡ b → (has (names_of_layouts (filter P all)) x ≡ true → (k : Layout) × IsAmong k (l ∷ all) × (k.name ≡ x) × (P k ≡ true)) → has (names_of_layouts (if b then l ∷ filter P all else filter P all)) x ≡ true → (k : Layout) × IsAmong k (l ∷ all) × (k.name ≡ x) × (P k ≡ true)
    by true e later g = ⊎_elim (λ (q : nat_eq x l.name ≡ true). (l, inl refl, sym (eqb-true x l.name q), e)) later (or_either (nat_eq x l.name) (has (names_of_layouts (filter P all)) x) g)
    by false e later g = later g

named_kept : (P : Layout → Bool) (all : List Layout) (l : Layout) → IsAmong l all → P l ≡ true → has (names_of_layouts (filter P all)) l.name ≡ true
named_kept P [] l m e = absurd m
named_kept P (k ∷ all) l (inl same) e = subst (λ (j : Layout). has (names_of_layouts (filter P (j ∷ all))) l.name ≡ true) same (here (P l) e)
  where
    here : (b : Bool) → b ≡ true → has (names_of_layouts (if b then l ∷ filter P all else filter P all)) l.name ≡ true
    here true f = ap (λ b. b || has (names_of_layouts (filter P all)) l.name) (self_eq l.name)
    here false f = absurd (cc)
named_kept P (k ∷ all) l (inr m) e = by (P k) (named_kept P all l m e)
  where
    by : (b : Bool) → has (names_of_layouts (filter P all)) l.name ≡ true → has (names_of_layouts (if b then k ∷ filter P all else filter P all)) l.name ≡ true
    by true g = or_right (nat_eq l.name k.name) (has (names_of_layouts (filter P all)) l.name) g
    by false g = g

among_named : (all : List Layout) (l : Layout) → IsAmong l all → has (names_of_layouts all) l.name ≡ true
among_named [] l m = absurd m
among_named (k ∷ all) l (inl same) = ap (λ b. b || has (names_of_layouts all) l.name) (subst (λ (j : Layout). nat_eq l.name j.name ≡ true) same (self_eq l.name))
among_named (k ∷ all) l (inr m) = or_right (nat_eq l.name k.name) (has (names_of_layouts all) l.name) (among_named all l m)

-- ---- Rounds

module _ (all : List Layout) where
  -- whether a function stays where these are left
  abbrev Q : List ℕ → Layout → Bool
  Q set l = has set l.name && needs_only set l

  -- each member of the next round is one of this
  falls : (n : ℕ) (x : ℕ) → has (closed_after (suc n) all) x ≡ true → has (closed_after n all) x ≡ true
  falls n x h =
      let r = kept_named (Q (closed_after n all)) all x h in
      subst (λ y. has (closed_after n all) y ≡ true) r.2 (both (has (closed_after n all) r.0.name) (needs_only (closed_after n all) r.0) r.3).0

  -- what stays in a smaller set stays in a larger one
  grows : (small large : List ℕ) → ((x : ℕ) → has small x ≡ true → has large x ≡ true) → (l : Layout) → Q small l ≡ true → Q large l ≡ true
  grows small large h l e =
      let q = both (has small l.name) (needs_only small l) e in
      and_true (has large l.name) (needs_only large l) (h l.name q.0)
      (of_all (λ x. nat_eq x l.name || has large x) l.free (λ x m. ⊎_elim (λ (k : nat_eq x l.name ≡ true). ap (λ b. b || has large x) k) (λ (k : has small x ≡ true). or_right (nat_eq x l.name) (has large x) (h x k)) (or_either (nat_eq x l.name) (has small x) (all_of (λ y. nat_eq y l.name || has small y) l.free q.1 x m))))

  -- the functions that are left after n rounds
  abbrev left : ℕ → List Layout
  left zero = all
  left (suc n) = filter (Q (closed_after n all)) all

  left_named : (n : ℕ) → names_of_layouts (left n) ≡ closed_after n all
  left_named zero = refl
  left_named (suc n) = refl

  -- a sharper test keeps fewer, or the same
  abbrev Fewer : List Layout → List Layout → Type 0
  Fewer xs ys = (suc (length xs) ≤ length ys) ⊎ (xs ≡ ys)

  fewer : (P R : Layout → Bool) → ((l : Layout) → P l ≡ true → R l ≡ true) → (ls : List Layout) → Fewer (filter P ls) (filter R ls)
  fewer P R h [] = inr refl
  fewer P R h (l ∷ ls) = by (P l) (R l) (h l) (fewer P R h ls)
    where
      by : (b d : Bool) → (b ≡ true → d ≡ true) → Fewer (filter P ls) (filter R ls) → Fewer (if b then l ∷ filter P ls else filter P ls) (if d then l ∷ filter R ls else filter R ls)
      by true true k (inl g) = inl (omega arith)
      by true true k (inr g) = inr (ap (λ zs. l ∷ zs) g)
      by true false k g = absurd (let e = k refl in cc)
      by false true k (inl g) = inl (omega arith)
      by false true k (inr g) = let e : length (filter P ls) ≡ length (filter R ls) = ap length g in inl (omega (arith, e))
      by false false k g = g

  fewer_than_all : (P : Layout → Bool) (ls : List Layout) → Fewer (filter P ls) ls
  fewer_than_all P [] = inr refl
  fewer_than_all P (l ∷ ls) = by (P l) (fewer_than_all P ls)
    where
      by : (b : Bool) → Fewer (filter P ls) ls → Fewer (if b then l ∷ filter P ls else filter P ls) (l ∷ ls)
      by true (inl g) = inl (omega arith)
      by true (inr g) = inr (ap (λ zs. l ∷ zs) g)
      by false (inl g) = inl (omega arith)
      by false (inr g) = let e : length (filter P ls) ≡ length ls = ap length g in inl (omega (arith, e))

  round : (n : ℕ) → Fewer (left (suc n)) (left n)
  round zero = fewer_than_all (Q (closed_after zero all)) all
  round (suc n) = fewer (Q (closed_after (suc n) all)) (Q (closed_after n all)) (grows (closed_after (suc n) all) (closed_after n all) (falls n)) all

  -- after n rounds so many are gone, or the next round changes nothing
  settles : (n : ℕ) → (length (left n) + n ≤ length all) ⊎ (left (suc n) ≡ left n)
  settles zero = inl (omega arith)
  settles (suc n) = ⊎_elim go again (settles n)
    where
      again : left (suc n) ≡ left n → (length (left (suc n)) + suc n ≤ length all) ⊎ (left (suc (suc n)) ≡ left (suc n))
      again e = inr (ap (λ set. filter (Q set) all) (sym (left_named (suc n)) ∙ ap names_of_layouts e ∙ left_named n))

      go : length (left n) + n ≤ length all → (length (left (suc n)) + suc n ≤ length all) ⊎ (left (suc (suc n)) ≡ left (suc n))
      go h = ⊎_elim (λ (k : suc (length (left (suc n))) ≤ length (left n)). inl (omega (arith, k, h))) again (round n)

  none_stay : (ls : List Layout) → filter (Q []) ls ≡ []
  none_stay [] = refl
  none_stay (l ∷ ls) = none_stay ls

  empty : (ls : List Layout) → length ls ≤ 0 → ls ≡ []
  empty [] h = refl
  empty (l ∷ ls) h = absurd (omega arith)

  -- the last round changed nothing
  settled : left (suc (length all)) ≡ left (length all)
  settled = ⊎_elim last (λ (e : left (suc (length all)) ≡ left (length all)). e) (settles (length all))
    where
      last : length (left (length all)) + length all ≤ length all → left (suc (length all)) ≡ left (length all)
      last h =
          let none : left (length all) ≡ [] = empty (left (length all)) (omega arith) in
          ap (λ set. filter (Q set) all) (sym (left_named (length all)) ∙ ap names_of_layouts none) ∙ none_stay all ∙ sym none

  stays : (x : ℕ) → has (closed_names all) x ≡ true → has (stay_closed all (closed_names all)) x ≡ true
  stays x h = sym (ap (λ ls. has (names_of_layouts ls) x) (sym settled) ∙ refl) ∙ ap (λ set. has set x) (left_named (length all)) ∙ h

  are_closed : AreClosed all (closed_names all)
  are_closed x h =
      let r = kept_named (Q (closed_names all)) all x (stays x h) in
      let q = both (has (closed_names all) r.0.name) (needs_only (closed_names all) r.0) r.3 in (
        r.0,
        r.1,
        r.2,
        λ y m. subst (λ z. (nat_eq y z || has (closed_names all) y) ≡ true) r.2 (all_of (λ y. nat_eq y r.0.name || has (closed_names all) y) r.0.free q.1 y m),
      )

  -- a closed set loses none in any round
  outlast : (more : List ℕ) → AreClosed all more → (n : ℕ) (x : ℕ) → has more x ≡ true → has (closed_after n all) x ≡ true
  outlast more h zero x m = let l = h x m in subst (λ y. has (names_of_layouts all) y ≡ true) l.2 (among_named all l.0 l.1)
  outlast more h (suc n) x m =
      let l = h x m in
      let set = closed_after n all in
      let stay : Q set l.0 ≡ true =
      and_true (has set l.0.name) (needs_only set l.0) (subst (λ y. has set y ≡ true) (sym l.2) (outlast more h n x m))
      (of_all (λ y. nat_eq y l.0.name || has set y) l.0.free (λ y k. ⊎_elim (λ (e : nat_eq y x ≡ true). ap (λ b. b || has set y) (subst (λ z. nat_eq y z ≡ true) (sym l.2) e)) (λ (e : has more y ≡ true). or_right (nat_eq y l.0.name) (has set y) (outlast more h n y e)) (or_either (nat_eq y x) (has more y) (l.3 y k)))) in
      subst (λ y. has (closed_after (suc n) all) y ≡ true) l.2 (named_kept (Q set) all l.0 l.1 stay)

pub greatest_closed : (c : Code) → IsClosedSet c (closed_names (layouts c))
greatest_closed c = record { are = are_closed (layouts c); greatest = λ more h x m. outlast (layouts c) more h (length (layouts c)) x m }
