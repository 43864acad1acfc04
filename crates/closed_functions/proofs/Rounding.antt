-- What a round keeps, and what is left when none goes out.
use Rattle.std.proofs.Common.{◌≡◌, ℕ, zero, suc, ◌+◌, ◌-◌, ◌<◌, ◌≤◌, Bool, true, false, List, [], ◌∷◌, ◌++◌, length, take, drop, ◌⊎◌, inl, inr, ⊎_elim, refl, sym, ap, ◌∙◌, subst, arith}
use Rattle.std.specs.Prelude.{nat_eq, not, ◌&&◌, ◌||◌, slice_index_or, if◌then◌else◌}
use Rattle.std.specs.Bool.{OnFalse}
use Rattle.std.specs.List.{list_all, list_any}
use Rattle.std.specs.Ordering.{nat_cmp}
use Rattle.std.specs.Cmp.{unsigned_tied}
use Rattle.std.specs.BTreeMap.{is_at}
use Rattle.std.proofs.Math.Seq.{take-suc, drop-cons}
use Rattle.std.proofs.lemmas.Bool.{eqb-true}
use Rattle.simulation.specs.Blocks.{IsAmong}
use Rattle.sml_tree.specs.Sets.{has, union, without}
use Rattle.sml_tree.proofs.Members.{has-union, has-without}
use Rattle.cps_ir.specs.Code.{Code}
use Rattle.cps_ir.specs.Slim.{Layout, layouts, AreClosed, IsClosedSet}
use Rattle.cps_free.specs.Same.{AreSame}
use Rattle.close_laws.specs.Layouts.{needs_only, names_of_layouts, closed_names}
use Rattle.close_laws.proofs.ClosedSets.{greatest_closed}
use Rattle.closed_functions.specs.Round.{AreAmong, NamedOnce, AreMet, IsRound, IsGreatest}

-- ---- Tests

both : (a b : Bool) → (a && b) ≡ true → (a ≡ true) × (b ≡ true)
both true b e = (refl, e)
both false b e = absurd (cc)

either : (a b : Bool) → (a || b) ≡ true → (a ≡ true) ⊎ (b ≡ true)
either true b e = inl refl
either false b e = inr e

neither : (a b : Bool) → (a || b) ≡ false → (a ≡ false) × (b ≡ false)
neither true b e = absurd (cc)
neither false b e = (refl, e)

right : (a b : Bool) → b ≡ true → (a || b) ≡ true
right true b e = refl
right false b e = e

all_of : (f : ℕ → Bool) (xs : List ℕ) → list_all f xs ≡ true → (x : ℕ) → has xs x ≡ true → f x ≡ true
all_of f [] e x m = absurd (cc)
all_of f (y ∷ xs) e x m =
    let q = both (f y) (list_all f xs) e in
    ⊎_elim (λ (h : nat_eq x y ≡ true). ap f (eqb-true x y h) ∙ q.0) (λ (h : has xs x ≡ true). all_of f xs q.1 x h) (either (nat_eq x y) (has xs x) m)

of_all : (f : ℕ → Bool) (xs : List ℕ) → ((x : ℕ) → has xs x ≡ true → f x ≡ true) → list_all f xs ≡ true
of_all f [] h = refl
of_all f (y ∷ xs) h =
    let self : nat_eq y y ≡ true = grind arith in
    by (f y) (h y (ap (λ b. b || has xs y) self)) (of_all f xs (λ x m. h x (right (nat_eq x y) (has xs x) m)))
  where
    by : (a : Bool) → a ≡ true → list_all f xs ≡ true → (a && list_all f xs) ≡ true
    by true e g = g
    by false e g = absurd (cc)

-- ---- A round

module _ (all : List Layout) (once : NamedOnce all) where
  pub begun : (old : List ℕ) → IsRound all [] old old false
  begun old = record {
    less = λ x m. m;
    keeps = λ more c m. m;
    fewer = λ e. absurd (cc);
    same = λ e. refl;
    met = λ e l m. absurd m;
  }

  among_last : (some : List Layout) (k l : Layout) → IsAmong k (some ++ l ∷ []) → IsAmong k some ⊎ (k ≡ l)
  among_last [] k l (inl e) = inr e
  among_last [] k l (inr m) = absurd m
  among_last (j ∷ some) k l (inl e) = inl (inl e)
  among_last (j ∷ some) k l (inr m) = ⊎_elim (λ (h : IsAmong k some). inl (inr h)) (λ (h : k ≡ l). inr h) (among_last some k l m)

  -- one that a closed set has needs nothing else
  content : (more set : List ℕ) (l : Layout) → IsAmong l all → AreClosed all more → AreAmong more set → has more l.name ≡ true → needs_only set l ≡ true
  content more set l m c a h =
      let f = c l.name h in
      let e : f.0 ≡ l = once f.0 l f.1 m f.2 in
      of_all (λ x. nat_eq x l.name || has set x) l.free (λ x k. ⊎_elim (λ (g : nat_eq x l.name ≡ true). ap (λ b. b || has set x) g) (λ (g : has more x ≡ true). right (nat_eq x l.name) (has set x) (a x g)) (either (nat_eq x l.name) (has more x) (f.3 x (subst (λ (j : Layout). has j.free x ≡ true) (sym e) k))))

  stay : (n : Bool) (mid new : List ℕ) (name x : ℕ) → AreSame new (if n then mid else without mid (name ∷ [])) → has mid x ≡ true → (n ≡ true) ⊎ (nat_eq x name ≡ false) → has new x ≡ true
  stay true mid new name x s m e = s x ∙ m
  stay false mid new name x s m (inl e) = absurd (cc)
  stay false mid new name x s m (inr e) =
      s x ∙ has-without mid (name ∷ []) x ∙ ap (λ b. not (b || false) && has mid x) e ∙ m

  fall : (n : Bool) (mid new : List ℕ) (name x : ℕ) → AreSame new (if n then mid else without mid (name ∷ [])) → has new x ≡ true → has mid x ≡ true
  fall true mid new name x s m = sym (s x) ∙ m
  fall false mid new name x s m = (both (not (has (name ∷ []) x)) (has mid x) (sym (has-without mid (name ∷ []) x) ∙ sym (s x) ∙ m)).1

  not_both : (a b : Bool) → false ≡ (not a && b) → b ≡ true → a ≡ true
  not_both true b e f = refl
  not_both false true e f = absurd (cc)
  not_both false false e f = absurd (cc)

  looked : (some : List Layout) (l : Layout) (old mid new : List ℕ) (fell went : Bool) → IsAmong l all → IsRound all some old mid fell → went ≡ (not (needs_only mid l) && has mid l.name) → AreSame new (if needs_only mid l then mid else without mid (l.name ∷ [])) → OnFalse went (new ≡ mid) → length new + (if went then 1 else 0) ≡ length mid → IsRound all (some ++ l ∷ []) old new (fell || went)
  looked some l old mid new fell went m r t s u n = record {
    less = λ x h. r.less x (fall (needs_only mid l) mid new l.name x s h);
    keeps = λ more c a x h. keep more c (r.keeps more c a) x h;
    fewer = fewer fell went refl refl n;
    same = λ e. let q = neither fell went e in (unchanged went q.1 u) ∙ r.same q.0;
    met = met;
  }
    where
      keep : (more : List ℕ) → AreClosed all more → AreAmong more mid → (x : ℕ) → has more x ≡ true → has new x ≡ true
      keep more c a x h = stay (needs_only mid l) mid new l.name x s (a x h) (by (nat_eq x l.name) refl)
        where
          by : (b : Bool) → nat_eq x l.name ≡ b → (needs_only mid l ≡ true) ⊎ (nat_eq x l.name ≡ false)
          by true e = inl (content more mid l m c a (subst (λ z. has more z ≡ true) (eqb-true x l.name e) h))
          by false e = inr e

      unchanged : (w : Bool) → w ≡ false → OnFalse w (new ≡ mid) → new ≡ mid
      unchanged true e h = absurd (cc)
      unchanged false e h = h

      fewer : (f w : Bool) → fell ≡ f → went ≡ w → length new + (if w then 1 else 0) ≡ length mid → (f || w) ≡ true → length new < length old
      fewer true true e g k h = let q : length mid < length old = r.fewer e in omega (arith, q, k)
      fewer true false e g k h = let q : length mid < length old = r.fewer e in omega (arith, q, k)
      fewer false true e g k h = let q : length mid ≡ length old = ap length (r.same e) in omega (arith, q, k)
      fewer false false e g k h = absurd (cc)

      met : (fell || went) ≡ false → AreMet (some ++ l ∷ []) new
      met e k i h =
          let q = neither fell went e in
          let same = unchanged went q.1 u in
          subst (λ set. needs_only set k ≡ true) (sym same)
          (⊎_elim (λ (j : IsAmong k some). r.met q.0 k j (subst (λ set. has set k.name ≡ true) same h)) (λ (j : k ≡ l). subst (λ (o : Layout). needs_only mid o ≡ true) (sym j) (not_both (needs_only mid l) (has mid l.name) (sym q.1 ∙ t) (subst (λ (o : Layout). has mid o.name ≡ true) j (subst (λ set. has set k.name ≡ true) same h)))) (among_last some k l i))

  among_at : (ls : List Layout) (i : ℕ) (d : Layout) → i < length ls → IsAmong (slice_index_or ls i d) ls
  among_at [] i d h = absurd (omega arith)
  among_at (l ∷ ls) zero d h = inl refl
  among_at (l ∷ ls) (suc i) d h = inr (among_at ls i d (omega arith))

  pub looked_more : (i : ℕ) (d l : Layout) (old mid new : List ℕ) (fell went : Bool) → i < length all → l ≡ slice_index_or all i d → IsRound all (take i all) old mid fell → went ≡ (not (needs_only mid l) && has mid l.name) → AreSame new (if needs_only mid l then mid else without mid (l.name ∷ [])) → OnFalse went (new ≡ mid) → length new + (if went then 1 else 0) ≡ length mid → IsRound all (take (i + 1) all) old new (fell || went)
  looked_more i d l old mid new fell went lt e r t s u n =
      let next : suc i ≡ i + 1 = omega arith in
      subst (λ k. IsRound all (take k all) old new (fell || went)) next
      (subst (λ ls. IsRound all ls old new (fell || went)) (ap (λ (j : Layout). take i all ++ j ∷ []) e ∙ sym (take-suc all i d lt))
      (looked (take i all) l old mid new fell went (subst (λ (j : Layout). IsAmong j all) (sym e) (among_at all i d lt)) r t s u n))

-- ---- A set's own test of a member

any_same : (f g : ℕ → Bool) → ((k : ℕ) → f k ≡ g k) → (xs : List ℕ) → list_any f xs ≡ list_any g xs
any_same f g h [] = refl
any_same f g h (x ∷ xs) = ap (λ b. b || list_any f xs) (h x) ∙ ap (λ b. g x || b) (any_same f g h xs)

pub member : (q : ℕ) (xs : List ℕ) → list_any (is_at (nat_cmp q)) xs ≡ has xs q
member q xs = any_same (is_at (nat_cmp q)) (nat_eq q) (unsigned_tied q) xs

-- ---- The set of all names

pub named_more : (all : List Layout) (i : ℕ) (d l : Layout) (old new : List ℕ) → 0 < i → i ≤ length all → l ≡ slice_index_or all (i - 1) d → AreSame old (names_of_layouts (drop i all)) → AreSame new (union (l.name ∷ []) old) → AreSame new (names_of_layouts (drop (i - 1) all))
named_more all i d l old new pos le e h g z =
    let k = slice_index_or all (i - 1) d in
    let next : suc (i - 1) ≡ i = omega arith in
    let front : drop (i - 1) all ≡ k ∷ drop i all = drop-cons all (i - 1) d (omega arith) ∙ ap (λ j. k ∷ drop j all) next in
    g z ∙ has-union (l.name ∷ []) old z ∙ by (nat_eq z l.name) (has old z) ∙ ap (λ b. nat_eq z l.name || b) (h z)
    ∙ ap (λ (j : Layout). nat_eq z j.name || has (names_of_layouts (drop i all)) z) e
    ∙ ap (λ ls. has (names_of_layouts ls) z) (sym front)
  where
    by : (a b : Bool) → ((a || false) || b) ≡ (a || b)
    by true b = refl
    by false b = refl

pub named : (all : List Layout) (x : ℕ) → has (names_of_layouts all) x ≡ true → (l : Layout) × IsAmong l all × (l.name ≡ x)
named [] x h = absurd (cc)
named (l ∷ all) x h =
    ⊎_elim (λ (e : nat_eq x l.name ≡ true). (l, inl refl, sym (eqb-true x l.name e))) (λ (m : has (names_of_layouts all) x ≡ true). let r = named all x m in (r.0, inr r.1, r.2)) (either (nat_eq x l.name) (has (names_of_layouts all) x) h)

among_named : (all : List Layout) (l : Layout) → IsAmong l all → has (names_of_layouts all) l.name ≡ true
among_named [] l m = absurd m
among_named (k ∷ all) l (inl e) = ap (λ b. b || has (names_of_layouts all) l.name) (subst (λ (j : Layout). nat_eq l.name j.name ≡ true) e (grind arith))
among_named (k ∷ all) l (inr m) = right (nat_eq l.name k.name) (has (names_of_layouts all) l.name) (among_named all l m)

-- each closed set stands in it
pub all_have : (all : List Layout) (set : List ℕ) → AreSame set (names_of_layouts all) → (more : List ℕ) → AreClosed all more → AreAmong more set
all_have all set s more c x h = let f = c x h in s x ∙ subst (λ y. has (names_of_layouts all) y ≡ true) f.2 (among_named all f.0 f.1)

-- what is left where none goes out is closed
pub is_greatest : (all : List Layout) (set : List ℕ) → AreAmong set (names_of_layouts all) → ((more : List ℕ) → AreClosed all more → AreAmong more set) → AreMet all set → IsGreatest all set
is_greatest all set names keeps met = record {
  are = λ x h. let r = named all x (names x h) in (
    r.0,
    r.1,
    r.2,
    λ y k. subst (λ z. (nat_eq y z || has set y) ≡ true) r.2 (all_of (λ y. nat_eq y r.0.name || has set y) r.0.free (met r.0 r.1 (subst (λ z. has set z ≡ true) (sym r.2) h)) y k),
  );
  greatest = keeps;
}

-- there is one greatest set
pub are_closed : (c : Code) (set : List ℕ) → IsGreatest (layouts c) set → AreSame set (closed_names (layouts c))
are_closed c set g x = by (has set x) (has (closed_names (layouts c)) x) refl refl
  where
    own : IsClosedSet c (closed_names (layouts c))
    own = greatest_closed c

    by : (a b : Bool) → has set x ≡ a → has (closed_names (layouts c)) x ≡ b → has set x ≡ has (closed_names (layouts c)) x
    by true true e f = e ∙ sym f
    by false false e f = e ∙ sym f
    by true false e f = let h : false ≡ true = sym f ∙ own.greatest set g.are x e in absurd (cc)
    by false true e f = let h : false ≡ true = sym e ∙ g.greatest (closed_names (layouts c)) own.are x f in absurd (cc)

-- where one went out there are fewer, and where none did the loop ends
pub smaller : (all : List Layout) (old new : List ℕ) (before after : Bool) → before ≡ true → IsRound all all old new after → length new + (if after then 1 else 0) < length old + (if before then 1 else 0)
smaller all old new true true e r = let h : length new < length old = r.fewer refl in omega (arith, h)
smaller all old new true false e r = let h : length new ≡ length old = ap length (r.same refl) in omega (arith, h)
smaller all old new false after e r = absurd (cc)
