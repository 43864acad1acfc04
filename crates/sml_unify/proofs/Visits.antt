-- A walk that comes to each form once: what is seen is settled by what is seen and what waits.
use Rattle.std.proofs.Common.{◌≡◌, ℕ, zero, suc, ◌+◌, ◌<◌, ◌≤◌, Bool, true, false, List, [], ◌∷◌, ◌++◌, length, Option, Some, refl, sym, ap, ◌∙◌, subst, arith, append_assoc, length-append, not, if◌then◌else◌}
use Rattle.std.specs.Prelude.{slice_get, nat_eq}
use Rattle.std.specs.List.{AllByRecursion}
use Rattle.std.proofs.lemmas.Bool.{eqb-true, eq-eqb}
use Rattle.sml_types.specs.declared.types.Ty.{Ty}
use Rattle.sml_types.specs.declared.types.TyVar.{TyVar}
use Rattle.sml_types.specs.declared.types.TyForm.{TyForm}
use Rattle.sml_types.specs.declared.types.TyForm.TheVariants.{Var}
use Rattle.sml_types.specs.Tree.{Tree, inst, size}
use Rattle.sml_types.specs.Forms.{tree, listed, parts_of}
use Rattle.sml_types.proofs.TreeFacts.{either, or_left, or_right}
use Rattle.sml_unify.specs.Solved.{IsSolved, under, meant}
use Rattle.indexmap.specs.IndexSet.{insert_key}
use Rattle.sml_unify.specs.Steps.{logged}
use Rattle.sml_unify.specs.Visit.{IsVisit}
use Rattle.sml_unify.proofs.Unvisited.{unvisited, unvisited_falls}
use Rattle.sml_unify.proofs.Walks.{at_app}

pub logged_left : (xs ys : List ℕ) (c : ℕ) → logged xs c ≡ true → logged (xs ++ ys) c ≡ true
logged_left [] ys c h = cc
logged_left (x ∷ xs) ys c h =
    either
    (nat_eq c x)
    (logged xs c)
    (logged (x ∷ xs ++ ys) c ≡ true)
    h
    (λ e. or_left (nat_eq c x) (logged (xs ++ ys) c) e)
    (λ e. or_right (nat_eq c x) (logged (xs ++ ys) c) (logged_left xs ys c e))

pub logged_right : (xs ys : List ℕ) (c : ℕ) → logged ys c ≡ true → logged (xs ++ ys) c ≡ true
logged_right [] ys c h = h
logged_right (x ∷ xs) ys c h = or_right (nat_eq c x) (logged (xs ++ ys) c) (logged_right xs ys c h)

pub logged_here : (xs : List ℕ) (c : ℕ) → logged (xs ++ c ∷ []) c ≡ true
logged_here xs c = logged_right xs (c ∷ []) c (or_left (nat_eq c c) false (eq-eqb c c refl))

-- what stands in a list stands before its last number or is that
pub logged_cases : (xs : List ℕ) (n c : ℕ) (P : Type 0) → logged (xs ++ n ∷ []) c ≡ true → (logged xs c ≡ true → P) → (c ≡ n → P) → P
logged_cases [] n c P h f g = either (nat_eq c n) false P h (λ e. g (eqb-true c n e)) (λ e. cc)
logged_cases (x ∷ xs) n c P h f g =
    either
    (nat_eq c x)
    (logged (xs ++ n ∷ []) c)
    P
    h
    (λ e. f (or_left (nat_eq c x) (logged xs c) e))
    (λ e. logged_cases xs n c P e (λ k. f (or_right (nat_eq c x) (logged xs c) k)) g)

pub logged_all : (xs ys : List ℕ) → AllByRecursion (λ c. logged (xs ++ ys) c ≡ true) ys
logged_all xs [] = tt
logged_all xs (y ∷ ys) =
    (logged_right xs (y ∷ ys) y (or_left (nat_eq y y) (logged ys y) (eq-eqb y y refl)), subst (λ (zs : List ℕ). AllByRecursion (λ c. logged zs c ≡ true) ys) (append_assoc xs (y ∷ []) ys) (logged_all (xs ++ y ∷ []) ys))

module _ (forms : List TyForm) (bound : List (Option Ty)) (good : Tree → Type 0) where
  abbrev meaning : ℕ → Tree
  meaning i = under forms (meant forms bound) i

  -- a number waits, is good, or means what one means that was seen
  pub data IsHandled (work seen : List ℕ) (c : ℕ) : Type 0 where
    waits : logged work c ≡ true → IsHandled work seen c
    fine : good (meaning c) → IsHandled work seen c
    met : (j : ℕ) → logged seen j ≡ true → meaning c ≡ meaning j → IsHandled work seen c

  -- a number that was seen: it is good if its parts are, and they are handled
  pub record IsClosed (work seen : List ℕ) (i : ℕ) : Type 0 where
    pub form : TyForm
    pub here : slice_get forms i ≡ Some form
    pub app : (v : TyVar) → form ≡ Var v → ⊥
    pub lift : AllByRecursion (λ c. good (meaning c)) (parts_of form) → good (meaning i)
    pub parts : AllByRecursion (IsHandled work seen) (parts_of form)

  pub record IsWalk (ty : ℕ) (work seen : List ℕ) : Type 0 where
    pub within : AllByRecursion (λ i. i < length forms) work
    pub root : IsHandled work seen ty
    pub closed : (i : ℕ) → logged seen i ≡ true → IsClosed work seen i

  module _ (rest after seen seen2 : List ℕ) (next : ℕ) (keep : (c : ℕ) → logged rest c ≡ true → logged after c ≡ true) (more : (i : ℕ) → logged seen i ≡ true → logged seen2 i ≡ true) (h : IsHandled after seen2 next) where
    handled_on : (c : ℕ) → IsHandled (rest ++ next ∷ []) seen c → IsHandled after seen2 c
    handled_on c (waits w) =
        logged_cases rest next c (IsHandled after seen2 c) w (λ e. waits (keep c e)) (λ e. subst (IsHandled after seen2) (sym e) h)
    handled_on c (fine g) = fine g
    handled_on c (met j s e) = met j (more j s) e

    all_on : (is : List ℕ) → AllByRecursion (IsHandled (rest ++ next ∷ []) seen) is → AllByRecursion (IsHandled after seen2) is
    all_on [] a = tt
    all_on (i ∷ is) a = (handled_on i a.0, all_on is a.1)

    -- the last number that waits is handled
    pub walk_step : (ty : ℕ) → AllByRecursion (λ i. i < length forms) after → ((i : ℕ) → logged seen2 i ≡ true → (logged seen i ≡ true → IsClosed after seen2 i) → IsClosed after seen2 i) → IsWalk ty (rest ++ next ∷ []) seen → IsWalk ty after seen2
    walk_step ty w added k =
        record {
          within = w;
          root = handled_on ty k.root;
          closed = λ i s. added i s (λ o. let c = k.closed i o in record { form = c.form; here = c.here; app = c.app; lift = c.lift; parts = all_on (parts_of c.form) c.parts });
        }

  pub walk_first : (ty : ℕ) → ty < length forms → IsWalk ty (ty ∷ []) []
  walk_first ty w =
      record { within = (w, tt); root = waits (or_left (nat_eq ty ty) false (eq-eqb ty ty refl)); closed = λ i s. cc }

  -- the last number is good, or means what one means that was seen
  pub walk_good : (ty next : ℕ) (rest seen : List ℕ) → AllByRecursion (λ i. i < length forms) rest → good (meaning next) → IsWalk ty (rest ++ next ∷ []) seen → IsWalk ty rest seen
  walk_good ty next rest seen w g k =
      walk_step rest rest seen seen next (λ c e. e) (λ i e. e) (fine g) ty w (λ i s f. f s) k

  pub walk_met : (ty next now : ℕ) (rest seen : List ℕ) → AllByRecursion (λ i. i < length forms) rest → logged seen now ≡ true → meaning next ≡ meaning now → IsWalk ty (rest ++ next ∷ []) seen → IsWalk ty rest seen
  walk_met ty next now rest seen w s e k =
      walk_step rest rest seen seen next (λ c o. o) (λ i o. o) (met now s e) ty w (λ i o f. f o) k

  -- it is seen for the first time, and its parts wait
  pub walk_visit : (ty next now : ℕ) (rest seen : List ℕ) (form : TyForm) → AllByRecursion (λ i. i < length forms) (rest ++ parts_of form) → slice_get forms now ≡ Some form → ((v : TyVar) → form ≡ Var v → ⊥) → (AllByRecursion (λ c. good (meaning c)) (parts_of form) → good (meaning now)) → meaning next ≡ meaning now → IsWalk ty (rest ++ next ∷ []) seen → IsWalk ty (rest ++ parts_of form) (seen ++ now ∷ [])
  walk_visit ty next now rest seen form w q n lift e k =
      walk_step
      rest
      (rest ++ parts_of form)
      seen
      (seen ++ now ∷ [])
      next
      (λ c o. logged_left rest (parts_of form) c o)
      (λ i o. logged_left seen (now ∷ []) i o)
      (met now (logged_here seen now) e)
      ty
      w
      (λ i s f. logged_cases seen now i (IsClosed (rest ++ parts_of form) (seen ++ now ∷ []) i) s f (λ o. subst (IsClosed (rest ++ parts_of form) (seen ++ now ∷ [])) (sym o) new))
      k
    where
      all_wait : (is : List ℕ) → AllByRecursion (λ c. logged (rest ++ parts_of form) c ≡ true) is → AllByRecursion (IsHandled (rest ++ parts_of form) (seen ++ now ∷ [])) is
      all_wait [] a = tt
      all_wait (i ∷ is) a = (waits a.0, all_wait is a.1)

      new : IsClosed (rest ++ parts_of form) (seen ++ now ∷ []) now
      new =
          record { form = form; here = q; app = n; lift = lift; parts = all_wait (parts_of form) (logged_all rest (parts_of form)) }

  -- nothing waits
  module _ (s : IsSolved forms bound) (ty : ℕ) (seen : List ℕ) (k : IsWalk ty [] seen) where
    all_good : (n : ℕ) (is : List ℕ) → ((i : ℕ) → logged seen i ≡ true → size (meaning i) ≤ n → good (meaning i)) → AllByRecursion (IsHandled [] seen) is → size (inst (meant forms bound) (listed (tree forms) is)) ≤ n → AllByRecursion (λ c. good (meaning c)) is
    all_good n [] f a l = tt
    all_good n (i ∷ is) f a l = (one a.0, all_good n is f a.1 (omega arith))
      where
        one : IsHandled [] seen i → good (meaning i)
        one (waits w) = cc
        one (fine g) = g
        one (met j o e) = subst good (sym e) (f j o (let z = ap size e in omega arith))

    seen_good : (n i : ℕ) → logged seen i ≡ true → size (meaning i) ≤ n → good (meaning i)
    seen_good zero i o l =
        let c = k.closed i o in
        let z = ap size (at_app forms bound s (meant forms bound) i c.form c.here c.app) in
        absurd (omega arith)
    seen_good (suc n) i o l =
        let c = k.closed i o in
        let z = ap size (at_app forms bound s (meant forms bound) i c.form c.here c.app) in
        c.lift (all_good n (parts_of c.form) (λ j p m. seen_good n j p m) c.parts (omega arith))

    pub walk_end : good (meaning ty)
    walk_end = go k.root
      where
        go : IsHandled [] seen ty → good (meaning ty)
        go (waits w) = cc
        go (fine g) = g
        go (met j o e) = subst good (sym e) (seen_good (size (meaning j)) j o (omega arith))

-- a set's answer at an insertion
pub visited : (seen : List ℕ) (n : ℕ) (first : Bool) (after : List ℕ) → first ≡ not (logged seen n) → after ≡ insert_key nat_eq seen n → IsVisit seen n first after
visited seen n first after b k = go (logged seen n) refl first b
  where
    go : (w : Bool) → logged seen n ≡ w → (first : Bool) → first ≡ not (logged seen n) → IsVisit seen n first after
    go true e true q = let x : true ≡ false = q ∙ ap not e in cc
    go true e false q = (e, k ∙ ap (λ c. if c then seen else seen ++ n ∷ []) e)
    go false e true q = (e, k ∙ ap (λ c. if c then seen else seen ++ n ∷ []) e)
    go false e false q = let x : false ≡ true = q ∙ ap not e in cc

-- what is left to do: what is not seen, and what waits
abbrev pub to_do : List TyForm → List ℕ → List ℕ → ℕ
to_do forms seen work = unvisited (logged seen) forms + length work

pub to_do_less : (forms : List TyForm) (seen rest : List ℕ) (next : ℕ) → to_do forms seen rest < to_do forms seen (rest ++ next ∷ [])
to_do_less forms seen rest next = omega (arith, length-append rest (next ∷ []))

pub to_do_visit : (forms : List TyForm) (seen rest : List ℕ) (next now : ℕ) (form : TyForm) → slice_get forms now ≡ Some form → logged seen now ≡ false → to_do forms (seen ++ now ∷ []) (rest ++ parts_of form) < to_do forms seen (rest ++ next ∷ [])
to_do_visit forms seen rest next now form q n =
    let w = unvisited_falls (logged seen) (logged (seen ++ now ∷ [])) forms now form q n (logged_here seen now) (logged_left seen (now ∷ [])) in
    omega (arith, length-append rest (next ∷ []), length-append rest (parts_of form))

pub visit_first : (seen : List ℕ) (n : ℕ) (first : Bool) (after : List ℕ) → IsVisit seen n first after → first ≡ true → (logged seen n ≡ false) × (after ≡ seen ++ n ∷ [])
visit_first seen n true after v e = v
visit_first seen n false after v e = cc

pub visit_again : (seen : List ℕ) (n : ℕ) (first : Bool) (after : List ℕ) → IsVisit seen n first after → first ≡ false → (logged seen n ≡ true) × (after ≡ seen)
visit_again seen n true after v e = cc
visit_again seen n false after v e = v

-- what holds of the lists after a visit
module _ (P : List ℕ → List ℕ → Type 0) (seen after work2 rest : List ℕ) (now : ℕ) (first : Bool) (v : IsVisit seen now first after) where
  pub after_first : (parts : List ℕ) → first ≡ true → work2 ≡ rest ++ parts → P (rest ++ parts) (seen ++ now ∷ []) → P work2 after
  after_first parts e q h =
      subst (λ (is : List ℕ). P is after) (sym q) (subst (λ (is : List ℕ). P (rest ++ parts) is) (sym (visit_first seen now first after v e).1) h)

  pub after_again : first ≡ false → (logged seen now ≡ true → P rest seen) → P rest after
  after_again e h =
      let w = visit_again seen now first after v e in subst (λ (is : List ℕ). P rest is) (sym w.1) (h w.0)

pub to_do_first : (forms : List TyForm) (seen after work work2 rest : List ℕ) (next now : ℕ) (form : TyForm) (first : Bool) → slice_get forms now ≡ Some form → IsVisit seen now first after → first ≡ true → work ≡ rest ++ next ∷ [] → work2 ≡ rest ++ parts_of form → to_do forms after work2 < to_do forms seen work
to_do_first forms seen after work work2 rest next now form first q v e w x =
    subst
    (λ (is : List ℕ). to_do forms after work2 < to_do forms seen is)
    (sym w)
    (after_first (λ is os. to_do forms os is < to_do forms seen (rest ++ next ∷ [])) seen after work2 rest now first v (parts_of form) e x (to_do_visit forms seen rest next now form q (visit_first seen now first after v e).0))
