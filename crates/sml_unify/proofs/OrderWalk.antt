-- The search for an order: each form is opened once, and is noted once its parts were come to.
use Rattle.std.proofs.Common.{◌≡◌, ℕ, ◌+◌, ◌<◌, ◌≤◌, true, false, List, [], ◌∷◌, ◌++◌, length, Option, Some, refl, sym, ap, ◌∙◌, subst, arith, map, nat_eq, inl, inr, append_assoc, length-append}
use Rattle.std.specs.Prelude.{slice_get, ◌⊎◌}
use Rattle.std.specs.List.{AllByRecursion}
use Rattle.std.proofs.lemmas.Bool.{eqb-true, eq-eqb}
use Rattle.std.proofs.lemmas.List.{length-map, map-append}
use Rattle.sml_types.specs.declared.types.Ty.{Ty}
use Rattle.sml_types.specs.declared.types.TyVar.{TyVar}
use Rattle.sml_types.specs.declared.types.TyForm.{TyForm}
use Rattle.sml_types.specs.declared.types.TyForm.TheVariants.{Var, Fields, Arrow, Named}
use Rattle.sml_types.specs.Tree.{Tree, App, Part, inst, size}
use Rattle.sml_types.specs.Forms.{tree, listed, parts_of, head_of, form_tree}
use Rattle.sml_types.proofs.TreeFacts.{either, or_left}
use Rattle.sml_unify.specs.declared.order.Headed.{Headed}
use Rattle.sml_unify.specs.declared.order.Step.{Step}
use Rattle.sml_unify.specs.declared.order.Step.TheVariants.{Reach, Note}
use Rattle.sml_unify.specs.Solved.{IsSolved, under, meant}
use Rattle.sml_unify.specs.Steps.{logged}
use Rattle.sml_unify.specs.Orders.{reached, IsReady, AreReady, IsHeaded, IsOrder, reach, opening}
use Rattle.sml_unify.specs.Copies.{IsMeantAs}
use Rattle.sml_unify.proofs.Meant.{meant_solves}
use Rattle.sml_unify.proofs.Walks.{all_append, all_left, all_right, at_app, at_var, form_app, parts_within}
use Rattle.sml_unify.proofs.Unvisited.{unvisited, unvisited_falls}
use Rattle.sml_unify.proofs.Visits.{logged_left, logged_right, logged_here, logged_cases, logged_all}

abbrev target : Step → ℕ
target (Reach t) = t.0
target (Note e) = e.ty.0

abbrev targets : List Step → List ℕ
targets steps = map target steps

-- the forms that are open
abbrev opened : List Step → List ℕ
opened [] = []
opened (Reach t ∷ steps) = opened steps
opened (Note e ∷ steps) = e.head.0 ∷ opened steps

abbrev heads : List Headed → List ℕ
heads order = map (λ e. e.head.0) order

opened_append : (xs ys : List Step) → opened (xs ++ ys) ≡ opened xs ++ opened ys
opened_append [] ys = refl
opened_append (Reach t ∷ xs) ys = opened_append xs ys
opened_append (Note e ∷ xs) ys = ap (λ is. e.head.0 ∷ is) (opened_append xs ys)

opened_reach : (is : List ℕ) → opened (map reach is) ≡ []
opened_reach [] = refl
opened_reach (i ∷ is) = opened_reach is

targets_reach : (is : List ℕ) → targets (map reach is) ≡ is
targets_reach [] = refl
targets_reach (i ∷ is) = ap (λ js. i ∷ js) (targets_reach is)

-- in one list or in another
abbrev IsIn : List ℕ → List ℕ → ℕ → Type 0
IsIn xs ys c = (logged xs c ≡ true) ⊎ (logged ys c ≡ true)

module _ (forms : List TyForm) (bound : List (Option Ty)) where
  abbrev meaning : ℕ → Tree
  meaning i = under forms (meant forms bound) i

  -- a form that is open: its parts were come to or wait, and all that waits behind it is smaller
  pub record IsPending (done : List ℕ) (above : List Step) (e : Headed) : Type 0 where
    pub form : TyForm
    pub here : slice_get forms e.head.0 ≡ Some form
    pub headed : IsHeaded forms bound e
    pub parts : AllByRecursion (IsIn done (targets above)) (parts_of form)
    pub smaller : AllByRecursion (λ t. size (meaning (target t)) < size (meaning e.head.0)) above

  abbrev AreSteps : List ℕ → List Step → Type 0
  AreSteps done [] = Unit {0}
  AreSteps done (Reach t ∷ above) = (t.0 < length forms) × AreSteps done above
  AreSteps done (Note e ∷ above) = IsPending done above e × AreSteps done above

  pub record IsOrdering (ty : ℕ) (work : List Step) (seen : List ℕ) (order : List Headed) : Type 0 where
    pub steps : AreSteps (reached order) work
    pub ready : AreReady forms [] order
    pub headed : AllByRecursion (IsHeaded forms bound) order
    pub root : IsIn (reached order) (targets work) ty
    pub opens : (n : ℕ) → logged seen n ≡ true → IsIn (heads order) (opened work) n

  pub ordering_first : (ty : Ty) → ty.0 < length forms → IsOrdering ty.0 (Reach ty ∷ []) [] []
  ordering_first ty w =
      record {
        steps = (w, tt);
        ready = tt;
        headed = tt;
        root = inr (logged_here [] ty.0);
        opens = λ n e. cc;
      }

  -- the last step is replaced
  module _ (done done2 : List ℕ) (t : Step) (ts : List Step) (grow : (c : ℕ) → logged done c ≡ true → logged done2 c ≡ true) (held : IsIn done2 (targets ts) (target t)) where
    is_in : (below : List Step) (c : ℕ) → IsIn done (targets (below ++ t ∷ [])) c → IsIn done2 (targets (below ++ ts)) c
    is_in below c (inl e) = inl (grow c e)
    is_in below c (inr e) =
        logged_cases
        (targets below)
        (target t)
        c
        (IsIn done2 (targets (below ++ ts)) c)
        (ap (λ is. logged is c) (sym (map-append target below (t ∷ []))) ∙ e)
        (λ o. inr (ap (λ is. logged is c) (map-append target below ts) ∙ logged_left (targets below) (targets ts) c o))
        (λ n. subst (IsIn done2 (targets (below ++ ts))) (sym n) (last held))
      where
        last : IsIn done2 (targets ts) (target t) → IsIn done2 (targets (below ++ ts)) (target t)
        last (inl o) = inl o
        last (inr o) = inr (ap (λ is. logged is (target t)) (map-append target below ts) ∙ logged_right (targets below) (targets ts) (target t) o)

    all_in : (below : List Step) (is : List ℕ) → AllByRecursion (IsIn done (targets (below ++ t ∷ []))) is → AllByRecursion (IsIn done2 (targets (below ++ ts))) is
    all_in below [] h = tt
    all_in below (i ∷ is) h = (is_in below i h.0, all_in below is h.1)

    smaller_all : (n : ℕ) (us : List Step) → AllByRecursion (λ u. size (meaning (target u)) ≤ size (meaning (target t))) us → size (meaning (target t)) < n → AllByRecursion (λ u. size (meaning (target u)) < n) us
    smaller_all n [] h l = tt
    smaller_all n (u ∷ us) h l = (let a = h.0 in omega arith, smaller_all n us h.1 l)

    replaced : (small : AllByRecursion (λ u. size (meaning (target u)) ≤ size (meaning (target t))) ts) (new : AreSteps done2 ts) (below : List Step) → AreSteps done (below ++ t ∷ []) → AreSteps done2 (below ++ ts)
    replaced small new [] h = new
    replaced small new (Reach u ∷ below) h = (h.0, replaced small new below h.1)
    replaced small new (Note e ∷ below) h = (
      record {
        form = h.0.form;
        here = h.0.here;
        headed = h.0.headed;
        parts = all_in below (parts_of h.0.form) h.0.parts;
        smaller =
            let P : Step → Type 0 = λ u. size (meaning (target u)) < size (meaning e.head.0) in
            all_append P below ts (all_left P below (t ∷ []) h.0.smaller) (smaller_all (size (meaning e.head.0)) ts small (all_right P below (t ∷ []) h.0.smaller).0);
      },
      replaced small new below h.1,
    )

  last_step : (done : List ℕ) (below : List Step) (t : Step) → AreSteps done (below ++ t ∷ []) → AreSteps done (t ∷ [])
  last_step done [] t h = h
  last_step done (Reach u ∷ below) t h = last_step done below t h.1
  last_step done (Note e ∷ below) t h = last_step done below t h.1

  -- what waits stands for less than each open form below it
  not_open : (done : List ℕ) (below : List Step) (t : Ty) (n : ℕ) → AreSteps done (below ++ Reach t ∷ []) → meaning t.0 ≡ meaning n → logged (opened (below ++ Reach t ∷ [])) n ≡ true → ⊥
  not_open done [] t n h e o = cc
  not_open done (Reach u ∷ below) t n h e o = not_open done below t n h.1 e o
  not_open done (Note x ∷ below) t n h e o =
      either
      (nat_eq n x.head.0)
      (logged (opened (below ++ Reach t ∷ [])) n)
      ⊥
      o
      (λ q.
      let same : n ≡ x.head.0 = eqb-true n x.head.0 q in
      let less = (all_right (λ u. size (meaning (target u)) < size (meaning x.head.0)) below (Reach t ∷ []) h.0.smaller).0 in
      let k = ap size e ∙ ap (λ i. size (meaning i)) same in
      omega arith)
      (λ q. not_open done below t n h.1 e q)

  ready_push : (before : List ℕ) (order : List Headed) (e : Headed) → AreReady forms before order → IsReady forms (before ++ reached order) e → AreReady forms before (order ++ e ∷ [])
  ready_push before [] e h r = (subst (λ is. IsReady forms is e) (nothing before) r, tt)
    where
      nothing : (is : List ℕ) → is ++ [] ≡ is
      nothing [] = refl
      nothing (i ∷ is) = ap (λ js. i ∷ js) (nothing is)
  ready_push before (x ∷ order) e h r =
      (h.0, ready_push (before ++ x.ty.0 ∷ []) order e h.1 (subst (λ is. IsReady forms is e) (sym (append_assoc before (x.ty.0 ∷ []) (reached order))) r))

  all_logged : (xs ys is : List ℕ) → AllByRecursion (λ c. logged xs c ≡ true) is → AllByRecursion (λ c. logged (xs ++ ys) c ≡ true) is
  all_logged xs ys [] h = tt
  all_logged xs ys (i ∷ is) h = (logged_left xs ys i h.0, all_logged xs ys is h.1)

  -- the parts of a form that was noted were come to
  ready_at : (before : List ℕ) (order : List Headed) (e : Headed) → AreReady forms before order → logged (heads order) e.head.0 ≡ true → IsReady forms (before ++ reached order) e
  ready_at before [] e h o = cc
  ready_at before (x ∷ order) e h o =
      either
      (nat_eq e.head.0 x.head.0)
      (logged (heads order) e.head.0)
      (IsReady forms (before ++ x.ty.0 ∷ reached order) e)
      o
      (λ q. record { form = h.0.form; here = ap (slice_get forms) (eqb-true e.head.0 x.head.0 q) ∙ h.0.here; parts = all_logged before (x.ty.0 ∷ reached order) (parts_of h.0.form) h.0.parts })
      (λ q. subst (λ is. IsReady forms is e) (append_assoc before (x.ty.0 ∷ []) (reached order)) (ready_at (before ++ x.ty.0 ∷ []) order e h.1 q))

  -- nothing waits
  pub ordering_end : (ty : ℕ) (seen : List ℕ) (order : List Headed) → IsOrdering ty [] seen order → IsOrder forms bound ty order
  ordering_end ty seen order k = record { ready = k.ready; headed = k.headed; root = root k.root }
    where
      root : IsIn (reached order) [] ty → logged (reached order) ty ≡ true
      root (inl e) = e
      root (inr e) = cc

  module _ (s : IsSolved forms bound) (ty : ℕ) (work rest : List Step) (seen : List ℕ) (order : List Headed) (k : IsOrdering ty work seen order) where
    grow : (e : Headed) (c : ℕ) → logged (reached order) c ≡ true → logged (reached (order ++ e ∷ [])) c ≡ true
    grow e c o = ap (λ is. logged is c) (map-append (λ x. x.ty.0) order (e ∷ [])) ∙ logged_left (reached order) (e.ty.0 ∷ []) c o

    own : (e : Headed) → logged (reached (order ++ e ∷ [])) e.ty.0 ≡ true
    own e = ap (λ is. logged is e.ty.0) (map-append (λ x. x.ty.0) order (e ∷ [])) ∙ logged_here (reached order) e.ty.0

    heads_more : (e : Headed) (n : ℕ) → logged (heads order) n ≡ true → logged (heads (order ++ e ∷ [])) n ≡ true
    heads_more e n o = ap (λ is. logged is n) (map-append (λ x. x.head.0) order (e ∷ [])) ∙ logged_left (heads order) (e.head.0 ∷ []) n o

    heads_own : (e : Headed) (n : ℕ) → n ≡ e.head.0 → logged (heads (order ++ e ∷ [])) n ≡ true
    heads_own e n q = ap (λ is. logged is n) (map-append (λ x. x.head.0) order (e ∷ [])) ∙ ap (logged (heads order ++ e.head.0 ∷ [])) q ∙ logged_here (heads order) e.head.0

    nothing : {A : Type 0} (xs : List A) → xs ++ [] ≡ xs
    nothing [] = refl
    nothing (x ∷ xs) = ap (λ ys. x ∷ ys) (nothing xs)

    -- one more type is noted
    noted : (t : Step) (e : Headed) → work ≡ rest ++ t ∷ [] → target t ≡ e.ty.0 → IsReady forms (reached order) e → IsHeaded forms bound e → ((n : ℕ) → logged (opened (rest ++ t ∷ [])) n ≡ true → IsIn (heads (order ++ e ∷ [])) (opened rest) n) → IsOrdering ty rest seen (order ++ e ∷ [])
    noted t e whole same r h still =
        let held : IsIn (reached (order ++ e ∷ [])) (targets []) (target t) = inl (ap (logged (reached (order ++ e ∷ []))) same ∙ own e) in
        record {
          steps = subst (AreSteps (reached (order ++ e ∷ []))) (nothing rest) (replaced (reached order) (reached (order ++ e ∷ [])) t [] (grow e) held tt tt rest (subst (AreSteps (reached order)) whole k.steps));
          ready = ready_push [] order e k.ready r;
          headed = all_append (IsHeaded forms bound) order (e ∷ []) k.headed (h, tt);
          root = subst (λ (ws : List Step). IsIn (reached (order ++ e ∷ [])) (targets ws) ty) (nothing rest) (is_in (reached order) (reached (order ++ e ∷ [])) t [] (grow e) held rest ty (subst (λ (ws : List Step). IsIn (reached order) (targets ws) ty) whole k.root));
          opens = λ n o. from n (subst (λ (ws : List Step). IsIn (heads order) (opened ws) n) whole (k.opens n o));
        }
      where
        from : (n : ℕ) → IsIn (heads order) (opened (rest ++ t ∷ [])) n → IsIn (heads (order ++ e ∷ [])) (opened rest) n
        from n (inl o) = inl (heads_more e n o)
        from n (inr o) = still n o

    -- the parts of an open form were come to
    pub ordering_note : (e : Headed) → work ≡ rest ++ Note e ∷ [] → IsOrdering ty rest seen (order ++ e ∷ [])
    ordering_note e whole =
        let p = (last_step (reached order) rest (Note e) (subst (AreSteps (reached order)) whole k.steps)).0 in
        noted (Note e) e whole refl (record { form = p.form; here = p.here; parts = come (parts_of p.form) p.parts }) p.headed still
      where
        come : (is : List ℕ) → AllByRecursion (IsIn (reached order) []) is → AllByRecursion (λ c. logged (reached order) c ≡ true) is
        come [] h = tt
        come (i ∷ is) h = (one h.0, come is h.1)
          where
            one : IsIn (reached order) [] i → logged (reached order) i ≡ true
            one (inl o) = o
            one (inr o) = cc

        still : (n : ℕ) → logged (opened (rest ++ Note e ∷ [])) n ≡ true → IsIn (heads (order ++ e ∷ [])) (opened rest) n
        still n o =
            logged_cases (opened rest) e.head.0 n (IsIn (heads (order ++ e ∷ [])) (opened rest) n) (ap (λ is. logged is n) (sym (opened_append rest (Note e ∷ []))) ∙ o) (λ q. inr q) (λ q. inl (heads_own e n q))

    pub ordering_there : (t : Ty) → work ≡ rest ++ Reach t ∷ [] → t.0 < length forms
    ordering_there t whole = (last_step (reached order) rest (Reach t) (subst (AreSteps (reached order)) whole k.steps)).0

    -- a type is come to
    module _ (t now : Ty) (whole : work ≡ rest ++ Reach t ∷ []) (headed : IsHeaded forms bound (record { ty = t; head = now })) where
      abbrev entry : Headed
      entry = record { ty = t; head = now }

      steps : AreSteps (reached order) (rest ++ Reach t ∷ [])
      steps = subst (AreSteps (reached order)) whole k.steps

      equal : meaning t.0 ≡ meaning now.0
      equal = headed.same (meant forms bound) (meant_solves forms bound s.acyclic)

      opened_rest : opened (rest ++ Reach t ∷ []) ≡ opened rest
      opened_rest = opened_append rest (Reach t ∷ []) ∙ nothing (opened rest)

      -- its form was noted
      pub ordering_again : logged seen now.0 ≡ true → IsOrdering ty rest seen (order ++ entry ∷ [])
      ordering_again o =
          noted (Reach t) entry whole refl (ready (subst (λ (ws : List Step). IsIn (heads order) (opened ws) now.0) whole (k.opens now.0 o))) headed (λ n q. inr (ap (λ is. logged is n) (sym opened_rest) ∙ q))
        where
          ready : IsIn (heads order) (opened (rest ++ Reach t ∷ [])) now.0 → IsReady forms (reached order) entry
          ready (inl q) = ready_at [] order entry k.ready q
          ready (inr q) = absurd (not_open (reached order) rest t now.0 steps equal q)

      -- its form is opened
      module _ (form : TyForm) (there : now.0 < length forms) (here : slice_get forms now.0 ≡ Some form) where
        parts_small : (is : List ℕ) (n : ℕ) → size (inst (meant forms bound) (listed (tree forms) is)) < n → AllByRecursion (λ u. size (meaning (target u)) < n) (map reach is)
        parts_small [] n l = tt
        parts_small (i ∷ is) n l = (omega arith, parts_small is n (omega arith))

        size_app : ((v : TyVar) → form ≡ Var v → ⊥) → size (inst (meant forms bound) (listed (tree forms) (parts_of form))) < size (meaning now.0)
        size_app n = let z = ap size (at_app forms bound s (meant forms bound) now.0 form here n) in omega arith

        small : AllByRecursion (λ u. size (meaning (target u)) < size (meaning now.0)) (map reach (parts_of form))
        small = go form refl
          where
            go : (f : TyForm) → form ≡ f → AllByRecursion (λ u. size (meaning (target u)) < size (meaning now.0)) (map reach (parts_of f))
            go (Var v) e = tt
            go (Fields fields) e = subst (λ (f : TyForm). AllByRecursion (λ u. size (meaning (target u)) < size (meaning now.0)) (map reach (parts_of f))) e (parts_small (parts_of form) (size (meaning now.0)) (size_app (λ v q. let w = sym e ∙ q in cc)))
            go (Arrow a b) e = subst (λ (f : TyForm). AllByRecursion (λ u. size (meaning (target u)) < size (meaning now.0)) (map reach (parts_of f))) e (parts_small (parts_of form) (size (meaning now.0)) (size_app (λ v q. let w = sym e ∙ q in cc)))
            go (Named m args) e = subst (λ (f : TyForm). AllByRecursion (λ u. size (meaning (target u)) < size (meaning now.0)) (map reach (parts_of f))) e (parts_small (parts_of form) (size (meaning now.0)) (size_app (λ v q. let w = sym e ∙ q in cc)))

        weaker : (us : List Step) → AllByRecursion (λ u. size (meaning (target u)) < size (meaning now.0)) us → AllByRecursion (λ u. size (meaning (target u)) ≤ size (meaning t.0)) us
        weaker [] h = tt
        weaker (u ∷ us) h = (let a = h.0 in let z = ap size equal in omega arith, weaker us h.1)

        all_wait : (js is : List ℕ) → AllByRecursion (λ c. logged js c ≡ true) is → AllByRecursion (IsIn (reached order) js) is
        all_wait js [] h = tt
        all_wait js (i ∷ is) h = (inr h.0, all_wait js is h.1)

        reach_steps : (is : List ℕ) → AllByRecursion (λ c. c < length forms) is → AreSteps (reached order) (map reach is)
        reach_steps [] h = tt
        reach_steps (i ∷ is) h = (h.0, reach_steps is h.1)

        new : AreSteps (reached order) (opening entry form)
        new = (
          record {
            form = form;
            here = here;
            headed = headed;
            parts = all_wait (targets (map reach (parts_of form))) (parts_of form) (subst (λ (is : List ℕ). AllByRecursion (λ c. logged is c ≡ true) (parts_of form)) (sym (targets_reach (parts_of form))) (logged_all [] (parts_of form)));
            smaller = small;
          },
          reach_steps (parts_of form) (parts_within forms bound s now.0 form there here),
        )

        held : IsIn (reached order) (targets (opening entry form)) t.0
        held = inr (or_left (nat_eq t.0 t.0) (logged (targets (map reach (parts_of form))) t.0) (eq-eqb t.0 t.0 refl))

        pub ordering_open : IsOrdering ty (rest ++ opening entry form) (seen ++ now.0 ∷ []) order
        ordering_open =
            record {
              steps = replaced (reached order) (reached order) (Reach t) (opening entry form) (λ c o. o) held (omega arith, weaker (map reach (parts_of form)) small) new rest steps;
              ready = k.ready;
              headed = k.headed;
              root = is_in (reached order) (reached order) (Reach t) (opening entry form) (λ c o. o) held rest ty (subst (λ (ws : List Step). IsIn (reached order) (targets ws) ty) whole k.root);
              opens = λ n o. logged_cases seen now.0 n (IsIn (heads order) (opened (rest ++ opening entry form)) n) o (λ q. from n (subst (λ (ws : List Step). IsIn (heads order) (opened ws) n) whole (k.opens n q))) (λ q. inr (ap (λ is. logged is n) (opened_append rest (opening entry form)) ∙ logged_right (opened rest) (opened (opening entry form)) n (or_left (nat_eq n now.0) (logged (opened (map reach (parts_of form))) n) (eq-eqb n now.0 q))));
            }
          where
            from : (n : ℕ) → IsIn (heads order) (opened (rest ++ Reach t ∷ [])) n → IsIn (heads order) (opened (rest ++ opening entry form)) n
            from n (inl o) = inl o
            from n (inr o) = inr (ap (λ is. logged is n) (opened_append rest (opening entry form)) ∙ logged_left (opened rest) (opened (opening entry form)) n (ap (λ is. logged is n) (sym opened_rest) ∙ o))

        pub opening_less : logged seen now.0 ≡ false → unvisited (logged (seen ++ now.0 ∷ [])) forms + length (rest ++ opening entry form) < unvisited (logged seen) forms + length (rest ++ Reach t ∷ [])
        opening_less n =
            let w = unvisited_falls (logged seen) (logged (seen ++ now.0 ∷ [])) forms now.0 form here n (logged_here seen now.0) (logged_left seen (now.0 ∷ [])) in
            let a = length-append rest (opening entry form) in
            let b = length-append rest (Reach t ∷ []) in
            let c = length-map (parts_of form) reach in
            omega arith

-- what an order's types mean
listed_under : (f : TyVar → Tree) (t : ℕ → Tree) (is : List ℕ) → inst f (listed t is) ≡ listed (λ i. inst f (t i)) is
listed_under f t [] = refl
listed_under f t (i ∷ is) = ap (Part (inst f (t i))) (listed_under f t is)

pub order_meant : (forms : List TyForm) (bound : List (Option Ty)) → IsSolved forms bound → (order : List Headed) → AllByRecursion (IsHeaded forms bound) order → AllByRecursion (IsMeantAs (λ i. under forms (meant forms bound) i) forms) order
order_meant forms bound s [] h = tt
order_meant forms bound s (e ∷ order) h = (
  (h.0.same (meant forms bound) (meant_solves forms bound s.acyclic), (λ form q. go form q)),
  order_meant forms bound s order h.1,
)
  where
    app : (form : TyForm) → slice_get forms e.head.0 ≡ Some form → ((v : TyVar) → form ≡ Var v → ⊥) → under forms (meant forms bound) e.head.0 ≡ form_tree (λ i. under forms (meant forms bound) i) form
    app form q n =
        at_app forms bound s (meant forms bound) e.head.0 form q n
        ∙ ap (App (head_of form)) (listed_under (meant forms bound) (tree forms) (parts_of form))
        ∙ sym (form_app (λ i. under forms (meant forms bound) i) form n)

    go : (form : TyForm) → slice_get forms e.head.0 ≡ Some form → under forms (meant forms bound) e.head.0 ≡ form_tree (λ i. under forms (meant forms bound) i) form
    go (Var v) q = at_var forms bound s e.head.0 v q h.0.free
    go (Fields fields) q = app (Fields fields) q (λ v n. cc)
    go (Arrow a b) q = app (Arrow a b) q (λ v n. cc)
    go (Named m args) q = app (Named m args) q (λ v n. cc)
