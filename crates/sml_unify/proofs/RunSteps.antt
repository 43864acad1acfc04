-- The last task is worked off.
use Rattle.std.proofs.Common.{◌≡◌, ℕ, ◌<◌, List, [], ◌∷◌, ◌++◌, Option, Some, None, sym, ap, ◌∙◌, subst, get_or}
use Rattle.std.specs.Prelude.{slice_get, map, Ok, Err}
use Rattle.std.proofs.lemmas.Option.{slice_get-get_or}
use Rattle.sml_types.specs.declared.types.Ty.{Ty}
use Rattle.sml_types.specs.declared.types.TyVar.{TyVar}
use Rattle.sml_types.specs.declared.types.TyForm.{TyForm}
use Rattle.sml_types.specs.declared.types.TyForm.TheVariants.{Var, Arrow}
use Rattle.sml_types.specs.Forms.{parts_of}
use Rattle.sml_unify.specs.declared.pair.Pair.{Pair}
use Rattle.sml_unify.specs.declared.task.Task.{Task}
use Rattle.sml_unify.specs.declared.task.Task.TheVariants.{Unify, Link}
use Rattle.sml_unify.specs.declared.error.UnifyError.{UnifyError}
use Rattle.sml_unify.specs.declared.error.UnifyError.TheVariants.{Clash, Cycle, NoEquality, NoMemory}
use Rattle.sml_unify.specs.Solved.{Substitution, Solves, IsSolved, IsSameType, IsEqualPair, ArePairs, IsPair, under}
use Rattle.sml_unify.specs.Simplified.{IsBinding, IsSimplified}
use Rattle.sml_unify.specs.Links.{IsLinked, Leads, AreLinks}
use Rattle.sml_unify.specs.Tasks.{pairs_of, IsFacing, AreApps}
use Rattle.sml_unify.specs.Runs.{IsLike, AreForms, IsOpened}
use Rattle.sml_unify.proofs.Walks.{all_left, all_right}
use Rattle.sml_unify.proofs.Pairs as pairs
use Rattle.sml_unify.proofs.Walks as walks
use Rattle.sml_unify.proofs.Steps.{IsHead, IsTaken, taken, next_same, drop_settled, clash, parts_same}
use Rattle.sml_unify.proofs.LinkFacts.{leads_same, leads_there, leads_app}
use Rattle.sml_unify.proofs.Runs.{IsRun, IsTask, left_over, pairs_append, pairs_map, pairs_within, run_first, link_run, link_less, drop_run, drop_less, open_run, open_less}

pub run_start : (forms : List TyForm) (bound : List (Option Ty)) (tasks : List Task) (ps : List Pair) (link : ℕ → Option Ty) → tasks ≡ map Unify ps → ArePairs forms ps → AreLinks forms bound link → IsRun forms bound (pairs_of tasks) tasks link
run_start forms bound tasks ps link e w l =
    subst
    (λ (ts : List Task). IsRun forms bound (pairs_of ts) ts link)
    (sym e)
    (subst (λ (qs : List Pair). IsRun forms bound qs (map Unify ps) link) (sym (pairs_map ps)) (run_first forms bound ps link w l))

module _ (forms : List TyForm) (bound : List (Option Ty)) (s : IsSolved forms bound) (before : List Pair) (tasks rest : List Task) (link : ℕ → Option Ty) (p : Pair) where
  -- a pair is linked
  module _ (whole : tasks ≡ rest ++ Link p ∷ []) (after : ℕ → Option Ty) (l : IsLinked link p.left.0 p.right after) where
    pub linked_run : IsRun forms bound before tasks link → IsRun forms bound before rest after
    linked_run k = link_run forms bound s before rest link p after (subst (λ (ts : List Task). IsRun forms bound before ts link) whole k) l

    pub linked_less : left_over forms bound after rest < left_over forms bound link tasks
    linked_less = subst (λ (ts : List Task). left_over forms bound after rest < left_over forms bound link ts) (sym whole) (link_less forms bound s before rest link p after l)

  -- a pair is to be made equal
  module _ (whole : tasks ≡ rest ++ Unify p ∷ []) (k : IsRun forms bound before tasks link) where
    here : IsRun forms bound before (rest ++ Unify p ∷ []) link
    here = subst (λ (ts : List Task). IsRun forms bound before ts link) whole k

    pub in_range : IsPair forms p
    in_range = (all_right (IsTask forms bound) rest (Unify p ∷ []) here.within).0

    last : IsTaken forms bound before (pairs_of (rest ++ Unify p ∷ [])) (pairs_of rest) p
    last = taken forms bound before (pairs_of (rest ++ Unify p ∷ [])) (pairs_of rest) p (pairs_within forms bound (rest ++ Unify p ∷ []) here.within) here.same (pairs_append rest (Unify p ∷ []))

    pub settled_run : ((f : Substitution) → Solves forms bound f → IsEqualPair forms f p) → IsRun forms bound before rest link
    settled_run equal =
        drop_run forms bound s before rest link p here equal (drop_settled forms bound s before (pairs_of (rest ++ Unify p ∷ [])) (pairs_of rest) p last equal)

    pub settled_less : left_over forms bound link rest < left_over forms bound link tasks
    settled_less = subst (λ (ts : List Task). left_over forms bound link rest < left_over forms bound link ts) (sym whole) (drop_less forms bound s before rest link p)

    pub binds : (q : Pair) → IsBinding forms bound q → IsFacing forms bound p q → IsSimplified forms bound before (pairs_of rest) (Ok (Some q))
    binds q b f = (b, last.rest_within, next_same forms bound s before (pairs_of (rest ++ Unify p ∷ [])) (pairs_of rest) p last q b f)

    -- two forms that are no variables, and those that stand for them
    module _ (q : Pair) (apps : AreApps forms bound p q) (i j : Ty) (l : Leads link q.left.0 i.0) (r : Leads link q.right.0 j.0) where
      abbrev found : Pair
      found = record { left = i; right = j }

      pub found_within : IsPair forms found
      found_within =
          (leads_there forms bound link here.links q.left.0 i.0 apps.within.0 l, leads_there forms bound link here.links q.right.0 j.0 apps.within.1 r)

      pub found_left : (v : TyVar) → slice_get forms i.0 ≡ Some (Var v) → ⊥
      found_left = leads_app forms bound link here.links q.left.0 i.0 apps.left l

      pub found_right : (v : TyVar) → slice_get forms j.0 ≡ Some (Var v) → ⊥
      found_right = leads_app forms bound link here.links q.right.0 j.0 apps.right r

      left_same : IsSameType forms bound p.left.0 i.0
      left_same f g = apps.left_same f g ∙ leads_same forms bound link here.links q.left.0 i.0 l f g

      right_same : IsSameType forms bound p.right.0 j.0
      right_same f g = apps.right_same f g ∙ leads_same forms bound link here.links q.right.0 j.0 r f g

      pub joined_run : i.0 ≡ j.0 → IsRun forms bound before rest link
      joined_run e = settled_run (λ f g. left_same f g ∙ ap (under forms f) e ∙ sym (right_same f g))

      left_head : IsHead forms bound p.left.0 i.0
      left_head = record { there = found_within.0; free = λ v e. absurd (found_left v e); same = left_same }

      right_head : IsHead forms bound p.right.0 j.0
      right_head = record { there = found_within.1; free = λ v e. absurd (found_right v e); same = right_same }

      dummy : TyForm
      dummy = Arrow (record { 0 = 0 }) (record { 0 = 0 })

      a : TyForm
      a = get_or forms i.0 dummy

      b : TyForm
      b = get_or forms j.0 dummy

      at_a : slice_get forms i.0 ≡ Some a
      unfolding a
      at_a = slice_get-get_or forms i.0 dummy found_within.0

      at_b : slice_get forms j.0 ≡ Some b
      unfolding b
      at_b = slice_get-get_or forms j.0 dummy found_within.1

      no_a : (v : TyVar) → a ≡ Var v → ⊥
      no_a v e = found_left v (at_a ∙ ap Some e)

      no_b : (v : TyVar) → b ≡ Var v → ⊥
      no_b v e = found_right v (at_b ∙ ap Some e)

      both : AreForms forms found a b
      both = record { left = at_a; right = at_b }

      pub clashed : (after : List Task) (e : UnifyError) → IsOpened forms found rest after (Err e) → IsSimplified forms bound before (pairs_of after) (Err e)
      clashed after Clash o =
          clash forms bound s before (pairs_of (rest ++ Unify p ∷ [])) (pairs_of rest) p last i j left_head right_head a b at_a at_b no_a no_b (λ d. o a b both d)
      clashed after Cycle o = absurd o
      clashed after NoEquality o = absurd o
      clashed after NoMemory o = tt

      module _ (after : List Task) (o : IsOpened forms found rest after (Ok tt)) (li : link i.0 ≡ None) (lj : link j.0 ≡ None) (d : i.0 ≡ j.0 → ⊥) where
        like : IsLike a b
        like = (o a b both).0

        pub opened_run : IsRun forms bound before after link
        opened_run =
            subst
            (λ (ts : List Task). IsRun forms bound before ts link)
            (sym (o a b both).1)
            (open_run forms bound s before rest link p found here found_within a b at_a at_b no_a no_b left_same right_same like li lj d (pairs.parts_within forms (parts_of a) (parts_of b) (walks.parts_within forms bound s i.0 a found_within.0 at_a) (walks.parts_within forms bound s j.0 b found_within.1 at_b)) (parts_same forms bound s before (pairs_of (rest ++ Unify p ∷ [])) (pairs_of rest) p last i j left_head right_head a b at_a at_b no_a no_b like))

        pub opened_less : left_over forms bound link after < left_over forms bound link tasks
        opened_less =
            subst
            (λ (ts : List Task). left_over forms bound link after < left_over forms bound link ts)
            (sym whole)
            (subst (λ (ts : List Task). left_over forms bound link ts < left_over forms bound link (rest ++ Unify p ∷ [])) (sym (o a b both).1) (open_less forms bound s before rest link p found here found_within a b at_a at_b no_a no_b left_same right_same like li lj d))

-- after an error nothing is said of what is left
pub simplified_error : (forms : List TyForm) (bound : List (Option Ty)) (before left after : List Pair) (e : UnifyError) → IsSimplified forms bound before left (Err e) → IsSimplified forms bound before after (Err e)
simplified_error forms bound before left after Clash h = h
simplified_error forms bound before left after Cycle h = h
simplified_error forms bound before left after NoEquality h = h
simplified_error forms bound before left after NoMemory h = h
