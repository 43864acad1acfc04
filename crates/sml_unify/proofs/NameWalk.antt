-- The search for the type names of a type: each form is come to once.
use Rattle.std.proofs.Common.{◌≡◌, ℕ, ◌<◌, Bool, true, false, List, [], ◌∷◌, ◌++◌, length, Option, Some, refl, sym, ap, ◌∙◌, subst, nat_eq}
use Rattle.std.specs.Prelude.{slice_get, ◌&&◌}
use Rattle.std.specs.List.{AllByRecursion}
use Rattle.std.proofs.lemmas.Bool.{eqb-true}
use Rattle.sml_types.specs.declared.types.Ty.{Ty}
use Rattle.sml_types.specs.declared.types.TyVar.{TyVar}
use Rattle.sml_types.specs.declared.types.TyForm.{TyForm}
use Rattle.sml_types.specs.declared.types.TyForm.TheVariants.{Var}
use Rattle.sml_types.specs.Tree.{Tree, Head, ArrowHead, FieldsHead, NameHead, inst}
use Rattle.sml_types.specs.Forms.{tree, listed, parts_of, head_of}
use Rattle.sml_types.specs.Poly.{is_in}
use Rattle.sml_types.specs.Escape.{mentions, mentions_head}
use Rattle.sml_types.proofs.TreeFacts.{either}
use Rattle.sml_unify.specs.Solved.{IsSolved, IsFree, IsSameType, under, meant}
use Rattle.sml_unify.specs.Steps.{logged}
use Rattle.sml_unify.specs.Visit.{IsVisit}
use Rattle.sml_unify.specs.TypeNames.{AreTypeNames, IsNoted}
use Rattle.sml_unify.proofs.Meant.{meant_solves}
use Rattle.sml_unify.proofs.Walks.{all_append, all_left, all_right, at_app, at_var, parts_within}
use Rattle.sml_unify.proofs.Visits.{IsWalk, walk_first, walk_good, walk_met, walk_visit, walk_end, logged_all}

and_both : (a b : Bool) → a ≡ true → b ≡ true → (a && b) ≡ true
and_both true b p q = q
and_both false b p q = cc

and_left : (a b : Bool) → (a && b) ≡ true → a ≡ true
and_left true b h = refl
and_left false b h = h

and_right : (a b : Bool) → (a && b) ≡ true → b ≡ true
and_right true b h = h
and_right false b h = cc

one_of : (P : ℕ → Type 0) (names : List ℕ) (n : ℕ) → AllByRecursion P names → logged names n ≡ true → P n
one_of P [] n h e = cc
one_of P (x ∷ names) n h e =
    either (nat_eq n x) (logged names n) (P n) e (λ q. subst P (sym (eqb-true n x q)) h.0) (λ q. one_of P names n h.1 q)

abbrev AreIn : List ℕ → List ℕ → Type 0
AreIn all names = AllByRecursion (λ n. is_in all n ≡ true) names

-- ---- A head's name

visit_kept : (all names after : List ℕ) (n : ℕ) (first : Bool) → IsVisit names n first after → AreIn all after → AreIn all names
visit_kept all names after n true v h = all_left (λ x. is_in all x ≡ true) names (n ∷ []) (subst (AreIn all) v.1 h)
visit_kept all names after n false v h = subst (AreIn all) v.1 h

visit_known : (all names after : List ℕ) (n : ℕ) (first : Bool) → IsVisit names n first after → AreIn all after → is_in all n ≡ true
visit_known all names after n true v h = (all_right (λ x. is_in all x ≡ true) names (n ∷ []) (subst (AreIn all) v.1 h)).0
visit_known all names after n false v h = one_of (λ x. is_in all x ≡ true) names n (subst (AreIn all) v.1 h) v.0

visit_new : (all names after : List ℕ) (n : ℕ) (first : Bool) → IsVisit names n first after → is_in all n ≡ true → AreIn all names → AreIn all after
visit_new all names after n true v e h = subst (AreIn all) (sym v.1) (all_append (λ x. is_in all x ≡ true) names (n ∷ []) h (e, tt))
visit_new all names after n false v e h = subst (AreIn all) (sym v.1) h

noted_kept : (all names after : List ℕ) (h : Head) → IsNoted names h after → AreIn all after → AreIn all names
noted_kept all names after ArrowHead e a = subst (AreIn all) e a
noted_kept all names after (FieldsHead labs) e a = subst (AreIn all) e a
noted_kept all names after (NameHead n) e a = visit_kept all names after n e.0 e.1 a

noted_known : (all names after : List ℕ) (h : Head) → IsNoted names h after → AreIn all after → mentions_head all h ≡ true
noted_known all names after ArrowHead e a = refl
noted_known all names after (FieldsHead labs) e a = refl
noted_known all names after (NameHead n) e a = visit_known all names after n e.0 e.1 a

noted_new : (all names after : List ℕ) (h : Head) → IsNoted names h after → mentions_head all h ≡ true → AreIn all names → AreIn all after
noted_new all names after ArrowHead e m a = subst (AreIn all) (sym e) a
noted_new all names after (FieldsHead labs) e m a = subst (AreIn all) (sym e) a
noted_new all names after (NameHead n) e m a = visit_new all names after n e.0 e.1 m a

-- ---- The walk

module _ (forms : List TyForm) (bound : List (Option Ty)) where
  abbrev meaning : ℕ → Tree
  meaning i = under forms (meant forms bound) i

  abbrev IsMentioned : List ℕ → Tree → Type 0
  IsMentioned ns t = mentions ns t ≡ true

  abbrev IsInside : ℕ → ℕ → Type 0
  IsInside ty i = (ns : List ℕ) → mentions ns (meaning ty) ≡ true → mentions ns (meaning i) ≡ true

  -- what was noted is the whole of what was come to, for each list that has it, and no more than stands in the type
  pub record IsNaming (ty : ℕ) (work seen names : List ℕ) : Type 0 where
    pub walk : (all : List ℕ) → AreIn all names → IsWalk forms bound (IsMentioned all) ty work seen
    pub inside : AllByRecursion (IsInside ty) work
    pub least : (ns : List ℕ) → mentions ns (meaning ty) ≡ true → AreIn ns names

  pub naming_first : (ty : ℕ) → ty < length forms → IsNaming ty (ty ∷ []) [] []
  naming_first ty w =
      record { walk = λ all a. walk_first forms bound (IsMentioned all) ty w; inside = ((λ ns h. h), tt); least = λ ns h. tt }

  module _ (s : IsSolved forms bound) where
    pub naming_end : (ty : ℕ) (seen names : List ℕ) → IsNaming ty [] seen names → AreTypeNames names (meaning ty)
    naming_end ty seen names k =
        record { each = walk_end forms bound (IsMentioned names) s ty seen (k.walk names (logged_all [] names)); least = k.least }

    parts_mentioned : (all : List ℕ) (is : List ℕ) → AllByRecursion (λ c. IsMentioned all (meaning c)) is → mentions all (inst (meant forms bound) (listed (tree forms) is)) ≡ true
    parts_mentioned all [] a = refl
    parts_mentioned all (i ∷ is) a = and_both (mentions all (meaning i)) (mentions all (inst (meant forms bound) (listed (tree forms) is))) a.0 (parts_mentioned all is a.1)

    parts_inside : (is : List ℕ) (ty : ℕ) → ((ns : List ℕ) → mentions ns (meaning ty) ≡ true → mentions ns (inst (meant forms bound) (listed (tree forms) is)) ≡ true) → AllByRecursion (IsInside ty) is
    parts_inside [] ty f = tt
    parts_inside (i ∷ is) ty f = (
      (λ ns h. and_left (mentions ns (meaning i)) (mentions ns (inst (meant forms bound) (listed (tree forms) is))) (f ns h)),
      parts_inside is ty (λ ns h. and_right (mentions ns (meaning i)) (mentions ns (inst (meant forms bound) (listed (tree forms) is))) (f ns h)),
    )

    -- the last number that waits, and what it leads to
    module _ (ty : ℕ) (work rest seen names : List ℕ) (next now : ℕ) (whole : work ≡ rest ++ next ∷ []) (same : IsSameType forms bound next now) (k : IsNaming ty work seen names) where
      walk : (all : List ℕ) → AreIn all names → IsWalk forms bound (IsMentioned all) ty (rest ++ next ∷ []) seen
      walk all a = subst (λ (is : List ℕ). IsWalk forms bound (IsMentioned all) ty is seen) whole (k.walk all a)

      inside : AllByRecursion (IsInside ty) (rest ++ next ∷ [])
      inside = subst (λ (is : List ℕ). AllByRecursion (IsInside ty) is) whole k.inside

      rest_within : AllByRecursion (λ i. i < length forms) rest
      rest_within = all_left (λ i. i < length forms) rest (next ∷ []) (walk names (logged_all [] names)).within

      pub naming_here : next < length forms
      naming_here = (all_right (λ i. i < length forms) rest (next ∷ []) (walk names (logged_all [] names)).within).0

      rest_inside : AllByRecursion (IsInside ty) rest
      rest_inside = all_left (IsInside ty) rest (next ∷ []) inside

      equal : meaning next ≡ meaning now
      equal = same (meant forms bound) (meant_solves forms bound s.acyclic)

      now_inside : IsInside ty now
      now_inside ns h = sym (ap (mentions ns) equal) ∙ (all_right (IsInside ty) rest (next ∷ []) inside).0 ns h

      pub naming_var : (v : TyVar) → slice_get forms now ≡ Some (Var v) → IsFree forms bound now → IsNaming ty rest seen names
      naming_var v q free =
          record {
            walk = λ all a. walk_good forms bound (IsMentioned all) ty next rest seen rest_within (ap (mentions all) (equal ∙ at_var forms bound s now v q free)) (walk all a);
            inside = rest_inside;
            least = k.least;
          }

      pub naming_met : logged seen now ≡ true → IsNaming ty rest seen names
      naming_met o =
          record {
            walk = λ all a. walk_met forms bound (IsMentioned all) ty next now rest seen rest_within o equal (walk all a);
            inside = rest_inside;
            least = k.least;
          }

      pub naming_visit : (form : TyForm) (after : List ℕ) → now < length forms → slice_get forms now ≡ Some form → ((v : TyVar) → form ≡ Var v → ⊥) → IsNoted names (head_of form) after → IsNaming ty (rest ++ parts_of form) (seen ++ now ∷ []) after
      naming_visit form after w q n o =
          let app = at_app forms bound s (meant forms bound) now form q n in
          record {
            walk = λ all a. walk_visit forms bound (IsMentioned all) ty next now rest seen form (all_append (λ i. i < length forms) rest (parts_of form) rest_within (parts_within forms bound s now form w q)) q n (λ b. ap (mentions all) app ∙ and_both (mentions_head all (head_of form)) (mentions all (inst (meant forms bound) (listed (tree forms) (parts_of form)))) (noted_known all names after (head_of form) o a) (parts_mentioned all (parts_of form) b)) equal (walk all (noted_kept all names after (head_of form) o a));
            inside = all_append (IsInside ty) rest (parts_of form) rest_inside (parts_inside (parts_of form) ty (λ ns h. and_right (mentions_head ns (head_of form)) (mentions ns (inst (meant forms bound) (listed (tree forms) (parts_of form)))) (sym (ap (mentions ns) app) ∙ now_inside ns h)));
            least = λ ns h. noted_new ns names after (head_of form) o (and_left (mentions_head ns (head_of form)) (mentions ns (inst (meant forms bound) (listed (tree forms) (parts_of form)))) (sym (ap (mentions ns) app) ∙ now_inside ns h)) (k.least ns h);
          }
