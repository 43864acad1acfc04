-- The occurs check: each form is come to once.
use Rattle.std.proofs.Common.{◌≡◌, ℕ, ◌<◌, true, false, List, [], ◌∷◌, ◌++◌, length, Option, Some, refl, sym, ap, ◌∙◌, subst}
use Rattle.std.specs.Prelude.{slice_get, ◌||◌}
use Rattle.std.specs.List.{AllByRecursion}
use Rattle.std.proofs.lemmas.Bool.{eq-eqb}
use Rattle.sml_types.specs.declared.types.Ty.{Ty}
use Rattle.sml_types.specs.declared.types.TyVar.{TyVar}
use Rattle.sml_types.specs.declared.types.TyForm.{TyForm}
use Rattle.sml_types.specs.declared.types.TyForm.TheVariants.{Var}
use Rattle.sml_types.specs.Tree.{Tree, inst, occurs}
use Rattle.sml_types.specs.Forms.{tree, listed, parts_of}
use Rattle.sml_types.proofs.TreeFacts.{or_left, or_right}
use Rattle.sml_unify.specs.Solved.{IsSolved, IsFree, IsSameType, under, meant}
use Rattle.sml_unify.specs.Steps.{logged}
use Rattle.sml_unify.proofs.Meant.{meant_solves}
use Rattle.sml_unify.proofs.Walks.{all_append, all_left, all_right, at_app, at_var, other_number, parts_within}
use Rattle.sml_unify.proofs.Visits.{IsWalk, walk_first, walk_good, walk_met, walk_visit, walk_end}

module _ (forms : List TyForm) (bound : List (Option Ty)) (num : ℕ) where
  abbrev meaning : ℕ → Tree
  meaning i = under forms (meant forms bound) i

  abbrev IsClear : Tree → Type 0
  IsClear t = occurs num t ≡ false

  abbrev IsInside : ℕ → ℕ → Type 0
  IsInside ty i = occurs num (meaning i) ≡ true → occurs num (meaning ty) ≡ true

  -- the search of a type for the variable
  pub record IsSearch (ty : ℕ) (work seen : List ℕ) : Type 0 where
    pub walk : IsWalk forms bound IsClear ty work seen
    pub inside : AllByRecursion (IsInside ty) work

  pub search_first : (ty : ℕ) → ty < length forms → IsSearch ty (ty ∷ []) []
  search_first ty w = record { walk = walk_first forms bound IsClear ty w; inside = ((λ e. e), tt) }

  module _ (s : IsSolved forms bound) where
    pub search_end : (ty : ℕ) (seen : List ℕ) → IsSearch ty [] seen → occurs num (meaning ty) ≡ false
    search_end ty seen k = walk_end forms bound IsClear s ty seen k.walk

    parts_clear : (is : List ℕ) → AllByRecursion (λ c. IsClear (meaning c)) is → IsClear (inst (meant forms bound) (listed (tree forms) is))
    parts_clear [] a = refl
    parts_clear (i ∷ is) a = ap (λ b. b || occurs num (inst (meant forms bound) (listed (tree forms) is))) a.0 ∙ parts_clear is a.1

    parts_inside : (is : List ℕ) (ty : ℕ) → (occurs num (inst (meant forms bound) (listed (tree forms) is)) ≡ true → occurs num (meaning ty) ≡ true) → AllByRecursion (IsInside ty) is
    parts_inside [] ty f = tt
    parts_inside (i ∷ is) ty f = (
      (λ e. f (or_left (occurs num (meaning i)) (occurs num (inst (meant forms bound) (listed (tree forms) is))) e)),
      parts_inside is ty (λ e. f (or_right (occurs num (meaning i)) (occurs num (inst (meant forms bound) (listed (tree forms) is))) e)),
    )

    -- the last number that waits, and what it leads to
    module _ (ty : ℕ) (work rest seen : List ℕ) (next now : ℕ) (whole : work ≡ rest ++ next ∷ []) (same : IsSameType forms bound next now) (k : IsSearch ty work seen) where
      walk : IsWalk forms bound IsClear ty (rest ++ next ∷ []) seen
      walk = subst (λ (is : List ℕ). IsWalk forms bound IsClear ty is seen) whole k.walk

      inside : AllByRecursion (IsInside ty) (rest ++ next ∷ [])
      inside = subst (λ (is : List ℕ). AllByRecursion (IsInside ty) is) whole k.inside

      rest_within : AllByRecursion (λ i. i < length forms) rest
      rest_within = all_left (λ i. i < length forms) rest (next ∷ []) walk.within

      rest_inside : AllByRecursion (IsInside ty) rest
      rest_inside = all_left (IsInside ty) rest (next ∷ []) inside

      equal : meaning next ≡ meaning now
      equal = same (meant forms bound) (meant_solves forms bound s.acyclic)

      now_inside : IsInside ty now
      now_inside e = (all_right (IsInside ty) rest (next ∷ []) inside).0 (ap (occurs num) equal ∙ e)

      pub search_hit : (v : TyVar) → slice_get forms now ≡ Some (Var v) → IsFree forms bound now → v.num ≡ num → occurs num (meaning ty) ≡ true
      search_hit v q free e = now_inside (ap (occurs num) (at_var forms bound s now v q free) ∙ eq-eqb num v.num (sym e))

      pub search_var : (v : TyVar) → slice_get forms now ≡ Some (Var v) → IsFree forms bound now → (v.num ≡ num → ⊥) → IsSearch ty rest seen
      search_var v q free n =
          record { walk = walk_good forms bound IsClear ty next rest seen rest_within (ap (occurs num) (equal ∙ at_var forms bound s now v q free) ∙ other_number num v.num n) walk; inside = rest_inside }

      pub search_met : logged seen now ≡ true → IsSearch ty rest seen
      search_met o = record { walk = walk_met forms bound IsClear ty next now rest seen rest_within o equal walk; inside = rest_inside }

      pub search_visit : (form : TyForm) → now < length forms → slice_get forms now ≡ Some form → ((v : TyVar) → form ≡ Var v → ⊥) → IsSearch ty (rest ++ parts_of form) (seen ++ now ∷ [])
      search_visit form w q n =
          let app = ap (occurs num) (at_app forms bound s (meant forms bound) now form q n) in
          record {
            walk = walk_visit forms bound IsClear ty next now rest seen form (all_append (λ i. i < length forms) rest (parts_of form) rest_within (parts_within forms bound s now form w q)) q n (λ a. app ∙ parts_clear (parts_of form) a) equal walk;
            inside = all_append (IsInside ty) rest (parts_of form) rest_inside (parts_inside (parts_of form) ty (λ e. now_inside (app ∙ e)));
          }
