-- The walk that looks for what a type needs to admit equality: each form is come to once.
use Rattle.std.proofs.Common.{◌≡◌, ℕ, ◌<◌, true, false, List, [], ◌∷◌, ◌++◌, length, Option, Some, refl, sym, ap, ◌∙◌, subst}
use Rattle.std.specs.Prelude.{slice_get, ◌&&◌}
use Rattle.std.specs.List.{AllByRecursion}
use Rattle.sml_types.specs.declared.types.Ty.{Ty}
use Rattle.sml_types.specs.declared.types.TyVar.{TyVar}
use Rattle.sml_types.specs.declared.types.TyForm.{TyForm}
use Rattle.sml_types.specs.declared.types.TyForm.TheVariants.{Var}
use Rattle.sml_types.specs.declared.tables.Equality.{Equality}
use Rattle.sml_types.specs.declared.tables.Equality.TheVariants.{Never, Always, Parts}
use Rattle.sml_types.specs.declared.tables.TypeName.{TypeName}
use Rattle.sml_types.specs.Tree.{Tree, inst, admits, by_equality, head_equality}
use Rattle.sml_types.specs.Forms.{tree, listed, parts_of, head_of}
use Rattle.sml_types.proofs.TreeFacts.{and_both}
use Rattle.sml_unify.specs.Solved.{Substitution, Solves, IsSolved, IsFree, IsSameType, under, meant}
use Rattle.sml_unify.specs.Simplified.{IsToMark}
use Rattle.sml_unify.specs.Steps.{logged}
use Rattle.sml_unify.proofs.Meant.{meant_solves}
use Rattle.sml_unify.proofs.Heads.{tree_var}
use Rattle.sml_unify.proofs.Walks.{all_append, all_left, all_right, at_app, at_var, parts_within}
use Rattle.sml_unify.proofs.Visits.{IsWalk, walk_first, walk_good, walk_met, walk_visit, walk_end}

module _ (names : List TypeName) (forms : List TyForm) (bound : List (Option Ty)) where
  abbrev meaning : ℕ → Tree
  meaning i = under forms (meant forms bound) i

  abbrev Admits : Tree → Type 0
  Admits t = admits names t ≡ true

  abbrev IsNeeded : ℕ → ℕ → Type 0
  IsNeeded ty i = (f : Substitution) → Solves forms bound f → Admits (under forms f ty) → Admits (under forms f i)

  -- the search of a type for what it needs
  pub record IsMarked (ty : ℕ) (work seen : List ℕ) : Type 0 where
    pub walk : IsWalk forms bound Admits ty work seen
    pub needed : AllByRecursion (IsNeeded ty) work

  pub marked_first : (ty : ℕ) → ty < length forms → IsMarked ty (ty ∷ []) []
  marked_first ty w = record { walk = walk_first forms bound Admits ty w; needed = ((λ f h e. e), tt) }

  module _ (s : IsSolved forms bound) where
    pub marked_end : (ty : ℕ) (seen : List ℕ) → IsMarked ty [] seen → Admits (meaning ty)
    marked_end ty seen k = walk_end forms bound Admits s ty seen k.walk

    parts_admit : (is : List ℕ) → AllByRecursion (λ c. Admits (meaning c)) is → Admits (inst (meant forms bound) (listed (tree forms) is))
    parts_admit [] a = refl
    parts_admit (i ∷ is) a = ap (λ b. b && admits names (inst (meant forms bound) (listed (tree forms) is))) a.0 ∙ parts_admit is a.1

    parts_needed : (is : List ℕ) (ty : ℕ) → ((f : Substitution) → Solves forms bound f → Admits (under forms f ty) → Admits (inst f (listed (tree forms) is))) → AllByRecursion (IsNeeded ty) is
    parts_needed [] ty g = tt
    parts_needed (i ∷ is) ty g = (
      (λ f h e. (and_both (admits names (under forms f i)) (admits names (inst f (listed (tree forms) is))) (g f h e)).0),
      parts_needed is ty (λ f h e. (and_both (admits names (under forms f i)) (admits names (inst f (listed (tree forms) is))) (g f h e)).1),
    )

    -- the last number that waits, and what it leads to
    module _ (ty : ℕ) (work rest seen : List ℕ) (next now : ℕ) (whole : work ≡ rest ++ next ∷ []) (same : IsSameType forms bound next now) (k : IsMarked ty work seen) where
      walk : IsWalk forms bound Admits ty (rest ++ next ∷ []) seen
      walk = subst (λ (is : List ℕ). IsWalk forms bound Admits ty is seen) whole k.walk

      needed : AllByRecursion (IsNeeded ty) (rest ++ next ∷ [])
      needed = subst (λ (is : List ℕ). AllByRecursion (IsNeeded ty) is) whole k.needed

      rest_within : AllByRecursion (λ i. i < length forms) rest
      rest_within = all_left (λ i. i < length forms) rest (next ∷ []) walk.within

      rest_needed : AllByRecursion (IsNeeded ty) rest
      rest_needed = all_left (IsNeeded ty) rest (next ∷ []) needed

      equal : meaning next ≡ meaning now
      equal = same (meant forms bound) (meant_solves forms bound s.acyclic)

      now_needed : IsNeeded ty now
      now_needed f h e = sym (ap (admits names) (same f h)) ∙ (all_right (IsNeeded ty) rest (next ∷ []) needed).0 f h e

      good_rest : Admits (meaning now) → IsMarked ty rest seen
      good_rest e =
          record { walk = walk_good forms bound Admits ty next rest seen rest_within (ap (admits names) equal ∙ e) walk; needed = rest_needed }

      pub to_mark : (v : TyVar) → slice_get forms now ≡ Some (Var v) → IsFree forms bound now → v.eq ≡ false → IsToMark names forms bound ty v
      to_mark v q free e =
          record {
            at = now;
            here = q;
            plain = e;
            unbound = free v q;
            needed = λ f g h. sym (ap (λ t. admits names (inst f t)) (tree_var forms bound now v s q)) ∙ now_needed f g h;
          }

      pub marked_var : (v : TyVar) → slice_get forms now ≡ Some (Var v) → IsFree forms bound now → v.eq ≡ true → IsMarked ty rest seen
      marked_var v q free e = good_rest (ap (admits names) (at_var forms bound s now v q free) ∙ e)

      pub marked_met : logged seen now ≡ true → IsMarked ty rest seen
      marked_met o = record { walk = walk_met forms bound Admits ty next now rest seen rest_within o equal walk; needed = rest_needed }

      module _ (form : TyForm) (q : slice_get forms now ≡ Some form) (n : (v : TyVar) → form ≡ Var v → ⊥) where
        app_admits : (f : Substitution) (k : Equality) → head_equality names (head_of form) ≡ k → admits names (under forms f now) ≡ by_equality k (admits names (inst f (listed (tree forms) (parts_of form))))
        app_admits f k e =
            ap (admits names) (at_app forms bound s f now form q n) ∙ ap (λ w. by_equality w (admits names (inst f (listed (tree forms) (parts_of form))))) e

        pub never : head_equality names (head_of form) ≡ Never → (f : Substitution) → Solves forms bound f → admits names (under forms f ty) ≡ true → ⊥
        never e f g h = let w : false ≡ true = sym (app_admits f Never e) ∙ now_needed f g h in cc

        pub marked_always : head_equality names (head_of form) ≡ Always → IsMarked ty rest seen
        marked_always e = good_rest (app_admits (meant forms bound) Always e)

        pub marked_visit : head_equality names (head_of form) ≡ Parts → now < length forms → IsMarked ty (rest ++ parts_of form) (seen ++ now ∷ [])
        marked_visit e w =
            record {
              walk = walk_visit forms bound Admits ty next now rest seen form (all_append (λ i. i < length forms) rest (parts_of form) rest_within (parts_within forms bound s now form w q)) q n (λ a. app_admits (meant forms bound) Parts e ∙ parts_admit (parts_of form) a) equal walk;
              needed = all_append (IsNeeded ty) rest (parts_of form) rest_needed (parts_needed (parts_of form) ty (λ f g h. sym (app_admits f Parts e) ∙ now_needed f g h));
            }
