-- What it means to work off pairs.
use Rattle.std.specs.Prelude.{◌≡◌, ℕ, true, false, Option, Some, None, Result, Ok, Err, List, [], ◌∷◌, ◌++◌, slice_get}
use Rattle.sml_types.specs.declared.types.Ty.{Ty}
use Rattle.sml_types.specs.declared.types.TyVar.{TyVar}
use Rattle.sml_types.specs.declared.types.TyForm.{TyForm}
use Rattle.sml_types.specs.declared.types.TyForm.TheVariants.{Var}
use Rattle.sml_types.specs.Tree.{admits}
use Rattle.sml_types.specs.declared.tables.TypeName.{TypeName}
use Rattle.sml_unify.specs.declared.pair.Pair.{Pair}
use Rattle.sml_unify.specs.declared.error.UnifyError.{UnifyError}
use Rattle.sml_unify.specs.declared.error.UnifyError.TheVariants.{Clash, NoEquality, NoMemory}
use Rattle.sml_unify.specs.Solved.{IsFree, bound_at, Substitution, Solves, AreEqual, ArePairs, IsPair, meant, under}
use Rattle.sml_unify.specs.Named.{IsSame, Fails, turned}

-- a pair of a variable that is not bound, and another type
pub record IsBinding (forms : List TyForm) (bound : List (Option Ty)) (p : Pair) : Type 0 where
  pub var : TyVar
  pub here : slice_get forms p.left.0 ≡ Some (Var var)
  pub unbound : bound_at bound var.num ≡ None
  pub other : (w : TyVar) → slice_get forms p.right.0 ≡ Some (Var w) → var.num ≡ w.num → ⊥
  pub free : IsFree forms bound p.right.0
  pub within : IsPair forms p

abbrev pub IsSimplified : List TyForm → List (Option Ty) → List Pair → List Pair → Result (Option Pair) UnifyError → Type 0
IsSimplified forms bound before after (Ok None) = (f : Substitution) → Solves forms bound f → AreEqual forms f before
IsSimplified forms bound before after (Ok (Some p)) = IsBinding forms bound p × ArePairs forms after × IsSame forms bound before (after ++ p ∷ [])
IsSimplified forms bound before after (Err Clash) = ((f : Substitution) → Solves forms bound f → AreEqual forms f before → ⊥) × ((names : List TypeName) → Fails names forms bound (turned before) Clash)
IsSimplified forms bound before after (Err NoMemory) = Unit {0}
IsSimplified forms bound before after (Err _) = ⊥

-- an unmarked variable that is not bound, and stands for types that admit equality wherever the type does
pub record IsToMark (names : List TypeName) (forms : List TyForm) (bound : List (Option Ty)) (i : ℕ) (v : TyVar) : Type 0 where
  pub at : ℕ
  pub here : slice_get forms at ≡ Some (Var v)
  pub plain : v.eq ≡ false
  pub unbound : bound_at bound v.num ≡ None
  pub needed : (f : Substitution) → Solves forms bound f → admits names (under forms f i) ≡ true → admits names (f v) ≡ true

abbrev pub IsMarking : List TypeName → List TyForm → List (Option Ty) → ℕ → Result (Option TyVar) UnifyError → Type 0
IsMarking names forms bound i (Ok None) = admits names (under forms (meant forms bound) i) ≡ true
IsMarking names forms bound i (Ok (Some v)) = IsToMark names forms bound i v
IsMarking names forms bound i (Err NoEquality) = (f : Substitution) → Solves forms bound f → admits names (under forms f i) ≡ true → ⊥
IsMarking names forms bound i (Err NoMemory) = Unit {0}
IsMarking names forms bound i (Err _) = ⊥
