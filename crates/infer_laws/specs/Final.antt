-- The substitution that inference ends with.
use Rattle.std.specs.Prelude.{◌≡◌, ℕ, ◌<◌, Option, List, length}
use Rattle.std.specs.List.{AllByRecursion}
use Rattle.sml_tree.specs.declared.bare.Bare.{Bare}
use Rattle.sml_types.specs.declared.types.Ty.{Ty}
use Rattle.sml_types.specs.declared.types.TyVar.{TyVar}
use Rattle.sml_types.specs.declared.types.TyForm.{TyForm}
use Rattle.sml_types.specs.Tree.{Variable, inst}
use Rattle.sml_types.specs.TypeExps.{explicit}
use Rattle.sml_unify.specs.declared.resolve.Rename.{Rename}
use Rattle.sml_unify.specs.Solved.{Substitution, IsSolved, meant}
use Rattle.sml_unify.specs.Resolve.{renamed}
use Rattle.infer_state.specs.declared.declared.Starts.{Starts}
use Rattle.infer_state.specs.Variables.{AreLaidOut}
use Rattle.infer_laws.specs.Principal.{IsBoundAndRenamed}

-- what is bound, with some variables renamed
abbrev pub final : List TyForm → List (Option Ty) → List Rename → Substitution
final forms bound renames v = inst (renamed renames) (meant forms bound v)

-- a rename leads to an explicit type variable, from the variable that it stands for
pub record IsForExplicit (p : Bare) (forms : List TyForm) (bound : List (Option Ty)) (r : Rename) : Type 0 where
  pub number : ℕ
  pub there : number < length p.tyvars
  pub to : r.to ≡ explicit p.tyvars number
  pub from : TyVar
  pub stands : meant forms bound (explicit p.tyvars number) ≡ Variable from
  pub is : from.num ≡ r.from

-- such renames make of what is bound no less
abbrev pub FinalIsRenamed : Bare → List TyForm → List (Option Ty) → Type 0
FinalIsRenamed p forms bound = (starts : Starts) (renames : List Rename) → IsSolved forms bound → AreLaidOut p forms starts → AllByRecursion (IsForExplicit p forms bound) renames → IsBoundAndRenamed p forms bound (final forms bound renames)
