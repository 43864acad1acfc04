-- How types are made: of forms alone, or with new variables.
use Rattle.std.specs.Prelude.{◌≡◌, ℕ, suc, ◌<◌, ◌&&◌, not, cond, nat_eq, ltb, Bool, true, false, Option, Some, None, Result, Ok, Err, List, [], ◌∷◌, length, map, slice_get}
use Rattle.sml_types.specs.declared.types.Ty.{Ty}
use Rattle.sml_types.specs.declared.types.TyVar.{TyVar}
use Rattle.sml_types.specs.declared.types.TyForm.{TyForm}
use Rattle.sml_types.specs.declared.tables.TypeName.{TypeName}
use Rattle.sml_types.specs.declared.scheme.Scheme.{Scheme}
use Rattle.sml_types.specs.declared.tables.ConRow.{ConRow}
use Rattle.sml_types.specs.Tree.{Tree, Variable, NoParts, inst, admits}
use Rattle.sml_types.specs.Library.{name_ty}
use Rattle.sml_types.specs.Typing.{con_ty, Covers}
use Rattle.sml_types.specs.Forms.{tree}
use Rattle.sml_types.specs.Poly.{Poly}
use Rattle.sml_types.specs.TypeExps.{Means}
use Rattle.sml_tree.specs.declared.bare.Bare.{Bare}
use Rattle.sml_unify.specs.Solved.{Substitution}
use Rattle.sml_unify.specs.Steps.{IsLonger}
use Rattle.infer_parts.specs.declared.given.Given.{Given}
use Rattle.infer_parts.specs.Copies.{given_types, AreOldVars}
use Rattle.infer_parts.specs.Written.{paired, AreAbbreviations}
use Rattle.infer_state.specs.declared.failure.Failure.{Failure}
use Rattle.infer_state.specs.declared.failure.Failure.TheVariants.{Untypable, NoMemory}
use Rattle.infer_nodes.specs.Posed.{StandsFor}

-- a type was made that is this one, without new variables
pub record IsFixed (u : Tree) (forms forms2 : List TyForm) (t : Ty) : Type 0 where
  pub there : t.0 < length forms2
  pub is : tree forms2 t.0 ≡ u
  pub longer : IsLonger forms forms2
  pub vars : AreOldVars forms forms2

abbrev pub new_var : ℕ → TyVar → TyVar
new_var next v = record { num = next; eq = v.eq }

-- a new variable for each of these, in order, with numbers from a counter on
abbrev pub AreNew : ℕ → List TyVar → List TyForm → List Ty → Type 0
AreNew next [] forms [] = Unit {0}
AreNew next (v ∷ vs) forms (t ∷ ts) = StandsFor forms t (new_var next v) × AreNew (suc next) vs forms ts
AreNew next _ forms _ = ⊥

-- a written type means this one alone
pub record IsMeantAs (p : Bare) (names : List TypeName) (abbreviations : ℕ → Poly) (j : ℕ) (u : Tree) : Type 0 where
  pub means : Means p.types p.tyvars names abbreviations j u
  pub only : (w : Tree) → Means p.types p.tyvars names abbreviations j w → w ≡ u

-- the type that a written type means was made, or there is none
abbrev pub IsWrittenAs : Bare → List TypeName → (ℕ → Poly) → ℕ → List TyForm → List TyForm → Result Ty Failure → Type 0
IsWrittenAs p names abbreviations j forms forms2 (Ok t) = (u : Tree) × IsMeantAs p names abbreviations j u × IsFixed u forms forms2 t
IsWrittenAs p names abbreviations j forms forms2 (Err Untypable) = (u : Tree) → Means p.types p.tyvars names abbreviations j u → ⊥
IsWrittenAs p names abbreviations j forms forms2 (Err NoMemory) = Unit {0}

-- ---- Constructors

abbrev pub arg_tree : (Ty → Tree) → Option Ty → Option Tree
arg_tree g None = None
arg_tree g (Some a) = Some (g a)

-- the arguments of constructors have no variables but the parameters of their type names
abbrev pub AreArgumentsCovered : List TyForm → List TypeName → Type 0
AreArgumentsCovered forms names = (n k : ℕ) (row : TypeName) (c : ConRow) (a : Ty) → slice_get names n ≡ Some row → slice_get row.cons k ≡ Some c → c.arg ≡ Some a → Covers row.params (tree forms a.0)

abbrev pub has_argument : Option Ty → Bool
has_argument None = false
has_argument (Some a) = true

-- a constructor's type was made, with types in the place of the parameters
abbrev pub IsConMade : ℕ → List TyVar → List Ty → ConRow → List TyForm → List TyForm → Ty → Type 0
IsConMade n params args con forms forms2 t = IsFixed (con_ty (arg_tree (λ a. inst (given_types forms (paired params args)) (tree forms a.0)) con.arg) (name_ty n (map (λ a. tree forms a.0) args))) forms forms2 t

-- the type of a scheme without variables was made
abbrev pub IsMono : Poly → List TyForm → List TyForm → Ty → Type 0
IsMono s forms forms2 t = (s.vars ≡ []) × IsFixed s.body forms forms2 t
