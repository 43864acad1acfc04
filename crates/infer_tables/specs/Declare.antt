-- What the type declarations of a prefix of a program say, and the variables from which inference starts.
use Rattle.std.specs.Prelude.{◌≡◌, ℕ, ◌+◌, ◌<◌, Option, Some, None, List, [], length, map, slice_get, Result, Err}
use Rattle.std.specs.List.{AllByRecursion}
use Rattle.sml_tree.specs.declared.bare.Bare.{Bare}
use Rattle.sml_tree.specs.declared.bare.Node.{Node}
use Rattle.sml_tree.specs.declared.bare.Node.TheVariants as node
use Rattle.sml_types.specs.declared.types.Ty.{Ty}
use Rattle.sml_types.specs.declared.types.TyVar.{TyVar}
use Rattle.sml_types.specs.declared.types.TyForm.{TyForm}
use Rattle.sml_types.specs.declared.tables.TypeName.{TypeName}
use Rattle.sml_types.specs.Tree.{Tree}
use Rattle.sml_types.specs.Forms.{tree}
use Rattle.sml_types.specs.Poly.{Context}
use Rattle.sml_types.specs.Library.{library_names, BeginsWithLibrary}
use Rattle.sml_types.specs.Typing.{Typing, made_below, library_param, Covers, IsTypedNode, IsTypingBelow}
use Rattle.sml_unify.specs.Solved.{Substitution}
use Rattle.sml_unify.specs.Steps.{IsLonger}
use Rattle.infer_parts.specs.Written.{AreAbbreviations, IsClosedScheme}
use Rattle.infer_state.specs.declared.declared.Declared.{Declared}
use Rattle.infer_state.specs.declared.unknowns.Unknowns.{Unknowns}
use Rattle.infer_state.specs.declared.failure.Failure.{Failure}
use Rattle.infer_state.specs.declared.failure.Failure.TheVariants.{Untypable}
use Rattle.infer_state.specs.Variables.{first_new, AreLaidOut}
use Rattle.infer_state.specs.Steps.{IsState, IsSolution}
use Rattle.infer_state.specs.Fits.{Fits, HasTables}
use Rattle.infer_state.specs.Typings.{AreApart}

abbrev pub IsTypeDeclaration : Node → Type 0
IsTypeDeclaration (node.Type bindings) = Unit {0}
IsTypeDeclaration (node.Datatype bindings) = Unit {0}
IsTypeDeclaration _ = ⊥

-- ---- Rows

-- the argument of a constructor is a type that stands there, and has these type variables alone
abbrev pub IsClosedArgument : List TyForm → List TyVar → Option Ty → Type 0
IsClosedArgument forms vars None = Unit {0}
IsClosedArgument forms vars (Some a) = (a.0 < length forms) × Covers vars (tree forms a.0)

-- the parameters of a type name are different variables, and no others stand in the arguments of its constructors
pub record IsClosedRow (forms : List TyForm) (row : TypeName) : Type 0 where
  pub apart : AreApart (map (λ v. v.num) row.params)
  pub arguments : AllByRecursion (λ c. IsClosedArgument forms row.params c.arg) row.cons

-- ---- The whole

-- the tables of the nodes below a number, with the variables from which inference starts
pub record IsDeclared (p : Bare) (count : ℕ) (d : Declared) (s : Unknowns) : Type 0 where
  pub state : IsState d.tables.names s
  pub unbound : s.subst.bound ≡ []
  pub next : s.next ≡ first_new p
  pub laid : AreLaidOut p s.types d.starts
  pub library : BeginsWithLibrary s.types d.tables.names
  pub parameter : library.param ≡ library_param p
  pub made : length d.tables.names ≡ length library_names + length (made_below p.nodes count)
  pub rows : AllByRecursion (IsClosedRow s.types) d.tables.names
  pub abbreviations : AllByRecursion (IsClosedScheme s.types) d.abbreviations
  -- a typing with these tables has the rules of all type declarations
  pub sound : (t : Typing) → IsLonger s.types t.forms → t.names ≡ d.tables.names → AreAbbreviations t.forms d.abbreviations t.abbreviations → (i : ℕ) (n : Node) → i < count → slice_get p.nodes i ≡ Some n → IsTypeDeclaration n → (c : Context) (ty : Tree) → IsTypedNode p t c ty [] n
  -- each typing has these tables
  pub complete : (t : Typing) → IsTypingBelow p t count → HasTables s.types d t
  -- each typing is a solution at the start
  pub start : (t : Typing) → IsTypingBelow p t count → (f : Substitution) × Fits p t f × IsSolution d.tables.names s f

-- no typing goes with what is refused
abbrev pub IsUntypable : {A : Type 0} → Result A Failure → Type 0 → Type 0
IsUntypable (Err Untypable) P = P
IsUntypable _ P = Unit {0}
