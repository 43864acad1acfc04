-- Phrases with written types.
use Rattle.std.specs.Prelude.{◌≡◌, ℕ, Option, Some, None, Result, Ok, Err, List}
use Rattle.sml_tree.specs.declared.bare.Bare.{Bare}
use Rattle.sml_types.specs.declared.types.Ty.{Ty}
use Rattle.sml_types.specs.declared.types.TyForm.{TyForm}
use Rattle.sml_types.specs.declared.tables.TypeName.{TypeName}
use Rattle.sml_types.specs.Tree.{Tree, inst}
use Rattle.sml_types.specs.Poly.{Poly}
use Rattle.sml_types.specs.Library.{arrow, exn_ty}
use Rattle.sml_types.specs.TypeExps.{Means}
use Rattle.sml_unify.specs.declared.pair.Pair.{Pair}
use Rattle.sml_unify.specs.Solved.{Substitution}
use Rattle.infer_parts.specs.Written.{AreAbbreviations}
use Rattle.infer_state.specs.declared.declared.Declared.{Declared}
use Rattle.infer_state.specs.declared.failure.Failure.{Failure}
use Rattle.infer_state.specs.declared.failure.Failure.TheVariants.{Untypable, NoMemory}
use Rattle.infer_state.specs.Variables.{node_var}
use Rattle.infer_nodes.specs.Posed.{IsPosing}
use Rattle.infer_nodes.specs.Made.{IsFixed, IsMeantAs}

-- a phrase has the type of its part, and that of a written type
abbrev pub TypedAsks : Bare → List TypeName → (ℕ → Poly) → ℕ → ℕ → ℕ → Substitution → Type 0
TypedAsks p names abbreviations i part exp f =
    (f (node_var p part) ≡ f (node_var p i)) × (w : Tree) × Means p.types p.tyvars names abbreviations exp w × (f (node_var p i) ≡ inst f w)

abbrev pub PosesTyped : Bare → Declared → ℕ → ℕ → ℕ → ℕ → List TyForm → List TyForm → Result (List Pair) Failure → Type 0
PosesTyped p d i part exp next forms forms2 result =
    (abbreviations : ℕ → Poly) → AreAbbreviations forms d.abbreviations abbreviations → IsPosing d.tables.names (TypedAsks p d.tables.names abbreviations i part exp) next forms next forms2 result

-- the type of an exception constructor
abbrev pub IsExnMeant : Bare → List TypeName → (ℕ → Poly) → Option ℕ → Tree → Type 0
IsExnMeant p names abbreviations None u = u ≡ exn_ty
IsExnMeant p names abbreviations (Some j) u = (w : Tree) × IsMeantAs p names abbreviations j w × (u ≡ arrow w exn_ty)

-- an argument means no type
abbrev pub MeansNone : Bare → List TypeName → (ℕ → Poly) → Option ℕ → Type 0
MeansNone p names abbreviations None = ⊥
MeansNone p names abbreviations (Some j) = (u : Tree) → Means p.types p.tyvars names abbreviations j u → ⊥

-- it was made, or there is none
abbrev pub IsArgumentMade : Bare → List TypeName → (ℕ → Poly) → Option ℕ → List TyForm → List TyForm → Result Ty Failure → Type 0
IsArgumentMade p names abbreviations arg forms forms2 (Ok t) = (u : Tree) × IsExnMeant p names abbreviations arg u × IsFixed u forms forms2 t
IsArgumentMade p names abbreviations arg forms forms2 (Err Untypable) = MeansNone p names abbreviations arg
IsArgumentMade p names abbreviations arg forms forms2 (Err NoMemory) = Unit {0}
