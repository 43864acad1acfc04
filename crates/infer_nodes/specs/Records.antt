-- Record types whose fields are the types of nodes.
use Rattle.std.specs.Prelude.{◌≡◌, ℕ, ◌+◌, Some, List, [], ◌∷◌, map, slice_get}
use Rattle.sml_tree.specs.declared.bare.Bare.{Bare}
use Rattle.sml_tree.specs.declared.bare.Field.{Field}
use Rattle.sml_tree.specs.declared.bare.TypeField.{TypeField}
use Rattle.sml_types.specs.declared.types.Ty.{Ty}
use Rattle.sml_types.specs.declared.types.TyForm.{TyForm}
use Rattle.sml_types.specs.Tree.{Tree, Variable}
use Rattle.sml_types.specs.TypeExps.{IsRecord, labelled}
use Rattle.infer_parts.specs.Written.{IsTypeRow}
use Rattle.infer_state.specs.Variables.{node_var}
use Rattle.infer_nodes.specs.Posed.{StandsFor}
use Rattle.infer_nodes.specs.Made.{IsFixed}

-- a field with its node in the place of a written type
abbrev pub as_written : Field → TypeField
as_written f = record { lab = f.lab; slot = f.slot; ty = f.node }

-- the variables of the fields' nodes
abbrev pub field_vars : Bare → List Field → List Tree
field_vars p [] = []
field_vars p (f ∷ fields) = Variable (node_var p f.node) ∷ field_vars p fields

-- these are the types of the fields' nodes
abbrev pub AreFieldTys : Bare → List TyForm → List Field → List Ty → Type 0
AreFieldTys p forms [] [] = Unit {0}
AreFieldTys p forms (f ∷ fields) (t ∷ ts) = StandsFor forms t (node_var p f.node) × AreFieldTys p forms fields ts
AreFieldTys p forms _ _ = ⊥

-- the record type of these fields was made
pub record IsRowMade (p : Bare) (fields : List Field) (forms forms2 : List TyForm) (t : Ty) : Type 0 where
  pub row : IsTypeRow (map as_written fields)
  pub type : Tree
  pub is : IsRecord (labelled (map as_written fields) (field_vars p fields)) type
  pub made : IsFixed type forms forms2 t

-- numbers from one on, in order
abbrev pub AreInRow : ℕ → List Ty → Type 0
AreInRow start tys = (u : ℕ) (t : Ty) → slice_get tys u ≡ Some t → t.0 ≡ start + u
