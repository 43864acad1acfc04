-- What a written type means.
use Rattle.std.specs.Prelude.{◌≡◌, ℕ, Bool, false, cond, nat_eq, Some, List, [], ◌∷◌, length, slice_get, get_or}
use Rattle.std.specs.List.{AllByRecursion}
use Rattle.sml_tree.specs.declared.bare.Lab.{Lab}
use Rattle.sml_tree.specs.declared.bare.TypeField.{TypeField}
use Rattle.sml_tree.specs.declared.bare.TypeExp.{TypeExp}
use Rattle.sml_tree.specs.declared.bare.TypeExp.TheVariants as exp
use Rattle.sml_types.specs.declared.types.TyVar.{TyVar}
use Rattle.sml_types.specs.declared.tables.TypeName.{TypeName}
use Rattle.sml_types.specs.Tree.{FieldsHead, Tree, Variable, App, inst}
use Rattle.sml_types.specs.Poly.{Poly}
use Rattle.sml_types.specs.Library.{parts, name_ty, arrow}

-- a field in written order: its place in the order of labels, its label and its type
pub record Labelled : Type 0 where
  pub slot : ℕ
  pub lab : Lab
  pub ty : Tree

-- the record type with these fields, in the order of labels
pub record IsRecord (fields : List Labelled) (t : Tree) : Type 0 where
  pub labs : List Lab
  pub types : List Tree
  pub labs_count : length labs ≡ length fields
  pub types_count : length types ≡ length fields
  pub placed : AllByRecursion (λ f. (slice_get labs f.slot ≡ Some f.lab) × (slice_get types f.slot ≡ Some f.ty)) fields
  pub is : t ≡ App (FieldsHead labs) (parts types)

abbrev pub labelled : List TypeField → List Tree → List Labelled
labelled [] ts = []
labelled (f ∷ fields) [] = []
labelled (f ∷ fields) (t ∷ ts) = record { slot = f.slot; lab = f.lab; ty = t } ∷ labelled fields ts

abbrev pub field_types : List TypeField → List ℕ
field_types [] = []
field_types (f ∷ fields) = f.ty ∷ field_types fields

-- the variables stand for these types in order
abbrev pub given : List TyVar → List Tree → TyVar → Tree
given [] ts v = Variable v
given (w ∷ ws) [] v = Variable v
given (w ∷ ws) (t ∷ ts) v = cond (nat_eq v.num w.num) t (given ws ts v)

-- an explicit type variable stands for itself
abbrev pub explicit : List Bool → ℕ → TyVar
explicit marks u = record { num = u; eq = get_or marks u false }

abbrev pub all_explicit : List Bool → List ℕ → List TyVar
all_explicit marks [] = []
all_explicit marks (u ∷ us) = explicit marks u ∷ all_explicit marks us

module _ (exps : List TypeExp) (marks : List Bool) (names : List TypeName) (abbreviations : ℕ → Poly) where
  -- these written types mean these types; a type name has as many arguments as parameters, and the type constructor of a type binding is unfolded
  pub data AreMeant : List ℕ → List Tree → Type 0 where
    means_none : AreMeant [] []
    means_var : {js : List ℕ} {ts : List Tree} (j u : ℕ) → slice_get exps j ≡ Some (exp.Var u) → AreMeant js ts → AreMeant (j ∷ js) (Variable (explicit marks u) ∷ ts)
    means_record : {js : List ℕ} {ts : List Tree} (j : ℕ) (fields : List TypeField) (us : List Tree) (t : Tree) → slice_get exps j ≡ Some (exp.Record fields) → AreMeant (field_types fields) us → IsRecord (labelled fields us) t → AreMeant js ts → AreMeant (j ∷ js) (t ∷ ts)
    means_arrow : {js : List ℕ} {ts : List Tree} (j a b : ℕ) (t u : Tree) → slice_get exps j ≡ Some (exp.Arrow a b) → AreMeant (a ∷ b ∷ []) (t ∷ u ∷ []) → AreMeant js ts → AreMeant (j ∷ js) (arrow t u ∷ ts)
    means_named : {js : List ℕ} {ts : List Tree} (j n : ℕ) (args : List ℕ) (us : List Tree) (row : TypeName) → slice_get exps j ≡ Some (exp.Named n args) → slice_get names n ≡ Some row → length args ≡ length row.params → AreMeant args us → AreMeant js ts → AreMeant (j ∷ js) (name_ty n us ∷ ts)
    means_abbreviation : {js : List ℕ} {ts : List Tree} (j k : ℕ) (args : List ℕ) (us : List Tree) → slice_get exps j ≡ Some (exp.Abbreviation k args) → length args ≡ length (abbreviations k).vars → AreMeant args us → AreMeant js ts → AreMeant (j ∷ js) (inst (given (abbreviations k).vars us) (abbreviations k).body ∷ ts)

  abbrev pub Means : ℕ → Tree → Type 0
  Means j t = AreMeant (j ∷ []) (t ∷ [])
