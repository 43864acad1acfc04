-- The right sides that are generalised.
use Rattle.std.specs.Prelude.{◌≡◌, ℕ, Bool, true, false, Some, List, [], ◌∷◌, slice_get}
use Rattle.sml_tree.specs.declared.bare.Con.{Con}
use Rattle.sml_tree.specs.declared.bare.Con.TheVariants as con
use Rattle.sml_tree.specs.declared.bare.Field.{Field}
use Rattle.sml_tree.specs.declared.bare.Node.{Node}
use Rattle.sml_tree.specs.declared.bare.Node.TheVariants as node

-- constants, identifiers and fn
abbrev pub is_atomic : Node → Bool
is_atomic (node.Int n) = true
is_atomic (node.Char c) = true
is_atomic (node.Text t) = true
is_atomic (node.Var x) = true
is_atomic (node.Constructor c) = true
is_atomic (node.Builtin p) = true
is_atomic (node.Fn rules) = true
is_atomic _ = false

abbrev pub is_ref : Con → Bool
is_ref con.Ref = true
is_ref _ = false

abbrev pub field_nodes : List Field → List ℕ
field_nodes [] = []
field_nodes (f ∷ fields) = f.node ∷ field_nodes fields

-- these nodes are non-expansive: constants, identifiers, fn, records of such, a constructor other than ref applied to such, and typed ones
pub data AreNonExpansive (nodes : List Node) : List ℕ → Type 0 where
  plain_none : AreNonExpansive nodes []
  plain_atom : {is : List ℕ} (i : ℕ) (n : Node) → slice_get nodes i ≡ Some n → is_atomic n ≡ true → AreNonExpansive nodes is → AreNonExpansive nodes (i ∷ is)
  plain_record : {is : List ℕ} (i : ℕ) (fields : List Field) → slice_get nodes i ≡ Some (node.Record fields) → AreNonExpansive nodes (field_nodes fields) → AreNonExpansive nodes is → AreNonExpansive nodes (i ∷ is)
  plain_applied : {is : List ℕ} (i f a : ℕ) (c : Con) → slice_get nodes i ≡ Some (node.App f a) → slice_get nodes f ≡ Some (node.Constructor c) → is_ref c ≡ false → AreNonExpansive nodes (a ∷ []) → AreNonExpansive nodes is → AreNonExpansive nodes (i ∷ is)
  plain_typed : {is : List ℕ} (i e ty : ℕ) → slice_get nodes i ≡ Some (node.Typed e ty) → AreNonExpansive nodes (e ∷ []) → AreNonExpansive nodes is → AreNonExpansive nodes (i ∷ is)
