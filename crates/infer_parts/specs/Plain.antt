-- The table of the nodes that are non-expansive.
use Rattle.std.specs.Prelude.{◌≡◌, ℕ, ◌<◌, ◌≤◌, Bool, true, false, ◌&&◌, not, Option, Some, List, [], ◌∷◌, length, slice_get, get_or}
use Rattle.std.specs.List.{list_all, AllByRecursion}
use Rattle.sml_tree.specs.declared.bare.Node.{Node}
use Rattle.sml_tree.specs.declared.bare.Node.TheVariants as node
use Rattle.sml_types.specs.NonExpansive.{AreNonExpansive, is_ref, field_nodes}

abbrev pub plain_at : List Bool → ℕ → Bool
plain_at table i = get_or table i false

abbrev pub is_plain : Option Node → Bool
is_plain (Some (node.Constructor c)) = not (is_ref c)
is_plain _ = false

-- a node is a constructor other than ref
abbrev pub is_plain_constructor : List Node → ℕ → Bool
is_plain_constructor nodes i = is_plain (slice_get nodes i)

-- a node is non-expansive, from what the table says of its parts
abbrev pub plain_node : List Node → List Bool → Node → Bool
plain_node nodes table (node.Int n) = true
plain_node nodes table (node.Char n) = true
plain_node nodes table (node.Text n) = true
plain_node nodes table (node.Var n) = true
plain_node nodes table (node.Constructor n) = true
plain_node nodes table (node.Builtin n) = true
plain_node nodes table (node.Fn n) = true
plain_node nodes table (node.Record fields) = list_all (λ f. plain_at table f.node) fields
plain_node nodes table (node.App f a) = is_plain_constructor nodes f && plain_at table a
plain_node nodes table (node.Typed e ty) = plain_at table e
plain_node nodes table _ = false

abbrev pub plain_parts : Node → List ℕ
plain_parts (node.Record fields) = field_nodes fields
plain_parts (node.App f a) = a ∷ []
plain_parts (node.Typed e ty) = e ∷ []
plain_parts _ = []

-- the parts of records, applications and typed phrases are nodes with greater numbers
abbrev pub ArePartsLater : List Node → Type 0
ArePartsLater nodes = (i : ℕ) (n : Node) → slice_get nodes i ≡ Some n → AllByRecursion (λ c. (i < c) × (c < length nodes)) (plain_parts n)

-- what the table says of the nodes from number i on
pub record IsPlainFrom (nodes : List Node) (i : ℕ) (table : List Bool) : Type 0 where
  pub count : length table ≡ length nodes
  pub sound : (k : ℕ) → plain_at table k ≡ true → AreNonExpansive nodes (k ∷ [])
  pub complete : ArePartsLater nodes → (k : ℕ) → i ≤ k → AreNonExpansive nodes (k ∷ []) → plain_at table k ≡ true

-- the table says true exactly where a node is non-expansive
abbrev pub IsPlainTable : List Node → List Bool → Type 0
IsPlainTable nodes table = IsPlainFrom nodes 0 table
