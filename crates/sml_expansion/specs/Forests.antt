-- Trees of bare nodes, and their nodes in preorder.
use Rattle.std.specs.Prelude.{ℕ, suc, ◌+◌, List, [], ◌∷◌, ◌++◌, get_or, drop}
use Rattle.smlc_base.specs.declared.place.Place.{Place}
use Rattle.sml_tree.specs.declared.bare.Node.{Node}
use Rattle.sml_tree.specs.declared.bare.Node.TheVariants as node
use Rattle.sml_tree.specs.declared.bare.Field.{Field}
use Rattle.sml_tree.specs.declared.bare.Rule.{Rule}
use Rattle.sml_tree.specs.declared.bare.Binding.{Binding}
use Rattle.sml_tree.specs.declared.bare.RecBinding.{RecBinding}

-- Trees from left to right. Each has a node in which no part is named yet, the node's place, and its parts; behind it come the trees on its right.
pub data Forest : Type 0 where
  none : Forest
  tree : Node → Place → Forest → Forest → Forest

infixr 30 ◌&◌
abbrev pub ◌&◌ : Forest → Forest → Forest
none & g = g
(tree n p parts rest) & g = tree n p parts (rest & g)

-- one tree
abbrev pub grown : Node → Place → Forest → Forest
grown n p parts = tree n p parts none

abbrev pub size : Forest → ℕ
size none = 0
size (tree n p parts rest) = suc (size parts + size rest)

abbrev pub count : Forest → ℕ
count none = 0
count (tree n p parts rest) = suc (count rest)

-- the numbers of the roots, where the first node has number i
abbrev pub roots : ℕ → Forest → List ℕ
roots i none = []
roots i (tree n p parts rest) = i ∷ roots (suc (i + size parts)) rest

abbrev pub fields_at : List ℕ → List Field → List Field
fields_at (i ∷ parts) (f ∷ fields) = record { lab = f.lab; slot = f.slot; node = i } ∷ fields_at parts fields
fields_at _ fields = fields

abbrev pub rules_at : List ℕ → List Rule
rules_at (p ∷ b ∷ parts) = record { pat = p; body = b } ∷ rules_at parts
rules_at _ = []

abbrev pub bindings_at : List ℕ → List Binding
bindings_at (p ∷ r ∷ parts) = record { pat = p; right = r } ∷ bindings_at parts
bindings_at _ = []

abbrev pub rec_bindings_at : List ℕ → List RecBinding → List RecBinding
rec_bindings_at (i ∷ parts) (b ∷ bindings) = record { name = b.name; right = i } ∷ rec_bindings_at parts bindings
rec_bindings_at _ bindings = bindings

abbrev pub part : ℕ → List ℕ → ℕ
part k parts = get_or parts k 0

-- a node with the numbers of its parts
abbrev pub with_parts : Node → List ℕ → Node
with_parts (node.Record fields) parts = node.Record (fields_at parts fields)
with_parts (node.App f a) parts = node.App (part 0 parts) (part 1 parts)
with_parts (node.Case e rules) parts = node.Case (part 0 parts) (rules_at (drop 1 parts))
with_parts (node.Fn rules) parts = node.Fn (rules_at parts)
with_parts (node.Raise e) parts = node.Raise (part 0 parts)
with_parts (node.Handle e rules) parts = node.Handle (part 0 parts) (rules_at (drop 1 parts))
with_parts (node.Typed e ty) parts = node.Typed (part 0 parts) ty
with_parts (node.Let d e) parts = node.Let (part 0 parts) (part 1 parts)
with_parts (node.PatApp c q) parts = node.PatApp c (part 0 parts)
with_parts (node.PatRecord fields) parts = node.PatRecord (fields_at parts fields)
with_parts (node.PatTyped q ty) parts = node.PatTyped (part 0 parts) ty
with_parts (node.PatAs x q) parts = node.PatAs x (part 0 parts)
with_parts (node.PatAsCon x q) parts = node.PatAsCon x (part 0 parts)
with_parts (node.Val tyvars bindings) parts = node.Val tyvars (bindings_at parts)
with_parts (node.ValRec tyvars bindings) parts = node.ValRec tyvars (rec_bindings_at parts bindings)
with_parts n parts = n

-- the nodes in preorder, from left to right, where the first has number i
abbrev pub numbered : ℕ → Forest → List Node
numbered i none = []
numbered i (tree n p parts rest) = with_parts n (roots (suc i) parts) ∷ numbered (suc i) parts ++ numbered (suc (i + size parts)) rest

-- and their places
abbrev pub places : Forest → List Place
places none = []
places (tree n p parts rest) = p ∷ places parts ++ places rest
