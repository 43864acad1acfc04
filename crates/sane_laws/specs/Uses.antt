-- How a tree that the expansion makes uses its function constants and its exceptions.
use Rattle.std.specs.Prelude.{◌≡◌, ℕ, Bool, true, false, List, [], ◌∷◌, slice_get, flat_map}
use Rattle.std.specs.List.{AllByRecursion}
use Rattle.smlc_base.specs.declared.primitive.Primitive.TheVariants as prim
use Rattle.sml_tree.specs.declared.bare.Bare.{Bare}
use Rattle.sml_tree.specs.declared.bare.Con.{Con}
use Rattle.sml_tree.specs.declared.bare.Con.TheVariants as con
use Rattle.sml_tree.specs.declared.bare.Node.{Node}
use Rattle.sml_tree.specs.declared.bare.Node.TheVariants as node
use Rattle.sml_tree.specs.BareParts.{node_parts}
use Rattle.sml_tree.specs.Sets.{has}
use Rattle.sml_types.specs.Typing.{takes_argument}
use Rattle.sml_def.specs.Maybe.{or_else}

-- ---- Function constants

-- a primitive of function type, or a constructor with an argument
abbrev pub is_constant : Node → Bool
is_constant (node.Builtin prim.StdIn) = false
is_constant (node.Builtin f) = true
is_constant (node.Constructor c) = takes_argument c
is_constant _ = false

abbrev pub constant_at : List Node → ℕ → Bool
constant_at nodes i = or_else (slice_get nodes i) is_constant false

-- all parts but the function part of an application
abbrev pub free_parts : Node → List ℕ
free_parts (node.App f a) = a ∷ []
free_parts n = node_parts n

-- none of these is a function constant
abbrev pub NoConstants : List Node → Node → Type 0
NoConstants nodes n = AllByRecursion (λ c. constant_at nodes c ≡ false) (free_parts n)

-- ---- Exceptions

abbrev pub exceptions_at : Node → List ℕ
exceptions_at (node.Exception x ty) = x.0 ∷ []
exceptions_at (node.SameException x c) = x.0 ∷ []
exceptions_at (node.NoException x) = x.0 ∷ []
exceptions_at _ = []

-- the names that exception declarations bind; one of what is no exception has no typing
abbrev pub exceptions : List Node → List ℕ
exceptions nodes = flat_map exceptions_at nodes

abbrev pub IsCited : List Node → Con → Type 0
IsCited nodes (con.Exn x takes) = has (exceptions nodes) x.0 ≡ true
IsCited nodes _ = Unit {0}

-- an exception constructor stands for such a name, and a variable for none
abbrev pub Cites : List Node → Node → Type 0
Cites nodes (node.Var x) = has (exceptions nodes) x.0 ≡ false
Cites nodes (node.Constructor c) = IsCited nodes c
Cites nodes (node.PatCon c) = IsCited nodes c
Cites nodes (node.PatApp c q) = IsCited nodes c
Cites nodes (node.SameException x c) = IsCited nodes c
Cites nodes _ = Unit {0}

-- ---- The whole

pub record UsesWell (p : Bare) : Type 0 where
  pub constants : AllByRecursion (NoConstants p.nodes) p.nodes
  pub names : AllByRecursion (Cites p.nodes) p.nodes
