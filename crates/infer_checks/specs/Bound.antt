-- The names that nodes bind themselves.
use Rattle.std.specs.Prelude.{ℕ, Option, Some, None}
use Rattle.std.specs.List.{AllByRecursion}
use Rattle.sml_tree.specs.declared.bare.Node.{Node}
use Rattle.sml_types.specs.Poly.{Poly}
use Rattle.infer_scopes.specs.Bound.{own_names}

-- a name is settled
abbrev pub HasScheme : Option Poly → Type 0
HasScheme None = ⊥
HasScheme (Some q) = Unit {0}

-- all names that stand in a node are settled
abbrev pub HaveSchemes : (ℕ → Option Poly) → Node → Type 0
HaveSchemes known n = AllByRecursion (λ x. HasScheme (known x)) (own_names n)

-- the same, if the node is there
abbrev pub HaveSchemesAt : (ℕ → Option Poly) → Option Node → Type 0
HaveSchemesAt known None = Unit {0}
HaveSchemesAt known (Some n) = HaveSchemes known n
