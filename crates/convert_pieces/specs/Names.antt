-- Names with their atoms.
use Rattle.std.specs.Prelude.{ℕ, suc, List, [], ◌∷◌}
use Rattle.sml_tree.specs.declared.bare.RecBinding.{RecBinding}
use Rattle.cps_ir.specs.State.{bind}
use Rattle.convert_laws.specs.Convert.{Scope, variable}
use Rattle.convert_pieces.specs.declared.names.BoundName.{BoundName}

-- a scope with names more, of which the first is seen before the others
abbrev pub bound_to : List BoundName → Scope → Scope
bound_to [] σ = σ
bound_to (x ∷ names) σ = bind (bound_to names σ) x.name.0 x.atom

-- the names of a group are variables from n on
abbrev pub group_names : List RecBinding → ℕ → List BoundName
group_names [] n = []
group_names (b ∷ bindings) n = record { name = b.name; atom = variable n } ∷ group_names bindings (suc n)
