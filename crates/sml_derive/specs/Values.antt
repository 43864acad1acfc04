-- Value declarations.
use Rattle.std.specs.Prelude.{◌≡◌, ℕ, List, ◌++◌, reverse, map}
use Rattle.smlc_base.specs.declared.place.Place.{Place}
use Rattle.sml_tree.specs.declared.bare.Node.{Node}
use Rattle.sml_tree.specs.declared.bare.Node.TheVariants as bare
use Rattle.sml_expansion.specs.declared.walk.Walk.{Walk}
use Rattle.sml_expansion.specs.declared.mark.Mark.{Mark}
use Rattle.sml_expansion.specs.declared.mark.Mark.TheVariants.{Close}
use Rattle.sml_expansion.specs.declared.scope.Bound.{Bound}
use Rattle.sml_expansion.specs.Scoped.{oldest}
use Rattle.sml_expansion.specs.Forests.{Forest, none, tree, grown, count}
use Rattle.sml_expansion.specs.Makings.{Makes, gives, ◌>>=◌, ◌>>◌}
use Rattle.sml_expansion.specs.Patterns.{Pattern, vars_once}
use Rattle.sml_derive.specs.Steps.{leads}

-- type variables are made, and come into scope
abbrev pub tyvars_seen : Makes (List (ℕ × ℕ)) → Walk → Walk
tyvars_seen f w = record { made = (f w.made).1; bindings = record { values = w.bindings.values; types = w.bindings.types; tyvars = reverse (f w.made).0 ++ w.bindings.tyvars }; marks = w.marks }

-- those since there were n go out of scope
abbrev pub tyvars_unseen : ℕ → Walk → Walk
tyvars_unseen n w = record { made = w.made; bindings = record { values = w.bindings.values; types = w.bindings.types; tyvars = oldest n w.bindings.tyvars }; marks = w.marks }

-- a node over its parts, if it has any
abbrev pub unless_none : Node → Place → Forest → Forest
unless_none n p none = none
unless_none n p (tree m q parts rest) = grown n p (tree m q parts rest)

-- names that stand behind variables, where no variable stands twice
abbrev pub named : List Bound → Makes (List Bound) → Makes (List Bound)
named vars f = do
  names ← f
  vars_once (vars ++ names)
  gives names

-- the ends of nodes with these types, the innermost first
abbrev pub typed_ends : Place → List ℕ → List Mark
typed_ends p types = map (λ t. Close (bare.Typed 0 t) p) types

-- what h makes of trees is written as declarations, and the bindings stay
pub record Leads (f : Makes Forest) (h : Forest → Forest) (before after : Walk) (trees : ℕ) : Type 0 where
  pub walk : after ≡ record { made = (f before.made).1; bindings = before.bindings; marks = before.marks ++ leads (h (f before.made).0) }
  pub written : trees ≡ count (h (f before.made).0)

-- the same of patterns, whose variables stand behind those so far
pub record BindsLed (f : Makes Pattern) (h : Forest → Forest) (before after : Walk) (vars more : List Bound) (trees : ℕ) : Type 0 where
  pub walk : after ≡ record { made = (f before.made).1; bindings = before.bindings; marks = before.marks ++ leads (h (f before.made).0.forest) }
  pub bound : more ≡ vars ++ (f before.made).0.vars
  pub written : trees ≡ count (h (f before.made).0.forest)
