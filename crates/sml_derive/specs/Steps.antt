-- What a step of the expansion does to its state.
use Rattle.std.specs.Prelude.{◌≡◌, ℕ, ◌-◌, length, take, [], ◌∷◌, ◌++◌, List}
use Rattle.sml_expansion.specs.declared.walk.Walk.{Walk}
use Rattle.sml_expansion.specs.declared.mark.Mark.{Mark}
use Rattle.sml_expansion.specs.declared.scope.Bindings.{Bindings}
use Rattle.sml_expansion.specs.declared.scope.Bound.{Bound}
use Rattle.sml_expansion.specs.Scoped.{oldest}
use Rattle.sml_expansion.specs.Sources.{Source}
use Rattle.sml_expansion.specs.Forests.{Forest, none, tree, count}
use Rattle.sml_expansion.specs.Marks.{marks}
use Rattle.sml_expansion.specs.Makings.{Makes}
use Rattle.sml_expansion.specs.Scopes.{Scope, Env, scope_of}
use Rattle.sml_expansion.specs.Patterns.{Pattern}
use Rattle.sml_expansion.specs.Bindings.{Decs}
use Rattle.sml_expansion.specs.declared.mark.Mark.TheVariants.{Open, Close}
use Rattle.sml_expansion.specs.Expressions.{Position, function_part, elsewhere}
use Rattle.expand_types.specs.Effects as effects
use Rattle.sml_derive.specs.declared.identifiers.Stands.{Stands}
use Rattle.sml_derive.specs.declared.identifiers.Stands.TheVariants.{Applied, Elsewhere}

-- the scope of a walk
abbrev pub scope : Source → Walk → Scope
scope s w = scope_of s.names w.bindings

-- something is made, and nothing is written
abbrev pub made : {A : Type 0} → Makes A → Walk → Walk
made f w = record { made = (f w.made).1; bindings = w.bindings; marks = w.marks }

-- marks are written
abbrev pub marked : List Mark → Walk → Walk
marked ms w = record { made = w.made; bindings = w.bindings; marks = w.marks ++ ms }

-- trees are made and written, and the bindings stay
abbrev pub behind : Makes Forest → Walk → Walk
behind f w = record { made = (f w.made).1; bindings = w.bindings; marks = w.marks ++ marks (f w.made).0 }

abbrev pub writes_pattern : Makes Pattern → Walk → Walk
writes_pattern f w = record { made = (f w.made).1; bindings = w.bindings; marks = w.marks ++ marks (f w.made).0.forest }

-- something comes into scope
abbrev pub bound_too : Env → Bindings → Bindings
bound_too e b = record { values = e.values ++ b.values; types = e.types ++ b.types; tyvars = b.tyvars }

abbrev pub seen : Env → Walk → Walk
seen e w = record { made = w.made; bindings = bound_too e w.bindings; marks = w.marks }

-- so many trees are made and written
pub record Writes (f : Makes Forest) (before after : Walk) (trees : ℕ) : Type 0 where
  pub walk : after ≡ behind f before
  pub written : trees ≡ count (f before.made).0

abbrev pub position : Stands → Position
position Applied = function_part
position Elsewhere = elsewhere

-- what was bound since there were n values goes out of scope
abbrev pub unseen : ℕ → Walk → Walk
unseen n w = record { made = w.made; bindings = record { values = oldest n w.bindings.values; types = w.bindings.types; tyvars = w.bindings.tyvars }; marks = w.marks }

abbrev pub forgotten : ℕ → ℕ → Walk → Walk
forgotten n m w = record { made = w.made; bindings = record { values = oldest n w.bindings.values; types = oldest m w.bindings.types; tyvars = w.bindings.tyvars }; marks = w.marks }

-- each tree with one more mark before it, for the node that it stands under
abbrev pub leads : Forest → List Mark
leads f = effects.leads f

-- declarations are made and written, and what they bind is in scope
abbrev pub led : Makes Decs → Walk → Walk
led f w = record { made = (f w.made).1; bindings = bound_too (f w.made).0.env w.bindings; marks = w.marks ++ leads (f w.made).0.forest }

-- so many declaration trees are made and written, and what they bind is in scope
pub record Declares (f : Makes Decs) (before after : Walk) (trees : ℕ) : Type 0 where
  pub walk : after ≡ led f before
  pub written : trees ≡ count (f before.made).0.forest

-- the same with no mark before each tree
abbrev pub declared : Makes Decs → Walk → Walk
declared f w = record { made = (f w.made).1; bindings = bound_too (f w.made).0.env w.bindings; marks = w.marks ++ marks (f w.made).0.forest }

-- bindings without those between two numbers of them
abbrev pub hidden : {A : Type 0} → ℕ → ℕ → List A → List A
hidden from to env = take (length env - to) env ++ oldest from env

-- patterns are made and written, and the variables that they bind stand behind those so far
pub record Binds (f : Makes Pattern) (before after : Walk) (vars more : List Bound) : Type 0 where
  pub walk : after ≡ writes_pattern f before
  pub bound : more ≡ vars ++ (f before.made).0.vars
