-- Nodes whose parts are still expanded.
use Rattle.std.specs.Prelude.{◌≡◌, ℕ, zero, suc, List, [], ◌∷◌, ◌++◌, Option, Some}
use Rattle.sml_tree.specs.declared.bare.Node.{Node}
use Rattle.sml_tree.specs.declared.bare.Node.TheVariants as bare
use Rattle.sml_expansion.specs.declared.mark.Mark.{Mark}
use Rattle.sml_expansion.specs.declared.mark.Mark.TheVariants.{Open, Close}
use Rattle.sml_expansion.specs.declared.meaning.Meaning.{Meaning}
use Rattle.sml_expansion.specs.declared.meaning.Meaning.TheVariants.{Constructor}
use Rattle.smlc_base.specs.declared.place.Place.{Place}
use Rattle.sml_expansion.specs.declared.scope.Bound.{Bound}
use Rattle.sml_expansion.specs.declared.scope.Ident.{Ident}
use Rattle.sml_expansion.specs.declared.walk.Walk.{Walk}
use Rattle.sml_expansion.specs.Bare.{fields, con_cons}
use Rattle.sml_expansion.specs.Labels.{numbers}
use Rattle.sml_expansion.specs.Forests.{Forest, none, tree, grown, count}
use Rattle.sml_expansion.specs.Makings.{Makes, gives, ◌>>=◌}
use Rattle.sml_expansion.specs.Marks.{marks}
use Rattle.sml_expansion.specs.Patterns.{Pattern, under, applied}
use Rattle.sml_expansion.specs.Scopes.{Scope, scope_of, meaning_of}

-- the parts of a node begin
abbrev pub opened : Walk → Walk
opened w = record w { marks = w.marks ++ Open ∷ [] }

-- the trees of a list pattern, each as the first of the two parts of a pair, which is the part of `::`
abbrev pub items : Forest → List Mark
items none = []
items (tree n p parts rest) = Open ∷ Open ∷ (marks (grown n p parts) ++ items rest)

-- the ends of so many pairs and of the `::` that each is the part of
abbrev pub item_ends : Place → ℕ → List Mark
item_ends p zero = []
item_ends p (suc n) = item_ends p n ++ Close (bare.PatRecord (fields (numbers 0 2))) p ∷ Close (bare.PatApp con_cons 0) p ∷ []

-- Patterns are expanded as the items of a list pattern.
pub record Opens (names : List (List ℕ)) (f : Scope → Makes Pattern) (n : ℕ) (old new : Walk) (earlier later : List Bound) : Type 0 where
  pub made : new.made ≡ (f (scope_of names old.bindings) old.made).1
  pub bindings : new.bindings ≡ old.bindings
  pub marks : new.marks ≡ old.marks ++ items (f (scope_of names old.bindings) old.made).0.forest
  pub vars : later ≡ earlier ++ (f (scope_of names old.bindings) old.made).0.vars
  pub trees : n ≡ count (f (scope_of names old.bindings) old.made).0.forest

-- the node of `vid as q`
abbrev pub layer_node : ℕ → Option Meaning → Node
layer_node x (Some (Constructor c)) = bare.PatAsCon (record { 0 = x }) 0
layer_node x m = bare.PatAs (record { 0 = x }) 0

-- what becomes of the trees of patterns
abbrev pub wrapped : (Scope → Makes Pattern) → (Scope → Forest → Forest) → Scope → Makes Pattern
wrapped f h s = do
  x ← f s
  gives (under (h s) x)

-- an identifier at its argument
abbrev pub at_argument : (Scope → Makes Pattern) → Place → Ident → Scope → Makes Pattern
at_argument f p i s = do
  x ← f s
  applied p i (meaning_of s i.key) x
