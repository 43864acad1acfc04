-- The declarations of the top level: what is kept of them, and the marks of the nest that they make.
use Rattle.std.specs.Prelude.{◌≡◌, ℕ, zero, suc, Bool, true, false, List, [], ◌∷◌, ◌++◌, length}
use Rattle.std.specs.List.{AllByRecursion}
use Rattle.smlc_base.specs.declared.place.Place.{Place}
use Rattle.sml_expansion.specs.declared.walk.Walk.{Walk}
use Rattle.sml_expansion.specs.declared.mark.Mark.{Mark}
use Rattle.sml_expansion.specs.Terms.{Term, place_at}
use Rattle.sml_expansion.specs.Sources.{Source, IsAt}
use Rattle.sml_expansion.specs.Forests.{count}
use Rattle.sml_expansion.specs.Makings.{Makes}
use Rattle.sml_expansion.specs.Bindings.{Decs}
use Rattle.sml_expansion.specs.Expressions.{decs, shown_each}
use Rattle.sml_expansion.specs.Scopes.{renamed}
use Rattle.sml_prelude.specs.Long.{long_identifiers}
use Rattle.sml_expansion.specs.Programs as whole
use Rattle.sml_expansion.specs.Programs.{Top, Expansion}
use Rattle.sml_derive.specs.declared.top_trees.TopTree.{TopTree}
use Rattle.sml_derive.specs.declared.program.Expanded.{Expanded}
use Rattle.sml_derive.specs.Forms.{let_end}
use Rattle.sml_derive.specs.Steps.{scope, led, leads}

-- one answer for each of so many trees
abbrev pub so_many : ℕ → Bool → List Bool
so_many zero b = []
so_many (suc n) b = b ∷ so_many n b

-- declarations are made and written, what they bind is in scope, and whether their trees are shown stands behind what stood there
pub record Shows (f : Makes Decs) (before after : Walk) (was now : List Bool) : Type 0 where
  pub walk : after ≡ led f before
  pub shown : now ≡ was ++ (f before.made).0.shown

-- the trees of a declaration, the first of them or those behind it
abbrev pub trees_of : Bool → Place → List Bool → List TopTree
trees_of first p [] = []
trees_of first p (b ∷ shown) = record { place = p; first = first; shown = b } ∷ trees_of false p shown

abbrev pub all_trees : List Top → List TopTree
all_trees [] = []
all_trees (t ∷ tops) = trees_of true t.place t.shown ++ all_trees tops

-- the marks of all declarations
abbrev pub all_leads : List Top → List Mark
all_leads [] = []
all_leads (t ∷ tops) = leads t.forest ++ all_leads tops

-- the ends of their `Let` nodes: of the last tree first
abbrev pub ends : List TopTree → List Mark
ends [] = []
ends (t ∷ trees) = ends trees ++ let_end t.place

-- one declaration of the top level
pub record IsTop (s : Source) (t : Term) (before after : Walk) (was now : List TopTree) : Type 0 where
  pub walk : after ≡ led (decs (scope s before) t) before
  pub trees : now ≡ was ++ trees_of true (place_at t) (decs (scope s before) t before.made).0.shown

-- the declarations of a program
pub record AreTops (s : Source) (terms : List Term) (before after : Walk) (was now : List TopTree) : Type 0 where
  pub made : after.made ≡ (whole.tops (scope s before) terms before.made).1
  pub marks : after.marks ≡ before.marks ++ all_leads (whole.tops (scope s before) terms before.made).0
  pub trees : now ≡ was ++ all_trees (whole.tops (scope s before) terms before.made).0

-- one declaration of the library
pub record IsLibraryTop (s : Source) (t : Term) (before after : Walk) (was now : List TopTree) : Type 0 where
  pub walk : after ≡ led (decs (scope s before) t) before
  pub trees : now ≡ was ++ trees_of true (place_at t) (shown_each false (decs (scope s before) t before.made).0.forest)

-- the declarations of the library from these on, and those of a program behind them
pub record AreAll (s : Source) (library terms : List Term) (before after : Walk) (was now : List TopTree) : Type 0 where
  pub made : after.made ≡ (whole.all_tops (scope s before) library terms before.made).1
  pub marks : after.marks ≡ before.marks ++ all_leads (whole.all_tops (scope s before) library terms before.made).0
  pub trees : now ≡ was ++ all_trees (whole.all_tops (scope s before) library terms before.made).0

-- the declarations of the library are expanded: whatever stands behind them, stands behind them in the whole
abbrev pub StandBefore : Source → List Term → Walk → Walk → List TopTree → List TopTree → Type 0
StandBefore s library before after was now = (terms : List Term) (last : Walk) (all : List TopTree) → AreAll s [] terms after last now all → AreAll s library terms before last was all

-- the long identifiers come into scope
abbrev pub named_long : List (List ℕ) → Walk → Walk
named_long names w = record { made = w.made; bindings = record { values = renamed names long_identifiers w.bindings.values; types = w.bindings.types; tyvars = w.bindings.tyvars }; marks = w.marks }

-- these numbers are the roots of these trees
pub data AreAt (s : Source) : List ℕ → List Term → Type 0 where
  none_at : AreAt s [] []
  more_at : (i : ℕ) (t : Term) (is : List ℕ) (ts : List Term) → IsAt s i t → AreAt s is ts → AreAt s (i ∷ is) (t ∷ ts)

-- for each tree it is known whether it is shown
abbrev pub AreKnown : List Top → Type 0
AreKnown tops = AllByRecursion (λ t. length t.shown ≡ count t.forest) tops

-- what was expanded is this expansion
pub record IsExpanded (e : Expanded) (x : Expansion) : Type 0 where
  pub nodes : e.nodes ≡ x.nodes
  pub places : e.places ≡ x.places
  pub decs : e.decs ≡ x.decs
  pub shown : e.shown ≡ x.shown
  pub made : e.made ≡ x.made
