-- Programs.
use Rattle.std.specs.Prelude.{ℕ, suc, ◌+◌, Bool, true, false, ◌&&◌, if◌then◌else◌, List, [], ◌∷◌, ◌++◌}
use Rattle.smlc_base.specs.declared.place.Place.{Place}
use Rattle.sml_tree.specs.declared.bare.Node.{Node}
use Rattle.sml_tree.specs.declared.bare.Node.TheVariants as bare
use Rattle.sml_expansion.specs.declared.made.Made.{Made}
use Rattle.sml_expansion.specs.Terms.{Term, place_at}
use Rattle.sml_expansion.specs.Forests.{Forest, none, tree, grown, size, numbered, places}
use Rattle.sml_expansion.specs.Scopes.{Scope, nothing, within, with_long_identifiers}
use Rattle.sml_expansion.specs.Makings.{nothing_made, Makes, gives, ◌>>=◌}
use Rattle.sml_expansion.specs.Bare.{nest}
use Rattle.sml_expansion.specs.Expressions.{decs, shown_each}

-- a top-level declaration: the place of its first token, its trees, and for each whether its variables are shown
pub record Top : Type 0 where
  pub place : Place
  pub forest : Forest
  pub shown : List Bool

abbrev pub tops : Scope → List Term → Makes (List Top)
tops s [] = gives []
tops s (t ∷ terms) = do
  x ← decs s t
  rest ← tops (within s x.env) terms
  gives (record { place = place_at t; forest = x.forest; shown = x.shown } ∷ rest)

-- the declarations of the library, which aren't shown, and then the user's
abbrev pub all_tops : Scope → List Term → List Term → Makes (List Top)
all_tops s [] terms = tops (with_long_identifiers s) terms
all_tops s (t ∷ library) terms = do
  x ← decs s t
  rest ← all_tops (within s x.env) library terms
  gives (record { place = place_at t; forest = x.forest; shown = shown_each false x.forest } ∷ rest)

-- the place of the end: that of the user's last declaration
abbrev pub end_of : Place → List Term → Place
end_of p [] = p
end_of p (t ∷ terms) = end_of (place_at t) terms

-- one nest of `Let` whose innermost part is the end
abbrev pub program : Place → List Top → Forest
program p [] = grown bare.Finish p none
program p (t ∷ tops) = nest t.place t.forest (program p tops)

-- how many nodes the declarations have with their `Let` nodes
abbrev pub nested : Forest → ℕ
nested none = 0
nested (tree n p parts rest) = suc (suc (size parts)) + nested rest

-- the outermost `Let` of each declaration that has one, where the first node has number i
abbrev pub outermost : ℕ → Forest → List ℕ
outermost i none = []
outermost i (tree n p parts rest) = i ∷ []

abbrev pub lets : ℕ → List Top → List ℕ
lets i [] = []
lets i (t ∷ tops) = outermost i t.forest ++ lets (i + nested t.forest) tops

abbrev pub is_value : Node → Bool
is_value (bare.Val vs bindings) = true
is_value (bare.ValRec vs bindings) = true
is_value _ = false

-- the value declarations that are shown
abbrev pub shown_in : ℕ → Forest → List Bool → List ℕ
shown_in i (tree n p parts rest) (b ∷ shown) = (if b && is_value n then suc i ∷ [] else []) ++ shown_in (suc (suc (i + size parts))) rest shown
shown_in i _ _ = []

abbrev pub all_shown : ℕ → List Top → List ℕ
all_shown i [] = []
all_shown i (t ∷ tops) = shown_in i t.forest t.shown ++ all_shown (i + nested t.forest) tops

-- What a program expands to.
pub record Expansion : Type 0 where
  pub nodes : List Node
  pub places : List Place
  pub decs : List ℕ
  pub shown : List ℕ
  pub made : Made

abbrev pub no_place : Place
no_place = record { file = 0; line = 1; col = 1 }

abbrev pub expansion_of : Place → List Top × Made → Expansion
expansion_of end r = record {
  nodes = numbered 0 (program end r.0);
  places = places (program end r.0);
  decs = lets 0 r.0;
  shown = all_shown 0 r.0;
  made = r.1;
}

-- the expansion of the library's declarations and then of a program's, with these names
abbrev pub expansion : List (List ℕ) → List Term → List Term → Expansion
expansion names library terms = expansion_of (end_of no_place terms) (all_tops (record { names = names; env = nothing; tyvars = [] }) library terms nothing_made)
