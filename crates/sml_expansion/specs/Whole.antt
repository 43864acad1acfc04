-- What the expansion of a parse tree is, and why a tree has none.
use Rattle.std.specs.Prelude.{◌≡◌, ℕ, ◌^◌, ◌≤◌, ◌<◌, Bool, true, List, [], ◌∷◌, ◌++◌, Option, Some, None, if◌then◌else◌}
use Rattle.smlc_base.specs.declared.place.Place.{Place}
use Rattle.smlc_base.specs.declared.refusal.CompileError.{CompileError}
use Rattle.smlc_base.specs.declared.refusal.CompileError.TheVariants as error
use Rattle.smlc_base.specs.declared.refusal.Refusal.{Refusal}
use Rattle.smlc_base.specs.declared.refusal.Refusal.TheVariants as refusal
use Rattle.sml_tree.specs.declared.bare.Bare.{Bare}
use Rattle.sml_tree.specs.declared.tree.Tree.{Tree}
use Rattle.sml_tree.specs.IsBare.{IsBare}
use Rattle.sml_tree.specs.Width.{width, is_user}
use Rattle.sml_expansion.specs.Terms.{Term, trees, place_at}
use Rattle.sml_expansion.specs.Programs.{Expansion, expansion, no_place}

-- the greatest width of a program
abbrev pub width_limit : ℕ
width_limit = 2 ^ 20

-- the names and texts of a tree go on where the library's end
pub record Continues (library tree : Tree) : Type 0 where
  pub names : (more : List (List ℕ)) × (tree.names ≡ library.names ++ more)
  pub texts : (more : List (List ℕ)) × (tree.texts ≡ library.texts ++ more)

abbrev pub expansion_of_tree : Tree → Tree → Expansion
expansion_of_tree library tree = expansion tree.names (trees library.nodes library.places) (trees tree.nodes tree.places)

-- the bare tree of the library's parse tree and a program's
abbrev pub bare_of : Tree → Tree → Bare
bare_of library tree = let e = expansion_of_tree library tree in record {
  nodes = e.nodes;
  places = e.places;
  decs = e.decs;
  shown = e.shown;
  types = e.made.types;
  tyvars = e.made.tyvars;
  names = e.made.names;
  texts = tree.texts;
  width = width e.nodes e.places;
}

-- the least of the rules that are broken
abbrev pub broken : Tree → Tree → Option Refusal
broken library tree = (expansion_of_tree library tree).made.refusal

-- the first token of the user's first declaration
abbrev pub first_user_place : List Term → Place
first_user_place [] = no_place
first_user_place (t ∷ terms) = if is_user (place_at t) then place_at t else first_user_place terms

pub record IsExpansion (library tree : Tree) (bare : Bare) : Type 0 where
  -- no rule is broken
  pub kept : broken library tree ≡ None
  pub narrow : (bare_of library tree).width ≤ width_limit
  pub same : bare ≡ bare_of library tree
  pub is_bare : IsBare bare

-- With what a program's parse tree is refused.
pub data IsRefusal (library tree : Tree) : Refusal → Type 0 where
  -- the least of the rules that are broken
  breaks_rule : (r : Refusal) → broken library tree ≡ Some r → IsRefusal library tree r
  too_wide : broken library tree ≡ None → width_limit < (bare_of library tree).width → IsRefusal library tree (refusal.TooWide (first_user_place (trees tree.nodes tree.places)))

-- want of memory, or a refusal of the tree
abbrev pub Fails : Tree → Tree → CompileError → Type 0
Fails library tree error.NoMemory = Unit {0}
Fails library tree (error.Refused r) = IsRefusal library tree r
