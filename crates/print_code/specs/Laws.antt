-- What the definitions of a bare tree's meaning say together.
use Rattle.std.specs.Prelude.{ℕ, ◌≡◌, List}
use Rattle.smlc_base.specs.declared.place.Place.{Place}
use Rattle.sml_tree.specs.declared.bare.Bare.{Bare}
use Rattle.print_code.specs.Plain.{Says, StopsAt}

-- a tree says at most one text, stops at one place at most, and not both
pub record OneMeaning : Type 0 where
  pub texts : (p : Bare) (text text' : List ℕ) → Says p 0 text → Says p 0 text' → text ≡ text'
  pub places : (p : Bare) (place place' : Place) → StopsAt p 0 place → StopsAt p 0 place' → place ≡ place'
  pub either : (p : Bare) (text : List ℕ) (place : Place) → Says p 0 text → StopsAt p 0 place → ⊥
