-- A body that is placed, in a program with tables of what lives before each body and of the places of these variables.
use Rattle.std.specs.Prelude.{◌≡◌, ℕ, List, map}
use Rattle.std.specs.List.{AllByRecursion}
use Rattle.sml_tree.specs.Sets.{row_at}
use Rattle.closure_ir.specs.declared.body.Body.{Body}
use Rattle.closure_ir.specs.Program as closing
use Rattle.closure_ir.specs.Kept.{body_parts}
use Rattle.placed_ir.specs.declared.body.Body.{Body as BodyThere}
use Rattle.placed_ir.specs.Program.{code_of_steps}
use Rattle.place_laws.specs.Place.{Places, place_code}
use Rattle.place_bodies.specs.Steps.{at_of, end_placed}

-- The table has the places of the variables that live before a body, if it has those that a function gives them.
abbrev pub HasPlaces : List (List ℕ) → List (List ℕ) → ℕ → Places → Type 0
HasPlaces lives entries i at = row_at entries i ≡ map at (row_at lives i)

pub record IsBodyPlaced (bodies : List Body) (lives entries : List (List ℕ)) (i : ℕ) (b : Body) (there : BodyThere) : Type 0 where
  -- the places at its end
  pub table : List ℕ
  -- from the places that it begins with, its steps lead there
  pub steps : (at : Places) → HasPlaces lives entries i at → place_code at (closing.code_of_binds b.binds (closing.code_of_end (closing.code_at bodies) b.end)) ≡ code_of_steps there.steps (place_code (at_of table) (closing.code_of_end (closing.code_at bodies) b.end))
  -- its end finds its words there, and the bodies that it names begin with these places
  pub last : there.end ≡ end_placed (at_of table) b.end
  pub parts : AllByRecursion (λ n. HasPlaces lives entries n (at_of table)) (body_parts b)
