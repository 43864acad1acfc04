-- The width of a program.
use Rattle.std.specs.Prelude.{ℕ, ◌+◌, Bool, not, List, [], ◌∷◌, Option, Some, None, false, cond, nat_eq, nat_lt, count_by, slice_get}
use Rattle.smlc_base.specs.declared.place.Place.{Place}
use Rattle.sml_tree.specs.declared.bare.Node.{Node}
use Rattle.sml_tree.specs.declared.points.Spot.{Spot}
use Rattle.sml_tree.specs.Points.{spots}

-- file 0 is the library
abbrev pub is_user : Place → Bool
is_user place = not (nat_eq place.file 0)

abbrev pub is_user_at : Option Place → Bool
is_user_at (Some place) = is_user place
is_user_at None = false

-- what is held at a point, if it is one of the user's files
abbrev pub user_held : List Place → Spot → ℕ
user_held places s = cond (is_user_at (slice_get places s.point.node)) s.held 0

abbrev pub held_by_user : List Place → List Spot → ℕ
held_by_user places [] = 0
held_by_user places (s ∷ ss) = user_held places s + held_by_user places ss

-- the number of nodes of the user's files and, over their points, of the values that are held there
abbrev pub width : List Node → List Place → ℕ
width nodes places = count_by is_user places + held_by_user places (spots nodes)

-- the width, where it isn't above the limit
abbrev pub at_most : ℕ → ℕ → Option ℕ
at_most limit w = cond (nat_lt limit w) None (Some w)
