-- The points of a program with their source words.
use Rattle.std.specs.Prelude.{ℕ, ◌+◌, List, [], ◌∷◌, ◌++◌, None, map, slice_get, unwrap_or}
use Rattle.smlc_base.specs.declared.place.Place.{Place}
use Rattle.smlc_base.specs.declared.point.Site.{Site}
use Rattle.smlc_base.specs.declared.point.PointKind.{PointKind}
use Rattle.smlc_base.specs.declared.point.PointKind.TheVariants as kind
use Rattle.sml_tree.specs.declared.bare.Bare.{Bare}
use Rattle.sml_tree.specs.declared.points.Spot.{Spot}
use Rattle.sml_tree.specs.Points.{spots}
use Rattle.sml_def.specs.Run.{eq_point}

-- the words of a closure or frame beside the values that it holds: a closure's header, a frame's header and the next frame
abbrev pub own_words : PointKind → ℕ
own_words kind.Fn = 1
own_words _ = 2

-- where nothing has a place
abbrev pub no_place : Place
no_place = record { file = 0; line = 1; col = 1 }

abbrev pub place_at : List Place → ℕ → Place
place_at places i = unwrap_or (slice_get places i) no_place

abbrev pub site_of : List Place → Spot → Site
site_of places s = record {
  point = s.point;
  place = place_at places s.point.node;
  words = s.held + own_words s.point.kind;
  outer = s.outer;
}

-- the comparison: a pending pair has 4 words
abbrev pub eq_site : Site
eq_site = record { point = eq_point; place = no_place; words = 4; outer = None }

-- all points in ascending order
abbrev pub sites : Bare → List Site
sites p = map (site_of p.places) (spots p.nodes) ++ eq_site ∷ []
