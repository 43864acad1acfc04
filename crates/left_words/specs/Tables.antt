-- Labels and sites by rank.
use Rattle.std.specs.Prelude.{◌≡◌, ℕ, cond, List, Option, Some, None, slice_get}
use Rattle.std.specs.Ordering.{nat_cmp}
use Rattle.std.specs.BTreeMap.{BTreeMap, get}
use Rattle.smlc_base.specs.declared.point.Point.{Point}
use Rattle.smlc_base.specs.declared.point.Site.{Site}
use Rattle.smlc_base.specs.Points.{is_label}
use Rattle.smlc_base.specs.SiteWords.{find_site, is_left}
use Rattle.sml_tree.specs.Order.{rank}
use Rattle.sml_tree.specs.Sets.{has}

-- a set has the ranks of these labels
abbrev pub AreRanked : List Point → List ℕ → Type 0
AreRanked labels ranks = (p : Point) → has ranks (rank p) ≡ is_label labels p

-- the site of a number
abbrev pub numbered : List Site → Option ℕ → Option Site
numbered sites None = None
numbered sites (Some i) = slice_get sites i

-- a map has by rank the numbers of the first sites of points
abbrev pub AreFirst : List Site → List Site → BTreeMap ℕ ℕ → Type 0
AreFirst all some numbers = (p : Point) → numbered all (get nat_cmp numbers (rank p)) ≡ find_site some p

-- the frame at a place, where its label isn't left
abbrev pub frame_at : List Point → List Site → Option Point → Option Site
frame_at labels sites None = None
frame_at labels sites (Some p) = cond (is_left labels p) None (find_site sites p)
