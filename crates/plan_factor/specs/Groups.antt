-- Functions by the site of their points.
use Rattle.std.specs.Prelude.{ℕ, ◌+◌, Bool, false, nat_eq, List, [], ◌∷◌, Option, Some, None, slice_get, filter, max}
use Rattle.std.specs.List.{AllByRecursion}
use Rattle.std.specs.Ordering.{nat_cmp}
use Rattle.std.specs.BTreeMap.{BTreeMap, get}
use Rattle.smlc_base.specs.declared.point.Point.{Point}
use Rattle.smlc_base.specs.declared.point.Site.{Site}
use Rattle.smlc_base.specs.SiteWords.{site_words}
use Rattle.sml_tree.specs.IsBare.{IsAscending}
use Rattle.sml_tree.specs.Sets.{union_over}
use Rattle.sml_tree.specs.Order.{rank}
use Rattle.cps_ir.specs.Slim.{Layout}
use Rattle.lifetime_users.specs.declared.class.Class.{Class}
use Rattle.close_laws.specs.Plan.{frame_point, quotient}
use Rattle.closure_layouts.specs.declared.layouts.ClosureLayout.{ClosureLayout}
use Rattle.label_plans.specs.Rows.{words_of, records_of}

abbrev pub frame_rank : Point → ℕ
frame_rank p = rank (frame_point p)

abbrev pub row_in : Option (List ℕ) → List ℕ
row_in None = []
row_in (Some row) = row

-- the numbers of a key
abbrev pub grouped : BTreeMap ℕ (List ℕ) → ℕ → List ℕ
grouped groups r = row_in (get nat_cmp groups r)

abbrev pub has_rank : Option Layout → ℕ → Bool
has_rank None r = false
has_rank (Some l) r = nat_eq (frame_rank l.point) r

-- those of these functions whose site has this rank
abbrev pub with_rank : List Layout → List ℕ → ℕ → List ℕ
with_rank all order r = filter (λ i. has_rank (slice_get all i) r) order

-- the words and the classes of a layout
abbrev pub words_at : Option ClosureLayout → ℕ
words_at None = 0
words_at (Some k) = words_of k

abbrev pub classes_at : Option ClosureLayout → List ℕ
classes_at None = []
classes_at (Some k) = k.classes

abbrev pub words_in : List ClosureLayout → List ℕ → ℕ
words_in layouts [] = 0
words_in layouts (i ∷ is) = words_at (slice_get layouts i) + words_in layouts is

-- the classes of all layouts ascend
abbrev pub AreAscending : List ClosureLayout → Type 0
AreAscending layouts = AllByRecursion (λ k. IsAscending 0 k.classes) layouts

abbrev pub classes_in : List ClosureLayout → List ℕ → List ℕ
classes_in layouts group = union_over (λ i. classes_at (slice_get layouts i)) group

-- ---- The greatest quotient

module _ (left : List Point) (sites : List Site) (classes : List Class) (layouts : List ClosureLayout) where
  -- of the site of a point, whose functions these are
  abbrev pub site_factor : List ℕ → Point → ℕ
  site_factor group p = quotient (words_in layouts group + records_of classes (classes_in layouts group)) (site_words left sites (frame_point p))

  -- against the greatest so far
  abbrev pub best_with : (ℕ → List ℕ) → Option Layout → ℕ → ℕ
  best_with groups None best = best
  best_with groups (Some l) best = max (site_factor (groups (frame_rank l.point)) l.point) best

  abbrev pub best_in : (ℕ → List ℕ) → List Layout → List ℕ → ℕ
  best_in groups all [] = 1
  best_in groups all (i ∷ is) = best_with groups (slice_get all i) (best_in groups all is)
