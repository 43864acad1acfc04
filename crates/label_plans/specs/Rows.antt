-- The row of a label, from what its function's closure has.
use Rattle.std.specs.Prelude.{ℕ, suc, ◌+◌, cond, List, [], ◌∷◌, ◌++◌, Option, Some, length, slice_get}
use Rattle.smlc_base.specs.declared.point.Point.{Point}
use Rattle.smlc_base.specs.declared.point.Site.{Site}
use Rattle.smlc_base.specs.SiteWords.{find_site, site_words}
use Rattle.cps_ir.specs.Slim.{Layout}
use Rattle.lifetime_users.specs.declared.class.Class.{Class}
use Rattle.close_laws.specs.declared.plan.LabelPlan.{LabelPlan}
use Rattle.close_laws.specs.Layouts.{vars_in}
use Rattle.close_laws.specs.Plan.{place_in_site}
use Rattle.closure_layouts.specs.declared.layouts.ClosureLayout.{ClosureLayout}

-- the words of a closure with its header, 0 for a closed function
abbrev pub words_of : ClosureLayout → ℕ
words_of k = cond k.is_static 0 (suc (cond k.has_code 1 0 + (length k.classes + length k.own)))

-- those of the records of some classes, by number
abbrev pub records_of : List Class → List ℕ → ℕ
records_of classes [] = 0
records_of classes (k ∷ ks) = suc (length (vars_in (slice_get classes k))) + records_of classes ks

abbrev pub row_of : List Point → List Site → List Class → Point → ClosureLayout → LabelPlan
row_of left sites classes p k = record {
  point = p;
  place = place_in_site (find_site sites p);
  words = words_of k;
  records = records_of classes k.classes;
  source = site_words left sites p;
}

-- where a function stands at a number, and its layout
abbrev pub row_at_number : List Point → List Site → List Class → Option Layout → Option ClosureLayout → List LabelPlan
row_at_number left sites classes (Some l) (Some k) = row_of left sites classes l.point k ∷ []
row_at_number left sites classes _ _ = []

-- the rows of functions by number
abbrev pub rows_in : List Point → List Site → List Class → List Layout → List ClosureLayout → List ℕ → List LabelPlan
rows_in left sites classes all layouts [] = []
rows_in left sites classes all layouts (i ∷ is) = row_at_number left sites classes (slice_get all i) (slice_get layouts i) ++ rows_in left sites classes all layouts is
