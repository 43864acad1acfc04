-- The plan of a program, and its factor.
use Rattle.std.specs.Prelude.{ℕ, zero, suc, ◌+◌, ◌/◌, max, List, [], ◌∷◌, ◌++◌, Option, Some, None, cond, map, filter}
use Rattle.smlc_base.specs.declared.place.Place.{Place}
use Rattle.smlc_base.specs.declared.point.Point.{Point}
use Rattle.smlc_base.specs.declared.point.PointKind.{PointKind}
use Rattle.smlc_base.specs.declared.point.PointKind.TheVariants as kind
use Rattle.smlc_base.specs.declared.point.Site.{Site}
use Rattle.smlc_base.specs.Points.{is_point}
use Rattle.smlc_base.specs.SiteWords.{find_site, site_words}
use Rattle.sml_tree.specs.Sets.{union_over}
use Rattle.sml_def.specs.Run.{eq_point}
use Rattle.cps_ir.specs.Code.{Tree}
use Rattle.close_laws.specs.declared.plan.LabelPlan.{LabelPlan}
use Rattle.close_laws.specs.declared.plan.Plan.{Plan}
use Rattle.close_laws.specs.Layouts.{Facts, facts, layout_words, layout_classes, record_words}
use Rattle.close_laws.specs.Close.{labelled, points_of, left_points, compares}

-- the frame of a `handle` is named by its Caught
abbrev pub caught_kind : PointKind → PointKind
caught_kind kind.Popped = kind.Caught
caught_kind k = k

abbrev pub frame_point : Point → Point
frame_point p = record { node = p.node; kind = caught_kind p.kind }

abbrev pub first_place : Place
first_place = record { file = 0; line = 1; col = 1 }

abbrev pub place_in_site : Option Site → Place
place_in_site None = first_place
place_in_site (Some s) = s.place

-- rounded up
abbrev pub quotient : ℕ → ℕ → ℕ
quotient n zero = 0
quotient n (suc d) = (n + d) / suc d

-- the turn of a comparison has a pending pair of 4 words in the source, and no closure
abbrev pub eq_plan : LabelPlan
eq_plan = record { point = eq_point; place = first_place; words = 4; records = 0; source = 4 }

module _ (A : Facts) (sites : List Site) (left : List Point) where
  abbrev pub label_plan : Point → LabelPlan
  label_plan p = record {
    point = p;
    place = place_in_site (find_site sites p);
    words = layout_words A p;
    records = record_words A (layout_classes A p);
    source = site_words left sites p;
  }

  -- the functions of the site of a point: one, or the two of a `handle`
  abbrev pub of_site : List Point → Point → List Point
  of_site own p = filter (λ q. is_point (frame_point q) (frame_point p)) own

  abbrev pub words_of : List Point → ℕ
  words_of [] = 0
  words_of (p ∷ ps) = layout_words A p + words_of ps

  -- the words of all layouts of the point's site, and of the different records that they name
  abbrev pub closed_words : List Point → Point → ℕ
  closed_words own p = words_of (of_site own p) + record_words A (union_over (layout_classes A) (of_site own p))

  -- against the words of the site
  abbrev pub factor_at : List Point → Point → ℕ
  factor_at own p = quotient (closed_words own p) (site_words left sites (frame_point p))

  abbrev pub greatest : List Point → List Point → ℕ
  greatest own [] = 1
  greatest own (p ∷ ps) = max (factor_at own p) (greatest own ps)

abbrev pub plan_by : Facts → Tree → Plan
plan_by A q =
    let left = left_points A q.code in
    let own = points_of (labelled A q.code) in
    record {
      labels = map (label_plan A q.sites left) own ++ cond (compares q.code) (eq_plan ∷ []) [];
      classes = record { of = A.classes };
      factor = greatest A q.sites left own own;
      spill = 0;
    }

abbrev pub plan : ℕ → Tree → Plan
plan fresh q = plan_by (facts fresh q.code) q
