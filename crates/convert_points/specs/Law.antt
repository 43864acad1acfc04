-- The points of what conversion makes.
use Rattle.std.specs.Prelude.{◌≡◌, ◌≢◌, ℕ, ◌≤◌, Bool, true, List}
use Rattle.std.specs.Option.{is_some}
use Rattle.smlc_base.specs.declared.point.Point.{Point}
use Rattle.smlc_base.specs.declared.point.PointKind.TheVariants.{Eq}
use Rattle.smlc_base.specs.SiteWords.{find_site}
use Rattle.sml_tree.specs.declared.bare.Bare.{Bare}
use Rattle.sml_tree.specs.IsBare.{IsBare}
use Rattle.sml_types.specs.declared.tables.TypeName.{TypeName}
use Rattle.sml_def.specs.Sites.{sites}
use Rattle.simulation.specs.Blocks.{IsAmong}
use Rattle.simulation.specs.Runs.{times}
use Rattle.lambda_ir.specs.declared.term.Term.{Term}
use Rattle.lambda_laws.specs.Make.{lambda_of}
use Rattle.cps_ir.specs.Code.{Tree}
use Rattle.cps_ir.specs.Free.{labels}
use Rattle.cps_ir.specs.Slim.{Layout, layouts, SitesFit}
use Rattle.convert_laws.specs.Convert.{convert}
use Rattle.convert_laws.specs.Fit.{IsFit}
use Rattle.convert_laws.specs.Program.{cps_of}
use Rattle.contract_round.specs.Law.{IsWhole}
use Rattle.convert_points.specs.Made.{count, ArePaid}

-- Where the decision fits, conversion makes a point no more often than is paid for it.
abbrev pub ConversionIsPaid : Type 0
ConversionIsPaid =
    (terms : List Term) (needy own : ℕ → Bool) → IsFit terms needy own → (p : Point) (paid : ℕ → ℕ) → ArePaid p paid terms → count p (convert own terms) ≤ paid 0

-- each point but that of comparisons stands once, no function stands for that one, and each function's point has a site
pub record HasPoints (q : Tree) : Type 0 where
  pub once : (p : Point) → p.kind ≢ Eq → times p (labels q.code) ≤ 1
  pub functions : (l : Layout) → IsAmong l (layouts q.code) → l.point.kind ≢ Eq
  pub stand : (l : Layout) → IsAmong l (layouts q.code) → is_some (find_site q.sites l.point) ≡ true

-- so it is with what a bare tree becomes
abbrev pub ConvertedPointsStandOnce : Type 0
ConvertedPointsStandOnce = (ts : List TypeName) (p : Bare) → IsBare p → HasPoints (cps_of (lambda_of ts p))

-- which is whole
abbrev pub ConvertedIsWhole : Type 0
ConvertedIsWhole = (ts : List TypeName) (p : Bare) → IsBare p → IsWhole (cps_of (lambda_of ts p)).code

-- The sites of a bare tree are of different points, have the words that a closure or frame has by itself, and stand in one another.
abbrev pub SitesOfATreeFit : Type 0
SitesOfATreeFit = (p : Bare) → IsBare p → SitesFit (sites p)
