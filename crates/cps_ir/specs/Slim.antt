-- What it is for a program to be slim over its sites: no function holds more than its site words allow.
use Rattle.std.specs.Prelude.{◌≡◌, ◌≢◌, ℕ, ◌-◌, ◌≤◌, ◌<◌, true, List, [], ◌∷◌, ◌++◌, Option, Some, length, map}
use Rattle.std.specs.Option.{is_some}
use Rattle.smlc_base.specs.declared.point.Point.{Point}
use Rattle.smlc_base.specs.declared.point.PointKind.{PointKind}
use Rattle.smlc_base.specs.declared.point.PointKind.TheVariants as kind
use Rattle.smlc_base.specs.declared.point.Site.{Site}
use Rattle.smlc_base.specs.SiteWords.{find_site, site_words}
use Rattle.sml_tree.specs.Order.{rank}
use Rattle.sml_tree.specs.Sets.{has, without}
use Rattle.simulation.specs.Blocks.{IsAmong}
use Rattle.simulation.specs.Runs.{times}
use Rattle.cps_ir.specs.Code.{Code, Make, Pick, Prim, Equal, Fix, Call, Match, Handler, SetHandler, Throw, Halt, Functions, NoFunction, Function, Rules, Otherwise, Rule, Tree}
use Rattle.cps_ir.specs.Free.{free_code, labels}

-- a function of a program: its name, its point, and what it would hold
pub record Layout : Type 0 where
  pub name : ℕ
  pub point : Point
  pub free : List ℕ

abbrev mutual
  pub layouts : Code → List Layout
  layouts (Make x shape atoms c) = layouts c
  layouts (Pick x i a c) = layouts c
  layouts (Prim x f atoms c) = layouts c
  layouts (Equal a b truth k) = []
  layouts (Fix fs c) = layouts_functions fs ++ layouts c
  layouts (Call a atoms) = []
  layouts (Match a rules) = layouts_rules rules
  layouts (Handler x c) = layouts c
  layouts (SetHandler a c) = layouts c
  layouts (Throw a) = []
  layouts Halt = []

  pub layouts_functions : Functions → List Layout
  layouts_functions NoFunction = []
  layouts_functions (Function f p params body fs) =
      record { name = f; point = p; free = without (free_code body) params } ∷ (layouts body ++ layouts_functions fs)

  pub layouts_rules : Rules → List Layout
  layouts_rules (Otherwise c) = layouts c
  layouts_rules (Rule tests c rules) = layouts c ++ layouts_rules rules

-- ---- Closed functions, which are static

-- these functions have no free variable but themselves and one another
abbrev pub AreClosed : List Layout → List ℕ → Type 0
AreClosed all closed =
    (x : ℕ) → has closed x ≡ true → (l : Layout) × IsAmong l all × (l.name ≡ x) × ((y : ℕ) → has l.free y ≡ true → has (x ∷ closed) y ≡ true)

-- the greatest such set
pub record IsClosedSet (c : Code) (closed : List ℕ) : Type 0 where
  pub are : AreClosed (layouts c) closed
  pub greatest : (more : List ℕ) → AreClosed (layouts c) more → (x : ℕ) → has more x ≡ true → has closed x ≡ true

-- how many values a function holds
abbrev pub holds_of : List ℕ → Layout → ℕ
holds_of closed l = length (without l.free (l.name ∷ closed))

-- the most that a function of a point may hold, where its site words are s
abbrev pub most_held : PointKind → ℕ → ℕ
most_held kind.Fn s = s - 1
most_held kind.Ret s = s - 1
most_held kind.Caught s = s
most_held kind.Popped s = 2
most_held kind.Eq s = 0

-- ---- Sites

-- the fewest words of a site
abbrev pub least_words : PointKind → ℕ
least_words kind.Fn = 1
least_words kind.Eq = 4
least_words _ = 2

-- what encloses a frame is an earlier one that has a site
pub record IsOuter (sites : List Site) (inner outer : Point) : Type 0 where
  pub earlier : rank outer < rank inner
  pub stands : is_some (find_site sites outer) ≡ true

pub record SitesFit (sites : List Site) : Type 0 where
  pub once : (p : Point) → times p (map (λ s. s.point) sites) ≤ 1
  pub least : (s : Site) → IsAmong s sites → least_words s.point.kind ≤ s.words
  pub outer : (s : Site) (p : Point) → IsAmong s sites → s.outer ≡ Some p → IsOuter sites s.point p

pub record IsSlim (q : Tree) : Type 0 where
  pub fit : SitesFit q.sites
  -- each point but that of comparisons stands once, no function stands for that one, and each function's point has a site
  pub once : (p : Point) → p.kind ≢ kind.Eq → times p (labels q.code) ≤ 1
  pub functions : (l : Layout) → IsAmong l (layouts q.code) → l.point.kind ≢ kind.Eq
  pub stand : (l : Layout) → IsAmong l (layouts q.code) → is_some (find_site q.sites l.point) ≡ true
  pub held : (closed : List ℕ) → IsClosedSet q.code closed → (l : Layout) → IsAmong l (layouts q.code) → holds_of closed l ≤ most_held l.point.kind (site_words (labels q.code) q.sites l.point)
