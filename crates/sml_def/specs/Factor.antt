-- What the factor of a layout plan says of the charges of its labels, and what pays for them.
use Rattle.std.specs.Prelude.{◌≡◌, ℕ, ◌+◌, ◌*◌, ◌≤◌, true, false, List, [], ◌∷◌}
use Rattle.smlc_base.specs.declared.point.Point.{Point}
use Rattle.smlc_base.specs.declared.point.Site.{Site}
use Rattle.smlc_base.specs.declared.point.PointKind.TheVariants as kind
use Rattle.sml_tree.specs.declared.bare.Bare.{Bare}
use Rattle.sml_tree.specs.Points.{point}
use Rattle.simulation.specs.Blocks.{Reach}
use Rattle.smlc_base.specs.Points.{is_label}
use Rattle.smlc_base.specs.SiteWords.{is_left, site_words}
use Rattle.simulation.specs.Words.{weight, Affords, Any}
use Rattle.sml_tree.specs.IsBare.{IsBare}
use Rattle.sml_def.specs.Words.{words}
use Rattle.sml_def.specs.Run.{run}
use Rattle.sml_def.specs.Sites.{sites}
use Rattle.sml_def.specs.Made.{frame_words, made}

-- what is charged to a site's points is at most the factor times its words; a point that isn't left is charged nothing
pub record IsFactor (labels : List Point) (ss : List Site) (charge : Point → ℕ) (factor : ℕ) : Type 0 where
  pub one : 1 ≤ factor
  pub fn : (q : Point) → weight charge (q ∷ []) ≤ factor * site_words labels ss q
  pub ret : (q : Point) → weight charge (q ∷ []) ≤ factor * frame_words labels ss (q ∷ [])
  pub handle : (i : ℕ) → weight charge (point i kind.Caught ∷ point i kind.Popped ∷ []) ≤ factor * frame_words labels ss (point i kind.Caught ∷ point i kind.Popped ∷ [])

-- The factor of a plan: nothing but a label is charged, each label no more than the factor times its site words, and the two functions of a `handle` together no more.
pub record CoversLabels (labels : List Point) (ss : List Site) (charge : Point → ℕ) (factor : ℕ) : Type 0 where
  pub one : 1 ≤ factor
  pub others : (q : Point) → is_label labels q ≡ false → charge q ≡ 0
  pub each : (q : Point) → is_label labels q ≡ true → charge q ≤ factor * site_words labels ss q
  pub handle : (i : ℕ) → is_left labels (point i kind.Caught) ≡ true → charge (point i kind.Caught) + charge (point i kind.Popped) ≤ factor * site_words labels ss (point i kind.Caught)

abbrev pub PlansGiveFactors : Type 0
PlansGiveFactors =
    (labels : List Point) (ss : List Site) (charge : Point → ℕ) (factor : ℕ) → CoversLabels labels ss charge factor → IsFactor labels ss charge factor

-- what the source has made pays, with the factor, for the charges of all of it
abbrev pub MadePays : Type 0
MadePays =
    (p : Bare) (labels : List Point) (charge : Point → ℕ) (factor : ℕ) → IsFactor labels (sites p) charge factor → (input : List ℕ) (n : ℕ) → Affords factor charge ((run p input).memory n) Any (made p labels input n)

-- what the source reaches pays, with the factor, for the charges of what is reached
abbrev pub ReachPays : Type 0
ReachPays =
    (p : Bare) → IsBare p → (labels : List Point) (charge : Point → ℕ) (factor : ℕ) → IsFactor labels (sites p) charge factor → (input : List ℕ) (n : ℕ) → Affords factor charge ((run p input).memory n) (Reach ((run p input).memory n) ((run p input).roots n)) (words ((run p input).memory n) ((run p input).roots n))
