-- Laws of the machine.
use Rattle.std.specs.Prelude.{◌≡◌, ◌≤◌, ℕ, Bool, List, Some}
use Rattle.smlc_base.specs.declared.point.Point.{Point}
use Rattle.smlc_base.specs.declared.point.Site.{Site}
use Rattle.sml_tree.specs.declared.bare.Bare.{Bare}
use Rattle.simulation.specs.Blocks.{Block, IsAmong, IsPrefix, Grows, StandsAt, points_of}
use Rattle.simulation.specs.Keeps.{IsTidy}
use Rattle.simulation.specs.Runs.{times}
use Rattle.sml_tree.specs.IsBare.{IsBare}
use Rattle.sml_tree.specs.Order.{AscendFrom}
use Rattle.sml_def.specs.Run.{points, run}
use Rattle.sml_def.specs.Sites.{sites}
use Rattle.sml_def.specs.Made.{made}

-- A later output begins with an earlier one, and a later memory has the blocks of an earlier one.
pub record OnlyGrows (p : Bare) (input : List ℕ) (m n : ℕ) : Type 0 where
  pub out : IsPrefix ((run p input).out m) ((run p input).out n)
  pub memory : Grows ((run p input).memory m) ((run p input).memory n)

abbrev pub RunsOnlyGrow : Type 0
RunsOnlyGrow = (p : Bare) (input : List ℕ) (m n : ℕ) → m ≤ n → OnlyGrows p input m n

-- the points of a program stand in ascending order
abbrev pub PointsAscend : Type 0
PointsAscend = (p : Bare) → IsBare p → AscendFrom 0 (points p)

-- so each stands once
abbrev pub PointsStandOnce : Type 0
PointsStandOnce = (p : Bare) → IsBare p → (q : Point) → times q (points p) ≤ 1

-- The records of each run are in order, as the machine makes no class record and no spill record.
abbrev pub SourceIsTidy : Type 0
SourceIsTidy = (full : Bool) (p : Bare) (input : List ℕ) → IsTidy full (run p input)

-- q is the point of one of the program's sites
abbrev pub HasSite : Bare → Point → Type 0
HasSite p q = (s : Site) × IsAmong s (sites p) × (s.point ≡ q)

-- each point that a run of a program passes is that of one of its sites
abbrev pub PassesAreSites : Type 0
PassesAreSites = (p : Bare) → IsBare p → (input : List ℕ) (n : ℕ) (q : Point) → (run p input).pass n ≡ Some q → HasSite p q

-- q is the point of a site whose closures and frames have so many words
abbrev pub HasSiteOf : Bare → Point → ℕ → Type 0
HasSiteOf p q words = (s : Site) × IsAmong s (sites p) × (s.point ≡ q) × (s.words ≡ words)

-- in each state of a run each closure and frame has the words of its site, a frame of a `handle` of both its sites
abbrev pub BlocksHaveSites : Type 0
BlocksHaveSites =
    (p : Bare) → IsBare p → (input : List ℕ) (n a : ℕ) (b : Block) (q : Point) → StandsAt ((run p input).memory n) a b → IsAmong q (points_of b.kind) → HasSiteOf p q b.words

-- what a run has made by a step, where these labels are left, is never less afterwards
abbrev pub MadeOnlyGrows : Type 0
MadeOnlyGrows = (p : Bare) (labels : List Point) (input : List ℕ) (m n : ℕ) → m ≤ n → made p labels input m ≤ made p labels input n
