-- What the census of a state counts, and what it says of the words that are reached.
use Rattle.std.specs.Prelude.{◌≡◌, ℕ, ◌+◌, ◌*◌, Bool, true, false, cond, List, length, sum_by}
use Rattle.smlc_base.specs.declared.point.Point.{Point}
use Rattle.smlc_base.specs.declared.point.PointKind.{PointKind}
use Rattle.smlc_base.specs.declared.point.PointKind.TheVariants as kind
use Rattle.smlc_base.specs.declared.point.Site.{Site}
use Rattle.sml_tree.specs.declared.bare.Bare.{Bare}
use Rattle.sml_tree.specs.IsBare.{IsBare}
use Rattle.simulation.specs.Blocks.{Datum, Block, IsAmong, points_of, StandsAt, Reach}
use Rattle.simulation.specs.Words.{IsDistinct, weight, words_at}
use Rattle.sml_def.specs.Run.{run}
use Rattle.sml_def.specs.Sites.{sites}
use Rattle.sml_def.specs.Words.{words, Census, census}

-- ---- What is counted

-- n blocks of point q are reached
pub record HasCount (memory : List Block) (roots : List ℕ) (q : Point) (n : ℕ) : Type 0 where
  pub addresses : List ℕ
  pub distinct : IsDistinct addresses
  pub reached : (a : ℕ) → IsAmong a addresses → Reach memory roots a × ((b : Block) × StandsAt memory a b × IsAmong q (points_of b.kind))
  pub all : (a : ℕ) (b : Block) → Reach memory roots a → StandsAt memory a b → IsAmong q (points_of b.kind) → IsAmong a addresses
  pub count : length addresses ≡ n

-- the data that are reached have n words
pub record HasDataWords (memory : List Block) (roots : List ℕ) (n : ℕ) : Type 0 where
  pub addresses : List ℕ
  pub distinct : IsDistinct addresses
  pub reached : (a : ℕ) → IsAmong a addresses → Reach memory roots a × ((b : Block) × StandsAt memory a b × (b.kind ≡ Datum))
  pub all : (a : ℕ) (b : Block) → Reach memory roots a → StandsAt memory a b → b.kind ≡ Datum → IsAmong a addresses
  pub sum : weight (words_at memory) addresses ≡ n

-- each closure and frame is counted once at its point, a frame of a `handle` at both of its points
pub record IsCensus (memory : List Block) (roots : List ℕ) (c : Census) : Type 0 where
  pub counts : (q : Point) → HasCount memory roots q (c.at_point q)
  pub rest : HasDataWords memory roots c.data_words

-- so it is in each state of a run
abbrev pub CensusCounts : Type 0
CensusCounts =
    (p : Bare) (input : List ℕ) (n : ℕ) → IsCensus ((run p input).memory n) ((run p input).roots n) (census ((run p input).memory n) ((run p input).roots n))

-- ---- The words of a census

abbrev pub is_popped : PointKind → Bool
is_popped kind.Popped = true
is_popped _ = false

-- The words of the closures and frames of a site. A frame of a `handle`, which is counted at two points, has its words at Caught.
abbrev pub site_total : Census → Site → ℕ
site_total c s = cond (is_popped s.point.kind) 0 (c.at_point s.point * s.words)

abbrev pub census_words : List Site → Census → ℕ
census_words ss c = sum_by (site_total c) ss + c.data_words

-- in each state of a run the words are those of its census
abbrev pub WordsAreCounted : Type 0
WordsAreCounted =
    (p : Bare) → IsBare p → (input : List ℕ) (n : ℕ) → words ((run p input).memory n) ((run p input).roots n) ≡ census_words (sites p) (census ((run p input).memory n) ((run p input).roots n))

-- ---- Nothing else counts

-- the same addresses are reached, and there are blocks of the same kinds and words; what they name may differ
pub record ReachTheSame (memory : List Block) (roots : List ℕ) (others : List Block) (ends : List ℕ) : Type 0 where
  pub there : (a : ℕ) → Reach memory roots a → Reach others ends a
  pub back : (a : ℕ) → Reach others ends a → Reach memory roots a
  pub alike : (a : ℕ) (x y : Block) → Reach memory roots a → StandsAt memory a x → StandsAt others a y → (x.kind ≡ y.kind) × (x.words ≡ y.words)

pub record CountTheSame (memory : List Block) (roots : List ℕ) (others : List Block) (ends : List ℕ) : Type 0 where
  pub words : words memory roots ≡ words others ends
  pub at_point : (q : Point) → (census memory roots).at_point q ≡ (census others ends).at_point q
  pub data_words : (census memory roots).data_words ≡ (census others ends).data_words

-- states of two runs, or of one, that reach the same have the same words and the same census
abbrev pub CensusIsOfReach : Type 0
CensusIsOfReach =
    (p r : Bare) (input rest : List ℕ) (m n : ℕ) → ReachTheSame ((run p input).memory m) ((run p input).roots m) ((run r rest).memory n) ((run r rest).roots n) → CountTheSame ((run p input).memory m) ((run p input).roots m) ((run r rest).memory n) ((run r rest).roots n)
