-- The frames that a state reaches are one chain, which goes as the program's sites say.
use Rattle.std.specs.Prelude.{◌≡◌, ◌<◌, ◌≤◌, ℕ, List, Option, Some, None, slice_get, sum_by}
use Rattle.smlc_base.specs.declared.point.Point.{Point}
use Rattle.smlc_base.specs.declared.point.Site.{Site}
use Rattle.sml_tree.specs.declared.bare.Bare.{Bare}
use Rattle.sml_tree.specs.IsBare.{IsBare}
use Rattle.simulation.specs.Blocks.{Frame, Block, IsAmong, points_of, StandsAt, Reach}
use Rattle.sml_def.specs.Run.{run}
use Rattle.sml_def.specs.Sites.{sites}
use Rattle.sml_def.specs.Words.{reached, words}
use Rattle.sml_def.specs.Made.{made_words}

-- the block is a frame
abbrev pub IsFrame : Block → Type 0
IsFrame x = (qs : List Point) × (x.kind ≡ Frame qs)

-- a frame of the point q is named by x
abbrev pub NamesFrameOf : List Block → Block → Point → Type 0
NamesFrameOf memory x q = (b : ℕ) × (y : Block) × IsAmong b x.fields × StandsAt memory b y × IsFrame y × IsAmong q (points_of y.kind)

-- in each state of a run: where a site has a frame around it in the same body, each frame of the site names a frame of that one
abbrev pub FramesNest : Type 0
FramesNest =
    (p : Bare) → IsBare p → (input : List ℕ) (n a : ℕ) (x : Block) (s : Site) (q : Point) → StandsAt ((run p input).memory n) a x → IsFrame x → IsAmong s (sites p) → IsAmong s.point (points_of x.kind) → s.outer ≡ Some q → NamesFrameOf ((run p input).memory n) x q

-- the block at c names b
abbrev pub NameFrame : List Block → ℕ → ℕ → Type 0
NameFrame memory c b = (x : Block) × StandsAt memory c x × IsAmong b x.fields

-- in each state of a run a frame is named by one block at most that can be reached
abbrev pub FramesAreOneChain : Type 0
FramesAreOneChain =
    (p : Bare) → IsBare p → (input : List ℕ) (n b c d : ℕ) (y : Block) → let memory = (run p input).memory n in let roots = (run p input).roots n in StandsAt memory b y → IsFrame y → Reach memory roots c → Reach memory roots d → NameFrame memory c b → NameFrame memory d b → c ≡ d

abbrev pub FrameAt : List Block → ℕ → Type 0
FrameAt memory a = (x : Block) × StandsAt memory a x × IsFrame x

-- The frames that roots reach are one line: it begins at the one frame among the roots, and each further frame is named by the one before it alone.
pub record IsOneLine (memory : List Block) (roots : List ℕ) : Type 0 where
  -- one frame at most is a root, and nothing that is reached names it
  pub first : (a b : ℕ) → FrameAt memory a → FrameAt memory b → IsAmong a roots → IsAmong b roots → a ≡ b
  pub free : (a c : ℕ) → FrameAt memory a → IsAmong a roots → Reach memory roots c → NameFrame memory c a → ⊥
  -- what names a frame is a younger frame, and names no other
  pub by_frames : (b c : ℕ) → FrameAt memory b → NameFrame memory c b → FrameAt memory c × (b < c)
  pub one : (a b c : ℕ) → FrameAt memory a → FrameAt memory b → NameFrame memory c a → NameFrame memory c b → a ≡ b
  -- and no two that are reached name the same
  pub once : (b c d : ℕ) → FrameAt memory b → Reach memory roots c → Reach memory roots d → NameFrame memory c b → NameFrame memory d b → c ≡ d

-- in each state of a run
abbrev pub FramesAreOneLine : Type 0
FramesAreOneLine = (p : Bare) (input : List ℕ) (n : ℕ) → IsOneLine ((run p input).memory n) ((run p input).roots n)

-- the words that the block pays for, where these labels are left
abbrev pub charged_at : List Point → List Site → Option Block → ℕ
charged_at labels ss None = 0
charged_at labels ss (Some b) = made_words labels ss b.kind b.words

-- in each state of a run the site words of what is reached are no more than its words, whichever labels are left
abbrev pub SitesArePaid : Type 0
SitesArePaid =
    (p : Bare) → IsBare p → (labels : List Point) (input : List ℕ) (n : ℕ) → sum_by (λ a. charged_at labels (sites p) (slice_get ((run p input).memory n) a)) (reached ((run p input).memory n) ((run p input).roots n)) ≤ words ((run p input).memory n) ((run p input).roots n)
