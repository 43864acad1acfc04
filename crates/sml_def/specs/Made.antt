-- The words of what a run has made, as far as labels are left that pay for it.
use Rattle.std.specs.Prelude.{ℕ, List, [], ◌∷◌, cond, sum_by}
use Rattle.smlc_base.specs.declared.point.Point.{Point}
use Rattle.smlc_base.specs.declared.point.Site.{Site}
use Rattle.smlc_base.specs.SiteWords.{is_left, site_words}
use Rattle.sml_tree.specs.declared.bare.Bare.{Bare}
use Rattle.simulation.specs.Blocks.{Block, Kind, Closure, Frame}
use Rattle.sml_def.specs.Run.{run}
use Rattle.sml_def.specs.Sites.{sites}

-- a frame has the site words of its first point if its label is left
abbrev pub frame_words : List Point → List Site → List Point → ℕ
frame_words labels ss [] = 0
frame_words labels ss (p ∷ ps) = cond (is_left labels p) (site_words labels ss p) 0

abbrev pub made_words : List Point → List Site → Kind → ℕ → ℕ
made_words labels ss (Closure p) words = site_words labels ss p
made_words labels ss (Frame ps) words = frame_words labels ss ps
made_words labels ss _ words = words

abbrev pub made_in : List Point → List Site → List Block → ℕ
made_in labels ss memory = sum_by (λ b. made_words labels ss b.kind b.words) memory

-- what the program has made in n steps, where these labels are left
abbrev pub made : Bare → List Point → List ℕ → ℕ → ℕ
made p labels input n = made_in labels (sites p) ((run p input).memory n)
