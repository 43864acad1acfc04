-- The site words of what small programs reach: where all labels are left, none, and those of odd nodes, beside their words, as an independent model computes them.
use Rattle.std.proofs.Common.{◌≡◌, ℕ, List, [], refl}
use Rattle.std.specs.Prelude.{slice_get, sum_by}
use Rattle.smlc_base.specs.declared.point.Point.{Point}
use Rattle.sml_tree.specs.declared.bare.Bare.{Bare}
use Rattle.sml_tree.proofs.Programs.{handled, caught, local_exception, lists, packets}
use Rattle.sml_def.specs.Run.{points, run}
use Rattle.sml_def.specs.Sites.{sites}
use Rattle.sml_def.specs.Words.{reached, words}
use Rattle.sml_def.specs.Frames.{charged_at}
use Rattle.sml_def.proofs.Makes.{odd}

abbrev charged : Bare → List Point → ℕ → ℕ
charged p labels n = sum_by (λ a. charged_at labels (sites p) (slice_get ((run p []).memory n) a)) (reached ((run p []).memory n) ((run p []).roots n))

abbrev four : Bare → ℕ → ℕ × ℕ × ℕ × ℕ
four p n = (charged p (points p) n, charged p [] n, charged p (odd (points p)) n, words ((run p []).memory n) ((run p []).roots n))

handled_charged : four handled 5 ≡ (10, 2, 10, 10)
handled_charged = refl

caught_charged : four caught 26 ≡ (16, 0, 14, 16)
caught_charged = refl

local_exception_charged : four local_exception 30 ≡ (10, 2, 10, 10)
local_exception_charged = refl

lists_charged : four lists 20 ≡ (23, 0, 21, 23)
lists_charged = refl

lists_charged_later : four lists 60 ≡ (45, 20, 25, 45)
lists_charged_later = refl

packets_charged : four packets 40 ≡ (17, 7, 10, 17)
packets_charged = refl
