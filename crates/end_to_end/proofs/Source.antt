-- Of the source's own run: its words pay, so the end follows.
use Rattle.std.proofs.Common.{ℕ, List}
use Rattle.smlc_base.specs.declared.point.Point.{Point}
use Rattle.sml_tree.specs.declared.bare.Bare.{Bare}
use Rattle.sml_tree.specs.IsBare.{IsBare}
use Rattle.simulation.specs.Runs.{Run}
use Rattle.sml_def.specs.Run.{run}
use Rattle.sml_def.specs.Words.{words}
use Rattle.sml_def.specs.Made.{made}
use Rattle.sml_def.specs.Sites.{sites}
use Rattle.sml_def.specs.Factor.{CoversLabels}
use Rattle.sml_def.proofs.Factor.{plans_give_factors, made_pays}
use Rattle.sml_def.proofs.Pays.{reach_pays}
use Rattle.end_to_end.specs.Owes.{Pays}
use Rattle.end_to_end.specs.Good.{Comes, IsGoodFor, HasEnough}
use Rattle.end_to_end.proofs.Derived as derived

source_pays : (p : Bare) → IsBare p → (input : List ℕ) (labels : List Point) (charge : Point → ℕ) (factor : ℕ) → CoversLabels labels (sites p) charge factor → Pays charge factor (λ m. words ((run p input).memory m) ((run p input).roots m)) (made p labels input) (run p input)
source_pays p bare input labels charge factor covers =
    let f = plans_give_factors labels (sites p) charge factor covers in
    record { reach = λ m. reach_pays p bare labels charge factor f input m; all = λ m. made_pays p labels charge factor f input m }

module _ (p : Bare) (input : List ℕ) (charge : Point → ℕ) (factor spill arena : ℕ) (used next : ℕ → ℕ) (err : ℕ → List ℕ) (E M : Run) (bare : IsBare p) (c : Comes charge spill arena used next err (run p input) E M) where
  abbrev words_at : ℕ → ℕ
  words_at m = words ((run p input).memory m) ((run p input).roots m)

  pub good_run : IsGoodFor p input charge factor spill arena used next err M
  good_run covers = derived.good_run charge factor spill arena words_at (made p M.labels input) used next err (run p input) E M c.first c.whole c.placed c.emitted (source_pays p bare input M.labels charge factor covers)

  pub enough : HasEnough p input charge factor spill arena M
  enough covers e k = derived.enough charge factor spill arena words_at (made p M.labels input) used next err (run p input) E M c.first c.whole c.placed c.emitted (source_pays p bare input M.labels charge factor covers) e.top e.passes k e.most e.few e.room
