-- Programs whose closures and frames have the words of their sites.
use Rattle.std.specs.Prelude.{◌≡◌, ℕ, List}
use Rattle.smlc_base.specs.declared.point.Point.{Point}
use Rattle.smlc_base.specs.declared.point.Site.{Site}
use Rattle.simulation.specs.Blocks.{Block, IsAmong, StandsAt, points_of}
use Rattle.lambda_ir.specs.Program.{Lambda}
use Rattle.lambda_ir.specs.Run.{lambda_run}

-- each closure and frame of a run has the words of a site of its point
abbrev pub IsSlim : Lambda → List ℕ → Type 0
IsSlim l input =
    (n a : ℕ) (b : Block) (q : Point) → StandsAt ((lambda_run l input).memory n) a b → IsAmong q (points_of b.kind) → (s : Site) × IsAmong s l.sites × (s.point ≡ q) × (s.words ≡ b.words)
