-- What contraction is.
use Rattle.std.specs.Prelude.{◌≡◌, ◌≢◌, ℕ, ◌≤◌, List, []}
use Rattle.smlc_base.specs.declared.point.Point.{Point}
use Rattle.smlc_base.specs.declared.point.PointKind.TheVariants.{Eq}
use Rattle.sml_tree.specs.IsBare.{IsDistinct}
use Rattle.simulation.specs.Blocks.{IsAmong}
use Rattle.simulation.specs.Runs.{times}
use Rattle.simulation.specs.Keeps.{Keeps}
use Rattle.cps_ir.specs.Code.{Code, Tree}
use Rattle.cps_ir.specs.Run.{cps_run}
use Rattle.cps_ir.specs.Program.{Cps, tree_of}
use Rattle.cps_ir.specs.Kept.{IsProgram}
use Rattle.cps_ir.specs.Free.{free_code, bound, labels}
use Rattle.cps_ir.specs.Slim.{Layout, layouts, IsSlim}
use Rattle.contract_laws.specs.Contract.{Rounds}
use Rattle.contract_laws.specs.Law.{with_code}
use Rattle.contract_laws.specs.Redex.{nodes, HasNoRedex}
use Rattle.contract_round.specs.Round.{round, contracted}

-- No variable is free and none bound twice, and each point stands once but that of comparisons, for which no function stands.

pub record IsWhole (c : Code) : Type 0 where
  pub closed : free_code c ≡ []
  pub once : IsDistinct (bound c)
  pub points : (p : Point) → p.kind ≢ Eq → times p (labels c) ≤ 1
  pub functions : (l : Layout) → IsAmong l (layouts c) → l.point.kind ≢ Eq

-- so a slim program is whole
abbrev pub SlimIsWhole : Type 0
SlimIsWhole = (q : Cps) → IsProgram q → IsSlim (tree_of q) → IsWhole (tree_of q).code

-- A round makes a body smaller, or leaves it as it is, and then without a redex.
abbrev pub RoundsEnd : Type 0
RoundsEnd = (texts : List (List ℕ)) (c : Code) → (nodes (round texts c) ≤ nodes c) × (nodes (round texts c) ≡ nodes c → (round texts c ≡ c) × HasNoRedex texts c)

-- so nothing is left that could be taken out
abbrev pub NothingIsLeft : Type 0
NothingIsLeft = (texts : List (List ℕ)) (c : Code) → HasNoRedex texts (contracted texts c)

-- what it answers comes of rounds, and is whole
abbrev pub ContractedByRounds : Type 0
ContractedByRounds = (texts : List (List ℕ)) (c : Code) → IsWhole c → Rounds texts c (contracted texts c) × IsWhole (contracted texts c)

-- and has the run of its argument, as a pass among others
abbrev pub ContractedKeeps : Type 0
ContractedKeeps = (q : Tree) → IsWhole q.code → (input : List ℕ) → Keeps (cps_run q input) (cps_run (with_code q (contracted q.texts q.code)) input)
