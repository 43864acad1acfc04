use Rattle.place_laws.specs.Place.{place_program}
use Rattle.place_laws.proofs.Bounds.{program_fits}
use Rattle.place_laws.proofs.Spilled.{spills_within}
use Rattle.place_laws.proofs.spills_are_bounded.Goals as goal

pub returns : goal.returns
returns c p input e n = spills_within (place_program p) (program_fits p e) input n
