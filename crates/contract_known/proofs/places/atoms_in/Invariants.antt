use Rattle.std.specs.Prelude.{◌≡◌, take}
use Rattle.contract_round.specs.Round.{atoms_in}
use Rattle.contract_known.specs.Known.{place_of}
use Rattle.contract_known.proofs.places.atoms_in.Given as goal

abbrev pub invariant-loop-atom : goal.invariant-loop-atom
invariant-loop-atom l = l.found.items ≡ atoms_in (place_of l.places) (take l.atom-index l.atoms)
