use Rattle.std.proofs.Common.{ℕ, List, Bor}
use Rattle.sml_prelude.specs.Long.{short_of, long_identifiers}
use Rattle.sml_prelude.proofs.EntryLemmas.{found_mapped}
use Rattle.sml_prelude.proofs.long.short_of.Goals as goal

pub returns : goal.returns
unfolding short_of long_identifiers
returns c = search (found_mapped (λ (short : Bor (List ℕ)). short.now))
