use Rattle.sml_expansion.proofs.NameLemmas.{AreNamed}
use Rattle.sml_expansion.proofs.made.Made.new_names.Given as goal

abbrev pub invariant-loop : goal.invariant-loop
invariant-loop l = AreNamed l.text l.count l.counter l.names.items l.fn.self l.self
