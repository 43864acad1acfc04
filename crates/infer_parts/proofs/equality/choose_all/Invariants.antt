use Rattle.std.proofs.Common.{◌≡◌, drop}
use Rattle.infer_parts.specs.Rounds.{all_chosen}
use Rattle.infer_parts.proofs.equality.choose_all.Given as goal

abbrev pub invariant-each : goal.invariant-each
invariant-each l = all_chosen (drop l.number-index l.group) l.names ≡ all_chosen l.group l.fn.names
