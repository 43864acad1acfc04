use Rattle.std.proofs.Common.{◌≡◌, drop}
use Rattle.std.specs.Prelude.{◌||◌}
use Rattle.infer_parts.specs.Rounds.{struck_all, any_struck}
use Rattle.infer_parts.proofs.equality.strike.Given as goal

abbrev pub invariant-each : goal.invariant-each
invariant-each l =
    record {
      names : struck_all l.table (drop l.number-index l.group) l.names ≡ struck_all l.table l.group l.fn.names;
      any : (l.struck || any_struck l.table (drop l.number-index l.group) l.names) ≡ any_struck l.table l.group l.fn.names;
    }
