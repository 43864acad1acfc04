use Rattle.std.proofs.Common.{◌≡◌, ◌+◌, length, Bool, List, false}
use Rattle.std.specs.List.{AllByRecursion}
use Rattle.infer_parts.specs.Held.{AreHeld, any_var, by_names}
use Rattle.infer_parts.specs.Rounds.{fails}
use Rattle.infer_parts.proofs.RoundFacts.{IsRound, parts_count, num}
use Rattle.infer_parts.proofs.equality.equality.Given as goal

abbrev pub invariant-rounds : goal.invariant-rounds
invariant-rounds l =
    record {
      round : IsRound l.types l.group l.fn.tables.names l.names.items;
      stable : l.going ≡ false → (table : List Bool) × AreHeld any_var (by_names l.names.items) l.types 0 (length l.types) table × AllByRecursion (λ n. fails l.names.items table n ≡ false) l.group;
    }

abbrev pub decreases-rounds : goal.decreases-rounds
decreases-rounds l = parts_count l.names.items + num l.going
