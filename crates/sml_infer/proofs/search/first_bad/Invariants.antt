use Rattle.std.proofs.Common.{◌<◌, ◌≤◌, ◌-◌, length}
use Rattle.sml_types.specs.Typing.{HasTyping}
use Rattle.sml_infer.specs.Search.{HasNoTyping}
use Rattle.sml_infer.proofs.search.first_bad.Given as goal

abbrev pub invariant-halves : goal.invariant-halves
invariant-halves l =
    record {
      order : l.low < l.high;
      there : l.high ≤ length l.bare.decs;
      before : HasTyping l.bare l.low;
      after : HasNoTyping l.bare l.high;
    }

abbrev pub decreases-halves : goal.decreases-halves
decreases-halves l = l.high - l.low
