use Rattle.std.proofs.Common.{◌≡◌, length}
use Rattle.sml_expansion.specs.Linking.{linked, nothing_linked, opened, shown}
use Rattle.sml_expansion.proofs.mark.link.Given as goal

abbrev pub invariant-loop-mark : goal.invariant-loop-mark
invariant-loop-mark l = record { whole : linked 0 l.spelling.items (shown l.linked) ≡ linked 0 l.fn.spelling nothing_linked; count : l.left ≡ opened l.spelling.items }

abbrev pub decreases-loop-mark : goal.decreases-loop-mark
decreases-loop-mark l = length l.spelling.items
