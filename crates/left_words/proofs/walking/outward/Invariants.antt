use Rattle.std.proofs.Common.{◌≡◌, ◌+◌, ◌-◌, List, length}
use Rattle.smlc_base.specs.declared.point.Point.{Point}
use Rattle.smlc_base.specs.SiteWords.{around}
use Rattle.left_words.specs.Tables.{AreRanked}
use Rattle.left_words.proofs.walking.outward.Given as goal

abbrev pub invariant-loop : goal.invariant-loop
invariant-loop l = (labels : List Point) → AreRanked labels l.left.keys → l.total + around (length l.sites - l.counter) labels l.sites l.at ≡ around (length l.sites) labels l.sites l.fn.start
