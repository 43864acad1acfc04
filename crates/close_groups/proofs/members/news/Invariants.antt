use Rattle.std.proofs.Common.{◌≡◌, ◌++◌, drop}
use Rattle.close_groups.specs.Group.{news_from}
use Rattle.close_groups.proofs.members.news.Given as goal

abbrev pub invariant-loop-key : goal.invariant-loop-key
invariant-loop-key l = l.bounds.items ++ news_from l.number (drop l.key-index l.keys) ≡ news_from l.first l.keys
