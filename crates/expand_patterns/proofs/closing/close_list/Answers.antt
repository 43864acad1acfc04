use Rattle.expand_patterns.proofs.Joining.{list_closed}
use Rattle.expand_patterns.proofs.closing.close_list.Goals as goal

pub returns : goal.returns
returns c names f before earlier later e = list_closed names f c.args.place c.args.count before c.args.walk.now c.leaf.new.self c.close_items.new.walk earlier later c.in_ok-leaf.ensures c.in_ok-close_items.ensures e
