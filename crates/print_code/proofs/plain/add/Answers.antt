use Rattle.std.proofs.Common.{rules}
use Rattle.print_code.proofs.Pieces.{straight_more}
use Rattle.print_code.proofs.plain.add.Goals as goal

pub returns-clause-straight : goal.returns-clause-straight
returns-clause-straight c = straight_more c.args.printed.now.lengths.items c.args.printed.now.text.items c.args.text.now c.push.new.self.items c.extend_from_slice.new.self.items _ c.requires c.in_ok-extend_from_slice.ensures.items c.in_ok-push.ensures.items (search rules) (search rules) (search rules)
