use Rattle.expand_patterns.proofs.Behind.{if_ok, tuple_closed}
use Rattle.expand_patterns.proofs.closing.close_tuple.Goals as goal

pub returns : goal.returns
returns c =
    if_ok c.close.result
    (λ trees h names f before first earlier later o e.
    tuple_closed names f c.args.place c.args.count trees c.in_ok-fields.fields before first c.args.walk.now c.close.new.walk earlier later c.in_ok-fields.ensures o e (h names f c.args.count before first earlier later o e))
    c.close.ensures
