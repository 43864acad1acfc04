use Rattle.std.proofs.Common.{◌∙◌, map, ap}
use Rattle.closed_live.proofs.Table.{row_at-set_same}
use Rattle.place_bodies.specs.Steps.{at_of}
use Rattle.reg_spill.proofs.Begun.{row_other}
use Rattle.reg_spill.proofs.entries.begin_part.Goals as goal

pub returns-clause-here : goal.returns-clause-here
returns-clause-here c =
    row_at-set_same c.args.entries.now.items c.args.n c.from_vec.result c.requires ∙ c.from_vec.ensures ∙ c.in_ok-places.ensures ∙ ap (map (at_of c.args.table.now)) c.row.ensures

pub returns-clause-others : goal.returns-clause-others
returns-clause-others c d h = row_other c.args.entries.now.items c.args.n d c.from_vec.result h
