use Rattle.std.proofs.Common.{◌<◌, ◌==◌, ◌∙◌, length, cond, ap, rules}
use Rattle.place_bodies.specs.Steps.{at_of}
use Rattle.place_bodies.proofs.Binds.{set_place}
use Rattle.reg_spill.proofs.Begun.{zero_more, longer}
use Rattle.reg_spill.proofs.entries.put.Goals as goal

pub loop-table-preserved : goal.loop-table-preserved
loop-table-preserved c = record {
  long = longer (length c.args.table.now.items) 0 c.loop-table.table.items c.push.new.self.items c.in_ok-push.ensures.items c.loop-table.invariant.long;
  same = λ y. ap (λ t. at_of t y) c.in_ok-push.ensures.items ∙ zero_more c.loop-table.table.items y ∙ c.loop-table.invariant.same y;
}

pub returns-clause-places : goal.returns-clause-places
returns-clause-places c y =
    let lt : c.args.variable < length c.loop-table.table.items = search rules in
    set_place c.loop-table.table.items c.args.variable c.args.place y lt ∙ ap (cond (y == c.args.variable) c.args.place) (c.loop-table.invariant.same y)
