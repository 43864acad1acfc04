use Rattle.std.proofs.Common.{◌+◌, ◌++◌, ◌∙◌, ap, length}
use Rattle.place_bodies.specs.Steps.{name_steps, group_table}
use Rattle.reg_spill.proofs.Names.{names_more, table_more, length_more, names_end, table_end}
use Rattle.reg_spill.proofs.binds.name_all.Goals as goal

pub loop-maker-preserved : goal.loop-maker-preserved
loop-maker-preserved c =
    let alive = c.args.alive.now in
    let makers = c.args.makers.now in
    let m = c.maker-item.result in
    record {
      steps =
          names_more alive makers c.loop-maker.maker-index _ m c.loop-maker.offset c.in_ok-offset.offset c.loop-maker.taken.keys c.name_one.new.taken.keys c.loop-maker.steps.items c.name_one.new.steps.items (c.args.steps.now.items ++ name_steps alive makers 0 c.args.taken.now.keys) c.loop-maker-test.true c.maker-item.is
          (c.in_ok-offset.ensures ∙ ap (λ n. c.loop-maker.offset + n) c.in_ok-words.ensures) c.in_ok-name_one.ensures.taken c.in_ok-name_one.ensures.steps c.loop-maker.invariant.steps;
      table =
          table_more alive makers c.loop-maker.maker-index _ m c.loop-maker.taken.keys c.name_one.new.taken.keys c.loop-maker.table.items c.name_one.new.table.items (group_table alive makers c.args.taken.now.keys c.args.table.now.items) c.loop-maker-test.true c.maker-item.is c.in_ok-name_one.ensures.taken
          c.in_ok-name_one.ensures.table c.loop-maker.invariant.table;
      fits = length_more m alive c.loop-maker.taken.keys c.loop-maker.table.items c.name_one.new.table.items (length c.args.table.now.items) c.in_ok-name_one.ensures.table c.loop-maker.invariant.fits;
    }

pub returns-clause-table : goal.returns-clause-table
returns-clause-table c =
    table_end c.args.alive.now c.args.makers.now c.loop-maker.maker-index c.loop-maker.taken.keys c.loop-maker.table.items (group_table c.args.alive.now c.args.makers.now c.args.taken.now.keys c.args.table.now.items) c.loop-maker-test.false c.loop-maker.invariant.table

pub returns-clause-steps : goal.returns-clause-steps
returns-clause-steps c =
    names_end c.args.alive.now c.args.makers.now c.loop-maker.maker-index c.loop-maker.offset c.loop-maker.taken.keys c.loop-maker.steps.items (c.args.steps.now.items ++ name_steps c.args.alive.now c.args.makers.now 0 c.args.taken.now.keys) c.loop-maker-test.false c.loop-maker.invariant.steps
