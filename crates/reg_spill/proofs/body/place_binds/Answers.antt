use Rattle.std.proofs.Common.{◌<◌, ◌++◌, ◌∙◌, length, sym, subst}
use Rattle.place_bodies.specs.Steps.{body_steps, end_table}
use Rattle.reg_spill.proofs.Along.{steps_more, end_more, long_more, steps_end, table_end}
use Rattle.reg_spill.proofs.body.place_binds.Goals as goal

pub loop-i-preserved : goal.loop-i-preserved
loop-i-preserved c =
    let binds = c.args.binds.now in
    let along = c.args.along.now in
    let i = c.loop-i.i in
    let b = c.index-binds-i.result in
    let within : i < length along = subst (λ n. i < n) (sym c.requires.len) c.loop-i-test.true in
    record {
      steps =
          steps_more binds along i _ b _ c.items.result.now c.loop-i.steps.items c.place_bind.new.steps.items (c.args.steps.now.items ++ body_steps c.args.table.now.items binds along) c.loop-i.table.items c.place_bind.new.table.items c.loop-i-test.true c.index-binds-i.is within (c.items.ensures ∙ c.index-along-i.is)
          c.in_ok-place_bind.ensures.table c.in_ok-place_bind.ensures.steps c.loop-i.invariant.steps;
      table =
          end_more binds along i _ b _ c.items.result.now c.loop-i.table.items c.place_bind.new.table.items (end_table c.args.table.now.items binds along) c.loop-i-test.true c.index-binds-i.is within (c.items.ensures ∙ c.index-along-i.is) c.in_ok-place_bind.ensures.table c.loop-i.invariant.table;
      fits = long_more b c.items.result.now c.loop-i.table.items c.place_bind.new.table.items (length c.args.table.now.items) c.in_ok-place_bind.ensures.table c.loop-i.invariant.fits;
    }

pub returns-clause-table : goal.returns-clause-table
returns-clause-table c =
    table_end c.args.binds.now c.args.along.now c.loop-i.i c.loop-i.table.items (end_table c.args.table.now.items c.args.binds.now c.args.along.now) c.loop-i-test.false c.loop-i.invariant.table

pub returns-clause-steps : goal.returns-clause-steps
returns-clause-steps c =
    steps_end c.args.binds.now c.args.along.now c.loop-i.i c.loop-i.table.items c.loop-i.steps.items (c.args.steps.now.items ++ body_steps c.args.table.now.items c.args.binds.now c.args.along.now) c.loop-i-test.false c.loop-i.invariant.steps
