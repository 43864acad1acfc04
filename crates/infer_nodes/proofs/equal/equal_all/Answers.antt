use Rattle.sml_types.specs.Forms.{AreForms}
use Rattle.infer_nodes.proofs.Stepped.{next_equal, next_step, all_taken}
use Rattle.infer_nodes.proofs.equal.equal_all.Goals as goal
use Rattle.std.proofs.Common.{rules, ◌≡◌, ◌≤◌, length, arith}
use Rattle.std.specs.Prelude.{Err}

pub returns-in-Err : goal.returns-in-Err
returns-in-Err c =
    let forms : AreForms c.args.unknowns.now.types = search rules in
    record { step = next_step c.args.tables.now.names c.args.unknowns.now c.pairs.unknowns c.equal.new.unknowns c.args.pairs.now c.pairs.pair-index _ c.equal.result c.in-Err.failure c.in-Err.is forms c.requires.state c.requires.there c.pairs-test.true c.pairs.invariant c.equal.ensures.step }

pub pairs-preserved : goal.pairs-preserved
pairs-preserved c =
    let forms : AreForms c.args.unknowns.now.types = search rules in
    next_equal c.args.tables.now.names c.args.unknowns.now c.pairs.unknowns c.equal.new.unknowns c.args.pairs.now c.pairs.pair-index _ forms c.requires.state c.requires.there c.pairs-test.true c.pairs.invariant c.in-Ok.ensures.step

pub returns : goal.returns
returns c =
    let end : length c.args.pairs.now ≤ c.pairs.pair-index = search rules in
    record { step = all_taken c.args.tables.now.names c.args.unknowns.now c.pairs.unknowns c.args.pairs.now c.pairs.pair-index end c.pairs.invariant }
