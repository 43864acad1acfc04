use Rattle.std.proofs.Common.{refl, arith, sym, subst}
use Rattle.simulation.specs.Blocks.{IsAmong}
use Rattle.std.proofs.lemmas.List.{take_all}
use Rattle.reg_spill.proofs.Begun.{load_more}
use Rattle.reg_spill.proofs.entries.load.Goals as goal

pub loop-i-preserved : goal.loop-i-preserved
loop-i-preserved c =
    let one = c.loop-i.invariant.long in
    let two = c.in_ok-put.ensures.long in
    record {
      long = omega arith;
      places =
          λ there whole. load_more there c.args.variables.now c.args.places.now c.loop-i.i _ _ c.place_at.result c.loop-i.table.items c.put.new.table.items c.loop-i-test.true refl c.place_at.ensures c.in_ok-put.ensures.places (λ y m. c.loop-i.invariant.places there whole y m) whole;
    }

pub returns-clause-places : goal.returns-clause-places
returns-clause-places c there whole x m =
    c.loop-i.invariant.places there whole x (subst (IsAmong x) (sym (take_all c.loop-i.i c.args.variables.now c.loop-i-test.false)) m)
