use Rattle.std.proofs.Common.{length, false, ap, sym, ◌∙◌, arith, slice_get}
use Rattle.simulation.proofs.Lists.{length_last}
use Rattle.convert_decide.specs.Decide.{item_in}
use Rattle.convert_bodies.proofs.Written.{written_none, written_more, no_more}
use Rattle.convert_bodies.proofs.bodies.write_bodies.Goals as goal

pub loop-at-init : goal.loop-at-init
loop-at-init c = record {
  written = written_none (item_in false c.args.source.own.now) c.args.source.terms.now c.args.world.now c.new-bodies.result c.new-bodies.ensures;
  many = ap length c.new-bodies.ensures;
}

pub loop-at-preserved : goal.loop-at-preserved
loop-at-preserved c =
    let more = length_last c.loop-at.bodies c.in_ok-made.made in
    let is = ap length c.in_ok-push.ensures.ok in
    record {
      written =
          written_more (item_in false c.args.source.own.now) c.args.source.terms.now c.args.world.now c.loop-at.world c.write_body.new.world c.loop-at.at c.loop-at.bodies _ c.in-Some.task c.in_ok-made.made c.loop-at.invariant.written c.loop-at.invariant.many
          (ap (λ ts. slice_get ts c.loop-at.at) (sym c.items.ensures) ∙ sym c.task_at.ensures ∙ c.in-Some.is) c.in_ok-made.ensures c.in_ok-push.ensures.ok;
      many = is ∙ more ∙ omega (arith, c.loop-at.invariant.many);
    }

pub returns-in_default-clause-all : goal.returns-in_default-clause-all
returns-in_default-clause-all c =
    no_more c.loop-at.world.tasks (length c.loop-at.bodies) (ap (slice_get c.loop-at.world.tasks) c.loop-at.invariant.many ∙ ap (λ ts. slice_get ts c.loop-at.at) (sym c.items.ensures) ∙ sym c.task_at.ensures ∙ c.in_default.is)
