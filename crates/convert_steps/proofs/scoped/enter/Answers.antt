use Rattle.std.proofs.Common.{refl}
use Rattle.convert_steps.proofs.Entered.{entered}
use Rattle.convert_steps.proofs.scoped.enter.Goals as goal

pub returns : goal.returns
returns c =
    λ own terms k g.
    entered own terms c.args.world.now _ c.args.binds.now c.pick_names.new.binds c.args.names.now c.args.subject c.go.new.self c.in_ok-names.field-0.names c.items.result.now c.args.scope c.args.next c.in_ok-names.field-0.next k g c.in_ok-names.ensures c.in_ok-go.ensures.bounds c.in_ok-go.ensures.present c.items.ensures refl c.in_ok-bind_all.ensures.kept c.in_ok-bind_all.ensures.bound
