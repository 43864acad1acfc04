use Rattle.sml_derive.specs.Forms.{let_end}
use Rattle.sml_derive.proofs.Times.{no_times, once_more}
use Rattle.sml_derive.proofs.forms.close_lets.Goals as goal

pub loop-init : goal.loop-init
loop-init c = no_times c.args.walk.now (let_end c.args.place)

pub loop-preserved : goal.loop-preserved
loop-preserved c = once_more c.args.walk.now c.loop.walk c.close.new.self c.loop.counter (let_end c.args.place) c.loop.invariant c.in_ok-close.ensures
