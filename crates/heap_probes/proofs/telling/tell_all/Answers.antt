use Rattle.std.proofs.Common.{refl, sym, ◌∙◌, arith}
use Rattle.heap_probes.proofs.Told.{told_end}
use Rattle.heap_probes.proofs.telling.tell_all.Goals as goal

pub loop-at-init : goal.loop-at-init
loop-at-init g c = record { told = refl; within = omega arith }

pub loop-at-smaller : goal.loop-at-smaller
loop-at-smaller g c = omega (arith, c.tell_at-at.ensures.fewer, c.tell_at-at.ensures.within, c.loop-at-test.true, c.len.ensures)

pub loop-at-preserved : goal.loop-at-preserved
loop-at-preserved g c = record { told = sym c.tell_at-at.ensures.told ∙ c.loop-at.invariant.told; within = c.tell_at-at.ensures.within }

pub returns : goal.returns
returns g c = told_end _ c.args.entry.now c.loop-at.probes.items c.loop-at.at _ (omega (arith, c.loop-at-test.false, c.len.ensures, c.loop-at.probes.ok)) c.loop-at.invariant.told
