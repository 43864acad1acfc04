use Rattle.std.proofs.Common.{refl, ◌∙◌, arith}
use Rattle.heap_reach.proofs.Adding.{no_roots, roots_next, roots_all}
use Rattle.heap_reach.proofs.walk.add_roots.Goals as goal

pub loop-root-init : goal.loop-root-init
loop-root-init c = record { room = refl; adds = no_roots _ _ _ _ }

pub add_target-requires : goal.add_target-requires
add_target-requires c = omega (arith, c.requires, c.loop-root.invariant.room)

pub loop-root-preserved : goal.loop-root-preserved
loop-root-preserved c = record {
  room = c.add_target.ensures.room ∙ c.loop-root.invariant.room;
  adds = roots_next _ _ _ c.args.roots.now c.loop-root.root-index _ _ _ _ c.loop-root-test.true c.loop-root.invariant.adds c.add_target.ensures.adds;
}

pub returns-clause-room : goal.returns-clause-room
returns-clause-room c = c.loop-root.invariant.room

pub returns-clause-adds : goal.returns-clause-adds
returns-clause-adds c = roots_all _ _ _ c.args.roots.now c.loop-root.root-index _ _ (omega (arith, c.loop-root-test.false)) c.loop-root.invariant.adds
