use Rattle.std.proofs.Common.{◌≡◌, refl, subst, ◌∙◌, arith}
use Rattle.heap_reach.specs.Numbers.{Adds}
use Rattle.heap_reach.specs.Walk.{IsField}
use Rattle.heap_reach.proofs.Adding.{no_fields, fields_more}
use Rattle.heap_reach.proofs.walk.add_fields.Goals as goal

pub loop-k-init : goal.loop-k-init
loop-k-init c = record { room = refl; adds = no_fields _ _ _ _ _ }

pub add_field-requires-clause-room : goal.add_field-requires-clause-room
add_field-requires-clause-room c = omega (arith, c.requires.room, c.loop-k.invariant.room)

pub loop-k-preserved : goal.loop-k-preserved
loop-k-preserved c = record {
  room = c.add_field.ensures.room ∙ c.loop-k.invariant.room;
  adds = fields_more _ _ _ c.args.first c.loop-k.k _ _ _ c.loop-k.invariant.adds c.add_field.ensures.adds;
}

pub returns-clause-room : goal.returns-clause-room
returns-clause-room c = c.loop-k.invariant.room

pub returns-clause-adds : goal.returns-clause-adds
returns-clause-adds c =
    let all : c.loop-k.k ≡ c.args.count = omega (arith, c.loop-k-test.false, c.loop-k.auto.k-end) in
    subst (λ n. Adds (IsField c.args.arena.address c.args.arena.words c.args.machine.now.state c.args.first n) c.args.found.now.numbers c.loop-k.found.numbers) all c.loop-k.invariant.adds
