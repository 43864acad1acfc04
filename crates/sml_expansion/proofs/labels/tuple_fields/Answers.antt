use Rattle.std.proofs.Common.{rules, ◌≡◌, ◌<◌, ◌∷◌, ◌++◌, [], suc, pos, arith}
use Rattle.std.proofs.lemmas.Int.{ints}
use Rattle.std.specs.Prelude.{◌+ℤ◌}
use Rattle.sml_tree.specs.declared.bare.Lab.TheVariants.{Num}
use Rattle.sml_expansion.proofs.FieldLemmas.{tuple_more}
use Rattle.sml_expansion.proofs.labels.tuple_fields.Goals as goal

pub loop-slot-preserved : goal.loop-slot-preserved
loop-slot-preserved c =
    let more : c.loop-slot.slot < c.args.count = search rules in
    let from : c.from.result ≡ pos c.loop-slot.slot = search rules in
    let next : c.from.result +ℤ pos 1 ≡ pos (suc c.loop-slot.slot) = omega (arith, ints, from) in
    let pushed : c.push.new.self ≡ c.loop-slot.row ++ record { lab = Num (c.from.result +ℤ pos 1); slot = c.loop-slot.slot; node = 0 } ∷ [] = search rules in
    tuple_more c.args.count c.loop-slot.slot c.loop-slot.row c.push.new.self _ more next c.loop-slot.invariant pushed
