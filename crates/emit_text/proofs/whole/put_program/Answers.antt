use Rattle.std.proofs.Common.{length, ap, ◌∙◌, sym, subst, arith}
use Rattle.std.proofs.lemmas.Result.{IfOk-weaker}
use Rattle.placed_ir.specs.declared.body.Function.{Function}
use Rattle.place_bodies.proofs.Unfold.{AreNumbered}
use Rattle.emit_text.proofs.Started.{always, sound_here, many_started}
use Rattle.emit_text.proofs.Wholes.{main_free, whole_is, all_words}
use Rattle.emit_text.proofs.whole.put_program.Goals as goal

pub put_code-requires-clause-numbered : goal.put_code-requires-clause-numbered
put_code-requires-clause-numbered c = subst AreNumbered (sym c.bodies-bodies.ensures.bodies) c.bodies-bodies.ensures.kept.numbered

pub put_code-requires-clause-sound : goal.put_code-requires-clause-sound
put_code-requires-clause-sound c =
    let p = c.args.placed.now in
    let main : Function = record { body = 0; frame = c.frame.result } in
    sound_here p c.put_start.new.asm c.bodies-bodies.result.now c.args.labels.now main c.bodies-bodies.ensures.kept c.bodies-bodies.ensures.bodies c.requires.labels (ap (λ x. length x.places) c.in_ok-put_start.ensures ∙ many_started p)

pub put_functions-requires-clause-numbered : goal.put_functions-requires-clause-numbered
put_functions-requires-clause-numbered c = subst AreNumbered (sym c.bodies-bodies.ensures.bodies) c.bodies-bodies.ensures.kept.numbered

pub put_functions-requires-clause-sound : goal.put_functions-requires-clause-sound
put_functions-requires-clause-sound c f =
    let p = c.args.placed.now in
    sound_here p c.put_code.new.asm c.bodies-bodies.result.now c.args.labels.now f c.bodies-bodies.ensures.kept c.bodies-bodies.ensures.bodies c.requires.labels
    (ap (λ x. length x.places) c.in_ok-main.ensures.items ∙ ap (λ x. length x.places) c.in_ok-put_start.ensures ∙ many_started p)

pub put_functions-requires-clause-free : goal.put_functions-requires-clause-free
put_functions-requires-clause-free c l h = main_free c.args.placed.now c.put_start.new.asm c.put_code.new.asm _ c.in_ok-put_start.ensures c.in_ok-main.ensures.items l (omega (arith, ap length c.functions.ensures))

pub returns-clause-words : goal.returns-clause-words
returns-clause-words c =
    let p = c.args.placed.now in
    let all = all_words p c.args.labels.now c.bodies-bodies.result.now c.frame.result c.functions.result.now c.in_ok-main.main c.in_ok-functions.functions c.in_ok-sum.field-0
    c.requires.labels c.bodies-bodies.ensures.bodies c.frame.ensures c.functions.ensures c.in_ok-main.ensures.words c.in_ok-functions.ensures.words c.in_ok-sum.ensures in
    IfOk-weaker c.sum-2.result _ _ (λ n h. h ∙ all) c.sum-2.ensures

pub returns-clause-program : goal.returns-clause-program
returns-clause-program c =
    let p = c.args.placed.now in
    let s = c.put_start.new.asm in
    always c.sum-2.result (whole_is p s c.put_code.new.asm c.put_functions.new.asm c.args.labels.now c.bodies-bodies.result.now c.frame.result c.functions.result.now
    c.in_ok-put_start.ensures c.requires.labels c.bodies-bodies.ensures.bodies c.frame.ensures c.functions.ensures c.in_ok-main.ensures.items c.in_ok-functions.ensures.items c.in_ok-functions.ensures.places)
