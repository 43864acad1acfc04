use Rattle.std.proofs.Common.{◌+◌, ◌++◌, length, get_or, refl, sym, ap, ◌∙◌, subst, arith}
use Rattle.std.proofs.lemmas.List.{append-nil}
use Rattle.placed_ir.specs.declared.body.Function.{Function}
use Rattle.placed_ir.specs.Program.{function_code}
use Rattle.emit_items.specs.Body as whole
use Rattle.emit_sound.specs.Sound.{AreSound}
use Rattle.emit_text.proofs.Pieces.{places_none, free_next, counted_more, put_more, places_more, many_more, all_counted, all_put, all_bound}
use Rattle.emit_text.proofs.functions.put_functions.Goals as goal

pub loop-function-init : goal.loop-function-init
loop-function-init c = record { numbered = refl; counted = refl; put = sym (append-nil c.args.asm.now.items); bound = places_none (λ (f : Function). whole.items c.args.labels.now 0 (function_code c.args.bodies.now f)) c.args.asm.now; many = refl }

pub bind-requires : goal.bind-requires
bind-requires c =
    let w = c.loop-function.invariant in
    free_next (λ (f : Function). whole.items c.args.labels.now 0 (function_code c.args.bodies.now f)) c.args.functions.now c.loop-function.function-index c.loop-function.label c.args.asm.now c.loop-function.asm c.loop-function-test.true w.numbered c.requires.free w.bound

pub put_code-requires-clause-sound : goal.put_code-requires-clause-sound
put_code-requires-clause-sound c =
    let w = c.loop-function.invariant in
    let d : Function = record { body = 0; frame = 0 } in
    let f : Function = get_or c.args.functions.now c.loop-function.function-index d in
    let many = many_more (λ (f : Function). whole.items c.args.labels.now 0 (function_code c.args.bodies.now f)) (length c.args.asm.now.places) c.loop-function.label c.loop-function.asm c.bind.new.self w.many (ap (λ x. x.places) c.bind.ensures) in
    subst (λ n. AreSound n (whole.items c.args.labels.now 0 (function_code c.args.bodies.now f))) (sym many) (c.requires.sound f)

pub loop-function-preserved : goal.loop-function-preserved
loop-function-preserved c =
    let w = c.loop-function.invariant in
    let i = c.loop-function.function-index in
    let d : Function = record { body = 0; frame = 0 } in
    let put = c.in_ok-put_code.ensures.items in
    let here = ap (λ x. x.items) c.bind.ensures in
    let places = ap (λ x. x.places) put ∙ ap (λ x. x.places) c.bind.ensures in
    record {
      numbered = c.in_ok-label.ensures ∙ ap (λ n. n + 1) w.numbered;
      counted = counted_more (λ (f : Function). whole.items c.args.labels.now 0 (function_code c.args.bodies.now f)) c.args.functions.now i d c.loop-function.words c.in_ok-put_code.field-0 c.in_ok-words.words c.loop-function-test.true w.counted c.in_ok-put_code.ensures.words c.in_ok-words.ensures;
      put = put_more (λ (f : Function). whole.items c.args.labels.now 0 (function_code c.args.bodies.now f)) c.args.functions.now i d c.args.asm.now.items c.loop-function.asm.items c.put_code.new.asm.items c.loop-function-test.true w.put (ap (λ x. x.items) put ∙ ap (λ xs. xs ++ whole.items c.args.labels.now 0 (function_code c.args.bodies.now (get_or c.args.functions.now i d))) here);
      bound = places_more (λ (f : Function). whole.items c.args.labels.now 0 (function_code c.args.bodies.now f)) c.args.functions.now i c.loop-function.label d c.args.asm.now c.loop-function.asm c.put_code.new.asm c.loop-function-test.true w.numbered c.requires.free w.put w.bound places;
      many = many_more (λ (f : Function). whole.items c.args.labels.now 0 (function_code c.args.bodies.now f)) (length c.args.asm.now.places) c.loop-function.label c.loop-function.asm c.put_code.new.asm w.many places;
    }

pub returns-clause-words : goal.returns-clause-words
returns-clause-words c = all_counted (λ (f : Function). whole.items c.args.labels.now 0 (function_code c.args.bodies.now f)) c.args.functions.now c.loop-function.function-index c.loop-function.words (omega arith) c.loop-function.invariant.counted

pub returns-clause-items : goal.returns-clause-items
returns-clause-items c = all_put (λ (f : Function). whole.items c.args.labels.now 0 (function_code c.args.bodies.now f)) c.args.functions.now c.loop-function.function-index c.args.asm.now.items c.loop-function.asm.items (omega arith) c.loop-function.invariant.put

pub returns-clause-places : goal.returns-clause-places
returns-clause-places c = all_bound (λ (f : Function). whole.items c.args.labels.now 0 (function_code c.args.bodies.now f)) c.args.functions.now c.loop-function.function-index c.args.asm.now c.loop-function.asm.places (omega arith) c.loop-function.invariant.bound
