use Rattle.std.proofs.Common.{◌≡◌, length, ◌+◌, ◌-◌, ap, arith}
use Rattle.emit_text.specs.Labels.{start_label, handler_label, routines_label}
use Rattle.emit_text.proofs.Started.{on_ok, start_free, made_here, all_started}
use Rattle.emit_text.proofs.whole.put_start.Goals as goal

pub bind-requires : goal.bind-requires
bind-requires c = start_free c.args.placed.now c.args.asm.now (c.args.labels.now.texts - 1) c.requires.begun (omega (arith, ap (λ x. x.texts) c.requires.labels))

pub address-requires-clause-made : goal.address-requires-clause-made
address-requires-clause-made c =
    made_here c.args.placed.now c.args.asm.now c.bind.new.self (c.args.labels.now.texts - 1) c.in_ok-arena.arena c.requires.begun c.bind.ensures
    (omega (arith, ap (λ x. x.routines) c.requires.labels, c.in_ok-arena.ensures, c.place.ensures.is))

pub address-requires-2-clause-made : goal.address-requires-2-clause-made
address-requires-2-clause-made c =
    let made = made_here c.args.placed.now c.args.asm.now c.bind.new.self (c.args.labels.now.texts - 1) c.in_ok-end.end c.requires.begun c.bind.ensures
    (omega (arith, ap (λ x. x.routines) c.requires.labels, c.in_ok-end.ensures, c.place-2.ensures.is)) in
    omega (arith, ap (λ x. length x.places) c.in_ok-address.ensures.ok, made)

pub address-requires-3-clause-made : goal.address-requires-3-clause-made
address-requires-3-clause-made c =
    let made = made_here c.args.placed.now c.args.asm.now c.bind.new.self (c.args.labels.now.texts - 1) (c.args.labels.now.routines - 1) c.requires.begun c.bind.ensures
    (omega (arith, ap (λ x. x.routines) c.requires.labels)) in
    omega (arith, ap (λ x. length x.places) c.in_ok-address.ensures.ok, ap (λ x. length x.places) c.in_ok-address-2.ensures.ok, made)

pub returns : goal.returns
returns c =
    let p = c.args.placed.now in
    let routines = ap (λ x. x.routines) c.requires.labels in
    let start : c.args.labels.now.texts - 1 ≡ start_label p = omega (arith, ap (λ x. x.texts) c.requires.labels) in
    let arena : c.in_ok-arena.arena ≡ routines_label p + 20 = omega (arith, routines, c.in_ok-arena.ensures, c.place.ensures.is) in
    let end : c.in_ok-end.end ≡ routines_label p + 21 = omega (arith, routines, c.in_ok-end.ensures, c.place-2.ensures.is) in
    let handler : c.args.labels.now.routines - 1 ≡ handler_label p = omega (arith, routines) in
    on_ok c.address-3.result
    (λ last. all_started p c.args.asm.now c.bind.new.self c.address.new.self c.address-2.new.self c.address-3.new.self (c.args.labels.now.texts - 1) c.in_ok-arena.arena c.in_ok-end.end (c.args.labels.now.routines - 1)
    c.requires.begun c.bind.ensures c.in_ok-address.ensures.ok c.in_ok-address-2.ensures.ok last start arena end handler)
    c.address-3.ensures.ok
