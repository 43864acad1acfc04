use Rattle.std.proofs.Common.{◌≡◌, ◌+◌, sym, subst, arith}
use Rattle.rv_asm.specs.Program.{IsFree}
use Rattle.emit_data.proofs.Bindings.{still_free}
use Rattle.emit_data.proofs.binding.bind_both.Goals as goal

pub bind_places-requires-2-clause-free : goal.bind_places-requires-2-clause-free
bind_places-requires-2-clause-free c j h =
    let here : c.in_ok-first.first ≡ c.args.labels.now.routines + 18 = omega (arith, c.in_ok-first.ensures, c.place.ensures.is) in
    subst (λ n. IsFree c.bind_places.new.asm (n + j)) (sym here)
    (still_free c.args.asm.now c.bind_places.new.asm c.args.labels.now.texts (c.args.labels.now.routines + 18) j c.args.blocks.now c.in_ok-bind_places.ensures c.requires.apart (c.requires.known_free j h))
