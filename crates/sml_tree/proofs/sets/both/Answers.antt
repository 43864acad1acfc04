use Rattle.std.proofs.Common.{◌<◌, ◌-◌, ◌++◌, ap, ◌∙◌, arith, length, drop, take}
use Rattle.std.proofs.lemmas.List.{take_rest}
use Rattle.sml_tree.specs.Sets.{union}
use Rattle.sml_tree.proofs.SetLemmas.{join_end}
use Rattle.sml_tree.proofs.sets.both.Goals as goal

pub returns : goal.returns
returns c =
    let past : c.loop-i.i < length c.args.xs.now → c.loop-i.j < length c.args.ys.now → ⊥ = elim c.loop-i-test.branch [ goal.then-loop-i-test+else-j-ys w ↦ (λ a b. absurd (omega (arith, w.if-j-ys))) | goal.else-loop-i-test w ↦ (λ a b. absurd (omega (arith, w.loop-i-test))) ] in
    c.in_ok-extend_from_slice-2.ensures.items
    ∙ ap (λ zs. zs ++ take (length c.args.ys.now - c.loop-i.j) (drop c.loop-i.j c.args.ys.now)) c.in_ok-extend_from_slice.ensures.items
    ∙ ap (λ zs. (c.loop-i.set.items ++ zs) ++ take (length c.args.ys.now - c.loop-i.j) (drop c.loop-i.j c.args.ys.now)) (take_rest c.args.xs.now c.loop-i.i)
    ∙ ap (λ zs. (c.loop-i.set.items ++ drop c.loop-i.i c.args.xs.now) ++ zs) (take_rest c.args.ys.now c.loop-i.j)
    ∙ join_end c.loop-i.set.items c.args.xs.now c.args.ys.now (union c.args.xs.now c.args.ys.now) c.loop-i.i c.loop-i.j past c.loop-i.invariant.done
