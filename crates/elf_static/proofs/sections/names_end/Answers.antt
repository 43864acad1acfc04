use Rattle.std.proofs.Common.{◌≡◌, ◌+◌, ◌-◌, subst, arith}
use Rattle.std.specs.Prelude.{◌==◌}
use Rattle.std.specs.List.{list_any}
use Rattle.std.proofs.Common.{drop}
use Rattle.elf_static.proofs.Names.{ends_behind_zero, ends_nowhere}
use Rattle.elf_static.proofs.sections.names_end.Goals as goal

pub returns-else-names-end-ne0 : goal.returns-else-names-end-ne0
returns-else-names-end-ne0 c = λ k.
    let last = c.loop-end.end - 1 in
    let e : c.loop-end.end ≡ last + 1 = omega arith in
    rw e (ends_behind_zero c.args.names.now last k (omega arith) c.if-names-end-ne0.false (rw (← e) c.loop-end.invariant.none))

pub returns-after-loop-end : goal.returns-after-loop-end
returns-after-loop-end c = λ k.
    let e : c.loop-end.end ≡ 0 = omega arith in
    rw e (ends_nowhere c.args.names.now k (subst (λ n. list_any (λ b. b == 0) (drop n c.args.names.now) ≡ _) e c.loop-end.invariant.none))
