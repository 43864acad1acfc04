use Rattle.std.proofs.Common.{sym, subst, arith}
use Rattle.elf_static.specs.Layout.{IsLaidOut}
use Rattle.rv_codegen.proofs.Images.{laid_out}
use Rattle.rv_codegen.proofs.image.emit.Goals as goal

pub returns-clause-laid_out : goal.returns-clause-laid_out
returns-clause-laid_out c =
    subst IsLaidOut (sym c.in_ok-image.ensures.image)
    (laid_out c.args.placed.now c.args.arena_words c.args.plan.now c.in_ok-laid.ensures.near c.bodies.ensures.kept c.in_ok-image.ensures.few (omega (arith, c.requires.least)))
