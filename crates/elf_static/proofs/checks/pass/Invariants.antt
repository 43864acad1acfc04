use Rattle.std.proofs.Common.{◌≡◌, drop}
use Rattle.elf_static.specs.Checks.{first_failed}
use Rattle.elf_static.proofs.checks.pass.Given as goal

abbrev pub invariant-loop-check : goal.invariant-loop-check
invariant-loop-check l = first_failed (drop l.check-index l.checks) ≡ first_failed l.checks
