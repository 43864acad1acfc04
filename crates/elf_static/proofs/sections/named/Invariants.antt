use Rattle.std.proofs.Common.{◌≡◌, ◌++◌, drop}
use Rattle.std.specs.Prelude.{filter, nat_eq}
use Rattle.std.specs.List.{starts_with}
use Rattle.elf_static.proofs.sections.named.Given as goal

abbrev pub invariant-loop-s : goal.invariant-loop-s
invariant-loop-s l = l.found.items ++ filter (λ s. starts_with nat_eq (drop s.name l.names) l.name) (drop l.s-index l.sections) ≡ filter (λ s. starts_with nat_eq (drop s.name l.names) l.name) l.sections
