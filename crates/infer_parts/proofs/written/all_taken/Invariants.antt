use Rattle.std.proofs.Common.{◌≡◌, drop}
use Rattle.infer_parts.specs.Written.{all_taken}
use Rattle.infer_parts.proofs.Lists.{prefixed}
use Rattle.infer_parts.proofs.written.all_taken.Given as goal

abbrev pub invariant-parts : goal.invariant-parts
invariant-parts l = prefixed l.tys (all_taken l.first l.made (drop l.part-index l.parts)) ≡ all_taken l.first l.made l.parts
