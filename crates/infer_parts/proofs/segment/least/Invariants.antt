use Rattle.std.proofs.Common.{◌≡◌, drop}
use Rattle.infer_parts.specs.Segments.{least_of}
use Rattle.infer_parts.proofs.segment.least.Given as goal

abbrev pub invariant-parts : goal.invariant-parts
invariant-parts l = least_of l.least (drop l.part-index l.parts) ≡ least_of l.low l.parts
