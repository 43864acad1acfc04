use Rattle.std.proofs.Common.{◌≡◌, ◌++◌, map, drop}
use Rattle.lambda_laws.specs.Make.{part_of}
use Rattle.lambda_make.proofs.terms.parts.Given as goal

abbrev pub invariant-loop-field : goal.invariant-loop-field
invariant-loop-field l =
    l.found ++ map part_of (drop l.field-index l.fields) ≡ map part_of l.fields
