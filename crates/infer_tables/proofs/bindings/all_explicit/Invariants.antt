use Rattle.std.proofs.Common.{◌≡◌, ◌++◌, drop}
use Rattle.sml_types.specs.TypeExps.{all_explicit}
use Rattle.infer_tables.proofs.bindings.all_explicit.Given as goal

abbrev pub invariant-numbers : goal.invariant-numbers
invariant-numbers l = l.vars ++ all_explicit l.fn.bare.tyvars (drop l.number-index l.numbers) ≡ all_explicit l.fn.bare.tyvars l.numbers
