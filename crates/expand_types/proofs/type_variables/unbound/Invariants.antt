use Rattle.std.proofs.Common.{◌≡◌, take, filter}
use Rattle.std.specs.Prelude.{is_none}
use Rattle.sml_expansion.specs.Scoped.{latest}
use Rattle.expand_types.proofs.type_variables.unbound.Given as goal

abbrev pub invariant-loop-key : goal.invariant-loop-key
invariant-loop-key l = l.left.items ≡ filter (λ x. is_none (latest l.bindings.tyvars x)) (take l.key-index l.keys)
