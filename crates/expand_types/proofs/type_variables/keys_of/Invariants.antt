use Rattle.std.proofs.Common.{◌≡◌, take}
use Rattle.sml_expansion.specs.TypeVariables.{keys_of}
use Rattle.expand_types.proofs.type_variables.keys_of.Given as goal

abbrev pub invariant-loop-ident : goal.invariant-loop-ident
invariant-loop-ident l = l.keys.items ≡ keys_of (take l.ident-index l.idents)
