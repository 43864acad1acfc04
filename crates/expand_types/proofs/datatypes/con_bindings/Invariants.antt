use Rattle.std.proofs.Common.{◌≡◌, map, take}
use Rattle.sml_tree.specs.declared.bare.ConBinding.{ConBinding}
use Rattle.sml_expansion.specs.Scopes.{text_of}
use Rattle.expand_types.specs.declared.datatypes.NewConstructor.{NewConstructor}
use Rattle.expand_types.proofs.datatypes.con_bindings.Given as goal

abbrev pub invariant-loop-con : goal.invariant-loop-con
invariant-loop-con l = l.bindings ≡ map (λ (c : NewConstructor). let b : ConBinding = record { text = text_of l.parsed.names c.ident.key; arg = c.arg } in b) (take l.con-index l.cons)
