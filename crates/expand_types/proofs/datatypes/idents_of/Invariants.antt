use Rattle.std.proofs.Common.{◌≡◌, ℕ, map, take}
use Rattle.sml_expansion.specs.declared.scope.Ident.{Ident}
use Rattle.expand_types.proofs.datatypes.idents_of.Given as goal

abbrev pub invariant-loop-ident : goal.invariant-loop-ident
invariant-loop-ident l = l.idents.items ≡ map (λ (n : Ident × ℕ). n.0) (take l.ident-index l.news)
