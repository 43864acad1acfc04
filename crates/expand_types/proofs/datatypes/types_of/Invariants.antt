use Rattle.std.proofs.Common.{◌≡◌, ℕ, map, take}
use Rattle.sml_expansion.specs.declared.scope.Ident.{Ident}
use Rattle.sml_expansion.specs.declared.meaning.TypeMeaning.TheVariants.{TypeName}
use Rattle.expand_types.proofs.datatypes.types_of.Given as goal

abbrev pub invariant-loop-ident : goal.invariant-loop-ident
invariant-loop-ident l = l.types.items ≡ map (λ (n : Ident × ℕ). (n.0.key, TypeName n.1)) (take l.ident-index l.news)
