use Rattle.std.proofs.Common.{◌≡◌, map, take}
use Rattle.sml_expansion.specs.declared.scope.Ident.{Ident}
use Rattle.sml_expansion.proofs.once.idents_once.Given as goal

abbrev pub invariant-loop-ident : goal.invariant-loop-ident
invariant-loop-ident l = l.keys.items ≡ map (λ (i : Ident). (i.key, i.place)) (take l.ident-index l.idents)
