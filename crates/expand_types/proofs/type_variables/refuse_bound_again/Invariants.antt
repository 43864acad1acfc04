use Rattle.std.proofs.Common.{◌≡◌, ℕ, List, map, filter, drop}
use Rattle.smlc_base.specs.declared.refusal.Refusal.TheVariants as refusal
use Rattle.sml_expansion.specs.Makings.{breaks}
use Rattle.sml_expansion.specs.Scopes.{scope_of}
use Rattle.sml_expansion.specs.TypeVariables.{bound_again}
use Rattle.expand_types.proofs.type_variables.refuse_bound_again.Given as goal

abbrev pub invariant-loop-ident : goal.invariant-loop-ident
invariant-loop-ident l = (names : List (List ℕ)) → breaks (map (λ i. refusal.BadBinding i.place) (filter (bound_again (scope_of names l.bindings)) (drop l.ident-index l.explicit))) l.made ≡ breaks (map (λ i. refusal.BadBinding i.place) (filter (bound_again (scope_of names l.bindings)) l.explicit)) l.fn.made
