-- Fields and bindings past the last part.
use Rattle.std.proofs.Common.{◌≡◌, ℕ, List, [], ◌∷◌, ◌++◌, refl, ap, ◌∙◌}
use Rattle.std.proofs.lemmas.List.{append-nil}
use Rattle.sml_tree.specs.declared.bare.Field.{Field}
use Rattle.sml_tree.specs.declared.bare.RecBinding.{RecBinding}
use Rattle.sml_expansion.specs.Forests.{fields_at, rec_bindings_at}

nothing_at : (parts : List ℕ) → fields_at parts [] ≡ []
nothing_at [] = refl
nothing_at (i ∷ parts) = refl

no_binding_at : (parts : List ℕ) → rec_bindings_at parts [] ≡ []
no_binding_at [] = refl
no_binding_at (i ∷ parts) = refl

pub all_fields : (done : List Field) (parts : List ℕ) (left : List Field) → left ≡ [] → done ++ fields_at parts left ≡ done
all_fields done parts left e = ap (λ l. done ++ fields_at parts l) e ∙ ap (λ l. done ++ l) (nothing_at parts) ∙ append-nil done

pub all_bindings : (done : List RecBinding) (parts : List ℕ) (left : List RecBinding) → left ≡ [] → done ++ rec_bindings_at parts left ≡ done
all_bindings done parts left e = ap (λ l. done ++ rec_bindings_at parts l) e ∙ ap (λ l. done ++ l) (no_binding_at parts) ∙ append-nil done
