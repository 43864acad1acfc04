-- Variables that are put in force one by one.
use Rattle.std.proofs.Common.{◌≡◌, ℕ, List, [], ◌∷◌, ◌++◌, map, refl, sym, ap, ◌∙◌}
use Rattle.std.proofs.lemmas.List.{append_assoc, reverse-append}
use Rattle.sml_expansion.specs.declared.meaning.Meaning.{Meaning}
use Rattle.sml_expansion.specs.declared.meaning.Meaning.TheVariants.{Variable}
use Rattle.sml_expansion.specs.declared.meaning.TypeMeaning.{TypeMeaning}
use Rattle.sml_expansion.specs.declared.scope.Bindings.{Bindings}
use Rattle.sml_expansion.specs.declared.scope.Bound.{Bound}
use Rattle.sml_expansion.specs.Patterns.{env_of}
use Rattle.sml_expansion.specs.Scopes.{Scope, scope_of, within}

abbrev pub forced : List Bound → List (ℕ × Meaning) → List (ℕ × Meaning)
forced [] values = values
forced (v ∷ vars) values = forced vars ((v.ident.key, Variable (record { 0 = v.name })) ∷ values)

pub forced_is : (vars : List Bound) (values : List (ℕ × Meaning)) → forced vars values ≡ (env_of vars).values ++ values
forced_is [] values = refl
forced_is (v ∷ vars) values =
    let b : ℕ × Meaning = (v.ident.key, Variable (record { 0 = v.name })) in
    forced_is vars (b ∷ values) ∙ sym (append_assoc (env_of vars).values (b ∷ []) values)
    ∙ ap (λ (l : List (ℕ × Meaning)). l ++ values) (sym (reverse-append (b ∷ []) (map (λ (u : Bound). (u.ident.key, Variable (record { 0 = u.name }))) vars)))

pub forced_scope : (names : List (List ℕ)) (vars : List Bound) (b c : Bindings) → c.values ≡ forced vars b.values → c.types ≡ b.types → c.tyvars ≡ b.tyvars → scope_of names c ≡ within (scope_of names b) (env_of vars)
forced_scope names vars b c h k l =
    let by_values : List (ℕ × Meaning) → Scope = λ o. record { names = names; env = record { values = o; types = c.types }; tyvars = c.tyvars } in
    let by_types : List (ℕ × TypeMeaning) → Scope = λ o. record { names = names; env = record { values = (env_of vars).values ++ b.values; types = o }; tyvars = c.tyvars } in
    let by_tyvars : List (ℕ × ℕ) → Scope = λ o. record { names = names; env = record { values = (env_of vars).values ++ b.values; types = b.types }; tyvars = o } in
    ap by_values (h ∙ forced_is vars b.values) ∙ ap by_types k ∙ ap by_tyvars l
