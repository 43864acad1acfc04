-- New type variables, one behind the other.
use Rattle.std.proofs.Common.{◌≡◌, ◌<◌, ℕ, ◌+◌, suc, List, [], ◌∷◌, ◌++◌, length, get_or, drop, sym, ap, ◌∙◌, subst, append_assoc, add-one}
use Rattle.std.proofs.lemmas.List.{append-nil}
use Rattle.std.proofs.Math.Seq.{drop-cons}
use Rattle.sml_expansion.specs.declared.made.Made.{Made}
use Rattle.sml_expansion.specs.Makings.{Runs, new_tyvar}
use Rattle.sml_expansion.specs.Scopes.{text_of}
use Rattle.sml_expansion.specs.TypeVariables.{new_tyvars}
use Rattle.expand_types.proofs.Steps.{behind}

module _ (names : List (List ℕ)) (keys : List ℕ) (k : Made) where
  -- so many are made
  abbrev pub Made_so_far : ℕ → Made → List (ℕ × ℕ) → Type 0
  Made_so_far i m vars = (x : List (ℕ × ℕ)) (n : Made) → Runs (new_tyvars names (drop i keys)) m x n → Runs (new_tyvars names keys) k (vars ++ x) n

  pub one_more : (i number : ℕ) (m n : Made) (vars more : List (ℕ × ℕ)) → i < length keys → Made_so_far i m vars → Runs (new_tyvar (text_of names (get_or keys i 0))) m number n → more ≡ vars ++ (get_or keys i 0, number) ∷ [] → Made_so_far (i + 1) n more
  one_more i number m n vars more inside far step is x o run =
      let key : ℕ = get_or keys i 0 in
      let tail : Runs (new_tyvars names (drop (suc i) keys)) n x o = subst (λ j. Runs (new_tyvars names (drop j keys)) n x o) (add-one i) run in
      let both : Runs (new_tyvars names (key ∷ drop (suc i) keys)) m ((key, number) ∷ x) o =
      behind (new_tyvar (text_of names key)) (λ a l. ((key, a) ∷ (new_tyvars names (drop (suc i) keys) l).0, (new_tyvars names (drop (suc i) keys) l).1)) m n o number ((key, number) ∷ x) step (ap (λ r. ((key, number) ∷ r.0, r.1)) tail) in
      let here : Runs (new_tyvars names (drop i keys)) m ((key, number) ∷ x) o = subst (λ ks. Runs (new_tyvars names ks) m ((key, number) ∷ x) o) (sym (drop-cons keys i 0 inside)) both in
      subst (λ q. Runs (new_tyvars names keys) k q o) (sym (append_assoc vars ((key, number) ∷ []) x) ∙ ap (λ q. q ++ x) (sym is)) (far ((key, number) ∷ x) o here)

  pub all_made : (i : ℕ) (m : Made) (vars : List (ℕ × ℕ)) → drop i keys ≡ [] → Made_so_far i m vars → Runs (new_tyvars names keys) k vars m
  all_made i m vars none far = subst (λ q. Runs (new_tyvars names keys) k q m) (append-nil vars) (far [] m (ap (λ ks. new_tyvars names ks m) none))
