-- Places byte by byte.
use Rattle.std.proofs.Common.{◌≡◌, ℕ, ◌+◌, ◌≤◌, Bool, true, false, not, cond, eqb, List, [], ◌∷◌, ◌++◌, length, sym, ap, ◌∙◌, arith, ◌⊎◌, inl, inr}
use Rattle.std.specs.Prelude.{count_by}
use Rattle.std.specs.List.{fold, prefix_len, suffix_len}
use Rattle.std.proofs.lemmas.List.{append_assoc, append-nil, reverse-append}
use Rattle.std.proofs.lemmas.List.Sums.{sum_by_push, count_by-le-length, suffix_len-le-length}
use Rattle.std.proofs.lemmas.Bool.{cases_Bool, cond-true, cond-false}
use Rattle.smlc_base.specs.declared.place.Place.{Place}
use Rattle.sml_lexer.specs.Places.{is_newline, place_behind}
use Rattle.sml_lexer.specs.PlaceScan.{next_place}

suffix_push : (p : ℕ → Bool) (s : List ℕ) (c : ℕ) → suffix_len p (s ++ c ∷ []) ≡ cond (p c) (1 + suffix_len p s) 0
suffix_push p s c = ap (prefix_len p) (reverse-append s (c ∷ []))

next_behind : (file : ℕ) (b : List ℕ) (c : ℕ) → next_place (place_behind file b) c ≡ place_behind file (b ++ c ∷ [])
next_behind file b c = go (cases_Bool (eqb c 10))
  where
    line : count_by is_newline (b ++ c ∷ []) ≡ count_by is_newline b + cond (eqb c 10) 1 0
    line = sum_by_push (λ x. cond (is_newline x) 1 0) b c

    col : suffix_len (λ x. not (is_newline x)) (b ++ c ∷ []) ≡ cond (not (eqb c 10)) (1 + suffix_len (λ x. not (is_newline x)) b) 0
    col = suffix_push (λ x. not (is_newline x)) b c

    same : (l k m n : ℕ) → l ≡ m → k ≡ n → ◌≡◌ {A = Place} (record { file = file; line = l; col = k }) (record { file = file; line = m; col = n })
    same l k m n e f = ap (λ x. record { file = file; line = x; col = k }) e ∙ ap (λ x. record { file = file; line = m; col = x }) f

    go : (eqb c 10 ≡ true) ⊎ (eqb c 10 ≡ false) → next_place (place_behind file b) c ≡ place_behind file (b ++ c ∷ [])
    go (inl h) =
        let l = line ∙ ap (λ x. count_by is_newline b + cond x 1 0) h in
        let k = col ∙ ap (λ x. cond (not x) (1 + suffix_len (λ x. not (is_newline x)) b) 0) h in
        cond-true _ _ _ h ∙ same _ _ _ _ (omega (arith, l)) (omega (arith, k))
    go (inr h) =
        let l = line ∙ ap (λ x. count_by is_newline b + cond x 1 0) h in
        let k = col ∙ ap (λ x. cond (not x) (1 + suffix_len (λ x. not (is_newline x)) b) 0) h in
        cond-false _ _ _ h ∙ same _ _ _ _ (omega (arith, l)) (omega (arith, k))

pub place-append : (file : ℕ) (b s : List ℕ) → fold next_place (place_behind file b) s ≡ place_behind file (b ++ s)
place-append file b [] = ap (place_behind file) (sym (append-nil b))
place-append file b (c ∷ s) = ap (λ p. fold next_place p s) (next_behind file b c) ∙ place-append file (b ++ c ∷ []) s ∙ ap (place_behind file) (append_assoc b (c ∷ []) s)

pub place_bounds : (file : ℕ) (b : List ℕ) → ((place_behind file b).line ≤ length b + 1) × ((place_behind file b).col ≤ length b + 1)
place_bounds file b = (let h = count_by-le-length is_newline b in omega arith, let h = suffix_len-le-length (λ x. not (is_newline x)) b in omega arith)
