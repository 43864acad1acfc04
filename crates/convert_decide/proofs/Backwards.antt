-- One site more, from the last to the first.
use Rattle.std.proofs.Common.{◌≡◌, ℕ, suc, ◌+◌, ◌<◌, List, ◌∷◌, length, drop, sym, ap, ◌∙◌, subst, arith}
use Rattle.std.proofs.lemmas.List.{drop_more}
use Rattle.std.specs.Prelude.{get_or}

-- what holds of the items from the next one on and of one before them
pub one_before : {X : Type 0} → (P : List X → Type 0) (xs : List X) (i k : ℕ) (d : X) → i < length xs → suc i ≡ k → P (get_or xs i d ∷ drop k xs) → P (drop i xs)
one_before P xs i k d lt e h =
    let next : i + 1 ≡ k = omega (arith, e) in
    subst P (sym (drop_more xs i d lt ∙ ap (λ n. get_or xs i d ∷ drop n xs) next)) h
