-- files held by a store, one behind the other
use Rattle.std.proofs.Common.{◌≡◌, ℕ, ◌+◌, ◌<◌, List, [], ◌∷◌, ◌++◌, Option, Some, length, take, get_or, refl, sym, ap, ◌∙◌, arith}
use Rattle.std.specs.Prelude.{map}
use Rattle.std.proofs.lemmas.List.{map_more, map-append}
use Rattle.smlc_edge.specs.Edge.{Files}
use Rattle.smlc_jobs.specs.Held.{IsHeld, AreHeld, LoadsUpTo, KeepsFiles}

pub held_more : (told now : Option Files) (names contents contents' : List (List ℕ)) (i : ℕ) (name file : List ℕ) → i < length names → get_or names i [] ≡ name → contents' ≡ contents ++ file ∷ [] →
    KeepsFiles told now → AreHeld told (take i names) contents → IsHeld now name file → AreHeld told (take (i + 1) names) contents'
held_more told now names contents contents' i name file p is e keeps held one = λ files t.
    map_more files names i [] p
    ∙ ap (λ (x : Option (List ℕ)). map files (take i names) ++ x ∷ []) (ap files is ∙ one files (keeps files t))
    ∙ ap (λ (xs : List (Option (List ℕ))). xs ++ Some file ∷ []) (held files t)
    ∙ sym (map-append (λ (x : List ℕ). Some x) contents (file ∷ []))
    ∙ ap (λ (xs : List (List ℕ)). map (λ (x : List ℕ). Some x) xs) (sym e)

pub first_fails : (told : Option Files) (name : List ℕ) → LoadsUpTo told (name ∷ []) 0
first_fails told name = record { within = omega arith; contents = []; held = λ files t. refl }
