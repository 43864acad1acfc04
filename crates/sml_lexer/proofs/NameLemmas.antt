-- Names that are added again, in their order, stand where they stood.
use Rattle.std.proofs.Common.{◌≡◌, ℕ, zero, suc, ◌+◌, ◌<◌, true, false, List, [], ◌∷◌, ◌++◌, Some, take, refl, sym, ap, ◌∙◌, arith}
use Rattle.std.specs.Prelude.{Bool, ◌||◌, slice_get, bytes_eq, if◌then◌else◌}
use Rattle.std.specs.List.{list_any}
use Rattle.std.proofs.lemmas.Slice.Eq.{bytes_eq-Decides}
use Rattle.std.proofs.lemmas.List.{take_more}
use Rattle.std.proofs.lemmas.Option.{slice_get_within, get_or_from_slice_get}
use Rattle.smlc_base.specs.Texts.{with_text, AreDistinct}

fresh : (text : List ℕ) (texts : List (List ℕ)) → ((j : ℕ) → slice_get texts j ≡ Some text → ⊥) → list_any (bytes_eq text) texts ≡ false
fresh text [] h = refl
fresh text (x ∷ texts) h = go (bytes_eq text x) refl (fresh text texts (λ j k. h (suc j) k))
  where
    go : (b : Bool) → bytes_eq text x ≡ b → list_any (bytes_eq text) texts ≡ false → (bytes_eq text x || list_any (bytes_eq text) texts) ≡ false
    go true e r = absurd (h 0 (ap Some (sym ((bytes_eq-Decides text x).0 e))))
    go false e r = ap (λ b. b || list_any (bytes_eq text) texts) e ∙ r

-- what stands among the first stands in the list
in_front : (texts : List (List ℕ)) (n j : ℕ) (text : List ℕ) → slice_get (take n texts) j ≡ Some text → (j < n) × (slice_get texts j ≡ Some text)
in_front [] zero j text e = cc
in_front [] (suc n) j text e = cc
in_front (x ∷ texts) zero j text e = cc
in_front (x ∷ texts) (suc n) zero text e = (omega arith, e)
in_front (x ∷ texts) (suc n) (suc j) text e = let r = in_front texts n j text e in let l = r.0 in (omega (arith, l), r.1)

pub one_more_name : (names : List (List ℕ)) (i : ℕ) (text : List ℕ) → AreDistinct names → slice_get names i ≡ Some text → with_text (take i names) text ≡ take (i + 1) names
one_more_name names i text distinct at =
    ap (λ b. if b then take i names else take i names ++ text ∷ []) (fresh text (take i names) (λ j k. let r = in_front names i j text k in let l = r.0 in let e = distinct j i text r.1 at in absurd (omega (arith, l, e))))
    ∙ ap (λ t. take i names ++ t ∷ []) (sym (get_or_from_slice_get names i text [] at))
    ∙ sym (take_more names i [] (slice_get_within names i text at))
