-- Pieces of code put one behind the other, each under its label.
use Rattle.std.proofs.Common.{◌≡◌, ℕ, ◌+◌, ◌≤◌, ◌<◌, List, [], ◌∷◌, ◌++◌, Option, Some, None, length, get_or, take, map, refl, sym, ap, ◌∙◌, arith}
use Rattle.std.specs.Prelude.{slice_get, slice_set}
use Rattle.std.specs.List.{flat_map}
use Rattle.std.proofs.lemmas.List.{append_assoc, append-nil, map-append, length-map, length-take-le, length-set, take_more, take_all}
use Rattle.std.proofs.lemmas.Grind.{flat_map-append}
use Rattle.std.proofs.lemmas.List.Sums.{sum_by-append}
use Rattle.rv_asm.specs.declared.item.Item.{Item}
use Rattle.rv_asm.specs.Item.{size, words}
use Rattle.rv_asm.specs.Program.{Program, with_place, IsFree}
use Rattle.emit_text.specs.Text.{starts, total}
use Rattle.emit_text.specs.Bound.{bound_from}
use Rattle.emit_text.proofs.Bounds.{long_enough, bound_none, bound_more, bound_behind, starts_length, starts_both}

module _ {X : Type 0} (F : X → List Item) where
  abbrev pub sizes_of : List X → List ℕ
  sizes_of xs = map (λ x. words (F x)) xs

  pub total_words : (xs : List X) → total (sizes_of xs) ≡ words (flat_map F xs)
  total_words [] = refl
  total_words (x ∷ xs) = ap (λ n. words (F x) + n) (total_words xs) ∙ sym (sum_by-append size (F x) (flat_map F xs))

  -- what the pieces in front of the i-th are, and then what those in front of the next are
  code_more : (xs : List X) (i : ℕ) (d : X) → i < length xs → flat_map F (take (i + 1) xs) ≡ flat_map F (take i xs) ++ F (get_or xs i d)
  code_more xs i d h = ap (flat_map F) (take_more xs i d h) ∙ flat_map-append F (take i xs) (get_or xs i d ∷ []) ∙ ap (λ ys. flat_map F (take i xs) ++ ys) (append-nil (F (get_or xs i d)))

  sizes_more : (xs : List X) (i : ℕ) (d : X) → i < length xs → sizes_of (take (i + 1) xs) ≡ sizes_of (take i xs) ++ words (F (get_or xs i d)) ∷ []
  sizes_more xs i d h = ap sizes_of (take_more xs i d h) ∙ map-append (λ x. words (F x)) (take i xs) (get_or xs i d ∷ [])

  pub counted_more : (xs : List X) (i : ℕ) (d : X) (n m r : ℕ) → i < length xs → n ≡ words (flat_map F (take i xs)) → m ≡ words (F (get_or xs i d)) → r ≡ n + m → r ≡ words (flat_map F (take (i + 1) xs))
  counted_more xs i d n m r h e f g = let s = sum_by-append size (flat_map F (take i xs)) (F (get_or xs i d)) in omega (arith, e, f, g, ap words (code_more xs i d h), s)

  pub put_more : (xs : List X) (i : ℕ) (d : X) (old now next : List Item) → i < length xs → now ≡ old ++ flat_map F (take i xs) → next ≡ now ++ F (get_or xs i d) → next ≡ old ++ flat_map F (take (i + 1) xs)
  put_more xs i d old now next h e f =
      f ∙ ap (λ ys. ys ++ F (get_or xs i d)) e ∙ append_assoc old (flat_map F (take i xs)) (F (get_or xs i d)) ∙ ap (λ ys. old ++ ys) (sym (code_more xs i d h))

  -- the labels of the first pieces
  abbrev pub places_of : List X → Program → List (Option ℕ)
  places_of xs old = bound_from 0 (starts (words old.items) (sizes_of xs)) old.places

  starts_count : (n : ℕ) (xs : List X) (i : ℕ) → i ≤ length xs → length (starts n (sizes_of (take i xs))) ≡ i
  starts_count n xs i h = starts_length n (sizes_of (take i xs)) ∙ length-map (take i xs) (λ x. words (F x)) ∙ length-take-le i xs h

  pub places_none : (old : Program) → old.places ≡ places_of [] old
  places_none old = sym (bound_none 0 old.places)

  pub free_next : (xs : List X) (i l : ℕ) (old now : Program) → i < length xs → l ≡ i → ((j : ℕ) → j < length xs → IsFree old j) → now.places ≡ places_of (take i xs) old → IsFree now l
  free_next xs i l old now h e free is =
      let at = starts (words old.items) (sizes_of (take i xs)) in
      let n : length at ≡ i = starts_count (words old.items) xs i (omega arith) in
      let g = free i h in
      let there = long_enough old.places i None g in
      let s : 0 + i ≡ i = omega arith in
      ap (slice_get now.places) e
      ∙ ap (λ ws. slice_get ws i) is
      ∙ ap (slice_get (bound_from 0 at old.places)) (sym s)
      ∙ bound_behind 0 i at old.places (omega (arith, n)) (omega (arith, n))
      ∙ ap (slice_get old.places) s
      ∙ g

  pub places_more : (xs : List X) (i l : ℕ) (d : X) (old now next : Program) → i < length xs → l ≡ i → ((j : ℕ) → j < length xs → IsFree old j) →
      now.items ≡ old.items ++ flat_map F (take i xs) → now.places ≡ places_of (take i xs) old → next.places ≡ (with_place now l).places → next.places ≡ places_of (take (i + 1) xs) old
  places_more xs i l d old now next h e free put is step =
      let at = starts (words old.items) (sizes_of (take i xs)) in
      let n : length at ≡ i = starts_count (words old.items) xs i (omega arith) in
      let here : words now.items ≡ words old.items + total (sizes_of (take i xs)) =
      ap words put ∙ sum_by-append size old.items (flat_map F (take i xs)) ∙ ap (λ k. words old.items + k) (sym (total_words (take i xs))) in
      let s : 0 + i ≡ i = omega arith in
      step
      ∙ ap (λ k. slice_set now.places k (Some (words now.items))) (e ∙ sym s)
      ∙ ap (λ ws. slice_set ws (0 + i) (Some (words now.items))) is
      ∙ bound_more 0 i (words now.items) at old.places None n (ap (slice_get old.places) s ∙ free i h)
      ∙ ap (λ k. bound_from 0 (at ++ k ∷ []) old.places) here
      ∙ ap (λ ws. bound_from 0 ws old.places) (sym (starts_both (words old.items) (sizes_of (take i xs)) (words (F (get_or xs i d)) ∷ [])))
      ∙ ap (λ ws. bound_from 0 (starts (words old.items) ws) old.places) (sym (sizes_more xs i d h))

  pub many_more : (n l : ℕ) (now next : Program) → length now.places ≡ n → next.places ≡ (with_place now l).places → length next.places ≡ n
  many_more n l now next e step = ap length step ∙ length-set now.places l (Some (words now.items)) ∙ e

  pub all_counted : (xs : List X) (i n : ℕ) → length xs ≤ i → n ≡ words (flat_map F (take i xs)) → n ≡ words (flat_map F xs)
  all_counted xs i n h e = e ∙ ap (λ ys. words (flat_map F ys)) (take_all i xs h)

  pub all_put : (xs : List X) (i : ℕ) (old now : List Item) → length xs ≤ i → now ≡ old ++ flat_map F (take i xs) → now ≡ old ++ flat_map F xs
  all_put xs i old now h e = e ∙ ap (λ ys. old ++ flat_map F ys) (take_all i xs h)

  pub all_bound : (xs : List X) (i : ℕ) (old : Program) (now : List (Option ℕ)) → length xs ≤ i → now ≡ places_of (take i xs) old → now ≡ places_of xs old
  all_bound xs i old now h e = e ∙ ap (λ ys. places_of ys old) (take_all i xs h)
