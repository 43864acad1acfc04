-- The order of moves, one after another.
use Rattle.std.proofs.Common.{◌≡◌, ℕ, zero, suc, ◌+◌, ◌-◌, ◌<◌, List, [], ◌∷◌, ◌++◌, Option, None, Some, cond, false, ◌==◌, length, slice_get, ◌≤◌, sym, ap, ◌∙◌, refl, arith}
use Rattle.std.specs.Prelude.{remove}
use Rattle.std.proofs.lemmas.Bool.Decides.{nat_tests}
use Rattle.rv_asm.specs.declared.item.Item.{Item}
use Rattle.placed_ir.specs.declared.home.Source.{Source}
use Rattle.emit_items.specs.declared.labels.Labels.{Labels}
use Rattle.emit_items.specs.Ends.{source_at, place_in, then_saved, saves, first_free, fetched_from, move_done, moves_from, next_moved, saved_next, left_next, all_moved}
use Rattle.emit_code.proofs.Loops.{append_assoc}

numbers_assoc : (xs ys zs : List ℕ) → (xs ++ ys) ++ zs ≡ xs ++ (ys ++ zs)
numbers_assoc [] ys zs = refl
numbers_assoc (x ∷ xs) ys zs = ap (λ ws. x ∷ ws) (numbers_assoc xs ys zs)

pub moves_more : (n k m : ℕ) (old new all : List ℕ) → k < n → m ≡ k + 1 → new ≡ old ++ m ∷ [] → old ++ moves_from (n - k) (k + 1) ≡ all → new ++ moves_from (n - (k + 1)) (k + 1 + 1) ≡ all
moves_more n k m old new all lt is e h =
    let left : n - k ≡ suc (n - (k + 1)) = omega (arith, lt) in
    let rest = moves_from (n - (k + 1)) (k + 1 + 1) in
    ap (λ xs. xs ++ rest) e
    ∙ numbers_assoc old (m ∷ []) rest
    ∙ ap (λ j. old ++ j ∷ rest) is
    ∙ ap (λ j. old ++ moves_from j (k + 1)) (sym left)
    ∙ h

pub moved_more : (f : Source) (sources : List Source) (L : Labels) (n : ℕ) (saved now : Option ℕ) (moves rest : List ℕ) (old new all : List Item) → 0 < n → now ≡ saved_next f sources saved moves → rest ≡ left_next f sources saved moves → new ≡ old ++ next_moved f sources L saved moves →
    old ++ all_moved f sources L n saved moves ≡ all → new ++ all_moved f sources L (n - 1) now rest ≡ all
moved_more f sources L n saved now moves rest old new all lt s r e h =
    let next : n ≡ suc (n - 1) = omega (arith, lt) in
    ap (λ xs. xs ++ all_moved f sources L (n - 1) now rest) e
    ∙ append_assoc old (next_moved f sources L saved moves) (all_moved f sources L (n - 1) now rest)
    ∙ ap (λ o. old ++ (next_moved f sources L saved moves ++ all_moved f sources L (n - 1) o rest)) s
    ∙ ap (λ o. old ++ (next_moved f sources L saved moves ++ all_moved f sources L (n - 1) (saved_next f sources saved moves) o)) r
    ∙ ap (λ k. old ++ all_moved f sources L k saved moves) (sym next)
    ∙ h

past_none : {X : Type 0} (xs : List X) (i : ℕ) → length xs ≤ i → slice_get xs i ≡ None
past_none [] i h = refl
past_none (x ∷ xs) zero h = absurd (omega arith)
past_none (x ∷ xs) (suc i) h = past_none xs i (omega arith)

past_same : (xs : List ℕ) (i : ℕ) → length xs ≤ i → remove xs i ≡ xs
past_same [] zero h = refl
past_same [] (suc i) h = refl
past_same (x ∷ xs) zero h = absurd (omega arith)
past_same (x ∷ xs) (suc i) h = ap (λ ys. x ∷ ys) (past_same xs i (omega arith))

not_zero : (m : ℕ) → 0 < m → (m == 0) ≡ false
not_zero m lt = grind (arith, nat_tests)

-- behind the last argument nothing is fetched
pub fetched_past : (L : Labels) (saved : Option ℕ) (f : Source) (sources : List Source) (m : ℕ) → 0 < m → length sources ≤ m - 1 → fetched_from L saved m (source_at f sources m) ≡ []
fetched_past L saved f sources m lt h =
    ap (λ b. fetched_from L saved m (cond b (Some f) (slice_get sources (m - 1)))) (not_zero m lt) ∙ ap (fetched_from L saved m) (past_none sources (m - 1) h)

pub done_past : (f : Source) (sources : List Source) (L : Labels) (saved : Option ℕ) (moves : List ℕ) (at : ℕ) → length moves ≤ at → move_done f sources L saved (slice_get moves at) ≡ []
done_past f sources L saved moves at h = ap (move_done f sources L saved) (past_none moves at h)

pub left_past : (moves : List ℕ) (at : ℕ) → length moves ≤ at → moves ≡ remove moves at
left_past moves at h = sym (past_same moves at h)

pub next_put : (f : Source) (sources : List Source) (L : Labels) (saved next now : Option ℕ) (moves : List ℕ) (at : ℕ) (old first new : List Item) → next ≡ first_free f sources saved moves moves 0 → now ≡ then_saved next saved moves → at ≡ place_in next →
    first ≡ old ++ saves next moves → new ≡ first ++ move_done f sources L now (slice_get moves at) → new ≡ old ++ next_moved f sources L saved moves
next_put f sources L saved next now moves at old first new n w p e d =
    d
    ∙ ap (λ xs. xs ++ move_done f sources L now (slice_get moves at)) e
    ∙ append_assoc old (saves next moves) (move_done f sources L now (slice_get moves at))
    ∙ ap (λ o. old ++ (saves next moves ++ move_done f sources L o (slice_get moves at))) w
    ∙ ap (λ k. old ++ (saves next moves ++ move_done f sources L (then_saved next saved moves) (slice_get moves k))) p
    ∙ ap (λ o. old ++ (saves o moves ++ move_done f sources L (then_saved o saved moves) (slice_get moves (place_in o)))) n
