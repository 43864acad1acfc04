-- What holds of a program in the making goes on to hold.
use Rattle.std.proofs.Common.{◌≡◌, ℕ, ◌+◌, ◌*◌, ◌≤◌, List, [], ◌∷◌, ◌++◌, length, Option, Some, None, ◌⊎◌, inl, inr, ap, ◌∙◌, sym, subst, arith}
use Rattle.std.specs.Prelude.{IfSome}
use Rattle.std.specs.List.{All}
use Rattle.std.proofs.lemmas.List.Elements.{All-push, All-weaker}
use Rattle.std.proofs.lemmas.List.Sums.{sum_by-cons, sum_by_push}
use Rattle.rv_asm.specs.declared.item.Item.{Item}
use Rattle.rv_asm.specs.declared.item.Item.TheVariants.{Plain, Jump, Address}
use Rattle.rv_asm.specs.Item.{size, words, IsSound, IsNear}
use Rattle.rv_asm.specs.Whole.{IsPlace, IsWhole}

size_below : (x : Item) → size x ≤ 2
size_below (Plain i) = omega arith
size_below (Jump label) = omega arith
size_below (Address rd label) = omega arith

words_twice : (items : List Item) → words items ≤ 2 * length items
words_twice [] = omega arith
words_twice (x ∷ items) = omega (arith, sum_by-cons size x items, words_twice items, size_below x)

pub words_below : (items : List Item) (x : Item) (more : List Item) → more ≡ items ++ x ∷ [] → words items + size x ≤ 2 * length more
words_below items x more e = omega (arith, words_twice more, ap words e, sum_by_push size items x)

still_place : (m n k : ℕ) → m ≤ n → IsPlace m k → IsPlace n k
still_place m n k h (inl p) = inl (omega arith)
still_place m n k h (inr p) = inr p

still_placed : (m n : ℕ) → m ≤ n → (place : Option ℕ) → IfSome place (IsPlace m) → IfSome place (IsPlace n)
still_placed m n h None p = tt
still_placed m n h (Some k) p = still_place m n k h p

-- where the program is short, each place is in reach
near_place : (count n : ℕ) → IsNear count → IsPlace count n → IsNear n
near_place count n h (inl p) = omega arith
near_place count n h (inr p) = p

pub near_if : (count : ℕ) → IsNear count → (place : Option ℕ) → IfSome place (IsPlace count) → IfSome place IsNear
near_if count h None p = tt
near_if count h (Some n) p = near_place count n h p

pub all_near : (count : ℕ) (places : List (Option ℕ)) → IsNear count → All (λ place. IfSome place (IsPlace count)) places → All (λ place. IfSome place IsNear) places
all_near count places h p = All-weaker (λ place. IfSome place (IsPlace count)) (λ place. IfSome place IsNear) (near_if count h) places p

pub whole_pushed : (items : List Item) (places : List (Option ℕ)) (count : ℕ) (x : Item) (more : List Item) (now : ℕ) → more ≡ items ++ x ∷ [] → IsWhole items places count → IsSound (length places) x → now ≡ count + size x → IsWhole more places now
whole_pushed items places count x more now e w s f =
    let more_words : words more ≡ words items + size x = ap words e ∙ sum_by_push size items x in
    let le : words items ≤ words more = omega arith in
    record {
      counted = omega (arith, w.counted);
      sound = subst (All (IsSound (length places))) (sym e) (All-push (IsSound (length places)) items x w.sound s);
      placed = All-weaker (λ place. IfSome place (IsPlace (words items))) (λ place. IfSome place (IsPlace (words more))) (still_placed (words items) (words more) le) places w.placed;
    }
