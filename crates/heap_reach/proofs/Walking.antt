-- A walk goes on by one block, and what it has found in the end.
use Rattle.std.proofs.Common.{◌≡◌, ℕ, suc, ◌+◌, ◌*◌, ◌<◌, ◌≤◌, ◌^◌, List, [], ◌∷◌, ◌++◌, length, length-take, take, drop, inl, inr, ⊎_elim, refl, sym, ap, ap₂, ◌∙◌, subst, arith, Some}
use Rattle.std.specs.Prelude.{slice_get}
use Rattle.std.proofs.lemmas.List.{take_all, take_more, take-append-le, take-append-drop}
use Rattle.std.proofs.lemmas.Nat.{mul-le}
use Rattle.std.proofs.lemmas.Option.{slice_get_within, get_or_from_slice_get}
use Rattle.rv_machine.specs.State.{State}
use Rattle.simulation.specs.Blocks.{IsAmong}
use Rattle.simulation.specs.Words.{IsDistinct, weight}
use Rattle.simulation.proofs.Lists.{among_left, among_append, among_one, get_among}
use Rattle.rv_run.specs.Heap.{heap_word, body_words}
use Rattle.rv_run.specs.Counted.{PointsTo, Reached, by_root, by_field, block_size, IsCount}
use Rattle.heap_reach.specs.Numbers.{Numbers, IsSet, Adds}
use Rattle.heap_reach.specs.Walk.{IsRoot, IsChild, IsBlock, IsWalked, words_of}
use Rattle.heap_reach.proofs.Adding.{adds_keep}

-- one element more of the front
pub front_more : (xs : List ℕ) (n x : ℕ) → slice_get xs n ≡ Some x → take (n + 1) xs ≡ take n xs ++ x ∷ []
front_more xs n x e = take_more xs n x (slice_get_within xs n x e) ∙ ap (λ y. take n xs ++ y ∷ []) (get_or_from_slice_get xs n x x e)

among_take : (xs : List ℕ) (n x : ℕ) → IsAmong x (take n xs) → IsAmong x xs
among_take xs n x h = subst (IsAmong x) (take-append-drop n xs) (among_left x (take n xs) (drop n xs) h)

weight_last : (f : ℕ → ℕ) (xs : List ℕ) (x : ℕ) → weight f (xs ++ x ∷ []) ≡ weight f xs + f x
weight_last f [] x = omega arith
weight_last f (y ∷ ys) x = let e = weight_last f ys x in omega arith

module _ (arena words : ℕ) (s : State) (roots : List ℕ) where
  target_block : (v j : ℕ) → PointsTo arena words s v j → IsBlock arena words s j
  target_block v j p = record { header = p.header; stands = p.stands; within = p.within }

  -- what is reached is a block
  pub reached_block : (j : ℕ) → Reached arena words s roots j → IsBlock arena words s j
  reached_block j (by_root v j' i p) = target_block v j p
  reached_block j (by_field i k h v j' r e t l f p) = target_block v j p

  -- what a reached block points to is reached
  pub reached_child : (i j : ℕ) → Reached arena words s roots i → IsChild arena words s i j → Reached arena words s roots j
  reached_child i j r c =
      let f = c.3 in
      let z : i + 1 + f.0 ≡ i + suc f.0 = omega arith in
      by_field i f.0 c.0 f.1 j r c.1 c.2 f.2 (subst (λ n. heap_word arena s n ≡ Some f.1) z f.3) f.4

  pub walked_none : (found : List ℕ) → Adds (IsRoot arena words s roots) [] found → IsWalked arena words s roots 0 found
  walked_none found a = record {
    reached = λ j h. let r = a.each j (subst (IsAmong j) a.on h) in by_root r.0 j r.1 r.2;
    rooted = a.all;
    closed = λ i j h c. absurd h;
  }

  pub walked_more : (done i : ℕ) (found new : List ℕ) → done < length found → slice_get found done ≡ Some i → IsWalked arena words s roots done found → Adds (IsChild arena words s i) found new → IsWalked arena words s roots (done + 1) new
  walked_more done i found new l e w a = record {
    reached = λ j h. ⊎_elim
        (λ (u : IsAmong j found). w.reached j u)
        (λ (u : IsAmong j a.more). reached_child i j (w.reached i (get_among found done i e)) (a.each j u))
        (among_append j found a.more (subst (IsAmong j) a.on h));
    rooted = λ j r. adds_keep (IsChild arena words s i) found new j a (w.rooted j r);
    closed = λ k j h c. ⊎_elim
        (λ (u : IsAmong k (take done found)). adds_keep (IsChild arena words s i) found new j a (w.closed k j u c))
        (λ (u : IsAmong k (i ∷ [])). a.all j (subst (λ m. IsChild arena words s m j) (among_one k i u) c))
        (among_append k (take done found) (i ∷ []) (subst (IsAmong k) front h));
  }
    where
      front : take (done + 1) new ≡ take done found ++ i ∷ []
      front = ap (take (done + 1)) a.on ∙ take-append-le (done + 1) found a.more (omega arith) ∙ front_more found done i e

  -- its words come to those of the blocks before it
  pub words_more : (done i n size : ℕ) (found new : List ℕ) → done < length found → slice_get found done ≡ Some i → Adds (IsChild arena words s i) found new → n ≡ words_of arena s (take done found) → size ≡ block_size (heap_word arena s i) → n + size ≡ words_of arena s (take (done + 1) new)
  words_more done i n size found new l e a p q =
      let front : take (done + 1) new ≡ take done found ++ i ∷ [] = ap (take (done + 1)) a.on ∙ take-append-le (done + 1) found a.more (omega arith) ∙ front_more found done i e in
      ap₂ (λ x y. x + y) p q ∙ sym (ap (words_of arena s) front ∙ weight_last (λ j. block_size (heap_word arena s j)) (take done found) i)

  -- the blocks of a list have no more words than the arena each
  block_fits : (j : ℕ) → IsBlock arena words s j → block_size (heap_word arena s j) ≤ words
  block_fits j b = let w = b.within in let e : block_size (heap_word arena s j) ≡ suc (body_words b.header) = ap block_size b.stands in omega arith

  pub words_fit : (xs : List ℕ) → ((j : ℕ) → IsAmong j xs → Reached arena words s roots j) → words_of arena s xs ≤ length xs * words
  words_fit [] h = omega arith
  words_fit (x ∷ xs) h =
      let a = block_fits x (reached_block x (h x (inl refl))) in
      let b = words_fit xs (λ j i. h j (inr i)) in
      let c : suc (length xs) * words ≡ words + length xs * words = omega arith in
      omega arith

  -- so no sum of them is too large
  pub no_overflow : (done i n size : ℕ) (found : Numbers) → IsSet found → words ≤ found.room → done < length found.numbers → slice_get found.numbers done ≡ Some i → IsWalked arena words s roots done found.numbers → n ≡ words_of arena s (take done found.numbers) → size ≡ block_size (heap_word arena s i) → n + size < 2 ^ 64
  no_overflow done i n size found set small l e w p q =
      let xs = found.numbers in
      let front = front_more xs done i e in
      let all : n + size ≡ words_of arena s (take (done + 1) xs) = ap₂ (λ x y. x + y) p q ∙ sym (ap (words_of arena s) front ∙ weight_last (λ j. block_size (heap_word arena s j)) (take done xs) i) in
      let fit = words_fit (take (done + 1) xs) (λ j h. w.reached j (among_take xs (done + 1) j h)) in
      let len = length-take (done + 1) xs in
      let few = set.few in
      let room = set.small in
      let a : length (take (done + 1) xs) ≤ found.room = omega arith in
      let b = mul-le (length (take (done + 1) xs)) words found.room found.room a small in
      let c = mul-le found.room found.room 4294967295 4294967295 (omega arith) (omega arith) in
      omega arith

  -- all was looked into
  all_reached : (found : List ℕ) → IsWalked arena words s roots (length found) found → (j : ℕ) → Reached arena words s roots j → IsAmong j found
  all_reached found w j (by_root v j' i p) = w.rooted j (v, i, p)
  all_reached found w j (by_field i k h v j' r e t l f p) =
      let z : i + suc k ≡ i + 1 + k = omega arith in
      w.closed i j (subst (IsAmong i) (sym (take_all (length found) found (omega arith))) (all_reached found w i r)) (h, e, t, (k, v, l, subst (λ n. heap_word arena s n ≡ Some v) z f, p))

  pub walked_all : (done n : ℕ) (found : List ℕ) → length found ≤ done → done ≤ length found → IsDistinct found → IsWalked arena words s roots done found → n ≡ words_of arena s (take done found) → IsCount arena words s roots n done
  walked_all done n found low high d w p =
      let e : done ≡ length found = omega arith in
      record {
        numbers = found;
        distinct = d;
        reached = w.reached;
        all = all_reached found (subst (λ k. IsWalked arena words s roots k found) e w);
        sum = ap (words_of arena s) (sym (take_all done found low)) ∙ sym p;
        many = sym e;
      }
