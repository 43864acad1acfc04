-- each segment stands behind those before it
use Rattle.std.proofs.Common.{◌≡◌, inl, inr, ℕ, zero, suc, ◌+◌, ◌-◌, ◌*◌, ◌<◌, ◌≤◌, Bool, true, false, ◌&&◌, List, [], ◌∷◌, ◌++◌, length, take, drop, slice_get, Some, arith, refl, sym, ap, ◌∙◌, subst, length-append, append-nil}
use Rattle.std.specs.Prelude.{replicate, slice_range, slice_index_or, nat_le, All, AllPairs}
use Rattle.std.proofs.Math.ListN.{length-replicate}
use Rattle.std.proofs.Math.Seq.{drop-append-add}
use Rattle.std.proofs.lemmas.Bool.Decides.{nat_tests}
use Rattle.std.proofs.lemmas.List.{take-append-le}
use Rattle.elf_static.specs.declared.image.Segment.{Segment}
use Rattle.elf_static.specs.declared.image.Image.{Image}
use Rattle.elf_static.specs.Load.{IsFilled, IsApart, IsLoadable}
use Rattle.elf_static.specs.Layout.{text_segment, read_only_segment, writable_segment, IsLaidOut}
use Rattle.rv_machine.specs.Memory.{segment_bytes, memory_of, area_of, areas_of}
use Rattle.rv_machine.specs.Load.{loaded}
use Rattle.rv_machine.specs.State.{holds, located_from}
use Rattle.rv_machine.specs.Flat.{has_right, IsStored, size_before, flat, IsFlat}

-- ---- a range is found

held : (s : Segment) (right a n : ℕ) → has_right s right ≡ true → s.address ≤ a → a + n ≤ s.address + s.size → holds (area_of s) right a n ≡ true
held s right a n r l h =
    let e : nat_le s.address a ≡ true = grind (arith, nat_tests) in
    let f : nat_le (a + n) (s.address + s.size) ≡ true = grind (arith, nat_tests) in
    rw (r, e, f) refl

both_off : (r b c : Bool) → (b ≡ true → c ≡ true → ⊥) → (r && b && c) ≡ false
both_off true true true f = absurd (f refl refl)
both_off true true false f = refl
both_off true false c f = refl
both_off false b c f = refl

-- no other segment has the addresses
not_held : (x s : Segment) (right a n : ℕ) → IsApart x s → s.address ≤ a → 0 < n → a + n ≤ s.address + s.size → holds (area_of x) right a n ≡ false
not_held x s right a n apart l z h =
    both_off (has_right x right) (nat_le x.address a) (nat_le (a + n) (x.address + x.size)) (λ e f.
    let u : x.address ≤ a = grind (arith, nat_tests) in
    let v : a + n ≤ x.address + x.size = grind (arith, nat_tests) in
    away apart u v)
  where
    away : IsApart x s → x.address ≤ a → a + n ≤ x.address + x.size → ⊥
    away (inl e) u v = absurd (omega arith)
    away (inr (inl e)) u v = absurd (omega arith)
    away (inr (inr (inl e))) u v = absurd (omega arith)
    away (inr (inr (inr e))) u v = absurd (omega arith)

stands_at : (ss : List Segment) (i : ℕ) (s d : Segment) → slice_get ss i ≡ Some s → (i < length ss) × (slice_index_or ss i d ≡ s)
stands_at [] i s d e = absurd (cc)
stands_at (x ∷ ss) zero s d e = (omega arith, let f : x ≡ s = cc in f)
stands_at (x ∷ ss) (suc i) s d e = let p = stands_at ss i s d e in let l = p.0 in (omega arith, p.1)

pairs_rest : (x : Segment) (ss : List Segment) → AllPairs IsApart (x ∷ ss) → AllPairs IsApart ss
pairs_rest x ss h i j d l k = h (suc i) (suc j) d (omega arith) (omega arith)

pairs_first : (x : Segment) (ss : List Segment) (i : ℕ) (s : Segment) → AllPairs IsApart (x ∷ ss) → slice_get ss i ≡ Some s → IsApart x s
pairs_first x ss i s h e =
    let p = stands_at ss i s x e in
    let l = p.0 in
    subst (IsApart x) p.1 (h zero (suc i) x (omega arith) (omega arith))

found_from : (base : ℕ) (ss : List Segment) (i : ℕ) (s : Segment) (right a n : ℕ) → slice_get ss i ≡ Some s → AllPairs IsApart ss → has_right s right ≡ true → s.address ≤ a → 0 < n → a + n ≤ s.address + s.size → located_from base (areas_of ss) right a n ≡ Some (base + size_before ss i + (a - s.address))
found_from base [] i s right a n e apart r l z h = absurd (cc)
found_from base (x ∷ ss) zero s right a n e apart r l z h =
    let f : x ≡ s = cc in
    subst (λ (y : Segment). located_from base (areas_of (y ∷ ss)) right a n ≡ Some (base + 0 + (a - s.address))) (sym f)
    (rw (held s right a n r l h) (ap Some (let g : base + (a - s.address) ≡ base + 0 + (a - s.address) = omega arith in g)))
found_from base (x ∷ ss) (suc i) s right a n e apart r l z h =
    let again = found_from (base + x.size) ss i s right a n e (pairs_rest x ss apart) r l z h in
    let g : base + x.size + size_before ss i + (a - s.address) ≡ base + (x.size + size_before ss i) + (a - s.address) = omega arith in
    rw (not_held x s right a n (pairs_first x ss i s apart e) l z h) (again ∙ ap Some g)

-- ---- the bytes stand there

all_rest : (x : Segment) (ss : List Segment) → All IsFilled (x ∷ ss) → All IsFilled ss
all_rest x ss h i d l = h (suc i) d (omega arith)

length_bytes : (s : Segment) → IsFilled s → length (segment_bytes s) ≡ s.size
length_bytes s f = simp (length-append, length-replicate) (omega arith)

front_bytes : (xs ys : List ℕ) (n : ℕ) → length xs ≡ n → slice_range (xs ++ ys) 0 n ≡ xs
front_bytes xs ys n e = subst (λ m. slice_range (xs ++ ys) 0 m ≡ xs) e (whole (take-append-le (length xs) xs ys (omega arith)))
  where
    drop_none : (zs : List ℕ) → drop 0 zs ≡ zs
    drop_none [] = refl
    drop_none (z ∷ zs) = refl

    take_whole : (zs : List ℕ) → take (length zs) zs ≡ zs
    take_whole [] = refl
    take_whole (z ∷ zs) = ap (λ l. z ∷ l) (take_whole zs)

    none : (m : ℕ) → m - 0 ≡ m
    none m = omega arith

    whole : take (length xs) (xs ++ ys) ≡ take (length xs) xs → slice_range (xs ++ ys) 0 (length xs) ≡ xs
    whole f = ap (λ l. take (length xs - 0) l) (drop_none (xs ++ ys)) ∙ ap (λ m. take m (xs ++ ys)) (none (length xs)) ∙ f ∙ take_whole xs

later_bytes : (xs ys : List ℕ) (n a b : ℕ) → length xs ≡ n → slice_range (xs ++ ys) (n + a) (n + a + b) ≡ slice_range ys a (a + b)
later_bytes xs ys n a b e =
    subst (λ m. slice_range (xs ++ ys) (m + a) (m + a + b) ≡ slice_range ys a (a + b)) e
    (let f : length xs + a + b - (length xs + a) ≡ a + b - a = omega arith in
    ap (λ m. take m (drop (length xs + a) (xs ++ ys))) f ∙ ap (take (a + b - a)) (drop-append-add xs ys a))

bytes_from : (ss : List Segment) (i : ℕ) (s : Segment) → slice_get ss i ≡ Some s → All IsFilled ss → slice_range (memory_of ss) (size_before ss i) (size_before ss i + s.size) ≡ segment_bytes s
bytes_from [] i s e f = absurd (cc)
bytes_from (x ∷ ss) zero s e f =
    let g : x ≡ s = cc in
    let z : 0 + s.size ≡ s.size = omega arith in
    ap (λ m. slice_range (segment_bytes x ++ memory_of ss) 0 m) z ∙ subst (λ (y : Segment). slice_range (segment_bytes x ++ memory_of ss) 0 y.size ≡ segment_bytes y) g (front_bytes (segment_bytes x) (memory_of ss) x.size (length_bytes x (f 0 x (omega arith))))
bytes_from (x ∷ ss) (suc i) s e f =
    later_bytes (segment_bytes x) (memory_of ss) x.size (size_before ss i) s.size (length_bytes x (f 0 x (omega arith))) ∙ bytes_from ss i s e (all_rest x ss f)

pub segment_stored : (image : Image) → IsLoadable image → (i : ℕ) (s : Segment) → slice_get image.segments i ≡ Some s → IsStored (loaded image) s (size_before image.segments i)
segment_stored image h i s e = record {
  found = λ right a n r l z k.
      let f : 0 + size_before image.segments i + (a - s.address) ≡ size_before image.segments i + (a - s.address) = omega arith in
      found_from 0 image.segments i s right a n e h.apart r l z k ∙ ap Some f;
  bytes = bytes_from image.segments i s e h.room.filled;
}

-- ---- the three segments of an image that is laid out

module _ (image : Image) (laid : IsLaidOut image) where
  abbrev three : List Segment
  three = text_segment laid.text ∷ read_only_segment laid.text laid.read_only ∷ writable_segment laid.text laid.read_only laid.slots image.entries.arena_words ∷ []

  stored : (i : ℕ) (s : Segment) (place : ℕ) → slice_get three i ≡ Some s → size_before three i ≡ place → IsStored (loaded image) s place
  stored i s place e p =
      subst (IsStored (loaded image) s) (ap (λ ss. size_before ss i) laid.segments ∙ p) (segment_stored image laid.loadable i s (ap (λ ss. slice_get ss i) laid.segments ∙ e))

  abbrev zeros : ℕ → List ℕ
  zeros n = replicate n 0

  no_zeros : (bytes : List ℕ) → bytes ++ zeros (length bytes - length bytes) ≡ bytes
  no_zeros bytes = let e : length bytes - length bytes ≡ 0 = omega arith in ap (λ n. bytes ++ zeros n) e ∙ append-nil bytes

  three_bytes : memory_of three ≡ flat laid.text laid.read_only laid.slots image.entries.arena_words
  three_bytes =
      let n = 8192 + 8 * laid.slots + 8 * image.entries.arena_words in
      let e : n - 0 ≡ n = omega arith in
      let z : zeros (n - 0) ++ [] ≡ zeros n = append-nil (zeros (n - 0)) ∙ ap zeros e in
      let rest : List ℕ = laid.read_only ++ zeros (length laid.read_only - length laid.read_only) in
      ap (λ (bs : List ℕ). bs ++ (rest ++ (zeros (n - 0) ++ []))) (no_zeros laid.text)
      ∙ ap (λ (bs : List ℕ). laid.text ++ (bs ++ (zeros (n - 0) ++ []))) (no_zeros laid.read_only)
      ∙ ap (λ (bs : List ℕ). laid.text ++ (laid.read_only ++ bs)) z

  pub laid_flat : IsFlat image laid
  laid_flat = record {
    bytes = ap memory_of laid.segments ∙ three_bytes;
    text = stored 0 (text_segment laid.text) 0 refl refl;
    read_only = stored 1 (read_only_segment laid.text laid.read_only) (length laid.text) refl (let e : length laid.text + 0 ≡ length laid.text = omega arith in e);
    writable = stored 2 (writable_segment laid.text laid.read_only laid.slots image.entries.arena_words) (length laid.text + length laid.read_only) refl (let e : length laid.text + (length laid.read_only + 0) ≡ length laid.text + length laid.read_only = omega arith in e);
  }
