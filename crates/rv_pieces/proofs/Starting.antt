-- What is known of an image that is loaded.
use Rattle.std.proofs.Common.{◌≡◌, ℕ, zero, suc, ◌+◌, ◌-◌, ◌*◌, ◌^◌, ◌<◌, ◌≤◌, List, [], ◌∷◌, ◌++◌, length, take, drop, replicate, get_or, Option, Some, Bool, true, false, ◌==◌, ◌&&◌, if◌then◌else◌, arith, refl, sym, ap, ◌∙◌, subst, inl, inr, length-append}
use Rattle.std.specs.Prelude.{slice_get, slice_range, slice_index, nat_le, nat_lt, sum_by}
use Rattle.std.specs.Int.{w32, from_le_bytes, to_le_bytes}
use Rattle.std.proofs.lemmas.Bool.Decides.{nat_tests}
use Rattle.std.proofs.lemmas.Nat.{from_le_bytes-to_le_bytes_4}
use Rattle.std.proofs.lemmas.List.{length-replicate, get_or_append_left, get_or-append_right}
use Rattle.std.proofs.Math.Seq.{drop-append-add}
use Rattle.rv_isa.specs.declared.word.Ins.{Ins}
use Rattle.rv_isa.specs.Word.{Fits, word_of}
use Rattle.rv_isa.proofs.Exact.{laid-bounded}
use Rattle.rv_asm.specs.Layout.{bytes_of}
use Rattle.elf_static.specs.declared.image.Image.{Image}
use Rattle.elf_static.specs.declared.image.Segment.{Segment}
use Rattle.elf_static.specs.Load.{size_of}
use Rattle.elf_static.specs.Layout.{round_up, IsLaidOut}
use Rattle.rv_machine.specs.State.{reg}
use Rattle.rv_machine.specs.Run.{Cut}
use Rattle.rv_machine.specs.Load.{loaded}
use Rattle.rv_machine.specs.Memory as memory
use Rattle.rv_machine.proofs.Flat.{laid_flat}
use Rattle.rv_acts.specs.Emitted.{Emitted, base, area, areas_of, IsLaid, CanRead, spot_at}
use Rattle.rv_acts.proofs.Bytes.{spot_high, spot_low}
use Rattle.rv_pieces.specs.Start.{HoldsCode, emitted_of, begun, spot_loaded, Starts}

length_text : (is : List Ins) → length (bytes_of is) ≡ 4 * length is
length_text [] = refl
length_text (i ∷ is) = let e = length_text is in omega arith

text_word : (is : List Ins) (rest : List ℕ) (n : ℕ) (i : Ins) → slice_get is n ≡ Some i → slice_range (bytes_of is ++ rest) (4 * n) (4 * n + 4) ≡ to_le_bytes w32 (word_of i)
text_word [] rest n i e = absurd (cc)
text_word (j ∷ is) rest zero i e = let f : j ≡ i = cc in ap (λ j. to_le_bytes w32 (word_of j)) f
text_word (j ∷ is) rest (suc n) i e =
    let a : 4 * suc n ≡ 4 + 4 * n = omega arith in
    let b : 4 * suc n + 4 - 4 * suc n ≡ 4 = omega arith in
    let c : 4 * n + 4 - 4 * n ≡ 4 = omega arith in
    let w = to_le_bytes w32 (word_of j) in
    let d : drop (4 + 4 * n) (w ++ (bytes_of is ++ rest)) ≡ drop (4 * n) (bytes_of is ++ rest) = drop-append-add w (bytes_of is ++ rest) (4 * n) in
    let again : take (4 * n + 4 - 4 * n) (drop (4 * n) (bytes_of is ++ rest)) ≡ to_le_bytes w32 (word_of i) = text_word is rest n i e in
    ap (λ x. take x (drop (4 * suc n) (w ++ (bytes_of is ++ rest)))) (b ∙ sym c) ∙ ap (λ x. take (4 * n + 4 - 4 * n) (drop x (w ++ (bytes_of is ++ rest)))) a ∙ ap (take (4 * n + 4 - 4 * n)) d ∙ again

word_small : (i : Ins) → Fits i → word_of i < 2 ^ 32
word_small i f = let b = laid-bounded i f in omega arith

zero_at : (n j : ℕ) → get_or {A = ℕ} (replicate n 0) j 0 ≡ 0
zero_at zero j = refl
zero_at (suc n) zero = refl
zero_at (suc n) (suc j) = zero_at n j

same_areas : (a a' b c d d' e e' : ℕ) → a ≡ a' → d ≡ d' → e ≡ e' → area base a 5 ∷ area b c 4 ∷ area d e 6 ∷ [] ≡ area base a' 5 ∷ area b c 4 ∷ area d' e' 6 ∷ []
same_areas a a' b c d d' e e' p q r = cc

module _ (image : Image) (laid : IsLaidOut image) (code : List Ins) (h : HoldsCode image laid code) (input : Option (List ℕ)) (cuts : List Cut) where
  abbrev I : Emitted
  I = emitted_of image laid code

  text_long : length laid.text ≡ 4 * length code
  text_long = ap length h.text ∙ length_text code

  sizes : length laid.text + (length laid.read_only + (8192 + 8 * laid.slots + 8 * image.entries.arena_words)) ≤ 2 ^ 31
  sizes = let s = subst (λ (ss : List Segment). sum_by size_of ss ≤ 2 ^ 31) laid.segments laid.loadable.room.sizes in omega arith

  is_laid : IsLaid (emitted_of image laid code)
  is_laid =
      let t = text_long in
      let a = h.arena in
      let s = sizes in
      record { text = omega arith; above = omega arith; aligned = omega arith; high = omega arith; fits = h.fits }

  -- the text, the data, and zeros
  abbrev zeros : List ℕ
  zeros = replicate (8192 + 8 * laid.slots + 8 * image.entries.arena_words) 0

  bytes : (loaded image).bytes ≡ laid.text ++ (laid.read_only ++ replicate (8192 + 8 * laid.slots + 8 * image.entries.arena_words) 0)
  bytes = (laid_flat image laid).bytes

  areas : (loaded image).areas ≡ areas_of (emitted_of image laid code)
  areas =
      let t = text_long in
      let a = h.arena in
      let s = h.slots in
      ap memory.areas_of laid.segments ∙ same_areas (length laid.text) (4 * length code) (round_up 4096 (base + length laid.text)) (length laid.read_only) (round_up 4096 (round_up 4096 (base + length laid.text) + length laid.read_only)) (image.entries.arena - 8192) (8192 + 8 * laid.slots + 8 * image.entries.arena_words) (8192 + 8 * image.entries.arena_words) t (omega arith) (omega arith)

  many_zeros : length {A = ℕ} (replicate (8192 + 8 * laid.slots + 8 * image.entries.arena_words) 0) ≡ 8192 + 8 * laid.slots + 8 * image.entries.arena_words
  many_zeros = length-replicate (8192 + 8 * laid.slots + 8 * image.entries.arena_words) 0

  size : length (loaded image).bytes ≡ 4 * length code + length laid.read_only + 8192 + 8 * image.entries.arena_words
  size =
      let t = text_long in
      let s = h.slots in
      let z = many_zeros in
      let l1 = length-append laid.read_only (replicate (8192 + 8 * laid.slots + 8 * image.entries.arena_words) 0) in
      let l2 = length-append laid.text (laid.read_only ++ replicate (8192 + 8 * laid.slots + 8 * image.entries.arena_words) 0) in
      ap length bytes ∙ omega arith

  text : (n : ℕ) (i : Ins) → slice_get code n ≡ Some i → from_le_bytes w32 (slice_range (loaded image).bytes (4 * n) (4 * n + 4)) ≡ word_of i
  text n i e =
      ap (λ bs. from_le_bytes w32 (slice_range bs (4 * n) (4 * n + 4))) (bytes ∙ ap (λ t. t ++ (laid.read_only ++ replicate (8192 + 8 * laid.slots + 8 * image.entries.arena_words) 0)) h.text)
      ∙ ap (from_le_bytes w32) (text_word code (laid.read_only ++ replicate (8192 + 8 * laid.slots + 8 * image.entries.arena_words) 0) n i e)
      ∙ from_le_bytes-to_le_bytes_4 (word_of i) (word_small i (h.fits n i e))

  -- a byte behind the text
  behind : (j : ℕ) → get_or (loaded image).bytes (4 * length code + j) 0 ≡ get_or (laid.read_only ++ replicate (8192 + 8 * laid.slots + 8 * image.entries.arena_words) 0) j 0
  behind j =
      let t = text_long in
      ap (λ bs. get_or bs (4 * length code + j) 0) bytes ∙ get_or-append_right laid.text (laid.read_only ++ replicate (8192 + 8 * laid.slots + 8 * image.entries.arena_words) 0) (4 * length code) (4 * length code + j) 0 t (omega arith) ∙ ap (λ k. get_or (laid.read_only ++ replicate (8192 + 8 * laid.slots + 8 * image.entries.arena_words) 0) k 0) (let e : 4 * length code + j - 4 * length code ≡ j = omega arith in e)

  both_off : (t : Bool) (v : ℕ) → (if t && false then v else 0) ≡ 0
  both_off true v = refl
  both_off false v = refl

  byte : (x : ℕ) → CanRead (emitted_of image laid code) x 1 → get_or (loaded image).bytes (spot_at (emitted_of image laid code) x) 0 ≡ (begun (emitted_of image laid code) input cuts).byte x
  byte x (inl r) =
      let lo = r.0 in
      let hi = r.1 in
      let a = h.arena in
      let at = spot_low (length code) image.entries.arena (round_up 4096 (base + length laid.text)) (length laid.read_only) x (omega arith) in
      let t1 : nat_le (round_up 4096 (base + length laid.text)) x ≡ true = grind (arith, nat_tests) in
      let t2 : nat_lt x (round_up 4096 (base + length laid.text) + length laid.read_only) ≡ true = grind (arith, nat_tests) in
      ap (λ k. get_or (loaded image).bytes k 0) at ∙ behind (x - round_up 4096 (base + length laid.text)) ∙ get_or_append_left laid.read_only (replicate (8192 + 8 * laid.slots + 8 * image.entries.arena_words) 0) 0 (x - round_up 4096 (base + length laid.text)) (omega arith) ∙ (rw (t1, t2) refl)
  byte x (inr r) =
      let lo = r.0 in
      let hi = r.1 in
      let a = h.arena in
      let at = spot_high (length code) image.entries.arena (round_up 4096 (base + length laid.text)) (length laid.read_only) x lo in
      let t2 : nat_lt x (round_up 4096 (base + length laid.text) + length laid.read_only) ≡ false = grind (arith, nat_tests) in
      let q : 4 * length code + length laid.read_only + (x - (image.entries.arena - 8192)) ≡ 4 * length code + (length laid.read_only + (x - (image.entries.arena - 8192))) = omega arith in
      ap (λ k. get_or (loaded image).bytes k 0) (at ∙ q) ∙ behind (length laid.read_only + (x - (image.entries.arena - 8192)))
      ∙ get_or-append_right laid.read_only (replicate (8192 + 8 * laid.slots + 8 * image.entries.arena_words) 0) (length laid.read_only) (length laid.read_only + (x - (image.entries.arena - 8192))) 0 refl (omega arith)
      ∙ zero_at (8192 + 8 * laid.slots + 8 * image.entries.arena_words) (length laid.read_only + (x - (image.entries.arena - 8192)) - length laid.read_only)
      ∙ sym (ap (λ t. if nat_le (round_up 4096 (base + length laid.text)) x && t then get_or laid.read_only (x - round_up 4096 (base + length laid.text)) 0 else 0) t2 ∙ both_off (nat_le (round_up 4096 (base + length laid.text)) x) _)

  zero_reg : (n : ℕ) → reg (loaded image) n ≡ 0
  zero_reg n = by (n == 0) (slice_index (replicate 32 0) n) (zero_at 32 n)
    where
      by : (t : Bool) (v : ℕ) → v ≡ 0 → (if t then 0 else v) ≡ 0
      by true v e = refl
      by false v e = e

  pub image_starts : Starts (emitted_of image laid code) (begun (emitted_of image laid code) input cuts) (spot_loaded image input cuts)
  image_starts = record {
    laid = is_laid;
    shown = record {
      regs = λ n l k. zero_reg n;
      many = length-replicate {A = ℕ} 32 0;
      pc = laid.entry;
      areas = areas;
      size = size;
      text = text;
      byte = λ x r k. byte x r;
      input = refl;
      out = refl;
      err = refl;
      cuts = refl;
    };
  }
