-- Segments that were written pass their checks, and are read as the same segments.
use Rattle.std.proofs.Common.{◌≡◌, ℕ, suc, ◌+◌, ◌-◌, ◌≤◌, ◌^◌, false, ltb, List, [], ◌∷◌, ◌++◌, length, All, None, refl, sym, ap, subst, ◌∙◌, append_assoc, arith, inl, inr, length-append}
use Rattle.std.specs.Prelude.{◌&&◌, ◌⊎◌, replicate, sum_by, AllPairs}
use Rattle.std.specs.List.{flat_map}
use Rattle.std.proofs.lemmas.Bool.{and_left, and_right, le-ltb}
use Rattle.std.proofs.lemmas.List.Concat.{flat_map-cons}
use Rattle.std.proofs.lemmas.List.Elements.{All-head, All-tail, All-nil, All-cons, All-weaker}
use Rattle.std.proofs.lemmas.List.Folds.{list_any_none}
use Rattle.std.proofs.lemmas.List.Sums.{sum_by-append, sum_by-cons}
use Rattle.elf_static.specs.declared.image.Segment.{Segment}
use Rattle.elf_static.specs.Checks.{first_failed}
use Rattle.elf_static.specs.Layout.{round_up}
use Rattle.elf_static.specs.Load.{IsFilled, size_of, EndsInRange, IsApart}
use Rattle.elf_static.specs.Numbers.{piece}
use Rattle.elf_static.specs.Programs.{loaded, overlaps, program_check, program_checks}
use Rattle.elf_static.specs.Writing.{padded, segment_bytes}
use Rattle.elf_static.proofs.FieldsRead.{piece_at}
use Rattle.elf_static.proofs.HeadersRead.{program_header_of, program_headers_of}
use Rattle.elf_static.proofs.Loading.{Loads}
use Rattle.elf_static.proofs.Passing.{first_behind, none_failed}

-- the segment's bytes are those of the file from an offset on
pub record Stands (file : List ℕ) (offset : ℕ) (s : Segment) : Type 0 where
  pub inside : offset + length s.bytes ≤ length file
  pub bytes : piece offset (length s.bytes) file ≡ s.bytes

abbrev pub StandAt : List ℕ → ℕ → List Segment → Type 0
StandAt file offset [] = Unit {0}
StandAt file offset (s ∷ ss) = Stands file offset s × StandAt file (offset + length (padded 4096 s.bytes)) ss

stands_here : (front rest : List ℕ) (s : Segment) → Stands (front ++ (s.bytes ++ rest)) (length front) s
stands_here front rest s =
    let all = length-append front (s.bytes ++ rest) in
    let behind = length-append s.bytes rest in
    record { inside = omega arith; bytes = piece_at front s.bytes rest }

pub stand : (front : List ℕ) (ss : List Segment) (rest : List ℕ) → StandAt (front ++ (segment_bytes ss ++ rest)) (length front) ss
stand front [] rest = tt
stand front (s ∷ ss) rest =
    let one = padded 4096 s.bytes in
    let zeros = replicate (round_up 4096 (length s.bytes) - length s.bytes) 0 in
    let others = segment_bytes ss ++ rest in
    let opened : segment_bytes (s ∷ ss) ++ rest ≡ one ++ others = ap (λ (xs : List ℕ). xs ++ rest) (flat_map-cons (λ (x : Segment). padded 4096 x.bytes) s ss) ∙ append_assoc one (segment_bytes ss) rest in
    let split : one ++ others ≡ s.bytes ++ (zeros ++ others) = append_assoc s.bytes zeros others in
    let here : Stands (front ++ (one ++ others)) (length front) s = subst (λ (xs : List ℕ). Stands (front ++ xs) (length front) s) (sym split) (stands_here front (zeros ++ others) s) in
    let next : StandAt ((front ++ one) ++ others) (length (front ++ one)) ss = stand (front ++ one) ss rest in
    let moved : StandAt (front ++ (one ++ others)) (length (front ++ one)) ss = subst (λ (xs : List ℕ). StandAt xs (length (front ++ one)) ss) (append_assoc front one others) next in
    let placed : StandAt (front ++ (one ++ others)) (length front + length one) ss = subst (λ n. StandAt (front ++ (one ++ others)) n ss) (length-append front one) moved in
    subst (λ (xs : List ℕ). StandAt (front ++ xs) (length front) (s ∷ ss)) (sym opened) (here, placed)

-- ---- the segments

loaded_again : (file : List ℕ) (offset : ℕ) (s : Segment) → Stands file offset s → loaded file (program_header_of offset s) ≡ s ∷ []
loaded_again file offset s h =
    let made = λ (bytes : List ℕ). let one : Segment = record { address = s.address; flags = s.flags; bytes = bytes; size = s.size } in one ∷ [] in
    ap made h.bytes

pub segments_again : (file : List ℕ) (offset : ℕ) (ss : List Segment) → StandAt file offset ss → flat_map (loaded file) (program_headers_of offset ss) ≡ ss
segments_again file offset [] h = refl
segments_again file offset (s ∷ ss) h =
    let next = offset + length (padded 4096 s.bytes) in
    flat_map-cons (loaded file) (program_header_of offset s) (program_headers_of next ss)
    ∙ ap (λ (xs : List Segment). xs ++ flat_map (loaded file) (program_headers_of next ss)) (loaded_again file offset s h.0)
    ∙ ap (λ (xs : List Segment). s ∷ xs) (segments_again file next ss h.1)

-- ---- what holds of all holds of one, and of each before it

middle : (P : Segment → Type 0) (xs : List Segment) (s : Segment) (ys : List Segment) → All P (xs ++ s ∷ ys) → P s
middle P [] s ys h = All-head P s ys h
middle P (x ∷ xs) s ys h = middle P xs s ys (All-tail P x (xs ++ s ∷ ys) h)

before : (R : Segment → Segment → Type 0) (xs : List Segment) (s : Segment) (ys : List Segment) → AllPairs R (xs ++ s ∷ ys) → All (λ x. R x s) xs
before R [] s ys h = All-nil (λ x. R x s)
before R (x ∷ xs) s ys h =
    let first : All (R x) (xs ++ s ∷ ys) = λ k d lt. h 0 (suc k) d (omega arith) (omega arith) in
    let others : AllPairs R (xs ++ s ∷ ys) = λ i j d lt le. h (suc i) (suc j) d (omega arith) (omega arith) in
    All-cons (λ y. R y s) x xs (middle (R x) xs s ys first) (before R xs s ys others)

no_overlap : (a m b n : ℕ) → (n ≡ 0) ⊎ ((m ≡ 0) ⊎ ((b + n ≤ a) ⊎ (a + m ≤ b))) → (ltb 0 m && ltb 0 n && ltb a (b + n) && ltb b (a + m)) ≡ false
no_overlap a m b n (inl none) = and_left _ _ (and_left _ _ (and_right _ _ (le-ltb 0 n (omega arith))))
no_overlap a m b n (inr (inl none)) = and_left _ _ (and_left _ _ (and_left _ _ (le-ltb 0 m (omega arith))))
no_overlap a m b n (inr (inr (inl le))) = and_left _ _ (and_right _ _ (le-ltb a (b + n) le))
no_overlap a m b n (inr (inr (inr le))) = and_right _ _ (le-ltb b (a + m) le)

-- ---- the checks

one_passes : (file : List ℕ) (at offset : ℕ) (earlier : List Segment) (s : Segment) (ss : List Segment) → Stands file offset s → Loads (earlier ++ s ∷ ss) → first_failed (program_check file at earlier (program_header_of offset s)) ≡ None
one_passes file at offset earlier s ss here loads =
    let filled = middle IsFilled earlier s ss loads.filled in
    let range = middle EndsInRange earlier s ss loads.range in
    let apart = list_any_none (overlaps (program_header_of offset s)) earlier (All-weaker (λ x. IsApart x s) (λ x. overlaps (program_header_of offset s) x ≡ false) (λ x h. no_overlap s.address s.size x.address x.size h) earlier (before IsApart earlier s ss loads.apart)) in
    let sum : sum_by size_of (earlier ++ s ∷ ss) ≡ sum_by size_of earlier + sum_by size_of (s ∷ ss) = sum_by-append size_of earlier (s ∷ ss) in
    let sizes : sum_by size_of earlier + s.size ≤ 2 ^ 31 = omega (arith, loads.sizes, sum_by-cons size_of s ss) in
    none_failed (program_check file at earlier (program_header_of offset s)) (refl, (le-ltb _ _ filled, (le-ltb _ _ range, (le-ltb _ _ here.inside, (apart, (le-ltb _ _ sizes, tt))))))

pub programs_pass : (file : List ℕ) (at offset : ℕ) (earlier ss : List Segment) → StandAt file offset ss → Loads (earlier ++ ss) → first_failed (program_checks file at earlier (program_headers_of offset ss)) ≡ None
programs_pass file at offset earlier [] h loads = refl
programs_pass file at offset earlier (s ∷ ss) h loads =
    let next = offset + length (padded 4096 s.bytes) in
    let p = program_header_of offset s in
    let moved : Loads ((earlier ++ s ∷ []) ++ ss) = subst Loads (sym (append_assoc earlier (s ∷ []) ss)) loads in
    let others : first_failed (program_checks file (at + 56) (earlier ++ s ∷ []) (program_headers_of next ss)) ≡ None = programs_pass file (at + 56) next (earlier ++ s ∷ []) ss h.1 moved in
    first_behind (program_check file at earlier p) (program_checks file (at + 56) (earlier ++ loaded file p) (program_headers_of next ss)) (one_passes file at offset earlier s ss h.0 loads)
    ∙ ap (λ (xs : List Segment). first_failed (program_checks file (at + 56) (earlier ++ xs) (program_headers_of next ss))) (loaded_again file offset s h.0)
    ∙ others
