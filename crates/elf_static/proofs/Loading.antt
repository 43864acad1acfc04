-- What passes the checks of the program headers can be loaded.
use Rattle.std.proofs.Common.{◌≡◌, ℕ, zero, suc, ◌+◌, ◌%◌, ◌<◌, ◌≤◌, ◌^◌, Bool, true, false, ltb, leb, List, [], ◌∷◌, ◌++◌, length, get_or, drop, All, None, refl, sym, ap, subst, ◌∙◌, append_assoc, arith, inl, inr, length-take}
use Rattle.std.specs.Prelude.{◌&&◌, ◌||◌, ◌==◌, ◌⊎◌, sum_by, AllPairs, Any, if◌then◌else◌}
use Rattle.std.specs.List.{list_any, flat_map}
use Rattle.std.proofs.lemmas.Bool.{both_ways, and_from, lt-ltb, and_parts, or_parts, not-false, ltb-true, ltb-false, leb-true, eqb-true, cases_lt}
use Rattle.std.proofs.lemmas.List.{append-nil}
use Rattle.std.proofs.lemmas.List.Concat.{flat_map-cons}
use Rattle.std.proofs.lemmas.List.Elements.{All-push}
use Rattle.std.proofs.lemmas.List.Folds.{Any-from_list_any}
use Rattle.std.proofs.lemmas.List.Quantifiers.{all_pairs_push}
use Rattle.std.proofs.lemmas.List.Sums.{sum_by_push}
use Rattle.elf_static.specs.declared.headers.ProgramHeader.{ProgramHeader}
use Rattle.elf_static.specs.declared.image.Segment.{Segment}
use Rattle.elf_static.specs.declared.error.ElfKind.TheVariants as kinds
use Rattle.elf_static.specs.Checks.{check, first_failed}
use Rattle.elf_static.specs.Numbers.{piece}
use Rattle.elf_static.specs.Load.{IsFilled, size_of, EndsInRange, IsApart, IsEntry}
use Rattle.elf_static.specs.Programs.{segment_of, loaded, overlaps, load_checks, program_check, program_checks, is_executable_at, entry_check}
use Rattle.elf_static.proofs.Passing.{front_passes, back_passes, none_fails}

-- what holds of the segments so far
pub record Loads (ss : List Segment) : Type 0 where
  pub filled : All IsFilled ss
  pub sizes : sum_by size_of ss ≤ 2 ^ 31
  pub range : All EndsInRange ss
  pub apart : AllPairs IsApart ss

-- the checks of one header of type 1, as facts
pub record Fits (file : List ℕ) (earlier : List Segment) (p : ProgramHeader) : Type 0 where
  pub filled : p.file_size ≤ p.memory_size
  pub range : p.address + p.memory_size ≤ 2 ^ 63
  pub bytes : p.offset + p.file_size ≤ length file
  pub apart : list_any (overlaps p) earlier ≡ false
  pub sizes : sum_by size_of earlier + p.memory_size ≤ 2 ^ 31

pub Fits-from_checks : (file : List ℕ) (at : ℕ) (earlier : List Segment) (p : ProgramHeader) → first_failed (load_checks file at earlier p) ≡ None → Fits file earlier p
Fits-from_checks file at earlier p h =
    let none = none_fails (load_checks file at earlier p) h in
    record { filled = ltb-false _ _ none.0; range = ltb-false _ _ none.1.0; bytes = ltb-false _ _ none.1.1.0; apart = none.1.1.1.0; sizes = ltb-false _ _ none.1.1.1.1.0 }

not_overlapping : (a m b n : ℕ) → (ltb 0 m && ltb 0 n && ltb a (b + n) && ltb b (a + m)) ≡ false → (n ≡ 0) ⊎ ((m ≡ 0) ⊎ ((b + n ≤ a) ⊎ (a + m ≤ b)))
not_overlapping a m b n h =
    elim (cases_lt 0 n) [
      | inr none ↦ inl (omega arith)
      | inl n_some ↦ elim (cases_lt 0 m) [
        | inr none ↦ inr (inl (omega arith))
        | inl m_some ↦ elim (cases_lt a (b + n)) [
          | inr le ↦ inr (inr (inl le))
          | inl first ↦ elim (cases_lt b (a + m)) [
            | inr le ↦ inr (inr (inr le))
            | inl second ↦ absurd (both_ways _ h (and_from _ _ (and_from _ _ (and_from _ _ (lt-ltb 0 m m_some) (lt-ltb 0 n n_some)) (lt-ltb a (b + n) first)) (lt-ltb b (a + m) second)))
          ]
        ]
      ]
    ]

-- no segment of the list overlaps
each_apart : (p : ProgramHeader) (bytes : List ℕ) (ss : List Segment) → list_any (overlaps p) ss ≡ false → (k : ℕ) (d : Segment) → k < length ss → IsApart (get_or ss k d) (record { address = p.address; flags = p.flags; bytes = bytes; size = p.memory_size })
each_apart p bytes [] h k d lt = absurd (omega arith)
each_apart p bytes (s ∷ ss) h zero d lt =
    not_overlapping p.address p.memory_size s.address s.size (or_parts (overlaps p s) (list_any (overlaps p) ss) h).0
each_apart p bytes (s ∷ ss) h (suc k) d lt = each_apart p bytes ss (or_parts (overlaps p s) (list_any (overlaps p) ss) h).1 k d (omega arith)

one_loads : (file : List ℕ) (ss : List Segment) (p : ProgramHeader) → Fits file ss p → Loads ss → Loads (ss ++ segment_of file p ∷ [])
one_loads file ss p fits so_far =
    let kept : length (piece p.offset p.file_size file) ≤ p.memory_size = omega (arith, length-take p.file_size (drop p.offset file), fits.filled) in
    record {
      filled = All-push IsFilled ss (segment_of file p) so_far.filled kept;
      sizes = rw sum_by_push fits.sizes;
      range = All-push EndsInRange ss (segment_of file p) so_far.range fits.range;
      apart = all_pairs_push IsApart ss (segment_of file p) so_far.apart (each_apart p (piece p.offset p.file_size file) ss fits.apart);
    }

none_fails_tail : (file : List ℕ) (at : ℕ) (ss : List Segment) (p : ProgramHeader) → first_failed (program_check file at ss p) ≡ None → first_failed (if p.kind == 1 then load_checks file at ss p else []) ≡ None
none_fails_tail file at ss p h = back_passes (check ((p.kind == 2) || (p.kind == 3)) kinds.Dynamic at ∷ []) (if p.kind == 1 then load_checks file at ss p else []) h

-- one header
next_loads : (file : List ℕ) (at : ℕ) (ss : List Segment) (p : ProgramHeader) → first_failed (program_check file at ss p) ≡ None → Loads ss → Loads (ss ++ loaded file p)
next_loads file at ss p h so_far = go (p.kind == 1) refl (none_fails_tail file at ss p h)
  where
    go : (b : Bool) → b ≡ (p.kind == 1) → first_failed (if b then load_checks file at ss p else []) ≡ None → Loads (ss ++ (if b then segment_of file p ∷ [] else []))
    go true e h = one_loads file ss p (Fits-from_checks file at ss p h) so_far
    go false e h = subst Loads (sym (append-nil ss)) so_far

pub all_load : (file : List ℕ) (at : ℕ) (ss : List Segment) (ps : List ProgramHeader) → first_failed (program_checks file at ss ps) ≡ None → Loads ss → Loads (ss ++ flat_map (loaded file) ps)
all_load file at ss [] h so_far = subst Loads (sym (append-nil ss)) so_far
all_load file at ss (p ∷ ps) h so_far =
    let one = program_check file at ss p in
    let others = program_checks file (at + 56) (ss ++ loaded file p) ps in
    let here = next_loads file at ss p (front_passes one others h) so_far in
    let rest = all_load file (at + 56) (ss ++ loaded file p) ps (back_passes one others h) here in
    subst Loads (append_assoc ss (loaded file p) (flat_map (loaded file) ps) ∙ ap (λ xs. ss ++ xs) (sym (flat_map-cons (loaded file) p ps))) rest

pub none_load : Loads []
none_load = record { filled = λ k d lt. absurd (omega arith); sizes = omega arith; range = λ k d lt. absurd (omega arith); apart = λ i j d lt le. absurd (omega arith) }

-- no more segments than headers
pub few : (file : List ℕ) (ps : List ProgramHeader) → length (flat_map (loaded file) ps) ≤ length ps
few file [] = omega arith
few file (p ∷ ps) = rw flat_map-cons (go (p.kind == 1) (few file ps))
  where
    go : (b : Bool) → length (flat_map (loaded file) ps) ≤ length ps → length ((if b then segment_of file p ∷ [] else []) ++ flat_map (loaded file) ps) ≤ suc (length ps)
    go true h = omega arith
    go false h = omega arith

entry_in : (entry : ℕ) (ss : List Segment) → list_any (is_executable_at entry) ss ≡ true → Any (IsEntry entry) ss
entry_in entry ss h =
    let found = Any-from_list_any (is_executable_at entry) ss h in
    let s = found.1 in
    let all = and_parts ((s.flags % 2 == 1) && leb s.address entry) (ltb entry (s.address + s.size)) found.4 in
    let front = and_parts (s.flags % 2 == 1) (leb s.address entry) all.0 in
    (found.0, s, found.2, found.3, (eqb-true _ _ front.0, leb-true _ _ front.1, ltb-true _ _ all.1))

-- the entry
pub entry_fits : (entry : ℕ) (ss : List Segment) → first_failed (entry_check entry ss ∷ []) ≡ None → (entry % 4 ≡ 0) × Any (IsEntry entry) ss
entry_fits entry ss h =
    let none = (none_fails (entry_check entry ss ∷ []) h).0 in
    let all = and_parts (entry % 4 == 0) (list_any (is_executable_at entry) ss) (not-false _ none) in
    (eqb-true _ _ all.0, entry_in entry ss all.1)
