-- What passes all checks can be loaded, and its table of entries is right.
use Rattle.std.proofs.Common.{◌≡◌, ℕ, ◌+◌, ◌<◌, ◌≤◌, ◌^◌, Bool, true, false, List, [], ◌∷◌, ◌++◌, length, get_or, take, drop, None, Result, Ok, Err, refl, sym, subst, arith, inl, inr}
use Rattle.std.specs.Prelude.{◌&&◌, ◌==◌, nat_lt, map, IfOk, if◌then◌else◌}
use Rattle.std.proofs.lemmas.Bool.{and_parts, or_parts, not-false, ltb-false, cases_lt}
use Rattle.std.proofs.lemmas.List.{get_or-drop, get_or-take, get_or_past, length-take}
use Rattle.elf_static.specs.declared.error.ElfError.{ElfError}
use Rattle.elf_static.specs.declared.headers.FileHeader.{FileHeader}
use Rattle.elf_static.specs.declared.headers.SectionHeader.{SectionHeader}
use Rattle.elf_static.specs.declared.image.Image.{Image}
use Rattle.elf_static.specs.declared.image.Segment.{Segment}
use Rattle.elf_static.specs.Checks.{first_failed, Passes}
use Rattle.elf_static.specs.Headers.{program_header}
use Rattle.elf_static.specs.Load.{IsLoadable}
use Rattle.elf_static.specs.Numbers.{number}
use Rattle.elf_static.specs.Programs.{program_headers, program_checks, segments_of, entry_check}
use Rattle.elf_static.specs.Sections.{has_bytes, section_bytes, section_headers, section_checks, right_checks, single_checks, table_checks, tables_of, entries_of}
use Rattle.elf_static.specs.Table.{address_of, are_numbered, are_distinct, entries_in, entry_row, no_entries, has_arena, has_form, has_kinds, is_right, IsRightTable}
use Rattle.elf_static.specs.Reading.{size_check, header_checks, later_checks, checks_under, image_under}
use Rattle.elf_static.proofs.Loading.{all_load, none_load, few, entry_fits}
use Rattle.elf_static.proofs.Passing.{front_passes, back_passes, none_fails}
use Rattle.elf_static.proofs.Rights.{labels-from_test, addresses-from_test, arena-from_test}
use Rattle.elf_static.proofs.Tables.{length-table}

-- ---- bytes

pub record IsBytes (bytes : List ℕ) : Type 0 where
  pub below : (i : ℕ) → get_or bytes i 0 < 256

drop_bytes : (n : ℕ) (bytes : List ℕ) → IsBytes bytes → IsBytes (drop n bytes)
drop_bytes n bytes h = record { below = λ i. rw get_or-drop (h.below (n + i)) }

take_bytes : (n : ℕ) (bytes : List ℕ) → IsBytes bytes → IsBytes (take n bytes)
take_bytes n bytes h = record {
  below = λ i.
      elim (cases_lt i n) [
        | inl lt ↦ rw (get_or-take n bytes i 0 lt) (h.below i)
        | inr le ↦ rw (get_or_past (take n bytes) i 0 (omega (arith, length-take n bytes))) (omega arith)
      ];
}

section_is_bytes : (file : List ℕ) (s : SectionHeader) → IsBytes file → IsBytes (section_bytes file s)
section_is_bytes file s h = go (has_bytes s)
  where
    go : (b : Bool) → IsBytes (if b then take s.size (drop s.offset file) else [])
    go true = take_bytes s.size (drop s.offset file) (drop_bytes s.offset file h)
    go false = record { below = λ i. omega arith }

word_fits : (at : ℕ) (bytes : List ℕ) → IsBytes bytes → number 4 at bytes < 2 ^ 32
unfolding number
word_fits at bytes h = let fits = (drop_bytes at bytes h).below in omega (arith, fits 0, fits 1, fits 2, fits 3)

-- ---- the table

rows_count : (bytes : List ℕ) → length (entries_in bytes).rows ≡ number 4 8 bytes
unfolding entries_in
rows_count bytes = length-table entry_row 24 (number 4 8 bytes) (drop 40 bytes)

right_entries : (segments : List Segment) (bytes : List ℕ) → IsBytes bytes → is_right segments bytes ≡ true → IsRightTable segments (entries_in bytes)
right_entries segments bytes fits h =
    let rows = (entries_in bytes).rows in
    let a = and_parts (has_form bytes && has_kinds bytes && are_numbered 0 rows && are_distinct (map address_of rows)) (has_arena segments (entries_in bytes)) h in
    let b = and_parts (has_form bytes && has_kinds bytes && are_numbered 0 rows) (are_distinct (map address_of rows)) a.0 in
    let c = and_parts (has_form bytes && has_kinds bytes) (are_numbered 0 rows) b.0 in
    record {
      count = rw (rows_count bytes) (word_fits 8 bytes fits);
      labels = labels-from_test rows c.1;
      addresses = addresses-from_test rows b.1;
      arena = arena-from_test segments (entries_in bytes) a.1;
    }

no_entries_right : (segments : List Segment) → IsRightTable segments no_entries
no_entries_right segments = record { count = omega arith; labels = λ i lt d. absurd (omega arith); addresses = λ i j d lt le. absurd (omega arith); arena = inl refl }

table_right : (file : List ℕ) (segments : List Segment) (tables : List SectionHeader) → IsBytes file → first_failed (table_checks file segments tables) ≡ None → IsRightTable segments (entries_of file tables)
table_right file segments [] fits h = no_entries_right segments
table_right file segments (s ∷ ss) fits h =
    let none = none_fails (right_checks file segments (s ∷ ss)) (front_passes (right_checks file segments (s ∷ ss)) (single_checks (s ∷ ss)) h) in
    right_entries segments (section_bytes file s) (section_is_bytes file s fits) (not-false _ none.0)

-- ---- the image

module _ (file : List ℕ) (h : FileHeader) (pass : first_failed (checks_under file h) ≡ None) where
  later : first_failed (later_checks file h) ≡ None
  unfolding checks_under
  later = back_passes (size_check file ∷ header_checks file h) (later_checks file h) pass

  programs_pass : first_failed (program_checks file h.programs_at [] (program_headers file h)) ≡ None
  unfolding later_checks
  programs_pass = front_passes (program_checks file h.programs_at [] (program_headers file h)) _ later

  behind_programs : first_failed (entry_check h.entry (segments_of file h) ∷ (section_checks file h (section_headers file h) ++ table_checks file (segments_of file h) (tables_of file h))) ≡ None
  unfolding later_checks
  behind_programs = back_passes (program_checks file h.programs_at [] (program_headers file h)) _ later

  few_headers : h.programs ≤ 64
  unfolding checks_under
  few_headers =
      let none = none_fails (size_check file ∷ header_checks file h) (front_passes (size_check file ∷ header_checks file h) (later_checks file h) pass) in
      ltb-false _ _ (or_parts (h.programs == 0) (nat_lt 64 h.programs) none.1.1.1.1.1.1.1.1.1.1.1.1.1.1.0).1

  pub image_loads : IsLoadable (image_under file h)
  unfolding image_under
  image_loads =
      let loads = all_load file h.programs_at [] (program_headers file h) programs_pass none_load in
      let entry = entry_fits h.entry (segments_of file h) (front_passes (entry_check h.entry (segments_of file h) ∷ []) (section_checks file h (section_headers file h) ++ table_checks file (segments_of file h) (tables_of file h)) behind_programs) in
      let count : length (segments_of file h) ≤ 64 = omega (arith, few file (program_headers file h), length-table program_header 56 h.programs (drop h.programs_at file), few_headers) in
      record {
        count = count;
        room = record { filled = loads.filled; sizes = loads.sizes };
        range = loads.range;
        apart = loads.apart;
        aligned = entry.0;
        entry = entry.1;
      }

  pub image_table : IsBytes file → IsRightTable (image_under file h).segments (image_under file h).entries
  unfolding image_under
  image_table fits = table_right file (segments_of file h) (tables_of file h) fits (back_passes (entry_check h.entry (segments_of file h) ∷ section_checks file h (section_headers file h)) (table_checks file (segments_of file h) (tables_of file h)) behind_programs)

-- what was answered
pub answered_loads : (file : List ℕ) (h : FileHeader) (r : Result Image ElfError) → Passes r (checks_under file h) → IfOk r (λ image. image ≡ image_under file h) → IfOk r IsLoadable
answered_loads file h (Ok image) p e = subst IsLoadable (sym e) (image_loads file h p)
answered_loads file h (Err x) p e = tt

pub answered_table : (file : List ℕ) (h : FileHeader) (r : Result Image ElfError) → IsBytes file → Passes r (checks_under file h) → IfOk r (λ image. image ≡ image_under file h) → IfOk r (λ image. IsRightTable image.segments image.entries)
answered_table file h (Ok image) fits p e = subst (λ i. IsRightTable i.segments i.entries) (sym e) (image_table file h p fits)
answered_table file h (Err x) fits p e = tt
