-- how long the ELF file of prints is
use Rattle.std.proofs.Common.{◌≡◌, ℕ, ◌+◌, ◌≤◌, List, [], ◌∷◌, ◌++◌, length, arith, refl, ap, ◌∙◌, length-append}
use Rattle.elf_static.specs.declared.image.Segment.{Segment}
use Rattle.elf_static.specs.declared.image.Image.{Image}
use Rattle.elf_static.specs.Layout.{round_up}
use Rattle.elf_static.specs.Writing.{written, headers, ident, fields, file_fields, program_table, program_bytes, segment_bytes, table_bytes, section_table, section_bytes, padded, names, sections_at, entries_at, plan_at, names_at}
use Rattle.elf_static.proofs.HeadersRead.{length-program, length-section}
use Rattle.elf_static.proofs.Lengths.{length-padded, length-table_bytes}
use Rattle.elf_static.proofs.Padding.{above4096}
use Rattle.print_code.specs.Code.{bytes_of, whole_code, image_of, IsStraight}
use Rattle.print_code.proofs.Ends.{length-code, pieces-total}

table_of_three : (o : ℕ) (x y z : Segment) → length (program_table o (x ∷ y ∷ z ∷ [])) ≡ 168
table_of_three o x y z =
    let p = o + length (padded 4096 x.bytes) in
    let q = p + length (padded 4096 y.bytes) in
    let first = length-append (program_bytes o x) (program_table p (y ∷ z ∷ [])) in
    let second = length-append (program_bytes p y) (program_table q (z ∷ [])) in
    let third = length-append (program_bytes q z) [] in
    omega (arith, first, second, third, length-program o x, length-program p y, length-program q z)

module _ (lengths text : List ℕ) (s : IsStraight lengths text) where
  image : Image
  image = image_of lengths text

  headers_length : length (headers (image_of lengths text)) ≡ 232
  unfolding headers
  headers_length =
      let i = image_of lengths text in
      let front : length (ident ++ fields (file_fields (sections_at i))) ≡ 64 = refl in
      length-append (ident ++ fields (file_fields (sections_at i))) (program_table 4096 i.segments) ∙ ap (λ (n : ℕ). 64 + n) (table_of_three 4096 _ _ _)

  sections_length : length (section_table (image_of lengths text)) ≡ 256
  sections_length =
      let i = image_of lengths text in
      let a = section_bytes 0 0 0 0 in
      let b = section_bytes 1 1 (entries_at i) (length (table_bytes i.entries)) in
      let c = section_bytes 14 1 (plan_at i) (length i.plan) in
      let d = section_bytes 24 3 (names_at i) (length names) in
      omega (arith, length-append (a ++ b ++ c) d, length-append (a ++ b) c, length-append a b, length-section 0 0 0 0, length-section 1 1 (entries_at i) (length (table_bytes i.entries)), length-section 14 1 (plan_at i) (length i.plan), length-section 24 3 (names_at i) (length names))

  pub written-short : length (written (image_of lengths text)) ≤ 8589934592
  unfolding written
  written-short =
      let i = image_of lengths text in
      let code = bytes_of (whole_code lengths) in
      let few : length lengths ≤ 1048576 = omega (arith, pieces-total lengths s.positive, s.sums, s.bounded) in
      let size = length-code lengths in
      let bound : length text ≤ 1048576 = s.bounded in
      let a : length (padded 4096 (headers i)) ≡ 4096 = length-padded 4096 (headers i) (above4096 (length (headers i))).0 ∙ ap (round_up 4096) headers_length in
      let b1 = length-append (padded 4096 code) (padded 4096 text ++ (padded 4096 [] ++ [])) in
      let b2 = length-append (padded 4096 text) (padded 4096 [] ++ []) in
      let b3 : length (padded 4096 [] ++ []) ≡ 0 = refl in
      let t = length-table_bytes i.entries in
      let p : length (padded 8 i.plan) ≡ 24 = refl in
      let n : length (padded 8 names) ≡ 40 = refl in
      let A = padded 4096 (headers i) in
      let B = segment_bytes i.segments in
      let T = table_bytes i.entries in
      let P = padded 8 i.plan in
      let N = padded 8 names in
      omega (arith, length-append (A ++ B ++ T ++ P ++ N) (section_table i), length-append (A ++ B ++ T ++ P) N, length-append (A ++ B ++ T) P, length-append (A ++ B) T, length-append A B, length-padded 4096 code (above4096 (length code)).0, length-padded 4096 text (above4096 (length text)).0, sections_length)
