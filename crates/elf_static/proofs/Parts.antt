-- The parts of a written file, each where it stands.
use Rattle.std.proofs.Common.{◌≡◌, ℕ, ◌+◌, ◌-◌, ◌*◌, List, [], ◌∷◌, ◌++◌, length, drop, refl, sym, ap, subst, ◌∙◌, append_assoc, arith, length-append}
use Rattle.std.specs.Prelude.{replicate}
use Rattle.std.proofs.lemmas.List.{append-nil}
use Rattle.elf_static.specs.declared.headers.SectionHeader.{SectionHeader}
use Rattle.elf_static.specs.declared.image.Image.{Image}
use Rattle.elf_static.specs.declared.image.Segment.{Segment}
use Rattle.elf_static.specs.Headers.{file_header, program_header, section_header}
use Rattle.elf_static.specs.Layout.{round_up}
use Rattle.elf_static.specs.Numbers.{piece, table}
use Rattle.elf_static.specs.Programs.{program_headers}
use Rattle.elf_static.specs.Sections.{section_headers}
use Rattle.elf_static.specs.Writing.{padded, ident, fields, file_fields, program_bytes, program_table, section_bytes, section_table, table_bytes, segment_bytes, names, entries_at, plan_at, names_at, sections_at, headers, written, NumbersFit, SectionsFit}
use Rattle.elf_static.proofs.FieldsRead.{piece_at, drop_all}
use Rattle.elf_static.proofs.HeadersRead.{file_header_of, file_read, length-program, length-section, program_headers_of, programs_read, section_header_of, section_step}
use Rattle.elf_static.proofs.Lengths.{length-padded}
use Rattle.elf_static.proofs.Padding.{above4096}
use Rattle.elf_static.proofs.SegmentsRead.{StandAt, stand}

abbrev pub sections_of : Image → List SectionHeader
sections_of image =
    section_header_of 0 0 0 0
    ∷ section_header_of 1 1 (entries_at image) (length (table_bytes image.entries))
    ∷ section_header_of 14 1 (plan_at image) (length image.plan)
    ∷ section_header_of 24 3 (names_at image) (length names)
    ∷ []

-- what a file has that is read as the image
pub record Parts (file : List ℕ) (image : Image) : Type 0 where
  pub behind_ident : List ℕ
  pub starts : file ≡ ident ++ behind_ident
  pub header : file_header file ≡ file_header_of (sections_at image)
  pub programs : program_headers file (file_header_of (sections_at image)) ≡ program_headers_of 4096 image.segments
  pub stand_at : StandAt file 4096 image.segments
  pub sections : section_headers file (file_header_of (sections_at image)) ≡ sections_of image
  pub entries : piece (entries_at image) (length (table_bytes image.entries)) file ≡ table_bytes image.entries
  pub plan : piece (plan_at image) (length image.plan) file ≡ image.plan
  pub name_table : piece (names_at image) (length names) file ≡ names
  pub size : length file ≡ sections_at image + 256

-- ---- regrouping

module _ (a b c d e g : List ℕ) where
  from_second : a ++ b ++ c ++ d ++ e ++ g ≡ a ++ (b ++ (c ++ (d ++ (e ++ g))))
  from_second = simp append_assoc

  from_third : a ++ b ++ c ++ d ++ e ++ g ≡ (a ++ b) ++ (c ++ (d ++ (e ++ g)))
  from_third = simp append_assoc

  from_fourth : a ++ b ++ c ++ d ++ e ++ g ≡ (a ++ b ++ c) ++ (d ++ (e ++ g))
  from_fourth = simp append_assoc

  from_fifth : a ++ b ++ c ++ d ++ e ++ g ≡ (a ++ b ++ c ++ d) ++ (e ++ g)
  from_fifth = simp append_assoc

four_parts : (w x y z : List ℕ) → w ++ x ++ y ++ z ≡ w ++ (x ++ (y ++ (z ++ [])))
four_parts w x y z = simp (append_assoc, append-nil)

piece_in : (file front part rest : List ℕ) (at : ℕ) → file ≡ front ++ (part ++ rest) → at ≡ length front → piece at (length part) file ≡ part
piece_in file front part rest at e f = ap (λ n. piece n (length part) file) f ∙ ap (piece (length front) (length part)) e ∙ piece_at front part rest

length-programs : (offset : ℕ) (ss : List Segment) → length (program_table offset ss) ≡ 56 * length ss
length-programs offset [] = refl
length-programs offset (s ∷ ss) =
    let next = offset + length (padded 4096 s.bytes) in
    let joined = length-append (program_bytes offset s) (program_table next ss) in
    omega (arith, joined, length-program offset s, length-programs next ss)

-- the four headers
four_sections : (image : Image) → SectionsFit image → table section_header 64 4 (section_table image) ≡ sections_of image
four_sections image fit =
    let w = section_bytes 0 0 0 0 in
    let x = section_bytes 1 1 (entries_at image) (length (table_bytes image.entries)) in
    let y = section_bytes 14 1 (plan_at image) (length image.plan) in
    let z = section_bytes 24 3 (names_at image) (length names) in
    let regrouped : w ++ x ++ y ++ z ≡ w ++ (x ++ (y ++ (z ++ []))) = four_parts w x y z in
    ap (table section_header 64 4) regrouped
    ∙ section_step 3 0 0 0 0 (x ++ (y ++ (z ++ []))) fit.empty
    ∙ ap (λ ss. section_header_of 0 0 0 0 ∷ ss) (section_step 2 1 1 (entries_at image) (length (table_bytes image.entries)) (y ++ (z ++ [])) fit.entries
    ∙ ap (λ ss. section_header_of 1 1 (entries_at image) (length (table_bytes image.entries)) ∷ ss) (section_step 1 14 1 (plan_at image) (length image.plan) (z ++ []) fit.plan
    ∙ ap (λ ss. section_header_of 14 1 (plan_at image) (length image.plan) ∷ ss) (section_step 0 24 3 (names_at image) (length names) [] fit.names)))

module _ (image : Image) (fit : NumbersFit image) (three : length image.segments ≡ 3) where
  abbrev zeros : ℕ → List ℕ → List ℕ
  zeros n bytes = replicate (round_up n (length bytes) - length bytes) 0

  abbrev programs : List ℕ
  programs = program_table 4096 image.segments

  abbrev file_part : List ℕ
  file_part = fields (file_fields (sections_at image))

  abbrev a : List ℕ
  a = padded 4096 (headers image)

  abbrev b : List ℕ
  b = segment_bytes image.segments

  abbrev c : List ℕ
  c = table_bytes image.entries

  abbrev d : List ℕ
  d = padded 8 image.plan

  abbrev e : List ℕ
  e = padded 8 names

  abbrev g : List ℕ
  g = section_table image

  whole : written image ≡ a ++ b ++ c ++ d ++ e ++ g
  unfolding written
  whole = refl

  length-headers : length (headers image) ≡ 232
  unfolding headers
  length-headers =
      let front : length (ident ++ file_part) ≡ 64 = refl in
      length-append (ident ++ file_part) programs ∙ omega (arith, front, length-programs 4096 image.segments, three)

  length-a : length a ≡ 4096
  length-a = length-padded 4096 (headers image) (above4096 (length (headers image))).0 ∙ ap (round_up 4096) length-headers

  length-ab : entries_at image ≡ length (a ++ b)
  length-ab = sym (length-append a b ∙ ap (λ n. n + length b) length-a)

  length-abc : plan_at image ≡ length (a ++ b ++ c)
  length-abc = ap (λ n. n + length c) length-ab ∙ sym (length-append (a ++ b) c)

  length-abcd : names_at image ≡ length (a ++ b ++ c ++ d)
  length-abcd = ap (λ n. n + length d) length-abc ∙ sym (length-append (a ++ b ++ c) d)

  length-abcde : sections_at image ≡ length (a ++ b ++ c ++ d ++ e)
  length-abcde = ap (λ n. n + length e) length-abcd ∙ sym (length-append (a ++ b ++ c ++ d) e)

  abbrev behind_headers : List ℕ
  behind_headers = zeros 4096 (headers image) ++ (b ++ (c ++ (d ++ (e ++ g))))

  headers_first : written image ≡ headers image ++ behind_headers
  headers_first = whole ∙ from_second a b c d e g ∙ append_assoc (headers image) (zeros 4096 (headers image)) (b ++ (c ++ (d ++ (e ++ g))))

  front_first : written image ≡ (ident ++ file_part) ++ (programs ++ behind_headers)
  unfolding headers
  front_first = headers_first ∙ append_assoc (ident ++ file_part) programs behind_headers

  ident_first : written image ≡ ident ++ (file_part ++ (programs ++ behind_headers))
  ident_first = front_first ∙ append_assoc ident file_part (programs ++ behind_headers)

  segments_stand : StandAt (written image) 4096 image.segments
  segments_stand =
      let here : StandAt (a ++ (b ++ (c ++ (d ++ (e ++ g))))) (length a) image.segments = stand a image.segments (c ++ (d ++ (e ++ g))) in
      subst (λ n. StandAt (written image) n image.segments) length-a (subst (λ xs. StandAt xs (length a) image.segments) (sym (whole ∙ from_second a b c d e g)) here)

  programs_there : program_headers (written image) (file_header_of (sections_at image)) ≡ program_headers_of 4096 image.segments
  programs_there =
      let behind : drop 64 (written image) ≡ programs ++ behind_headers = ap (drop 64) front_first ∙ drop_all (ident ++ file_part) (programs ++ behind_headers) in
      ap (table program_header 56 3) behind ∙ ap (λ n. table program_header 56 n (programs ++ behind_headers)) (sym three) ∙ programs_read 4096 image.segments behind_headers fit.headers.programs

  sections_there : section_headers (written image) (file_header_of (sections_at image)) ≡ sections_of image
  sections_there =
      let front = a ++ b ++ c ++ d ++ e in
      let behind : drop (sections_at image) (written image) ≡ g = ap (λ n. drop n (written image)) length-abcde ∙ ap (drop (length front)) whole ∙ drop_all front g in
      ap (table section_header 64 4) behind ∙ four_sections image fit.sections

  length-g : length g ≡ 256
  length-g =
      let w = section_bytes 0 0 0 0 in
      let x = section_bytes 1 1 (entries_at image) (length c) in
      let y = section_bytes 14 1 (plan_at image) (length image.plan) in
      let z = section_bytes 24 3 (names_at image) (length names) in
      let last = length-append (w ++ x ++ y) z in
      let third = length-append (w ++ x) y in
      let second = length-append w x in
      omega (arith, last, third, second, length-section 0 0 0 0, length-section 1 1 (entries_at image) (length c), length-section 14 1 (plan_at image) (length image.plan), length-section 24 3 (names_at image) (length names))

  pub parts : Parts (written image) image
  parts = record {
    behind_ident = file_part ++ (programs ++ behind_headers);
    starts = ident_first;
    header = ap file_header ident_first ∙ file_read (sections_at image) (programs ++ behind_headers) fit.headers.file;
    programs = programs_there;
    stand_at = segments_stand;
    sections = sections_there;
    entries = piece_in (written image) (a ++ b) c (d ++ (e ++ g)) (entries_at image) (whole ∙ from_third a b c d e g) length-ab;
    plan = piece_in (written image) (a ++ b ++ c) image.plan (zeros 8 image.plan ++ (e ++ g)) (plan_at image) (whole ∙ from_fourth a b c d e g ∙ ap (λ (xs : List ℕ). (a ++ b ++ c) ++ xs) (append_assoc image.plan (zeros 8 image.plan) (e ++ g))) length-abc;
    name_table = piece_in (written image) (a ++ b ++ c ++ d) names (zeros 8 names ++ g) (names_at image) (whole ∙ from_fifth a b c d e g ∙ ap (λ (xs : List ℕ). (a ++ b ++ c ++ d) ++ xs) (append_assoc names (zeros 8 names) g)) length-abcd;
    size = ap length whole ∙ length-append (a ++ b ++ c ++ d ++ e) g ∙ ap (λ n. n + length g) (sym length-abcde) ∙ ap (λ n. sections_at image + n) length-g;
  }
