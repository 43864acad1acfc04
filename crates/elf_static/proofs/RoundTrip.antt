-- A file with the parts of an image is read as the image.
use Rattle.std.proofs.Common.{◌≡◌, ℕ, ◌+◌, ◌≤◌, true, false, List, [], ◌∷◌, ◌++◌, length, None, Result, Ok, Err, refl, sym, ap, ◌∙◌, arith}
use Rattle.std.specs.Prelude.{◌==◌, not, codes, slice_index, filter, IfOk}
use Rattle.std.specs.List.{list_any, list_all, flat_map}
use Rattle.std.proofs.lemmas.Bool.{and_from, or_from, not_from_true, eq-eqb, le-leb, lt-ltb, le-ltb}
use Rattle.std.proofs.lemmas.List.Folds.{list_any-from_Any}
use Rattle.std.specs.Global.{Vec}
use Rattle.smlc_base.specs.declared.memory.NoMemory.{NoMemory}
use Rattle.elf_static.specs.declared.headers.FileHeader.{FileHeader}
use Rattle.elf_static.specs.declared.image.Image.{Image}
use Rattle.elf_static.specs.declared.image.Segment.{Segment}
use Rattle.elf_static.specs.Checks.{first_failed}
use Rattle.elf_static.specs.Load.{IsLoadable, IsEntry}
use Rattle.elf_static.specs.Programs.{loaded, program_headers, program_checks, segments_of, is_executable_at, entry_check}
use Rattle.elf_static.specs.Sections.{section_headers, section_bytes, section_checks, passes_end, names_of, has_name, is_named, sections_named, table_checks, tables_of, entries_of, plan_of, first_bytes}
use Rattle.elf_static.specs.Table.{is_right, entries_in, IsRightTable}
use Rattle.elf_static.specs.Writing.{ident, names, table_bytes, padded, entries_at, plan_at, names_at, sections_at, written, NumbersFit, EntriesFit}
use Rattle.elf_static.specs.Layout.{IsLaidOut}
use Rattle.elf_static.specs.Reading.{size_check, header_checks, later_checks, checks_under, image_under, answer, meaning_of}
use Rattle.elf_static.proofs.HeadersRead.{file_header_of, section_header_of}
use Rattle.elf_static.proofs.Lengths.{length-padded}
use Rattle.elf_static.proofs.Loading.{Loads}
use Rattle.elf_static.proofs.Padding.{above8}
use Rattle.elf_static.proofs.Parts.{Parts, parts, sections_of}
use Rattle.elf_static.proofs.Passing.{first_behind, none_failed}
use Rattle.elf_static.proofs.SegmentsRead.{programs_pass, segments_again}
use Rattle.elf_static.proofs.TableRead.{table_read, table_is_right}

executable : (entry : ℕ) (s : Segment) → IsEntry entry s → is_executable_at entry s ≡ true
executable entry s h = and_from _ _ (and_from _ _ (eq-eqb _ _ h.0) (le-leb _ _ h.1)) (lt-ltb _ _ h.2)

module _ (file : List ℕ) (image : Image) (p : Parts file image) (loadable : IsLoadable image) (begins : image.entry ≡ 0x10000) (right : IsRightTable image.segments image.entries) (fit : EntriesFit image.entries) where
  abbrev h : FileHeader
  h = file_header_of (sections_at image)

  segments_same : segments_of file h ≡ image.segments
  segments_same = ap (flat_map (loaded file)) p.programs ∙ segments_again file 4096 image.segments p.stand_at

  -- ---- the file header

  same_byte : (at : ℕ) → slice_index file at ≡ slice_index (ident ++ p.behind_ident) at
  same_byte at = ap (λ f. slice_index f at) p.starts

  long : 256 ≤ length file
  long = omega (arith, p.size)

  header_passes : first_failed (size_check file ∷ header_checks file h) ≡ None
  header_passes =
      let ident_is = λ (at byte : ℕ). ap (λ b. not (b == byte)) (same_byte at) in
      none_failed (size_check file ∷ header_checks file h) (
        le-ltb (length file) 64 (omega (arith, long)),
        (
          ident_is 0 0x7F,
          (
            ident_is 1 0x45,
            (
              ident_is 2 0x4C,
              (
                ident_is 3 0x46,
                (
                  ident_is 4 2,
                  (
                    ident_is 5 1,
                    (
                      ident_is 6 1,
                      (refl, (refl, (refl, (refl, (refl, (refl, (refl, (le-ltb (length file) 232 (omega (arith, long)), tt)))))))),
                    ),
                  ),
                ),
              ),
            ),
          ),
        ),
      )

  -- ---- the program headers and the entry

  loads : Loads image.segments
  loads = record { filled = loadable.room.filled; sizes = loadable.room.sizes; range = loadable.range; apart = loadable.apart }

  programs_are_right : first_failed (program_checks file h.programs_at [] (program_headers file h)) ≡ None
  programs_are_right = ap (λ ps. first_failed (program_checks file 64 [] ps)) p.programs ∙ programs_pass file 64 4096 [] image.segments p.stand_at loads

  entry_is_right : first_failed (entry_check h.entry (segments_of file h) ∷ []) ≡ None
  entry_is_right =
      let any = loadable.entry in
      let found : list_any (is_executable_at image.entry) image.segments ≡ true = list_any-from_Any (is_executable_at image.entry) image.segments (any.0, any.1, any.2, any.3, executable image.entry any.1 any.4) in
      let here : list_any (is_executable_at 0x10000) (segments_of file h) ≡ true = ap (list_any (is_executable_at 0x10000)) segments_same ∙ ap (λ a. list_any (is_executable_at a) image.segments) (sym begins) ∙ found in
      none_failed (entry_check h.entry (segments_of file h) ∷ []) (not_from_true _ here, tt)

  -- ---- the sections

  names_same : names_of file h (sections_of image) ≡ names
  names_same = p.name_table

  none_past_end : list_any (passes_end file) (sections_of image) ≡ false
  none_past_end =
      let plan : length image.plan ≤ length (padded 8 image.plan) = let above = (above8 (length image.plan)).0 in omega (arith, length-padded 8 image.plan above) in
      or_from _ _ (le-ltb (length file) (plan_at image) (omega (arith, p.size)))
      (or_from _ _ (le-ltb (length file) (plan_at image + length image.plan) (omega (arith, p.size, plan)))
      (or_from _ _ (le-ltb (length file) (names_at image + 34) (omega (arith, p.size))) refl))

  sections_are_right : first_failed (section_checks file h (section_headers file h)) ≡ None
  sections_are_right =
      let named : list_all (has_name (names_of file h (sections_of image))) (sections_of image) ≡ true = ap (λ ns. list_all (has_name ns) (sections_of image)) names_same in
      ap (λ ss. first_failed (section_checks file h ss)) p.sections
      ∙ none_failed (section_checks file h (sections_of image)) (le-ltb (length file) (sections_at image + 256) (omega (arith, p.size)), (none_past_end, (not_from_true _ named, tt)))

  tables_same : tables_of file h ≡ section_header_of 1 1 (entries_at image) (length (table_bytes image.entries)) ∷ []
  tables_same = ap (λ ss. sections_named (codes ".sml.entries") file h ss) p.sections ∙ ap (λ ns. filter (is_named (codes ".sml.entries") ns) (sections_of image)) names_same

  plans_same : sections_named (codes ".sml.plan") file h (section_headers file h) ≡ section_header_of 14 1 (plan_at image) (length image.plan) ∷ []
  plans_same = ap (λ ss. sections_named (codes ".sml.plan") file h ss) p.sections ∙ ap (λ ns. filter (is_named (codes ".sml.plan") ns) (sections_of image)) names_same

  tables_are_right : first_failed (table_checks file (segments_of file h) (tables_of file h)) ≡ None
  tables_are_right =
      let s = section_header_of 1 1 (entries_at image) (length (table_bytes image.entries)) in
      let read : is_right (segments_of file h) (section_bytes file s) ≡ true = ap (λ ss. is_right ss (section_bytes file s)) segments_same ∙ ap (is_right image.segments) p.entries ∙ table_is_right image.segments image.entries fit right in
      ap (λ ts. first_failed (table_checks file (segments_of file h) ts)) tables_same
      ∙ none_failed (table_checks file (segments_of file h) (s ∷ [])) (not_from_true _ read, tt)

  -- ---- the whole

  all_pass : first_failed (checks_under file h) ≡ None
  unfolding checks_under later_checks
  all_pass =
      let programs = program_checks file h.programs_at [] (program_headers file h) in
      let entry = entry_check h.entry (segments_of file h) ∷ [] in
      let sections = section_checks file h (section_headers file h) in
      let tables = table_checks file (segments_of file h) (tables_of file h) in
      first_behind (size_check file ∷ header_checks file h) (programs ++ (entry ++ (sections ++ tables))) header_passes
      ∙ first_behind programs (entry ++ (sections ++ tables)) programs_are_right
      ∙ first_behind entry (sections ++ tables) entry_is_right
      ∙ first_behind sections tables sections_are_right
      ∙ tables_are_right

  image_same : image_under file h ≡ image
  unfolding image_under
  image_same =
      let entries : entries_of file (tables_of file h) ≡ image.entries = ap (entries_of file) tables_same ∙ ap entries_in p.entries ∙ table_read image.entries fit in
      let plan : plan_of file h ≡ image.plan = ap (first_bytes file) plans_same ∙ p.plan in
      rw (segments_same, entries, plan, begins) refl

  pub read_again : meaning_of file ≡ Ok image
  unfolding meaning_of
  read_again =
      ap (λ x. answer (first_failed (checks_under file x)) (image_under file x)) p.header
      ∙ ap (λ f. answer f (image_under file h)) all_pass
      ∙ ap (λ (i : Image). Ok i) image_same

-- what was written is read as the same image
pub written_again : (image : Image) → IsLaidOut image → NumbersFit image → meaning_of (written image) ≡ Ok image
written_again image laid fit =
    let three : length image.segments ≡ 3 = ap length laid.segments in
    read_again (written image) image (parts image fit three) laid.loadable laid.entry laid.table fit.entries

pub is_read_again : (image : Image) (r : Result (Vec ℕ) NoMemory) → IfOk r (λ file. file.items ≡ written image) → IsLaidOut image → IfOk r (λ file. NumbersFit image) → IfOk r (λ file. meaning_of file.items ≡ Ok image)
is_read_again image (Ok file) e laid fit = ap meaning_of e ∙ written_again image laid fit
is_read_again image (Err x) e laid fit = tt
