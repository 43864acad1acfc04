use Rattle.std.proofs.Common.{◌≡◌, ◌∙◌, ℕ, List, [], ◌∷◌, ◌++◌, None, Err, subst}
use Rattle.std.proofs.lemmas.Result.{err_from_is_err_and}
use Rattle.std.specs.Global.{Vec}
use Rattle.elf_static.specs.declared.error.ElfError.{ElfError}
use Rattle.elf_static.specs.declared.image.Image.{Image}
use Rattle.elf_static.specs.declared.image.Segment.{Segment}
use Rattle.elf_static.specs.declared.image.Entries.{Entries}
use Rattle.elf_static.specs.declared.headers.FileHeader.{FileHeader}
use Rattle.elf_static.specs.declared.headers.SectionHeader.{SectionHeader}
use Rattle.elf_static.specs.declared.checks.Check.{Check}
use Rattle.elf_static.specs.Checks.{Passes, first_failed}
use Rattle.elf_static.specs.Programs.{program_checks, program_headers, segments_of, entry_check}
use Rattle.elf_static.specs.Sections.{section_headers, section_checks, table_checks, tables_of}
use Rattle.elf_static.specs.Reading.{later_checks}
use Rattle.elf_static.proofs.Passing.{passes_in_front, passes_behind, passes_again, first_behind}
use Rattle.elf_static.proofs.reading.read_under.Goals as goal

module _ (file : List ℕ) (h : FileHeader) where
  abbrev programs : List Check
  programs = program_checks file h.programs_at [] (program_headers file h)

  abbrev entry : List Check
  entry = entry_check h.entry (segments_of file h) ∷ []

  abbrev sections : List Check
  sections = section_checks file h (section_headers file h)

  abbrev tables : List Check
  tables = table_checks file (segments_of file h) (tables_of file h)

  stops_at_programs : (X Y : Type 0) (e : ElfError) → Passes {X = Y} (Err e) programs → Passes {X = X} (Err e) (later_checks file h)
  unfolding later_checks
  stops_at_programs X Y e p = passes_in_front X Y programs (entry ++ (sections ++ tables)) e p

  module _ (programs_pass : first_failed programs ≡ None) where
    stops_at_entry : (X Y : Type 0) (e : ElfError) → Passes {X = Y} (Err e) entry → Passes {X = X} (Err e) (later_checks file h)
    unfolding later_checks
    stops_at_entry X Y e p = passes_behind {X = X} programs (entry ++ (sections ++ tables)) (Err e) programs_pass (passes_in_front X Y entry (sections ++ tables) e p)

    module _ (entry_passes : first_failed entry ≡ None) where
      stops_at_sections : (X Y : Type 0) (e : ElfError) → Passes {X = Y} (Err e) sections → Passes {X = X} (Err e) (later_checks file h)
      unfolding later_checks
      stops_at_sections X Y e p = passes_behind {X = X} programs (entry ++ (sections ++ tables)) (Err e) programs_pass (passes_behind {X = X} entry (sections ++ tables) (Err e) entry_passes (passes_in_front X Y sections tables e p))

      module _ (sections_pass : first_failed sections ≡ None) where
        stops_at_tables : (X Y : Type 0) (e : ElfError) → Passes {X = Y} (Err e) tables → Passes {X = X} (Err e) (later_checks file h)
        unfolding later_checks
        stops_at_tables X Y e p = passes_behind {X = X} programs (entry ++ (sections ++ tables)) (Err e) programs_pass (passes_behind {X = X} entry (sections ++ tables) (Err e) entry_passes (passes_behind {X = X} sections tables (Err e) sections_pass (passes_again X Y tables e p)))

        all_pass : first_failed tables ≡ None → first_failed (later_checks file h) ≡ None
        unfolding later_checks
        all_pass p = first_behind programs (entry ++ (sections ++ tables)) programs_pass ∙ first_behind entry (sections ++ tables) entry_passes ∙ first_behind sections tables sections_pass ∙ p

pub returns-in_err-segments-clause-passes : goal.returns-in_err-segments-clause-passes
returns-in_err-segments-clause-passes c =
    let p = err_from_is_err_and c.from_residual.result c.from_residual.ensures.1 in
    rw (p.1, p.2) (stops_at_programs c.args.bytes.now c.args.header.now Image (Vec Segment) c.in_err-segments.field-0.0 c.in_err-segments.ensures.passes)

pub returns-in_err-check_entry-clause-passes : goal.returns-in_err-check_entry-clause-passes
returns-in_err-check_entry-clause-passes c =
    let p = err_from_is_err_and c.from_residual-in_err-check_entry.result c.from_residual-in_err-check_entry.ensures.1 in
    let e = c.in_err-check_entry.field-0.0 in
    let read : c.deref.result.now ≡ segments_of c.args.bytes.now c.args.header.now = c.deref.ensures.value ∙ c.in_ok-segments.ensures.segments in
    let here = subst (λ ss. Passes {X = Unit} (Err e) (entry_check c.args.header.now.entry ss ∷ [])) read c.in_err-check_entry.ensures in
    rw (p.1, p.2) (stops_at_entry c.args.bytes.now c.args.header.now c.in_ok-segments.ensures.passes Image Unit e here)

pub returns-in_err-sections-clause-passes : goal.returns-in_err-sections-clause-passes
returns-in_err-sections-clause-passes c =
    let p = err_from_is_err_and c.from_residual-in_err-sections.result c.from_residual-in_err-sections.ensures.1 in
    let e = c.in_err-sections.field-0.0 in
    let read : c.deref.result.now ≡ segments_of c.args.bytes.now c.args.header.now = c.deref.ensures.value ∙ c.in_ok-segments.ensures.segments in
    let entry_passes = subst (λ ss. first_failed (entry_check c.args.header.now.entry ss ∷ []) ≡ None) read c.in_ok-check_entry.ensures in
    rw (p.1, p.2) (stops_at_sections c.args.bytes.now c.args.header.now c.in_ok-segments.ensures.passes entry_passes Image (Vec SectionHeader) e c.in_err-sections.ensures.passes)

pub returns-in_err-entries-clause-passes : goal.returns-in_err-entries-clause-passes
returns-in_err-entries-clause-passes c =
    let p = err_from_is_err_and c.from_residual-in_err-entries.result c.from_residual-in_err-entries.ensures.1 in
    let e = c.in_err-entries.field-0.0 in
    let file = c.args.bytes.now in
    let h = c.args.header.now in
    let read : c.deref.result.now ≡ segments_of file h = c.deref.ensures.value ∙ c.in_ok-segments.ensures.segments in
    let again : c.deref-3.result.now ≡ segments_of file h = c.deref-3.ensures.value ∙ c.in_ok-segments.ensures.segments in
    let entry_passes = subst (λ ss. first_failed (entry_check h.entry ss ∷ []) ≡ None) read c.in_ok-check_entry.ensures in
    let here = subst (λ ss. Passes {X = Entries} (Err e) (table_checks file ss (tables_of file h))) again c.in_err-entries.ensures.passes in
    rw (p.1, p.2) (stops_at_tables file h c.in_ok-segments.ensures.passes entry_passes c.in_ok-sections.ensures.passes Image Entries e here)

pub returns-clause-passes : goal.returns-clause-passes
returns-clause-passes c =
    let file = c.args.bytes.now in
    let h = c.args.header.now in
    let read : c.deref.result.now ≡ segments_of file h = c.deref.ensures.value ∙ c.in_ok-segments.ensures.segments in
    let again : c.deref-3.result.now ≡ segments_of file h = c.deref-3.ensures.value ∙ c.in_ok-segments.ensures.segments in
    let entry_passes = subst (λ ss. first_failed (entry_check h.entry ss ∷ []) ≡ None) read c.in_ok-check_entry.ensures in
    let here = subst (λ ss. first_failed (table_checks file ss (tables_of file h)) ≡ None) again c.in_ok-entries.ensures.passes in
    all_pass file h c.in_ok-segments.ensures.passes entry_passes c.in_ok-sections.ensures.passes here
