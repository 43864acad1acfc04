use Rattle.std.proofs.Common.{◌≡◌, ◌∙◌, false, subst, sym}
use Rattle.std.specs.Prelude.{codes}
use Rattle.std.specs.List.{list_any}
use Rattle.elf_static.specs.Checks.{Passes}
use Rattle.elf_static.specs.Sections.{is_named, passes_end, table_checks, tables_of}
use Rattle.elf_static.proofs.TableChecks.{filter_in_file, found_named}
use Rattle.elf_static.proofs.sections.read_entries.Goals as goal

pub entries_from-requires : goal.entries_from-requires
entries_from-requires c =
    let kept = filter_in_file c.args.bytes.now (is_named (codes ".sml.entries") c.name_table-names.result.now) c.args.sections.now c.requires.in_file in
    subst (λ ss. list_any (passes_end c.args.bytes.now) ss ≡ false) (sym (c.deref.ensures.value ∙ c.in_ok-tables.ensures)) kept

pub returns-clause-passes : goal.returns-clause-passes
returns-clause-passes c =
    let found : c.deref.result.now ≡ tables_of c.args.bytes.now c.args.header.now = found_named (codes ".sml.entries") c.args.bytes.now c.name_table-names.result.now c.args.header.now c.args.sections.now c.deref.result.now c.name_table-names.ensures c.requires.sections (c.deref.ensures.value ∙ c.in_ok-tables.ensures) in
    subst (λ ts. Passes c.entries_from.result (table_checks c.args.bytes.now c.args.segments.now ts)) found c.entries_from.ensures.passes
