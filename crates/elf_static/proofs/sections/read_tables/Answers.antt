use Rattle.std.proofs.Common.{◌∙◌, [], ◌∷◌, ◌++◌, Err, arith}
use Rattle.std.proofs.lemmas.Result.{err_from_is_err_and}
use Rattle.elf_static.specs.declared.image.Entries.{Entries}
use Rattle.elf_static.specs.Sections.{table_check, right_checks, single_checks}
use Rattle.elf_static.proofs.Passing.{passes_in_front, passes_behind, first_behind}
use Rattle.elf_static.proofs.TableChecks.{second_fails}
use Rattle.elf_static.proofs.sections.read_tables.Goals as goal

pub returns-in_err-entries-clause-passes : goal.returns-in_err-entries-clause-passes
returns-in_err-entries-clause-passes c =
    let p = err_from_is_err_and c.from_residual.result c.from_residual.ensures.1 in
    rw (p.1, p.2) (passes_in_front Entries Entries (table_check c.args.bytes.now c.args.segments.now c.args.first.now ∷ []) (right_checks c.args.bytes.now c.args.segments.now c.args.others.now ++ single_checks (c.args.first.now ∷ c.args.others.now)) c.in_err-entries.field-0.0 c.in_err-entries.ensures.passes)

pub returns-in_err-check_tables-clause-passes : goal.returns-in_err-check_tables-clause-passes
returns-in_err-check_tables-clause-passes c =
    let p = err_from_is_err_and c.from_residual-in_err-check_tables.result c.from_residual-in_err-check_tables.ensures.1 in
    let e = c.in_err-check_tables.field-0.0 in
    let front = table_check c.args.bytes.now c.args.segments.now c.args.first.now ∷ [] in
    let tables = right_checks c.args.bytes.now c.args.segments.now c.args.others.now in
    let single = single_checks (c.args.first.now ∷ c.args.others.now) in
    rw (p.1, p.2) (passes_behind {X = Entries} front (tables ++ single) (Err e) c.in_ok-entries.ensures.passes (passes_in_front Entries Unit tables single e c.in_err-check_tables.ensures))

pub returns-in-len1-up-clause-passes : goal.returns-in-len1-up-clause-passes
returns-in-len1-up-clause-passes c =
    let front = table_check c.args.bytes.now c.args.segments.now c.args.first.now ∷ [] in
    let tables = right_checks c.args.bytes.now c.args.segments.now c.args.others.now in
    let single = single_checks (c.args.first.now ∷ c.args.others.now) in
    first_behind front (tables ++ single) c.in_ok-entries.ensures.passes ∙ first_behind tables single c.in_ok-check_tables.ensures ∙ second_fails c.args.first.now c.args.others.now (record { name = 0; kind = 0; offset = 0; size = 0 }) (omega arith)
