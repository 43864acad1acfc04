use Rattle.std.proofs.Common.{◌∷◌, subst}
use Rattle.std.proofs.lemmas.Result.{err_from_is_err_and}
use Rattle.elf_static.specs.declared.image.Image.{Image}
use Rattle.elf_static.specs.declared.headers.FileHeader.{FileHeader}
use Rattle.elf_static.specs.Checks.{Passes}
use Rattle.elf_static.specs.Headers.{file_header}
use Rattle.elf_static.specs.Reading.{size_check, header_checks, later_checks, checks_under}
use Rattle.elf_static.proofs.Passing.{passes_in_front, passes_behind}
use Rattle.elf_static.proofs.reading.read_image.Goals as goal

pub returns-in_err-header-clause-passes : goal.returns-in_err-header-clause-passes
unfolding checks_under
returns-in_err-header-clause-passes c =
    let p = err_from_is_err_and c.from_residual.result c.from_residual.ensures.1 in
    let h = file_header c.args.bytes.now in
    rw (p.1, p.2) (passes_in_front Image FileHeader (size_check c.args.bytes.now ∷ header_checks c.args.bytes.now h) (later_checks c.args.bytes.now h) c.in_err-header.field-0.0 c.in_err-header.ensures.passes)

pub returns-clause-passes : goal.returns-clause-passes
unfolding checks_under
returns-clause-passes c =
    let h = file_header c.args.bytes.now in
    let later = subst (λ x. Passes c.read_under.result (later_checks c.args.bytes.now x)) c.in_ok-header.ensures.header c.read_under.ensures.passes in
    passes_behind (size_check c.args.bytes.now ∷ header_checks c.args.bytes.now h) (later_checks c.args.bytes.now h) c.read_under.result c.in_ok-header.ensures.passes later
