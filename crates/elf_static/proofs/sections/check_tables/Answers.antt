use Rattle.std.proofs.lemmas.Result.{err_from_is_err_and}
use Rattle.elf_static.specs.declared.image.Entries.{Entries}
use Rattle.elf_static.proofs.TableChecks.{stops, goes_on, others_in_file}
use Rattle.elf_static.proofs.sections.check_tables.Goals as goal

pub returns-in_err-table_of : goal.returns-in_err-table_of
returns-in_err-table_of c =
    let p = err_from_is_err_and c.from_residual.result c.from_residual.ensures.1 in
    rw (p.1, p.2) (stops c.args.bytes.now c.args.segments.now c.args.tables.now c.loop-s.s-index (record { name = 0; kind = 0; offset = 0; size = 0 }) c.loop-s-test.true c.loop-s.invariant.first Unit Entries c.in_err-table_of.field-0.0 c.in_err-table_of.ensures.passes)

pub loop-s-preserved : goal.loop-s-preserved
loop-s-preserved c =
    record {
      in_file = others_in_file c.args.bytes.now c.args.tables.now c.loop-s.s-index (record { name = 0; kind = 0; offset = 0; size = 0 }) c.loop-s-test.true c.loop-s.invariant.in_file;
      first = goes_on c.args.bytes.now c.args.segments.now c.args.tables.now c.loop-s.s-index (record { name = 0; kind = 0; offset = 0; size = 0 }) c.loop-s-test.true c.loop-s.invariant.first c.in_ok-table_of.ensures.passes;
    }
