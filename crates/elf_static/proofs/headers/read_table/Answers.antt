use Rattle.elf_static.specs.Numbers.{table}
use Rattle.elf_static.proofs.Tables.{Reads-more}
use Rattle.elf_static.proofs.headers.read_table.Goals as goal

pub loop-preserved : goal.loop-preserved
loop-preserved g c =
    let all = table g.R.Record.meaning g.R.Record.width c.args.count c.args.bytes.now in
    let more = Reads-more g.R.Record.meaning g.R.Record.width c.args.count c.loop.counter c.loop.rest.now c.loop.records.items all c.loop-test.true c.loop.invariant in
    rw (c.split_at.ensures.back, c.size.ensures, c.in_ok-push.ensures.items, c.read.ensures) more
