use Rattle.std.proofs.Common.{◌≤◌, suc, arith}
use Rattle.sml_infer.proofs.Searched.{bad_between}
use Rattle.sml_infer.proofs.search.first_bad.Goals as goal

pub returns : goal.returns
returns c =
    let inv = c.halves.invariant in
    let order = inv.order in
    let stop = c.halves-test.false in
    let close : c.halves.high ≤ suc c.halves.low = omega arith in
    bad_between c.args.bare.now c.halves.low c.halves.high order inv.there close inv.before inv.after
