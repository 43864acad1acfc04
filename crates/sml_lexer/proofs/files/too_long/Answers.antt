use Rattle.std.proofs.Common.{◌≡◌, length, arith, rules}
use Rattle.sml_lexer.proofs.FilesLemmas.{total_more}
use Rattle.sml_lexer.proofs.files.too_long.Goals as goal

pub returns-then-total-gt-LIMIT : goal.returns-then-total-gt-LIMIT
returns-then-total-gt-LIMIT c =
    let t = total_more (λ f. f.items) c.args.files.now c.loop-i.i c.index-files-i.result c.loop-i-test.true c.index-files-i.is in
    let n : c.len.result ≡ length c.index-files-i.result.items = search rules in
    let i = c.loop-i.invariant in
    (c.loop-i-test.true, omega (arith, i.0, i.1), omega (arith, t, n, i.0, c.if-total-gt-LIMIT.true))

pub loop-i-preserved : goal.loop-i-preserved
loop-i-preserved c =
    let t = total_more (λ f. f.items) c.args.files.now c.loop-i.i c.index-files-i.result c.loop-i-test.true c.index-files-i.is in
    let n : c.len.result ≡ length c.index-files-i.result.items = search rules in
    let i = c.loop-i.invariant in
    (omega (arith, t, n, i.0), omega (arith, c.if-total-gt-LIMIT.false))
