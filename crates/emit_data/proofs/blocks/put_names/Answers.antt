use Rattle.std.proofs.Common.{◌+◌, ◌++◌, ℕ, get_or, refl, ap, ◌∙◌, arith}
use Rattle.smlc_base.specs.declared.exception.LibraryExn.TheVariants.{MatchExn}
use Rattle.emit_data.specs.Blocks.{name_block}
use Rattle.emit_data.proofs.Loops.{names_more}
use Rattle.emit_data.proofs.blocks.put_names.Goals as goal

pub loop-exn-preserved : goal.loop-exn-preserved
loop-exn-preserved c =
    let w = c.loop-exn.invariant in
    let at : ℕ → ℕ = λ k. get_or c.args.at.now k 0 in
    let put = c.in_ok-put_name.ensures ∙ ap (λ text. c.loop-exn.bytes.items ++ name_block (at c.loop-exn.label) text) c.spelling.ensures in
    record {
      numbered = omega (arith, w.numbered);
      whole = names_more at c.loop-exn.label (c.loop-exn.label + 1) c.loop-exn.exn-index c.args.exns.now MatchExn c.loop-exn.bytes.items c.put_name.new.bytes.items _ c.loop-exn-test.true refl put w.whole;
    }
