use Rattle.std.proofs.Common.{arith, ◌∙◌}
use Rattle.smlc_edge.proofs.Kept.{told-more, tells-more, kept-length}
use Rattle.smlc_edge.proofs.quiet.QuietSinkSink.put.Goals as goal

pub returns-else-count-piece-clause-told : goal.returns-else-count-piece-clause-told
returns-else-count-piece-clause-told c = rw (← c.self.view_is) (told-more c.self.inside.full c.self.inside.kept c.args.piece.now c.copy_from_slice.new.self c.self.inside.len c.min-count.result (omega arith) c.copy_from_slice.ensures.after (omega arith))

pub returns-else-count-piece-clause-tells : goal.returns-else-count-piece-clause-tells
returns-else-count-piece-clause-tells c = λ bytes told fits.
    tells-more c.self.inside.full c.self.inside.kept c.args.piece.now c.copy_from_slice.new.self c.self.inside.len c.min-count.result (omega arith) c.copy_from_slice.ensures.after (omega arith) bytes (c.self.view_is ∙ told)

pub returns-then-count-piece-clause-tells : goal.returns-then-count-piece-clause-tells
returns-then-count-piece-clause-tells c = λ bytes told fits.
    let l = kept-length c.self.inside.full c.self.inside.kept bytes c.self.inside.len (omega arith) (c.self.view_is ∙ told) in absurd (omega arith)
