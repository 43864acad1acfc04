use Rattle.std.proofs.Common.{ap, ◌∙◌}
use Rattle.smlc_base.specs.Texts.{with_text}
use Rattle.sml_lexer.proofs.NameLemmas.{one_more_name}
use Rattle.sml_lexer.proofs.files.copied_names.Goals as goal

pub loop-i-preserved : goal.loop-i-preserved
loop-i-preserved c = c.in_ok-add.ensures.list ∙ ap (λ ns. with_text ns c.text.result.now) c.loop-i.invariant ∙ one_more_name c.args.names.now c.loop-i.i c.text.result.now c.text.ensures.distinct c.text.ensures.text
