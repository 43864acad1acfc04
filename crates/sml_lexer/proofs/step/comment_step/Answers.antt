use Rattle.std.proofs.Common.{◌+◌, sym, ap, ◌∙◌, subst, length, arith}
use Rattle.sml_lexer.specs.CommentScan.{close_at}
use Rattle.sml_lexer.specs.declared.step.Trouble.TheVariants.{Unclosed}
use Rattle.sml_lexer.specs.Steps.{IsGapAt, IsFirstAt}
use Rattle.sml_lexer.proofs.PlaceSteps.{comment_step, open_comment_step}
use Rattle.sml_lexer.proofs.StepLemmas.{two_is}
use Rattle.sml_lexer.proofs.step.comment_step.Goals as goal

pub returns-in-Some : goal.returns-in-Some
returns-in-Some c =
    let e = sym (c.in-Some.ensures.value ∙ ap (close_at 0) c.rest.ensures) in
    let l = ap length c.rest.ensures in
    subst (λ x. IsGapAt x (c.in-Some.len + 2)) (two_is 40 42 c.args.bytes.now (omega arith) (omega arith) c.requires.first c.requires.second)
    (comment_step _ c.in-Some.len e (let b = c.in-Some.ensures.bound in omega (arith, b, l)))

pub returns-in-None : goal.returns-in-None
returns-in-None c =
    subst (λ x. IsFirstAt x (record { back = 0; trouble = Unclosed })) (two_is 40 42 c.args.bytes.now (omega arith) (omega arith) c.requires.first c.requires.second)
    (open_comment_step _ (sym (c.in-None.ensures.value ∙ ap (close_at 0) c.rest.ensures)))
