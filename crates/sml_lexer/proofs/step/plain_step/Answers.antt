use Rattle.std.proofs.Common.{◌≡◌, ℕ, ◌<◌, List, [], ◌∷◌, length, take, None, false, sym, ap, ◌∙◌, subst, arith, rules, get_or}
use mir.Syntax.{w64}
use mir.Val.{SFits}
use Rattle.std.proofs.lemmas.Int.{to_z-of_z}
use Rattle.sml_lexer.specs.declared.step.Trouble.TheVariants.{BadToken}
use Rattle.sml_lexer.specs.Bytes.{is_space}
use Rattle.sml_lexer.specs.Classified.{meaning_of}
use Rattle.sml_lexer.specs.IntegerScan.{integer_of}
use Rattle.sml_lexer.specs.Meanings.{IsInRange}
use Rattle.sml_lexer.specs.Meanings as meaning
use Rattle.sml_lexer.specs.PlainScan.{plain_at}
use Rattle.sml_lexer.specs.Steps.{IsTokenAt, IsFirstAt, NoComment, OpensNone}
use Rattle.sml_lexer.proofs.PlaceSteps.{stranger_step, plain_token, range_step}
use Rattle.sml_lexer.proofs.step.plain_step.Goals as goal

stranger : (bytes : List ℕ) → 0 < length bytes → is_space (get_or bytes 0 0) ≡ false → NoComment bytes → OpensNone bytes → plain_at bytes ≡ None → IsFirstAt bytes (record { back = 0; trouble = BadToken })
stranger [] h s c n e = absurd (omega arith)
stranger (b ∷ bytes) h s c n e = stranger_step b bytes s c n e

pub returns-in-None : goal.returns-in-None
returns-in-None c = stranger c.args.bytes.now c.requires.some c.requires.no_space c.requires.no_comment c.requires.no_constant (sym c.in-None.ensures.value)

pub returns-in-Word : goal.returns-in-Word
returns-in-Word c =
    plain_token c.args.bytes.now c.requires.some c.requires.no_comment c.requires.no_constant c.in-Some.found (sym c.in-Some.ensures.value) _ (ap (λ k. meaning_of k (take c.in-Some.found.len c.args.bytes.now)) c.in-Word.is) tt

pub returns-in-Id : goal.returns-in-Id
returns-in-Id c =
    plain_token c.args.bytes.now c.requires.some c.requires.no_comment c.requires.no_constant c.in-Some.found (sym c.in-Some.ensures.value) _ (ap (λ k. meaning_of k (take c.in-Some.found.len c.args.bytes.now)) c.in-Id.is) tt

pub returns-in-Symbol : goal.returns-in-Symbol
returns-in-Symbol c =
    plain_token c.args.bytes.now c.requires.some c.requires.no_comment c.requires.no_constant c.in-Some.found (sym c.in-Some.ensures.value) _ (ap (λ k. meaning_of k (take c.in-Some.found.len c.args.bytes.now)) c.in-Symbol.is) tt

pub returns-in-Long : goal.returns-in-Long
returns-in-Long c =
    plain_token c.args.bytes.now c.requires.some c.requires.no_comment c.requires.no_constant c.in-Some.found (sym c.in-Some.ensures.value) _ (ap (λ k. meaning_of k (take c.in-Some.found.len c.args.bytes.now)) c.in-Long.is) tt

pub returns-in-TyVar : goal.returns-in-TyVar
returns-in-TyVar c =
    plain_token c.args.bytes.now c.requires.some c.requires.no_comment c.requires.no_constant c.in-Some.found (sym c.in-Some.ensures.value) _ (ap (λ k. meaning_of k (take c.in-Some.found.len c.args.bytes.now)) c.in-TyVar.is) tt

pub returns-in-WordLit : goal.returns-in-WordLit
returns-in-WordLit c =
    plain_token c.args.bytes.now c.requires.some c.requires.no_comment c.requires.no_constant c.in-Some.found (sym c.in-Some.ensures.value) _ (ap (λ k. meaning_of k (take c.in-Some.found.len c.args.bytes.now)) c.in-WordLit.is) tt

pub returns-in-Real : goal.returns-in-Real
returns-in-Real c =
    plain_token c.args.bytes.now c.requires.some c.requires.no_comment c.requires.no_constant c.in-Some.found (sym c.in-Some.ensures.value) _ (ap (λ k. meaning_of k (take c.in-Some.found.len c.args.bytes.now)) c.in-Real.is) tt

pub returns-in-Some-integer : goal.returns-in-Some-integer
returns-in-Some-integer c =
    let ens = c.in-Some-integer.ensures in
    let text = take c.in-Some.found.len c.args.bytes.now in
    let value = c.in-Some-integer.value in
    let fits : SFits w64 value = search rules in
    subst (λ z. IsTokenAt c.args.bytes.now c.in-Some.found.len (meaning.integer z)) (sym (to_z-of_z w64 value fits))
    (plain_token c.args.bytes.now c.requires.some c.requires.no_comment c.requires.no_constant c.in-Some.found (sym c.in-Some.ensures.value) _
    (ap (λ k. meaning_of k text) c.in-Int.is ∙ ap (λ z. meaning.integer z) (sym ens.1)) (subst IsInRange (sym ens.1) ens.0))

pub returns-in-None-integer : goal.returns-in-None-integer
returns-in-None-integer c =
    let text = take c.in-Some.found.len c.args.bytes.now in
    range_step c.args.bytes.now c.requires.some c.requires.no_comment c.requires.no_constant c.in-Some.found (sym c.in-Some.ensures.value) (integer_of text)
    (ap (λ k. meaning_of k text) c.in-Int.is) c.in-None-integer.ensures
