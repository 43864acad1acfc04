use Rattle.std.proofs.Common.{◌≡◌, List, ℕ, Bool, Option, drop, length, true, sym, ap, ◌∙◌, ◌+◌, ◌<◌, subst, arith, rules}
use Rattle.std.proofs.lemmas.List.{get_or_read}
use Rattle.sml_lexer.specs.declared.quoted.Ending.{Ending}
use Rattle.sml_lexer.specs.QuotedRead.{IsRead, Ends}
use Rattle.sml_lexer.specs.Meanings as meaning
use Rattle.sml_lexer.specs.Steps.{IsTokenAt, fault_of}
use Rattle.sml_lexer.proofs.StepLemmas.{character_fault, character_good, character_one}
use Rattle.sml_lexer.proofs.step.character_step.Goals as goal

read : (rest bytes : List ℕ) → rest ≡ drop 2 bytes → (len : ℕ) (value : List ℕ) (wide : Bool) (stray : Option ℕ) → IsRead rest len value wide stray → IsRead (drop 2 bytes) len value wide stray
read rest bytes e len value wide stray r = subst (λ x. IsRead x len value wide stray) e r

ends : (rest bytes : List ℕ) → rest ≡ drop 2 bytes → (len : ℕ) (e : Ending) → Ends e (drop len rest) → Ends e (drop len (drop 2 bytes))
ends rest bytes e len d h = subst (λ x. Ends d (drop len x)) e h

pub returns-in-Some : goal.returns-in-Some
returns-in-Some c =
    let q = c.in_ok-len.field-0 in
    let count : length q.value.items ≡ c.len.result = search rules in
    character_fault c.args.bytes.now c.requires.first c.requires.second _ _ _ _ (read _ c.args.bytes.now c.rest.ensures _ _ _ _ c.in_ok-len.ensures.read) _ (ends _ c.args.bytes.now c.rest.ensures _ _ c.in_ok-len.ensures.ends) _
    (ap (λ n. fault_of q.ending true n q.wide q.stray 2) count ∙ sym c.in-Some.ensures)

pub index-requires : goal.index-requires
index-requires c =
    let q = c.in_ok-len.field-0 in
    let count : length q.value.items ≡ c.len.result = search rules in
    let one = character_one c.args.bytes.now c.requires.first c.requires.second _ _ _ _ (read _ c.args.bytes.now c.rest.ensures _ _ _ _ c.in_ok-len.ensures.read) _ (ends _ c.args.bytes.now c.rest.ensures _ _ c.in_ok-len.ensures.ends)
    (ap (λ n. fault_of q.ending true n q.wide q.stray 2) count ∙ sym c.in-None.ensures) in
    omega (arith, one, count, c.len.ensures)

pub returns : goal.returns
returns c =
    let q = c.in_ok-len.field-0 in
    let count : length q.value.items ≡ c.len.result = search rules in
    let good = character_good c.args.bytes.now c.requires.first c.requires.second _ _ _ _ (read _ c.args.bytes.now c.rest.ensures _ _ _ _ c.in_ok-len.ensures.read) _ (ends _ c.args.bytes.now c.rest.ensures _ _ c.in_ok-len.ensures.ends)
    (ap (λ n. fault_of q.ending true n q.wide q.stray 2) count ∙ sym c.in-None.ensures) in
    let one = character_one c.args.bytes.now c.requires.first c.requires.second _ _ _ _ (read _ c.args.bytes.now c.rest.ensures _ _ _ _ c.in_ok-len.ensures.read) _ (ends _ c.args.bytes.now c.rest.ensures _ _ c.in_ok-len.ensures.ends)
    (ap (λ n. fault_of q.ending true n q.wide q.stray 2) count ∙ sym c.in-None.ensures) in
    let some : 0 < length q.value.items = omega (arith, one) in
    subst (λ k. IsTokenAt c.args.bytes.now (q.len + 3) (meaning.character k)) (sym (get_or_read q.value.items 0 c.index.result.now some c.index.ensures 0)) good
