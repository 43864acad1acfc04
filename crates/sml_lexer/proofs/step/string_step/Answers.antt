use Rattle.std.proofs.Common.{◌≡◌, List, ℕ, Bool, Option, drop, length, false, sym, ap, ◌∙◌, subst, rules}
use Rattle.sml_lexer.specs.declared.quoted.Ending.{Ending}
use Rattle.sml_lexer.specs.QuotedRead.{IsRead, Ends}
use Rattle.sml_lexer.specs.Steps.{fault_of}
use Rattle.sml_lexer.proofs.StepLemmas.{string_fault, string_good}
use Rattle.sml_lexer.proofs.step.string_step.Goals as goal

read : (rest bytes : List ℕ) → rest ≡ drop 1 bytes → (len : ℕ) (value : List ℕ) (wide : Bool) (stray : Option ℕ) → IsRead rest len value wide stray → IsRead (drop 1 bytes) len value wide stray
read rest bytes e len value wide stray r = subst (λ x. IsRead x len value wide stray) e r

ends : (rest bytes : List ℕ) → rest ≡ drop 1 bytes → (len : ℕ) (e : Ending) → Ends e (drop len rest) → Ends e (drop len (drop 1 bytes))
ends rest bytes e len d h = subst (λ x. Ends d (drop len x)) e h

pub returns-in-Some : goal.returns-in-Some
returns-in-Some c =
    let q = c.in_ok-len.field-0 in
    let count : length q.value.items ≡ c.len.result = search rules in
    string_fault c.args.bytes.now c.requires _ _ _ _ (read _ c.args.bytes.now c.rest.ensures _ _ _ _ c.in_ok-len.ensures.read) _ (ends _ c.args.bytes.now c.rest.ensures _ _ c.in_ok-len.ensures.ends) _
    (ap (λ n. fault_of q.ending false n q.wide q.stray 1) count ∙ sym c.in-Some.ensures)

pub returns-in-None : goal.returns-in-None
returns-in-None c =
    let q = c.in_ok-len.field-0 in
    let count : length q.value.items ≡ c.len.result = search rules in
    string_good c.args.bytes.now c.requires _ _ _ _ (read _ c.args.bytes.now c.rest.ensures _ _ _ _ c.in_ok-len.ensures.read) _ (ends _ c.args.bytes.now c.rest.ensures _ _ c.in_ok-len.ensures.ends)
    (ap (λ n. fault_of q.ending false n q.wide q.stray 1) count ∙ sym c.in-None.ensures)
