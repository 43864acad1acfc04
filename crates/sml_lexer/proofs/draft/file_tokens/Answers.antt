use Rattle.std.proofs.Common.{◌≡◌, ℕ, List, length, take, drop, ap, ◌∙◌, subst, arith}
use Rattle.std.specs.List.{fold}
use Rattle.std.proofs.lemmas.List.{length-take-le, length-drop}
use Rattle.smlc_base.specs.declared.place.Place.{Place}
use Rattle.sml_lexer.specs.declared.step.Step.{Step}
use Rattle.sml_lexer.specs.declared.step.Step.TheVariants as step
use Rattle.sml_lexer.specs.PlaceScan.{next_place}
use Rattle.sml_lexer.specs.Steps.{IsStep, IsGapAt, IsTokenAt, IsFirstAt}
use Rattle.sml_lexer.specs.Drafts.{AddsToken}
use Rattle.sml_lexer.proofs.DraftLemmas.{drafted_nothing, drafted_gap, drafted_token, drafted_all, drafted_fault, place_small}
use Rattle.sml_lexer.proofs.draft.file_tokens.Goals as goal

step_along : (left rest : List ℕ) (s t : Step) → IsStep left s → left ≡ rest → s ≡ t → IsStep rest t
step_along left rest s t h e f = subst (λ x. IsStep x t) e (subst (IsStep left) f h)

moved : (place next : Place) (s left rest : List ℕ) (n : ℕ) → next ≡ fold next_place place s → s ≡ take n left → left ≡ rest → next ≡ fold next_place place (take n rest)
moved place next s left rest n e f g = e ∙ ap (fold next_place place) (f ∙ ap (take n) g)

pub steps-init : goal.steps-init
steps-init c = drafted_nothing c.args.file c.args.bytes.now c.args.draft.now

pub advance-place-requires-clause-col : goal.advance-place-requires-clause-col
advance-place-requires-clause-col c =
    let p = place_small _ _ _ _ _ _ c.steps.invariant in
    let g : IsGapAt (drop c.steps.at c.args.bytes.now) c.in-Gap.len = step_along _ _ _ (step.Gap c.in-Gap.len) c.in_ok-len.ensures c.rest-left.ensures c.in-Gap.is in
    let l = length-drop c.steps.at c.args.bytes.now in
    let k = ap length c.front.ensures in
    let m = ap length c.rest-left.ensures in
    let r = g.room in
    let n = length-take-le c.in-Gap.len c.rest-left.result.now (omega arith) in
    let q = c.requires.names in
    omega (arith, p.1)

pub steps-preserved-in-Gap : goal.steps-preserved-in-Gap
steps-preserved-in-Gap c =
    drafted_gap _ _ _ _ _ _ c.steps.invariant c.in-Gap.len _ (step_along _ _ _ (step.Gap c.in-Gap.len) c.in_ok-len.ensures c.rest-left.ensures c.in-Gap.is) (moved _ _ _ _ _ _ c.advance-place.ensures c.front.ensures c.rest-left.ensures)

pub returns-in_err-push_token-in-Token-clause-token_count : goal.returns-in_err-push_token-in-Token-clause-token_count
returns-in_err-push_token-in-Token-clause-token_count c =
    let t = c.steps.invariant.token_count in
    let u = c.in_err-push_token-in-Token.ensures.token_count in
    omega arith

pub advance-place-requires-in-Token-clause-col : goal.advance-place-requires-in-Token-clause-col
advance-place-requires-in-Token-clause-col c =
    let p = place_small _ _ _ _ _ _ c.steps.invariant in
    let g : IsTokenAt (drop c.steps.at c.args.bytes.now) c.in-Token.len _ = step_along _ _ _ (step.Token c.in-Token.len c.in-Token.kind) c.in_ok-len.ensures c.rest-left.ensures c.in-Token.is in
    let l = length-drop c.steps.at c.args.bytes.now in
    let k = ap length c.front-text.ensures in
    let m = ap length c.rest-left.ensures in
    let r = g.room in
    let n = length-take-le c.in-Token.len c.rest-left.result.now (omega arith) in
    let q = c.requires.names in
    omega (arith, p.1)

pub steps-preserved : goal.steps-preserved
steps-preserved c =
    let text = c.front-text.ensures ∙ ap (take c.in-Token.len) c.rest-left.ensures in
    let e = c.in_ok-push_token-in-Token.ensures in
    drafted_token _ _ _ _ _ _ c.steps.invariant c.in-Token.len _ c.push_token.new.draft c.in-Token.kind
    (step_along _ _ _ (step.Token c.in-Token.len c.in-Token.kind) c.in_ok-len.ensures c.rest-left.ensures c.in-Token.is)
    (moved _ _ _ _ _ _ c.advance-place-in-Token.ensures c.front-text.ensures c.rest-left.ensures)
    (subst (λ x. AddsToken c.steps.draft c.push_token.new.draft c.in-Token.kind c.steps.place c.steps.at x) text e.ok)
    e.names e.texts e.token_count e.name_count e.text_count

pub advance-place-requires-in-Fault-clause-col : goal.advance-place-requires-in-Fault-clause-col
advance-place-requires-in-Fault-clause-col c =
    let p = place_small _ _ _ _ _ _ c.steps.invariant in
    let g : IsFirstAt (drop c.steps.at c.args.bytes.now) c.in-Fault.field-0 = step_along _ _ _ (step.Fault c.in-Fault.field-0) c.in_ok-len.ensures c.rest-left.ensures c.in-Fault.is in
    let l = length-drop c.steps.at c.args.bytes.now in
    let k = ap length c.front-in-Fault.ensures in
    let m = ap length c.rest-left.ensures in
    let r = g.room in
    let n = length-take-le c.in-Fault.field-0.back c.rest-left.result.now (omega arith) in
    let q = c.requires.names in
    omega (arith, p.1)

pub returns-in-Fault-clause-err : goal.returns-in-Fault-clause-err
returns-in-Fault-clause-err c =
    let g : IsFirstAt (drop c.steps.at c.args.bytes.now) c.in-Fault.field-0 = step_along _ _ _ (step.Fault c.in-Fault.field-0) c.in_ok-len.ensures c.rest-left.ensures c.in-Fault.is in
    let f = drafted_fault _ _ _ _ _ _ c.steps.invariant c.in-Fault.field-0 _ g (moved _ _ _ _ _ _ c.advance-place-in-Fault.ensures c.front-in-Fault.ensures c.rest-left.ensures) in
    (f.0, f.1, c.refusal.ensures ∙ f.2)

pub returns-clause-ok : goal.returns-clause-ok
returns-clause-ok c = drafted_all _ _ _ _ _ _ c.steps.invariant c.steps-test.false
