use Rattle.std.proofs.Common.{Some, None, sym, ap, ◌∙◌, take, arith}
use Rattle.std.specs.List.{AllByRecursion}
use Rattle.std.proofs.lemmas.Option.{slice_get-get_or}
use Rattle.sml_types.specs.Typing.{IsTypeBinding}
use Rattle.infer_tables.proofs.StepFacts.{no_step, step_more, step_end, refused_at, answer_is}
use Rattle.infer_tables.proofs.bindings.add_bindings.Goals as goal

pub bindings-init : goal.bindings-init
bindings-init c = no_step c.args.bare.now (λ t. AllByRecursion (IsTypeBinding c.args.bare.now t) (take 0 c.args.bindings.now)) c.args.types.now c.args.known c.requires.scope (λ t. tt)

pub bindings-preserved : goal.bindings-preserved
bindings-preserved c =
    let p = c.args.bare.now in
    let hi = c.bindings-test.true in
    let x = c.index-bindings-at.result in
    let q = slice_get-get_or c.args.bindings.now c.bindings.at x (omega arith) ∙ ap Some (sym c.index-bindings-at.is) in
    step_more p (λ t b. IsTypeBinding p t b) c.args.bindings.now c.bindings.at x 0 0 c.args.types.now c.bindings.types c.add_binding.new.types c.args.known c.bindings.known c.in-Some.next q c.bindings.invariant (answer_is p (λ t. IsTypeBinding p t x) 0 c.bindings.types c.add_binding.new.types c.bindings.known c.in_ok-next.field-0 (Some c.in-Some.next) c.in-Some.is c.in_ok-next.ensures)

pub returns-in-None : goal.returns-in-None
returns-in-None c =
    let p = c.args.bare.now in
    let hi = c.bindings-test.true in
    let x = c.index-bindings-at.result in
    let q = slice_get-get_or c.args.bindings.now c.bindings.at x (omega arith) ∙ ap Some (sym c.index-bindings-at.is) in
    refused_at p (λ t b. IsTypeBinding p t b) c.args.bindings.now c.bindings.at x 0 0 c.args.types.now c.bindings.types c.add_binding.new.types c.args.known c.bindings.known q c.bindings.invariant (answer_is p (λ t. IsTypeBinding p t x) 0 c.bindings.types c.add_binding.new.types c.bindings.known c.in_ok-next.field-0 None c.in-None.is c.in_ok-next.ensures)

pub returns : goal.returns
returns c =
    let lo = c.bindings-test.false in
    step_end c.args.bare.now (λ t b. IsTypeBinding c.args.bare.now t b) c.args.bindings.now c.bindings.at 0 c.args.types.now c.bindings.types c.args.known c.bindings.known (omega arith) c.bindings.invariant
