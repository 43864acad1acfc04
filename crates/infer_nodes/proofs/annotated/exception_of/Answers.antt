use Rattle.std.proofs.Common.{ℕ, subst, arith}
use Rattle.std.specs.Prelude.{Result}
use Rattle.sml_types.specs.declared.types.Ty.{Ty}
use Rattle.sml_types.specs.Poly.{Poly}
use Rattle.infer_parts.specs.Written.{AreAbbreviations}
use Rattle.infer_state.specs.declared.failure.Failure.{Failure}
use Rattle.infer_nodes.specs.Made.{IsWrittenAs}
use Rattle.infer_nodes.proofs.Phrases.{written_there, exn_made, exn_failed}
use Rattle.infer_nodes.proofs.annotated.exception_of.Goals as goal

pub function-requires-clause-from : goal.function-requires-clause-from
function-requires-clause-from c =
    let a = written_there c.args.bare.now c.args.declared.now.tables.names c.args.declared.now.abbreviations c.args.exp c.args.types.now c.written_type.new.types c.in-Ok.from
    (subst (λ (r : Result Ty Failure). (m : ℕ → Poly) → AreAbbreviations c.args.types.now c.args.declared.now.abbreviations m → IsWrittenAs c.args.bare.now c.args.declared.now.tables.names m c.args.exp c.args.types.now c.written_type.new.types r) c.in-Ok.is c.written_type.ensures) in
    let b = c.in_ok-to-in-Ok.ensures.longer.count in
    omega arith

pub returns-in_ok-made-in-Ok : goal.returns-in_ok-made-in-Ok
returns-in_ok-made-in-Ok c abbreviations agree =
    exn_made c.args.bare.now c.args.declared.now.tables.names abbreviations c.args.exp c.args.types.now c.written_type.new.types c.constant.new.types c.function.new.types c.in-Ok.from c.in_ok-to-in-Ok.to c.in_ok-made-in-Ok.made
    (subst (λ (r : Result Ty Failure). IsWrittenAs c.args.bare.now c.args.declared.now.tables.names abbreviations c.args.exp c.args.types.now c.written_type.new.types r) c.in-Ok.is (c.written_type.ensures abbreviations agree))
    c.in_ok-to-in-Ok.ensures
    c.in_ok-made-in-Ok.ensures

pub returns-in-Err : goal.returns-in-Err
returns-in-Err c abbreviations agree =
    exn_failed c.args.bare.now c.args.declared.now.tables.names abbreviations c.args.exp c.args.types.now c.written_type.new.types c.in-Err.failure
    (subst (λ (r : Result Ty Failure). IsWrittenAs c.args.bare.now c.args.declared.now.tables.names abbreviations c.args.exp c.args.types.now c.written_type.new.types r) c.in-Err.is (c.written_type.ensures abbreviations agree))
