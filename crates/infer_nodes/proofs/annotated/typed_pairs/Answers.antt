use Rattle.std.proofs.Common.{rules, subst}
use Rattle.std.specs.Prelude.{Result}
use Rattle.sml_types.specs.declared.types.Ty.{Ty}
use Rattle.sml_types.specs.Forms.{AreForms}
use Rattle.infer_state.specs.declared.failure.Failure.{Failure}
use Rattle.infer_nodes.specs.Made.{IsWrittenAs}
use Rattle.infer_nodes.proofs.Phrases.{typed_posed, typed_failed}
use Rattle.infer_nodes.proofs.annotated.typed_pairs.Goals as goal

pub returns-in_ok-pairs-in-Ok : goal.returns-in_ok-pairs-in-Ok
returns-in_ok-pairs-in-Ok c i next b s abbreviations agree =
    let forms : AreForms c.args.types.now = search rules in
    typed_posed c.args.bare.now c.args.declared.now.tables.names abbreviations i c.args.part c.args.exp next c.args.types.now c.written_type.new.types c.in_ok-left.left c.args.at c.in-Ok.made c.in_ok-pairs-in-Ok.pairs forms b c.in_ok-left.ensures s c.in_ok-pairs-in-Ok.ensures
    (subst (λ (r : Result Ty Failure). IsWrittenAs c.args.bare.now c.args.declared.now.tables.names abbreviations c.args.exp c.args.types.now c.written_type.new.types r) c.in-Ok.is (c.written_type.ensures abbreviations agree))

pub returns-in-Err : goal.returns-in-Err
returns-in-Err c i next b s abbreviations agree =
    typed_failed c.args.bare.now c.args.declared.now.tables.names abbreviations i c.args.part c.args.exp next c.args.types.now c.written_type.new.types c.in-Err.failure
    (subst (λ (r : Result Ty Failure). IsWrittenAs c.args.bare.now c.args.declared.now.tables.names abbreviations c.args.exp c.args.types.now c.written_type.new.types r) c.in-Err.is (c.written_type.ensures abbreviations agree))
