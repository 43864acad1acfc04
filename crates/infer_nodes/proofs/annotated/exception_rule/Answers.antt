use Rattle.std.proofs.Common.{rules, sym, subst}
use Rattle.std.specs.Prelude.{Result, Ok, Err}
use Rattle.sml_tree.specs.declared.bare.Node.{Node}
use Rattle.sml_types.specs.declared.types.Ty.{Ty}
use Rattle.sml_types.specs.Forms.{AreForms}
use Rattle.sml_types.specs.Library.{name_types}
use Rattle.infer_state.specs.declared.failure.Failure.{Failure}
use Rattle.infer_state.specs.Fits.{settled_at}
use Rattle.infer_nodes.specs.Asked.{PosesRule}
use Rattle.infer_nodes.specs.Annotated.{IsArgumentMade}
use Rattle.infer_nodes.proofs.Phrases.{exn_posed, exn_refused}
use Rattle.infer_nodes.proofs.annotated.exception_rule.Goals as goal

pub returns-in_ok-pairs-in-Ok : goal.returns-in_ok-pairs-in-Ok
returns-in_ok-pairs-in-Ok c settled i next b =
    let forms : AreForms c.args.types.now = search rules in
    subst
    (λ (n : Node). PosesRule c.args.bare.now c.args.declared.now settled i n next c.args.types.now next c.exception_type.new.types (Ok c.in_ok-pairs-in-Ok.pairs))
    (sym c.in-Exception.is)
    (λ abbreviations agree. exn_posed c.args.bare.now (name_types c.args.types.now c.args.declared.now.tables.names) c.args.declared.now.tables.names abbreviations (settled_at c.args.types.now settled) c.in-Exception.name.0 next c.args.types.now c.exception_type.new.types c.in-Exception.arg c.in_ok-own.own c.in-Ok.made c.in_ok-pairs-in-Ok.pairs forms b c.in_ok-own.ensures c.in_ok-pairs-in-Ok.ensures
    (subst (λ (r : Result Ty Failure). IsArgumentMade c.args.bare.now c.args.declared.now.tables.names abbreviations c.in-Exception.arg c.args.types.now c.exception_type.new.types r) c.in-Ok.is (c.exception_type.ensures abbreviations agree)))

pub returns-in-Err : goal.returns-in-Err
returns-in-Err c settled i next b =
    subst
    (λ (n : Node). PosesRule c.args.bare.now c.args.declared.now settled i n next c.args.types.now next c.exception_type.new.types (Err c.in-Err.failure))
    (sym c.in-Exception.is)
    (λ abbreviations agree. exn_refused c.args.bare.now (name_types c.args.types.now c.args.declared.now.tables.names) c.args.declared.now.tables.names abbreviations (settled_at c.args.types.now settled) c.in-Exception.name.0 next c.args.types.now c.exception_type.new.types c.in-Exception.arg c.in-Err.failure
    (subst (λ (r : Result Ty Failure). IsArgumentMade c.args.bare.now c.args.declared.now.tables.names abbreviations c.in-Exception.arg c.args.types.now c.exception_type.new.types r) c.in-Err.is (c.exception_type.ensures abbreviations agree)))
