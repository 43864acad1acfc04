use Rattle.std.proofs.Common.{Bool, List, IfOk, sym, subst}
use Rattle.sml_types.specs.declared.tables.TypeName.{TypeName}
use Rattle.sml_types.specs.Typing.{IsExnTy}
use Rattle.infer_nodes.specs.Posed.{IsMade}
use Rattle.infer_nodes.proofs.Constructed.{exn_plain}
use Rattle.infer_nodes.proofs.exception.exn_type.Goals as goal

pub returns-then-takes : goal.returns-then-takes
returns-then-takes c =
    subst
    (λ (b : Bool). IfOk c.with_argument.result (λ t. (names : List TypeName) → IsMade names (λ f u. IsExnTy b u) c.args.next.now c.args.types.now c.with_argument.new.next c.with_argument.new.types t))
    (sym c.if-takes.true)
    c.with_argument.ensures

pub returns : goal.returns
returns c =
    subst
    (λ (b : Bool). IfOk c.constant.result (λ t. (names : List TypeName) → IsMade names (λ f u. IsExnTy b u) c.args.next.now c.args.types.now c.args.next.now c.constant.new.types t))
    (sym c.if-takes.false)
    (exn_plain c.args.next.now c.args.types.now c.constant.new.types c.constant.result c.requires.below c.constant.ensures)
