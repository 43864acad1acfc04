use Rattle.std.proofs.Common.{rules, ◌≡◌, true, false, sym, subst}
use Rattle.std.specs.Prelude.{Ok, Err}
use Rattle.sml_tree.specs.declared.bare.Node.{Node}
use Rattle.sml_types.specs.Typing.{is_exception}
use Rattle.infer_state.specs.declared.failure.Failure.TheVariants.{Untypable}
use Rattle.infer_state.specs.Variables.{name_var}
use Rattle.infer_nodes.specs.Asked.{PosesRule}
use Rattle.infer_nodes.proofs.Constructed.{same_exception, not_exception}
use Rattle.infer_nodes.proofs.constructor.same_exception_rule.Goals as goal

pub returns-then-not-is_exception : goal.returns-then-not-is_exception
returns-then-not-is_exception c settled i =
    let none : is_exception c.in-SameException.con ≡ false = search rules in
    subst
    (λ (n : Node). PosesRule c.args.bare.now c.args.declared.now settled i n c.args.next.now c.args.types.now c.args.next.now c.args.types.now (Err Untypable))
    (sym c.in-SameException.is)
    (not_exception c.args.bare.now c.args.declared.now settled i c.args.next.now c.args.types.now c.args.next.now c.args.types.now c.in-SameException.name c.in-SameException.con none)

pub returns : goal.returns
returns c settled i =
    let one : is_exception c.in-SameException.con ≡ true = search rules in
    subst
    (λ (n : Node). PosesRule c.args.bare.now c.args.declared.now settled i n c.args.next.now c.args.types.now c.constructed.new.next c.constructed.new.types (Ok c.in_ok-pairs.pairs))
    (sym c.in-SameException.is)
    (same_exception c.args.bare.now c.args.declared.now settled i c.args.next.now c.args.types.now c.constructed.new.next c.constructed.new.types c.in_ok-pairs.pairs c.in-SameException.name c.in-SameException.con one (c.in_ok-pairs.ensures (name_var c.args.bare.now c.in-SameException.name.0) c.in_ok-own.ensures))
