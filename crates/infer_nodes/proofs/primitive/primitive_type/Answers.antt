use Rattle.std.proofs.Common.{List, sym, subst, IfOk}
use Rattle.smlc_base.specs.declared.primitive.Primitive.{Primitive}
use Rattle.sml_types.specs.declared.tables.TypeName.{TypeName}
use Rattle.sml_types.specs.Poly.{IsInstance}
use Rattle.sml_types.specs.Library.{primitive_poly}
use Rattle.infer_nodes.specs.Posed.{IsMade}
use Rattle.infer_nodes.proofs.Schemes.{mono_made, prim_closed}
use Rattle.infer_nodes.proofs.primitive.primitive_type.Goals as goal

pub returns-in-Equal : goal.returns-in-Equal
returns-in-Equal c =
    subst
    (λ (p : Primitive). IfOk c.equality.result (λ t. (names : List TypeName) → IsMade names (λ f u. IsInstance names (primitive_poly p) u) c.args.next.now c.args.types.now c.equality.new.next c.equality.new.types t))
    (sym c.in-Equal.is)
    c.equality.ensures

pub returns-in-Unequal : goal.returns-in-Unequal
returns-in-Unequal c =
    subst
    (λ (p : Primitive). IfOk c.equality-in-Unequal.result (λ t. (names : List TypeName) → IsMade names (λ f u. IsInstance names (primitive_poly p) u) c.args.next.now c.args.types.now c.equality-in-Unequal.new.next c.equality-in-Unequal.new.types t))
    (sym c.in-Unequal.is)
    c.equality-in-Unequal.ensures

pub returns-in-Deref : goal.returns-in-Deref
returns-in-Deref c =
    subst
    (λ (p : Primitive). IfOk c.deref.result (λ t. (names : List TypeName) → IsMade names (λ f u. IsInstance names (primitive_poly p) u) c.args.next.now c.args.types.now c.deref.new.next c.deref.new.types t))
    (sym c.in-Deref.is)
    c.deref.ensures

pub returns-in-Assign : goal.returns-in-Assign
returns-in-Assign c =
    subst
    (λ (p : Primitive). IfOk c.assign.result (λ t. (names : List TypeName) → IsMade names (λ f u. IsInstance names (primitive_poly p) u) c.args.next.now c.args.types.now c.assign.new.next c.assign.new.types t))
    (sym c.in-Assign.is)
    c.assign.ensures

pub returns-in_default : goal.returns-in_default
returns-in_default c =
    mono_made (primitive_poly c.args.primitive) c.args.next.now c.args.types.now c.mono_type.new.types c.mono_type.result c.requires.below (prim_closed c.args.primitive) c.mono_type.ensures
