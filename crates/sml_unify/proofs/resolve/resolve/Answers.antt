use Rattle.std.proofs.Common.{List, Option, sym, ◌∙◌, subst}
use Rattle.std.specs.List.{AllByRecursion}
use Rattle.sml_types.specs.declared.types.Ty.{Ty}
use Rattle.sml_types.specs.declared.types.TyForm.{TyForm}
use Rattle.sml_unify.specs.declared.order.Headed.{Headed}
use Rattle.sml_unify.specs.Solved.{meant, under}
use Rattle.sml_unify.specs.Orders.{IsOrder}
use Rattle.sml_unify.specs.Copies.{IsMeantAs}
use Rattle.sml_unify.proofs.Fresh.{solved_of}
use Rattle.sml_unify.proofs.OrderWalk.{order_meant}
use Rattle.sml_unify.proofs.resolve.resolve.Goals as goal

pub returns-clause-is : goal.returns-clause-is
returns-clause-is c =
    let o : IsOrder c.args.types.now c.args.subst.now.bound c.args.ty.0 c.in_ok-order.order.items = subst (λ (D : List (Option Ty)). IsOrder c.args.types.now D c.args.ty.0 c.in_ok-order.order.items) c.items.ensures (subst (λ (F : List TyForm). IsOrder F c.items.result.now c.args.ty.0 c.in_ok-order.order.items) c.forms.ensures.forms c.in_ok-order.ensures) in
    let h = order_meant c.args.types.now c.args.subst.now.bound (solved_of c.args.types.now c.args.subst.now.bound c.forms.ensures.kept c.requires.bindings) c.in_ok-order.order.items o.headed in
    c.in_ok-copies.ensures.ok.means
    (λ i. under c.args.types.now (meant c.args.types.now c.args.subst.now.bound) i)
    (subst (λ (order : List Headed). AllByRecursion (IsMeantAs (λ i. under c.args.types.now (meant c.args.types.now c.args.subst.now.bound) i) c.args.types.now) order) (sym c.deref.ensures.value) h)
    c.args.ty.0
    c.in-Some.copy
    (sym c.linked.ensures ∙ c.in-Some.is)
