use Rattle.std.proofs.Common.{arith, Some, true, false, Bool, sym, List, Option, subst}
use Rattle.std.specs.Prelude.{Ok, Err}
use Rattle.sml_types.specs.declared.types.Ty.{Ty}
use Rattle.sml_types.specs.declared.types.TyForm.{TyForm}
use Rattle.sml_unify.specs.declared.pair.Pair.{Pair}
use Rattle.sml_unify.specs.Simplified.{IsSimplified}
use Rattle.sml_unify.specs.Outcomes.{IsStep}
use Rattle.sml_unify.proofs.Chains.{IsReached, reached_first, work_error, pair_error, after_true, after_false}
use Rattle.sml_unify.proofs.Fresh.{fresh_none, fresh_more}
use Rattle.sml_unify.proofs.Counters.{number_below}
use Rattle.sml_unify.proofs.solve.solve.Goals as goal

pub returns-in-Err-clause-unified : goal.returns-in-Err-clause-unified
returns-in-Err-clause-unified c =
    work_error c.args.names.now c.args.next.now c.args.types.now c.args.bound.now c.args.work.now.items (number_below c.args.types.now c.args.bound.now c.args.next.now c.requires.below c.requires.short) c.requires.solved c.requires.pairs c.pairs.types c.pairs.bound c.pairs.work.items c.pairs.invariant.reached c.simplify.new.work.items c.in-Err.e (subst (λ (D : List (Option Ty)). IsSimplified c.pairs.types D c.pairs.work.items c.simplify.new.work.items (Err c.in-Err.e)) c.items.ensures (subst (λ (F : List TyForm). IsSimplified F c.items.result.now c.pairs.work.items c.simplify.new.work.items (Err c.in-Err.e)) c.forms.ensures.forms c.in-Err.ensures))

pub returns-in-Err-bind_pair-clause-unified : goal.returns-in-Err-bind_pair-clause-unified
returns-in-Err-bind_pair-clause-unified c =
    let d : IsSimplified c.pairs.types c.pairs.bound c.pairs.work.items c.simplify.new.work.items (Ok (Some c.in-Ok-Some.pair)) = subst (λ (D : List (Option Ty)). IsSimplified c.pairs.types D c.pairs.work.items c.simplify.new.work.items (Ok (Some c.in-Ok-Some.pair))) c.items.ensures (subst (λ (F : List TyForm). IsSimplified F c.items.result.now c.pairs.work.items c.simplify.new.work.items (Ok (Some c.in-Ok-Some.pair))) c.forms.ensures.forms (subst (λ (o : Option Pair). IsSimplified c.forms.result.now c.items.result.now c.pairs.work.items c.simplify.new.work.items (Ok o)) c.in-Ok-Some.field-0-is c.in-Ok-Some.ensures)) in
    pair_error c.args.names.now c.args.next.now c.args.types.now c.args.bound.now c.args.work.now.items (number_below c.args.types.now c.args.bound.now c.args.next.now c.requires.below c.requires.short) c.requires.solved c.requires.pairs c.pairs.types c.pairs.bound c.pairs.work.items c.pairs.invariant.reached c.simplify.new.work.items c.in-Ok-Some.pair d c.pairs.next c.bind_pair.new.types c.bind_pair.new.bound c.in-Err-bind_pair.e c.in-Err-bind_pair.ensures.step

pub pairs-preserved-in-Ok-true : goal.pairs-preserved-in-Ok-true
pairs-preserved-in-Ok-true c =
    let d : IsSimplified c.pairs.types c.pairs.bound c.pairs.work.items c.simplify.new.work.items (Ok (Some c.in-Ok-Some.pair)) = subst (λ (D : List (Option Ty)). IsSimplified c.pairs.types D c.pairs.work.items c.simplify.new.work.items (Ok (Some c.in-Ok-Some.pair))) c.items.ensures (subst (λ (F : List TyForm). IsSimplified F c.items.result.now c.pairs.work.items c.simplify.new.work.items (Ok (Some c.in-Ok-Some.pair))) c.forms.ensures.forms (subst (λ (o : Option Pair). IsSimplified c.forms.result.now c.items.result.now c.pairs.work.items c.simplify.new.work.items (Ok o)) c.in-Ok-Some.field-0-is c.in-Ok-Some.ensures)) in
    let x : IsStep c.args.names.now c.pairs.next c.pairs.types c.pairs.bound c.in-Ok-Some.pair c.bind_pair.new.types c.bind_pair.new.bound (Ok true) = subst (λ (b : Bool). IsStep c.args.names.now c.pairs.next c.pairs.types c.pairs.bound c.in-Ok-Some.pair c.bind_pair.new.types c.bind_pair.new.bound (Ok b)) c.in-Ok-true.field-0-test c.in-Ok-true.ensures.step in
    record {
      reached = after_true c.args.names.now c.args.next.now c.args.types.now c.args.bound.now c.args.work.now.items (number_below c.args.types.now c.args.bound.now c.args.next.now c.requires.below c.requires.short) c.requires.solved c.requires.pairs c.pairs.types c.pairs.bound c.pairs.work.items c.pairs.invariant.reached c.simplify.new.work.items c.in-Ok-Some.pair d c.pairs.next c.pairs.invariant.raised (number_below c.pairs.types c.pairs.bound c.pairs.next c.pairs.invariant.below c.pairs.invariant.short) c.bind_pair.new.types c.bind_pair.new.bound x.0 x.1;
      fresh = fresh_more c.args.types.now c.pairs.types c.bind_pair.new.types c.args.next.now c.pairs.next c.pairs.invariant.fresh c.pairs.invariant.raised c.bind_pair.ensures.longer c.bind_pair.ensures.fresh;
      logged = λ old l. c.bind_pair.ensures.logged old (c.pairs.invariant.logged old l);
      below = c.bind_pair.ensures.below;
      short = c.bind_pair.ensures.short;
      raised = let a = c.pairs.invariant.raised in let b = c.bind_pair.ensures.raised in omega arith;
    }

pub pairs-preserved : goal.pairs-preserved
pairs-preserved c =
    let d : IsSimplified c.pairs.types c.pairs.bound c.pairs.work.items c.simplify.new.work.items (Ok (Some c.in-Ok-Some.pair)) = subst (λ (D : List (Option Ty)). IsSimplified c.pairs.types D c.pairs.work.items c.simplify.new.work.items (Ok (Some c.in-Ok-Some.pair))) c.items.ensures (subst (λ (F : List TyForm). IsSimplified F c.items.result.now c.pairs.work.items c.simplify.new.work.items (Ok (Some c.in-Ok-Some.pair))) c.forms.ensures.forms (subst (λ (o : Option Pair). IsSimplified c.forms.result.now c.items.result.now c.pairs.work.items c.simplify.new.work.items (Ok o)) c.in-Ok-Some.field-0-is c.in-Ok-Some.ensures)) in
    let x : IsStep c.args.names.now c.pairs.next c.pairs.types c.pairs.bound c.in-Ok-Some.pair c.bind_pair.new.types c.bind_pair.new.bound (Ok false) = subst (λ (b : Bool). IsStep c.args.names.now c.pairs.next c.pairs.types c.pairs.bound c.in-Ok-Some.pair c.bind_pair.new.types c.bind_pair.new.bound (Ok b)) c.in-Ok-false.field-0-test c.in-Ok-false.ensures.step in
    record {
      reached = subst (λ (ps : List Pair). IsReached c.args.names.now c.args.next.now c.args.types.now c.args.bound.now c.args.work.now.items c.bind_pair.new.types c.bind_pair.new.bound ps) (sym c.in_ok-push-in-Ok-false.ensures.items) (after_false c.args.names.now c.args.next.now c.args.types.now c.args.bound.now c.args.work.now.items (number_below c.args.types.now c.args.bound.now c.args.next.now c.requires.below c.requires.short) c.requires.solved c.requires.pairs c.pairs.types c.pairs.bound c.pairs.work.items c.pairs.invariant.reached c.simplify.new.work.items c.in-Ok-Some.pair d c.pairs.next c.pairs.invariant.raised (number_below c.pairs.types c.pairs.bound c.pairs.next c.pairs.invariant.below c.pairs.invariant.short) c.bind_pair.new.types c.bind_pair.new.bound x.0 x.2);
      fresh = fresh_more c.args.types.now c.pairs.types c.bind_pair.new.types c.args.next.now c.pairs.next c.pairs.invariant.fresh c.pairs.invariant.raised c.bind_pair.ensures.longer c.bind_pair.ensures.fresh;
      logged = λ old l. c.bind_pair.ensures.logged old (c.pairs.invariant.logged old l);
      below = c.bind_pair.ensures.below;
      short = c.bind_pair.ensures.short;
      raised = let a = c.pairs.invariant.raised in let b = c.bind_pair.ensures.raised in omega arith;
    }

pub returns-in-Err-bind_pair-clause-fresh : goal.returns-in-Err-bind_pair-clause-fresh
returns-in-Err-bind_pair-clause-fresh c =
    fresh_more c.args.types.now c.pairs.types c.bind_pair.new.types c.args.next.now c.pairs.next c.pairs.invariant.fresh c.pairs.invariant.raised c.bind_pair.ensures.longer c.bind_pair.ensures.fresh

pub returns-in_err-push-in-Ok-false-clause-fresh : goal.returns-in_err-push-in-Ok-false-clause-fresh
returns-in_err-push-in-Ok-false-clause-fresh c =
    fresh_more c.args.types.now c.pairs.types c.bind_pair.new.types c.args.next.now c.pairs.next c.pairs.invariant.fresh c.pairs.invariant.raised c.bind_pair.ensures.longer c.bind_pair.ensures.fresh

pub pairs-init : goal.pairs-init
pairs-init c =
    record {
      reached = reached_first c.args.names.now c.args.next.now c.args.types.now c.args.bound.now c.args.work.now.items c.requires.solved c.requires.pairs;
      fresh = fresh_none c.args.next.now c.args.types.now;
      logged = λ old l. l;
      below = c.requires.below;
      short = c.requires.short;
      raised = omega arith;
    }
