use Rattle.std.proofs.Common.{rules, ◌≡◌, nat_eq, [], ◌∷◌, ◌++◌, List, ap, ◌∙◌, subst}
use Rattle.indexmap.specs.IndexMap.{get}
use Rattle.sml_unify.specs.declared.task.Task.{Task}
use Rattle.sml_unify.specs.Tasks.{pairs_of}
use Rattle.sml_unify.proofs.LinkFacts.{links_none}
use Rattle.sml_unify.proofs.Runs.{IsRun}
use Rattle.sml_unify.proofs.RunSteps.{run_start, linked_run, linked_less, in_range, settled_run, settled_less, binds, found_within, found_left, found_right, joined_run, clashed, opened_run, opened_less}
use Rattle.sml_unify.proofs.simplify.run.Goals as goal

pub tasks-init : goal.tasks-init
tasks-init c =
    run_start c.args.forms.now c.args.bound.now c.args.tasks.now.items c.requires.pairs.0 (get nat_eq c.new-links.result) c.requires.pairs.2 c.requires.pairs.1 (links_none c.args.forms.now c.args.bound.now (get nat_eq c.new-links.result) (λ i. search rules))

pub tasks-smaller-in-Continue-1 : goal.tasks-smaller-in-Continue-1
tasks-smaller-in-Continue-1 c =
    linked_less c.args.forms.now c.args.bound.now c.requires.solved (pairs_of c.args.tasks.now.items) c.tasks.tasks.items c.pop.new.self.items (get nat_eq c.tasks.links) c.in-Link.pair (c.in-Some.ensures.items ∙ ap (λ t. c.pop.new.self.items ++ t ∷ []) c.in-Link.is) (get nat_eq c.link.new.links) c.in_ok-link-in-Link.ensures

pub tasks-preserved-in-Continue-1 : goal.tasks-preserved-in-Continue-1
tasks-preserved-in-Continue-1 c =
    linked_run c.args.forms.now c.args.bound.now c.requires.solved (pairs_of c.args.tasks.now.items) c.tasks.tasks.items c.pop.new.self.items (get nat_eq c.tasks.links) c.in-Link.pair (c.in-Some.ensures.items ∙ ap (λ t. c.pop.new.self.items ++ t ∷ []) c.in-Link.is) (get nat_eq c.link.new.links) c.in_ok-link-in-Link.ensures c.tasks.invariant

pub heads_of-requires-clause-pair : goal.heads_of-requires-clause-pair
heads_of-requires-clause-pair c =
    in_range c.args.forms.now c.args.bound.now c.requires.solved (pairs_of c.args.tasks.now.items) c.tasks.tasks.items c.pop.new.self.items (get nat_eq c.tasks.links) c.in-Unify.pair (c.in-Some.ensures.items ∙ ap (λ t. c.pop.new.self.items ++ t ∷ []) c.in-Unify.is) c.tasks.invariant

pub tasks-smaller-in-Same : goal.tasks-smaller-in-Same
tasks-smaller-in-Same c =
    settled_less c.args.forms.now c.args.bound.now c.requires.solved (pairs_of c.args.tasks.now.items) c.tasks.tasks.items c.pop.new.self.items (get nat_eq c.tasks.links) c.in-Unify.pair (c.in-Some.ensures.items ∙ ap (λ t. c.pop.new.self.items ++ t ∷ []) c.in-Unify.is) c.tasks.invariant

pub tasks-preserved-in-Same : goal.tasks-preserved-in-Same
tasks-preserved-in-Same c =
    settled_run c.args.forms.now c.args.bound.now c.requires.solved (pairs_of c.args.tasks.now.items) c.tasks.tasks.items c.pop.new.self.items (get nat_eq c.tasks.links) c.in-Unify.pair (c.in-Some.ensures.items ∙ ap (λ t. c.pop.new.self.items ++ t ∷ []) c.in-Unify.is) c.tasks.invariant c.in-Same.ensures

pub returns-in-Binds : goal.returns-in-Binds
returns-in-Binds c =
    binds c.args.forms.now c.args.bound.now c.requires.solved (pairs_of c.args.tasks.now.items) c.tasks.tasks.items c.pop.new.self.items (get nat_eq c.tasks.links) c.in-Unify.pair (c.in-Some.ensures.items ∙ ap (λ t. c.pop.new.self.items ++ t ∷ []) c.in-Unify.is) c.tasks.invariant c.in-Binds.next c.in-Binds.ensures.0 c.in-Binds.ensures.1

pub find-left-requires : goal.find-left-requires
find-left-requires c =
    record { ranked = c.tasks.invariant.links.ranked }

pub find-right-requires : goal.find-right-requires
find-right-requires c =
    record { ranked = c.tasks.invariant.links.ranked }

pub open-requires-clause-pair : goal.open-requires-clause-pair
open-requires-clause-pair c =
    found_within c.args.forms.now c.args.bound.now c.requires.solved (pairs_of c.args.tasks.now.items) c.tasks.tasks.items c.pop.new.self.items (get nat_eq c.tasks.links) c.in-Unify.pair (c.in-Some.ensures.items ∙ ap (λ t. c.pop.new.self.items ++ t ∷ []) c.in-Unify.is) c.tasks.invariant c.in-Forms.next c.in-Forms.ensures c.find-left.result c.find-right.result c.find-left.ensures.chain c.find-right.ensures.chain

pub open-requires-clause-left : goal.open-requires-clause-left
open-requires-clause-left c =
    found_left c.args.forms.now c.args.bound.now c.requires.solved (pairs_of c.args.tasks.now.items) c.tasks.tasks.items c.pop.new.self.items (get nat_eq c.tasks.links) c.in-Unify.pair (c.in-Some.ensures.items ∙ ap (λ t. c.pop.new.self.items ++ t ∷ []) c.in-Unify.is) c.tasks.invariant c.in-Forms.next c.in-Forms.ensures c.find-left.result c.find-right.result c.find-left.ensures.chain c.find-right.ensures.chain

pub open-requires-clause-right : goal.open-requires-clause-right
open-requires-clause-right c =
    found_right c.args.forms.now c.args.bound.now c.requires.solved (pairs_of c.args.tasks.now.items) c.tasks.tasks.items c.pop.new.self.items (get nat_eq c.tasks.links) c.in-Unify.pair (c.in-Some.ensures.items ∙ ap (λ t. c.pop.new.self.items ++ t ∷ []) c.in-Unify.is) c.tasks.invariant c.in-Forms.next c.in-Forms.ensures c.find-left.result c.find-right.result c.find-left.ensures.chain c.find-right.ensures.chain

pub returns-in-Err : goal.returns-in-Err
returns-in-Err c =
    clashed c.args.forms.now c.args.bound.now c.requires.solved (pairs_of c.args.tasks.now.items) c.tasks.tasks.items c.pop.new.self.items (get nat_eq c.tasks.links) c.in-Unify.pair (c.in-Some.ensures.items ∙ ap (λ t. c.pop.new.self.items ++ t ∷ []) c.in-Unify.is) c.tasks.invariant c.in-Forms.next c.in-Forms.ensures c.find-left.result c.find-right.result c.find-left.ensures.chain c.find-right.ensures.chain c.open.new.tasks.items c.in-Err.e c.in-Err.ensures

pub tasks-smaller-in-Ok : goal.tasks-smaller-in-Ok
tasks-smaller-in-Ok c =
    opened_less c.args.forms.now c.args.bound.now c.requires.solved (pairs_of c.args.tasks.now.items) c.tasks.tasks.items c.pop.new.self.items (get nat_eq c.tasks.links) c.in-Unify.pair (c.in-Some.ensures.items ∙ ap (λ t. c.pop.new.self.items ++ t ∷ []) c.in-Unify.is) c.tasks.invariant c.in-Forms.next c.in-Forms.ensures c.find-left.result c.find-right.result c.find-left.ensures.chain c.find-right.ensures.chain c.open.new.tasks.items c.in-Ok.ensures c.find-left.ensures.last c.find-right.ensures.last c.if-left-right.true

pub tasks-preserved-in-Ok : goal.tasks-preserved-in-Ok
tasks-preserved-in-Ok c =
    opened_run c.args.forms.now c.args.bound.now c.requires.solved (pairs_of c.args.tasks.now.items) c.tasks.tasks.items c.pop.new.self.items (get nat_eq c.tasks.links) c.in-Unify.pair (c.in-Some.ensures.items ∙ ap (λ t. c.pop.new.self.items ++ t ∷ []) c.in-Unify.is) c.tasks.invariant c.in-Forms.next c.in-Forms.ensures c.find-left.result c.find-right.result c.find-left.ensures.chain c.find-right.ensures.chain c.open.new.tasks.items c.in-Ok.ensures c.find-left.ensures.last c.find-right.ensures.last c.if-left-right.true

pub tasks-smaller : goal.tasks-smaller
tasks-smaller c =
    settled_less c.args.forms.now c.args.bound.now c.requires.solved (pairs_of c.args.tasks.now.items) c.tasks.tasks.items c.pop.new.self.items (get nat_eq c.tasks.links) c.in-Unify.pair (c.in-Some.ensures.items ∙ ap (λ t. c.pop.new.self.items ++ t ∷ []) c.in-Unify.is) c.tasks.invariant

pub tasks-preserved : goal.tasks-preserved
tasks-preserved c =
    joined_run c.args.forms.now c.args.bound.now c.requires.solved (pairs_of c.args.tasks.now.items) c.tasks.tasks.items c.pop.new.self.items (get nat_eq c.tasks.links) c.in-Unify.pair (c.in-Some.ensures.items ∙ ap (λ t. c.pop.new.self.items ++ t ∷ []) c.in-Unify.is) c.tasks.invariant c.in-Forms.next c.in-Forms.ensures c.find-left.result c.find-right.result c.find-left.ensures.chain c.find-right.ensures.chain c.if-left-right.false

pub returns : goal.returns
returns c =
    let empty : c.tasks.tasks.items ≡ [] = search rules in
    λ f g. (subst (λ (ts : List Task). IsRun c.args.forms.now c.args.bound.now (pairs_of c.args.tasks.now.items) ts (get nat_eq c.tasks.links)) empty c.tasks.invariant).same.back f g tt
