use Rattle.std.proofs.Common.{false, drop}
use Rattle.convert_laws.specs.Convert.{group_of}
use Rattle.convert_decide.specs.Decide.{item_in}
use Rattle.convert_steps.specs.Codes.{conv}
use Rattle.convert_groups.specs.Groups.{Begun}
use Rattle.convert_groups.proofs.functions.begin_group.Given as goal

abbrev pub invariant-loop-binding : goal.invariant-loop-binding
invariant-loop-binding l =
    Begun (item_in false l.fn.source.own.now) l.fn.source.terms.now l.fn.world l.world l.scope l.functions
    (λ σ. group_of (item_in false l.fn.source.own.now) l.fn.source.terms.now (conv (item_in false l.fn.source.own.now) l.fn.source.terms.now) l.bindings l.first σ l.next)
    (λ σ. group_of (item_in false l.fn.source.own.now) l.fn.source.terms.now (conv (item_in false l.fn.source.own.now) l.fn.source.terms.now) (drop l.binding-index l.bindings) l.name σ l.later)
