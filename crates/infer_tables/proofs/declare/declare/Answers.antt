use Rattle.std.proofs.Common.{length, subst, refl, take}
use Rattle.std.specs.List.{AllByRecursion}
use Rattle.sml_types.specs.Forms.{IsNumbered}
use Rattle.sml_types.specs.Typing.{made_below}
use Rattle.infer_tables.specs.Known.{IsAnswer, Asks}
use Rattle.infer_tables.proofs.DeclareFacts.{declared, refused, scope_started}
use Rattle.infer_tables.proofs.declare.declare.Goals as goal

pub add_nodes-requires : goal.add_nodes-requires
add_nodes-requires c =
    let s = c.in_ok-types.field-0 in
    record { scope = scope_started c.args.bare.now c.in_ok-check_types.ensures s.types s.known s.starts s.next (subst IsNumbered c.types.view_is c.types.invariant.numbered) c.in_ok-types.ensures }

pub returns-in_default-clause-refused : goal.returns-in_default-clause-refused
returns-in_default-clause-refused c =
    let p = c.args.bare.now in
    let s = c.in_ok-types.field-0 in
    refused p c.in_ok-check_types.ensures s.types s.known s.starts s.next (subst IsNumbered c.types.view_is c.types.invariant.numbered) c.in_ok-types.ensures c.args.count c.add_nodes.new.types
    (subst (IsAnswer p (λ t. AllByRecursion (Asks p t) (take c.args.count p.nodes)) (length (made_below p.nodes c.args.count)) s.types s.known c.add_nodes.new.types) c.in_default.is c.in_ok-known.ensures)

pub returns-clause-ok : goal.returns-clause-ok
returns-clause-ok c =
    let p = c.args.bare.now in
    let s = c.in_ok-types.field-0 in
    declared p c.in_ok-check_types.ensures s.types s.known s.starts s.next (subst IsNumbered c.types.view_is c.types.invariant.numbered) c.in_ok-types.ensures c.args.count c.add_nodes.new.types c.in-Some.known
    (subst (IsAnswer p (λ t. AllByRecursion (Asks p t) (take c.args.count p.nodes)) (length (made_below p.nodes c.args.count)) s.types s.known c.add_nodes.new.types) c.in-Some.is c.in_ok-known.ensures)
    (record { types = c.add_nodes.new.types; subst = c.new.result; next = s.next })
    refl
    c.new.ensures.none
    (c.new.ensures.bindings c.add_nodes.new.types)
    refl
