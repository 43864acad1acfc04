use Rattle.std.proofs.Common.{List, Option, sym, ◌∙◌, subst}
use Rattle.sml_types.specs.declared.types.TyVar.{TyVar}
use Rattle.sml_types.specs.Forms.{AreForms}
use Rattle.sml_types.specs.Poly.{Context}
use Rattle.infer_state.specs.declared.unknowns.Unknowns.{Unknowns}
use Rattle.infer_state.specs.declared.settled.Settled.{Settled}
use Rattle.infer_state.specs.Fits.{settled_at}
use Rattle.infer_scopes.specs.Scopes.{contexts_of, AllOpen}
use Rattle.infer_closing.specs.declared.group.Group.{Group}
use Rattle.infer_closing.specs.Open.{closed_at}
use Rattle.infer_closing.specs.Closing.{meaning}
use Rattle.infer_closing.specs.Found.{AreGroups}
use Rattle.infer_closing.specs.Left.{AreOpen, AreWaiting}
use Rattle.infer_closing.proofs.GrowFacts.{meaning_grown}
use Rattle.infer_closing.proofs.CloseFacts.{adds_types, let_same, declaration_closed, declaration_fresh, declaration_listed, bodies_grown, all_suited}
use Rattle.infer_closing.proofs.closing.close.Goals as goal

pub returns-clause-state : goal.returns-clause-state
returns-clause-state c = adds_types c.args.unknowns.now c.close_groups.new.unknowns c.args.settled.now.items c.close_groups.new.settled.items c.in_ok-left.ensures.grown c.requires.bindings

pub returns-clause-bodies : goal.returns-clause-bodies
returns-clause-bodies c =
    bodies_grown
    c.args.bare.now
    c.args.starts.now
    c.args.unknowns.now
    c.close_groups.new.unknowns
    c.args.settled.now.items
    c.close_groups.new.settled.items
    (subst (λ (k : Unknowns). AreForms k.types) c.unknowns.view_is c.unknowns.invariant)
    c.requires.bindings
    c.requires.laid
    c.requires.there
    c.in_ok-left.ensures.grown
    c.close_groups.new.general.items
    c.in_ok-left.left.items
    c.items.result.now
    c.deref-4.result.now
    c.in_ok-left.ensures.closed

pub returns-clause-closed : goal.returns-clause-closed
returns-clause-closed c d n l =
    let u = c.args.unknowns.now in
    let p = c.args.bare.now in
    let x = c.args.settled.now.items in
    let of = c.in_ok-groups.ensures.groups n (let_same p.nodes c.args.node c.in-Some.dec d n c.declaration.result c.declaration.ensures c.in-Some.is l).1 in
    let of2 = subst (λ (s : List (Option Settled)). AreGroups p (meaning u) u.types (settled_at u.types s) n c.in_ok-groups.groups.items) c.deref.ensures.value of in
    declaration_closed
    p
    (meaning u)
    (meaning c.close_groups.new.unknowns)
    (meaning_grown u c.close_groups.new.unknowns x c.close_groups.new.settled.items c.in_ok-left.ensures.grown c.requires.bindings)
    u.types
    c.close_groups.new.general.items
    (settled_at u.types x)
    (settled_at c.close_groups.new.unknowns.types c.close_groups.new.settled.items)
    c.in_ok-left.left.items
    c.items.result.now
    n
    c.deref-4.result.now
    (subst (λ (gs : List Group). AreGroups p (meaning u) u.types (settled_at u.types x) n gs) (sym c.deref-4.ensures.value) of2)
    c.in_ok-left.ensures.closed

pub returns-clause-fresh : goal.returns-clause-fresh
returns-clause-fresh c e d n q h l =
    let u = c.args.unknowns.now in
    let p = c.args.bare.now in
    let x = c.args.settled.now.items in
    let s = settled_at u.types x in
    let of = c.in_ok-groups.ensures.groups n (let_same p.nodes c.args.node c.in-Some.dec d n c.declaration.result c.declaration.ensures c.in-Some.is l).1 in
    let of2 = subst (λ (k : List (Option Settled)). AreGroups p (meaning u) u.types (settled_at u.types k) n c.in_ok-groups.groups.items) c.deref.ensures.value of in
    let opens = subst (λ (k : List (Option Settled)). AreOpen p (settled_at u.types k) e (meaning u) (AllOpen (closed_at (settled_at u.types k)) c.args.scopes.now × AreWaiting c.deref-3.result.now) c.in_ok-opened.opened) c.deref-2.ensures.value (c.in_ok-opened.ensures e q) in
    let opens2 = subst (λ (gs : List Group). AreOpen p s e (meaning u) (AllOpen (closed_at s) c.args.scopes.now × AreWaiting gs) c.in_ok-opened.opened) (c.deref-3.ensures.value ∙ sym c.deref-4.ensures.value) opens in
    let opens3 = subst (λ (vs : List TyVar). AreOpen p s e (meaning u) (AllOpen (closed_at s) c.args.scopes.now × AreWaiting c.deref-4.result.now) vs) (sym c.items.ensures) opens2 in
    declaration_fresh
    p
    (meaning u)
    (meaning c.close_groups.new.unknowns)
    (meaning_grown u c.close_groups.new.unknowns x c.close_groups.new.settled.items c.in_ok-left.ensures.grown c.requires.bindings)
    u.types
    c.close_groups.new.general.items
    s
    (settled_at c.close_groups.new.unknowns.types c.close_groups.new.settled.items)
    c.in_ok-left.left.items
    c.items.result.now
    n
    c.deref-4.result.now
    (subst (λ (gs : List Group). AreGroups p (meaning u) u.types s n gs) (sym c.deref-4.ensures.value) of2)
    c.in_ok-left.ensures.closed
    e
    (AllOpen (closed_at s) c.args.scopes.now)
    h
    opens3

pub returns-clause-suited : goal.returns-clause-suited
returns-clause-suited c =
    let u = c.args.unknowns.now in
    let p = c.args.bare.now in
    let x = c.args.settled.now.items in
    let s = settled_at u.types x in
    all_suited
    p
    c.args.starts.now
    u
    c.close_groups.new.unknowns
    x
    c.close_groups.new.settled.items
    (subst (λ (k : Unknowns). AreForms k.types) c.unknowns.view_is c.unknowns.invariant)
    c.requires.bindings
    c.requires.laid
    c.requires.there
    c.in_ok-left.ensures.grown
    c.close_groups.new.general.items
    c.in_ok-left.left.items
    c.items.result.now
    c.deref-4.result.now
    c.in_ok-left.ensures.closed
    (contexts_of c.args.scopes.now)
    c.args.node
    c.in-Some.dec
    c.declaration.result
    (λ (e : Context). AllOpen (closed_at s) c.args.scopes.now × AreWaiting c.deref-4.result.now)
    c.declaration.ensures
    c.in-Some.is
    (λ n w.
    subst
    (λ (gs : List Group). AreGroups p (meaning u) u.types s n gs)
    (sym c.deref-4.ensures.value)
    (subst (λ (k : List (Option Settled)). AreGroups p (meaning u) u.types (settled_at u.types k) n c.in_ok-groups.groups.items) c.deref.ensures.value (c.in_ok-groups.ensures.groups n w)))
    (λ e q.
    let opens = subst (λ (k : List (Option Settled)). AreOpen p (settled_at u.types k) e (meaning u) (AllOpen (closed_at (settled_at u.types k)) c.args.scopes.now × AreWaiting c.deref-3.result.now) c.in_ok-opened.opened) c.deref-2.ensures.value (c.in_ok-opened.ensures e q) in
    let opens2 = subst (λ (gs : List Group). AreOpen p s e (meaning u) (AllOpen (closed_at s) c.args.scopes.now × AreWaiting gs) c.in_ok-opened.opened) (c.deref-3.ensures.value ∙ sym c.deref-4.ensures.value) opens in
    subst (λ (vs : List TyVar). AreOpen p s e (meaning u) (AllOpen (closed_at s) c.args.scopes.now × AreWaiting c.deref-4.result.now) vs) (sym c.items.ensures) opens2)

pub returns-clause-left : goal.returns-clause-left
returns-clause-left c d n l =
    let u = c.args.unknowns.now in
    let p = c.args.bare.now in
    let x = c.args.settled.now.items in
    let of = c.in_ok-groups.ensures.groups n (let_same p.nodes c.args.node c.in-Some.dec d n c.declaration.result c.declaration.ensures c.in-Some.is l).1 in
    let of2 = subst (λ (s : List (Option Settled)). AreGroups p (meaning u) u.types (settled_at u.types s) n c.in_ok-groups.groups.items) c.deref.ensures.value of in
    declaration_listed
    p
    (meaning u)
    (meaning c.close_groups.new.unknowns)
    (meaning_grown u c.close_groups.new.unknowns x c.close_groups.new.settled.items c.in_ok-left.ensures.grown c.requires.bindings)
    u.types
    c.close_groups.new.general.items
    (settled_at u.types x)
    (settled_at c.close_groups.new.unknowns.types c.close_groups.new.settled.items)
    c.in_ok-left.left.items
    c.items.result.now
    n
    c.deref-4.result.now
    (subst (λ (gs : List Group). AreGroups p (meaning u) u.types (settled_at u.types x) n gs) (sym c.deref-4.ensures.value) of2)
    c.in_ok-left.ensures.closed
    d
    c.requires.numbered
    l.declares
