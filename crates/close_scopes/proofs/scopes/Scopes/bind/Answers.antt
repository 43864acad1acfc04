use Rattle.std.proofs.Common.{rules, ◌≡◌, ◌≤◌, ◌∷◌, ◌++◌, [], List, length, sym, subst, ap, ◌∙◌}
use Rattle.close_scopes.specs.declared.scopes.Link.{Link}
use Rattle.close_scopes.specs.Scopes.{AreChained, bounds, Grows}
use Rattle.close_scopes.proofs.Chains.{still_chained, grows, made}
use Rattle.close_scopes.proofs.scopes.Scopes.bind.Goals as goal

pub invariant_of-self-2 : goal.invariant_of-self-2
invariant_of-self-2 c =
    subst AreChained (sym c.in_ok-push.ensures.items) (still_chained c.self.inside.links.items _ c.self.invariant (subst (λ (ls : List Link). c.args.outer.innermost ≤ length ls) (sym c.self.view_is) c.requires))

pub returns-clause-grown : goal.returns-clause-grown
returns-clause-grown c =
    subst (λ (ls : List Link). Grows ls c.push.new.self.items) c.self.view_is
    (subst (Grows c.self.inside.links.items) (sym c.in_ok-push.ensures.items) (grows c.self.inside.links.items _ c.self.invariant))

pub returns-clause-made : goal.returns-clause-made
returns-clause-made c =
    let stands : c.args.outer.innermost ≤ length c.self.inside.links.items = subst (λ (ls : List Link). c.args.outer.innermost ≤ length ls) (sym c.self.view_is) c.requires in
    let long : c.len.result ≡ length c.push.new.self.items = search rules in
    let one : Link = record { bound = c.args.bound; outer = c.args.outer.innermost } in
    ap (λ (ls : List Link). bounds ls c.len.result) c.in_ok-push.ensures.items
    ∙ made c.self.inside.links.items one c.len.result c.self.invariant stands (long ∙ ap length c.in_ok-push.ensures.items)
    ∙ ap (λ (ls : List Link). c.args.bound ∷ bounds ls c.args.outer.innermost) c.self.view_is
