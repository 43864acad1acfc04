use Rattle.std.proofs.Common.{arith, rules, ◌∙◌, sym, ap, nat_eq, ◌+◌, ◌≤◌, ◌<◌, length, Option}
use Rattle.sml_tree.specs.declared.status.Status.{Status}
use Rattle.sml_fixity.proofs.ScopeLemmas.{tally_more}
use Rattle.sml_fixity.specs.Statuses.{infix_weight, tally}
use Rattle.sml_fixity.proofs.status_table.StatusTable.set.Goals as goal

pub overflow_add-self : goal.overflow_add-self
overflow_add-self c =
    let h : c.args.number < length c.self.inside.statuses.items = search rules in
    let m : tally c.self.inside.statuses.items + 1 ≤ length c.self.inside.statuses.items = tally_more c.self.inside.statuses.items c.args.number c.index.result.now c.args.status h (ap (λ (o : Option Status). nat_eq (infix_weight o) 1) (sym c.index.ensures) ∙ sym c.if-not-before.ensures) (sym c.is_infix-now.ensures ∙ c.if-now.true) in
    let ok = c.self.inside.statuses.ok in let small = c.self.inside.statuses.small in omega (arith, m, ok, small, c.self.invariant)
