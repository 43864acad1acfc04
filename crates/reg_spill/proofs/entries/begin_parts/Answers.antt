use Rattle.std.proofs.Common.{◌≡◌, ℕ, sym, subst, OnOk}
use Rattle.std.specs.List.{AllByRecursion}
use Rattle.simulation.specs.Blocks.{IsAmong}
use Rattle.sml_tree.specs.Sets.{row_at}
use Rattle.closure_ir.specs.Kept.{end_parts}
use Rattle.place_bodies.specs.Steps.{at_of}
use Rattle.place_bodies.specs.Whole.{HasPlaces}
use Rattle.reg_spill.proofs.Begun.{bodies_of, finish_parts, finish_others}
use Rattle.reg_spill.proofs.entries.begin_parts.Goals as goal

pub returns-in_ok-begin_rules-in-Match-clause-parts : goal.returns-in_ok-begin_rules-in-Match-clause-parts
returns-in_ok-begin_rules-in-Match-clause-parts c =
    let lives = c.args.lives.now in
    let at = at_of c.args.table.now in
    let mid = c.begin_rules.new.entries.items in
    let new = c.begin_part.new.entries.items in
    subst (λ e. OnOk c.begin_part.result (AllByRecursion (λ n. HasPlaces lives new n at) (end_parts e))) (sym c.in-Match.is)
    (finish_parts c.begin_part.result lives mid new at c.in-Match.otherwise (bodies_of c.in-Match.rules)
    (subst (λ rs. AllByRecursion (λ n. HasPlaces lives mid n at) (bodies_of rs)) c.items.ensures c.in_ok-begin_rules-in-Match.ensures.parts) c.begin_part.ensures.here c.begin_part.ensures.others)

pub returns-in_ok-begin_rules-in-Match-clause-others : goal.returns-in_ok-begin_rules-in-Match-clause-others
returns-in_ok-begin_rules-in-Match-clause-others c =
    let old = c.args.entries.now.items in
    let mid = c.begin_rules.new.entries.items in
    let new = c.begin_part.new.entries.items in
    subst (λ e. OnOk c.begin_part.result ((d : ℕ) → (IsAmong d (end_parts e) → ⊥) → row_at new d ≡ row_at old d)) (sym c.in-Match.is)
    (finish_others c.begin_part.result old mid new c.in-Match.otherwise (bodies_of c.in-Match.rules)
    (subst (λ rs. (d : ℕ) → (IsAmong d (bodies_of rs) → ⊥) → row_at mid d ≡ row_at old d) c.items.ensures c.in_ok-begin_rules-in-Match.ensures.others) c.begin_part.ensures.others)
