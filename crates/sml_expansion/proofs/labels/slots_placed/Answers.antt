use Rattle.std.proofs.Common.{rules, ◌≡◌, ◌<◌, ◌∷◌, ◌++◌, [], length, refl, ◌∙◌}
use Rattle.std.specs.Prelude.{count_by}
use Rattle.std.specs.Borrow.{Bor}
use Rattle.sml_tree.specs.IsBare.{lab_less}
use Rattle.sml_tree.specs.declared.bare.Lab.{Lab}
use Rattle.sml_expansion.specs.Types.{labs_of}
use Rattle.sml_expansion.proofs.FieldLemmas.{slots_placed_more}
use Rattle.sml_expansion.proofs.labels.slots_placed.Goals as goal

pub loop-lab-preserved : goal.loop-lab-preserved
loop-lab-preserved c =
    let more : c.loop-lab.lab-index < length c.args.labs.now = search rules in
    let place : c.in_ok-number.field-0 ≡ count_by (λ (other : Bor Lab). lab_less other.now c.loop-lab-item.result.0) c.in_ok-order.order.items = search rules in
    let pushed : c.push.new.self.items ≡ c.loop-lab.slots.items ++ (c.in_ok-number.field-0, c.loop-lab-item.result.1) ∷ [] = search rules in
    slots_placed_more c.args.labs.now (labs_of c.args.labs.now) c.loop-lab.lab-index c.in_ok-number.field-0 c.loop-lab-item.result.1 c.loop-lab-item.result c.loop-lab.slots.items c.push.new.self.items more c.loop-lab-item.is c.loop-lab.invariant (place ∙ c.in_ok-order.ensures.same c.loop-lab-item.result.0) refl pushed
