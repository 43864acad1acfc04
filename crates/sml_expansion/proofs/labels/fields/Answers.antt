use Rattle.std.proofs.Common.{rules, ◌≡◌, IfOk, map, subst}
use Rattle.sml_expansion.specs.Labels.{slot}
use Rattle.sml_expansion.specs.Types.{labs_of}
use Rattle.sml_expansion.proofs.FieldLemmas.{slotted_all}
use Rattle.sml_expansion.proofs.labels.fields.Goals as goal

pub returns : goal.returns
returns c =
    let slots : c.deref-2.result.now ≡ map (slot (labs_of c.args.labs.items)) (labs_of c.args.labs.items) = search rules in
    subst (λ r. IfOk c.slotted.result (λ row. row ≡ r)) (slotted_all c.args.labs.items c.deref-2.result.now slots) c.slotted.ensures
