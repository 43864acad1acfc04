use Rattle.std.proofs.Common.{rules, ◌≡◌, IfOk, length, subst}
use Rattle.sml_expansion.specs.Labels.{numbers}
use Rattle.sml_expansion.specs.Bare.{fields}
use Rattle.sml_expansion.proofs.FieldLemmas.{typed_all}
use Rattle.sml_expansion.proofs.labels.product_fields.Goals as goal

pub returns : goal.returns
returns c =
    let all : c.in_ok-fields.fields ≡ fields (numbers 0 (length c.args.types.now)) = search rules in
    subst (λ r. IfOk c.typed.result (λ row. row ≡ r)) (typed_all (numbers 0 (length c.args.types.now)) c.args.types.now c.in_ok-fields.fields all) c.typed.ensures
