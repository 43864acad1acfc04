use Rattle.std.proofs.Common.{rules, ◌≡◌, IfOk, subst}
use Rattle.sml_expansion.specs.Types.{labs_of}
use Rattle.sml_expansion.specs.Bare.{fields}
use Rattle.sml_expansion.proofs.FieldLemmas.{typed_all}
use Rattle.sml_expansion.proofs.labels.type_fields.Goals as goal

pub returns : goal.returns
returns c =
    let all : c.in_ok-fields.fields ≡ fields (labs_of c.args.labs.items) = search rules in
    subst (λ r. IfOk c.typed.result (λ row. row ≡ r)) (typed_all (labs_of c.args.labs.items) c.args.types.now c.in_ok-fields.fields all) c.typed.ensures
