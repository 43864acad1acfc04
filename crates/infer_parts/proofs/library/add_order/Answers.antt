use Rattle.std.proofs.Common.{◌≡◌, ◌++◌, ◌∷◌, [], List, OnOk, None, ap, ◌∙◌, subst}
use Rattle.std.specs.Prelude.{codes}
use Rattle.sml_types.specs.declared.tables.Equality.TheVariants.{Parts}
use Rattle.sml_types.specs.declared.tables.ConRow.{ConRow}
use Rattle.sml_types.specs.declared.tables.TypeName.{TypeName}
use Rattle.infer_parts.specs.LibraryRows.{named_row, con_row, order_row}
use Rattle.infer_parts.proofs.library.add_order.Goals as goal

pub returns : goal.returns
returns c =
    let cons : c.add_con.new.cons ≡ order_row.cons = c.in_ok-add_con.ensures ∙ ap (λ (front : List ConRow). front ++ con_row (codes "GREATER") None ∷ []) c.in_ok-cons.ensures in
    let row : named_row (codes "order") c.new.result Parts c.add_con.new.cons ≡ order_row = ap (λ params. named_row (codes "order") params Parts c.add_con.new.cons) c.new.ensures ∙ ap (named_row (codes "order") [] Parts) cons in
    subst (λ (r : TypeName). OnOk c.add_name.result (c.add_name.new.names ≡ c.args.names.now ++ r ∷ [])) row c.add_name.ensures
