use Rattle.std.proofs.Common.{Some, sym, ap, ◌∙◌}
use Rattle.std.proofs.lemmas.Result.{on_ok_weaker}
use Rattle.sml_types.specs.declared.types.TyForm.TheVariants.{Fields, Named}
use Rattle.type_text.proofs.Walks.{step_none, step_variable, step_arrow, step_record, step_named}
use Rattle.type_text.proofs.show.show_form.Goals as goal

pub returns-in-None : goal.returns-in-None
returns-in-None c = step_none c.args.forms.now c.args.type_names.now c.args.ty.0 c.args.level c.args.written.now c.args.work.now c.in-None.ensures.none

pub returns-in-Var : goal.returns-in-Var
returns-in-Var c =
    on_ok_weaker _ (step_variable c.args.forms.now c.args.type_names.now c.requires.numbered c.args.ty.0 c.args.level c.args.written.now c.args.work.now c.in-Var.var c.variable.new.self (c.in-Some.ensures.some ∙ ap Some c.in-Var.is)) c.variable.ensures

pub returns-in-Fields : goal.returns-in-Fields
returns-in-Fields c =
    let there = c.in-Some.ensures.some ∙ ap Some (c.in-Fields.is ∙ ap Fields (sym c.items.ensures)) in
    on_ok_weaker _ (step_record c.args.forms.now c.args.type_names.now c.requires.numbered c.args.ty.0 c.args.level c.args.written.now c.args.work.now c.items.result.now c.push_record.new.work there) c.push_record.ensures

pub returns-in-Arrow : goal.returns-in-Arrow
returns-in-Arrow c =
    on_ok_weaker _ (step_arrow c.args.forms.now c.args.type_names.now c.requires.numbered c.args.ty.0 c.args.level c.args.written.now c.args.work.now c.in-Arrow.from c.in-Arrow.to c.push_arrow.new.work (c.in-Some.ensures.some ∙ ap Some c.in-Arrow.is)) c.push_arrow.ensures

pub returns-in-Named : goal.returns-in-Named
returns-in-Named c =
    let there = c.in-Some.ensures.some ∙ ap Some (c.in-Named.is ∙ ap (Named c.in-Named.number) (sym c.items-in-Named.ensures)) in
    on_ok_weaker _ (step_named c.args.forms.now c.args.type_names.now c.requires.numbered c.args.ty.0 c.args.level c.args.written.now c.args.work.now c.in-Named.number c.name_bytes.result.now c.items-in-Named.result.now c.push_named.new.work there c.name_bytes.ensures) c.push_named.ensures
