use Rattle.std.proofs.Common.{sym, subst}
use Rattle.std.specs.Prelude.{OnOk}
use Rattle.std.proofs.lemmas.Result.{on_ok_weaker}
use Rattle.type_text.specs.Stacks.{task_of}
use Rattle.type_text.specs.States.{IsStep}
use Rattle.type_text.proofs.Walks.{step_label, step_text}
use Rattle.type_text.proofs.show.show_piece.Goals as goal

pub returns-in-Label : goal.returns-in-Label
returns-in-Label c =
    subst
    (λ piece. OnOk c.label.result (IsStep c.args.forms.now c.args.type_names.now (task_of piece) c.args.written.now c.args.work.now c.label.new.self c.args.work.now))
    (sym c.in-Label.is)
    (on_ok_weaker _ (step_label c.args.forms.now c.args.type_names.now c.in-Label.lab.now c.args.written.now c.label.new.self c.args.work.now) c.label.ensures)

pub returns-in-Bytes : goal.returns-in-Bytes
returns-in-Bytes c =
    subst
    (λ piece. OnOk c.bytes.result (IsStep c.args.forms.now c.args.type_names.now (task_of piece) c.args.written.now c.args.work.now c.bytes.new.self c.args.work.now))
    (sym c.in-Bytes.is)
    (on_ok_weaker _ (step_text c.args.forms.now c.args.type_names.now c.in-Bytes.bytes.now c.args.written.now c.bytes.new.self c.args.work.now) c.bytes.ensures)
