use Rattle.std.proofs.Common.{◌≡◌, ◌-◌, ap, ◌∙◌, arith}
use Rattle.rt_prims.specs.Text.{with_labels}
use Rattle.emit_text.specs.Labels.{start_label}
use Rattle.emit_text.proofs.Routines.{all_begun}
use Rattle.emit_text.proofs.whole.begin.Goals as goal

pub returns : goal.returns
returns c =
    let start : c.args.labels.now.texts - 1 ≡ start_label c.args.placed.now = omega (arith, ap (λ x. x.texts) c.requires.labels) in
    all_begun c.args.placed.now c.make_labels.new.asm c.jump.new.self c.routines.new.asm c.args.labels.now.routines (c.args.labels.now.texts - 1) (ap (λ x. x.routines) c.requires.labels) start
    (c.in_ok-make_labels.ensures ∙ ap (with_labels c.args.labels.now.routines) c.requires.empty) c.in_ok-jump.ensures.ok c.in_ok-routines.ensures.ok
