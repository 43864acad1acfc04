use native.Mathlib.Omega.{arith}
use Rattle.std.proofs.Common.{◌<◌, length, Some, refl, sym, ap, ◌∙◌}
use Rattle.std.proofs.lemmas.Option.{slice_get-get_or}
use Rattle.sml_infer.specs.Going.{now}
use Rattle.sml_infer.proofs.NextNode.{next_goes, next_kept, next_refused}
use Rattle.sml_infer.proofs.ask.ask_next.Goals as goal

pub returns-clause-going : goal.returns-clause-going
returns-clause-going c =
    let w = c.args.work.now in
    let below : w.done < length c.items.result.now = omega (arith, ap length c.items.ensures, c.len.ensures, c.if-node-len.false) in
    let here = slice_get-get_or c.items.result.now w.done c.index-items-node.result below ∙ ap Some (sym c.index-items-node.is) in
    next_goes c.args.bare.now w.count c.args.declared.now (now w) w.done c.args.limit c.index-items-node.result c.items.result.now c.as_slice.result.now
    c.requires.numbered c.requires.good c.requires.limit c.requires.within c.requires.going c.requires.entered here c.items.ensures
    (c.if-not-is_askable.ensures refl) c.as_slice.ensures.value c.ask-asked.new.unknowns c.forms.ensures.kept c.ask-asked.result c.ask-asked.ensures.step

pub returns-clause-kept : goal.returns-clause-kept
returns-clause-kept c =
    let w = c.args.work.now in
    let below : w.done < length c.items.result.now = omega (arith, ap length c.items.ensures, c.len.ensures, c.if-node-len.false) in
    let here = slice_get-get_or c.items.result.now w.done c.index-items-node.result below ∙ ap Some (sym c.index-items-node.is) in
    next_kept c.args.bare.now w.count c.args.declared.now (now w) w.done c.args.limit c.index-items-node.result c.items.result.now c.as_slice.result.now
    c.requires.numbered c.requires.good c.requires.limit c.requires.within c.requires.going c.requires.entered here c.items.ensures
    (c.if-not-is_askable.ensures refl) c.as_slice.ensures.value c.ask-asked.new.unknowns c.forms.ensures.kept c.ask-asked.result c.ask-asked.ensures.step

pub returns-clause-refused : goal.returns-clause-refused
returns-clause-refused c =
    let w = c.args.work.now in
    let below : w.done < length c.items.result.now = omega (arith, ap length c.items.ensures, c.len.ensures, c.if-node-len.false) in
    let here = slice_get-get_or c.items.result.now w.done c.index-items-node.result below ∙ ap Some (sym c.index-items-node.is) in
    next_refused c.args.bare.now w.count c.args.declared.now (now w) w.done c.args.limit c.index-items-node.result c.items.result.now c.as_slice.result.now
    c.requires.numbered c.requires.good c.requires.limit c.requires.within c.requires.going c.requires.entered here c.items.ensures
    (c.if-not-is_askable.ensures refl) c.as_slice.ensures.value c.ask-asked.new.unknowns c.forms.ensures.kept c.ask-asked.result c.ask-asked.ensures.step
