use Rattle.std.proofs.Common.{◌++◌, ◌+◌, suc, sym, ap, ◌∙◌, arith, refl, filter_map}
use Rattle.sml_def.specs.Step.{count_up}
use Rattle.convert_laws.specs.Convert.{item_of}
use Rattle.convert_pieces.proofs.Emits.{nil_right}
use Rattle.convert_pieces.proofs.Tuples.{found_one, passed_one}
use Rattle.convert_pieces.proofs.slots.in_slots.Goals.{in-Some+in_ok-push, in_default-item_of}
use Rattle.convert_pieces.proofs.slots.in_slots.Goals as goal

pub loop-slot-preserved : goal.loop-slot-preserved
loop-slot-preserved c =
    elim c.match-item_of.branch [
      | in-Some+in_ok-push w ↦ λ k e. found_one (item_of c.args.parts.now c.args.atoms.now) c.loop-slot.found _ c.loop-slot.slot _ k w.in-Some.atom _ (sym c.item_of.ensures ∙ w.in-Some.is) (w.found-is ∙ w.in_ok-push.ensures.ok) refl (c.loop-slot.invariant (suc k) (omega (arith, e)))
      | in_default-item_of w ↦ λ k e. ap (λ fs. fs ++ filter_map (item_of c.args.parts.now c.args.atoms.now) (count_up (c.loop-slot.slot + 1) k)) w.found-is ∙ passed_one (item_of c.args.parts.now c.args.atoms.now) c.loop-slot.found c.loop-slot.slot _ k _ (sym c.item_of.ensures ∙ w.in_default-item_of.is) refl (c.loop-slot.invariant (suc k) (omega (arith, e)))
    ]

pub returns : goal.returns
returns c = sym (nil_right c.loop-slot.found) ∙ c.loop-slot.invariant 0 (omega arith)
