-- Spill records in front of bodies.
use Rattle.std.proofs.Common.{◌≡◌, ℕ, zero, suc, ◌<◌, List, ◌++◌, sym, ap, ◌∙◌, arith}
use Rattle.rv_asm.specs.declared.item.Item.{Item}
use Rattle.placed_ir.specs.Code.{Code}
use Rattle.placed_ir.specs.Program.{framed}
use Rattle.emit_items.specs.declared.labels.Labels.{Labels}
use Rattle.emit_items.specs.Making as making
use Rattle.emit_items.specs.Body.{items}
use Rattle.emit_code.proofs.Loops.{append_assoc}

module _ (L : Labels) (c : Code) (old body : List Item) where
  pub some_frame : (n : ℕ) (new : List Item) → 0 < n → body ≡ items L 0 c ++ old → new ≡ making.framed L n ++ body → new ≡ items L 0 (framed n c) ++ old
  some_frame zero new lt h p = absurd (omega (arith, lt))
  some_frame (suc n) new lt h p = p ∙ ap (λ xs. making.framed L (suc n) ++ xs) h ∙ sym (append_assoc (making.framed L (suc n)) (items L 0 c) old)
