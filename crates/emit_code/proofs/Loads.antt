-- Numbers that are loaded in steps.
use Rattle.std.proofs.Common.{◌≡◌, ℕ, zero, suc, ◌-◌, ◌++◌, ◌∷◌, cond, false, pos, ap, refl, arith, ◌∙◌}
use Rattle.rv_isa.specs.declared.table.Op.TheVariants.{Slli}
use Rattle.emit_items.specs.Items.{i_item}
use Rattle.emit_items.specs.Constants.{upper, is_medium, lower_added, medium_loaded, long_loaded}

pub next_level : (n rd v : ℕ) → (n ≡ zero → ⊥) → is_medium v ≡ false → long_loaded n rd v ≡ long_loaded (n - 1) rd (upper v) ++ i_item Slli rd rd (pos 12) ∷ lower_added rd v
next_level zero rd v h e = absurd (h refl)
next_level (suc n) rd v h e =
    ap (λ b. cond b (medium_loaded rd v) (long_loaded n rd (upper v) ++ i_item Slli rd rd (pos 12) ∷ lower_added rd v)) e
    ∙ ap (λ k. long_loaded k rd (upper v) ++ i_item Slli rd rd (pos 12) ∷ lower_added rd v) (omega arith)
