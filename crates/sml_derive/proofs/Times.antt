-- The same marks so many times.
use Rattle.std.proofs.Common.{◌≡◌, ℕ, zero, suc, ◌+◌, List, [], ◌∷◌, ◌++◌, refl, sym, ap, ◌∙◌, arith}
use Rattle.std.proofs.lemmas.List.{append_assoc, append-nil}
use Rattle.sml_expansion.specs.declared.walk.Walk.{Walk}
use Rattle.sml_expansion.specs.declared.mark.Mark.{Mark}
use Rattle.sml_derive.specs.Forms.{times}
use Rattle.sml_derive.specs.Steps.{marked}
use Rattle.sml_derive.proofs.Schemas.{marks_same, unmarked}

pub times_last : (n : ℕ) (ms : List Mark) → times n ms ++ ms ≡ times (suc n) ms
times_last zero ms = sym (append-nil ms)
times_last (suc n) ms = append_assoc ms (times n ms) ms ∙ ap (λ l. ms ++ l) (times_last n ms)

pub no_times : (w : Walk) (ms : List Mark) → w ≡ marked (times 0 ms) w
no_times w ms = unmarked w

pub twice : (w : Walk) (a b : List Mark) → marked b (marked a w) ≡ marked (a ++ b) w
twice w a b = marks_same w _ _ (append_assoc w.marks a b)

pub once_more : (before now next : Walk) (n : ℕ) (ms : List Mark) → now ≡ marked (times n ms) before → next ≡ marked ms now → next ≡ marked (times (n + 1) ms) before
once_more before now next n ms e f =
    let k : suc n ≡ n + 1 = omega arith in
    f ∙ ap (marked ms) e ∙ twice before (times n ms) ms ∙ ap (λ l. marked l before) (times_last n ms ∙ ap (λ m. times m ms) k)
