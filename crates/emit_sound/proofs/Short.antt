-- The end for want of arena is short, so that a branch leads over it.
use Rattle.std.proofs.Common.{ℕ, zero, suc, ◌+◌, ◌*◌, ◌%◌, ◌≤◌, ◌==◌, cond, pos, List, [], ◌∷◌, ◌++◌, arith}
use Rattle.std.specs.Prelude.{nat_lt}
use Rattle.std.proofs.lemmas.Bool.{cond_both}
use Rattle.std.proofs.lemmas.List.Sums.{sum_by-append}
use Rattle.rv_isa.specs.declared.table.Op.TheVariants.{Addi, Add, Lui, Slli}
use Rattle.rv_asm.specs.declared.item.Item.{Item}
use Rattle.rv_asm.specs.declared.item.Item.TheVariants as item
use Rattle.rv_asm.specs.Item.{size, words}
use Rattle.rt_prims.specs.declared.line.Routine.TheVariants.{Full}
use Rattle.emit_items.specs.declared.labels.Labels.{Labels}
use Rattle.emit_items.specs.Items.{r_item, i_item, u_item, free}
use Rattle.emit_items.specs.Constants.{lower, upper, upper_immediate, is_short, is_medium, lower_added, medium_loaded, long_loaded, loaded}
use Rattle.emit_items.specs.Reading.{behind, routine_label}
use Rattle.emit_items.specs.Making.{full_end}

abbrev IsAtMost : ℕ → List Item → Type 0
IsAtMost n items = words items ≤ n

joined : (m n : ℕ) (xs ys : List Item) → IsAtMost m xs → IsAtMost n ys → IsAtMost (m + n) (xs ++ ys)
joined m n xs ys p q = let e = sum_by-append size xs ys in omega arith

lower_short : (rd v : ℕ) → IsAtMost 1 (lower_added rd v)
lower_short rd v = cond_both (v % 4096 == 0) [] (i_item Addi rd rd (lower v) ∷ []) (IsAtMost 1) (λ e. omega arith) (λ e. omega arith)

medium_short : (rd v : ℕ) → IsAtMost 2 (medium_loaded rd v)
medium_short rd v = joined 1 1 (u_item Lui rd (upper_immediate v) ∷ []) (lower_added rd v) (omega arith) (lower_short rd v)

long_short : (n rd v : ℕ) → IsAtMost (2 * n + 2) (long_loaded n rd v)
long_short zero rd v = medium_short rd v
long_short (suc n) rd v =
    cond_both (is_medium v) (medium_loaded rd v) (long_loaded n rd (upper v) ++ i_item Slli rd rd (pos 12) ∷ lower_added rd v) (IsAtMost (2 * suc n + 2))
    (λ e. let m = medium_short rd v in omega arith)
    (λ e. let l = lower_short rd v in let u = long_short n rd (upper v) in
    let a = joined (2 * n + 2) 2 (long_loaded n rd (upper v)) (i_item Slli rd rd (pos 12) ∷ lower_added rd v) u (joined 1 1 (i_item Slli rd rd (pos 12) ∷ []) (lower_added rd v) (omega arith) l) in omega arith)

loaded_short : (rd v : ℕ) → IsAtMost 8 (loaded rd v)
loaded_short rd v = cond_both (is_short v) (i_item Addi rd 0 (lower v) ∷ []) (long_loaded 3 rd v) (IsAtMost 8) (λ e. omega arith) (λ e. long_short 3 rd v)

behind_short : (rd base bytes : ℕ) → IsAtMost 9 (behind rd base bytes)
behind_short rd base bytes =
    cond_both (nat_lt bytes 2048) (i_item Addi rd base (pos bytes) ∷ []) (loaded 31 bytes ++ r_item Add rd base 31 ∷ []) (IsAtMost 9) (λ e. omega arith)
    (λ e. joined 8 1 (loaded 31 bytes) (r_item Add rd base 31 ∷ []) (loaded_short 31 bytes) (omega arith))

pub full_end_short : (L : Labels) (offset size : ℕ) → words (full_end L offset size) ≤ 19
full_end_short L offset size =
    joined 9 10 (cond (offset == 0) [] (behind free free (8 * offset))) (loaded 12 size ++ item.Jump (routine_label L Full) ∷ [])
    (cond_both (offset == 0) [] (behind free free (8 * offset)) (IsAtMost 9) (λ e. omega arith) (λ e. behind_short free free (8 * offset)))
    (joined 8 2 (loaded 12 size) (item.Jump (routine_label L Full) ∷ []) (loaded_short 12 size) (omega arith))
