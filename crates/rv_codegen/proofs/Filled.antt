-- No code is empty, so functions begin at different places.
use Rattle.std.proofs.Common.{ℕ, zero, suc, ◌+◌, ◌-◌, ◌*◌, ◌≤◌, ◌<◌, List, [], ◌∷◌, ◌++◌, None, length, get_or, map, pos, arith}
use Rattle.std.specs.List.{AllByRecursion}
use Rattle.std.proofs.lemmas.List.Sums.{sum_by-append, sum_by-cons}
use Rattle.rv_isa.specs.declared.table.Op.TheVariants.{Addi}
use Rattle.rv_asm.specs.declared.item.Item.{Item}
use Rattle.rv_asm.specs.declared.item.Item.TheVariants as item
use Rattle.rv_asm.specs.Item.{size, words}
use Rattle.rt_prims.specs.declared.line.Routine.TheVariants as routine
use Rattle.closure_ir.specs.declared.body.Target.{Target}
use Rattle.closure_ir.specs.declared.body.Target.TheVariants as target
use Rattle.placed_ir.specs.declared.body.Function.{Function}
use Rattle.placed_ir.specs.Code.{Code, Frame, Make, Name, Let, Prim, Take, Handler, SetHandler, When, Equal, Call, Throw, Halt}
use Rattle.placed_ir.specs.Program.{Placed, function_code}
use Rattle.emit_items.specs.declared.labels.Labels.{Labels}
use Rattle.emit_items.specs.Items.{i_item, handler}
use Rattle.emit_items.specs.Constants.{loaded}
use Rattle.emit_items.specs.Reading.{routine_label, fetched, taken, named, handler_kept, let_in, handler_set}
use Rattle.emit_items.specs.Making.{group_words, made, framed}
use Rattle.emit_items.specs.Primitives.{primitive_done}
use Rattle.emit_items.specs.Tests.{all_tested}
use Rattle.emit_items.specs.Ends.{moves_from, all_moved, through, jumped, truth_word}
use Rattle.emit_items.specs.Body.{items}
use Rattle.emit_text.specs.Labels.{labels_of}
use Rattle.emit_text.specs.Text.{starts, function_items}

abbrev IsFilled : List Item → Type 0
IsFilled xs = 1 ≤ words xs

by_last : (xs ys : List Item) → IsFilled ys → IsFilled (xs ++ ys)
by_last xs ys h = omega (arith, h, sum_by-append size xs ys)

by_first : (x : Item) (xs : List Item) → 1 ≤ size x → IsFilled (x ∷ xs)
by_first x xs h = omega (arith, h, sum_by-cons size x xs)

jumped_filled : (t : Target) → IsFilled (jumped t)
jumped_filled (target.Known l) = omega arith
jumped_filled target.Through = omega arith

module _ (L : Labels) where
  filled : (g : ℕ) (c : Code) → IsFilled (items L g c)
  filled g (Frame n c) = by_last (framed L n) (items L 0 c) (filled 0 c)
  filled g (Make buildings c) = by_last (made L buildings) (items L (group_words buildings) c) (filled (group_words buildings) c)
  filled g (Name h n c) = by_last (named h (8 * (g - n))) (items L g c) (filled g c)
  filled g (Let h s c) = by_last (let_in L h s) (items L g c) (filled g c)
  filled g (Prim f sources c) = by_last (primitive_done L f sources) (items L g c) (filled g c)
  filled g (Take h c) = by_last (taken h) (items L g c) (filled g c)
  filled g (Handler h c) = by_last (handler_kept h) (items L g c) (filled g c)
  filled g (SetHandler s c) = by_last (handler_set L s) (items L g c) (filled g c)
  filled g (When s tests same other) =
      by_last (all_tested L s tests (words (items L 0 same))) (items L 0 same ++ items L 0 other) (by_last (items L 0 same) (items L 0 other) (filled 0 other))
  filled g (Equal a b t k) =
      let last : List Item = item.Jump (routine_label L routine.Equal) ∷ [] in
      by_last (fetched L None 5 a) (fetched L None 6 b ++ (fetched L None 12 k ++ (loaded 7 (truth_word t) ++ last)))
      (by_last (fetched L None 6 b) (fetched L None 12 k ++ (loaded 7 (truth_word t) ++ last))
      (by_last (fetched L None 12 k) (loaded 7 (truth_word t) ++ last) (by_last (loaded 7 (truth_word t)) last (omega arith))))
  filled g (Call t f sources) = by_last (all_moved f sources L (length sources + 1) None (moves_from (length sources) 1)) (jumped t) (jumped_filled t)
  filled g (Throw packet) = by_last (fetched L None 11 packet) (i_item Addi 10 handler (pos 0) ∷ through) (by_first (i_item Addi 10 handler (pos 0)) through (omega arith))
  filled g Halt = omega arith

pub sizes_filled : (p : Placed) (fs : List Function) → AllByRecursion (λ n. 1 ≤ n) (map (λ f. words (function_items p f)) fs)
sizes_filled p [] = tt
sizes_filled p (f ∷ fs) = (filled (labels_of p) 0 (function_code p.bodies f), sizes_filled p fs)

-- ---- Where pieces begin that aren't empty

pub starts_from : (n : ℕ) (sizes : List ℕ) (i : ℕ) → i < length sizes → n ≤ get_or (starts n sizes) i 0
starts_from n [] i h = absurd (omega arith)
starts_from n (k ∷ sizes) zero h = omega arith
starts_from n (k ∷ sizes) (suc i) h = let l = starts_from (n + k) sizes i (omega arith) in omega (arith, l)

pub starts_rise : (n : ℕ) (sizes : List ℕ) (i j : ℕ) → AllByRecursion (λ n. 1 ≤ n) sizes → i < j → j < length sizes → get_or (starts n sizes) i 0 < get_or (starts n sizes) j 0
starts_rise n [] i j f h l = absurd (omega arith)
starts_rise n (k ∷ sizes) i zero f h l = absurd (omega arith)
starts_rise n (k ∷ sizes) zero (suc j) f h l = let m = starts_from (n + k) sizes j (omega arith) in omega (arith, m, f.0)
starts_rise n (k ∷ sizes) (suc i) (suc j) f h l = starts_rise (n + k) sizes i j f.1 (omega arith) (omega arith)
