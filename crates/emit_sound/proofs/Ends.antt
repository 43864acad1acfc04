-- What ends of bodies become.
use Rattle.std.proofs.Common.{ℕ, zero, suc, ◌+◌, ◌-◌, ◌==◌, Bool, pos, List, [], ◌∷◌, ◌++◌, Option, Some, None, refl, length, slice_get, arith}
use Rattle.std.specs.List.{AllByRecursion}
use Rattle.std.proofs.lemmas.Bool.{cond_both}
use Rattle.rv_isa.specs.declared.table.Op.TheVariants.{Addi, Ld, Jalr}
use Rattle.rv_isa.specs.Table.{shape_of}
use Rattle.rv_asm.specs.declared.item.Item.{Item}
use Rattle.rv_asm.specs.declared.item.Item.TheVariants as item
use Rattle.rt_prims.specs.declared.line.Routine.TheVariants as routine
use Rattle.closure_ir.specs.declared.body.Target.{Target}
use Rattle.closure_ir.specs.declared.body.Target.TheVariants as target
use Rattle.placed_ir.specs.declared.home.Source.{Source}
use Rattle.placed_ir.specs.Program.{Placed}
use Rattle.placed_ir.specs.Kept.{Kept, TargetKept}
use Rattle.emit_items.specs.declared.labels.Labels.{Labels}
use Rattle.emit_items.specs.Items.{i_item, handler, value_register}
use Rattle.emit_items.specs.Constants.{loaded}
use Rattle.emit_items.specs.Reading.{routine_label, fetched}
use Rattle.emit_items.specs.Ends.{source_at, place_in, then_saved, saves, moves_from, fetched_from, first_free, saved_next, left_next, move_done, next_moved, all_moved, through, jumped, truth_word, call, thrown, compared, halted}
use Rattle.emit_sound.specs.Sound.{HasLabels}
use Rattle.emit_sound.proofs.Formats.{Sound, both, below, register, i_sound}
use Rattle.emit_sound.proofs.Constants.{loaded_sound}
use Rattle.emit_sound.proofs.Reading.{value_is, routine_made, fetched_sound}

module _ (p : Placed) (L : Labels) (count : ℕ) (has : HasLabels p L count) where
  -- ---- Moves at once

  abbrev OneKept : Option Source → Type 0
  OneKept None = Unit {0}
  OneKept (Some s) = Kept p s

  got_kept : (sources : List Source) (i : ℕ) → AllByRecursion (Kept p) sources → OneKept (slice_get sources i)
  got_kept [] i kept = tt
  got_kept (s ∷ sources) zero kept = kept.0
  got_kept (s ∷ sources) (suc i) kept = got_kept sources i kept.1

  fetched_from_sound : (saved : Option ℕ) (m : ℕ) (o : Option Source) → OneKept o → Sound count (fetched_from L saved m o)
  fetched_from_sound saved m None kept = tt
  fetched_from_sound saved m (Some s) kept = fetched_sound p L count has 0 saved (value_register m) s kept (value_is m)

  saves_sound : (next : Option ℕ) (moves : List ℕ) → Sound count (saves next moves)
  unfolding shape_of
  saves_sound None [] = tt
  saves_sound None (m ∷ moves) = (i_sound count Addi 5 (value_register m) (pos 0) refl (register 5 refl) (value_is m) (below 0 2048 refl), tt)
  saves_sound (Some i) moves = tt

  module _ (f : Source) (sources : List Source) (kept : Kept p f) (all : AllByRecursion (Kept p) sources) where
    at_kept : (k : ℕ) → OneKept (source_at f sources k)
    at_kept k = cond_both (k == 0) (Some f) (slice_get sources (k - 1)) OneKept (λ e. kept) (λ e. got_kept sources (k - 1) all)

    move_done_sound : (saved m : Option ℕ) → Sound count (move_done f sources L saved m)
    move_done_sound saved None = tt
    move_done_sound saved (Some m) = fetched_from_sound saved m (source_at f sources m) (at_kept m)

    next_sound : (saved : Option ℕ) (moves : List ℕ) → Sound count (next_moved f sources L saved moves)
    next_sound saved moves =
        let next = first_free f sources saved moves moves 0 in
        let move = slice_get moves (place_in next) in
        both count (saves next moves) (move_done f sources L (then_saved next saved moves) move) (saves_sound next moves) (move_done_sound (then_saved next saved moves) move)

    all_moved_sound : (n : ℕ) (saved : Option ℕ) (moves : List ℕ) → Sound count (all_moved f sources L n saved moves)
    all_moved_sound zero saved moves = tt
    all_moved_sound (suc n) saved moves =
        let now = saved_next f sources saved moves in
        let left = left_next f sources saved moves in
        both count (next_moved f sources L saved moves) (all_moved f sources L n now left) (next_sound saved moves) (all_moved_sound n now left)

  -- ---- Calls

  through_sound : Sound count through
  unfolding shape_of
  through_sound = (
    i_sound count Ld 31 10 (pos 8) refl (register 31 refl) (register 10 refl) (below 8 2048 refl),
    (i_sound count Jalr 0 31 (pos 0) refl (register 0 refl) (register 31 refl) (below 0 2048 refl), tt),
  )

  jumped_sound : (t : Target) → TargetKept p t → Sound count (jumped t)
  jumped_sound (target.Known l) kept = let h = has.functions in (omega arith, tt)
  jumped_sound target.Through kept = through_sound

  pub call_sound : (t : Target) (f : Source) (sources : List Source) → TargetKept p t → Kept p f → AllByRecursion (Kept p) sources → Sound count (call L t f sources)
  call_sound t f sources k kept all =
      let n = length sources in
      both count (all_moved f sources L (n + 1) None (moves_from n 1)) (jumped t) (all_moved_sound f sources kept all (n + 1) None (moves_from n 1)) (jumped_sound t k)

  -- ---- The other ends

  pub thrown_sound : (s : Source) → Kept p s → Sound count (thrown L s)
  unfolding shape_of
  thrown_sound s kept =
      both count (fetched L None 11 s) (i_item Addi 10 handler (pos 0) ∷ through) (fetched_sound p L count has 0 None 11 s kept (register 11 refl))
      (i_sound count Addi 10 handler (pos 0) refl (register 10 refl) (register 18 refl) (below 0 2048 refl), through_sound)

  pub compared_sound : (a b : Source) (t : Bool) (k : Source) → Kept p a → Kept p b → Kept p k → Sound count (compared L a b t k)
  compared_sound a b t k ka kb kk =
      let last : List Item = item.Jump (routine_label L routine.Equal) ∷ [] in
      both count (fetched L None 5 a) (fetched L None 6 b ++ (fetched L None 12 k ++ (loaded 7 (truth_word t) ++ last))) (fetched_sound p L count has 0 None 5 a ka (register 5 refl))
      (both count (fetched L None 6 b) (fetched L None 12 k ++ (loaded 7 (truth_word t) ++ last)) (fetched_sound p L count has 0 None 6 b kb (register 6 refl))
      (both count (fetched L None 12 k) (loaded 7 (truth_word t) ++ last) (fetched_sound p L count has 0 None 12 k kk (register 12 refl))
      (both count (loaded 7 (truth_word t)) last (loaded_sound count 7 (register 7 refl) (truth_word t)) (routine_made p L count has routine.Equal, tt))))

  pub halted_sound : Sound count (halted L)
  halted_sound = (routine_made p L count has routine.Halt, tt)
