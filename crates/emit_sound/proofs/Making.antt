-- How blocks are made.
use Rattle.std.proofs.Common.{◌≡◌, ℕ, zero, suc, ◌+◌, ◌*◌, ◌%◌, ◌==◌, cond, pos, List, [], ◌∷◌, ◌++◌, refl, arith}
use Rattle.std.specs.List.{AllByRecursion}
use Rattle.rv_isa.specs.declared.table.Op.TheVariants.{Addi, Bgeu}
use Rattle.rv_isa.specs.Table.{shape_of}
use Rattle.rv_asm.specs.declared.item.Item.{Item}
use Rattle.rv_asm.specs.declared.item.Item.TheVariants as item
use Rattle.rv_asm.specs.Item.{words}
use Rattle.rt_prims.specs.declared.line.Routine.TheVariants.{Full}
use Rattle.closure_ir.specs.declared.operand.Shape.{Shape}
use Rattle.closure_ir.specs.declared.operand.Shape.TheVariants as shape
use Rattle.placed_ir.specs.declared.home.Source.{Source}
use Rattle.placed_ir.specs.declared.home.Building.{Building}
use Rattle.placed_ir.specs.Program.{Placed}
use Rattle.placed_ir.specs.Kept.{SourceKept, ShapeKept, BuildingKept}
use Rattle.emit_items.specs.declared.labels.Labels.{Labels}
use Rattle.emit_items.specs.Items.{i_item, s_item, frame, free, limit, moved}
use Rattle.emit_items.specs.Constants.{loaded}
use Rattle.emit_items.specs.Reading.{word_stored, behind, routine_label, where_got, got}
use Rattle.emit_items.specs.Making.{extra_words, block_length, group_words, header, frame_tag, header_put, filled, header_of, full_end, room, spelling_put, fields_put, block_put, group_put, made, framed}
use Rattle.emit_sound.specs.Sound.{HasLabels}
use Rattle.emit_sound.proofs.Formats.{Sound, both, either, below, register, i_sound, branch_sound}
use Rattle.emit_sound.proofs.Constants.{loaded_sound}
use Rattle.emit_sound.proofs.Short.{full_end_short}
use Rattle.emit_sound.proofs.Reading.{moved_sound, word_stored_sound, behind_sound, held_is, routine_made, got_sound}

even : (n : ℕ) → (4 + 4 * n) % 2 ≡ 0
even n = omega arith

module _ (count : ℕ) where
  header_put_sound : (offset word : ℕ) → Sound count (header_put offset word)
  header_put_sound offset word = both count (loaded 5 word) (word_stored free 5 (8 * offset)) (loaded_sound count 5 (register 5 refl) word) (word_stored_sound count free 5 (8 * offset) (register 8 refl) (register 5 refl))

  filled_sound : (n offset : ℕ) → Sound count (filled n offset)
  filled_sound zero offset = tt
  filled_sound (suc n) offset = both count (word_stored free 5 (8 * offset)) (filled n (offset + 1)) (word_stored_sound count free 5 (8 * offset) (register 8 refl) (register 5 refl)) (filled_sound n (offset + 1))

module _ (p : Placed) (L : Labels) (count : ℕ) (has : HasLabels p L count) where
  -- ---- Room

  full_end_sound : (offset size : ℕ) → Sound count (full_end L offset size)
  full_end_sound offset size =
      both count (cond (offset == 0) [] (behind free free (8 * offset))) (loaded 12 size ++ item.Jump (routine_label L Full) ∷ [])
      (either count (offset == 0) [] (behind free free (8 * offset)) tt (behind_sound count free free (8 * offset) (register 8 refl) (register 8 refl)))
      (both count (loaded 12 size) (item.Jump (routine_label L Full) ∷ []) (loaded_sound count 12 (register 12 refl) size) (routine_made p L count has Full, tt))

  room_sound : (offset size : ℕ) → Sound count (room L offset size)
  unfolding shape_of
  room_sound offset size =
      let n = words (full_end L offset size) in
      let few = full_end_short L offset size in
      both count (behind 7 free (8 * (offset + size))) (s_item Bgeu limit 7 (pos (4 + 4 * n)) ∷ full_end L offset size)
      (behind_sound count 7 free (8 * (offset + size)) (register 7 refl) (register 8 refl))
      (branch_sound count Bgeu limit 7 (4 + 4 * n) refl (register 9 refl) (register 7 refl) (omega arith) (even n), full_end_sound offset size)

  -- ---- Blocks

  spelling_sound : (offset : ℕ) (s : Shape) → ShapeKept p s → Sound count (spelling_put L offset s)
  spelling_sound offset (shape.ExnName x) kept =
      let h = has.spellings in
      ((register 5 refl, omega arith), word_stored_sound count free 5 (8 * offset) (register 8 refl) (register 5 refl))
  spelling_sound offset shape.Tuple kept = tt
  spelling_sound offset (shape.Applied k) kept = tt
  spelling_sound offset shape.Cell kept = tt
  spelling_sound offset shape.Packet kept = tt
  spelling_sound offset (shape.Closure l) kept = tt
  spelling_sound offset (shape.ClassRecord k) kept = tt

  module _ (group : ℕ) where
    fields_sound : (offset : ℕ) (sources : List Source) → AllByRecursion (SourceKept p group) sources → Sound count (fields_put L offset sources)
    fields_sound offset [] kept = tt
    fields_sound offset (s ∷ sources) kept =
        both count (got L 5 s ++ word_stored free (where_got 5 s) (8 * offset)) (fields_put L (offset + 1) sources)
        (both count (got L 5 s) (word_stored free (where_got 5 s) (8 * offset))
        (got_sound p L count has group 5 s kept.0 (register 5 refl))
        (word_stored_sound count free (where_got 5 s) (8 * offset) (register 8 refl) (held_is 5 s (register 5 refl))))
        (fields_sound (offset + 1) sources kept.1)

    block_sound : (offset : ℕ) (b : Building) → BuildingKept p group b → Sound count (block_put L offset b)
    block_sound offset b kept =
        both count (room L offset (block_length b + 1)) (header_put offset (header_of L b.shape (block_length b)) ++ (spelling_put L (offset + 1) b.shape ++ fields_put L (offset + 1 + extra_words b.shape) b.fields))
        (room_sound offset (block_length b + 1))
        (both count (header_put offset (header_of L b.shape (block_length b))) (spelling_put L (offset + 1) b.shape ++ fields_put L (offset + 1 + extra_words b.shape) b.fields)
        (header_put_sound count offset (header_of L b.shape (block_length b)))
        (both count (spelling_put L (offset + 1) b.shape) (fields_put L (offset + 1 + extra_words b.shape) b.fields)
        (spelling_sound (offset + 1) b.shape kept.0)
        (fields_sound (offset + 1 + extra_words b.shape) b.fields kept.1)))

    group_sound : (offset : ℕ) (buildings : List Building) → AllByRecursion (BuildingKept p group) buildings → Sound count (group_put L offset buildings)
    group_sound offset [] kept = tt
    group_sound offset (b ∷ buildings) kept = both count (block_put L offset b) (group_put L (offset + (block_length b + 1)) buildings) (block_sound offset b kept.0) (group_sound (offset + (block_length b + 1)) buildings kept.1)

    pub made_sound : (buildings : List Building) → AllByRecursion (BuildingKept p group) buildings → Sound count (made L buildings)
    made_sound buildings kept =
        both count (group_put L 0 buildings) (behind free free (8 * group_words buildings)) (group_sound 0 buildings kept)
        (behind_sound count free free (8 * group_words buildings) (register 8 refl) (register 8 refl))

  -- ---- Spill records

  pub framed_sound : (n : ℕ) → Sound count (framed L n)
  unfolding shape_of
  framed_sound n =
      let last : List Item = moved frame free ++ behind free free (8 * (n + 1)) in
      both count (room L 0 (n + 1)) (header_put 0 (header 6 frame_tag n) ++ (i_item Addi 5 0 (pos 1) ∷ (filled n 1 ++ last)))
      (room_sound 0 (n + 1))
      (both count (header_put 0 (header 6 frame_tag n)) (i_item Addi 5 0 (pos 1) ∷ (filled n 1 ++ last))
      (header_put_sound count 0 (header 6 frame_tag n)) (
        i_sound count Addi 5 0 (pos 1) refl (register 5 refl) (register 0 refl) (below 1 2048 refl),
        both count (filled n 1) last (filled_sound count n 1)
            (both count (moved frame free) (behind free free (8 * (n + 1))) (moved_sound count frame free (register 2 refl) (register 8 refl)) (behind_sound count free free (8 * (n + 1)) (register 8 refl) (register 8 refl))),
      ))
