-- How blocks are made. While those of a group are, x8 stays at the first, and each has its own check of the arena.
use Rattle.std.specs.Prelude.{ℕ, zero, suc, ◌+◌, ◌-◌, ◌*◌, ◌%◌, ◌^◌, ◌==◌, cond, pos, List, [], ◌∷◌, ◌++◌, length}
use Rattle.rv_isa.specs.declared.table.Op.TheVariants.{Addi, Bgeu}
use Rattle.rv_asm.specs.declared.item.Item.{Item}
use Rattle.rv_asm.specs.declared.item.Item.TheVariants as item
use Rattle.rv_asm.specs.Item.{words}
use Rattle.rt_prims.specs.declared.line.Routine.TheVariants.{Full}
use Rattle.closure_ir.specs.declared.operand.Shape.{Shape}
use Rattle.closure_ir.specs.declared.operand.Shape.TheVariants as shape
use Rattle.placed_ir.specs.declared.home.Source.{Source}
use Rattle.placed_ir.specs.declared.home.Building.{Building}
use Rattle.emit_items.specs.declared.labels.Labels.{Labels}
use Rattle.emit_items.specs.Items.{i_item, s_item, frame, free, limit, moved}
use Rattle.emit_items.specs.Constants.{loaded}
use Rattle.emit_items.specs.Reading.{word_stored, behind, routine_label, where_got, got}

-- ---- Headers and lengths

-- an exception name has its spelling in front
abbrev pub extra_words : Shape → ℕ
extra_words (shape.ExnName x) = 1
extra_words _ = 0

-- the words behind the header
abbrev pub block_length : Building → ℕ
block_length b = extra_words b.shape + length b.fields

abbrev pub group_words : List Building → ℕ
group_words [] = 0
group_words (b ∷ buildings) = (block_length b + 1) + group_words buildings

-- the kind in the lowest 3 bits, then a tag of 29, then the length
abbrev pub header : (kind tag size : ℕ) → ℕ
header kind tag size = (kind + 8 * tag + 2 ^ 32 * size) % 2 ^ 64

-- the tag of spill records
abbrev pub frame_tag : ℕ
frame_tag = 2 ^ 29 - 1

-- ---- Words that are put so many words behind x8

abbrev pub header_put : (offset word : ℕ) → List Item
header_put offset word = loaded 5 word ++ word_stored free 5 (8 * offset)

-- so many words from this one on get what x5 has
abbrev pub filled : (n offset : ℕ) → List Item
filled zero offset = []
filled (suc n) offset = word_stored free 5 (8 * offset) ++ filled n (offset + 1)

module _ (L : Labels) where
  abbrev pub header_of : Shape → ℕ → ℕ
  header_of shape.Tuple n = header 0 0 n
  header_of (shape.Applied k) n = header 1 k n
  header_of shape.Cell n = header 3 0 n
  header_of (shape.ExnName x) n = header 4 0 n
  header_of shape.Packet n = header 5 0 n
  header_of (shape.Closure l) n = header 6 l.0 n
  header_of (shape.ClassRecord k) n = header 6 (L.points + k) n

  -- ---- Room

  -- x12 gets the words of the block that has no room, which would begin so many words behind x8
  abbrev pub full_end : (offset size : ℕ) → List Item
  full_end offset size =
      cond (offset == 0) [] (behind free free (8 * offset)) ++ (loaded 12 size ++ item.Jump (routine_label L Full) ∷ [])

  -- x7 becomes the address behind the block, which is within the arena
  abbrev pub room : (offset size : ℕ) → List Item
  room offset size = behind 7 free (8 * (offset + size)) ++ s_item Bgeu limit 7 (pos (4 + 4 * words (full_end offset size))) ∷ full_end offset size

  -- ---- Blocks

  abbrev pub spelling_put : ℕ → Shape → List Item
  spelling_put offset (shape.ExnName x) = item.Address 5 (L.spellings + x) ∷ word_stored free 5 (8 * offset)
  spelling_put offset _ = []

  abbrev pub fields_put : ℕ → List Source → List Item
  fields_put offset [] = []
  fields_put offset (s ∷ sources) = (got L 5 s ++ word_stored free (where_got 5 s) (8 * offset)) ++ fields_put (offset + 1) sources

  abbrev pub block_put : ℕ → Building → List Item
  block_put offset b =
      room offset ((block_length b + 1))
      ++ (header_put offset (header_of b.shape (block_length b))
      ++ (spelling_put (offset + 1) b.shape ++ fields_put (offset + 1 + extra_words b.shape) b.fields))

  abbrev pub group_put : ℕ → List Building → List Item
  group_put offset [] = []
  group_put offset (b ∷ buildings) = block_put offset b ++ group_put (offset + (block_length b + 1)) buildings

  -- the blocks, and then the next free byte is behind them
  abbrev pub made : List Building → List Item
  made buildings = group_put 0 buildings ++ behind free free (8 * group_words buildings)

  -- ---- Spill records

  -- a record of so many words, each of which is the scalar 0
  abbrev pub framed : ℕ → List Item
  framed n =
      room 0 (n + 1)
      ++ (header_put 0 (header 6 frame_tag n)
      ++ (i_item Addi 5 0 (pos 1) ∷ (filled n 1 ++ (moved frame free ++ behind free free (8 * (n + 1))))))
