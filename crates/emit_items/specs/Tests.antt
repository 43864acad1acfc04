-- What the tests of a rule become. Each is found anew from the value, and where it fails, all goes on behind the rule.
use Rattle.std.specs.Prelude.{ℕ, suc, ◌+◌, ◌*◌, cond, nat_lt, pos, negsuc, Bool, List, [], ◌∷◌, ◌++◌}
use Rattle.smlc_base.specs.declared.match_tests.Tag.{Tag}
use Rattle.rv_isa.specs.declared.table.Op.TheVariants.{Addi, Andi, Beq, Bne, Lwu, Ld, Auipc, Jalr}
use Rattle.rv_asm.specs.declared.item.Item.{Item}
use Rattle.rv_asm.specs.declared.item.Item.TheVariants as item
use Rattle.rv_asm.specs.Item.{words}
use Rattle.rt_prims.specs.declared.line.Routine.TheVariants as routine
use Rattle.placed_ir.specs.declared.home.Source.{Source}
use Rattle.placed_ir.specs.declared.test.Wanted.{Wanted}
use Rattle.placed_ir.specs.declared.test.Wanted.TheVariants as want
use Rattle.placed_ir.specs.declared.test.Test.{Test}
use Rattle.emit_items.specs.declared.labels.Labels.{Labels}
use Rattle.emit_items.specs.Items.{i_item, s_item, u_item, moved}
use Rattle.emit_items.specs.Constants.{lower, upper_immediate, loaded, scalar}
use Rattle.emit_items.specs.Reading.{word_loaded, followed, where_got, got}
use Rattle.emit_items.specs.Primitives.{link}

-- ---- Branches

-- a jump over so many bytes
abbrev pub leap : ℕ → List Item
leap bytes = u_item Auipc 31 (upper_immediate bytes) ∷ i_item Jalr 0 31 (lower bytes) ∷ []

-- where the two differ all goes on behind so many instructions more
abbrev pub fails : (a b after : ℕ) → List Item
fails a b after =
    cond (nat_lt after 1023) (s_item Bne a b (pos (4 * suc after)) ∷ []) (s_item Beq a b (pos 12) ∷ leap (4 * suc (suc after)))

-- ---- What is wanted of a value in a register

-- the number of a constructor in the header of its block
abbrev pub number_wanted : (number a after : ℕ) → List Item
number_wanted number a after = i_item Lwu 7 a (pos 0) ∷ (loaded 31 (1 + 8 * number) ++ fails 7 31 after)

-- A constructor with an argument is told from those without by the lowest bit, and from the others by its header.
abbrev pub block_wanted : Tag → (a after : ℕ) → List Item
block_wanted t a after = cond t.other_takes (number_wanted t.number a after) []

abbrev pub applied_wanted : Tag → (a after : ℕ) → List Item
applied_wanted t a after =
    cond t.other_bare (i_item Andi 7 a (pos 1) ∷ fails 7 0 (after + words (block_wanted t a after))) [] ++ block_wanted t a after

abbrev pub scalar_wanted : (word a after : ℕ) → List Item
scalar_wanted word a after = loaded 7 word ++ fails a 7 after

abbrev pub tag_wanted : Tag → (a after : ℕ) → List Item
tag_wanted t a after = cond t.takes (applied_wanted t a after) (scalar_wanted (1 + 2 * t.number) a after)

-- the name of a packet stands in front of its argument
abbrev pub name_register : Bool → ℕ → ℕ
name_register applied a = cond applied 5 a

abbrev pub name_got : Bool → ℕ → List Item
name_got applied a = cond applied (i_item Ld 5 a (pos 8) ∷ []) []

-- from the register along a way
abbrev pub walked : ℕ → List ℕ → List Item
walked a [] = []
walked a (i ∷ steps) = word_loaded 5 a (8 * suc i) ++ followed 5 steps

abbrev pub walk_register : ℕ → List ℕ → ℕ
walk_register a [] = a
walk_register a (i ∷ steps) = 5

module _ (L : Labels) where
  -- two strings are equal where their comparison is 3
  abbrev pub text_wanted : (text a after : ℕ) → List Item
  text_wanted text a after =
      moved 5 a ++ (item.Address 6 (L.texts + text) ∷ (link L routine.Compare ++ (i_item Addi 5 5 (negsuc 2) ∷ fails 5 0 after)))

  abbrev pub name_wanted : Source → Bool → (a after : ℕ) → List Item
  name_wanted name applied a after = name_got applied a ++ (got L 6 name ++ fails (name_register applied a) (where_got 6 name) after)

  abbrev pub wanted : Wanted → (a after : ℕ) → List Item
  wanted (want.Num z) a after = scalar_wanted (scalar z) a after
  wanted (want.Tag t) a after = tag_wanted t a after
  wanted (want.Text t) a after = text_wanted t a after
  wanted (want.Exn name applied) a after = name_wanted name applied a after

  -- ---- Tests

  abbrev pub tested : Source → Test → ℕ → List Item
  tested subject t after =
      got L 5 subject ++ (walked (where_got 5 subject) t.path ++ wanted t.want (walk_register (where_got 5 subject) t.path) after)

  -- where one fails all goes on behind so many instructions more
  abbrev pub all_tested : Source → List Test → ℕ → List Item
  all_tested subject [] after = []
  all_tested subject (t ∷ tests) after = tested subject t (after + words (all_tested subject tests after)) ++ all_tested subject tests after
