-- What the tests of a rule become.
use Rattle.std.proofs.Common.{◌≡◌, ℕ, suc, ◌+◌, ◌*◌, ◌%◌, ◌<◌, cond, pos, negsuc, Bool, List, [], ◌∷◌, ◌++◌, refl, arith}
use Rattle.std.specs.Prelude.{nat_lt}
use Rattle.std.proofs.lemmas.Bool.{cond_both}
use Rattle.smlc_base.specs.declared.match_tests.Tag.{Tag}
use Rattle.rv_isa.specs.declared.table.Op.TheVariants.{Addi, Andi, Beq, Bne, Lwu, Ld, Auipc, Jalr}
use Rattle.rv_isa.specs.Table.{shape_of}
use Rattle.rv_asm.specs.declared.item.Item.TheVariants as item
use Rattle.rv_asm.specs.Item.{words}
use Rattle.rt_prims.specs.declared.line.Routine.TheVariants as routine
use Rattle.placed_ir.specs.declared.home.Source.{Source}
use Rattle.placed_ir.specs.declared.test.Wanted.{Wanted}
use Rattle.placed_ir.specs.declared.test.Wanted.TheVariants as want
use Rattle.placed_ir.specs.declared.test.Test.{Test}
use Rattle.placed_ir.specs.Program.{Placed}
use Rattle.placed_ir.specs.Kept.{Kept, WantedKept, TestsKept}
use Rattle.emit_items.specs.declared.labels.Labels.{Labels}
use Rattle.emit_items.specs.Items.{i_item, s_item, moved}
use Rattle.emit_items.specs.Constants.{lower, upper_immediate, loaded, scalar}
use Rattle.emit_items.specs.Reading.{word_loaded, followed, where_got, got}
use Rattle.emit_items.specs.Primitives.{link}
use Rattle.emit_items.specs.Tests.{leap, fails, number_wanted, block_wanted, applied_wanted, scalar_wanted, tag_wanted, name_register, name_got, walked, walk_register, text_wanted, name_wanted, wanted, tested, all_tested}
use Rattle.emit_sound.specs.Sound.{HasLabels}
use Rattle.emit_sound.proofs.Formats.{Sound, both, choice, either, below, IsRegister, register, i_sound, branch_sound, upper_sound}
use Rattle.emit_sound.proofs.Constants.{lower_within, upper_within, upper_whole, loaded_sound}
use Rattle.emit_sound.proofs.Reading.{moved_sound, word_loaded_sound, followed_sound, held_is, got_sound}
use Rattle.emit_sound.proofs.Primitives.{link_sound}

module _ (count : ℕ) where
  -- ---- Branches

  leap_sound : (bytes : ℕ) → Sound count (leap bytes)
  unfolding shape_of
  leap_sound bytes = (
    upper_sound count Auipc 31 (upper_immediate bytes) refl (register 31 refl) (upper_within bytes) (upper_whole bytes),
    (i_sound count Jalr 0 31 (lower bytes) refl (register 0 refl) (register 31 refl) (lower_within bytes), tt),
  )

  even : (n : ℕ) → (4 * n) % 2 ≡ 0
  even n = omega arith

  fails_sound : (a b after : ℕ) → IsRegister a → IsRegister b → Sound count (fails a b after)
  unfolding shape_of
  fails_sound a b after p q =
      choice count (nat_lt after 1023) (s_item Bne a b (pos (4 * suc after)) ∷ []) (s_item Beq a b (pos 12) ∷ leap (4 * suc (suc after)))
      (λ e. let l = below after 1023 e in (branch_sound count Bne a b (4 * suc after) refl p q (omega arith) (even (suc after)), tt))
      (λ e. (branch_sound count Beq a b 12 refl p q (below 12 4096 refl) refl, leap_sound (4 * suc (suc after))))

  -- ---- What is wanted of a value in a register

  number_sound : (number a after : ℕ) → IsRegister a → Sound count (number_wanted number a after)
  unfolding shape_of
  number_sound number a after p = (
    i_sound count Lwu 7 a (pos 0) refl (register 7 refl) p (below 0 2048 refl),
    both count (loaded 31 (1 + 8 * number)) (fails 7 31 after) (loaded_sound count 31 (register 31 refl) (1 + 8 * number)) (fails_sound 7 31 after (register 7 refl) (register 31 refl)),
  )

  block_sound : (t : Tag) (a after : ℕ) → IsRegister a → Sound count (block_wanted t a after)
  block_sound t a after p = either count t.other_takes (number_wanted t.number a after) [] (number_sound t.number a after p) tt

  applied_sound : (t : Tag) (a after : ℕ) → IsRegister a → Sound count (applied_wanted t a after)
  unfolding shape_of
  applied_sound t a after p =
      let far = after + words (block_wanted t a after) in
      both count (cond t.other_bare (i_item Andi 7 a (pos 1) ∷ fails 7 0 far) []) (block_wanted t a after)
      (either count t.other_bare (i_item Andi 7 a (pos 1) ∷ fails 7 0 far) []
      (i_sound count Andi 7 a (pos 1) refl (register 7 refl) p (below 1 2048 refl), fails_sound 7 0 far (register 7 refl) (register 0 refl)) tt)
      (block_sound t a after p)

  scalar_sound : (word a after : ℕ) → IsRegister a → Sound count (scalar_wanted word a after)
  scalar_sound word a after p = both count (loaded 7 word) (fails a 7 after) (loaded_sound count 7 (register 7 refl) word) (fails_sound a 7 after p (register 7 refl))

  tag_sound : (t : Tag) (a after : ℕ) → IsRegister a → Sound count (tag_wanted t a after)
  tag_sound t a after p = either count t.takes (applied_wanted t a after) (scalar_wanted (1 + 2 * t.number) a after) (applied_sound t a after p) (scalar_sound (1 + 2 * t.number) a after p)

  name_is : (applied : Bool) (a : ℕ) → IsRegister a → IsRegister (name_register applied a)
  name_is applied a p = cond_both applied 5 a IsRegister (λ e. register 5 refl) (λ e. p)

  name_got_sound : (applied : Bool) (a : ℕ) → IsRegister a → Sound count (name_got applied a)
  unfolding shape_of
  name_got_sound applied a p = either count applied (i_item Ld 5 a (pos 8) ∷ []) [] (i_sound count Ld 5 a (pos 8) refl (register 5 refl) p (below 8 2048 refl), tt) tt

  walked_sound : (a : ℕ) (steps : List ℕ) → IsRegister a → Sound count (walked a steps)
  walked_sound a [] p = tt
  walked_sound a (i ∷ steps) p = both count (word_loaded 5 a (8 * suc i)) (followed 5 steps) (word_loaded_sound count 5 a (8 * suc i) (register 5 refl) p) (followed_sound count 5 steps (register 5 refl))

  walk_is : (a : ℕ) (steps : List ℕ) → IsRegister a → IsRegister (walk_register a steps)
  walk_is a [] p = p
  walk_is a (i ∷ steps) p = register 5 refl

module _ (p : Placed) (L : Labels) (count : ℕ) (has : HasLabels p L count) where
  text_sound : (text a after : ℕ) → WantedKept p (want.Text text) → IsRegister a → Sound count (text_wanted L text a after)
  unfolding shape_of
  text_sound text a after kept q =
      let made : L.texts + text < count = let h = has.texts in omega arith in
      both count (moved 5 a) (item.Address 6 (L.texts + text) ∷ (link L routine.Compare ++ (i_item Addi 5 5 (negsuc 2) ∷ fails 5 0 after)))
      (moved_sound count 5 a (register 5 refl) q) (
        (register 6 refl, made),
        both count (link L routine.Compare) (i_item Addi 5 5 (negsuc 2) ∷ fails 5 0 after) (link_sound p L count has routine.Compare)
            (i_sound count Addi 5 5 (negsuc 2) refl (register 5 refl) (register 5 refl) (below 2 2048 refl), fails_sound count 5 0 after (register 5 refl) (register 0 refl)),
      )

  name_sound : (name : Source) (applied : Bool) (a after : ℕ) → Kept p name → IsRegister a → Sound count (name_wanted L name applied a after)
  name_sound name applied a after kept q =
      both count (name_got applied a) (got L 6 name ++ fails (name_register applied a) (where_got 6 name) after) (name_got_sound count applied a q)
      (both count (got L 6 name) (fails (name_register applied a) (where_got 6 name) after) (got_sound p L count has 0 6 name kept (register 6 refl))
      (fails_sound count (name_register applied a) (where_got 6 name) after (name_is count applied a q) (held_is 6 name (register 6 refl))))

  wanted_sound : (w : Wanted) (a after : ℕ) → WantedKept p w → IsRegister a → Sound count (wanted L w a after)
  wanted_sound (want.Num z) a after kept q = scalar_sound count (scalar z) a after q
  wanted_sound (want.Tag t) a after kept q = tag_sound count t a after q
  wanted_sound (want.Text t) a after kept q = text_sound t a after kept q
  wanted_sound (want.Exn name applied) a after kept q = name_sound name applied a after kept q

  -- ---- Tests

  tested_sound : (subject : Source) (t : Test) (after : ℕ) → Kept p subject → WantedKept p t.want → Sound count (tested L subject t after)
  tested_sound subject t after k w =
      let a = where_got 5 subject in
      let is = held_is 5 subject (register 5 refl) in
      both count (got L 5 subject) (walked a t.path ++ wanted L t.want (walk_register a t.path) after) (got_sound p L count has 0 5 subject k (register 5 refl))
      (both count (walked a t.path) (wanted L t.want (walk_register a t.path) after) (walked_sound count a t.path is) (wanted_sound t.want (walk_register a t.path) after w (walk_is count a t.path is)))

  pub all_tested_sound : (subject : Source) (tests : List Test) (after : ℕ) → Kept p subject → TestsKept p tests → Sound count (all_tested L subject tests after)
  all_tested_sound subject [] after k w = tt
  all_tested_sound subject (t ∷ tests) after k w =
      let rest = all_tested L subject tests after in
      both count (tested L subject t (after + words rest)) rest (tested_sound subject t (after + words rest) k w.0) (all_tested_sound subject tests after k w.1)
