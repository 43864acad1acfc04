-- What primitives become.
use Rattle.std.proofs.Common.{◌≡◌, ℕ, zero, suc, cond, ℤ, pos, negsuc, List, [], ◌∷◌, ◌++◌, true, Option, Some, None, refl, arith}
use Rattle.std.specs.Prelude.{neg_ℤ, ◌+ℤ◌}
use Rattle.std.specs.List.{AllByRecursion}
use Rattle.smlc_base.specs.declared.primitive.Primitive.{Primitive}
use Rattle.smlc_base.specs.declared.primitive.Primitive.TheVariants as primitive
use Rattle.rv_isa.specs.declared.table.Op.{Op}
use Rattle.rv_isa.specs.declared.table.Op.TheVariants.{Addi, Slti, Sltiu, Xori, Slli, Srai, Add, Sub, Slt, Xor, And, Mul, Mulh, Div, Rem, Beq, Bne, Bge, Ld, Sd, Jalr}
use Rattle.rv_isa.specs.declared.table.Format.TheVariants.{B}
use Rattle.rv_isa.specs.Table.{shape_of}
use Rattle.rv_isa.specs.Word.{IsWithin}
use Rattle.rv_asm.specs.declared.item.Item.{Item}
use Rattle.rt_prims.specs.declared.line.Routine.{Routine}
use Rattle.rt_prims.specs.declared.line.Routine.TheVariants as routine
use Rattle.placed_ir.specs.declared.home.Source.{Source}
use Rattle.placed_ir.specs.declared.home.Source.TheVariants as source
use Rattle.placed_ir.specs.Program.{Placed}
use Rattle.placed_ir.specs.Kept.{Kept}
use Rattle.emit_items.specs.declared.labels.Labels.{Labels}
use Rattle.emit_items.specs.Items.{r_item, i_item, s_item}
use Rattle.emit_items.specs.Reading.{fetched, where_got, got}
use Rattle.emit_items.specs.Primitives.{empty_record, is_small, less, not_less, deref, assign, divided, rounded, quotient_word, left, left_rounded, left_word, grown_by, routine_of, routine_result, unless, plus, minus, times, divisor, quotient, modulo, negate, absolute, chr, of_one, of_two, more, source_more, link, arguments, called, two_got, summed, differed, on_two, inline, by_routine, primitive_done}
use Rattle.emit_sound.specs.Sound.{HasLabels}
use Rattle.emit_sound.proofs.Formats.{Sound, both, choice, below, IsRegister, register, r_sound, i_sound, shift_sound, store_sound, branch_sound}
use Rattle.emit_sound.proofs.Reading.{held_is, routine_made, fetched_sound, got_sound}

-- ---- Small ints

doubled_within : (z : ℤ) → is_small z ≡ true → IsWithin 2048 (z +ℤ z)
doubled_within (pos n) e = let l = below n 1024 e in omega (arith, l)
doubled_within (negsuc n) e = let l = below n 1023 e in omega (arith, l)

neg_within : (z : ℤ) → is_small z ≡ true → IsWithin 2048 (neg_ℤ z +ℤ neg_ℤ z)
neg_within (pos zero) e = below 0 2048 refl
neg_within (pos (suc n)) e = let l = below (suc n) 1024 e in omega (arith, l)
neg_within (negsuc n) e = let l = below n 1023 e in omega (arith, l)

module _ (count : ℕ) where
  -- ---- On words

  empty_record_sound : Sound count empty_record
  unfolding shape_of
  empty_record_sound = (i_sound count Addi 5 0 (pos 1) refl (register 5 refl) (register 0 refl) (below 1 2048 refl), tt)

  less_sound : (a b : ℕ) → IsRegister a → IsRegister b → Sound count (less a b)
  unfolding shape_of
  less_sound a b p q = (
    r_sound count Slt 5 a b refl (register 5 refl) p q,
    (
      shift_sound count Slli 5 5 (pos 1) refl (register 5 refl) (register 5 refl) (below 1 64 refl),
      (i_sound count Addi 5 5 (pos 1) refl (register 5 refl) (register 5 refl) (below 1 2048 refl), tt),
    ),
  )

  not_less_sound : (a b : ℕ) → IsRegister a → IsRegister b → Sound count (not_less a b)
  unfolding shape_of
  not_less_sound a b p q = (
    r_sound count Slt 5 a b refl (register 5 refl) p q,
    (
      i_sound count Xori 5 5 (pos 1) refl (register 5 refl) (register 5 refl) (below 1 2048 refl),
      (
        shift_sound count Slli 5 5 (pos 1) refl (register 5 refl) (register 5 refl) (below 1 64 refl),
        (i_sound count Addi 5 5 (pos 1) refl (register 5 refl) (register 5 refl) (below 1 2048 refl), tt),
      ),
    ),
  )

  deref_sound : (a : ℕ) → IsRegister a → Sound count (deref a)
  unfolding shape_of
  deref_sound a p = (i_sound count Ld 5 a (pos 8) refl (register 5 refl) p (below 8 2048 refl), tt)

  assign_sound : (a b : ℕ) → IsRegister a → IsRegister b → Sound count (assign a b)
  unfolding shape_of
  assign_sound a b p q = (store_sound count Sd a b (pos 8) refl p q (below 8 2048 refl), empty_record_sound)

  divided_sound : (a : ℕ) → IsRegister a → Sound count (divided a)
  unfolding shape_of
  divided_sound a p = (
    shift_sound count Srai 6 a (pos 1) refl (register 6 refl) p (below 1 64 refl),
    (
      r_sound count Rem 31 6 7 refl (register 31 refl) (register 6 refl) (register 7 refl),
      (r_sound count Div 6 6 7 refl (register 6 refl) (register 6 refl) (register 7 refl), tt),
    ),
  )

  rounded_sound : Sound count rounded
  unfolding shape_of
  rounded_sound = (
    branch_sound count Beq 31 0 16 refl (register 31 refl) (register 0 refl) (below 16 4096 refl) refl,
    (
      r_sound count Xor 31 31 7 refl (register 31 refl) (register 31 refl) (register 7 refl),
      (
        branch_sound count Bge 31 0 8 refl (register 31 refl) (register 0 refl) (below 8 4096 refl) refl,
        (i_sound count Addi 6 6 (negsuc 0) refl (register 6 refl) (register 6 refl) (below 0 2048 refl), tt),
      ),
    ),
  )

  quotient_word_sound : Sound count quotient_word
  unfolding shape_of
  quotient_word_sound = (
    shift_sound count Slli 7 6 (pos 1) refl (register 7 refl) (register 6 refl) (below 1 64 refl),
    (shift_sound count Srai 31 7 (pos 1) refl (register 31 refl) (register 7 refl) (below 1 64 refl), tt),
  )

  left_sound : (a : ℕ) → IsRegister a → Sound count (left a)
  unfolding shape_of
  left_sound a p = (
    shift_sound count Srai 6 a (pos 1) refl (register 6 refl) p (below 1 64 refl),
    (r_sound count Rem 6 6 7 refl (register 6 refl) (register 6 refl) (register 7 refl), tt),
  )

  left_rounded_sound : Sound count left_rounded
  unfolding shape_of
  left_rounded_sound = (
    branch_sound count Beq 6 0 16 refl (register 6 refl) (register 0 refl) (below 16 4096 refl) refl,
    (
      r_sound count Xor 31 6 7 refl (register 31 refl) (register 6 refl) (register 7 refl),
      (
        branch_sound count Bge 31 0 8 refl (register 31 refl) (register 0 refl) (below 8 4096 refl) refl,
        (r_sound count Add 6 6 7 refl (register 6 refl) (register 6 refl) (register 7 refl), tt),
      ),
    ),
  )

  left_word_sound : Sound count left_word
  unfolding shape_of
  left_word_sound = (
    shift_sound count Slli 6 6 (pos 1) refl (register 6 refl) (register 6 refl) (below 1 64 refl),
    (i_sound count Addi 5 6 (pos 1) refl (register 5 refl) (register 6 refl) (below 1 2048 refl), tt),
  )

  result_sound : (f : Primitive) → Sound count (routine_result f)
  result_sound primitive.Print = empty_record_sound
  result_sound _ = tt

module _ (p : Placed) (L : Labels) (count : ℕ) (has : HasLabels p L count) where
  unless_sound : (op : Op) (a b : ℕ) (r : Routine) → (shape_of op).format ≡ B → IsRegister a → IsRegister b → Sound count (unless L op a b r)
  unless_sound op a b r e p q = (branch_sound count op a b 12 e p q (below 12 4096 refl) refl, (routine_made _ L count has r, tt))

  one_more : Sound count (i_item Addi 5 7 (pos 1) ∷ [])
  unfolding shape_of
  one_more = (i_sound count Addi 5 7 (pos 1) refl (register 5 refl) (register 7 refl) (below 1 2048 refl), tt)

  plus_sound : (a b : ℕ) → IsRegister a → IsRegister b → Sound count (plus L a b)
  unfolding shape_of
  plus_sound a b q r =
      both count (i_item Addi 7 b (negsuc 0) ∷ r_item Add 5 a 7 ∷ r_item Slt 31 5 a ∷ i_item Slti 7 7 (pos 0) ∷ []) (unless L Beq 31 7 routine.Overflow) (
        i_sound count Addi 7 b (negsuc 0) refl (register 7 refl) r (below 0 2048 refl),
        (
          r_sound count Add 5 a 7 refl (register 5 refl) q (register 7 refl),
          (
            r_sound count Slt 31 5 a refl (register 31 refl) (register 5 refl) q,
            (i_sound count Slti 7 7 (pos 0) refl (register 7 refl) (register 7 refl) (below 0 2048 refl), tt),
          ),
        ),
      )
      (unless_sound Beq 31 7 routine.Overflow refl (register 31 refl) (register 7 refl))

  minus_sound : (a b : ℕ) → IsRegister a → IsRegister b → Sound count (minus L a b)
  unfolding shape_of
  minus_sound a b q r =
      both count (i_item Addi 7 b (negsuc 0) ∷ r_item Sub 5 a 7 ∷ r_item Slt 31 a 5 ∷ i_item Slti 7 7 (pos 0) ∷ []) (unless L Beq 31 7 routine.Overflow) (
        i_sound count Addi 7 b (negsuc 0) refl (register 7 refl) r (below 0 2048 refl),
        (
          r_sound count Sub 5 a 7 refl (register 5 refl) q (register 7 refl),
          (
            r_sound count Slt 31 a 5 refl (register 31 refl) q (register 5 refl),
            (i_sound count Slti 7 7 (pos 0) refl (register 7 refl) (register 7 refl) (below 0 2048 refl), tt),
          ),
        ),
      )
      (unless_sound Beq 31 7 routine.Overflow refl (register 31 refl) (register 7 refl))

  times_sound : (a b : ℕ) → IsRegister a → IsRegister b → Sound count (times L a b)
  unfolding shape_of
  times_sound a b q r =
      both count (i_item Srai 31 b (pos 1) ∷ i_item Addi 7 a (negsuc 0) ∷ r_item Mulh 6 7 31 ∷ r_item Mul 7 7 31 ∷ i_item Srai 31 7 (pos 63) ∷ []) (unless L Beq 6 31 routine.Overflow ++ i_item Addi 5 7 (pos 1) ∷ []) (
        shift_sound count Srai 31 b (pos 1) refl (register 31 refl) r (below 1 64 refl),
        (
          i_sound count Addi 7 a (negsuc 0) refl (register 7 refl) q (below 0 2048 refl),
          (
            r_sound count Mulh 6 7 31 refl (register 6 refl) (register 7 refl) (register 31 refl),
            (
              r_sound count Mul 7 7 31 refl (register 7 refl) (register 7 refl) (register 31 refl),
              (shift_sound count Srai 31 7 (pos 63) refl (register 31 refl) (register 7 refl) (below 63 64 refl), tt),
            ),
          ),
        ),
      )
      (both count (unless L Beq 6 31 routine.Overflow) (i_item Addi 5 7 (pos 1) ∷ []) (unless_sound Beq 6 31 routine.Overflow refl (register 6 refl) (register 31 refl)) one_more)

  divisor_sound : (b : ℕ) → IsRegister b → Sound count (divisor L b)
  unfolding shape_of
  divisor_sound b r = (shift_sound count Srai 7 b (pos 1) refl (register 7 refl) r (below 1 64 refl), unless_sound Bne 7 0 routine.Div refl (register 7 refl) (register 0 refl))

  quotient_sound : (a b : ℕ) → IsRegister a → IsRegister b → Sound count (quotient L a b)
  unfolding shape_of
  quotient_sound a b q r =
      let last : List Item = unless L Beq 31 6 routine.Overflow ++ i_item Addi 5 7 (pos 1) ∷ [] in
      both count (divisor L b) (divided a ++ (rounded ++ (quotient_word ++ last))) (divisor_sound b r)
      (both count (divided a) (rounded ++ (quotient_word ++ last)) (divided_sound count a q)
      (both count rounded (quotient_word ++ last) (rounded_sound count)
      (both count quotient_word last (quotient_word_sound count)
      (both count (unless L Beq 31 6 routine.Overflow) (i_item Addi 5 7 (pos 1) ∷ []) (unless_sound Beq 31 6 routine.Overflow refl (register 31 refl) (register 6 refl)) one_more))))

  modulo_sound : (a b : ℕ) → IsRegister a → IsRegister b → Sound count (modulo L a b)
  modulo_sound a b q r =
      both count (divisor L b) (left a ++ (left_rounded ++ left_word)) (divisor_sound b r)
      (both count (left a) (left_rounded ++ left_word) (left_sound count a q)
      (both count left_rounded left_word (left_rounded_sound count) (left_word_sound count)))

  negate_sound : (a : ℕ) → IsRegister a → Sound count (negate L a)
  unfolding shape_of
  negate_sound a q =
      both count (i_item Addi 5 0 (pos 2) ∷ r_item Sub 5 5 a ∷ r_item And 31 5 a ∷ []) (unless L Bge 31 0 routine.Overflow) (
        i_sound count Addi 5 0 (pos 2) refl (register 5 refl) (register 0 refl) (below 2 2048 refl),
        (
          r_sound count Sub 5 5 a refl (register 5 refl) (register 5 refl) q,
          (r_sound count And 31 5 a refl (register 31 refl) (register 5 refl) q, tt),
        ),
      )
      (unless_sound Bge 31 0 routine.Overflow refl (register 31 refl) (register 0 refl))

  absolute_sound : (a : ℕ) → IsRegister a → Sound count (absolute L a)
  unfolding shape_of
  absolute_sound a q =
      both count (i_item Addi 5 a (pos 0) ∷ s_item Bge 5 0 (pos 24) ∷ i_item Addi 5 0 (pos 2) ∷ r_item Sub 5 5 a ∷ []) (unless L Bge 5 0 routine.Overflow) (
        i_sound count Addi 5 a (pos 0) refl (register 5 refl) q (below 0 2048 refl),
        (
          branch_sound count Bge 5 0 24 refl (register 5 refl) (register 0 refl) (below 24 4096 refl) refl,
          (
            i_sound count Addi 5 0 (pos 2) refl (register 5 refl) (register 0 refl) (below 2 2048 refl),
            (r_sound count Sub 5 5 a refl (register 5 refl) (register 5 refl) q, tt),
          ),
        ),
      )
      (unless_sound Bge 5 0 routine.Overflow refl (register 5 refl) (register 0 refl))

  copied : (a : ℕ) → IsRegister a → Sound count (i_item Addi 5 a (pos 0) ∷ [])
  unfolding shape_of
  copied a q = (i_sound count Addi 5 a (pos 0) refl (register 5 refl) q (below 0 2048 refl), tt)

  chr_sound : (a : ℕ) → IsRegister a → Sound count (chr L a)
  unfolding shape_of
  chr_sound a q = (
    i_sound count Sltiu 7 a (pos 512) refl (register 7 refl) q (below 512 2048 refl),
    both count (unless L Bne 7 0 routine.Chr) (i_item Addi 5 a (pos 0) ∷ []) (unless_sound Bne 7 0 routine.Chr refl (register 7 refl) (register 0 refl)) (copied a q),
  )

  of_one_sound : (f : Primitive) (a : ℕ) → IsRegister a → Sound count (of_one L f a)
  of_one_sound primitive.Negate a q = negate_sound a q
  of_one_sound primitive.Abs a q = absolute_sound a q
  of_one_sound primitive.Deref a q = deref_sound count a q
  of_one_sound primitive.Ord a q = copied a q
  of_one_sound primitive.Chr a q = chr_sound a q
  of_one_sound _ a q = tt

  of_two_sound : (f : Primitive) (a b : ℕ) → IsRegister a → IsRegister b → Sound count (of_two L f a b)
  of_two_sound primitive.Plus a b q r = plus_sound a b q r
  of_two_sound primitive.Minus a b q r = minus_sound a b q r
  of_two_sound primitive.Times a b q r = times_sound a b q r
  of_two_sound primitive.Quotient a b q r = quotient_sound a b q r
  of_two_sound primitive.Modulo a b q r = modulo_sound a b q r
  of_two_sound primitive.Less a b q r = less_sound count a b q r
  of_two_sound primitive.Greater a b q r = less_sound count b a r q
  of_two_sound primitive.AtMost a b q r = not_less_sound count b a r q
  of_two_sound primitive.AtLeast a b q r = not_less_sound count a b q r
  of_two_sound primitive.Assign a b q r = assign_sound count a b q r
  of_two_sound _ a b q r = tt

  -- ---- A small int more

  grown_is : (z : ℤ) → (shape_of (grown_by z)).format ≡ B
  unfolding shape_of
  grown_is (pos n) = refl
  grown_is (negsuc n) = refl

  more_sound : (z : ℤ) (a : ℕ) → IsWithin 2048 (z +ℤ z) → IsRegister a → Sound count (more L z a)
  unfolding shape_of
  more_sound z a w q = (i_sound count Addi 5 a (z +ℤ z) refl (register 5 refl) q w, unless_sound (grown_by z) 5 a routine.Overflow (grown_is z) (register 5 refl) q)

  source_more_sound : (z : ℤ) (s : Source) → IsWithin 2048 (z +ℤ z) → Kept p s → Sound count (source_more L z s)
  source_more_sound z s w kept = both count (got L 6 s) (more L z (where_got 6 s)) (got_sound p L count has 0 6 s kept (register 6 refl)) (more_sound z (where_got 6 s) w (held_is 6 s (register 6 refl)))

  -- ---- Routines

  pub link_sound : (r : Routine) → Sound count (link L r)
  unfolding shape_of
  link_sound r = ((register 31 refl, routine_made p L count has r), (i_sound count Jalr 31 31 (pos 0) refl (register 31 refl) (register 31 refl) (below 0 2048 refl), tt))

  fetched_to : (rd : ℕ) (s : Source) → Kept p s → IsRegister rd → Sound count (fetched L None rd s)
  fetched_to rd s kept r = fetched_sound p L count has 0 None rd s kept r

  arguments_sound : (sources : List Source) → AllByRecursion (Kept p) sources → Sound count (arguments L sources)
  arguments_sound [] kept = tt
  arguments_sound (a ∷ []) kept = fetched_to 5 a kept.0 (register 5 refl)
  arguments_sound (a ∷ b ∷ []) kept = both count (fetched L None 5 a) (fetched L None 6 b) (fetched_to 5 a kept.0 (register 5 refl)) (fetched_to 6 b kept.1.0 (register 6 refl))
  arguments_sound (a ∷ b ∷ c ∷ []) kept =
      both count (fetched L None 5 a) (fetched L None 6 b ++ fetched L None 7 c) (fetched_to 5 a kept.0 (register 5 refl))
      (both count (fetched L None 6 b) (fetched L None 7 c) (fetched_to 6 b kept.1.0 (register 6 refl)) (fetched_to 7 c kept.1.1.0 (register 7 refl)))
  arguments_sound (a ∷ b ∷ c ∷ d ∷ sources) kept = tt

  called_sound : (f : Primitive) (r : Routine) (sources : List Source) → AllByRecursion (Kept p) sources → Sound count (called L f r sources)
  called_sound f r sources kept = both count (arguments L sources) (link L r ++ routine_result f) (arguments_sound sources kept) (both count (link L r) (routine_result f) (link_sound r) (result_sound count f))

  -- ---- All

  two_got_sound : (f : Primitive) (a b : Source) → Kept p a → Kept p b → Sound count (two_got L f a b)
  two_got_sound f a b k l =
      both count (got L 6 a) (got L 7 b ++ of_two L f (where_got 6 a) (where_got 7 b)) (got_sound p L count has 0 6 a k (register 6 refl))
      (both count (got L 7 b) (of_two L f (where_got 6 a) (where_got 7 b)) (got_sound p L count has 0 7 b l (register 7 refl))
      (of_two_sound f (where_got 6 a) (where_got 7 b) (held_is 6 a (register 6 refl)) (held_is 7 b (register 7 refl))))

  -- a literal in front or behind
  first_small : (y : ℤ) (b : Source) → Kept p (source.Literal y) → Kept p b → Sound count (cond (is_small y) (source_more L y b) (two_got L primitive.Plus (source.Literal y) b))
  first_small y b k l =
      choice count (is_small y) (source_more L y b) (two_got L primitive.Plus (source.Literal y) b)
      (λ e. source_more_sound y b (doubled_within y e) l)
      (λ e. two_got_sound primitive.Plus (source.Literal y) b k l)

  last_small : (a : Source) (z : ℤ) → Kept p a → Kept p (source.Literal z) → Sound count (cond (is_small z) (source_more L z a) (two_got L primitive.Plus a (source.Literal z)))
  last_small a z k l =
      choice count (is_small z) (source_more L z a) (two_got L primitive.Plus a (source.Literal z))
      (λ e. source_more_sound z a (doubled_within z e) k)
      (λ e. two_got_sound primitive.Plus a (source.Literal z) k l)

  taken_small : (a : Source) (z : ℤ) → Kept p a → Kept p (source.Literal z) → Sound count (cond (is_small z) (source_more L (neg_ℤ z) a) (two_got L primitive.Minus a (source.Literal z)))
  taken_small a z k l =
      choice count (is_small z) (source_more L (neg_ℤ z) a) (two_got L primitive.Minus a (source.Literal z))
      (λ e. source_more_sound (neg_ℤ z) a (neg_within z e) k)
      (λ e. two_got_sound primitive.Minus a (source.Literal z) k l)

  summed_sound : (a b : Source) → Kept p a → Kept p b → Sound count (summed L a b)
  summed_sound (source.Literal y) b k l = first_small y b k l
  summed_sound a (source.Literal z) k l = last_small a z k l
  summed_sound a b k l = two_got_sound primitive.Plus a b k l

  differed_sound : (a b : Source) → Kept p a → Kept p b → Sound count (differed L a b)
  differed_sound a (source.Literal z) k l = taken_small a z k l
  differed_sound a b k l = two_got_sound primitive.Minus a b k l

  on_two_sound : (f : Primitive) (a b : Source) → Kept p a → Kept p b → Sound count (on_two L f a b)
  on_two_sound primitive.Plus a b k l = summed_sound a b k l
  on_two_sound primitive.Minus a b k l = differed_sound a b k l
  on_two_sound f a b k l = two_got_sound f a b k l

  inline_sound : (f : Primitive) (sources : List Source) → AllByRecursion (Kept p) sources → Sound count (inline L f sources)
  inline_sound f [] kept = empty_record_sound count
  inline_sound f (a ∷ []) kept = both count (got L 6 a) (of_one L f (where_got 6 a)) (got_sound p L count has 0 6 a kept.0 (register 6 refl)) (of_one_sound f (where_got 6 a) (held_is 6 a (register 6 refl)))
  inline_sound f (a ∷ b ∷ []) kept = on_two_sound f a b kept.0 kept.1.0
  inline_sound f (a ∷ b ∷ c ∷ sources) kept = tt

  by_routine_sound : (o : Option Routine) (f : Primitive) (sources : List Source) → AllByRecursion (Kept p) sources → Sound count (by_routine L o f sources)
  by_routine_sound None f sources kept = inline_sound f sources kept
  by_routine_sound (Some r) f sources kept = called_sound f r sources kept

  pub primitive_sound : (f : Primitive) (sources : List Source) → AllByRecursion (Kept p) sources → Sound count (primitive_done L f sources)
  primitive_sound f sources kept = by_routine_sound (routine_of f) f sources kept
