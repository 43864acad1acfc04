-- What primitives become. The result is left in x5. Operands stand in any registers of values, or in x6 and x7, and those of routines in x5, x6 and x7.
use Rattle.std.specs.Prelude.{ℕ, cond, nat_lt, Bool, ℤ, pos, negsuc, neg_ℤ, ◌+ℤ◌, List, [], ◌∷◌, ◌++◌, Option, Some, None}
use Rattle.smlc_base.specs.declared.primitive.Primitive.{Primitive}
use Rattle.smlc_base.specs.declared.primitive.Primitive.TheVariants as primitive
use Rattle.rv_isa.specs.declared.table.Op.{Op}
use Rattle.rv_isa.specs.declared.table.Op.TheVariants.{Addi, Slti, Sltiu, Xori, Slli, Srai, Add, Sub, Slt, Xor, And, Mul, Mulh, Div, Rem, Beq, Bne, Blt, Bge, Ld, Sd, Jalr}
use Rattle.rv_asm.specs.declared.item.Item.{Item}
use Rattle.rv_asm.specs.declared.item.Item.TheVariants as item
use Rattle.rt_prims.specs.declared.line.Routine.{Routine}
use Rattle.rt_prims.specs.declared.line.Routine.TheVariants as routine
use Rattle.placed_ir.specs.declared.home.Source.{Source}
use Rattle.placed_ir.specs.declared.home.Source.TheVariants as source
use Rattle.emit_items.specs.declared.labels.Labels.{Labels}
use Rattle.emit_items.specs.Items.{r_item, i_item, s_item}
use Rattle.emit_items.specs.Reading.{routine_label, fetched, where_got, got}

-- the empty record
abbrev pub empty_record : List Item
empty_record = i_item Addi 5 0 (pos 1) ∷ []

-- an int of which twice fits into an instruction
abbrev pub is_small : ℤ → Bool
is_small (pos n) = nat_lt n 1024
is_small (negsuc n) = nat_lt n 1023

-- whether a is less than b
abbrev pub less : (a b : ℕ) → List Item
less a b = r_item Slt 5 a b ∷ i_item Slli 5 5 (pos 1) ∷ i_item Addi 5 5 (pos 1) ∷ []

-- whether it isn't
abbrev pub not_less : (a b : ℕ) → List Item
not_less a b = r_item Slt 5 a b ∷ i_item Xori 5 5 (pos 1) ∷ i_item Slli 5 5 (pos 1) ∷ i_item Addi 5 5 (pos 1) ∷ []

abbrev pub deref : ℕ → List Item
deref a = i_item Ld 5 a (pos 8) ∷ []

abbrev pub assign : (a b : ℕ) → List Item
assign a b = s_item Sd a b (pos 8) ∷ empty_record

-- The machine's division goes towards 0: where the remainder isn't 0 and its sign isn't the divisor's, one less, or the divisor more.
abbrev pub divided : ℕ → List Item
divided a = i_item Srai 6 a (pos 1) ∷ r_item Rem 31 6 7 ∷ r_item Div 6 6 7 ∷ []

abbrev pub rounded : List Item
rounded = s_item Beq 31 0 (pos 16) ∷ r_item Xor 31 31 7 ∷ s_item Bge 31 0 (pos 8) ∷ i_item Addi 6 6 (negsuc 0) ∷ []

abbrev pub quotient_word : List Item
quotient_word = i_item Slli 7 6 (pos 1) ∷ i_item Srai 31 7 (pos 1) ∷ []

abbrev pub left : ℕ → List Item
left a = i_item Srai 6 a (pos 1) ∷ r_item Rem 6 6 7 ∷ []

abbrev pub left_rounded : List Item
left_rounded = s_item Beq 6 0 (pos 16) ∷ r_item Xor 31 6 7 ∷ s_item Bge 31 0 (pos 8) ∷ r_item Add 6 6 7 ∷ []

abbrev pub left_word : List Item
left_word = i_item Slli 6 6 (pos 1) ∷ i_item Addi 5 6 (pos 1) ∷ []

-- the branch that is taken where a sum with it is right
abbrev pub grown_by : ℤ → Op
grown_by (pos n) = Bge
grown_by (negsuc n) = Blt

-- the routine that does it
abbrev pub routine_of : Primitive → Option Routine
routine_of primitive.Concat = Some routine.Concat
routine_of primitive.Size = Some routine.Size
routine_of primitive.Str = Some routine.StrOf
routine_of primitive.Implode = Some routine.Implode
routine_of primitive.Sub = Some routine.Sub
routine_of primitive.Substring = Some routine.Substring
routine_of primitive.Compare = Some routine.Compare
routine_of primitive.Print = Some routine.Print
routine_of primitive.InputLine = Some routine.InputLine
routine_of _ = None

-- a routine leaves its result in x5, but for `print`, which leaves nothing
abbrev pub routine_result : Primitive → List Item
routine_result primitive.Print = empty_record
routine_result _ = []

module _ (L : Labels) where
  -- the exception is raised unless the two stand so
  abbrev pub unless : Op → (a b : ℕ) → Routine → List Item
  unless op a b r = s_item op a b (pos 12) ∷ item.Jump (routine_label L r) ∷ []

  -- ---- On words

  -- Where a sum of a word and another less its lowest bit overflows, it is less than the word exactly where the other isn't negative.
  abbrev pub plus : (a b : ℕ) → List Item
  plus a b =
      (i_item Addi 7 b (negsuc 0) ∷ r_item Add 5 a 7 ∷ r_item Slt 31 5 a ∷ i_item Slti 7 7 (pos 0) ∷ []) ++ unless Beq 31 7 routine.Overflow

  abbrev pub minus : (a b : ℕ) → List Item
  minus a b =
      (i_item Addi 7 b (negsuc 0) ∷ r_item Sub 5 a 7 ∷ r_item Slt 31 a 5 ∷ i_item Slti 7 7 (pos 0) ∷ []) ++ unless Beq 31 7 routine.Overflow

  -- the upper half of the product of a less its lowest bit and half of b is all sign
  abbrev pub times : (a b : ℕ) → List Item
  times a b =
      (i_item Srai 31 b (pos 1) ∷ i_item Addi 7 a (negsuc 0) ∷ r_item Mulh 6 7 31 ∷ r_item Mul 7 7 31 ∷ i_item Srai 31 7 (pos 63) ∷ [])
      ++ (unless Beq 6 31 routine.Overflow ++ i_item Addi 5 7 (pos 1) ∷ [])

  -- half of b, which isn't 0
  abbrev pub divisor : ℕ → List Item
  divisor b = i_item Srai 7 b (pos 1) ∷ unless Bne 7 0 routine.Div

  abbrev pub quotient : (a b : ℕ) → List Item
  quotient a b = divisor b ++ (divided a ++ (rounded ++ (quotient_word ++ (unless Beq 31 6 routine.Overflow ++ i_item Addi 5 7 (pos 1) ∷ []))))

  abbrev pub modulo : (a b : ℕ) → List Item
  modulo a b = divisor b ++ (left a ++ (left_rounded ++ left_word))

  -- 2 less a word overflows where both are negative
  abbrev pub negate : ℕ → List Item
  negate a = (i_item Addi 5 0 (pos 2) ∷ r_item Sub 5 5 a ∷ r_item And 31 5 a ∷ []) ++ unless Bge 31 0 routine.Overflow

  abbrev pub absolute : ℕ → List Item
  absolute a =
      (i_item Addi 5 a (pos 0) ∷ s_item Bge 5 0 (pos 24) ∷ i_item Addi 5 0 (pos 2) ∷ r_item Sub 5 5 a ∷ []) ++ unless Bge 5 0 routine.Overflow

  abbrev pub chr : ℕ → List Item
  chr a = i_item Sltiu 7 a (pos 512) ∷ (unless Bne 7 0 routine.Chr ++ i_item Addi 5 a (pos 0) ∷ [])

  -- those that take one word, and those that take two
  abbrev pub of_one : Primitive → ℕ → List Item
  of_one primitive.Negate a = negate a
  of_one primitive.Abs a = absolute a
  of_one primitive.Deref a = deref a
  of_one primitive.Ord a = i_item Addi 5 a (pos 0) ∷ []
  of_one primitive.Chr a = chr a
  of_one _ a = []

  abbrev pub of_two : Primitive → (a b : ℕ) → List Item
  of_two primitive.Plus a b = plus a b
  of_two primitive.Minus a b = minus a b
  of_two primitive.Times a b = times a b
  of_two primitive.Quotient a b = quotient a b
  of_two primitive.Modulo a b = modulo a b
  of_two primitive.Less a b = less a b
  of_two primitive.Greater a b = less b a
  of_two primitive.AtMost a b = not_less b a
  of_two primitive.AtLeast a b = not_less a b
  of_two primitive.Assign a b = assign a b
  of_two _ a b = []

  -- ---- A small int more

  abbrev pub more : ℤ → ℕ → List Item
  more z a = i_item Addi 5 a (z +ℤ z) ∷ unless (grown_by z) 5 a routine.Overflow

  abbrev pub source_more : ℤ → Source → List Item
  source_more z s = got L 6 s ++ more z (where_got 6 s)

  -- ---- Routines

  abbrev pub link : Routine → List Item
  link r = item.Address 31 (routine_label L r) ∷ i_item Jalr 31 31 (pos 0) ∷ []

  abbrev pub arguments : List Source → List Item
  arguments (a ∷ []) = fetched L None 5 a
  arguments (a ∷ b ∷ []) = fetched L None 5 a ++ fetched L None 6 b
  arguments (a ∷ b ∷ c ∷ []) = fetched L None 5 a ++ (fetched L None 6 b ++ fetched L None 7 c)
  arguments _ = []

  abbrev pub called : Primitive → Routine → List Source → List Item
  called f r sources = arguments sources ++ (link r ++ routine_result f)

  -- ---- All

  abbrev pub two_got : Primitive → (a b : Source) → List Item
  two_got f a b = got L 6 a ++ (got L 7 b ++ of_two f (where_got 6 a) (where_got 7 b))

  -- a sum or a difference of which a part is a small int
  abbrev pub summed : (a b : Source) → List Item
  summed (source.Literal y) b = cond (is_small y) (source_more y b) (two_got primitive.Plus (source.Literal y) b)
  summed a (source.Literal z) = cond (is_small z) (source_more z a) (two_got primitive.Plus a (source.Literal z))
  summed a b = two_got primitive.Plus a b

  abbrev pub differed : (a b : Source) → List Item
  differed a (source.Literal z) = cond (is_small z) (source_more (neg_ℤ z) a) (two_got primitive.Minus a (source.Literal z))
  differed a b = two_got primitive.Minus a b

  abbrev pub on_two : Primitive → (a b : Source) → List Item
  on_two primitive.Plus a b = summed a b
  on_two primitive.Minus a b = differed a b
  on_two f a b = two_got f a b

  abbrev pub inline : Primitive → List Source → List Item
  inline f [] = empty_record
  inline f (a ∷ []) = got L 6 a ++ of_one f (where_got 6 a)
  inline f (a ∷ b ∷ []) = on_two f a b
  inline f _ = []

  abbrev pub by_routine : Option Routine → Primitive → List Source → List Item
  by_routine None f sources = inline f sources
  by_routine (Some r) f sources = called f r sources

  abbrev pub primitive_done : Primitive → List Source → List Item
  primitive_done f sources = by_routine (routine_of f) f sources
