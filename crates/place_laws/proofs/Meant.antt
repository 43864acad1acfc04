-- What a primitive comes to in one machine it comes to in the other.
use Rattle.std.specs.Prelude.{pos}
use Rattle.std.proofs.Common.{◌≡◌, ℕ, suc, ◌<◌, List, [], ◌∷◌, length, Option, Some, None, slice_get, Bool, true, false, refl, sym, ap, ◌∙◌, subst, arith}
use Rattle.std.proofs.lemmas.Option.{slice_get_within}
use Rattle.smlc_base.specs.declared.primitive.Primitive.{Primitive}
use Rattle.prim_meaning.specs.Data as dat
use Rattle.prim_meaning.specs.Meaning as mean
use Rattle.prim_meaning.specs.Meaning.{Kind, Outcome, kind_of, meaning}
use Rattle.prim_meaning.specs.Alike.{HasBlocks, HasRoom, SameOutcome, same_comes, same_gives, same_assigns, same_compares}
use Rattle.prim_meaning.proofs.Meant.{room_blocks, meant_alike}
use Rattle.sml_def.specs.Builtin.{exn_of}
use Rattle.sml_def.specs.Maybe.{◌>>=◌}
use Rattle.closure_ir.specs.declared.operand.Static.TheVariants as static
use Rattle.closure_ir.specs.declared.operand.Shape.TheVariants as shape
use Rattle.closure_ir.specs.Words.{Word, Num, At, Fixed, Code, Sort, Made, Text, Pair, LastPair, Cell}
use Rattle.closure_ir.specs.Answers.{see_block, see_at, see_text, see, Own, Growing, Result, Gives, Builds, Sets, Raises, Answer, answers, carry_plain, carry, unless_equal, answer}
use Rattle.placed_ir.specs.Arena.{Slot, cell_in, held_at}
use Rattle.place_laws.specs.Lies.{Same, same_num, same_at, same_fixed, SameAll, Heap}
use Rattle.place_laws.proofs.Heap.{SameGrowing, no_parts, own_part, no_growing, more_growing}
use Rattle.place_laws.proofs.Sees.{Home, all_alike, words_alike}

-- ---- Answers

pub data SameResult (homes : List ℕ) : Result → Result → Type 0 where
  gives_same : (u v : Word) → Same homes u v → SameResult homes (Gives u) (Gives v)
  builds_same : (gs hs : List Growing) → SameGrowing homes (length gs) gs hs → SameResult homes (Builds gs) (Builds hs)
  sets_same : (a w : ℕ) (u v : Word) → slice_get homes a ≡ Some w → Same homes u v → SameResult homes (Sets a u) (Sets w v)
  raises_same : (u v : Word) → Same homes u v → SameResult homes (Raises u) (Raises v)

pub record SameAnswer (homes : List ℕ) (a b : Answer) : Type 0 where
  pub told : b.told ≡ a.told
  pub input : b.input ≡ a.input
  pub result : SameResult homes a.result b.result

-- ---- The placed machine counts at least its blocks

applied_block : (b a n : ℕ) (x : Word) (s : Sort) (fields : List Word) → see_block b s fields ≡ mean.Applied a n x → (b ≡ a) × (fields ≡ x ∷ [])
applied_block b a n x (Made (shape.Applied m)) (v ∷ []) e = (cc, let k : v ≡ x = cc in ap (λ z. z ∷ []) k)
applied_block b a n x (Made (shape.Applied m)) [] e = absurd (cc)
applied_block b a n x (Made (shape.Applied m)) (v ∷ w ∷ fields) e = absurd (cc)
applied_block b a n x (Made shape.Tuple) fields e = absurd (cc)
applied_block b a n x (Made shape.Cell) [] e = absurd (cc)
applied_block b a n x (Made shape.Cell) (v ∷ []) e = absurd (cc)
applied_block b a n x (Made shape.Cell) (v ∷ w ∷ fields) e = absurd (cc)
applied_block b a n x (Made shape.Packet) [] e = absurd (cc)
applied_block b a n x (Made shape.Packet) (v ∷ []) e = absurd (cc)
applied_block b a n x (Made shape.Packet) (v ∷ w ∷ []) e = absurd (cc)
applied_block b a n x (Made shape.Packet) (v ∷ w ∷ u ∷ fields) e = absurd (cc)
applied_block b a n x (Made (shape.ExnName m)) fields e = absurd (cc)
applied_block b a n x (Made (shape.ClassRecord m)) fields e = absurd (cc)
applied_block b a n x (Made (shape.Closure m)) fields e = absurd (cc)
applied_block b a n x (Text bytes) fields e = absurd (cc)
applied_block b a n x Pair fields e = absurd (cc)
applied_block b a n x LastPair fields e = absurd (cc)

text_no_block : (o : Option (List ℕ)) (a n : ℕ) (x : Word) → see_text o ≡ mean.Applied a n x → ⊥
text_no_block None a n x e = cc
text_no_block (Some bytes) a n x e = cc

module _ (texts : List (List ℕ)) (slots : List Slot) where
  -- the block that is seen as an applied constructor
  record AppliedAt (a : ℕ) (x : Word) : Type 0 where
    cell : Cell
    stands : held_at slots a ≡ Some cell
    fields : cell.fields ≡ x ∷ []

  applied_at : (b a n : ℕ) (x : Word) (o : Option Cell) → held_at slots b ≡ o → see_at b o ≡ mean.Applied a n x → AppliedAt a x
  applied_at b a n x None q e = absurd (cc)
  applied_at b a n x (Some c) q e =
      let r = applied_block b a n x c.sort c.fields e in
      record { cell = c; stands = ap (held_at slots) (sym r.0) ∙ q; fields = r.1 }

  applied_word : (u : Word) (a n : ℕ) (x : Word) → see texts (held_at slots) u ≡ mean.Applied a n x → AppliedAt a x
  applied_word (Num z) a n x e = absurd (cc)
  applied_word (Code l) a n x e = absurd (cc)
  applied_word (Fixed (static.Function l)) a n x e = absurd (cc)
  applied_word (Fixed (static.Text t)) a n x e = absurd (text_no_block (slice_get texts t) a n x e)
  applied_word (Fixed (static.Library l)) a n x e = absurd (cc)
  applied_word (At b) a n x e = applied_at b a n x (held_at slots b) refl e

  cell_within : (a : ℕ) (c : Cell) (o : Option Slot) → slice_get slots a ≡ o → cell_in o ≡ Some c → a < length slots
  cell_within a c None q e = absurd (cc)
  cell_within a c (Some s) q e = slice_get_within slots a s q

  slots_counted : HasBlocks (see texts (held_at slots)) (length slots)
  slots_counted = record {
    below = λ v a n x e. let r = applied_word v a n x e in cell_within a r.cell (slice_get slots a) refl r.stands;
    same = λ v w a m n x y e f.
        let r = applied_word v a m x e in
        let q = applied_word w a n y f in
        let one : Some r.cell ≡ Some q.cell = sym r.stands ∙ q.stands in
        let cell : r.cell ≡ q.cell = cc in
        let fields : x ∷ [] ≡ y ∷ [] = sym r.fields ∙ ap (λ c. c.fields) cell ∙ q.fields in
        cc;
  }

-- ---- The answers are the same

module _ (homes : List ℕ) (cells : List Cell) (slots : List Slot) (h : Heap homes cells slots) (texts : List (List ℕ)) where
  abbrev A : ℕ → ℕ → Type 0
  A = Home homes cells slots h

  given : (input : List ℕ) (u v : Word) → Same homes u v → SameAnswer homes (answers input (Gives u)) (answers input (Gives v))
  given input u v s = record { told = refl; input = refl; result = gives_same u v s }

  plain_same : (input : List ℕ) (r : dat.Plain) → SameAnswer homes (carry_plain input r) (carry_plain input r)
  plain_same input (dat.ANumber z) = given input (Num z) (Num z) (same_num z)
  plain_same input (dat.ALetter c) = given input (Num (pos c)) (Num (pos c)) (same_num (pos c))
  plain_same input (dat.ATag n) = given input (Num (pos n)) (Num (pos n)) (same_num (pos n))
  plain_same input (dat.AString bytes) =
      let g : Growing = record { sort = Text bytes; parts = [] } in
      record { told = refl; input = refl; result = builds_same (g ∷ []) (g ∷ []) (more_growing g g [] [] refl no_parts no_growing) }
  plain_same input (dat.Fails f) =
      let w : Word = Fixed (static.Library (exn_of f)) in
      record { told = refl; input = refl; result = raises_same w w (same_fixed (static.Library (exn_of f))) }
  plain_same input (dat.Writes bytes) = record { told = refl; input = refl; result = gives_same (Num (pos 0)) (Num (pos 0)) (same_num (pos 0)) }
  plain_same input (dat.ALine line left) =
      let g : Growing = record { sort = Text line; parts = [] } in
      let f : Growing = record { sort = Made (shape.Applied 1); parts = Own 0 ∷ [] } in
      record {
        told = refl;
        input = refl;
        result = builds_same (g ∷ f ∷ []) (g ∷ f ∷ []) (more_growing g g (f ∷ []) (f ∷ []) refl no_parts (more_growing f f [] [] refl (own_part 0 [] [] (omega arith) no_parts) no_growing));
      }

  -- where the first answers, so does the second
  abbrev Follows : Option Answer → Option Answer → Type 0
  Follows o q = (a : Answer) → o ≡ Some a → (b : Answer) × (q ≡ Some b) × SameAnswer homes a b

  both : (x y : Answer) → SameAnswer homes x y → Follows (Some x) (Some y)
  both x y s a e = (y, refl, let k : x ≡ a = cc in subst (λ z. SameAnswer homes z y) k s)

  carry_same : (input : List ℕ) (o q : Outcome Word) → SameOutcome A (Same homes) o q → Follows (carry input o) (carry input q)
  carry_same input o q (same_comes r) = both (carry_plain input r) (carry_plain input r) (plain_same input r)
  carry_same input o q (same_gives v w s) = both (answers input (Gives v)) (answers input (Gives w)) (given input v w s)
  carry_same input o q (same_assigns b d v w k s) =
      both (answers input (Sets b v)) (answers input (Sets d w)) (record { told = refl; input = refl; result = sets_same b d v w k s })
  carry_same input o q (same_compares v x w y t s r) = λ a e. absurd (cc)

  unless_same : (kind : Kind) (o q : Option Answer) → Follows o q → Follows (unless_equal kind o) (unless_equal kind q)
  unless_same mean.OfData o q f = f
  unless_same mean.Derefs o q f = f
  unless_same mean.AssignsTo o q f = f
  unless_same mean.Implodes o q f = f
  unless_same (mean.IsEqual t) o q f = λ a e. absurd (cc)

  room : HasRoom (Same homes) (see texts (slice_get cells)) (length cells) (length slots)
  room = room_blocks A (Same homes) (see texts (slice_get cells)) (see texts (held_at slots)) (words_alike homes cells slots h texts) (length cells) (length slots) (slots_counted texts slots)

  meant_same : (input : List ℕ) (f : Primitive) (us vs : List Word) → SameAll homes us vs → (o : Option (Outcome Word)) → meaning (see texts (slice_get cells)) (length cells) input f us ≡ o → Follows (o >>= carry input) (meaning (see texts (held_at slots)) (length slots) input f vs >>= carry input)
  meant_same input f us vs s None e a g = absurd (cc)
  meant_same input f us vs s (Some o) e a g =
      let r = meant_alike A (Same homes) (see texts (slice_get cells)) (see texts (held_at slots)) (words_alike homes cells slots h texts) (length cells) (length slots) room input f us vs o (all_alike homes us vs s) e in
      let c = carry_same input o r.0 r.2 a g in
      (c.0, ap (λ (t : Option (Outcome Word)). t >>= carry input) r.1 ∙ c.1, c.2)

  pub answer_same : (input : List ℕ) (f : Primitive) (us vs : List Word) → SameAll homes us vs → Follows (answer texts (slice_get cells) (length cells) input f us) (answer texts (held_at slots) (length slots) input f vs)
  answer_same input f us vs s =
      unless_same (kind_of f) (meaning (see texts (slice_get cells)) (length cells) input f us >>= carry input) (meaning (see texts (held_at slots)) (length slots) input f vs >>= carry input)
      (meant_same input f us vs s (meaning (see texts (slice_get cells)) (length cells) input f us) refl)
