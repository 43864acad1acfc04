-- How registers get the words that sources name, and homes those of registers.
use Rattle.std.proofs.Common.{◌≡◌, ℕ, zero, suc, ◌+◌, ◌*◌, ◌<◌, ◌==◌, true, cond, pos, List, [], ◌∷◌, ◌++◌, Option, Some, None, refl, arith}
use Rattle.std.specs.Prelude.{nat_lt, nat_le, neg_ℤ}
use Rattle.std.proofs.lemmas.Bool.{cond_both}
use Rattle.smlc_base.specs.declared.exception.LibraryExn.{LibraryExn}
use Rattle.smlc_base.specs.declared.exception.LibraryExn.TheVariants as exn
use Rattle.smlc_base.specs.Exceptions.{exn_number}
use Rattle.rv_isa.specs.declared.table.Op.TheVariants.{Addi, Add, Sub, Ld, Sd}
use Rattle.rv_isa.specs.Table.{shape_of}
use Rattle.rv_isa.specs.Word.{IsWithin}
use Rattle.rt_prims.specs.declared.line.Routine.{Routine}
use Rattle.rt_prims.specs.declared.line.Routine.TheVariants as routine
use Rattle.rt_prims.specs.Lines.{number}
use Rattle.closure_ir.specs.declared.operand.Static.{Static}
use Rattle.closure_ir.specs.declared.operand.Static.TheVariants as static
use Rattle.placed_ir.specs.declared.home.Home.{Home}
use Rattle.placed_ir.specs.declared.home.Home.TheVariants as home
use Rattle.placed_ir.specs.declared.home.Source.{Source}
use Rattle.placed_ir.specs.declared.home.Source.TheVariants as source
use Rattle.placed_ir.specs.Program.{Placed}
use Rattle.placed_ir.specs.Kept.{StaticKept, SourceKept}
use Rattle.emit_items.specs.declared.labels.Labels.{Labels}
use Rattle.emit_items.specs.Items.{r_item, i_item, s_item, frame, free, handler, value_register, is_saved, register_in, moved}
use Rattle.emit_items.specs.Constants.{loaded, scalar}
use Rattle.emit_items.specs.Reading.{word_loaded, word_stored, behind, before, followed, read_along, held, where_got, static_label, routine_label, fetched, got_unless, got, home_register, put_away, taken, named, handler_kept, let_in, handler_set}
use Rattle.emit_sound.specs.Sound.{HasLabels}
use Rattle.emit_sound.proofs.Formats.{Sound, both, choice, either, below, IsRegister, register, r_sound, i_sound, store_sound}
use Rattle.emit_sound.proofs.Constants.{loaded_sound}

-- ---- Numbers

pub value_is : (k : ℕ) → IsRegister (value_register k)
value_is k =
    cond_both (nat_lt k 8) (10 + k) (cond (nat_lt k 20) (11 + k) 0) IsRegister
    (λ e. let l = below k 8 e in omega arith)
    (λ e. cond_both (nat_lt k 20) (11 + k) 0 IsRegister (λ f. let l = below k 20 f in omega arith) (λ f. register 0 refl))

pub register_is : (saved : Option ℕ) (k : ℕ) → IsRegister (register_in saved k)
register_is saved k = cond_both (is_saved saved k) 5 (value_register k) IsRegister (λ e. register 5 refl) (λ e. value_is k)

number_below : (r : Routine) → number r < 28
number_below routine.Full = below 0 28 refl
number_below routine.Halt = below 1 28 refl
number_below routine.Uncaught = below 2 28 refl
number_below routine.Overflow = below 3 28 refl
number_below routine.Div = below 4 28 refl
number_below routine.Chr = below 5 28 refl
number_below routine.Subscript = below 6 28 refl
number_below routine.Concat = below 7 28 refl
number_below routine.Size = below 8 28 refl
number_below routine.Sub = below 9 28 refl
number_below routine.Substring = below 10 28 refl
number_below routine.StrOf = below 11 28 refl
number_below routine.Implode = below 12 28 refl
number_below routine.Compare = below 13 28 refl
number_below routine.Print = below 14 28 refl
number_below routine.InputLine = below 15 28 refl
number_below routine.Equal = below 16 28 refl
number_below routine.Turn = below 17 28 refl

exn_below : (e : LibraryExn) → exn_number e < 11
exn_below exn.MatchExn = below 0 11 refl
exn_below exn.BindExn = below 1 11 refl
exn_below exn.DivExn = below 2 11 refl
exn_below exn.OverflowExn = below 3 11 refl
exn_below exn.ChrExn = below 4 11 refl
exn_below exn.SubscriptExn = below 5 11 refl
exn_below exn.SizeExn = below 6 11 refl
exn_below exn.EmptyExn = below 7 11 refl
exn_below exn.OptionExn = below 8 11 refl
exn_below exn.DomainExn = below 9 11 refl
exn_below exn.FailExn = below 10 11 refl

-- ---- Words at an address

module _ (count : ℕ) where
  pub moved_sound : (rd a : ℕ) → IsRegister rd → IsRegister a → Sound count (moved rd a)
  unfolding shape_of
  moved_sound rd a p q = either count (rd == a) [] (i_item Addi rd a (pos 0) ∷ []) tt (i_sound count Addi rd a (pos 0) refl p q (below 0 2048 refl), tt)

  pub word_loaded_sound : (rd base bytes : ℕ) → IsRegister rd → IsRegister base → Sound count (word_loaded rd base bytes)
  unfolding shape_of
  word_loaded_sound rd base bytes p q =
      choice count (nat_lt bytes 2048) (i_item Ld rd base (pos bytes) ∷ []) (loaded 31 bytes ++ r_item Add 31 31 base ∷ i_item Ld rd 31 (pos 0) ∷ [])
      (λ e. (i_sound count Ld rd base (pos bytes) refl p q (below bytes 2048 e), tt))
      (λ e. both count (loaded 31 bytes) (r_item Add 31 31 base ∷ i_item Ld rd 31 (pos 0) ∷ []) (loaded_sound count 31 (register 31 refl) bytes)
      (r_sound count Add 31 31 base refl (register 31 refl) (register 31 refl) q, (i_sound count Ld rd 31 (pos 0) refl p (register 31 refl) (below 0 2048 refl), tt)))

  pub word_stored_sound : (base a bytes : ℕ) → IsRegister base → IsRegister a → Sound count (word_stored base a bytes)
  unfolding shape_of
  word_stored_sound base a bytes p q =
      choice count (nat_lt bytes 2048) (s_item Sd base a (pos bytes) ∷ []) (loaded 31 bytes ++ r_item Add 31 31 base ∷ s_item Sd 31 a (pos 0) ∷ [])
      (λ e. (store_sound count Sd base a (pos bytes) refl p q (below bytes 2048 e), tt))
      (λ e. both count (loaded 31 bytes) (r_item Add 31 31 base ∷ s_item Sd 31 a (pos 0) ∷ []) (loaded_sound count 31 (register 31 refl) bytes)
      (r_sound count Add 31 31 base refl (register 31 refl) (register 31 refl) p, (store_sound count Sd 31 a (pos 0) refl (register 31 refl) q (below 0 2048 refl), tt)))

  pub behind_sound : (rd base bytes : ℕ) → IsRegister rd → IsRegister base → Sound count (behind rd base bytes)
  unfolding shape_of
  behind_sound rd base bytes p q =
      choice count (nat_lt bytes 2048) (i_item Addi rd base (pos bytes) ∷ []) (loaded 31 bytes ++ r_item Add rd base 31 ∷ [])
      (λ e. (i_sound count Addi rd base (pos bytes) refl p q (below bytes 2048 e), tt))
      (λ e. both count (loaded 31 bytes) (r_item Add rd base 31 ∷ []) (loaded_sound count 31 (register 31 refl) bytes) (r_sound count Add rd base 31 refl p q (register 31 refl), tt))

  at_most : (n : ℕ) → nat_le n 2048 ≡ true → IsWithin 2048 (neg_ℤ (pos n))
  at_most zero e = below 0 2048 refl
  at_most (suc n) e = grind arith

  pub before_sound : (rd base bytes : ℕ) → IsRegister rd → IsRegister base → Sound count (before rd base bytes)
  unfolding shape_of
  before_sound rd base bytes p q =
      choice count (nat_le bytes 2048) (i_item Addi rd base (neg_ℤ (pos bytes)) ∷ []) (loaded 31 bytes ++ r_item Sub rd base 31 ∷ [])
      (λ e. (i_sound count Addi rd base (neg_ℤ (pos bytes)) refl p q (at_most bytes e), tt))
      (λ e. both count (loaded 31 bytes) (r_item Sub rd base 31 ∷ []) (loaded_sound count 31 (register 31 refl) bytes) (r_sound count Sub rd base 31 refl p q (register 31 refl), tt))

  pub followed_sound : (rd : ℕ) (steps : List ℕ) → IsRegister rd → Sound count (followed rd steps)
  followed_sound rd [] p = tt
  followed_sound rd (i ∷ steps) p = both count (word_loaded rd rd (8 * suc i)) (followed rd steps) (word_loaded_sound rd rd (8 * suc i) p p) (followed_sound rd steps p)

  pub read_along_sound : (rd a : ℕ) (steps : List ℕ) → IsRegister rd → IsRegister a → Sound count (read_along rd a steps)
  read_along_sound rd a [] p q = moved_sound rd a p q
  read_along_sound rd a (i ∷ steps) p q = both count (word_loaded rd a (8 * suc i)) (followed rd steps) (word_loaded_sound rd a (8 * suc i) p q) (followed_sound rd steps p)

  -- ---- Homes

  pub home_is : (h : Home) → IsRegister (home_register h)
  home_is (home.Register k) = value_is k
  home_is (home.Spill i) = register 5 refl

  pub put_away_sound : (h : Home) → Sound count (put_away h)
  put_away_sound (home.Register k) = tt
  put_away_sound (home.Spill i) = word_stored_sound frame 5 (8 * suc i) (register 2 refl) (register 5 refl)

  pub taken_sound : (h : Home) → Sound count (taken h)
  taken_sound h = both count (moved (home_register h) 5) (put_away h) (moved_sound (home_register h) 5 (home_is h) (register 5 refl)) (put_away_sound h)

  pub named_sound : (h : Home) (bytes : ℕ) → Sound count (named h bytes)
  named_sound h bytes = both count (before (home_register h) free bytes) (put_away h) (before_sound (home_register h) free bytes (home_is h) (register 8 refl)) (put_away_sound h)

  pub handler_kept_sound : (h : Home) → Sound count (handler_kept h)
  handler_kept_sound h = both count (moved (home_register h) handler) (put_away h) (moved_sound (home_register h) handler (home_is h) (register 18 refl)) (put_away_sound h)

-- the register where a source is, with any register given to it
pub held_is : (rd : ℕ) (s : Source) → IsRegister rd → IsRegister (where_got rd s)
held_is rd (source.Along (home.Register k) []) p = value_is k
held_is rd (source.Along (home.Register k) (i ∷ steps)) p = p
held_is rd (source.Along (home.Spill i) steps) p = p
held_is rd (source.Fresh n) p = p
held_is rd (source.Static s) p = p
held_is rd (source.Code l) p = p
held_is rd (source.Literal z) p = p

-- ---- Sources

module _ (p : Placed) (L : Labels) (count : ℕ) (has : HasLabels p L count) where
  pub routine_made : (r : Routine) → routine_label L r < count
  routine_made r = let n = number_below r in let h = has.routines in omega arith

  static_made : (s : Static) → StaticKept p s → static_label L s < count
  static_made (static.Function l) k = let h = has.closures in omega arith
  static_made (static.Text t) k = let h = has.texts in omega arith
  static_made (static.Library e) k = let n = exn_below e in let h = has.names in omega arith

  -- whatever group is being made
  pub fetched_sound : (words : ℕ) (saved : Option ℕ) (rd : ℕ) (s : Source) → SourceKept p words s → IsRegister rd → Sound count (fetched L saved rd s)
  fetched_sound words saved rd (source.Along (home.Register k) steps) kept r = read_along_sound count rd (register_in saved k) steps r (register_is saved k)
  fetched_sound words saved rd (source.Along (home.Spill i) steps) kept r = read_along_sound count rd frame (i ∷ steps) r (register 2 refl)
  fetched_sound words saved rd (source.Fresh n) kept r = behind_sound count rd free (8 * n) r (register 8 refl)
  fetched_sound words saved rd (source.Static s) kept r = ((r, static_made s kept), tt)
  fetched_sound words saved rd (source.Code l) kept r = let h = has.functions in ((r, omega arith), tt)
  fetched_sound words saved rd (source.Literal z) kept r = loaded_sound count rd r (scalar z)

  got_unless_sound : (words : ℕ) (o : Option ℕ) (rd : ℕ) (s : Source) → SourceKept p words s → IsRegister rd → Sound count (got_unless L o rd s)
  got_unless_sound words None rd s kept r = fetched_sound words None rd s kept r
  got_unless_sound words (Some a) rd s kept r = tt

  pub got_sound : (words rd : ℕ) (s : Source) → SourceKept p words s → IsRegister rd → Sound count (got L rd s)
  got_sound words rd s kept r = got_unless_sound words (held s) rd s kept r

  pub let_in_sound : (h : Home) (s : Source) → SourceKept p 0 s → Sound count (let_in L h s)
  let_in_sound h s kept = both count (fetched L None (home_register h) s) (put_away h) (fetched_sound 0 None (home_register h) s kept (home_is count h)) (put_away_sound count h)

  pub handler_set_sound : (s : Source) → SourceKept p 0 s → Sound count (handler_set L s)
  handler_set_sound s kept = fetched_sound 0 None handler s kept (register 18 refl)
