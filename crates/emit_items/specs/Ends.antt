-- What ends of bodies become.
use Rattle.std.specs.Prelude.{ℕ, zero, suc, ◌+◌, ◌-◌, ◌==◌, ◌&&◌, not, cond, Bool, true, false, pos, List, [], ◌∷◌, ◌++◌, Option, Some, None, length, slice_get, remove}
use Rattle.rv_isa.specs.declared.table.Op.TheVariants.{Addi, Ld, Jalr}
use Rattle.rv_asm.specs.declared.item.Item.{Item}
use Rattle.rv_asm.specs.declared.item.Item.TheVariants as item
use Rattle.rt_prims.specs.declared.line.Routine.TheVariants as routine
use Rattle.closure_ir.specs.declared.body.Target.{Target}
use Rattle.closure_ir.specs.declared.body.Target.TheVariants as target
use Rattle.placed_ir.specs.declared.home.Home.TheVariants as home
use Rattle.placed_ir.specs.declared.home.Source.{Source}
use Rattle.placed_ir.specs.declared.home.Source.TheVariants as source
use Rattle.emit_items.specs.declared.labels.Labels.{Labels}
use Rattle.emit_items.specs.Items.{i_item, handler, is_saved, value_register}
use Rattle.emit_items.specs.Constants.{loaded}
use Rattle.emit_items.specs.Reading.{routine_label, fetched}

-- ---- Moves at once: all words are meant as they stand before

-- The first register of values gets the function, and each behind it an argument. A move is named by its register's number.
abbrev pub source_at : Source → List Source → ℕ → Option Source
source_at f sources k = cond (k == 0) (Some f) (slice_get sources (k - 1))

-- the source is found from this register, which still has its own value
abbrev pub reads : Option ℕ → ℕ → Option Source → Bool
reads saved k (Some (source.Along (home.Register j) steps)) = j == k && not (is_saved saved k)
reads saved k _ = false

-- what is done next: the move of this place among those that are left
abbrev pub place_in : Option ℕ → ℕ
place_in None = 0
place_in (Some i) = i

-- where none is free, what the first one's register has is saved in x5
abbrev pub then_saved : Option ℕ → Option ℕ → List ℕ → Option ℕ
then_saved None saved (m ∷ moves) = Some m
then_saved _ saved moves = saved

abbrev pub saves : Option ℕ → List ℕ → List Item
saves None (m ∷ moves) = i_item Addi 5 (value_register m) (pos 0) ∷ []
saves _ moves = []

-- the arguments from a register on, and then the function
abbrev pub moves_from : (n k : ℕ) → List ℕ
moves_from zero k = 0 ∷ []
moves_from (suc n) k = k ∷ moves_from n (k + 1)

module _ (L : Labels) where
  abbrev pub fetched_from : Option ℕ → ℕ → Option Source → List Item
  fetched_from saved m None = []
  fetched_from saved m (Some s) = fetched L saved (value_register m) s

module _ (f : Source) (sources : List Source) where
  -- another move reads this register
  abbrev pub is_read : Option ℕ → ℕ → List ℕ → Bool
  is_read saved k [] = false
  is_read saved k (m ∷ moves) = cond (not (m == k) && reads saved k (source_at f sources m)) true (is_read saved k moves)

  -- the place of the first move to a register that none of all reads
  abbrev pub first_free : Option ℕ → List ℕ → List ℕ → ℕ → Option ℕ
  first_free saved all [] i = None
  first_free saved all (m ∷ moves) i = cond (is_read saved m all) (first_free saved all moves (i + 1)) (Some i)

  -- what is saved behind the next move, and which moves are left
  abbrev pub saved_next : Option ℕ → List ℕ → Option ℕ
  saved_next saved moves = then_saved (first_free saved moves moves 0) saved moves

  abbrev pub left_next : Option ℕ → List ℕ → List ℕ
  left_next saved moves = remove moves (place_in (first_free saved moves moves 0))

  module _ (L : Labels) where
    abbrev pub move_done : Option ℕ → Option ℕ → List Item
    move_done saved None = []
    move_done saved (Some m) = fetched_from L saved m (source_at f sources m)

    -- the next of those that are left
    abbrev pub next_moved : Option ℕ → List ℕ → List Item
    next_moved saved moves =
        let next = first_free saved moves moves 0 in
        saves next moves ++ move_done (then_saved next saved moves) (slice_get moves (place_in next))

    -- so many moves, one after another
    abbrev pub all_moved : ℕ → Option ℕ → List ℕ → List Item
    all_moved zero saved moves = []
    all_moved (suc n) saved moves = next_moved saved moves ++ all_moved n (saved_next saved moves) (left_next saved moves)

-- ---- Calls

-- through the code of the closure in x10
abbrev pub through : List Item
through = i_item Ld 31 10 (pos 8) ∷ i_item Jalr 0 31 (pos 0) ∷ []

abbrev pub jumped : Target → List Item
jumped (target.Known l) = item.Jump l.0 ∷ []
jumped target.Through = through

-- the word of a truth value
abbrev pub truth_word : Bool → ℕ
truth_word t = cond t 3 1

module _ (L : Labels) where
  abbrev pub call : Target → Source → List Source → List Item
  call t f sources = all_moved f sources L (length sources + 1) None (moves_from (length sources) 1) ++ jumped t

  -- ---- The other ends

  abbrev pub thrown : Source → List Item
  thrown packet = fetched L None 11 packet ++ i_item Addi 10 handler (pos 0) ∷ through

  abbrev pub compared : Source → Source → Bool → Source → List Item
  compared a b t k =
      fetched L None 5 a
      ++ (fetched L None 6 b ++ (fetched L None 12 k ++ (loaded 7 (truth_word t) ++ item.Jump (routine_label L routine.Equal) ∷ [])))

  abbrev pub halted : List Item
  halted = item.Jump (routine_label L routine.Halt) ∷ []
