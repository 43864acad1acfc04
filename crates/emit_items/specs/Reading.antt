-- How registers get the words that sources name, and homes those of registers.
use Rattle.std.specs.Prelude.{ℕ, suc, ◌+◌, ◌*◌, cond, nat_lt, nat_le, pos, neg_ℤ, List, [], ◌∷◌, ◌++◌, Option, Some, None}
use Rattle.smlc_base.specs.Exceptions.{exn_number}
use Rattle.rv_isa.specs.declared.table.Op.TheVariants.{Addi, Add, Sub, Ld, Sd}
use Rattle.rv_asm.specs.declared.item.Item.{Item}
use Rattle.rv_asm.specs.declared.item.Item.TheVariants as item
use Rattle.rt_prims.specs.declared.line.Routine.{Routine}
use Rattle.rt_prims.specs.Lines.{number}
use Rattle.closure_ir.specs.declared.operand.Static.{Static}
use Rattle.closure_ir.specs.declared.operand.Static.TheVariants as static
use Rattle.placed_ir.specs.declared.home.Home.{Home}
use Rattle.placed_ir.specs.declared.home.Home.TheVariants as home
use Rattle.placed_ir.specs.declared.home.Source.{Source}
use Rattle.placed_ir.specs.declared.home.Source.TheVariants as source
use Rattle.emit_items.specs.declared.labels.Labels.{Labels}
use Rattle.emit_items.specs.Items.{r_item, i_item, s_item, frame, free, handler, value_register, register_in, moved}
use Rattle.emit_items.specs.Constants.{loaded, scalar}

-- ---- At a number of bytes from an address in a register. What doesn't fit into an instruction goes through x31.

abbrev pub word_loaded : (rd base bytes : ℕ) → List Item
word_loaded rd base bytes =
    cond (nat_lt bytes 2048) (i_item Ld rd base (pos bytes) ∷ []) (loaded 31 bytes ++ r_item Add 31 31 base ∷ i_item Ld rd 31 (pos 0) ∷ [])

abbrev pub word_stored : (base a bytes : ℕ) → List Item
word_stored base a bytes =
    cond (nat_lt bytes 2048) (s_item Sd base a (pos bytes) ∷ []) (loaded 31 bytes ++ r_item Add 31 31 base ∷ s_item Sd 31 a (pos 0) ∷ [])

-- the register becomes the address so many bytes behind another's
abbrev pub behind : (rd base bytes : ℕ) → List Item
behind rd base bytes = cond (nat_lt bytes 2048) (i_item Addi rd base (pos bytes) ∷ []) (loaded 31 bytes ++ r_item Add rd base 31 ∷ [])

-- and before it
abbrev pub before : (rd base bytes : ℕ) → List Item
before rd base bytes = cond (nat_le bytes 2048) (i_item Addi rd base (neg_ℤ (pos bytes)) ∷ []) (loaded 31 bytes ++ r_item Sub rd base 31 ∷ [])

-- ---- Sources

-- from an address in the register on along fields
abbrev pub followed : ℕ → List ℕ → List Item
followed rd [] = []
followed rd (i ∷ steps) = word_loaded rd rd (8 * suc i) ++ followed rd steps

-- the same from another register
abbrev pub read_along : (rd a : ℕ) → List ℕ → List Item
read_along rd a [] = moved rd a
read_along rd a (i ∷ steps) = word_loaded rd a (8 * suc i) ++ followed rd steps

-- the register that has the word already
abbrev pub held : Source → Option ℕ
held (source.Along (home.Register k) []) = Some (value_register k)
held _ = None

abbrev pub or_else : Option ℕ → ℕ → ℕ
or_else None rd = rd
or_else (Some r) rd = r

-- the register where the word stands, if `rd` is given to it where it stands in none
abbrev pub where_got : ℕ → Source → ℕ
where_got rd s = or_else (held s) rd

module _ (L : Labels) where
  abbrev pub static_label : Static → ℕ
  static_label (static.Function l) = L.closures + l.0
  static_label (static.Text t) = L.texts + t
  static_label (static.Library e) = L.names + exn_number e

  abbrev pub routine_label : Routine → ℕ
  routine_label r = L.routines + number r

  -- the register gets the word
  abbrev pub fetched : Option ℕ → ℕ → Source → List Item
  fetched saved rd (source.Along (home.Register k) steps) = read_along rd (register_in saved k) steps
  fetched saved rd (source.Along (home.Spill i) steps) = read_along rd frame (i ∷ steps)
  fetched saved rd (source.Fresh n) = behind rd free (8 * n)
  fetched saved rd (source.Static s) = item.Address rd (static_label s) ∷ []
  fetched saved rd (source.Code l) = item.Address rd l.0 ∷ []
  fetched saved rd (source.Literal z) = loaded rd (scalar z)

  abbrev pub got_unless : Option ℕ → ℕ → Source → List Item
  got_unless None rd s = fetched None rd s
  got_unless (Some r) rd s = []

  -- the register gets the word where it stands in none
  abbrev pub got : ℕ → Source → List Item
  got rd s = got_unless (held s) rd s

-- ---- Homes

-- the register that a word for the home is put in
abbrev pub home_register : Home → ℕ
home_register (home.Register k) = value_register k
home_register (home.Spill i) = 5

-- from there it goes on into the spill record
abbrev pub put_away : Home → List Item
put_away (home.Register k) = []
put_away (home.Spill i) = word_stored frame 5 (8 * suc i)

-- the home gets what a primitive has left in x5
abbrev pub taken : Home → List Item
taken h = moved (home_register h) 5 ++ put_away h

-- the home gets the address so many bytes before the next free one
abbrev pub named : Home → ℕ → List Item
named h bytes = before (home_register h) free bytes ++ put_away h

abbrev pub handler_kept : Home → List Item
handler_kept h = moved (home_register h) handler ++ put_away h

module _ (L : Labels) where
  abbrev pub let_in : Home → Source → List Item
  let_in h s = fetched L None (home_register h) s ++ put_away h

  abbrev pub handler_set : Source → List Item
  handler_set s = fetched L None handler s
