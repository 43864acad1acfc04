-- Where data stand, counted in instructions from the beginning of the text. A word takes the place of two instructions.
use Rattle.std.specs.Prelude.{ℕ, ◌+◌, ◌*◌, ◌/◌, List, [], ◌∷◌, ◌++◌, length, map, get_or}
use Rattle.smlc_base.specs.declared.exception.LibraryExn.{LibraryExn}
use Rattle.smlc_base.specs.declared.exception.LibraryExn.TheVariants.{DivExn, OverflowExn, ChrExn, SubscriptExn}
use Rattle.smlc_base.specs.Exceptions.{exn_number}
use Rattle.rv_asm.specs.Item.{words}
use Rattle.rt_prims.specs.declared.line.Datum.{Datum}
use Rattle.rt_prims.specs.declared.line.Datum.TheVariants.{Segment, Save, Arena, ArenaEnd, OverflowName, DivName, ChrName, SubscriptName, LineFront, LineBack}
use Rattle.placed_ir.specs.Program.{Placed}
use Rattle.emit_text.specs.Text.{starts, total, text}
use Rattle.emit_data.specs.Blocks.{string_words, name_words, code_words, exceptions, line_front, line_back}

-- the next multiple of 1,024 instructions, which are 4,096 bytes
abbrev pub next_page : ℕ → ℕ
next_page n = (n + 1023) / 1024 * 1024

module _ (p : Placed) where
  -- the static blocks with labels of their own, as they stand
  abbrev pub block_words : List ℕ
  block_words = map string_words p.texts ++ (map string_words p.exns ++ (map name_words exceptions ++ (map (λ f. code_words) p.functions ++ code_words ∷ [])))

  -- and the two parts of the line behind them
  abbrev pub data_words : ℕ
  data_words = total block_words + string_words line_front + string_words line_back

  abbrev pub read_only_place : ℕ
  read_only_place = next_page (words (text p))

  abbrev pub block_places : List ℕ
  block_places = starts read_only_place (map (λ n. 2 * n) block_words)

  -- the writable memory, 8,192 bytes of its own and then the arena
  abbrev pub writable_place : ℕ
  writable_place = next_page (read_only_place + 2 * data_words)

  abbrev pub arena_place : ℕ
  arena_place = writable_place + 2048

  abbrev pub end_place : ℕ → ℕ
  end_place arena_words = arena_place + 2 * arena_words

  -- the name of an exception of the library
  abbrev pub name_place : LibraryExn → ℕ
  name_place e = get_or block_places (length p.texts + length p.exns + exn_number e) 0

  abbrev pub line_place : ℕ
  line_place = read_only_place + 2 * total block_words

  -- Behind 32 bytes of its state the input's buffer has 4,096 bytes, and behind that registers are saved.
  abbrev pub datum_place : ℕ → Datum → ℕ
  datum_place arena_words Segment = writable_place
  datum_place arena_words Save = writable_place + 1032
  datum_place arena_words Arena = arena_place
  datum_place arena_words ArenaEnd = end_place arena_words
  datum_place arena_words OverflowName = name_place OverflowExn
  datum_place arena_words DivName = name_place DivExn
  datum_place arena_words ChrName = name_place ChrExn
  datum_place arena_words SubscriptName = name_place SubscriptExn
  datum_place arena_words LineFront = line_place
  datum_place arena_words LineBack = line_place + 2 * string_words line_front

  abbrev pub datum_places : ℕ → List ℕ
  datum_places arena_words = map (datum_place arena_words) (Segment ∷ Save ∷ Arena ∷ ArenaEnd ∷ OverflowName ∷ DivName ∷ ChrName ∷ SubscriptName ∷ LineFront ∷ LineBack ∷ [])
