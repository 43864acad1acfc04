-- The text: a jump to the start, the routines, the start with the code that is run first, and the functions.
use Rattle.std.specs.Prelude.{ℕ, ◌+◌, List, [], ◌∷◌, ◌++◌, Some, None, length, map, replicate}
use Rattle.std.specs.List.{flat_map}
use Rattle.rv_asm.specs.declared.item.Item.{Item}
use Rattle.rv_asm.specs.declared.item.Item.TheVariants.{Jump, Address}
use Rattle.rv_asm.specs.Item.{words}
use Rattle.rv_asm.specs.Program.{Program}
use Rattle.rt_prims.specs.declared.line.Routine.{Routine}
use Rattle.rt_prims.specs.declared.line.Datum.TheVariants.{Arena, ArenaEnd}
use Rattle.rt_prims.specs.Lines.{place, item_of}
use Rattle.rt_prims.specs.Text.{lines_of, order, items_of}
use Rattle.placed_ir.specs.declared.body.Function.{Function}
use Rattle.placed_ir.specs.Program.{Placed, function_code}
use Rattle.emit_items.specs.Items.{free, limit, handler}
use Rattle.emit_items.specs.Body.{items}
use Rattle.emit_sound.specs.Sound.{library}
use Rattle.emit_text.specs.Labels.{start_label, handler_label, routines_label, labels_of}

-- where pieces of these sizes begin, one behind the other
abbrev pub starts : ℕ → List ℕ → List ℕ
starts n [] = []
starts n (k ∷ sizes) = n ∷ starts (n + k) sizes

-- how many they are together
abbrev pub total : List ℕ → ℕ
total [] = 0
total (k ∷ sizes) = k + total sizes

-- the routines have so many labels of data
abbrev pub datum_count : ℕ
datum_count = 10

module _ (p : Placed) where
  -- what is run first, as a function without a label
  abbrev pub first : Function
  first = record { body = 0; frame = p.frame }

  abbrev pub function_items : Function → List Item
  function_items f = items (labels_of p) 0 (function_code p.bodies f)

  -- the registers that all code knows: the next free byte of the arena, its end, and the handler
  abbrev pub start_items : List Item
  start_items =
      Address free (routines_label p + place Arena) ∷ Address limit (routines_label p + place ArenaEnd) ∷ Address handler (handler_label p) ∷ []

  abbrev pub text : List Item
  text =
      Jump (start_label p) ∷ (items_of (routines_label p) order ++ (start_items ++ (function_items first ++ flat_map function_items p.functions)))

  -- ---- Where labels stand, counted in instructions

  abbrev pub routine_words : Routine → ℕ
  routine_words r = words (map (item_of (routines_label p)) (lines_of r))

  abbrev pub routine_places : List ℕ
  routine_places = starts 2 (map routine_words order)

  abbrev pub start_place : ℕ
  start_place = 2 + words (items_of (routines_label p) order)

  abbrev pub functions_place : ℕ
  functions_place = start_place + words start_items + words (function_items first)

  abbrev pub function_places : List ℕ
  function_places = starts functions_place (map (λ f. words (function_items f)) p.functions)

  -- the labels of static blocks
  abbrev pub block_count : ℕ
  block_count = length p.texts + (length p.exns + (library + (length p.functions + 1)))

  -- the text with its labels, where those of data aren't bound
  abbrev pub text_program : Program
  text_program = record {
    items = text;
    places = map Some function_places ++ Some start_place ∷ (replicate block_count None ++ (map Some routine_places ++ replicate datum_count None));
  }
