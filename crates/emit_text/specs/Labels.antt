-- The numbers of labels: those of functions first, by their own numbers, then the start, then static blocks in the order in which they stand behind the text,
-- and last the routines with their data.
use Rattle.std.specs.Prelude.{ℕ, ◌+◌, length}
use Rattle.placed_ir.specs.Program.{Placed}
use Rattle.emit_items.specs.declared.labels.Labels.{Labels}
use Rattle.emit_sound.specs.Sound.{library}

module _ (p : Placed) where
  -- where all begins
  abbrev pub start_label : ℕ
  start_label = length p.functions

  abbrev pub texts_label : ℕ
  texts_label = start_label + 1

  abbrev pub spellings_label : ℕ
  spellings_label = texts_label + length p.texts

  abbrev pub names_label : ℕ
  names_label = spellings_label + length p.exns

  abbrev pub closures_label : ℕ
  closures_label = names_label + library

  -- the handler that ends the run
  abbrev pub handler_label : ℕ
  handler_label = closures_label + length p.functions

  abbrev pub routines_label : ℕ
  routines_label = handler_label + 1

  abbrev pub labels_of : Labels
  labels_of = record {
    texts = texts_label;
    spellings = spellings_label;
    names = names_label;
    closures = closures_label;
    routines = routines_label;
    points = length p.points;
  }
