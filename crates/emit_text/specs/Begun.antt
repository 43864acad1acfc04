-- The text while it is made.
use Rattle.std.specs.Prelude.{◌∷◌, ◌++◌, Some, None, map, replicate, slice_set}
use Rattle.rv_asm.specs.declared.item.Item.TheVariants.{Jump}
use Rattle.rv_asm.specs.Program.{Program}
use Rattle.rt_prims.specs.Text.{order, items_of}
use Rattle.placed_ir.specs.Program.{Placed}
use Rattle.emit_text.specs.Labels.{start_label, routines_label}
use Rattle.emit_text.specs.Text.{start_items, routine_places, start_place, datum_count}

module _ (p : Placed) where
  -- a jump to the start and the routines, whose labels alone are bound
  abbrev pub begun : Program
  begun = record {
    items = Jump (start_label p) ∷ items_of (routines_label p) order;
    places = replicate (routines_label p) None ++ (map Some (routine_places p) ++ replicate datum_count None);
  }

  -- and the start
  abbrev pub started : Program
  started = record {
    items = begun.items ++ start_items p;
    places = slice_set begun.places (start_label p) (Some (start_place p));
  }
