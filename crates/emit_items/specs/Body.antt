-- What code becomes: the items of its forms one behind the other. Where a rule's tests fail all goes on behind the code of the rule, so that a body jumps
-- forward alone, but for its end.
use Rattle.std.specs.Prelude.{ℕ, ◌-◌, ◌*◌, List, ◌++◌}
use Rattle.rv_asm.specs.declared.item.Item.{Item}
use Rattle.rv_asm.specs.Item.{words}
use Rattle.placed_ir.specs.Code.{Code, Frame, Make, Name, Let, Prim, Take, Handler, SetHandler, When, Equal, Call, Throw, Halt}
use Rattle.emit_items.specs.declared.labels.Labels.{Labels}
use Rattle.emit_items.specs.Reading.{taken, named, handler_kept, let_in, handler_set}
use Rattle.emit_items.specs.Making.{group_words, made, framed}
use Rattle.emit_items.specs.Primitives.{primitive_done}
use Rattle.emit_items.specs.Tests.{all_tested}
use Rattle.emit_items.specs.Ends.{call, thrown, compared, halted}

module _ (L : Labels) where
  -- where the group that was made last has so many words
  abbrev pub items : ℕ → Code → List Item
  items group (Frame n c) = framed L n ++ items 0 c
  items group (Make buildings c) = made L buildings ++ items (group_words buildings) c
  items group (Name h n c) = named h (8 * (group - n)) ++ items group c
  items group (Let h s c) = let_in L h s ++ items group c
  items group (Prim f sources c) = primitive_done L f sources ++ items group c
  items group (Take h c) = taken h ++ items group c
  items group (Handler h c) = handler_kept h ++ items group c
  items group (SetHandler s c) = handler_set L s ++ items group c
  items group (When s tests same other) = all_tested L s tests (words (items 0 same)) ++ (items 0 same ++ items 0 other)
  items group (Equal a b t k) = compared L a b t k
  items group (Call target f sources) = call L target f sources
  items group (Throw packet) = thrown L packet
  items group Halt = halted L
