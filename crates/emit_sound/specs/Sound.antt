-- Code that can be assembled, and what it takes of labels.
use Rattle.std.specs.Prelude.{ℕ, ◌+◌, ◌≤◌, List, length}
use Rattle.std.specs.List.{All}
use Rattle.rv_asm.specs.declared.item.Item.{Item}
use Rattle.rv_asm.specs.Item.{IsSound}
use Rattle.rt_prims.specs.Lines.{labels}
use Rattle.placed_ir.specs.declared.body.Function.{Function}
use Rattle.placed_ir.specs.Program.{Placed, function_code}
use Rattle.placed_ir.specs.Kept.{IsProgram}
use Rattle.emit_items.specs.declared.labels.Labels.{Labels}
use Rattle.emit_items.specs.Body.{items}

-- so many exceptions has the library
abbrev pub library : ℕ
library = 11

-- where so many labels were made, those of functions, of constants, of static blocks and of routines are among them
pub record HasLabels (p : Placed) (L : Labels) (count : ℕ) : Type 0 where
  pub functions : length p.functions ≤ count
  pub texts : L.texts + length p.texts ≤ count
  pub spellings : L.spellings + length p.exns ≤ count
  pub names : L.names + library ≤ count
  pub closures : L.closures + length p.functions ≤ count
  pub routines : L.routines + labels ≤ count

-- all of them have instructions
abbrev pub AreSound : ℕ → List Item → Type 0
AreSound count items = All (IsSound count) items

abbrev pub CodeIsSound : Type 0
CodeIsSound = (p : Placed) (L : Labels) (count : ℕ) → IsProgram p → HasLabels p L count → (f : Function) → AreSound count (items L 0 (function_code p.bodies f))
