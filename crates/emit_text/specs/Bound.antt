-- Programs to which items are added, and labels one behind the other that are bound.
use Rattle.std.specs.Prelude.{ℕ, ◌+◌, List, ◌++◌, Option, Some, length, map, take, drop}
use Rattle.rv_asm.specs.declared.item.Item.{Item}
use Rattle.rv_asm.specs.Program.{Program}

-- items behind what stands
abbrev pub with_items : Program → List Item → Program
with_items p items = record p { items = p.items ++ items }

-- the labels from the first on are bound to these places
abbrev pub bound_from : ℕ → List ℕ → List (Option ℕ) → List (Option ℕ)
bound_from first at places = take first places ++ (map Some at ++ drop (first + length at) places)
