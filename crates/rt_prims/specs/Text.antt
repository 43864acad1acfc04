-- Each routine's lines, and a program with all of them.
use Rattle.std.specs.Prelude.{◌≡◌, ℕ, ◌+◌, ◌≤◌, ◌<◌, List, [], ◌∷◌, ◌++◌, None, map, replicate}
use Rattle.std.specs.List.{flat_map}
use Rattle.rv_asm.specs.declared.item.Item.{Item}
use Rattle.rv_asm.specs.Program.{Program, with_place, IsFree}
use Rattle.rt_prims.specs.declared.line.Routine.{Routine}
use Rattle.rt_prims.specs.declared.line.Routine.TheVariants.{Full, Halt, Uncaught, Overflow, Div, Chr, Subscript, Concat, Size, Sub, Substring, StrOf, Implode, Compare, Print, InputLine, Equal, Turn}
use Rattle.rt_prims.specs.declared.line.Datum.TheVariants.{OverflowName, DivName, ChrName, SubscriptName}
use Rattle.rt_prims.specs.declared.labels.RoutineLabels.{RoutineLabels}
use Rattle.rt_prims.specs.declared.line.Line.{Line}
use Rattle.rt_prims.specs.Lines.{number, labels, item_of, with_lines}
use Rattle.rt_prims.specs.Ends.{full, halt, uncaught, raise}
use Rattle.rt_prims.specs.Strings.{concat, size, sub, substring, str_of, implode, compare}
use Rattle.rt_prims.specs.Outside.{print, input_line}
use Rattle.rt_prims.specs.Equality.{equal, turn}

unfoldable pub lines_of : Routine → List Line
lines_of Full = full
lines_of Halt = halt
lines_of Uncaught = uncaught
lines_of Overflow = raise OverflowName
lines_of Div = raise DivName
lines_of Chr = raise ChrName
lines_of Subscript = raise SubscriptName
lines_of Concat = concat
lines_of Size = size
lines_of Sub = sub
lines_of Substring = substring
lines_of StrOf = str_of
lines_of Implode = implode
lines_of Compare = compare
lines_of Print = print
lines_of InputLine = input_line
lines_of Equal = equal
lines_of Turn = turn

-- a routine behind what stands, under its label
abbrev pub with_routine : ℕ → Program → Routine → Program
with_routine first p r = with_lines first (with_place p (first + number r)) (lines_of r)

abbrev pub with_routines : ℕ → Program → List Routine → Program
with_routines first p [] = p
with_routines first p (r ∷ rs) = with_routines first (with_routine first p r) rs

-- the order of the text: a turn follows where a comparison begins
abbrev pub order : List Routine
order = Full ∷ Halt ∷ Uncaught ∷ Overflow ∷ Div ∷ Chr ∷ Subscript ∷ Concat ∷ Size ∷ Sub ∷ Substring ∷ StrOf ∷ Implode ∷ Compare ∷ Print ∷ InputLine ∷ Equal ∷ Turn ∷ []

-- labels that aren't bound
abbrev pub with_labels : ℕ → Program → Program
with_labels n p = record p { places = p.places ++ replicate n None }

-- of these labels the k-th and those behind it aren't bound
abbrev pub AreFree : ℕ → ℕ → Program → Type 0
AreFree first k p = (j : ℕ) → k ≤ j → j < labels → IsFree p (first + j)

-- the instructions of all routines
abbrev pub items_of : ℕ → List Routine → List Item
items_of first rs = flat_map (λ r. map (item_of first) (lines_of r)) rs

-- some of them have been put behind what stood
pub record HasBegun (first : ℕ) (p q : Program) : Type 0 where
  pub done : List Item
  pub left : List Item
  pub whole : done ++ left ≡ items_of first order
  pub items : q.items ≡ p.items ++ done

-- the labels, where this is the first of all
abbrev pub labels_from : ℕ → RoutineLabels
labels_from first = record {
  concat = first + number Concat;
  size = first + number Size;
  sub = first + number Sub;
  substring = first + number Substring;
  str_of = first + number StrOf;
  implode = first + number Implode;
  compare = first + number Compare;
  print = first + number Print;
  input_line = first + number InputLine;
  equal = first + number Equal;
  turn = first + number Turn;
  first = first;
}
