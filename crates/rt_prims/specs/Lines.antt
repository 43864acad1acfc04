-- Lines of routines, as items of the assembler. The label of a routine or datum is a first one and its number.
use Rattle.std.specs.Prelude.{ℕ, ◌+◌, ◌<◌, pos, List, map, ◌++◌}
use Rattle.rv_isa.specs.Word.{ins, Fits}
use Rattle.rv_asm.specs.declared.item.Item.{Item}
use Rattle.rv_asm.specs.declared.item.Item.TheVariants as item
use Rattle.rv_asm.specs.Program.{Program, with_item}
use Rattle.rt_prims.specs.declared.line.Routine.{Routine}
use Rattle.rt_prims.specs.declared.line.Routine.TheVariants.{Full, Halt, Uncaught, Overflow, Div, Chr, Subscript, Concat, Size, Sub, Substring, StrOf, Implode, Compare, Print, InputLine, Equal, Turn}
use Rattle.rt_prims.specs.declared.line.Datum.{Datum}
use Rattle.rt_prims.specs.declared.line.Datum.TheVariants.{Segment, Save, Arena, ArenaEnd, OverflowName, DivName, ChrName, SubscriptName, LineFront, LineBack}
use Rattle.rt_prims.specs.declared.line.Line.{Line}
use Rattle.rt_prims.specs.declared.line.Line.TheVariants.{R, I, S, U, Plain, Jump, Link, Address}

-- the routines in the order of the text
abbrev pub number : Routine → ℕ
number Full = 0
number Halt = 1
number Uncaught = 2
number Overflow = 3
number Div = 4
number Chr = 5
number Subscript = 6
number Concat = 7
number Size = 8
number Sub = 9
number Substring = 10
number StrOf = 11
number Implode = 12
number Compare = 13
number Print = 14
number InputLine = 15
number Equal = 16
number Turn = 17

-- data behind them
abbrev pub place : Datum → ℕ
place Segment = 18
place Save = 19
place Arena = 20
place ArenaEnd = 21
place OverflowName = 22
place DivName = 23
place ChrName = 24
place SubscriptName = 25
place LineFront = 26
place LineBack = 27

-- so many labels are used
abbrev pub labels : ℕ
labels = 28

abbrev pub item_of : ℕ → Line → Item
item_of first (R op rd a b) = item.Plain (ins op rd a b (pos 0))
item_of first (I op rd a z) = item.Plain (ins op rd a 0 z)
item_of first (S op a b z) = item.Plain (ins op 0 a b z)
item_of first (U op rd z) = item.Plain (ins op rd 0 0 z)
item_of first (Plain op) = item.Plain (ins op 0 0 0 (pos 0))
item_of first (Jump r) = item.Jump (first + number r)
item_of first (Link r) = item.Address 31 (first + number r)
item_of first (Address rd d) = item.Address rd (first + place d)

-- a line behind what stands
abbrev pub with_line : ℕ → Program → Line → Program
with_line first p line = with_item p (item_of first line)

-- lines behind what stands
abbrev pub with_lines : ℕ → Program → List Line → Program
with_lines first p lines = record p { items = p.items ++ map (item_of first) lines }

-- an instruction has a word
abbrev pub FitsLine : Line → Type 0
FitsLine (R op rd a b) = Fits (ins op rd a b (pos 0))
FitsLine (I op rd a z) = Fits (ins op rd a 0 z)
FitsLine (S op a b z) = Fits (ins op 0 a b z)
FitsLine (U op rd z) = Fits (ins op rd 0 0 z)
FitsLine (Plain op) = Fits (ins op 0 0 0 (pos 0))
FitsLine (Address rd d) = rd < 32
FitsLine _ = Unit {0}
