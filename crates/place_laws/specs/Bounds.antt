-- How many registers a placed body uses, how many values live at once, and what spill records take.
use Rattle.std.specs.Prelude.{◌≡◌, ◌<◌, ◌≤◌, ℕ, suc, ◌+◌, List, [], ◌∷◌, ◌++◌, length, Some, slice_get}
use Rattle.simulation.specs.Blocks as sim
use Rattle.simulation.specs.Blocks.{Block, Kind, IsAmong}
use Rattle.simulation.specs.Words.{IsDistinct}
use Rattle.closure_ir.specs.Code as closed
use Rattle.placed_ir.specs.declared.home.Home.{Home}
use Rattle.placed_ir.specs.declared.home.Home.TheVariants as home
use Rattle.placed_ir.specs.declared.home.Source.{Source}
use Rattle.placed_ir.specs.declared.home.Source.TheVariants as source
use Rattle.placed_ir.specs.declared.home.Building.{Building}
use Rattle.placed_ir.specs.declared.test.Wanted.{Wanted}
use Rattle.placed_ir.specs.declared.test.Wanted.TheVariants as want
use Rattle.placed_ir.specs.declared.test.Test.{Test}
use Rattle.placed_ir.specs.Code as placed
use Rattle.place_laws.specs.Live.{used_by, all_used_by, used_by_makers, used_by_tests, names_of, live}
use Rattle.place_laws.specs.Place.{registers, greater}

-- ---- Each register that is named is one of the 20

abbrev pub IsRightHome : Home → Type 0
IsRightHome (home.Register k) = k < registers
IsRightHome (home.Spill i) = Unit {0}

abbrev pub IsRightSource : Source → Type 0
IsRightSource (source.Along h steps) = IsRightHome h
IsRightSource _ = Unit {0}

abbrev pub AreRightSources : List Source → Type 0
AreRightSources [] = Unit {0}
AreRightSources (s ∷ sources) = IsRightSource s × AreRightSources sources

abbrev pub AreRightBuildings : List Building → Type 0
AreRightBuildings [] = Unit {0}
AreRightBuildings (b ∷ buildings) = AreRightSources b.fields × AreRightBuildings buildings

abbrev pub IsRightWant : Wanted → Type 0
IsRightWant (want.Exn name applied) = IsRightSource name
IsRightWant _ = Unit {0}

abbrev pub AreRightTests : List Test → Type 0
AreRightTests [] = Unit {0}
AreRightTests (t ∷ tests) = IsRightWant t.want × AreRightTests tests

abbrev pub UsesRegisters : placed.Code → Type 0
UsesRegisters (placed.Frame n c) = UsesRegisters c
UsesRegisters (placed.Make buildings c) = AreRightBuildings buildings × UsesRegisters c
UsesRegisters (placed.Name h n c) = IsRightHome h × UsesRegisters c
UsesRegisters (placed.Let h s c) = IsRightHome h × IsRightSource s × UsesRegisters c
UsesRegisters (placed.Prim f sources c) = AreRightSources sources × UsesRegisters c
UsesRegisters (placed.Take h c) = IsRightHome h × UsesRegisters c
UsesRegisters (placed.Handler h c) = IsRightHome h × UsesRegisters c
UsesRegisters (placed.SetHandler s c) = IsRightSource s × UsesRegisters c
UsesRegisters (placed.When s tests same other) = IsRightSource s × AreRightTests tests × UsesRegisters same × UsesRegisters other
UsesRegisters (placed.Equal a b t k) = IsRightSource a × IsRightSource b × IsRightSource k
UsesRegisters (placed.Call target f sources) = IsRightSource f × AreRightSources sources
UsesRegisters (placed.Throw s) = IsRightSource s
UsesRegisters placed.Halt = Unit {0}

-- ---- Few live values

-- they are n at most: some list of n has them all
pub record AreAtMost (n : ℕ) (xs : List ℕ) : Type 0 where
  pub few : List ℕ
  pub all : (y : ℕ) → IsAmong y xs → IsAmong y few
  pub most : length few ≤ n

-- at most n values live at each point of the body
abbrev pub HasFewLive : ℕ → closed.Code → Type 0
HasFewLive n (closed.Make makers c) = AreAtMost n (live (closed.Make makers c)) × HasFewLive n c
HasFewLive n (closed.Let x o c) = AreAtMost n (live (closed.Let x o c)) × HasFewLive n c
HasFewLive n (closed.Prim x f os c) = AreAtMost n (live (closed.Prim x f os c)) × HasFewLive n c
HasFewLive n (closed.Handler x c) = AreAtMost n (live (closed.Handler x c)) × HasFewLive n c
HasFewLive n (closed.SetHandler o c) = AreAtMost n (live (closed.SetHandler o c)) × HasFewLive n c
HasFewLive n (closed.When o tests same other) = AreAtMost n (live (closed.When o tests same other)) × HasFewLive n same × HasFewLive n other
HasFewLive n c = AreAtMost n (live c)

-- no variable of one group stands for another
abbrev pub NamesOnce : closed.Code → Type 0
NamesOnce (closed.Make makers c) = IsDistinct (names_of makers) × NamesOnce c
NamesOnce (closed.Let x o c) = NamesOnce c
NamesOnce (closed.Prim x f os c) = NamesOnce c
NamesOnce (closed.Handler x c) = NamesOnce c
NamesOnce (closed.SetHandler o c) = NamesOnce c
NamesOnce (closed.When o tests same other) = NamesOnce same × NamesOnce other
NamesOnce _ = Unit {0}

-- all variables of a body, those that it uses and those that it binds
abbrev pub vars_of : closed.Code → List ℕ
vars_of (closed.Make makers c) = names_of makers ++ (used_by_makers makers ++ vars_of c)
vars_of (closed.Let x o c) = x ∷ (used_by o ++ vars_of c)
vars_of (closed.Prim x f os c) = x ∷ (all_used_by os ++ vars_of c)
vars_of (closed.Handler x c) = x ∷ vars_of c
vars_of (closed.SetHandler o c) = used_by o ++ vars_of c
vars_of (closed.When o tests same other) = (used_by o ++ used_by_tests tests) ++ (vars_of same ++ vars_of other)
vars_of (closed.Equal a b t k) = used_by a ++ (used_by b ++ used_by k)
vars_of (closed.Call t f os) = used_by f ++ all_used_by os
vars_of (closed.Throw o) = used_by o
vars_of closed.Halt = []

-- ---- What spill records take

abbrev pub spill_words : Kind → ℕ → ℕ
spill_words sim.SpillRecord n = n
spill_words _ n = 0

-- the words of a memory's spill records
abbrev pub spilled : List Block → ℕ
spilled [] = 0
spilled (b ∷ blocks) = spill_words b.kind b.words + spilled blocks

-- the greatest number of words of spill records that one path through a body makes
abbrev pub path_words : placed.Code → ℕ
path_words (placed.Frame n c) = suc n + path_words c
path_words (placed.Make buildings c) = path_words c
path_words (placed.Name h n c) = path_words c
path_words (placed.Let h s c) = path_words c
path_words (placed.Prim f sources c) = path_words c
path_words (placed.Take h c) = path_words c
path_words (placed.Handler h c) = path_words c
path_words (placed.SetHandler s c) = path_words c
path_words (placed.When s tests same other) = greater (path_words same) (path_words other)
path_words _ = 0

-- the program's number bounds each path through each body
pub record SpillFits (p : placed.Tree) : Type 0 where
  pub main : path_words p.main ≤ p.spill
  pub functions : (l : ℕ) (c : placed.Code) → slice_get p.functions l ≡ Some c → path_words c ≤ p.spill
  pub as_many : length p.functions ≤ length p.points
