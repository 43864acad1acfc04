-- The rule of places. A variable has one place from where it is bound on: the least that no other living variable has. Places 0 to 19 are the registers,
-- and place 20 + i is word i of the body's spill record. What is bound and never read has no place.
use Rattle.std.specs.Prelude.{◌≡◌, ◌≤◌, ℕ, zero, suc, ◌+◌, ◌-◌, ◌==◌, nat_lt, cond, List, [], ◌∷◌, Some, map, length, slice_get}
use Rattle.closure_ir.specs.declared.operand.Operand.{Operand}
use Rattle.closure_ir.specs.declared.operand.Operand.TheVariants as operand
use Rattle.closure_ir.specs.declared.body.Maker.{Maker}
use Rattle.closure_ir.specs.declared.body.Wanted.{Wanted}
use Rattle.closure_ir.specs.declared.body.Wanted.TheVariants as want
use Rattle.closure_ir.specs.declared.body.Test.{Test}
use Rattle.closure_ir.specs.Code as closed
use Rattle.placed_ir.specs.declared.home.Home.{Home}
use Rattle.placed_ir.specs.declared.home.Home.TheVariants as home
use Rattle.placed_ir.specs.declared.home.Source.{Source}
use Rattle.placed_ir.specs.declared.home.Source.TheVariants as source
use Rattle.placed_ir.specs.declared.home.Building.{Building}
use Rattle.placed_ir.specs.declared.test.Wanted.{Wanted as WantedThere}
use Rattle.placed_ir.specs.declared.test.Wanted.TheVariants as there
use Rattle.placed_ir.specs.declared.test.Test.{Test as TestThere}
use Rattle.placed_ir.specs.Arena.{offset_in}
use Rattle.placed_ir.specs.Code as placed
use Rattle.placed_ir.specs.Program.{framed}
use Rattle.place_laws.specs.Live.{is_in, without, without_all, names_of, live}

-- ---- Places

-- more than each of them
abbrev pub above : List ℕ → ℕ
above [] = 0
above (m ∷ ms) = suc (m + above ms)

-- the least number from n on that isn't in the list, among so many
abbrev pub least_from : ℕ → ℕ → List ℕ → ℕ
least_from zero n taken = above taken
least_from (suc k) n taken = cond (is_in n taken) (least_from k (suc n) taken) n

-- the least number that isn't in the list
abbrev pub least_free : List ℕ → ℕ
least_free taken = least_from (suc (length taken)) 0 taken

abbrev pub registers : ℕ
registers = 20

abbrev pub home_of : ℕ → Home
home_of p = cond (nat_lt p registers) (home.Register p) (home.Spill (p - registers))

-- where each variable stands
abbrev pub Places : Type 0
Places = ℕ → ℕ

abbrev pub at_place : Places → ℕ → ℕ → Places
at_place at x p y = cond (y == x) p (at y)

-- that of one more variable, beside these
abbrev pub place_beside : Places → List ℕ → ℕ
place_beside at others = least_free (map at others)

-- and then of all variables
abbrev pub at_one : Places → ℕ → List ℕ → Places
at_one at x others = at_place at x (place_beside at others)

-- and of those of a group that live on, one after another
abbrev pub at_group : List ℕ → List Maker → List ℕ → Places → Places
at_group alive [] taken at = at
at_group alive (m ∷ makers) taken at =
    cond (is_in m.var alive)
    (at_group alive makers (least_free taken ∷ taken) (at_place at m.var (least_free taken)))
    (at_group alive makers taken at)

-- ---- Sources

-- the words of a block behind its header
abbrev pub maker_length : Maker → ℕ
maker_length m = length m.fields

-- where such a group is being made
abbrev pub source_of : Places → List Maker → Operand → Source
source_of at makers (operand.Path x steps) = source.Along (home_of (at x)) steps
source_of at makers (operand.New k) = source.Fresh (offset_in (map maker_length makers) k)
source_of at makers (operand.Static s) = source.Static s
source_of at makers (operand.Code l) = source.Code l
source_of at makers (operand.Literal n) = source.Literal n

abbrev pub source_for : Places → Operand → Source
source_for at o = source_of at [] o

abbrev pub building_of : Places → List Maker → Maker → Building
building_of at makers m = record { shape = m.shape; fields = map (source_of at makers) m.fields }

abbrev pub want_of : Places → Wanted → WantedThere
want_of at (want.Num z) = there.Num z
want_of at (want.Tag t) = there.Tag t
want_of at (want.Text t) = there.Text t
want_of at (want.Exn name applied) = there.Exn (source_for at name) applied

abbrev pub test_of : Places → Test → TestThere
test_of at t = record { path = t.path; want = want_of at t.want }

-- ---- Bodies

-- the first if what is bound lives on
abbrev pub where_live : ℕ → List ℕ → placed.Code → placed.Code → placed.Code
where_live x alive c d = cond (is_in x alive) c d

-- the names of the group that live on, from an offset on
abbrev pub names_placed : List ℕ → List Maker → ℕ → List ℕ → placed.Code → placed.Code
names_placed alive [] offset taken c = c
names_placed alive (m ∷ makers) offset taken c =
    where_live m.var alive
    (placed.Name (home_of (least_free taken)) offset (names_placed alive makers (offset + suc (maker_length m)) (least_free taken ∷ taken) c))
    (names_placed alive makers (offset + suc (maker_length m)) taken c)

-- what lives on beside a variable, and beside a group
abbrev pub beside : ℕ → closed.Code → List ℕ
beside x c = without x (live c)

abbrev pub beside_group : List Maker → closed.Code → List ℕ
beside_group makers c = without_all (names_of makers) (live c)

abbrev pub place_code : Places → closed.Code → placed.Code
place_code at (closed.Make makers c) =
    let taken = map at (beside_group makers c) in
    placed.Make (map (building_of at makers) makers)
    (names_placed (live c) makers 0 taken (place_code (at_group (live c) makers taken at) c))
place_code at (closed.Let x o c) =
    let there = place_code (at_one at x (beside x c)) c in
    where_live x (live c) (placed.Let (home_of (place_beside at (beside x c))) (source_for at o) there) there
place_code at (closed.Prim x f os c) =
    let there = place_code (at_one at x (beside x c)) c in
    placed.Prim f (map (source_for at) os) (where_live x (live c) (placed.Take (home_of (place_beside at (beside x c))) there) there)
place_code at (closed.Handler x c) =
    let there = place_code (at_one at x (beside x c)) c in
    where_live x (live c) (placed.Handler (home_of (place_beside at (beside x c))) there) there
place_code at (closed.SetHandler o c) = placed.SetHandler (source_for at o) (place_code at c)
place_code at (closed.When o tests same other) =
    placed.When (source_for at o) (map (test_of at) tests) (place_code at same) (place_code at other)
place_code at (closed.Equal a b t k) = placed.Equal (source_for at a) (source_for at b) t (source_for at k)
place_code at (closed.Call target f os) = placed.Call target (source_for at f) (map (source_for at) os)
place_code at (closed.Throw o) = placed.Throw (source_for at o)
place_code at closed.Halt = placed.Halt

-- ---- The spill record

abbrev pub greater : ℕ → ℕ → ℕ
greater m n = cond (nat_lt m n) n m

-- the words that a record with this home has at least
abbrev pub home_spills : Home → ℕ
home_spills (home.Register k) = 0
home_spills (home.Spill i) = suc i

-- how many words of its spill record a body writes
abbrev pub spills : placed.Code → ℕ
spills (placed.Frame n c) = spills c
spills (placed.Make buildings c) = spills c
spills (placed.Name h n c) = greater (home_spills h) (spills c)
spills (placed.Let h s c) = greater (home_spills h) (spills c)
spills (placed.Prim f sources c) = spills c
spills (placed.Take h c) = greater (home_spills h) (spills c)
spills (placed.Handler h c) = greater (home_spills h) (spills c)
spills (placed.SetHandler s c) = spills c
spills (placed.When s tests same other) = greater (spills same) (spills other)
spills _ = 0

-- a body that spills begins by making its record
abbrev pub whole : placed.Code → placed.Code
whole c = framed (spills c) c

-- what the record takes, with its header
abbrev pub frame_size : ℕ → ℕ
frame_size zero = 0
frame_size (suc n) = suc (suc n)

-- ---- Programs

-- parameters come in the first registers, from number k on
abbrev pub at_params : List ℕ → ℕ → Places → Places
at_params [] k at = at
at_params (x ∷ params) k at = at_params params (suc k) (at_place at x k)

abbrev pub nowhere : Places
nowhere x = 0

-- a function, before its record
abbrev pub place_plain : closed.Routine → placed.Code
place_plain f = place_code (at_params f.params 0 nowhere) f.code

abbrev pub place_routine : closed.Routine → placed.Code
place_routine f = whole (place_plain f)

abbrev pub greatest_frame : List closed.Routine → ℕ
greatest_frame [] = 0
greatest_frame (f ∷ functions) = greater (frame_size (spills (place_plain f))) (greatest_frame functions)

abbrev pub place_program : closed.Tree → placed.Tree
place_program p = record {
  main = whole (place_code nowhere p.main);
  functions = map place_routine p.functions;
  points = p.points;
  sites = p.sites;
  texts = p.texts;
  exns = p.exns;
  spill = greater (frame_size (spills (place_code nowhere p.main))) (greatest_frame p.functions);
}

-- the parameters of each function have registers
abbrev pub HasFewParams : closed.Tree → Type 0
HasFewParams p = (l : ℕ) (f : closed.Routine) → slice_get p.functions l ≡ Some f → length f.params ≤ registers
