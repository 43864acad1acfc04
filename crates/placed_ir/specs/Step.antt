-- One step of the machine. What it does with words is what the machine of closed programs does; it differs in where words stand.
use Rattle.std.specs.Prelude.{ℕ, ◌+◌, ◌&&◌, pos, Bool, cond, not, List, [], ◌∷◌, Option, Some, None, length, map, set, slice_get}
use Rattle.smlc_base.specs.declared.primitive.Primitive.{Primitive}
use Rattle.simulation.specs.Stores.{Act, Append, Put, goes, makes}
use Rattle.prim_meaning.specs.Meaning as mean
use Rattle.prim_meaning.specs.Meaning.{Verdict, compared, is_deep, decided, turn}
use Rattle.prim_meaning.specs.Strict.{all_met, is_seen}
use Rattle.prim_meaning.specs.Tests as tested
use Rattle.prim_meaning.specs.Tests.{Trial, bytes_wanted, name_wanted}
use Rattle.sml_def.specs.Maybe.{◌>>=◌}
use Rattle.closure_ir.specs.declared.operand.Shape.TheVariants as shape
use Rattle.closure_ir.specs.declared.body.Target.{Target}
use Rattle.closure_ir.specs.declared.body.Target.TheVariants as target
use Rattle.closure_ir.specs.Words.{Word, Num, At, Made, extra_words, label_through}
use Rattle.closure_ir.specs.Answers.{see, which, is_name, Growing, Result, Gives, Builds, Sets, Raises, answer, grown}
use Rattle.closure_ir.specs.Step.{truth_word, chain, pair_in}
use Rattle.placed_ir.specs.declared.home.Home.{Home}
use Rattle.placed_ir.specs.declared.home.Home.TheVariants as home
use Rattle.placed_ir.specs.declared.home.Source.{Source}
use Rattle.placed_ir.specs.declared.test.Wanted.{Wanted}
use Rattle.placed_ir.specs.declared.test.Wanted.TheVariants as want
use Rattle.placed_ir.specs.declared.test.Test.{Test}
use Rattle.placed_ir.specs.Code.{Code, Frame, Make, Name, Let, Prim, Take, Handler, SetHandler, When, Equal, Call, Throw, Halt, Tree}
use Rattle.placed_ir.specs.Arena.{Slot, Held, Spilled, held_at, words_in, slots_of, new_frame, offset_in, Registers, arrived, settled, with_base, with_result, with_frame, with_handler, with_register, past, read, all_read, all_built}

-- ---- States

-- what the machine is about to do
pub data Doing : Type 0 where
  Running : (c : Code) (r : Registers) → Doing
  -- a label is entered with its closure and the arguments; what stood in other registers is lost
  Arriving : (label : ℕ) (words : List Word) (handler : Word) → Doing
  -- a turn of a comparison: the first pending pair, if there is one, and the continuation
  Comparing : (truth : Bool) (pending : List Word) (next handler : Word) → Doing
  -- a packet that no handler takes
  Failed : (packet : Word) → Doing

-- and the bytes of the input that are left
pub record Facing : Type 0 where
  pub doing : Doing
  pub input : List ℕ

pub record Store : Type 0 where
  pub slots : List Slot
  pub input : List ℕ

abbrev pub Goes : Type 0
Goes = Option (Act Facing Slot)

abbrev pub facing : Store → Doing → Facing
facing m d = record { doing = d; input = m.input }

abbrev pub on : Store → Doing → Goes
on m d = goes (facing m d)

-- ---- A home gets a word

-- where the record has the word
abbrev pub spills_word : Store → Code → Registers → ℕ → Word → ℕ → List Word → Goes
spills_word m c r i w a ws =
    slice_get ws i
    >>= (λ old. Some (record { next = facing m (Running c r); told = []; effects = Put a (Spilled (set ws i w)) ∷ [] }))

abbrev pub puts_home : Store → Code → Registers → Home → Word → Goes
puts_home m c r (home.Register k) w = on m (Running c (with_register r k w))
puts_home m c r (home.Spill i) w = r.frame >>= (λ a. words_in (slice_get m.slots a) >>= (λ ws. spills_word m c r i w a ws))

-- ---- Groups of blocks that primitives and comparisons make

-- the words behind the header
abbrev pub growing_length : Growing → ℕ
growing_length g = extra_words g.sort + length g.parts

-- where block k stands, if the group begins at a
abbrev pub group_at : ℕ → List Growing → ℕ → ℕ
group_at a gs k = a + offset_in (map growing_length gs) k

abbrev pub laid : ℕ → List Growing → List Slot
laid a gs = slots_of (map (grown (group_at a gs)) gs)

-- ---- Tests

module _ (texts : List (List ℕ)) (slots : List Slot) (r : Registers) where
  abbrev pub wanted : Wanted → tested.Wanted Word
  wanted (want.Num z) = tested.Num z
  wanted (want.Tag t) = tested.Tag t.number
  wanted (want.Text t) = bytes_wanted (slice_get texts t)
  wanted (want.Exn name applied) = name_wanted applied (read slots r None name)

  abbrev pub trial : Test → Trial Word
  trial t = record { path = t.path; want = wanted t.want }

  abbrev pub all_stand : Word → List Test → Option Bool
  all_stand w tests = all_met (see texts (held_at slots)) which (is_name (held_at slots)) w (map trial tests)

-- ---- The step

module _ (p : Tree) where
  abbrev pub seen : Store → Word → mean.Seen Word
  seen m = see p.texts (held_at m.slots)

  abbrev pub looked : Store → Registers → Source → Option Word
  looked m r s = read m.slots r None s

  abbrev pub all_looked : Store → Registers → List Source → Option (List Word)
  all_looked m r sources = all_read m.slots r None sources

  -- ---- Calls and raises

  abbrev pub calls : Store → Option ℕ → Word → List Word → Word → Goes
  calls m label f ws h = label >>= (λ l. on m (Arriving l (f ∷ ws) h))

  abbrev pub enters : Store → Word → List Word → Word → Goes
  enters m f ws h = calls m (label_through (held_at m.slots) f) f ws h

  abbrev pub label_for : Store → Target → Word → Option ℕ
  label_for m (target.Known l) f = Some l.0
  label_for m target.Through f = label_through (held_at m.slots) f

  -- the first handler is a number, and takes nothing
  abbrev pub throws : Store → Word → Word → Goes
  throws m x (Num n) = on m (Failed x)
  throws m x h = enters m h (x ∷ []) h

  abbrev pub arrives : Store → Option Code → List Word → Word → Goes
  arrives m code ws h = code >>= (λ c. on m (Running c (arrived ws h)))

  -- ---- What a primitive comes to, with its result in the scratch register

  abbrev pub makes_group : Store → Code → Registers → List ℕ → List ℕ → List Growing → Goes
  makes_group m c r told input [] = None
  makes_group m c r told input (g ∷ more) =
      let gs = g ∷ more in
      Some
      (record {
        next = record { doing = Running c (with_result r (At (group_at (length m.slots) gs (length more)))); input = input };
        told = told;
        effects = Append (laid (length m.slots) gs) ∷ [];
      })

  abbrev pub carries : Store → Code → Registers → List ℕ → List ℕ → Result → Goes
  carries m c r told input (Gives w) =
      Some (record { next = record { doing = Running c (with_result r w); input = input }; told = told; effects = [] })
  carries m c r told input (Builds gs) = makes_group m c r told input gs
  carries m c r told input (Sets a w) =
      Some
      (record {
        next = record { doing = Running c (with_result r (Num (pos 0))); input = input };
        told = told;
        effects = Put a (Held (record { sort = Made shape.Cell; fields = w ∷ [] })) ∷ [];
      })
  carries m c r told input (Raises w) = throws m w r.handler

  abbrev pub primitive : Store → Primitive → List Word → Code → Registers → Goes
  primitive m f ws c r = answer p.texts (held_at m.slots) (length m.slots) m.input f ws >>= (λ a. carries m c r a.told a.input a.result)

  -- ---- Comparisons

  abbrev pub tells_truth : Store → Bool → Word → Word → Goes
  tells_truth m t k h = enters m k (truth_word t ∷ []) h

  abbrev pub pends : Store → Bool → List Word → Word → Word → List Growing → Goes
  pends m t next k h [] = on m (Comparing t next k h)
  pends m t next k h (g ∷ more) =
      let gs = g ∷ more in
      makes (facing m (Comparing t (At (group_at (length m.slots) gs (length more)) ∷ []) k h)) (laid (length m.slots) gs)

  abbrev pub both_seen : Store → Word → Word → Bool
  both_seen m u v = is_seen (seen m u) && is_seen (seen m v)

  abbrev pub begins : Store → Word → Word → Bool → Word → Word → Goes
  begins m u v t k h =
      cond (is_deep (seen m u) (seen m v))
      (pends m t [] k h (chain ((u, v) ∷ []) []))
      (tells_truth m (decided (compared (seen m u) (seen m v)) t) k h)

  abbrev pub equals : Store → Word → Word → Bool → Word → Word → Goes
  equals m u v t k h = cond (both_seen m u v) (begins m u v t k h) None

  abbrev pub by_verdict : Store → Verdict Word → List Word → Bool → Word → Word → Goes
  by_verdict m mean.Equal next t k h = on m (Comparing t next k h)
  by_verdict m mean.Unequal next t k h = tells_truth m (not t) k h
  by_verdict m (mean.AsPairs pairs) next t k h = pends m t next k h (chain pairs next)

  abbrev pub takes_pair : Store → (Word × Word) × List Word → Bool → Word → Word → Goes
  takes_pair m q t k h = cond (both_seen m q.0.0 q.0.1) (by_verdict m (turn (seen m) q.0.0 q.0.1) q.1 t k h) None

  abbrev pub compares : Store → List Word → Bool → Word → Word → Goes
  compares m [] t k h = tells_truth m t k h
  compares m (At a ∷ ws) t k h = pair_in (held_at m.slots a) >>= (λ q. takes_pair m q t k h)
  compares m _ t k h = None

  -- ---- Bodies

  abbrev pub runs : Store → Code → Registers → Goes
  runs m (Frame n c) r = makes (facing m (Running c (with_frame r (length m.slots)))) (new_frame n)
  runs m (Make buildings c) r =
      all_built m.slots r (Some (length m.slots)) buildings
      >>= (λ cells. makes (facing m (Running c (with_base r (length m.slots)))) (slots_of cells))
  runs m (Name home n c) r = past r.base n >>= puts_home m c r home
  runs m (Let home s c) r = looked m r s >>= puts_home m c (settled r) home
  runs m (Prim f sources c) r = all_looked m r sources >>= (λ ws. primitive m f ws c r)
  runs m (Take home c) r = r.result >>= puts_home m c (settled r) home
  runs m (Handler home c) r = puts_home m c (settled r) home r.handler
  runs m (SetHandler s c) r = looked m r s >>= (λ w. on m (Running c (with_handler r w)))
  runs m (When s tests same other) r = do
    w ← looked m r s
    b ← all_stand p.texts m.slots r w tests
    on m (Running (cond b same other) (settled r))
  runs m (Equal a b t k) r = do
    u ← looked m r a
    v ← looked m r b
    w ← looked m r k
    equals m u v t w r.handler
  runs m (Call target f sources) r = do
    w ← looked m r f
    ws ← all_looked m r sources
    calls m (label_for m target w) w ws r.handler
  runs m (Throw s) r = looked m r s >>= (λ w. throws m w r.handler)
  runs m Halt r = None

  abbrev pub step : Store → Doing → Goes
  step m (Running c r) = runs m c r
  step m (Arriving l ws h) = arrives m (slice_get p.functions l) ws h
  step m (Comparing t ws k h) = compares m ws t k h
  step m (Failed w) = None
