-- One step of the machine.
use Rattle.std.specs.Prelude.{ℕ, suc, ◌+◌, ◌==◌, ◌&&◌, pos, Bool, cond, not, List, [], ◌∷◌, ◌++◌, Option, Some, None, length, map, slice_get}
use Rattle.smlc_base.specs.declared.primitive.Primitive.{Primitive}
use Rattle.simulation.specs.Stores.{Act, Append, Put, goes, makes}
use Rattle.prim_meaning.specs.Meaning as mean
use Rattle.prim_meaning.specs.Meaning.{Verdict, compared, is_deep, decided, turn}
use Rattle.prim_meaning.specs.Strict.{is_seen}
use Rattle.sml_def.specs.Maybe.{◌>>=◌}
use Rattle.closure_ir.specs.declared.operand.Shape.TheVariants as shape
use Rattle.closure_ir.specs.declared.operand.Operand.{Operand}
use Rattle.closure_ir.specs.declared.body.Maker.{Maker}
use Rattle.closure_ir.specs.declared.body.Target.{Target}
use Rattle.closure_ir.specs.declared.body.Target.TheVariants as target
use Rattle.closure_ir.specs.Words.{Word, Num, At, Sort, Made, Pair, LastPair, Cell, Cells, Vars, look, consed, all_looked, label_through}
use Rattle.closure_ir.specs.Code.{Code, Make, Let, Prim, Handler, SetHandler, When, Equal, Call, Throw, Halt, Routine, Tree}
use Rattle.closure_ir.specs.Answers.{see, all_stand, Part, Old, Own, Growing, Result, Gives, Builds, Sets, Raises, answer, grown}

-- ---- States

-- what the machine is about to do; the handler is the value of the register
pub data Doing : Type 0 where
  Running : (c : Code) (env : Vars) (handler : Word) → Doing
  -- a label is entered with its closure and the arguments
  Arriving : (label : ℕ) (words : List Word) (handler : Word) → Doing
  -- a turn of a comparison: the first pending pair, if there is one, and the continuation
  Comparing : (truth : Bool) (pending : List Word) (next handler : Word) → Doing
  -- a packet that no handler takes
  Failed : (packet : Word) → Doing

-- and the bytes of the input that are left
pub record Facing : Type 0 where
  pub doing : Doing
  pub input : List ℕ

pub record Store : Type 0 where
  pub cells : List Cell
  pub input : List ℕ

abbrev pub Goes : Type 0
Goes = Option (Act Facing Cell)

abbrev pub facing : Store → Doing → Facing
facing m d = record { doing = d; input = m.input }

abbrev pub on : Store → Doing → Goes
on m d = goes (facing m d)

-- ---- Variables

abbrev pub bound : Vars → ℕ → Word → Vars
bound env x w y = cond (y == x) (Some w) (env y)

abbrev pub bound_all : Vars → List ℕ → List Word → Vars
bound_all env [] ws = env
bound_all env (x ∷ xs) [] = env
bound_all env (x ∷ xs) (w ∷ ws) = bound_all (bound env x w) xs ws

abbrev pub unbound : Vars
unbound x = None

-- ---- Groups

-- the addresses of the blocks of a group, from a on
abbrev pub numbered : ℕ → List Maker → List Word
numbered a [] = []
numbered a (m ∷ makers) = At a ∷ numbered (suc a) makers

abbrev pub made : Cells → Vars → List Word → Maker → Option Cell
made cells env fresh m = all_looked cells env fresh m.fields >>= (λ ws. Some (record { sort = Made m.shape; fields = ws }))

abbrev pub all_made : Cells → Vars → List Word → List Maker → Option (List Cell)
all_made cells env fresh [] = Some []
all_made cells env fresh (m ∷ makers) = consed (made cells env fresh m) (all_made cells env fresh makers)

-- ---- Comparisons

-- truth values are the constructors 1 and 0
abbrev pub truth_word : Bool → Word
truth_word b = Num (pos (cond b 1 0))

abbrev pub olds : List Word → List Part
olds words = map Old words

-- what comes behind a pair: the pair that was made last, or what was pending
abbrev pub behind : List Growing → List Word → List Part
behind [] next = olds next
behind (g ∷ later) next = Own (length later) ∷ []

abbrev pub pair_of : Word × Word → List Part → Growing
pair_of pair [] = record { sort = LastPair; parts = Old pair.0 ∷ Old pair.1 ∷ [] }
pair_of pair (q ∷ parts) = record { sort = Pair; parts = Old pair.0 ∷ Old pair.1 ∷ q ∷ [] }

-- The blocks of pairs that are put in front of the pending ones, the last pair first: the block that is made last is the first pair.
abbrev pub chain : List (Word × Word) → List Word → List Growing
chain [] next = []
chain (pair ∷ pairs) next = let later = chain pairs next in later ++ pair_of pair (behind later next) ∷ []

abbrev pub by_sort : Sort → List Word → Option ((Word × Word) × List Word)
by_sort Pair (u ∷ v ∷ next ∷ []) = Some ((u, v), next ∷ [])
by_sort LastPair (u ∷ v ∷ []) = Some ((u, v), [])
by_sort _ fields = None

-- a pending pair, and what is pending behind it
abbrev pub pair_in : Option Cell → Option ((Word × Word) × List Word)
pair_in None = None
pair_in (Some c) = by_sort c.sort c.fields

-- ---- The step

module _ (p : Tree) where
  abbrev pub seen : Store → Word → mean.Seen Word
  seen m = see p.texts (slice_get m.cells)

  abbrev pub looked : Store → Vars → Operand → Option Word
  looked m env o = look (slice_get m.cells) env [] o

  abbrev pub all_read : Store → Vars → List Operand → Option (List Word)
  all_read m env os = all_looked (slice_get m.cells) env [] os

  -- ---- Calls and raises

  -- the function's code, with itself and these words
  abbrev pub calls : Store → Option ℕ → Word → List Word → Word → Goes
  calls m label f ws h = label >>= (λ l. on m (Arriving l (f ∷ ws) h))

  -- a function that is called as a value
  abbrev pub enters : Store → Word → List Word → Word → Goes
  enters m f ws h = calls m (label_through (slice_get m.cells) f) f ws h

  abbrev pub label_for : Store → Target → Word → Option ℕ
  label_for m (target.Known l) f = Some l.0
  label_for m target.Through f = label_through (slice_get m.cells) f

  -- the first handler is a number, and takes nothing
  abbrev pub throws : Store → Word → Word → Goes
  throws m x (Num n) = on m (Failed x)
  throws m x h = enters m h (x ∷ []) h

  -- a call with another number of arguments than parameters has no step
  abbrev pub arrives : Store → Option Routine → List Word → Word → Goes
  arrives m None ws h = None
  arrives m (Some f) ws h = cond (length f.params == length ws) (on m (Running f.code (bound_all unbound f.params ws) h)) None

  -- ---- What a primitive comes to, with its result bound to x

  abbrev pub makes_group : Store → ℕ → Code → Vars → Word → List ℕ → List ℕ → List Growing → Goes
  makes_group m x c env h told input [] = None
  makes_group m x c env h told input (g ∷ more) =
      Some
      (record {
        next = record { doing = Running c (bound env x (At (length m.cells + length more))) h; input = input };
        told = told;
        effects = Append (map (grown (λ k. length m.cells + k)) (g ∷ more)) ∷ [];
      })

  abbrev pub carries : Store → ℕ → Code → Vars → Word → List ℕ → List ℕ → Result → Goes
  carries m x c env h told input (Gives w) =
      Some (record { next = record { doing = Running c (bound env x w) h; input = input }; told = told; effects = [] })
  carries m x c env h told input (Builds gs) = makes_group m x c env h told input gs
  carries m x c env h told input (Sets a w) =
      Some
      (record {
        next = record { doing = Running c (bound env x (Num (pos 0))) h; input = input };
        told = told;
        effects = Put a (record { sort = Made shape.Cell; fields = w ∷ [] }) ∷ [];
      })
  carries m x c env h told input (Raises w) = throws m w h

  abbrev pub primitive : Store → ℕ → Primitive → List Word → Code → Vars → Word → Goes
  primitive m x f ws c env h =
      answer p.texts (slice_get m.cells) (length m.cells) m.input f ws >>= (λ a. carries m x c env h a.told a.input a.result)

  -- ---- Comparisons

  -- the continuation gets the truth value
  abbrev pub tells_truth : Store → Bool → Word → Word → Goes
  tells_truth m t k h = enters m k (truth_word t ∷ []) h

  abbrev pub pends : Store → Bool → List Word → Word → Word → List Growing → Goes
  pends m t next k h [] = on m (Comparing t next k h)
  pends m t next k h (g ∷ more) =
      makes
      (facing m (Comparing t (At (length m.cells + length more) ∷ []) k h))
      (map (grown (λ j. length m.cells + j)) (g ∷ more))

  -- both have equality: a comparison of others has no step
  abbrev pub both_seen : Store → Word → Word → Bool
  both_seen m u v = is_seen (seen m u) && is_seen (seen m v)

  -- two tuples or two applied constructors make a first pending pair, and others are decided at once
  abbrev pub begins : Store → Word → Word → Bool → Word → Word → Goes
  begins m u v t k h =
      cond (is_deep (seen m u) (seen m v))
      (pends m t [] k h (chain ((u, v) ∷ []) []))
      (tells_truth m (decided (compared (seen m u) (seen m v)) t) k h)

  abbrev pub equals : Store → Word → Word → Bool → Word → Word → Goes
  equals m u v t k h = cond (both_seen m u v) (begins m u v t k h) None

  abbrev pub by_verdict : Store → Verdict Word → List Word → Bool → Word → Word → Goes
  by_verdict m mean.Equal next t k h = on m (Comparing t next k h)
  by_verdict m mean.Unequal next t k h = tells_truth m (not t) k h
  by_verdict m (mean.AsPairs pairs) next t k h = pends m t next k h (chain pairs next)

  abbrev pub takes_pair : Store → (Word × Word) × List Word → Bool → Word → Word → Goes
  takes_pair m q t k h = cond (both_seen m q.0.0 q.0.1) (by_verdict m (turn (seen m) q.0.0 q.0.1) q.1 t k h) None

  abbrev pub compares : Store → List Word → Bool → Word → Word → Goes
  compares m [] t k h = tells_truth m t k h
  compares m (At a ∷ ws) t k h = pair_in (slice_get m.cells a) >>= (λ q. takes_pair m q t k h)
  compares m _ t k h = None

  -- ---- Bodies

  abbrev pub runs : Store → Code → Vars → Word → Goes
  runs m (Make makers c) env h =
      let fresh = numbered (length m.cells) makers in
      all_made (slice_get m.cells) env fresh makers >>= (λ cells. makes (facing m (Running c (bound_all env (map (λ k. k.var) makers) fresh) h)) cells)
  runs m (Let x o c) env h = looked m env o >>= (λ w. on m (Running c (bound env x w) h))
  runs m (Prim x f os c) env h = all_read m env os >>= (λ ws. primitive m x f ws c env h)
  runs m (Handler x c) env h = on m (Running c (bound env x h) h)
  runs m (SetHandler o c) env h = looked m env o >>= (λ w. on m (Running c env w))
  runs m (When o tests same other) env h = do
    w ← looked m env o
    b ← all_stand p.texts (slice_get m.cells) env w tests
    on m (Running (cond b same other) env h)
  runs m (Equal a b t k) env h = do
    u ← looked m env a
    v ← looked m env b
    w ← looked m env k
    equals m u v t w h
  runs m (Call target f os) env h = do
    w ← looked m env f
    ws ← all_read m env os
    calls m (label_for m target w) w ws h
  runs m (Throw o) env h = looked m env o >>= (λ w. throws m w h)
  runs m Halt env h = None

  abbrev pub step : Store → Doing → Goes
  step m (Running c env h) = runs m c env h
  step m (Arriving l ws h) = arrives m (slice_get p.functions l) ws h
  step m (Comparing t ws k h) = compares m ws t k h
  step m (Failed w) = None
