-- A machine that works on a list of items, one for each block: its step says how it goes on, what it writes, and what it does to the list.
use Rattle.std.specs.Prelude.{◌==◌, ◌&&◌, ℕ, List, [], ◌∷◌, ◌++◌, Option, Some, None, Bool, true, false, cond, map, set, slice_get}
use Rattle.smlc_base.specs.declared.point.Point.{Point}
use Rattle.simulation.specs.Blocks.{Kind, Closure, Frame, Datum, ClassRecord, SpillRecord, Inside, Block}
use Rattle.simulation.specs.Runs.{End}
use Rattle.simulation.specs.Machines.{Machine}

-- items are made at the end of the list, or the item at a place gives way to another
pub data Effect (X : Type 0) : Type 0 where
  Append : (items : List X) → Effect X
  Put : (place : ℕ) (item : X) → Effect X

-- what a step does
pub record Act (C X : Type 0) : Type 0 where
  pub next : C
  pub told : List ℕ
  pub effects : List (Effect X)

pub record StoreMachine (C X : Type 0) : Type 0 where
  pub act : C → List X → Option (Act C X)
  -- how a state without a step has ended, and the point that a state passes
  pub end : C → List X → End
  pub pass : C → List X → Option Point
  pub roots : C → List X → List ℕ
  -- the block that an item is seen as
  pub view : X → Block

pub record Configuration (C X : Type 0) : Type 0 where
  pub control : C
  pub out : List ℕ
  pub store : List X

abbrev pub is_datum : Kind → Bool
is_datum (Closure p) = false
is_datum (Frame ps) = false
is_datum Datum = true
is_datum ClassRecord = false
is_datum SpillRecord = false
is_datum Inside = false

-- what may give way: a datum to a datum, and a spill record to a spill record
abbrev pub gives_way : Kind → Kind → Bool
gives_way Datum Datum = true
gives_way SpillRecord SpillRecord = true
gives_way _ _ = false

-- to one of the same length
abbrev pub may_replace : Block → Block → Bool
may_replace old new = gives_way old.kind new.kind && (old.words == new.words)

abbrev pub replaced : {X : Type 0} → (X → Block) → List X → ℕ → X → Option X → Option (List X)
replaced view store a x None = None
replaced view store a x (Some old) = cond (may_replace (view old) (view x)) (Some (set store a x)) None

-- A datum or a spill record alone gives way, and only to one of its kind and length. Else there is no step.
abbrev pub affected : {X : Type 0} → (X → Block) → List X → Effect X → Option (List X)
affected view store (Append xs) = Some (store ++ xs)
affected view store (Put a x) = replaced view store a x (slice_get store a)

abbrev pub affected_on : {X : Type 0} → (X → Block) → Option (List X) → Effect X → Option (List X)
affected_on view None e = None
affected_on view (Some store) e = affected view store e

-- one effect after another
abbrev pub all_affected : {X : Type 0} → (X → Block) → Option (List X) → List (Effect X) → Option (List X)
all_affected view o [] = o
all_affected view o (e ∷ es) = all_affected view (affected_on view o e) es

abbrev pub configured : {C X : Type 0} → C → List ℕ → Option (List X) → Option (Configuration C X)
configured next out None = None
configured next out (Some store) = Some (record { control = next; out = out; store = store })

-- what was written, and then this
abbrev pub wrote : List ℕ → List ℕ → List ℕ
wrote out [] = out
wrote out (x ∷ xs) = out ++ (x ∷ xs)

abbrev pub acted : {C X : Type 0} → (X → Block) → List ℕ → List X → Option (Act C X) → Option (Configuration C X)
acted view out store None = None
acted view out store (Some a) = configured a.next (wrote out a.told) (all_affected view (Some store) a.effects)

abbrev pub machine_of : {C X : Type 0} → StoreMachine C X → Machine (Configuration C X)
machine_of M = record {
  step = λ s. acted M.view s.out s.store (M.act s.control s.store);
  out = λ s. s.out;
  end = λ s. M.end s.control s.store;
  pass = λ s. M.pass s.control s.store;
  memory = λ s. map M.view s.store;
  roots = λ s. M.roots s.control s.store;
}

-- ---- Common acts

-- only the control goes on
abbrev pub goes : {C X : Type 0} → C → Option (Act C X)
goes c = Some (record { next = c; told = []; effects = [] })

abbrev pub tells : {C X : Type 0} → C → List ℕ → Option (Act C X)
tells c out = Some (record { next = c; told = out; effects = [] })

-- these items are made
abbrev pub makes : {C X : Type 0} → C → List X → Option (Act C X)
makes c xs = Some (record { next = c; told = []; effects = Append xs ∷ [] })

abbrev pub puts : {C X : Type 0} → C → ℕ → X → Option (Act C X)
puts c a x = Some (record { next = c; told = []; effects = Put a x ∷ [] })

-- ---- The same over other items and controls

abbrev pub effect_over : {X Y : Type 0} → (X → Y) → Effect X → Effect Y
effect_over f (Append xs) = Append (map f xs)
effect_over f (Put a x) = Put a (f x)

abbrev pub act_over : {C D X Y : Type 0} → (C → D) → (X → Y) → Act C X → Act D Y
act_over g f a = record { next = g a.next; told = a.told; effects = map (effect_over f) a.effects }

abbrev pub configuration_over : {C D X Y : Type 0} → (C → D) → (X → Y) → Configuration C X → Configuration D Y
configuration_over g f s = record { control = g s.control; out = s.out; store = map f s.store }
