-- What a source, a sink and a store do in one call.
use Rattle.std.specs.Prelude.{ℕ, ◌≡◌, ◌≢◌, ◌+◌, ◌-◌, ◌^◌, ◌<◌, ◌≤◌, min, List, [], ◌++◌, length, take, drop, Bool, true, false, Option, Some, Result, Ok, Err, OnOk}
use Rattle.smlc_edge.specs.declared.edge.Failed.{Failed}
use Rattle.smlc_edge.specs.declared.edge.StoreError.{StoreError}
use Rattle.smlc_edge.specs.declared.edge.StoreError.TheVariants as store_error

-- ---- counts of faults

-- the greatest count
abbrev pub last_count : ℕ
last_count = 2 ^ 64 - 1

-- the count is greater now, or stood at its greatest
abbrev pub Rose : ℕ → ℕ → Type 0
Rose before now = min (before + 1) last_count ≤ now

-- the count rises where a call fails, and never falls
abbrev pub Fails : ℕ → ℕ → Type 0
Fails before now = (before ≤ now) × Rose before now

-- Failed is answered only where the count rose, and every other answer leaves it
abbrev pub Counts : {T E : Type 0} → ℕ → ℕ → Result T E → Type 0
Counts before now (Ok t) = now ≡ before
Counts before now (Err e) = Fails before now

-- ---- bytes

-- n bytes of a range that has so many: some, unless the range is empty
abbrev pub IsCut : ℕ → ℕ → Type 0
IsCut n limit = (n ≤ limit) × (0 < limit → 0 < n)

-- The bytes left, the slice before and after, the answer, and what is left then.
-- n bytes moved from the front of what was left to the slice's front; after Failed nothing moved.
abbrev pub Takes : List ℕ → List ℕ → List ℕ → Result ℕ Failed → Option (List ℕ) → Type 0
Takes bytes old new (Ok n) left = IsCut n (min (length old) (length bytes)) × (new ≡ take n bytes ++ drop n old) × (left ≡ Some (drop n bytes))
Takes bytes old new (Err e) left = (new ≡ old) × (left ≡ Some bytes)

-- The bytes taken before and now: where they are told now, they were told before, and this piece came behind them.
abbrev pub Gains : Option (List ℕ) → Option (List ℕ) → List ℕ → Type 0
Gains before now piece = (bytes : List ℕ) → now ≡ Some bytes → (old : List ℕ) × (before ≡ Some old) × (bytes ≡ old ++ piece)

-- what a sink took of a piece: its first n bytes, or nothing after Failed
abbrev pub part_of : List ℕ → Result ℕ Failed → List ℕ
part_of piece (Ok n) = take n piece
part_of piece (Err e) = []

-- ---- a store

-- a map from names to bytes
abbrev pub Files : Type 0
Files = List ℕ → Option (List ℕ)

-- only Failed has a cause in the store
abbrev pub LoadCounts : {T : Type 0} → ℕ → ℕ → Result T StoreError → Type 0
LoadCounts before now (Ok t) = now ≡ before
LoadCounts before now (Err store_error.Failed) = Fails before now
LoadCounts before now (Err store_error.NoMemory) = now ≡ before

abbrev pub is_failed : {T : Type 0} → Result T StoreError → Bool
is_failed (Ok t) = false
is_failed (Err store_error.Failed) = true
is_failed (Err store_error.NoMemory) = false

abbrev pub IsNotFailed : {T : Type 0} → Result T StoreError → Type 0
IsNotFailed (Err store_error.Failed) = ⊥
IsNotFailed _ = Unit {0}

-- After a save: Ok set the name's bytes; no other name's bytes changed, whatever the answer.
pub record Saves (before : Files) (name bytes : List ℕ) (result : Result (Unit {0}) Failed) (told : Option Files) : Type 0 where
  pub now : Files
  pub tells : told ≡ Some now
  pub done : OnOk result (now name ≡ Some bytes)
  pub others : (other : List ℕ) → other ≢ name → now other ≡ before other
