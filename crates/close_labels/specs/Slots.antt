-- Functions by label: each in the slot of its label.
use Rattle.std.specs.Prelude.{ℕ, List, [], ◌∷◌, ◌++◌, Option, Some, None, length, map, replicate, slice_get, slice_set}
use Rattle.cps_ir.specs.declared.body.Function.{Function as Entry}
use Rattle.closure_ir.specs.declared.body.Function.{Function}
use Rattle.close_steps.specs.declared.decisions.Decision.{Decision}
use Rattle.close_steps.specs.declared.decisions.Decisions.{Decisions}
use Rattle.close_steps.specs.Visible.{decided}

-- its first parameter is its own closure
abbrev pub routine_by : Entry → Function
routine_by f = record { params = f.name ∷ f.params; body = f.body }

abbrev pub fill_one : {X : Type 0} → List (Option X) → X → Option Decision → List (Option X)
fill_one slots x None = slots
fill_one slots x (Some k) = slice_set slots k.label.0 (Some x)

abbrev pub fill : Decisions → List (Option Entry) → List Entry → List (Option Entry)
fill d slots [] = slots
fill d slots (f ∷ fs) = fill d (fill_one slots f (decided d f.name)) fs

abbrev pub of_slot : {X : Type 0} → Option X → List X
of_slot None = []
of_slot (Some x) = x ∷ []

abbrev pub of_slots : {X : Type 0} → List (Option X) → List X
of_slots [] = []
of_slots (slot ∷ slots) = of_slot slot ++ of_slots slots

-- as many slots as functions
abbrev pub by_slot : Decisions → List Entry → List Entry
by_slot d fs = of_slots (fill d (replicate (length fs) None) fs)

abbrev pub routines_by_label : Decisions → List Entry → List Function
routines_by_label d fs = map routine_by (by_slot d fs)

-- a slot that has a function by number
abbrev pub slot_in : List Entry → Option ℕ → Option Entry
slot_in fs None = None
slot_in fs (Some i) = slice_get fs i
