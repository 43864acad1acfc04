-- The frame that a frame names is older, after each step too.
use Rattle.std.proofs.Common.{◌≡◌, ℕ, zero, suc, ◌+◌, ◌<◌, ◌≤◌, Bool, true, false, cond, List, [], ◌∷◌, ◌++◌, length, set, Option, Some, None, refl, sym, ap, ◌∙◌, subst, ⊎_elim, arith, length-append, length-set, le_refl}
use Rattle.std.specs.Prelude.{IfSome, slice_get}
use Rattle.std.specs.List.{AllByRecursion}
use Rattle.sml_tree.specs.declared.bare.Bare.{Bare}
use Rattle.simulation.specs.Stores.{Effect, Append, Put, all_affected, replaced, may_replace, acted, machine_of}
use Rattle.simulation.specs.Machines.{state_at, next_of}
use Rattle.simulation.proofs.Lists.{option_cases, get_split, get_set_same, get_set_other}
use Rattle.simulation.proofs.Heaps.{eq_cases}
use Rattle.sml_def.proofs.Effects.{effects_map, EffectHas, none_affected, act_makes}
use Rattle.sml_def.specs.State.{Address, Awaits, Block, Tuple, Applied, Text, Cell, ExnName, Packet, Closure, Frame, Pending}
use Rattle.sml_def.specs.Memory.{Next}
use Rattle.sml_def.specs.Run.{State, view, source, start}
use Rattle.sml_def.specs.Step.{step}
use Rattle.sml_def.specs.Apart.{shape, IsApart}
use Rattle.sml_def.proofs.Apart.{below, NextOld, IsApartAct, step_good, values_name_no_frames}

-- a frame names one of the first n blocks
abbrev pub NextBelow : ℕ → Block → Type 0
NextBelow n (Frame w (Some a)) = a < n
NextBelow n _ = Unit {0}

next_below : (store : List Block) (b : Block) → NextOld (shape store) b → NextBelow (length store) b
next_below store (Frame w (Some a)) h = below store a true h
next_below store (Frame w None) h = tt
next_below store _ h = tt

abbrev pub Down : List Block → Type 0
Down store = (a : ℕ) (w : Awaits) (b : Address) → slice_get store a ≡ Some (Frame w (Some b)) → b < a

pub among_all : (P : Block → Type 0) (xs : List Block) (a : ℕ) (x : Block) → AllByRecursion P xs → slice_get xs a ≡ Some x → P x
among_all P [] a x h e = absurd cc
among_all P (y ∷ xs) zero x h e = let g : y ≡ x = cc in subst P g h.0
among_all P (y ∷ xs) (suc a) x h e = among_all P xs a x h.1 e

append_down : (n : ℕ) (store xs : List Block) → n ≤ length store → Down store → AllByRecursion (NextBelow n) xs → Down (store ++ xs)
append_down n store xs le down h a w b e =
    ⊎_elim
    (λ (g : slice_get store a ≡ Some (Frame w (Some b))). down a w b g)
    (λ (g : (c : ℕ) × (a ≡ length store + c) × (slice_get xs c ≡ Some (Frame w (Some b)))).
    let l : b < n = among_all (NextBelow n) xs g.0 (Frame w (Some b)) h g.2 in
    let at = g.1 in omega arith)
    (get_split store xs a (Frame w (Some b)) e)

set_down : (store : List Block) (a : ℕ) (x old : Block) → slice_get store a ≡ Some old → may_replace (view old) (view x) ≡ true → Down store → Down (set store a x)
set_down store a x old is may down c w b e =
    ⊎_elim
    (λ (same : c ≡ a).
    let f : Some x ≡ Some (Frame w (Some b)) = sym (get_set_same store a x old is) ∙ ap (slice_get (set store a x)) (sym same) ∙ e in
    let g : x ≡ Frame w (Some b) = cc in
    absurd (not_frame old (subst (λ y. may_replace (view old) (view y) ≡ true) g may)))
    (λ other. down c w b (sym (get_set_other store a x c other) ∙ e))
    (eq_cases c a)
  where
    not_frame : (old : Block) → may_replace (view old) (view (Frame w (Some b))) ≡ true → ⊥
    not_frame (Tuple vs) e = cc
    not_frame (Applied n v) e = cc
    not_frame (Text bytes) e = cc
    not_frame (Cell v) e = cc
    not_frame (ExnName y) e = cc
    not_frame (Packet y v) e = cc
    not_frame (Closure i rules env) e = cc
    not_frame (Frame u next) e = cc
    not_frame (Pending v u next) e = cc

put_down : (n : ℕ) (store ys : List Block) (a : ℕ) (x : Block) (es : List (Effect Block)) → n ≤ length store → Down store → ((zs : List Block) → n ≤ length zs → Down zs → all_affected view (Some zs) es ≡ Some ys → Down ys) → (o : Option Block) → slice_get store a ≡ o → all_affected view (replaced view store a x o) es ≡ Some ys → Down ys
put_down n store ys a x es le down on None is e = absurd (let m = none_affected es in cc)
put_down n store ys a x es le down on (Some old) is e = go (may_replace (view old) (view x)) refl e
  where
    go : (t : Bool) → may_replace (view old) (view x) ≡ t → all_affected view (cond t (Some (set store a x)) None) es ≡ Some ys → Down ys
    go true may e = on (set store a x) (let l = length-set store a x in omega arith) (set_down store a x old is may down) e
    go false may e = absurd (let m = none_affected es in cc)

all_down : (n : ℕ) (es : List (Effect Block)) (store ys : List Block) → n ≤ length store → Down store → AllByRecursion (EffectHas (NextBelow n)) es → all_affected view (Some store) es ≡ Some ys → Down ys
all_down n [] store ys le down h e = let same : store ≡ ys = cc in subst Down same down
all_down n (Append xs ∷ es) store ys le down h e = all_down n es (store ++ xs) ys (let l = length-append store xs in omega arith) (append_down n store xs le down h.0) h.1 e
all_down n (Put a x ∷ es) store ys le down h e = put_down n store ys a x es le down (λ zs l d f. all_down n es zs ys l d h.1 f) (slice_get store a) refl e

down_after : (p : Bare) (s t : State) → IsApart s → Down s.store → (machine_of (source p)).step s ≡ Some t → Down t.store
down_after p s t h down e =
    go (step p (record { store = s.store; input = s.control.input }) s.control.control) (step_good p (record { store = s.store; input = s.control.input }) h.store s.control.control h.control) e
  where
    go : (o : Next) → IfSome o (IsApartAct (shape s.store)) → acted view s.out s.store o ≡ Some t → Down t.store
    go None g e = absurd cc
    go (Some a) g e =
        all_down (length s.store) a.effects s.store t.store (le_refl _) down (effects_map (NextOld (shape s.store)) (NextBelow (length s.store)) (next_below s.store) a.effects g.older) (act_makes s t a e)

pub run_down : (p : Bare) (input : List ℕ) (n : ℕ) → Down (state_at (machine_of (source p)) (start input) n).store
run_down p input zero = λ a w b e. absurd cc
run_down p input (suc n) =
    let s = state_at (machine_of (source p)) (start input) n in
    ⊎_elim
    (λ (e : (machine_of (source p)).step s ≡ None). subst (λ (u : State). Down u.store) (sym (ap (next_of s) e)) (run_down p input n))
    (λ (e : (t : State) × ((machine_of (source p)).step s ≡ Some t)). subst (λ (u : State). Down u.store) (sym (ap (next_of s) e.1)) (down_after p s e.0 (values_name_no_frames p input n) (run_down p input n) e.1))
    (option_cases ((machine_of (source p)).step s))
