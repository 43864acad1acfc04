-- Scopes as bindings that are chained, the innermost first.
use Rattle.std.specs.Prelude.{◌≡◌, ℕ, zero, suc, ◌≤◌, ◌<◌, nat_eq, cond, List, [], ◌∷◌, Option, Some, None, length, slice_get}
use Rattle.closure_ir.specs.declared.operand.Static.TheVariants as static
use Rattle.closure_ir.specs.declared.operand.Operand.{Operand}
use Rattle.closure_ir.specs.declared.operand.Operand.TheVariants as operand
use Rattle.close_laws.specs.Lower.{Places, Hand, placed}
use Rattle.close_scopes.specs.declared.found.Found.{Found}
use Rattle.close_scopes.specs.declared.found.Found.TheVariants as found
use Rattle.close_scopes.specs.declared.scopes.Bound.{Bound}
use Rattle.close_scopes.specs.declared.scopes.Link.{Link}

-- what is read where a thing is found
abbrev pub operand_at : Found → Operand
operand_at (found.Here x) = operand.Path x []
operand_at (found.Field f i) = operand.Path f (i ∷ [])
operand_at (found.Shared f j i) = operand.Path f (j ∷ i ∷ [])
operand_at (found.New k) = operand.New k
operand_at (found.Static l) = operand.Static (static.Function l)

-- ---- Chains

abbrev pub link_at : List Link → ℕ → Option Link
link_at links zero = None
link_at links (suc i) = slice_get links i

abbrev pub AreChained : List Link → Type 0
AreChained links = (n : ℕ) (l : Link) → link_at links n ≡ Some l → l.outer < n

abbrev pub bounds_from : (ℕ → List Bound) → Option Link → List Bound
bounds_from outer None = []
bounds_from outer (Some l) = l.bound ∷ outer l.outer

-- no more than k of them
abbrev pub bounds_within : ℕ → List Link → ℕ → List Bound
bounds_within zero links n = []
bounds_within (suc k) links n = bounds_from (bounds_within k links) (link_at links n)

-- those from one outwards; each is around one of a greater number
abbrev pub bounds : List Link → ℕ → List Bound
bounds links n = bounds_within n links n

abbrev pub looked_up : List Bound → ℕ → Option Found
looked_up [] y = None
looked_up (b ∷ bs) y = cond (nat_eq y b.key) (Some b.found) (looked_up bs y)

-- the first of these outermost
abbrev pub over : List Bound → List Bound → List Bound
over [] bs = bs
over (b ∷ more) bs = over more (b ∷ bs)

-- scopes stay what they are
pub record Grows (old new : List Link) : Type 0 where
  pub longer : length old ≤ length new
  pub same : (n : ℕ) → n ≤ length old → bounds new n ≡ bounds old n

-- ---- What a scope says of variables, and of classes

abbrev pub places_of : Places → List Bound → Places
places_of at [] = at
places_of at (b ∷ bs) = placed (places_of at bs) b.key (operand_at b.found)

abbrev pub hand_of : Hand → List Bound → Hand
hand_of hand [] = hand
hand_of hand (b ∷ bs) = placed (hand_of hand bs) b.key (Some (operand_at b.found))
