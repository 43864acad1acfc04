-- Functions by label.
use Rattle.std.specs.Prelude.{◌≡◌, ℕ, zero, suc, ◌<◌, false, nat_eq, cond, List, [], ◌∷◌, ◌++◌, Option, Some, None, length, map, slice_get}
use Rattle.smlc_base.specs.declared.point.Point.{Point}
use Rattle.smlc_base.specs.Points.{is_point}
use Rattle.simulation.specs.Blocks.{IsAmong}
use Rattle.cps_ir.specs.Slim.{Layout}
use Rattle.lifetime_users.specs.Users.{label_in}

-- no two functions have one point
abbrev pub AreApart : List Layout → Type 0
AreApart [] = Unit {0}
AreApart (l ∷ ls) = ((k : Layout) → IsAmong k ls → is_point k.point l.point ≡ false) × AreApart ls

-- those of a label, by the points of all
abbrev pub of_label : List Layout → ℕ → List Layout → List Layout
of_label all n [] = []
of_label all n (l ∷ ls) = cond (nat_eq (label_in all l.point) n) (l ∷ of_label all n ls) (of_label all n ls)

-- by label, n from one on
abbrev pub by_label_from : List Layout → ℕ → ℕ → List Layout → List Layout
by_label_from all l zero ls = []
by_label_from all l (suc n) ls = of_label all l ls ++ by_label_from all (suc l) n ls

abbrev pub by_label_in : List Layout → List Layout → List Layout
by_label_in all ls = by_label_from all 0 (length ls) ls

abbrev pub points_in : List Layout → List Point
points_in ls = map (λ l. l.point) ls

-- ---- Functions by number

abbrev pub at_number : Option Layout → List Layout
at_number None = []
at_number (Some l) = l ∷ []

abbrev pub in_slot : List Layout → Option ℕ → List Layout
in_slot all None = []
in_slot all (Some i) = at_number (slice_get all i)

abbrev pub of_slot : Option ℕ → List ℕ
of_slot None = []
of_slot (Some i) = i ∷ []

-- the entry of a row of slots
abbrev pub slot_in : Option (Option ℕ) → Option ℕ
slot_in None = None
slot_in (Some slot) = slot

abbrev pub slot_at : List (Option ℕ) → ℕ → Option ℕ
slot_at slots l = slot_in (slice_get slots l)

-- the functions of these numbers
abbrev pub numbered : List Layout → List ℕ → List Layout
numbered all [] = []
numbered all (i ∷ is) = at_number (slice_get all i) ++ numbered all is

-- those in slots
abbrev pub in_slots : List Layout → List (Option ℕ) → List Layout
in_slots all [] = []
in_slots all (slot ∷ slots) = in_slot all slot ++ in_slots all slots

-- the slots of n labels have the functions of their labels, of the first few of all
pub record AreSlots (all some : List Layout) (n : ℕ) (slots : List (Option ℕ)) : Type 0 where
  pub len : length slots ≡ n
  pub at : (l : ℕ) → l < n → in_slot all (slot_at slots l) ≡ of_label all l some
