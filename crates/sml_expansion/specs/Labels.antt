-- Labels of records, and names that stand twice.
use Rattle.std.specs.Prelude.{ℕ, zero, suc, pos, Bool, not, ◌||◌, if◌then◌else◌, List, [], ◌∷◌, ◌++◌, count_by}
use Rattle.std.specs.List.{list_any}
use Rattle.smlc_base.specs.declared.place.Place.{Place}
use Rattle.smlc_base.specs.declared.refusal.Refusal.{Refusal}
use Rattle.smlc_base.specs.declared.refusal.Refusal.TheVariants as refusal
use Rattle.std.specs.Borrow.{Bor}
use Rattle.sml_tree.specs.IsBare.{lab_less}
use Rattle.sml_tree.specs.declared.bare.Lab.{Lab}
use Rattle.sml_tree.specs.declared.bare.Lab.TheVariants.{Num}

abbrev pub lab_eq : Lab → Lab → Bool
lab_eq x y = not (lab_less x y || lab_less y x)

-- the place of a label among the labels of a record
abbrev pub slot : List Lab → Lab → ℕ
slot labs lab = count_by (λ other. lab_less other lab) labs

-- so many labels 1, 2 and so on, from i + 1
abbrev pub numbers : ℕ → ℕ → List Lab
numbers i zero = []
numbers i (suc n) = Num (pos (suc i)) ∷ numbers (suc i) n

-- the refusals at the items of which an equal one stands on their left, where those of `seen` do too
abbrev pub doubles : {A : Type 0} → (A → A → Bool) → List A → List (A × Place) → List Refusal
doubles eq seen [] = []
doubles eq seen ((x, p) ∷ items) = (if list_any (eq x) seen then refusal.BadBinding p ∷ [] else []) ++ doubles eq (x ∷ seen) items

-- whether the label behind a reference comes before another
abbrev pub before : Bor Lab → Bor Lab → Bool
before x y = lab_less x.now y.now
