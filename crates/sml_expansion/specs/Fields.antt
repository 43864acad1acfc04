-- Fields from lists of labels, slots and types.
use Rattle.std.specs.Prelude.{ℕ, List, [], ◌∷◌}
use Rattle.smlc_base.specs.declared.place.Place.{Place}
use Rattle.sml_tree.specs.declared.bare.Lab.{Lab}
use Rattle.sml_tree.specs.declared.bare.Field.{Field}
use Rattle.sml_tree.specs.declared.bare.TypeField.{TypeField}
use Rattle.sml_expansion.specs.Labels.{slot}

-- the slot of a label in place of the label
abbrev pub slot_placed : List Lab → Lab × Place → ℕ × Place
slot_placed all l = (slot all l.0, l.1)

abbrev pub slotted : List ℕ → List (Lab × Place) → List Field
slotted (s ∷ slots) (l ∷ labs) = record { lab = l.0; slot = s; node = 0 } ∷ slotted slots labs
slotted _ _ = []

abbrev pub typed : List Field → List ℕ → List TypeField
typed (f ∷ fields) (t ∷ types) = record { lab = f.lab; slot = f.slot; ty = t } ∷ typed fields types
typed _ _ = []
