-- Derived forms with their new names.
use Rattle.std.specs.Prelude.{ℕ, zero, suc, List, [], ◌∷◌, ◌++◌, codes}
use Rattle.sml_tree.specs.declared.bare.Node.TheVariants as bare
use Rattle.sml_expansion.specs.declared.mark.Mark.{Mark}
use Rattle.sml_expansion.specs.declared.mark.Mark.TheVariants.{Open, Close}
use Rattle.sml_expansion.specs.Labels.{numbers}
use Rattle.sml_expansion.specs.Marks.{marks}
use Rattle.smlc_base.specs.declared.place.Place.{Place}
use Rattle.sml_expansion.specs.Forests.{Forest, none}
use Rattle.sml_expansion.specs.Makings.{Makes, gives, new_name, ◌>>=◌}
use Rattle.sml_expansion.specs.Bare.{tuple_node, tuple_pattern, variable_node, apply_node, wild_node, con_pattern, con_true, con_false, eta_node, sequence_node, list_node, con_node, con_cons, fields}

abbrev pub new_eta : Place → Forest → Makes Forest
new_eta p f = do
  v ← new_name (codes "v")
  gives (eta_node p v f)

abbrev pub sequence_of : Place → Makes Forest → Makes Forest
sequence_of p f = do
  x ← f
  gives (sequence_node p x)

abbrev pub list_of : Place → Makes Forest → Makes Forest
list_of p f = do
  x ← f
  gives (list_node p x)

-- so many times
abbrev pub times : ℕ → List Mark → List Mark
times zero ms = []
times (suc n) ms = ms ++ times n ms

abbrev pub case_end : Place → List Mark
case_end p = Close (bare.Case 0 []) p ∷ []

-- a list with an item: what is written before the item, and behind the list on its right
abbrev pub cons_begins : Place → List Mark
cons_begins p = Open ∷ (marks (con_node p con_cons) ++ (Open ∷ []))

abbrev pub cons_end : Place → List Mark
cons_end p = Close (bare.Record (fields (numbers 0 2))) p ∷ Close (bare.App 0 0) p ∷ []

abbrev pub let_end : Place → List Mark
let_end p = Close (bare.Let 0 0) p ∷ []

-- a loop, whose function is v: what is written before its condition, before its body, and behind it
abbrev pub while_begins : Place → List Mark
while_begins p = Open ∷ Open ∷ Open ∷ (marks (tuple_pattern p none) ++ (Open ∷ []))

abbrev pub turn_begins : Place → List Mark
turn_begins p = marks (con_pattern p con_true) ++ (Open ∷ [])

abbrev pub call_node : Place → ℕ → Forest
call_node p v = apply_node p (variable_node p v) (tuple_node p none)

abbrev pub turn_ends : Place → ℕ → List Mark
turn_ends p v = marks (wild_node p) ++ (marks (call_node p v) ++ (case_end p ++ (marks (con_pattern p con_false) ++ (marks (tuple_node p none) ++ case_end p))))

abbrev pub while_ends : Place → ℕ → List Mark
while_ends p v = turn_ends p v ++ (Close (bare.Fn []) p ∷ Close (bare.ValRec [] (record { name = record { 0 = v }; right = 0 } ∷ [])) p ∷ (marks (call_node p v) ++ let_end p))
