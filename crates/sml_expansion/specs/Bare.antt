-- The nodes of the bare tree over their parts.
use Rattle.std.specs.Prelude.{ℕ, true, false, ◌==◌, if◌then◌else◌, List, [], ◌∷◌, map}
use Rattle.smlc_base.specs.declared.place.Place.{Place}
use Rattle.sml_tree.specs.declared.bare.Con.{Con}
use Rattle.sml_tree.specs.declared.bare.Con.TheVariants as con
use Rattle.sml_tree.specs.declared.bare.Field.{Field}
use Rattle.sml_tree.specs.declared.bare.Lab.{Lab}
use Rattle.sml_tree.specs.declared.bare.Node.TheVariants as node
use Rattle.sml_expansion.specs.Forests.{Forest, none, tree, grown, count, ◌&◌}
use Rattle.sml_expansion.specs.Labels.{slot, numbers}

abbrev pub con_true : Con
con_true = con.Data 4 1 false

abbrev pub con_false : Con
con_false = con.Data 4 0 false

abbrev pub con_nil : Con
con_nil = con.Data 5 0 false

abbrev pub con_cons : Con
con_cons = con.Data 5 1 true

-- the fields of a record, in written order, in which no part is named yet
abbrev pub fields : List Lab → List Field
fields labs = map (λ l. record { lab = l; slot = slot labs l; node = 0 }) labs

-- Expressions.

abbrev pub variable_node : Place → ℕ → Forest
variable_node p x = grown (node.Var (record { 0 = x })) p none

abbrev pub con_node : Place → Con → Forest
con_node p c = grown (node.Constructor c) p none

abbrev pub record_node : Place → List Lab → Forest → Forest
record_node p labs f = grown (node.Record (fields labs)) p f

-- `(e1, .., en)`: the record with labels 1 to n
abbrev pub tuple_node : Place → Forest → Forest
tuple_node p f = record_node p (numbers 0 (count f)) f

abbrev pub apply_node : Place → Forest → Forest → Forest
apply_node p f a = grown (node.App 0 0) p (f & a)

-- an expression and its rules
abbrev pub case_node : Place → Forest → Forest → Forest
case_node p e m = grown (node.Case 0 []) p (e & m)

abbrev pub fn_node : Place → Forest → Forest
fn_node p m = grown (node.Fn []) p m

-- Patterns.

abbrev pub wild_node : Place → Forest
wild_node p = grown node.Wild p none

abbrev pub var_pattern : Place → ℕ → Forest
var_pattern p x = grown (node.PatVar (record { 0 = x })) p none

abbrev pub con_pattern : Place → Con → Forest
con_pattern p c = grown (node.PatCon c) p none

abbrev pub apply_pattern : Place → Con → Forest → Forest
apply_pattern p c q = grown (node.PatApp c 0) p q

abbrev pub record_pattern : Place → List Lab → Forest → Forest
record_pattern p labs f = grown (node.PatRecord (fields labs)) p f

abbrev pub tuple_pattern : Place → Forest → Forest
tuple_pattern p f = record_pattern p (numbers 0 (count f)) f

-- Derived forms. They have the place of the whole form.

-- `if a then b else c` is `case a of true => b | false => c`
abbrev pub if_node : Place → Forest → Forest → Forest → Forest
if_node p a b c = case_node p a (con_pattern p con_true & b & con_pattern p con_false & c)

-- `(e1; ..; en; e)` is `case e1 of _ => .. case en of _ => e`
abbrev pub sequence_node : Place → Forest → Forest
sequence_node p none = none
sequence_node p (tree n q parts none) = tree n q parts none
sequence_node p (tree n q parts (tree m r ps rest)) = case_node p (grown n q parts) (wild_node p & sequence_node p (tree m r ps rest))

-- `[e1, .., en]` is `e1 :: .. :: en :: nil`
abbrev pub list_node : Place → Forest → Forest
list_node p none = con_node p con_nil
list_node p (tree n q parts rest) = apply_node p (con_node p con_cons) (tuple_node p (grown n q parts & list_node p rest))

abbrev pub list_pattern : Place → Forest → Forest
list_pattern p none = con_pattern p con_nil
list_pattern p (tree n q parts rest) = apply_pattern p con_cons (tuple_pattern p (grown n q parts & list_pattern p rest))

-- `let d1 .. dn in e end`: one `Let` for each declaration
abbrev pub nest : Place → Forest → Forest → Forest
nest p none e = e
nest p (tree n q parts rest) e = grown (node.Let 0 0) p (grown n q parts & nest p rest e)

-- `fn v => f v`, f a primitive or a constructor that takes an argument
abbrev pub eta_node : Place → ℕ → Forest → Forest
eta_node p v f = fn_node p (var_pattern p v & apply_node p f (variable_node p v))

-- `while a do b` is `let val rec v = fn () => if a then (b; v ()) else () in v () end`
abbrev pub while_node : Place → ℕ → Forest → Forest → Forest
while_node p v a b =
    let call = apply_node p (variable_node p v) (tuple_node p none) in
    let turn = fn_node p (tuple_pattern p none & if_node p a (sequence_node p (b & call)) (tuple_node p none)) in
    nest p (grown (node.ValRec [] (record { name = record { 0 = v }; right = 0 } ∷ [])) p turn) call

abbrev pub variable_nodes : Place → List ℕ → Forest
variable_nodes p [] = none
variable_nodes p (v ∷ vs) = variable_node p v & variable_nodes p vs

-- one of them stands for itself
abbrev pub tuple_unless_one : Place → Forest → Forest
tuple_unless_one p f = if count f == 1 then f else tuple_node p f

abbrev pub tuple_pattern_unless_one : Place → Forest → Forest
tuple_pattern_unless_one p f = if count f == 1 then f else tuple_pattern p f

abbrev pub curried : Place → List ℕ → Forest → Forest
curried p [] e = e
curried p (v ∷ vs) e = fn_node p (var_pattern p v & curried p vs e)

-- `fn v1 => .. fn vn => case (v1, .., vn) of ..`
abbrev pub function_node : Place → List ℕ → Forest → Forest
function_node p vs m = curried p vs (case_node p (tuple_unless_one p (variable_nodes p vs)) m)

-- an expression with types, the innermost first
abbrev pub typed_node : Place → List ℕ → Forest → Forest
typed_node p [] e = e
typed_node p (t ∷ types) e = typed_node p types (grown (node.Typed 0 t) p e)
