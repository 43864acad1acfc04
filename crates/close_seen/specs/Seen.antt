-- What each body sees at its beginning, in a table by number, while bodies are closed one after another.
use Rattle.std.specs.Prelude.{◌≡◌, ℕ, suc, List, [], ◌∷◌, Option, Some, None, flat_map, length, replicate, slice_get, slice_set}
use Rattle.simulation.specs.Blocks.{IsAmong}
use Rattle.sml_tree.specs.IsBare.{IsDistinct}
use Rattle.cps_ir.specs.Kept.{end_parts, body_parts}
use Rattle.cps_ir.specs.declared.body.Function.{Function as Entry}
use Rattle.cps_ir.specs.declared.body.Bind.{Bind as Open}
use Rattle.cps_ir.specs.declared.body.Bind.TheVariants as given
use Rattle.cps_ir.specs.declared.body.Body.{Body as OpenBody}
use Rattle.closure_ir.specs.declared.body.Body.{Body}
use Rattle.close_steps.specs.declared.decisions.Decision.{Decision}
use Rattle.close_steps.specs.declared.decisions.Decisions.{Decisions}
use Rattle.close_steps.specs.Visible.{Visible, decided}
use Rattle.close_bodies.specs.Bodies.{body_lowered, seen_at_end}
use Rattle.close_entries.specs.Entries.{entered}
use Rattle.close_rows.specs.Rows.{AreNumbered, AreLowered, begun}

-- ---- The functions of bodies, in the order of their bodies

abbrev pub bind_functions : Open → List Entry
bind_functions (given.Fix fs) = fs
bind_functions _ = []

abbrev pub body_functions : OpenBody → List Entry
body_functions b = flat_map bind_functions b.binds

abbrev pub functions_of : List OpenBody → List Entry
functions_of bodies = flat_map body_functions bodies

-- ---- Tables by number

-- past its end a table has nothing
abbrev pub seen_by : Option Visible → Visible
seen_by None = begun
seen_by (Some v) = v

abbrev pub seen_in : List Visible → ℕ → Visible
seen_in table i = seen_by (slice_get table i)

-- one thing at all these numbers
abbrev pub put_all : {X : Type 0} → List X → List ℕ → X → List X
put_all xs [] x = xs
put_all xs (j ∷ js) x = put_all (slice_set xs j x) js x

module _ (d : Decisions) where
  -- ---- The bodies of functions see what is entered, wherever these are bound

  abbrev pub enter_one : List Visible → Entry → Option Decision → List Visible
  enter_one table f None = table
  enter_one table f (Some k) = slice_set table f.body (entered d f.name k f.params)

  abbrev pub enter_all : List Visible → List Entry → List Visible
  enter_all table [] = table
  enter_all table (f ∷ fs) = enter_all (enter_one table f (decided d f.name)) fs

  abbrev pub first_table : List OpenBody → List Visible
  first_table bodies = enter_all (replicate (length bodies) begun) (functions_of bodies)

  -- ---- Bodies one after another, those of rules by what is seen at the end that names them

  abbrev pub table_behind : List Visible → ℕ → OpenBody → List Visible
  table_behind table i b = put_all table (end_parts b.end) (seen_at_end d (seen_in table i) b.binds)

  -- from number i on
  abbrev pub closed_from : List Visible → ℕ → List OpenBody → List Body
  closed_from table i [] = []
  closed_from table i (b ∷ bodies) = body_lowered d (seen_in table i) b ∷ closed_from (table_behind table i b) (suc i) bodies

  abbrev pub table_from : List Visible → ℕ → List OpenBody → List Visible
  table_from table i [] = table
  table_from table i (b ∷ bodies) = table_from (table_behind table i b) (suc i) bodies

  -- of all bodies
  abbrev pub all_closed : List OpenBody → List Body
  all_closed bodies = closed_from (first_table bodies) 0 bodies

  abbrev pub last_table : List OpenBody → List Visible
  last_table bodies = table_from (first_table bodies) 0 bodies

-- ---- What the last table has, where each body stands in one place

-- what is run first sees nothing, and the body of a function what is entered
pub record AreSeen (d : Decisions) (given : List OpenBody) (seen : ℕ → Visible) : Type 0 where
  pub main : seen 0 ≡ begun
  pub functions : (f : Entry) → IsAmong f (functions_of given) → (k : Decision) → decided d f.name ≡ Some k → seen f.body ≡ entered d f.name k f.params

abbrev pub TablesAreLowered : Type 0
TablesAreLowered =
    (d : Decisions) (given : List OpenBody) → AreNumbered given → IsDistinct (flat_map body_parts given)
    → AreLowered d (seen_in (last_table d given)) given (all_closed d given)

abbrev pub TablesAreSeen : Type 0
TablesAreSeen =
    (d : Decisions) (given : List OpenBody) → AreNumbered given → IsDistinct (flat_map body_parts given)
    → AreSeen d given (seen_in (last_table d given))
