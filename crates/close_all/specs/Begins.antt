-- What bodies see at their beginning, by scopes.
use Rattle.std.specs.Prelude.{ℕ, ◌≤◌, true, List, Option, Some, None, length, map, slice_get}
use Rattle.std.specs.List.{AllByRecursion}
use Rattle.close_scopes.specs.declared.scopes.Link.{Link}
use Rattle.close_steps.specs.declared.environment.Environment.{Environment}
use Rattle.close_steps.specs.Visible.{Visible, visible}

abbrev pub nothing_seen : Environment
nothing_seen = record { is_main = true; variables = record { innermost = 0 }; records = record { innermost = 0 } }

-- past its end a table has nothing
abbrev pub begin_by : Option Environment → Environment
begin_by None = nothing_seen
begin_by (Some e) = e

abbrev pub begin_in : List Environment → ℕ → Environment
begin_in begins i = begin_by (slice_get begins i)

-- its scopes are there
abbrev pub Stands : List Link → Environment → Type 0
Stands links e = (e.variables.innermost ≤ length links) × (e.records.innermost ≤ length links)

abbrev pub AllStand : List Link → List Environment → Type 0
AllStand links begins = AllByRecursion (Stands links) begins

abbrev pub all_visible : List Link → List Environment → List Visible
all_visible links begins = map (visible links) begins
