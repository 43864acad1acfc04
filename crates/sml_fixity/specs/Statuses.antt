-- The statuses of identifiers by number.
use Rattle.std.specs.Prelude.{ℕ, Option, Some, None, List, sum_by, get_or}
use Rattle.sml_tree.specs.declared.status.Status.{Status}
use Rattle.sml_tree.specs.declared.status.Status.TheVariants as status

-- 1 for infix status
abbrev pub infix_weight : Option Status → ℕ
infix_weight (Some (status.Infix l r)) = 1
infix_weight _ = 0

-- how many of these have infix status
abbrev pub tally : List (Option Status) → ℕ
tally statuses = sum_by infix_weight statuses

-- the status of a number, none behind the list
abbrev pub status_at : List (Option Status) → ℕ → Option Status
status_at statuses i = get_or statuses i None
