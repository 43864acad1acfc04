-- What is entered in the tables for functions that are bound together.
use Rattle.std.specs.Prelude.{ℕ, suc, cond, List, [], ◌∷◌, ◌++◌, Option, Some, None, length, nat_lt, slice_set}
use Rattle.cps_ir.specs.declared.atom.Atom.{Atom}
use Rattle.cps_ir.specs.declared.body.Function.{Function}
use Rattle.cps_ir.specs.declared.body.Body.{Body}
use Rattle.contract_roles.specs.declared.group.Role.{Role}
use Rattle.contract_roles.specs.declared.group.Role.TheVariants as role
use Rattle.contract_known.specs.Known.{place_of}
use Rattle.contract_rows.specs.Rows.{empty}
use Rattle.contract_group.specs.declared.task.Placed.{Placed}
use Rattle.contract_group.specs.declared.task.Task.{Task}

abbrev pub put : {A : Type 0} → ℕ → A → List A → List A
put x a table = cond (nat_lt x (length table)) (slice_set table x a) table

-- ---- One function

abbrev pub place_step : Role → Function → List Atom → List Atom
place_step (role.Replaced x) f places = put f.name (place_of places x) places
place_step _ f places = places

abbrev pub placed_step : Role → Function → List (Option Placed) → List (Option Placed)
placed_step role.Placed f placed = put f.name (Some (record { params = f.params; body = f.body })) placed
placed_step _ f placed = placed

-- with its body of this number
abbrev pub kept_step : ℕ → Role → Function → Option Function
kept_step n role.Stays f = Some (record { name = f.name; point = f.point; params = f.params; body = n })
kept_step n _ f = None

abbrev pub tasks_step : ℕ → Role → Function → List Task → List Task
tasks_step n role.Stays f work = work ++ record { body = f.body; root = n; slot = n } ∷ []
tasks_step n _ f work = work

abbrev pub with_new : Role → List Body → List Body
with_new role.Stays bodies = bodies ++ empty ∷ []
with_new _ bodies = bodies

-- ---- All, in order

abbrev pub group_places : List Role → List Function → List Atom → List Atom
group_places [] fs places = places
group_places (r ∷ rs) [] places = places
group_places (r ∷ rs) (f ∷ fs) places = group_places rs fs (place_step r f places)

abbrev pub group_placed : List Role → List Function → List (Option Placed) → List (Option Placed)
group_placed [] fs placed = placed
group_placed (r ∷ rs) [] placed = placed
group_placed (r ∷ rs) (f ∷ fs) placed = group_placed rs fs (placed_step r f placed)

abbrev pub kept_front : Option Function → List Function → List Function
kept_front None fs = fs
kept_front (Some f) fs = f ∷ fs

-- the number behind those of one function
abbrev pub number_after : Role → ℕ → ℕ
number_after role.Stays n = suc n
number_after _ n = n

-- their bodies have the numbers from n on
abbrev pub group_kept : ℕ → List Role → List Function → List Function
group_kept n [] fs = []
group_kept n (r ∷ rs) [] = []
group_kept n (r ∷ rs) (f ∷ fs) = kept_front (kept_step n r f) (group_kept (number_after r n) rs fs)

abbrev pub group_tasks : ℕ → List Role → List Function → List Task → List Task
group_tasks n [] fs work = work
group_tasks n (r ∷ rs) [] work = work
group_tasks n (r ∷ rs) (f ∷ fs) work = group_tasks (number_after r n) rs fs (tasks_step n r f work)

abbrev pub group_bodies : List Role → List Function → List Body → List Body
group_bodies [] fs bodies = bodies
group_bodies (r ∷ rs) [] bodies = bodies
group_bodies (r ∷ rs) (f ∷ fs) bodies = group_bodies rs fs (with_new r bodies)
