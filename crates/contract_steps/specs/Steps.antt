-- What each form of a body does with the state of a round.
use Rattle.std.specs.Prelude.{◌≡◌, ℕ, suc, Bool, false, cond, List, [], ◌∷◌, ◌++◌, Option, Some, None, length, nat_eq, slice_get, slice_set, get_or}
use Rattle.smlc_base.specs.declared.primitive.Primitive.{Primitive}
use Rattle.cps_ir.specs.declared.atom.Shape.{Shape}
use Rattle.cps_ir.specs.declared.atom.Atom.{Atom}
use Rattle.cps_ir.specs.declared.atom.Atom.TheVariants as atom
use Rattle.cps_ir.specs.declared.body.Function.{Function}
use Rattle.cps_ir.specs.declared.body.Bind.{Bind}
use Rattle.cps_ir.specs.declared.body.Bind.TheVariants as bind
use Rattle.cps_ir.specs.declared.body.Rule.{Rule}
use Rattle.cps_ir.specs.declared.body.End.{End}
use Rattle.cps_ir.specs.declared.body.End.TheVariants as end
use Rattle.cps_ir.specs.declared.body.Body.{Body}
use Rattle.cps_ir.specs.Code.{Equal, Throw}
use Rattle.contract_round.specs.Round.{atom_in, atoms_in}
use Rattle.contract_census.specs.declared.counts.Count.{Count}
use Rattle.contract_roles.specs.declared.group.Role.{Role}
use Rattle.contract_roles.specs.Roles.{AreRoles}
use Rattle.contract_known.specs.Known.{place_of, made_at}
use Rattle.contract_rows.specs.Rows.{empty}
use Rattle.contract_binds.specs.Binds.{put, make_left, make_blocks, pick_kept, pick_places, prim_left}
use Rattle.contract_rules.specs.declared.rules.RulesLeft.{RulesLeft}
use Rattle.contract_rules.specs.Rules.{rules_known}
use Rattle.contract_ends.specs.Ends.{IsEndLeft, IsCallLeft}
use Rattle.contract_group.specs.declared.task.Placed.{Placed}
use Rattle.contract_group.specs.declared.task.Task.{Task}
use Rattle.contract_group.specs.Bodies.{with_bind, with_end}
use Rattle.contract_group.specs.Group.{group_places, group_placed, group_kept, group_tasks, group_bodies}
use Rattle.contract_steps.specs.State.{State}

-- ---- Bindings

abbrev pub put_left : ℕ → Option Bind → List Body → List Body
put_left slot None bodies = bodies
put_left slot (Some b) bodies = with_bind slot b bodies

abbrev pub put_group : ℕ → List Function → List Body → List Body
put_group slot [] bodies = bodies
put_group slot (f ∷ fs) bodies = with_bind slot (bind.Fix (f ∷ fs)) bodies

-- of functions with these roles
abbrev pub step_fix : Task → List Role → List Function → State → State
step_fix t rs fs s = record {
  places = group_places rs fs s.places;
  blocks = s.blocks;
  placed = group_placed rs fs s.placed;
  bodies = put_group t.slot (group_kept (length s.bodies) rs fs) (group_bodies rs fs s.bodies);
  work = group_tasks (length s.bodies) rs fs s.work;
}

-- only the bodies of the answer are others
abbrev pub with_bodies : State → List Body → State
with_bodies s bodies = record { places = s.places; blocks = s.blocks; placed = s.placed; bodies = bodies; work = s.work }

module _ (counts : List Count) (t : Task) where
  abbrev pub step_make : ℕ → Shape → List Atom → State → State
  step_make x shape atoms s = record {
    places = s.places;
    blocks = make_blocks counts t.root s.places x shape atoms s.blocks;
    placed = s.placed;
    bodies = put_left t.slot (make_left counts s.places x shape atoms) s.bodies;
    work = s.work;
  }

  abbrev pub step_pick : ℕ → ℕ → Atom → State → State
  step_pick x i a s = record {
    places = pick_places counts t.root s.places s.blocks x i a;
    blocks = s.blocks;
    placed = s.placed;
    bodies = put_left t.slot (pick_kept counts t.root s.places s.blocks x i a) s.bodies;
    work = s.work;
  }

  abbrev pub step_prim : ℕ → Primitive → List Atom → State → State
  step_prim x f atoms s = with_bodies s (put_left t.slot (prim_left counts s.places x f atoms) s.bodies)

module _ (source : List Body) (counts : List Count) (t : Task) where
  abbrev pub BindStep : Bind → State → State → Type 0
  BindStep (bind.Make x shape atoms) s n = n ≡ step_make counts t x shape atoms s
  BindStep (bind.Pick x i a) s n = n ≡ step_pick counts t x i a s
  BindStep (bind.Prim x f atoms) s n = n ≡ step_prim counts t x f atoms s
  BindStep (bind.Fix fs) s n = (rs : List Role) × AreRoles counts source fs rs × (n ≡ step_fix t rs fs s)
  BindStep (bind.Handler x) s n = n ≡ with_bodies s (with_bind t.slot (bind.Handler x) s.bodies)
  BindStep (bind.SetHandler a) s n = n ≡ with_bodies s (with_bind t.slot (bind.SetHandler (atom_in (place_of s.places) a)) s.bodies)

  -- one after another
  abbrev pub BindsStep : List Bind → State → State → Type 0
  BindsStep [] s n = n ≡ s
  BindsStep (b ∷ binds) s n = (m : State) × BindStep b s m × BindsStep binds m n

-- the end of the body that a task fills
abbrev pub step_end : Task → End → State → State
step_end t e s = with_bodies s (with_end t.slot e s.bodies)

-- ---- Calls

abbrev pub has_params : ℕ → Option Placed → Bool
has_params n None = false
has_params n (Some p) = nat_eq (length p.params) n

abbrev pub is_placed : List (Option Placed) → ℕ → ℕ → Bool
is_placed placed f n = has_params n (get_or placed f None)

abbrev pub placed_for : List (Option Placed) → Atom → ℕ → Option Placed
placed_for placed (atom.Var f) n = cond (is_placed placed f n) (get_or placed f None) None
placed_for placed (atom.Constant k) n = None

abbrev pub without_placed : Atom → ℕ → List (Option Placed) → List (Option Placed)
without_placed (atom.Var f) n placed = cond (is_placed placed f n) (slice_set placed f None) placed
without_placed (atom.Constant k) n placed = placed

abbrev pub put_arguments : List ℕ → List Atom → List Atom → List Atom
put_arguments [] atoms places = places
put_arguments (x ∷ xs) [] places = places
put_arguments (x ∷ xs) (a ∷ atoms) places = put_arguments xs atoms (put x a places)

-- what comes next in the same body of the answer
abbrev pub go_on : Task → ℕ → Task
go_on t body = record { body = body; root = t.root; slot = t.slot }

abbrev pub place_call : Task → Placed → Atom → List Atom → State → State
place_call t p a atoms s = record {
  places = put_arguments p.params (atoms_in (place_of s.places) atoms) s.places;
  blocks = s.blocks;
  placed = without_placed a (length atoms) s.placed;
  bodies = s.bodies;
  work = s.work ++ go_on t p.body ∷ [];
}

abbrev pub CallBy : Task → Option Placed → Atom → List Atom → State → State → Type 0
CallBy t (Some p) a atoms s n = n ≡ place_call t p a atoms s
CallBy t None a atoms s n = (e : End) × IsCallLeft (place_of s.places) a atoms e × (n ≡ with_bodies s (with_end t.slot e s.bodies))

abbrev pub CallStep : Task → Atom → List Atom → State → State → Type 0
CallStep t a atoms s n = CallBy t (placed_for s.placed a (length atoms)) a atoms s n

-- ---- Matches

abbrev pub task_from : ℕ → ℕ → ℕ → Task
task_from root slot body = record { body = body; root = root; slot = slot }

-- with bodies of the numbers from n on
abbrev pub rules_from : ℕ → List Rule → List Rule
rules_from n [] = []
rules_from n (r ∷ rules) = record { tests = r.tests; body = n } ∷ rules_from (suc n) rules

abbrev pub rule_tasks : ℕ → ℕ → List Rule → List Task → List Task
rule_tasks root n [] work = work
rule_tasks root n (r ∷ rules) work = rule_tasks root (suc n) rules (work ++ task_from root n r.body ∷ [])

abbrev pub rule_bodies : List Rule → List Body → List Body
rule_bodies [] bodies = bodies
rule_bodies (r ∷ rules) bodies = rule_bodies rules (bodies ++ empty ∷ [])

abbrev pub match_by : Task → Atom → List Rule → ℕ → State → State
match_by t a [] otherwise s = record { places = s.places; blocks = s.blocks; placed = s.placed; bodies = s.bodies; work = s.work ++ go_on t otherwise ∷ [] }
match_by t a (r ∷ rules) otherwise s =
    let bodies = rule_bodies (r ∷ rules) s.bodies in
    record {
      places = s.places;
      blocks = s.blocks;
      placed = s.placed;
      bodies = with_end t.slot (end.Match a (rules_from (length s.bodies) (r ∷ rules)) (length bodies)) (bodies ++ empty ∷ []);
      work = rule_tasks t.root (length s.bodies) (r ∷ rules) s.work ++ task_from t.root (length bodies) otherwise ∷ [];
    }

abbrev pub match_left : Task → Atom → RulesLeft → State → State
match_left t a l s = match_by t a l.rules l.otherwise s

abbrev pub match_step : List (List ℕ) → Task → Atom → List Rule → ℕ → State → State
match_step texts t a rules otherwise s =
    let u = atom_in (place_of s.places) a in
    match_left t u (rules_known texts (place_of s.places) (made_at s.blocks t.root) u rules otherwise) s

-- ---- Ends, and whole bodies

module _ (texts : List (List ℕ)) where
  abbrev pub EndStep : Task → End → State → State → Type 0
  EndStep t (end.Equal a b truth k) s n = (e : End) × IsEndLeft (place_of s.places) (Equal a b truth k) e × (n ≡ with_bodies s (with_end t.slot e s.bodies))
  EndStep t (end.Call a atoms) s n = CallStep t a atoms s n
  EndStep t (end.Match a rules otherwise) s n = n ≡ match_step texts t a rules otherwise s
  EndStep t (end.Throw a) s n = (e : End) × IsEndLeft (place_of s.places) (Throw a) e × (n ≡ with_bodies s (with_end t.slot e s.bodies))
  EndStep t end.Halt s n = n ≡ with_bodies s (with_end t.slot end.Halt s.bodies)

  module _ (source : List Body) (counts : List Count) where
    -- a body that isn't there has nothing
    abbrev pub FoundStep : Task → Option Body → State → State → Type 0
    FoundStep t None s n = n ≡ s
    FoundStep t (Some b) s n = (m : State) × BindsStep source counts t b.binds s m × EndStep t b.end m n

    abbrev pub TaskStep : Task → State → State → Type 0
    TaskStep t s n = FoundStep t (slice_get source t.body) s n
