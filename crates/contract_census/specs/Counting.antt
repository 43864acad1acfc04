-- What is done with the counts at each form of a body.
use Rattle.std.specs.Prelude.{ℕ, Bool, true, false, cond, ◌&&◌, List, [], ◌∷◌, length, Option, Some, None, nat_eq, nat_lt, slice_set, get_or}
use Rattle.cps_ir.specs.declared.atom.Atom.{Atom}
use Rattle.cps_ir.specs.declared.atom.Wanted.{Wanted}
use Rattle.cps_ir.specs.declared.atom.Test.{Test}
use Rattle.cps_ir.specs.declared.atom.Atom.TheVariants as atom
use Rattle.cps_ir.specs.declared.atom.Wanted.TheVariants as want
use Rattle.cps_ir.specs.declared.body.Function.{Function}
use Rattle.cps_ir.specs.declared.body.Bind.{Bind}
use Rattle.cps_ir.specs.declared.body.Bind.TheVariants as bind
use Rattle.cps_ir.specs.declared.body.Rule.{Rule}
use Rattle.cps_ir.specs.declared.body.End.{End}
use Rattle.cps_ir.specs.declared.body.End.TheVariants as end
use Rattle.contract_census.specs.declared.counts.Times.{Times}
use Rattle.contract_census.specs.declared.counts.Times.TheVariants as times
use Rattle.contract_census.specs.declared.counts.Home.{Home}
use Rattle.contract_census.specs.declared.counts.Count.{Count}
use Rattle.contract_census.specs.declared.counts.Event.{Event}
use Rattle.contract_census.specs.declared.counts.Event.TheVariants as event

-- ---- One variable

abbrev pub more : Times → Times
more times.Never = times.Once
more times.Once = times.Often
more times.Often = times.Often

abbrev pub is_never : Times → Bool
is_never times.Never = true
is_never _ = false

abbrev pub is_once : Times → Bool
is_once times.Once = true
is_once _ = false

abbrev pub same_function : Option ℕ → Option ℕ → Bool
same_function None None = true
same_function (Some f) (Some g) = nat_eq f g
same_function None (Some g) = false
same_function (Some f) None = false

abbrev pub is_home : Option Home → Option ℕ → ℕ → Bool
is_home None w n = false
is_home (Some h) w n = same_function h.within w && nat_eq n h.parameters

abbrev pub nothing_counted : Count
nothing_counted = record { uses = times.Never; outside = times.Never; calls = times.Never; is_open = false; home = None }

abbrev pub after : Event → Count → Count
after event.Used k = record { uses = more k.uses; outside = cond k.is_open k.outside (more k.outside); calls = k.calls; is_open = k.is_open; home = k.home }
after (event.Called w n) k = record { uses = k.uses; outside = k.outside; calls = cond (is_home k.home w n) (more k.calls) k.calls; is_open = k.is_open; home = k.home }
after (event.Bound w n) k = record { uses = k.uses; outside = k.outside; calls = k.calls; is_open = k.is_open; home = Some (record { within = w; parameters = n }) }
after event.Opened k = record { uses = k.uses; outside = k.outside; calls = k.calls; is_open = true; home = k.home }
after event.Closed k = record { uses = k.uses; outside = k.outside; calls = k.calls; is_open = false; home = k.home }

-- ---- All variables, by number

abbrev pub count_at : List Count → ℕ → Count
count_at counts x = get_or counts x nothing_counted

abbrev pub noted : Event → ℕ → List Count → List Count
noted e x counts = cond (nat_lt x (length counts)) (slice_set counts x (after e (count_at counts x))) counts

abbrev pub use_atom : Atom → List Count → List Count
use_atom (atom.Var x) counts = noted event.Used x counts
use_atom (atom.Constant k) counts = counts

abbrev pub use_atoms : List Atom → List Count → List Count
use_atoms [] counts = counts
use_atoms (a ∷ atoms) counts = use_atoms atoms (use_atom a counts)

abbrev pub use_wanted : Wanted → List Count → List Count
use_wanted (want.Exn a applied) counts = use_atom a counts
use_wanted _ counts = counts

abbrev pub use_tests : List Test → List Count → List Count
use_tests [] counts = counts
use_tests (t ∷ tests) counts = use_tests tests (use_wanted t.want counts)

abbrev pub use_rules : List Rule → List Count → List Count
use_rules [] counts = counts
use_rules (r ∷ rules) counts = use_rules rules (use_tests r.tests counts)

-- in the body of this function
module _ (within : Option ℕ) where
  abbrev pub bind_functions : List Function → List Count → List Count
  bind_functions [] counts = counts
  bind_functions (f ∷ fs) counts = bind_functions fs (noted (event.Bound within (length f.params)) f.name counts)

  abbrev pub call_atom : Atom → ℕ → List Count → List Count
  call_atom (atom.Var f) n counts = noted (event.Called within n) f counts
  call_atom (atom.Constant k) n counts = counts

  abbrev pub count_bind : Bind → List Count → List Count
  count_bind (bind.Make x shape atoms) counts = use_atoms atoms counts
  count_bind (bind.Pick x i a) counts = use_atom a counts
  count_bind (bind.Prim x f atoms) counts = use_atoms atoms counts
  count_bind (bind.Fix fs) counts = bind_functions fs counts
  count_bind (bind.Handler x) counts = counts
  count_bind (bind.SetHandler a) counts = use_atom a counts

  abbrev pub count_binds : List Bind → List Count → List Count
  count_binds [] counts = counts
  count_binds (b ∷ binds) counts = count_binds binds (count_bind b counts)

  abbrev pub count_end : End → List Count → List Count
  count_end (end.Equal a b truth k) counts = use_atom k (use_atom b (use_atom a counts))
  count_end (end.Call a atoms) counts = use_atoms atoms (use_atom a (call_atom a (length atoms) counts))
  count_end (end.Match a rules otherwise) counts = use_rules rules (use_atom a counts)
  count_end (end.Throw a) counts = use_atom a counts
  count_end end.Halt counts = counts
