-- How the machine follows a derivation: the walk that it makes for each result.
use Rattle.std.proofs.Common.{◌≡◌, ℕ, suc, ◌+◌, ◌*◌, ◌≤◌, List, [], ◌∷◌, ◌++◌, length, Option, Some, None, refl, ap, ◌∙◌, subst, arith}
use Rattle.std.specs.Prelude.{slice_get}
use Rattle.sml_tree.specs.declared.bare.Bare.{Bare}
use Rattle.simulation.specs.Runs.{End}
use Rattle.simulation.specs.Runs as runs
use Rattle.simulation.specs.Machines.{Machine}
use Rattle.simulation.specs.Stores.{Configuration, acted, machine_of}
use Rattle.simulation.proofs.Machines.{Walks, stay, walk, walks_on, walks_keep}
use Rattle.simulation.proofs.Lists.{get_append}
use Rattle.sml_def.specs.State.{Value, Address, Awaits, Guarded, Block, Cell, ExnName, Frame, Control, Ret, Raise, Focus}
use Rattle.sml_def.specs.Memory.{Memory, Next, going}
use Rattle.sml_def.specs.Step.{step, raised, raised_to}
use Rattle.sml_def.specs.Run.{source, view}
use Rattle.sml_def.specs.Run as run
use Rattle.sml_def.specs.Cut.{IsCut}
use Rattle.sane_laws.specs.Sane.{SaneControl}
use Rattle.sml_rules.specs.Terms.{Term, State, Result, Gives, Raises, Deeper, Stuck, ◌then◌}
use Rattle.sml_rules.proofs.Relation.{World, Later, later_refl, later_trans, are_later}
use Rattle.sml_rules.proofs.Environments.{Is}
use Rattle.sml_rules.proofs.Forms.{Holds}

-- a state of the machine, with the state of the rules and the blocks
abbrev pub Conf : Type 0
Conf = Configuration Focus Block

abbrev pub conf : Control → State → World → Conf
conf c s w = record { control = record { control = c; input = s.input }; out = s.output; store = w.store }

abbrev pub memory : State → World → Memory
memory s w = record { store = w.store; input = s.input }

-- more blocks, none of which is a cell or an exception name of the state
abbrev pub with_blocks : World → List Block → World
with_blocks w blocks = record { store = w.store ++ blocks; cells = w.cells; exns = w.exns }

abbrev pub Any : Conf → Type 0
Any s = Unit {0}

module _ (p : Bare) where
  abbrev pub M : Machine Conf
  M = machine_of (source p)

  pub more_later : (w : World) (blocks : List Block) → Later w (with_blocks w blocks)
  more_later w blocks = record {
    cells = λ n a e. e;
    exns = λ n a e. e;
    blocks = λ a b e l. get_append w.store blocks a b e;
  }

  pub more_holds : (w : World) (blocks : List Block) (s : State) → Holds p w s → Holds p (with_blocks w blocks) s
  more_holds w blocks s h = record {
    cell = λ n a e. let g = h.cell n a e in (g.0, g.1, g.2, get_append w.store blocks a (Cell g.1) g.3, are_later p w (with_blocks w blocks) (more_later w blocks) (g.0 ∷ []) (g.1 ∷ []) g.4);
    cells = h.cells;
    cells_apart = h.cells_apart;
    exn = λ n a e. let g = h.exn n a e in (g.0, g.1, get_append w.store blocks a (ExnName g.0) g.2);
    exns = h.exns;
    exns_apart = h.exns_apart;
  }

  -- ---- Steps

  pub step_is : (c : Control) (s : State) (w : World) (o : Next) → step p (memory s w) c ≡ o → M.step (conf c s w) ≡ acted view s.output w.store o
  step_is c s w o e = ap (acted view s.output w.store) e

  -- ---- What the machine does for a result

  -- it comes to a state, of which something holds
  pub record Reaches (from : Conf) (w : World) (s : State) (Q : World → Control → Type 0) : Type 0 where
    pub steps : ℕ
    pub to : World
    pub control : Control
    pub walk : Walks M Any steps from (conf control s to)
    pub later : Later w to
    pub holds : Holds p to s
    pub is : Q to control

  -- it goes on for half as many steps as the derivation is deep, but for the depth of a pattern
  pub record Dives (need : ℕ) (from : Conf) (s : State) : Type 0 where
    pub steps : ℕ
    pub to : Conf
    pub walk : Walks M Any steps from to
    pub told : to.out ≡ s.output
    pub enough : need ≤ 2 * steps + suc (length p.nodes)

  -- it comes to a state that is stuck
  pub record Sticks (from : Conf) : Type 0 where
    pub steps : ℕ
    pub to : Conf
    pub walk : Walks M Any steps from to
    pub none : M.step to ≡ None
    pub going : M.end to ≡ runs.Going

  abbrev pub Follows : {A : Type 0} → (World → A → Control → Type 0) → Option Address → ℕ → Conf → World → Result A → Type 0
  Follows fit k need from w (Gives a s) = Reaches from w s (λ to c. fit to a c)
  Follows fit k need from w (Raises x s) = Reaches from w s (λ to c. (v : Value) × (c ≡ Raise v k) × Is p to x v)
  Follows fit k need from w (Deeper s) = Dives need from s
  Follows fit k need from w (Stuck s) = Sticks from

  -- the value comes back to k
  abbrev pub Back : Option Address → World → Term → Control → Type 0
  Back k w u c = (v : Value) × (c ≡ Ret v k) × Is p w u v

  -- after some steps
  pub walk_on : {A : Type 0} (fit : World → A → Control → Type 0) (k : Option Address) (need more c : ℕ) (from mid : Conf) (w u : World) (r : Result A) → Walks M Any c from mid → Later w u → need ≤ more + 2 * c → Follows fit k more mid u r → Follows fit k need from w r
  walk_on fit k need more c from mid w u (Gives a s) v l e h = record {
    steps = c + h.steps;
    to = h.to;
    control = h.control;
    walk = walks_on M Any c h.steps from mid (conf h.control s h.to) v h.walk;
    later = later_trans w u h.to l h.later;
    holds = h.holds;
    is = h.is;
  }
  walk_on fit k need more c from mid w u (Raises x s) v l e h = record {
    steps = c + h.steps;
    to = h.to;
    control = h.control;
    walk = walks_on M Any c h.steps from mid (conf h.control s h.to) v h.walk;
    later = later_trans w u h.to l h.later;
    holds = h.holds;
    is = h.is;
  }
  walk_on fit k need more c from mid w u (Deeper s) v l e h = record {
    steps = c + h.steps;
    to = h.to;
    walk = walks_on M Any c h.steps from mid h.to v h.walk;
    told = h.told;
    enough = omega (arith, e, h.enough);
  }
  walk_on fit k need more c from mid w u (Stuck s) v l e h = record {
    steps = c + h.steps;
    to = h.to;
    walk = walks_on M Any c h.steps from mid h.to v h.walk;
    none = h.none;
    going = h.going;
  }

  pub one_step : (from mid : Conf) → M.step from ≡ Some mid → Walks M Any 1 from mid
  one_step from mid e = walk 0 from mid mid e tt (stay mid)

  -- after one step
  pub step_on : {A : Type 0} (fit : World → A → Control → Type 0) (k : Option Address) (need more : ℕ) (from mid : Conf) (w u : World) (r : Result A) → M.step from ≡ Some mid → Later w u → need ≤ more + 2 → Follows fit k more mid u r → Follows fit k need from w r
  step_on fit k need more from mid w u r e l n h =
      walk_on fit k need more 1 from mid w u r (one_step from mid e) l (omega (arith, n)) h

  -- it is there
  pub here : {A : Type 0} (fit : World → A → Control → Type 0) (k : Option Address) (need : ℕ) (c : Control) (s : State) (w : World) (a : A) → Holds p w s → fit w a c → Follows fit k need (conf c s w) w (Gives a s)
  here fit k need c s w a h f = record {
    steps = 0;
    to = w;
    control = c;
    walk = stay (conf c s w);
    later = later_refl w;
    holds = h;
    is = f;
  }

  pub raised_here : {A : Type 0} (fit : World → A → Control → Type 0) (k : Option Address) (need : ℕ) (s : State) (w : World) (x : Term) (v : Value) → Holds p w s → Is p w x v → Follows fit k need (conf (Raise v k) s w) w (Raises x s)
  raised_here fit k need s w x v h i = record {
    steps = 0;
    to = w;
    control = Raise v k;
    walk = stay (conf (Raise v k) s w);
    later = later_refl w;
    holds = h;
    is = (v, refl, i);
  }

  pub deep_here : {A : Type 0} (fit : World → A → Control → Type 0) (k : Option Address) (need : ℕ) (c : Control) (s : State) (w : World) → need ≤ suc (length p.nodes) → Follows fit k need (conf c s w) w (Deeper s)
  deep_here fit k need c s w e = record {
    steps = 0;
    to = conf c s w;
    walk = stay (conf c s w);
    told = refl;
    enough = omega (arith, e);
  }

  pub stuck_here : {A : Type 0} (fit : World → A → Control → Type 0) (k : Option Address) (need : ℕ) (c : Control) (s : State) (w : World) → step p (memory s w) c ≡ None → run.end_of c ≡ runs.Going → Follows fit k need (conf c s w) w (Stuck s)
  stuck_here fit k need c s w e g = record {
    steps = 0;
    to = conf c s w;
    walk = stay (conf c s w);
    none = step_is c s w None e;
    going = g;
  }

  -- ---- Invariants, and parts under a frame

  -- what holds of each state of a run, and what follows from it
  pub record Kept (Inv : Conf → Type 0) : Type 0 where
    pub step : (s t : Conf) → Inv s → M.step s ≡ Some t → Inv t
    pub cut : (s : Conf) → Inv s → IsCut p s
    pub sane : (s : Conf) → Inv s → SaneControl p s.store s.control.control

  module _ (Inv : Conf → Type 0) (inv_step : (s t : Conf) → Inv s → M.step s ≡ Some t → Inv t) where
    pub inv_walk : (c : ℕ) (s t : Conf) → Walks M Any c s t → Inv s → Inv t
    inv_walk c s t v h = walks_keep M Inv Any inv_step c s t v h

    abbrev pub IsPlain : Awaits → Type 0
    IsPlain (Guarded i rules env) = ⊥
    IsPlain _ = Unit {0}

    plain_raised : (mem : Memory) (aw : Awaits) (next : Option Address) (x : Value) → IsPlain aw → raised_to p mem aw next x ≡ going mem (Raise x next)
    plain_raised mem (Guarded i rules env) next x h = absurd h
    plain_raised mem _ next x h = refl

    raise_step : (x : Value) (a : Address) (aw : Awaits) (k : Option Address) (s : State) (w : World) → slice_get w.store a ≡ Some (Frame aw k) → IsPlain aw → M.step (conf (Raise x (Some a)) s w) ≡ Some (conf (Raise x k) s w)
    raise_step x a aw k s w e h =
        step_is (Raise x (Some a)) s w (going (memory s w) (Raise x k)) (ap (λ o. raised p (memory s w) o x) e ∙ plain_raised (memory s w) aw k x h)

    -- a part that is evaluated under a frame
    pub sub : {B : Type 0} (fit : World → B → Control → Type 0) (k : Option Address) (need : ℕ) (from : Conf) (w : World) (a : Address) (aw : Awaits) → slice_get w.store a ≡ Some (Frame aw k) → IsPlain aw → (r : Result Term) (f : Term → State → Result B) → Inv from → Follows (Back (Some a)) (Some a) need from w r → ((u : Term) (s : State) (to : World) (v : Value) → Later w to → Holds p to s → Is p to u v → slice_get to.store a ≡ Some (Frame aw k) → Inv (conf (Ret v (Some a)) s to) → Follows fit k need (conf (Ret v (Some a)) s to) to (f u s)) → Follows fit k need from w (r then f)
    sub fit k need from w a aw e plain (Gives u s) f inv h on =
        let same : conf h.control s h.to ≡ conf (Ret h.is.0 (Some a)) s h.to = ap (λ c. conf c s h.to) h.is.1 in
        let steps : Walks M Any h.steps from (conf (Ret h.is.0 (Some a)) s h.to) = subst (Walks M Any h.steps from) same h.walk in
        walk_on fit k need need h.steps from (conf (Ret h.is.0 (Some a)) s h.to) w h.to (f u s) steps h.later (omega arith) (on u s h.to h.is.0 h.later h.holds h.is.2 (h.later.blocks a (Frame aw k) e tt) (inv_walk h.steps from (conf (Ret h.is.0 (Some a)) s h.to) steps inv))
    sub fit k need from w a aw e plain (Raises x s) f inv h on =
        let same : conf h.control s h.to ≡ conf (Raise h.is.0 (Some a)) s h.to = ap (λ c. conf c s h.to) h.is.1 in
        let steps : Walks M Any h.steps from (conf (Raise h.is.0 (Some a)) s h.to) = subst (Walks M Any h.steps from) same h.walk in
        walk_on fit k need need h.steps from (conf (Raise h.is.0 (Some a)) s h.to) w h.to (Raises x s) steps h.later (omega arith) (step_on fit k need need (conf (Raise h.is.0 (Some a)) s h.to) (conf (Raise h.is.0 k) s h.to) h.to h.to (Raises x s) (raise_step h.is.0 a aw k s h.to (h.later.blocks a (Frame aw k) e tt) plain) (later_refl h.to) (omega arith) (raised_here fit k need s h.to x h.is.0 h.holds h.is.2))
    sub fit k need from w a aw e plain (Deeper s) f inv h on = h
    sub fit k need from w a aw e plain (Stuck s) f inv h on = h
