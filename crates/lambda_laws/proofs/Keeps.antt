-- The program of `Lambda` keeps the bare tree's, where each state of the source's run is ready.
use Rattle.std.proofs.Common.{◌≡◌, ℕ, ◌≤◌, true, false, List, [], ◌∷◌, ◌++◌, Option, Some, None, refl, sym, ap, ◌∙◌, subst, map}
use Rattle.std.proofs.lemmas.Option.{slice_get-map}
use Rattle.std.specs.Prelude.{slice_get}
use Rattle.std.specs.Option.{option_map}
use Rattle.smlc_base.specs.declared.place.Place.{Place}
use Rattle.smlc_base.specs.declared.point.Point.{Point}
use Rattle.sml_tree.specs.declared.bare.Bare.{Bare}
use Rattle.sml_tree.specs.declared.bare.Node.{Node}
use Rattle.sml_tree.specs.declared.points.Spot.{Spot}
use Rattle.sml_tree.specs.Points.{spots}
use Rattle.sml_tree.specs.IsBare.{IsBare}
use Rattle.smlc_base.specs.Points.{is_label}
use Rattle.simulation.specs.Runs.{times, visible}
use Rattle.simulation.specs.Runs as runs
use Rattle.simulation.specs.Keeps.{Keeps}
use Rattle.simulation.specs.Machines.{Machine, state_at, IsLive, end_of, run_from}
use Rattle.simulation.specs.Stores.{acted, machine_of}
use Rattle.simulation.proofs.Forward.{live_known}
use Rattle.simulation.proofs.Lockstep.{memory_over, acted_over, IsInStep, in_step, in_step_keeps}
use Rattle.simulation.proofs.Stores.{HasNoRecord, plain_named, plain_tidy, store_steady}
use Rattle.sml_types.specs.declared.tables.TypeName.{TypeName}
use Rattle.sml_def.specs.State.{At, FunctionPart, ArgumentPart, FieldPart, Subject, RightSide, RaisePart, Guarded, Block, Closure, Frame, Control, Eval, Ret, Apply, Raise, End, Ending, Focus}
use Rattle.sml_def.specs.State as control
use Rattle.sml_def.specs.Memory.{Memory, Next}
use Rattle.sml_def.specs.Run.{State, view, passes, entered, returned_to, caught_at, of_control, source, start, points, run}
use Rattle.sml_def.specs.Run as run
use Rattle.sml_def.specs.Sites.{site_of, eq_site}
use Rattle.sml_def.specs.Step.{step}
use Rattle.lambda_ir.specs.Step.{Store, Goes, step_term}
use Rattle.lambda_ir.specs.Run.{view_item, passes_item, entered_item, returned_item, caught_item, machine_by, LambdaState, lambda_points, start_lambda}
use Rattle.lambda_laws.specs.Make.{lambda_of}
use Rattle.lambda_laws.specs.Lower.{lower, lower_store, lower_memory, lower_state}
use Rattle.lambda_laws.specs.Ready.{ControlReady}
use Rattle.lambda_laws.proofs.Steps.{HasSameFree, Answered, step_ok}

module _ (ts : List TypeName) (nodes : List Node) where
  -- ---- The same is seen

  pub view_same : (b : Block) → view_item (lower ts nodes b) ≡ view b
  view_same (Frame (FunctionPart f a env) next) = refl
  view_same (Frame (ArgumentPart a f) next) = refl
  view_same (Frame (FieldPart e fields before later env) next) = refl
  view_same (Frame (Subject e rules env) next) = refl
  view_same (Frame (RightSide b later body env) next) = refl
  view_same (Frame (RaisePart e) next) = refl
  view_same (Frame (Guarded i rules env) next) = refl
  view_same _ = refl

  entered_same : (o : Option Block) → entered_item (option_map (lower ts nodes) o) ≡ entered o
  entered_same None = refl
  entered_same (Some (Closure i rules env)) = refl
  entered_same (Some _) = refl

  returned_same : (o : Option Block) → returned_item (option_map (lower ts nodes) o) ≡ returned_to o
  returned_same None = refl
  returned_same (Some (Frame (FunctionPart f a env) next)) = refl
  returned_same (Some (Frame (ArgumentPart a f) next)) = refl
  returned_same (Some (Frame (FieldPart e fields before later env) next)) = refl
  returned_same (Some (Frame (Subject e rules env) next)) = refl
  returned_same (Some (Frame (RightSide b later body env) next)) = refl
  returned_same (Some (Frame (RaisePart e) next)) = refl
  returned_same (Some (Frame (Guarded i rules env) next)) = refl
  returned_same (Some _) = refl

  caught_same : (o : Option Block) → caught_item (option_map (lower ts nodes) o) ≡ caught_at o
  caught_same None = refl
  caught_same (Some (Frame (FunctionPart f a env) next)) = refl
  caught_same (Some (Frame (ArgumentPart a f) next)) = refl
  caught_same (Some (Frame (FieldPart e fields before later env) next)) = refl
  caught_same (Some (Frame (Subject e rules env) next)) = refl
  caught_same (Some (Frame (RightSide b later body env) next)) = refl
  caught_same (Some (Frame (RaisePart e) next)) = refl
  caught_same (Some (Frame (Guarded i rules env) next)) = refl
  caught_same (Some _) = refl

  pass_same : (store : List Block) (c : Control) → passes_item (lower_store ts nodes store) c ≡ passes store c
  pass_same store (Apply (At a) v k) = ap entered_item (slice_get-map (lower ts nodes) store a) ∙ entered_same (slice_get store a)
  pass_same store (Ret v (Some a)) = ap returned_item (slice_get-map (lower ts nodes) store a) ∙ returned_same (slice_get store a)
  pass_same store (Ret v None) = refl
  pass_same store (Raise x (Some a)) = ap caught_item (slice_get-map (lower ts nodes) store a) ∙ caught_same (slice_get store a)
  pass_same store (Raise x None) = refl
  pass_same store (control.Eq pairs t k) = refl
  pass_same store _ = refl

no_record : HasNoRecord view
no_record (Frame w next) = ((λ e. cc), (λ e. cc))
no_record (Closure i rules env) = ((λ e. cc), (λ e. cc))
no_record _ = ((λ e. cc), (λ e. cc))

-- ---- The simulation

abbrev pub memory_of : State → Memory
memory_of s = record { store = s.store; input = s.control.input }

-- what the machine does in the state that stands for this one
abbrev pub doing : List TypeName → Bare → (Store → Control → Goes) → State → Goes
doing ts p act s = act (lower_memory ts p.nodes (memory_of s)) s.control.control

-- The machine may ask something of its states. Where it is so, it does what any other does.
module _ (ts : List TypeName) (p : Bare) (bare : IsBare p) (same : HasSameFree ts p) (act : Store → Control → Goes) (IsFine : State → Type 0) (does : (s : State) → IsFine s → doing ts p act s ≡ doing ts p (step_term (lambda_of ts p)) s) where
  abbrev A : Machine State
  A = machine_of (source p)

  abbrev B : Machine LambdaState
  B = machine_of (machine_by act)

  abbrev labels : List Point
  labels = lambda_points (lambda_of ts p)

  abbrev IsReady : State → Type 0
  IsReady s = ControlReady p s.store s.control.control × IsFine s

  abbrev Known : State → Type 0
  Known s = IsLive A s × IsReady s

  next_same : (s s' : State) → IsReady s → A.step s ≡ Some s' → B.step (lower_state ts p.nodes s) ≡ Some (lower_state ts p.nodes s')
  next_same s s' ready e = go (step p (memory_of s) s.control.control) (step_ok ts p bare same (memory_of s) s.control.control ready.0) e
    where
      go : (o : Next) → Answered ts p.nodes o (step_term (lambda_of ts p) (lower_memory ts p.nodes (memory_of s)) s.control.control) → acted view s.out s.store o ≡ Some s' → B.step (lower_state ts p.nodes s) ≡ Some (lower_state ts p.nodes s')
      go None h e = absurd (cc)
      go (Some a) h e = ap (acted view_item s.out (lower_store ts p.nodes s.store)) (does s ready.1 ∙ h) ∙ acted_over view view_item (λ c. c) (lower ts p.nodes) (view_same ts p.nodes) s.out s.store a ∙ ap (option_map (lower_state ts p.nodes)) e

  -- a state without a step is an end
  ends_at : (s : State) → IsLive A s → A.step s ≡ None → (x : Ending) × (s.control.control ≡ End x)
  ends_at s live e = go s.control.control refl
    where
      stuck : A.end s ≡ runs.Going → ⊥
      stuck g = live 0 (ap (λ o. end_of o (A.end s)) e ∙ ap (λ x. end_of {S = State} None x) g)

      go : (c : Control) → s.control.control ≡ c → (x : Ending) × (s.control.control ≡ End x)
      go (End x) g = (x, g)
      go (Eval i env k) g = absurd (stuck (ap run.end_of g))
      go (Ret v k) g = absurd (stuck (ap run.end_of g))
      go (Apply f v k) g = absurd (stuck (ap run.end_of g))
      go (Raise x k) g = absurd (stuck (ap run.end_of g))
      go (control.Eq pairs t k) g = absurd (stuck (ap run.end_of g))

  ends_step : (s : State) → IsLive A s → IsFine s → A.step s ≡ None → B.step (lower_state ts p.nodes s) ≡ None
  ends_step s live fine e =
      ap (acted view_item s.out (lower_store ts p.nodes s.store)) (does s fine ∙ ap (step_term (lambda_of ts p) (lower_memory ts p.nodes (memory_of s))) (ends_at s live e).1)

  goes_in_step : IsInStep A B labels Known (lower_state ts p.nodes)
  goes_in_step = record {
    out = λ s k. refl;
    memory = λ s k. memory_over view view_item (λ (c : Focus). c) (lower ts p.nodes) (view_same ts p.nodes) s.store;
    roots = λ s k. refl;
    passes = λ s k. ap (visible labels) (pass_same ts p.nodes s.store s.control.control);
    next = λ s t k e. next_same s t k.1 e;
    last = λ s k e. ends_step s k.0 k.1.1 e;
    end = λ s k e. refl;
    named = λ s k. plain_named view no_record s.store;
    reach = λ s q k v. plain_tidy view no_record s.store (of_control s.control.control);
  }

  -- both go in step
  pub steps_same : (input : List ℕ) → ((n : ℕ) → Known (state_at A (start input) n)) → (n : ℕ) → state_at B (start_lambda input) n ≡ lower_state ts p.nodes (state_at A (start input) n)
  steps_same input known n = in_step A B labels Known (lower_state ts p.nodes) goes_in_step (start input) known n

  -- the points of the sites are the points
  site_points : (places : List Place) (ss : List Spot) → map (λ s. s.point) (map (site_of places) ss ++ eq_site ∷ []) ≡ map (λ s. s.point) ss ++ run.eq_point ∷ []
  site_points places [] = refl
  site_points places (s ∷ ss) = ap (λ xs. s.point ∷ xs) (site_points places ss)

  labels_same : labels ≡ points p
  labels_same = site_points p.places (spots p.nodes)

  pub machine_keeps : (input : List ℕ) → ((n : ℕ) → IsReady (state_at A (start input) n)) → Keeps (run p input) (run_from B labels (start_lambda input))
  machine_keeps input ready sound =
      in_step_keeps A B labels Known (lower_state ts p.nodes) goes_in_step false (points p) (start input) (λ sound n. (live_known A (points p) (start input) sound n, ready n)) (store_steady (source p)) (store_steady (machine_by act)) (λ q e. subst (λ ls. is_label ls q ≡ true) labels_same e) (λ q k. subst (λ ls. times q ls ≤ 1) (sym labels_same) (sound.once q k)) sound
