-- The states of a run name what stands in their memory, so what is computed as reached is what they reach.
use Rattle.std.proofs.Common.{◌≡◌, ℕ, ◌<◌, List, [], ◌∷◌, ◌++◌, length, map, Option, Some, None, sym, subst}
use Rattle.std.proofs.lemmas.List.{length-map}
use Rattle.std.specs.Prelude.{slice_get, IfSome}
use Rattle.std.specs.List.{AllByRecursion}
use Rattle.simulation.specs.Blocks as sim
use Rattle.simulation.specs.Machines.{state_at}
use Rattle.simulation.specs.Stores.{machine_of}
use Rattle.simulation.proofs.Heaps.{stands_map}
use Rattle.sml_def.specs.State.{Value, At, Env, Address, Awaits, FunctionPart, ArgumentPart, FieldPart, Subject, RightSide, RaisePart, Guarded, Block, Tuple, Applied, Text, Cell, ExnName, Packet, Closure, Frame, Pending, Control, Eval, Ret, Apply, Raise, Eq, End}
use Rattle.sml_def.specs.Run.{State, of_value, of_next, of_values, of_env, of_frame, of_block, of_control, view, source, start}
use Rattle.sml_def.specs.Closed.{InStore, NextIn, AllIn, EnvIn, AwaitsIn, BlockIn, ControlIn, IsClosed}
use Rattle.sml_def.specs.Words.{ReachIsLeast, WordsAreReached}
use Rattle.sml_def.proofs.Effects.{all_append, all_get}
use Rattle.sml_def.proofs.Closed.{names_nothing_lost}
use Rattle.sml_def.proofs.Least.{IsWhole, least, has_words}

module _ (n : ℕ) where
  abbrev Below : List ℕ → Type 0
  Below xs = AllByRecursion (λ a. a < n) xs

  both : (xs ys : List ℕ) → Below xs → Below ys → Below (xs ++ ys)
  both xs ys h g = all_append (λ a. a < n) xs ys h g

  value_below : (v : Value) → InStore n v → Below (of_value v)
  value_below (At a) h = (h, tt)
  value_below _ h = tt

  next_below : (k : Option Address) → NextIn n k → Below (of_next k)
  next_below (Some a) h = (h, tt)
  next_below None h = tt

  values_below : (vs : List Value) → AllIn n vs → Below (of_values vs)
  values_below [] h = tt
  values_below (v ∷ vs) h = both (of_value v) (of_values vs) (value_below v h.0) (values_below vs h.1)

  env_below : (env : Env) → EnvIn n env → Below (of_env env)
  env_below [] h = tt
  env_below (b ∷ env) h = both (of_value b.1) (of_env env) (value_below b.1 h.0) (env_below env h.1)

  frame_below : (w : Awaits) → AwaitsIn n w → Below (of_frame w)
  frame_below (FunctionPart f a env) h = env_below env h
  frame_below (ArgumentPart a f) h = value_below f h
  frame_below (FieldPart e fields before later env) h =
      both (of_values before) (of_env env) (values_below before h.0) (env_below env h.1)
  frame_below (Subject e rules env) h = env_below env h
  frame_below (RightSide b later body env) h = env_below env h
  frame_below (RaisePart e) h = tt
  frame_below (Guarded i rules env) h = env_below env h

  block_below : (b : Block) → BlockIn n b → Below (of_block b)
  block_below (Tuple vs) h = values_below vs h
  block_below (Applied tag v) h = value_below v h
  block_below (Text bytes) h = tt
  block_below (Cell v) h = value_below v h
  block_below (ExnName x) h = tt
  block_below (Packet x v) h = both (of_value x) (of_value v) (value_below x h.0) (value_below v h.1)
  block_below (Closure i rules env) h = env_below env h
  block_below (Frame w next) h = both (of_frame w) (of_next next) (frame_below w h.0) (next_below next h.1)
  block_below (Pending v w next) h =
      both (of_value v ++ of_value w) (of_next next) (both (of_value v) (of_value w) (value_below v h.0) (value_below w h.1)) (next_below next h.2)

  control_below : (c : Control) → ControlIn n c → Below (of_control c)
  control_below (Eval i env k) h = both (of_env env) (of_next k) (env_below env h.0) (next_below k h.1)
  control_below (Ret v k) h = both (of_value v) (of_next k) (value_below v h.0) (next_below k h.1)
  control_below (Apply f v k) h =
      both (of_value f ++ of_value v) (of_next k) (both (of_value f) (of_value v) (value_below f h.0) (value_below v h.1)) (next_below k h.2)
  control_below (Raise x k) h = both (of_value x) (of_next k) (value_below x h.0) (next_below k h.1)
  control_below (Eq pairs t k) h = both (of_next pairs) (of_next k) (next_below pairs h.0) (next_below k h.1)
  control_below (End e) h = tt

some_is : {A : Type 0} (P : A → Type 0) (o : Option A) (x : A) → o ≡ Some x → IfSome o P → P x
some_is P None x e h = cc
some_is P (Some y) x e h = let same : y ≡ x = cc in subst P same h

pub whole : (s : State) → IsClosed s → IsWhole (map view s.store) (of_control s.control.control)
whole s h =
    let len : length (map view s.store) ≡ length s.store = length-map s.store view in
    record {
      roots_stand = subst (λ n. AllByRecursion (λ a. a < n) (of_control s.control.control)) (sym len) (control_below (length s.store) s.control.control h.control);
      fields_stand = λ a b e.
          let p = stands_map view s.store a b e in
          subst (λ (x : sim.Block). AllByRecursion (λ c. c < length (map view s.store)) x.fields) p.2 (subst (λ n. AllByRecursion (λ c. c < n) (of_block p.0)) (sym len) (block_below (length s.store) p.0 (some_is (BlockIn (length s.store)) (slice_get s.store a) p.0 p.1 (all_get (BlockIn (length s.store)) s.store a h.store))));
    }

pub reach_is_least : ReachIsLeast
reach_is_least p input n =
    let s = state_at (machine_of (source p)) (start input) n in
    least (map view s.store) (of_control s.control.control) (whole s (names_nothing_lost p input n))

pub words_are_reached : WordsAreReached
words_are_reached p input n =
    let s = state_at (machine_of (source p)) (start input) n in
    has_words (map view s.store) (of_control s.control.control) (whole s (names_nothing_lost p input n))
