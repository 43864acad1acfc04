-- Every address that a state names has a block, since it is known whether a frame stands there.
use Rattle.std.proofs.Common.{true, false, List, length, Option, Some, None}
use Rattle.sml_def.proofs.Effects.{all_map}
use Rattle.sml_def.proofs.Apart.{below, values_name_no_frames}
use Rattle.sml_def.specs.State.{Value, At, Env, Address, Awaits, FunctionPart, ArgumentPart, FieldPart, Subject, RightSide, RaisePart, Guarded, Block, Tuple, Applied, Text, Cell, ExnName, Packet, Closure, Frame, Pending, Control, Eval, Ret, Apply, Raise, Eq, End}
use Rattle.sml_def.specs.Apart as apart
use Rattle.sml_def.specs.Apart.{shape}
use Rattle.sml_def.specs.Closed.{InStore, NextIn, AllIn, EnvIn, AwaitsIn, BlockIn, ControlIn, NamesNothingLost}

module _ (store : List Block) where
  value_below : (v : Value) → apart.InStore (shape store) v → InStore (length store) v
  value_below (At a) h = below store a false h
  value_below _ h = tt

  next_below : (k : Option Address) → apart.NextIn (shape store) k → NextIn (length store) k
  next_below (Some a) h = below store a true h
  next_below None h = tt

  pend_below : (k : Option Address) → apart.PendIn (shape store) k → NextIn (length store) k
  pend_below (Some a) h = below store a false h
  pend_below None h = tt

  all_below : (vs : List Value) → apart.AllIn (shape store) vs → AllIn (length store) vs
  all_below vs h = all_map (apart.InStore (shape store)) (InStore (length store)) value_below vs h

  env_below : (env : Env) → apart.EnvIn (shape store) env → EnvIn (length store) env
  env_below env h = all_map (λ b. apart.InStore (shape store) b.1) (λ b. InStore (length store) b.1) (λ b. value_below b.1) env h

  awaits_below : (w : Awaits) → apart.AwaitsIn (shape store) w → AwaitsIn (length store) w
  awaits_below (FunctionPart f a env) h = env_below env h
  awaits_below (ArgumentPart a v) h = value_below v h
  awaits_below (FieldPart e fields before later env) h = (all_below before h.0, env_below env h.1)
  awaits_below (Subject e rules env) h = env_below env h
  awaits_below (RightSide b later body env) h = env_below env h
  awaits_below (RaisePart i) h = tt
  awaits_below (Guarded i rules env) h = env_below env h

  block_below : (b : Block) → apart.BlockIn (shape store) b → BlockIn (length store) b
  block_below (Tuple fields) h = all_below fields h
  block_below (Applied tag v) h = value_below v h
  block_below (Text bytes) h = tt
  block_below (Cell v) h = value_below v h
  block_below (ExnName x) h = tt
  block_below (Packet x v) h = (value_below x h.0, value_below v h.1)
  block_below (Closure i rules env) h = env_below env h
  block_below (Frame w next) h = (awaits_below w h.0, next_below next h.1)
  block_below (Pending v w next) h = (value_below v h.0, value_below w h.1, pend_below next h.2)

  control_below : (c : Control) → apart.ControlIn (shape store) c → ControlIn (length store) c
  control_below (Eval i env k) h = (env_below env h.0, next_below k h.1)
  control_below (Ret v k) h = (value_below v h.0, next_below k h.1)
  control_below (Apply f v k) h = (value_below f h.0, value_below v h.1, next_below k h.2)
  control_below (Raise x k) h = (value_below x h.0, next_below k h.1)
  control_below (Eq pairs t k) h = (pend_below pairs h.0, next_below k h.1)
  control_below (End e) h = tt

pub names_nothing_lost : NamesNothingLost
names_nothing_lost p input n =
    let h = values_name_no_frames p input n in
    record {
      control = control_below _ _ h.control;
      store = all_map _ _ (block_below _) _ h.store;
    }
