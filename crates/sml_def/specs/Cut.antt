-- Environments hold the free variables of what they are for, and no others.
use Rattle.std.specs.Prelude.{◌≡◌, ℕ, List, [], Some, map, slice_get}
use Rattle.std.specs.List.{AllByRecursion}
use Rattle.sml_tree.specs.declared.bare.Bare.{Bare}
use Rattle.sml_tree.specs.declared.bare.Node.TheVariants as node
use Rattle.sml_tree.specs.BareParts.{IsNumbered}
use Rattle.sml_tree.specs.Free.{free, binds, free_match, free_fields, free_rest}
use Rattle.simulation.specs.Machines.{state_at}
use Rattle.simulation.specs.Stores.{machine_of}
use Rattle.sml_def.specs.State.{Env, Awaits, FunctionPart, ArgumentPart, FieldPart, Subject, RightSide, RaisePart, Guarded, Block, Closure, Frame, Control, Eval}
use Rattle.sml_def.specs.Run.{State, source, start}

abbrev pub names : Env → List ℕ
names env = map (λ b. b.0) env

module _ (p : Bare) where
  -- the variables that a frame is to hold
  abbrev pub needs : Awaits → List ℕ
  needs (FunctionPart f a env) = free p.nodes a
  needs (ArgumentPart a f) = []
  needs (FieldPart e fields before later env) = free_fields (free p.nodes) later
  needs (Subject e rules env) = free_match (binds p.nodes) (free p.nodes) rules
  needs (RightSide b later body env) = free_rest (binds p.nodes) (free p.nodes) b later body
  needs (RaisePart e) = []
  needs (Guarded i rules env) = free_match (binds p.nodes) (free p.nodes) rules

  -- the variables that it holds
  abbrev pub env_in : Awaits → Env
  env_in (FunctionPart f a env) = env
  env_in (ArgumentPart a f) = []
  env_in (FieldPart e fields before later env) = env
  env_in (Subject e rules env) = env
  env_in (RightSide b later body env) = env
  env_in (RaisePart e) = []
  env_in (Guarded i rules env) = env

  -- a closure is one of a node `fn` of the tree
  abbrev pub IsCutBlock : Block → Type 0
  IsCutBlock (Closure i rules env) = (slice_get p.nodes i ≡ Some (node.Fn rules)) × (names env ≡ free p.nodes i)
  IsCutBlock (Frame w next) = names (env_in w) ≡ needs w
  IsCutBlock _ = Unit {0}

  abbrev pub IsCutControl : Control → Type 0
  IsCutControl (Eval i env k) = names env ≡ free p.nodes i
  IsCutControl _ = Unit {0}

  pub record IsCut (s : State) : Type 0 where
    pub control : IsCutControl s.control.control
    pub store : AllByRecursion IsCutBlock s.store

-- so it is in each state of a run of a program without free variables
abbrev pub EnvironmentsAreCut : Type 0
EnvironmentsAreCut =
    (p : Bare) → IsNumbered p.nodes → free p.nodes 0 ≡ [] → (input : List ℕ) (n : ℕ) → IsCut p (state_at (machine_of (source p)) (start input) n)
