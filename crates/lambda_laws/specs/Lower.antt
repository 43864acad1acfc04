-- The state of `Lambda` that stands for a state of the source: the same, with tests in place of patterns.
use Rattle.std.specs.Prelude.{List, Some, None, map}
use Rattle.sml_tree.specs.declared.bare.Node.{Node}
use Rattle.sml_types.specs.declared.tables.TypeName.{TypeName}
use Rattle.simulation.specs.Stores.{Act, act_over, configuration_over}
use Rattle.sml_def.specs.State.{Awaits, FunctionPart, ArgumentPart, FieldPart, Subject, RightSide, RaisePart, Guarded, Block, Tuple, Applied, Text, Cell, ExnName, Packet, Closure, Frame, Pending, Focus}
use Rattle.sml_def.specs.Memory.{Memory, Next}
use Rattle.sml_def.specs.Run.{State}
use Rattle.lambda_ir.specs.State.{Waits, FunctionOf, ArgumentOf, PartOf, SubjectOf, RightOf, RaiseOf, GuardOf, Item, Plain, Code, Held}
use Rattle.lambda_ir.specs.Step.{Store, Goes}
use Rattle.lambda_ir.specs.Run.{LambdaState}
use Rattle.match_laws.specs.Compile.{cases_of, bind_of}
use Rattle.lambda_laws.specs.Make.{part_of}

module _ (ts : List TypeName) (nodes : List Node) where
  abbrev pub lower_waits : Awaits → Waits
  lower_waits (FunctionPart f a env) = FunctionOf f a env
  lower_waits (ArgumentPart a f) = ArgumentOf a f
  lower_waits (FieldPart e fields before later env) = PartOf e (map part_of fields) before (map part_of later) env
  lower_waits (Subject e rules env) = SubjectOf e (cases_of ts nodes rules) env
  lower_waits (RightSide b later body env) = RightOf (bind_of ts nodes b) (map (bind_of ts nodes) later) body env
  lower_waits (RaisePart e) = RaiseOf e
  lower_waits (Guarded i rules env) = GuardOf i (cases_of ts nodes rules) env

  abbrev pub lower : Block → Item
  lower (Tuple vs) = Plain (Tuple vs)
  lower (Applied n v) = Plain (Applied n v)
  lower (Text bytes) = Plain (Text bytes)
  lower (Cell v) = Plain (Cell v)
  lower (ExnName x) = Plain (ExnName x)
  lower (Packet x v) = Plain (Packet x v)
  lower (Closure i rules env) = Code i (cases_of ts nodes rules) env
  lower (Frame w next) = Held (lower_waits w) next
  lower (Pending v w next) = Plain (Pending v w next)

  abbrev pub lower_store : List Block → List Item
  lower_store store = map lower store

  abbrev pub lower_memory : Memory → Store
  lower_memory m = record { items = lower_store m.store; input = m.input }

  abbrev pub lower_act : Act Focus Block → Act Focus Item
  lower_act = act_over (λ c. c) lower

  abbrev pub lowered : Next → Goes
  lowered None = None
  lowered (Some a) = Some (lower_act a)

  abbrev pub lower_state : State → LambdaState
  lower_state = configuration_over (λ c. c) lower
