-- What is so of each state of a program that the compiler makes, beside its types: function constants come to function parts alone, and exceptions
-- that patterns name are exception names.
use Rattle.std.specs.Prelude.{◌≡◌, ℕ, Bool, true, false, not, List, Option, Some, slice_get}
use Rattle.sml_tree.specs.declared.bare.Bare.{Bare}
use Rattle.sml_tree.specs.declared.bare.Node.{Node}
use Rattle.sml_tree.specs.declared.bare.Node.TheVariants as node
use Rattle.sml_tree.specs.declared.bare.Rule.{Rule}
use Rattle.sml_tree.specs.Sets.{union_over}
use Rattle.sml_tree.specs.BareParts.{from_parts}
use Rattle.sml_tree.specs.Free.{free}
use Rattle.simulation.specs.Machines.{state_at}
use Rattle.simulation.specs.Stores.{machine_of}
use Rattle.sml_def.specs.Match.{block_of}
use Rattle.sml_def.specs.Run.{State, source, start}
use Rattle.sml_def.specs.State.{Value, Builtin, Maker, RefMaker, Library, At, Env, Awaits, FunctionPart, Subject, RightSide, Guarded, Block, ExnName, Closure, Frame, Control, Ret, Apply, Raise}
use Rattle.lambda_ir.specs.Free.{Operator, Computed, Constant, Exception, is_comparison, operator_con}
use Rattle.lambda_ir.specs.Proper.{same_bool, is_plain}
use Rattle.match_laws.specs.Law.{HasNames}

-- ---- Function parts

abbrev pub operator_node : (ℕ → Operator) → ℕ → Node → Operator
operator_node part i (node.Builtin f) = Constant (is_comparison f)
operator_node part i (node.Constructor c) = operator_con c
operator_node part i (node.Typed e ty) = part e
operator_node part i _ = Computed

abbrev pub operator_of : List Node → ℕ → Operator
operator_of = from_parts Computed operator_node

-- what such a function part is
abbrev pub is_function_part : Operator → Value → Option Block → Bool
is_function_part Computed v (Some (Closure i rules env)) = true
is_function_part (Constant c) (Builtin f) o = same_bool c (is_comparison f)
is_function_part (Constant c) (Maker n) o = not c
is_function_part (Constant c) RefMaker o = not c
is_function_part (Constant c) (Library e) o = not c
is_function_part Exception (Library e) o = true
is_function_part Exception v (Some (ExnName x)) = true
is_function_part _ v o = false

-- ---- States

module _ (p : Bare) (store : List Block) where
  abbrev pub HasRuleNames : Env → List Rule → Type 0
  HasRuleNames env rules = HasNames store env (union_over (λ r. free p.nodes r.pat) rules)

  abbrev pub SaneWaits : Awaits → Value → Type 0
  SaneWaits (FunctionPart f a env) v = is_function_part (operator_of p.nodes f) v (block_of store v) ≡ true
  SaneWaits (Subject e rules env) v = (is_plain v ≡ true) × HasRuleNames env rules
  SaneWaits (RightSide b later body env) v = (is_plain v ≡ true) × HasNames store env (free p.nodes b.pat)
  SaneWaits w v = is_plain v ≡ true

  abbrev pub SaneReturn : Option Block → Value → Type 0
  SaneReturn (Some (Frame w next)) v = SaneWaits w v
  SaneReturn _ v = Unit {0}

  abbrev pub SaneEnter : Option Block → Type 0
  SaneEnter (Some (Closure i rules env)) = HasRuleNames env rules
  SaneEnter _ = Unit {0}

  abbrev pub SaneRaise : Option Block → Type 0
  SaneRaise (Some (Frame (Guarded i rules env) next)) = HasRuleNames env rules
  SaneRaise _ = Unit {0}

  abbrev pub SaneControl : Control → Type 0
  SaneControl (Ret v (Some a)) = SaneReturn (slice_get store a) v
  SaneControl (Apply (At a) v k) = SaneEnter (slice_get store a)
  SaneControl (Raise x (Some a)) = SaneRaise (slice_get store a)
  SaneControl _ = Unit {0}

-- each state of the run is sane
abbrev pub RunIsSane : Bare → List ℕ → Type 0
RunIsSane p input = (n : ℕ) → let s : State = state_at (machine_of (source p)) (start input) n in SaneControl p s.store s.control.control
