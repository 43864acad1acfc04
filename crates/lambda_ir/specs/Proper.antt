-- The states in which the machine has a step. A typed program comes to no others: a value that comes to a frame is of the kind that this awaits,
-- tests look at values of their kind along ways that lead somewhere, what is compared has equality, and an environment has what its term needs.
use Rattle.std.specs.Prelude.{ℕ, Bool, true, false, not, cond, ◌&&◌, List, [], ◌∷◌, Option, Some, None, slice_get}
use Rattle.std.specs.List.{list_all}
use Rattle.std.specs.Option.{is_some}
use Rattle.smlc_base.specs.declared.primitive.Primitive.{Primitive}
use Rattle.smlc_base.specs.declared.primitive.Primitive.TheVariants as prim
use Rattle.prim_meaning.specs.Strict.{is_seen}
use Rattle.sml_def.specs.Builtin.{see}
use Rattle.sml_def.specs.Match.{fields_of}
use Rattle.sml_def.specs.Maybe.{or_else}
use Rattle.sml_def.specs.State.{Value, Builtin, Maker, RefMaker, Library, At, Env, ExnName, Pending, Control, Eval, Ret, Apply, Raise, Eq, look}
use Rattle.lambda_ir.specs.declared.term.Bind.{Bind}
use Rattle.lambda_ir.specs.declared.term.Case.{Case}
use Rattle.lambda_ir.specs.Program.{Lambda}
use Rattle.lambda_ir.specs.Free.{Operator, Computed, Constant, Exception, is_comparison, free_at, operator_at}
use Rattle.lambda_ir.specs.State.{Waits, FunctionOf, SubjectOf, RightOf, GuardOf, Item, Plain, Code, Held, data_of}
use Rattle.lambda_ir.specs.Step.{Store, Goes, step_term}
use Rattle.lambda_ir.specs.Tests.{bind_met, match_met}

-- ---- Values

abbrev pub item_of : Store → Value → Option Item
item_of m (At a) = slice_get m.items a
item_of m v = None

abbrev pub name_item : Option Item → Bool
name_item (Some (Plain (ExnName x))) = true
name_item _ = false

-- an exception name
abbrev pub is_name : Store → Value → Bool
is_name m (Library e) = true
is_name m v = name_item (item_of m v)

-- no constant that stands as a function part alone
abbrev pub is_plain : Value → Bool
is_plain (Maker n) = false
is_plain RefMaker = false
is_plain (Builtin prim.StdIn) = true
is_plain (Builtin f) = false
is_plain v = true

abbrev pub same_bool : Bool → Bool → Bool
same_bool true b = b
same_bool false b = not b

-- what such a function part is
abbrev pub is_operator : Operator → Value → Option Item → Bool
is_operator Computed v (Some (Code i cases env)) = true
is_operator (Constant c) (Builtin f) o = same_bool c (is_comparison f)
is_operator (Constant c) (Maker n) o = not c
is_operator (Constant c) RefMaker o = not c
is_operator (Constant c) (Library e) o = not c
is_operator Exception (Library e) o = true
is_operator Exception v (Some (Plain (ExnName x))) = true
is_operator _ v o = false

-- ---- States

module _ (l : Lambda) (m : Store) where
  -- a value comes to a frame that awaits one of its kind
  abbrev pub may_come : Waits → Value → Bool
  may_come (FunctionOf f a env) v = is_operator (operator_at l.terms f) v (item_of m v)
  may_come w v = is_plain v

  abbrev pub bound : Bind → Env → Value → Bool
  bound b env v = bind_met l.texts env (see l.texts (data_of m.items)) (is_name m) b.tests b.names v

  abbrev pub matched : List Case → Env → Value → Bool
  matched cases env v = match_met l.texts env (see l.texts (data_of m.items)) (is_name m) cases v

  abbrev pub tried : Waits → Value → Bool
  tried (SubjectOf e cases env) v = matched cases env v
  tried (RightOf b later body env) v = bound b env v
  tried w v = true

  abbrev pub comes : Option Item → Value → Bool
  comes (Some (Held w next)) v = may_come w v && tried w v
  comes _ v = true

  abbrev pub is_entered : Option Item → Value → Bool
  is_entered (Some (Code i cases env)) v = matched cases env v
  is_entered _ v = true

  abbrev pub is_caught : Option Item → Value → Bool
  is_caught (Some (Held (GuardOf i cases env) next)) x = matched cases env x
  is_caught _ x = true

  abbrev pub both_seen : Value → Value → Bool
  both_seen v w = is_seen (see l.texts (data_of m.items) v) && is_seen (see l.texts (data_of m.items) w)

  abbrev pub two_seen : List Value → Bool
  two_seen (v ∷ w ∷ []) = both_seen v w
  two_seen vs = false

  -- where the arguments of a primitive are compared
  abbrev pub may_apply : Primitive → Value → Bool
  may_apply f v = cond (is_comparison f) (or_else (fields_of (data_of m.items) v) two_seen false) true

  abbrev pub may_turn : Option Item → Bool
  may_turn (Some (Plain (Pending v w next))) = both_seen v w
  may_turn _ = true

  abbrev pub covers : Env → ℕ → Bool
  covers env i = list_all (λ x. is_some (look env x)) (free_at l.terms i)

  abbrev pub is_proper : Control → Bool
  is_proper (Eval i env k) = covers env i
  is_proper (Ret v (Some a)) = comes (slice_get m.items a) v
  is_proper (Apply (At a) v k) = is_entered (slice_get m.items a) v
  is_proper (Apply (Builtin f) v k) = may_apply f v
  is_proper (Raise x (Some a)) = is_caught (slice_get m.items a) x
  is_proper (Eq (Some a) t k) = may_turn (slice_get m.items a)
  is_proper _ = true

-- one step of the machine
abbrev pub proper_step : Lambda → Store → Control → Goes
proper_step l m c = cond (is_proper l m c) (step_term l m c) None
