-- One step of the source machine.
use Rattle.std.specs.Prelude.{ℕ, zero, suc, Bool, List, [], ◌∷◌, ◌++◌, Option, Some, None, length, map, slice_get, zip}
use Rattle.sml_tree.specs.declared.bare.Bare.{Bare}
use Rattle.sml_tree.specs.declared.bare.Node.{Node}
use Rattle.sml_tree.specs.declared.bare.Node.TheVariants as node
use Rattle.sml_tree.specs.declared.bare.Field.{Field}
use Rattle.sml_tree.specs.declared.bare.Rule.{Rule}
use Rattle.sml_tree.specs.declared.bare.Binding.{Binding}
use Rattle.sml_tree.specs.declared.bare.RecBinding.{RecBinding}
use Rattle.smlc_base.specs.Exceptions.{exn_text}
use Rattle.smlc_base.specs.declared.exception.LibraryExn.TheVariants as exn
use Rattle.sml_tree.specs.BareParts.{from_parts}
use Rattle.sml_tree.specs.Free.{free, binds, free_match, free_fields, free_rest}
use Rattle.sml_def.specs.Maybe.{◌>>=◌, or_else}
use Rattle.sml_def.specs.State.{Value, Number, Letter, Nothing, Constant, Builtin, Maker, RefMaker, Library, At, Env, Address, Awaits, FunctionPart, ArgumentPart, FieldPart, Subject, RightSide, RaisePart, Guarded, Block, Tuple, Applied, Cell, ExnName, Packet, Closure, Frame, Pending, Normal, Uncaught, Control, Eval, Ret, Apply, Raise, Eq, End, look, cut, truth}
use Rattle.sml_def.specs.Memory.{Memory, Next, going, making, awaiting, making_all}
use Rattle.sml_def.specs.Match.{con_value, first_rule, fits, block_of, packet_block}
use Rattle.prim_meaning.specs.Meaning.{turn}
use Rattle.sml_def.specs.Builtin.{raising, see, builtin, by_verdict}

-- n numbers from i on
abbrev pub count_up : ℕ → ℕ → List ℕ
count_up i zero = []
count_up i (suc n) = i ∷ count_up (suc i) n

-- the values of a record's fields in the order of labels, from those in the written order
abbrev pub by_label : List Field → List Value → List Value
by_label fields values = map (λ b. b.1) (cut (count_up 0 (length fields)) (zip (map (λ f. f.slot) fields) values))

-- the `fn` of a right side of `val rec`, which may be typed: its node and rules
abbrev pub function_of : (ℕ → Option (ℕ × List Rule)) → ℕ → Node → Option (ℕ × List Rule)
function_of part i (node.Fn rules) = Some (i, rules)
function_of part i (node.Typed e ty) = part e
function_of part i _ = None

abbrev pub function_at : List Node → ℕ → Option (ℕ × List Rule)
function_at = from_parts None function_of

module _ (p : Bare) where
  -- the environment of a node
  abbrev pub env_of : ℕ → Env → Env
  env_of i env = cut (free p.nodes i) env

  abbrev pub env_of_match : List Rule → Env → Env
  env_of_match rules env = cut (free_match (binds p.nodes) (free p.nodes) rules) env

  abbrev pub env_of_fields : List Field → Env → Env
  env_of_fields fields env = cut (free_fields (free p.nodes) fields) env

  abbrev pub env_of_rest : Binding → List Binding → ℕ → Env → Env
  env_of_rest b later body env = cut (free_rest (binds p.nodes) (free p.nodes) b later body) env

  -- evaluation of a node in what it needs of the environment
  abbrev pub eval_in : ℕ → Env → Option Address → Control
  eval_in i env k = Eval i (env_of i env) k

  -- ---- Declarations

  -- the names of a `val rec`, each with the address of its closure, from address a on
  abbrev pub group_env : Address → List RecBinding → Env
  group_env a [] = []
  group_env a (b ∷ bindings) = (b.name.0, At a) ∷ group_env (suc a) bindings

  abbrev pub closure_of : Env → Option (ℕ × List Rule) → Option Block
  closure_of env None = None
  closure_of env (Some f) = Some (Closure f.0 f.1 (env_of f.0 env))

  abbrev pub closures : Env → List RecBinding → Option (List Block)
  closures env [] = Some []
  closures env (b ∷ bindings) = do
    closure ← closure_of env (function_at p.nodes b.right)
    others ← closures env bindings
    Some (closure ∷ others)

  -- the bindings of a value declaration that are left, and then the body
  abbrev pub declare : Memory → List Binding → ℕ → Env → Option Address → Next
  declare m [] body env k = going m (eval_in body env k)
  declare m (b ∷ later) body env k =
      awaiting m (RightSide b later body (env_of_rest b later body env)) k (eval_in b.right env)

  -- a declaration before a body
  abbrev pub eval_dec : Memory → ℕ → Node → Env → Option Address → Next
  eval_dec m body (node.Val tyvars bindings) env k = declare m bindings body env k
  eval_dec m body (node.ValRec tyvars bindings) env k =
      let all = group_env (length m.store) bindings ++ env in
      closures all bindings >>= (λ blocks. making_all m blocks (eval_in body all k))
  eval_dec m body (node.Type bindings) env k = going m (eval_in body env k)
  eval_dec m body (node.Datatype bindings) env k = going m (eval_in body env k)
  eval_dec m body (node.Exception x ty) env k = making m (ExnName x.0) (λ a. eval_in body ((x.0, At a) ∷ env) k)
  eval_dec m body (node.SameException x c) env k =
      con_value env c >>= (λ v. going m (eval_in body ((x.0, v) ∷ env) k))
  eval_dec m body _ env k = None

  -- ---- Eval

  -- the fields of a record that are left, and then the record
  abbrev pub eval_fields : Memory → List Field → List Value → List Field → Env → Option Address → Next
  eval_fields m fields before [] env k = making m (Tuple (by_label fields before)) (λ a. Ret (At a) k)
  eval_fields m fields before (f ∷ later) env k =
      awaiting m (FieldPart f.node fields before later (env_of_fields later env)) k (eval_in f.node env)

  abbrev pub eval_record : Memory → List Field → Env → Option Address → Next
  eval_record m [] env k = going m (Ret Nothing k)
  eval_record m (f ∷ fields) env k = eval_fields m (f ∷ fields) [] (f ∷ fields) env k

  abbrev pub eval : Memory → ℕ → Node → Env → Option Address → Next
  eval m i (node.Int n) env k = going m (Ret (Number n) k)
  eval m i (node.Char c) env k = going m (Ret (Letter c) k)
  eval m i (node.Text t) env k = going m (Ret (Constant t) k)
  eval m i (node.Var x) env k = look env x.0 >>= (λ v. going m (Ret v k))
  eval m i (node.Constructor c) env k = con_value env c >>= (λ v. going m (Ret v k))
  eval m i (node.Builtin f) env k = going m (Ret (Builtin f) k)
  eval m i (node.Record fields) env k = eval_record m fields env k
  eval m i (node.App f a) env k = awaiting m (FunctionPart f a (env_of a env)) k (eval_in f env)
  eval m i (node.Case e rules) env k = awaiting m (Subject e rules (env_of_match rules env)) k (eval_in e env)
  eval m i (node.Fn rules) env k = making m (Closure i rules env) (λ a. Ret (At a) k)
  eval m i (node.Raise e) env k = awaiting m (RaisePart e) k (eval_in e env)
  eval m i (node.Handle e rules) env k = awaiting m (Guarded i rules (env_of_match rules env)) k (eval_in e env)
  eval m i (node.Typed e ty) env k = going m (Eval e env k)
  eval m i (node.Let d body) env k = slice_get p.nodes d >>= (λ dec. eval_dec m body dec env k)
  eval m i node.Finish env k = going m (Ret Nothing k)
  eval m i _ env k = None

  -- ---- Ret

  -- the first rule that fits, and else the other control
  abbrev pub by_rule : Memory → List Rule → Env → Value → Option Address → Control → Next
  by_rule m rules env v k other =
      or_else (first_rule p env m.store rules v) (λ r. going m (eval_in r.1 (r.0 ++ env) k)) (going m other)

  -- a value comes back to the right side of a binding
  abbrev pub bind : Memory → Binding → List Binding → ℕ → Env → Value → Option Address → Next
  bind m b later body env v k =
      or_else (fits p env m.store b.pat v) (λ bound. declare m later body (bound ++ env) k) (going m (raising exn.BindExn k))

  -- a value comes back to a frame
  abbrev pub resume : Memory → Awaits → Value → Option Address → Next
  resume m (FunctionPart f a env) v k = awaiting m (ArgumentPart a v) k (Eval a env)
  resume m (ArgumentPart a f) v k = going m (Apply f v k)
  resume m (FieldPart e fields before later env) v k = eval_fields m fields (before ++ v ∷ []) later env k
  resume m (Subject e rules env) v k = by_rule m rules env v k (raising exn.MatchExn k)
  resume m (RightSide b later body env) v k = bind m b later body env v k
  resume m (RaisePart e) v k = going m (Raise v k)
  resume m (Guarded i rules env) v k = going m (Ret v k)

  abbrev pub ret : Memory → Option Block → Value → Next
  ret m (Some (Frame w next)) v = resume m w v next
  ret m _ v = None

  -- ---- Apply

  abbrev pub apply_block : Memory → Option Block → Value → Value → Option Address → Next
  apply_block m (Some (Closure i rules env)) f v k = by_rule m rules env v k (raising exn.MatchExn k)
  apply_block m (Some (ExnName x)) f v k = making m (Packet f v) (λ a. Ret (At a) k)
  apply_block m _ f v k = None

  abbrev pub apply : Memory → Value → Value → Option Address → Next
  apply m (At a) v k = apply_block m (slice_get m.store a) (At a) v k
  apply m (Library e) v k = making m (Packet (Library e) v) (λ a. Ret (At a) k)
  apply m (Maker n) v k = making m (Applied n v) (λ a. Ret (At a) k)
  apply m RefMaker v k = making m (Cell v) (λ a. Ret (At a) k)
  apply m (Builtin f) v k = builtin p.texts m k f v
  apply m _ v k = None

  -- ---- Raise

  -- the spelling of an exception name at its declaration
  abbrev pub spelled : Option Block → Option (List ℕ)
  spelled (Some (ExnName x)) = slice_get p.names x
  spelled _ = None

  abbrev pub exn_name : List Block → Value → Option (List ℕ)
  exn_name store (Library e) = Some (exn_text e)
  exn_name store v = spelled (block_of store v)

  -- the exception name of a packet, which is the packet itself where it has no argument
  abbrev pub name_of : List Block → Value → Value
  name_of store x = or_else (packet_block (block_of store x)) (λ packet. packet.0) x

  abbrev pub uncaught : Memory → Value → Next
  uncaught m x = exn_name m.store (name_of m.store x) >>= (λ name. going m (End (Uncaught name)))

  abbrev pub raised_to : Memory → Awaits → Option Address → Value → Next
  raised_to m (Guarded i rules env) next x = by_rule m rules env x next (Raise x next)
  raised_to m w next x = going m (Raise x next)

  abbrev pub raised : Memory → Option Block → Value → Next
  raised m (Some (Frame w next)) x = raised_to m w next x
  raised m _ x = None

  -- ---- Eq

  abbrev pub compare : Memory → Option Block → Bool → Option Address → Next
  compare m (Some (Pending v w next)) t k = by_verdict m (turn (see p.texts m.store) v w) next t k
  compare m _ t k = None

  -- ---- The step

  abbrev pub step : Memory → Control → Next
  step m (Eval i env k) = slice_get p.nodes i >>= (λ n. eval m i n env k)
  step m (Ret v None) = going m (End Normal)
  step m (Ret v (Some a)) = ret m (slice_get m.store a) v
  step m (Apply f v k) = apply m f v k
  step m (Raise x None) = uncaught m x
  step m (Raise x (Some a)) = raised m (slice_get m.store a) x
  step m (Eq None t k) = going m (Ret (truth t) k)
  step m (Eq (Some a) t k) = compare m (slice_get m.store a) t k
  step m (End e) = None
