-- One step of the machine of `Lambda`.
use Rattle.std.specs.Prelude.{ℕ, suc, Bool, List, [], ◌∷◌, ◌++◌, Option, Some, None, length, map, slice_get, zip}
use Rattle.sml_tree.specs.declared.bare.Bare.{Bare}
use Rattle.sml_tree.specs.declared.bare.RecBinding.{RecBinding}
use Rattle.smlc_base.specs.declared.exception.LibraryExn.TheVariants as exn
use Rattle.simulation.specs.Stores.{Effect, Append, Put, Act, goes, makes}
use Rattle.sml_def.specs.Maybe.{◌>>=◌, or_else}
use Rattle.sml_def.specs.State.{Value, Number, Letter, Nothing, Constant, Builtin, Maker, RefMaker, Library, At, Env, Address, Block, Tuple, Applied, Cell, ExnName, Packet, Normal, Uncaught, Control, Eval, Ret, Apply, Raise, Eq, End, Focus, cut, look, truth}
use Rattle.sml_def.specs.Memory.{Memory, Next}
use Rattle.sml_def.specs.Match.{con_value}
use Rattle.sml_def.specs.Builtin.{raising, see, builtin}
use Rattle.sml_def.specs.Step.{count_up, exn_name, name_of, compare}
use Rattle.lambda_ir.specs.declared.term.Case.{Case}
use Rattle.lambda_ir.specs.declared.term.Bind.{Bind}
use Rattle.lambda_ir.specs.declared.term.Part.{Part}
use Rattle.lambda_ir.specs.declared.term.Term.{Term}
use Rattle.lambda_ir.specs.declared.term.Term.TheVariants as term
use Rattle.lambda_ir.specs.Program.{Lambda}
use Rattle.lambda_ir.specs.Tests.{chosen, first_case}
use Rattle.lambda_ir.specs.Free.{free_at, free_cases, free_parts, free_behind, function_at}
use Rattle.lambda_ir.specs.State.{Waits, FunctionOf, ArgumentOf, PartOf, SubjectOf, RightOf, RaiseOf, GuardOf, Item, Plain, Code, Held, data_of}

pub record Store : Type 0 where
  pub items : List Item
  pub input : List ℕ

abbrev pub Goes : Type 0
Goes = Option (Act Focus Item)

abbrev pub facing : Store → Control → Focus
facing m c = record { control = c; input = m.input }

abbrev pub on : Store → Control → Goes
on m c = goes (facing m c)

abbrev pub making_item : Store → Item → (Address → Control) → Goes
making_item m x next = makes (facing m (next (length m.items))) (x ∷ [])

abbrev pub holding : Store → Waits → Option Address → (Option Address → Control) → Goes
holding m w k next = making_item m (Held w k) (λ a. next (Some a))

abbrev pub making_items : Store → List Item → Control → Goes
making_items m xs c = makes (facing m c) xs

-- what the source's definitions see of a store
abbrev pub seen_memory : Store → Memory
seen_memory m = record { store = data_of m.items; input = m.input }

-- data blocks are made as they are
abbrev pub plain_effect : Effect Block → Effect Item
plain_effect (Append bs) = Append (map Plain bs)
plain_effect (Put a b) = Put a (Plain b)

abbrev pub plain_act : Act Focus Block → Act Focus Item
plain_act a = record { next = a.next; told = a.told; effects = map plain_effect a.effects }

abbrev pub plainly : Next → Goes
plainly None = None
plainly (Some a) = Some (plain_act a)

-- the values of a tuple's parts in the order of slots
abbrev pub by_slot : List Part → List Value → List Value
by_slot parts values = map (λ b. b.1) (cut (count_up 0 (length parts)) (zip (map (λ q. q.slot) parts) values))

-- texts and spellings, for the definitions of the source that cite these two alone
abbrev pub as_bare : Lambda → Bare
as_bare l = record {
  nodes = [];
  places = [];
  decs = [];
  shown = [];
  types = [];
  tyvars = [];
  names = l.exns;
  texts = l.texts;
  width = 0;
}

module _ (l : Lambda) where
  abbrev pub env_at : ℕ → Env → Env
  env_at i env = cut (free_at l.terms i) env

  abbrev pub env_at_cases : List Case → Env → Env
  env_at_cases cases env = cut (free_cases (free_at l.terms) cases) env

  abbrev pub env_at_parts : List Part → Env → Env
  env_at_parts parts env = cut (free_parts (free_at l.terms) parts) env

  abbrev pub env_behind : Bind → List Bind → ℕ → Env → Env
  env_behind b later body env = cut (free_behind (free_at l.terms) b later body) env

  abbrev pub eval_under : ℕ → Env → Option Address → Control
  eval_under i env k = Eval i (env_at i env) k

  -- ---- Declarations

  abbrev pub group_names : Address → List RecBinding → Env
  group_names a [] = []
  group_names a (b ∷ bindings) = (b.name.0, At a) ∷ group_names (suc a) bindings

  abbrev pub code_of : Env → Option (ℕ × List Case) → Option Item
  code_of env None = None
  code_of env (Some f) = Some (Code f.0 f.1 (env_at f.0 env))

  abbrev pub codes_of : Env → List RecBinding → Option (List Item)
  codes_of env [] = Some []
  codes_of env (b ∷ bindings) = do
    code ← code_of env (function_at l.terms b.right)
    others ← codes_of env bindings
    Some (code ∷ others)

  abbrev pub declares : Store → List Bind → ℕ → Env → Option Address → Goes
  declares m [] body env k = on m (eval_under body env k)
  declares m (b ∷ later) body env k =
      holding m (RightOf b later body (env_behind b later body env)) k (eval_under b.right env)

  abbrev pub eval_declaration : Store → ℕ → Term → Env → Option Address → Goes
  eval_declaration m body (term.Binds binds) env k = declares m binds body env k
  eval_declaration m body (term.Group bindings) env k =
      let all = group_names (length m.items) bindings ++ env in
      codes_of all bindings >>= (λ codes. making_items m codes (eval_under body all k))
  eval_declaration m body term.Nothing env k = on m (eval_under body env k)
  eval_declaration m body (term.NewExn x) env k =
      making_item m (Plain (ExnName x.0)) (λ a. eval_under body ((x.0, At a) ∷ env) k)
  eval_declaration m body (term.SameExn x c) env k =
      con_value env c >>= (λ v. on m (eval_under body ((x.0, v) ∷ env) k))
  eval_declaration m body _ env k = None

  -- ---- Eval

  abbrev pub eval_parts : Store → List Part → List Value → List Part → Env → Option Address → Goes
  eval_parts m parts before [] env k = making_item m (Plain (Tuple (by_slot parts before))) (λ a. Ret (At a) k)
  eval_parts m parts before (q ∷ later) env k =
      holding m (PartOf q.node parts before later (env_at_parts later env)) k (eval_under q.node env)

  abbrev pub eval_tuple : Store → List Part → Env → Option Address → Goes
  eval_tuple m [] env k = on m (Ret Nothing k)
  eval_tuple m (q ∷ parts) env k = eval_parts m (q ∷ parts) [] (q ∷ parts) env k

  abbrev pub eval_term : Store → ℕ → Term → Env → Option Address → Goes
  eval_term m i (term.Int n) env k = on m (Ret (Number n) k)
  eval_term m i (term.Char c) env k = on m (Ret (Letter c) k)
  eval_term m i (term.Text t) env k = on m (Ret (Constant t) k)
  eval_term m i (term.Var x) env k = look env x.0 >>= (λ v. on m (Ret v k))
  eval_term m i (term.Constructor c) env k = con_value env c >>= (λ v. on m (Ret v k))
  eval_term m i (term.Builtin f) env k = on m (Ret (Builtin f) k)
  eval_term m i (term.Tuple parts) env k = eval_tuple m parts env k
  eval_term m i (term.App f a) env k = holding m (FunctionOf f a (env_at a env)) k (eval_under f env)
  eval_term m i (term.Match e cases) env k = holding m (SubjectOf e cases (env_at_cases cases env)) k (eval_under e env)
  eval_term m i (term.Fn cases) env k = making_item m (Code i cases env) (λ a. Ret (At a) k)
  eval_term m i (term.Raise e) env k = holding m (RaiseOf e) k (eval_under e env)
  eval_term m i (term.Handle e cases) env k = holding m (GuardOf i cases (env_at_cases cases env)) k (eval_under e env)
  eval_term m i (term.Same e) env k = on m (Eval e env k)
  eval_term m i (term.Let d body) env k = slice_get l.terms d >>= (λ dec. eval_declaration m body dec env k)
  eval_term m i term.Finish env k = on m (Ret Nothing k)
  eval_term m i _ env k = None

  -- ---- Ret

  -- the first rule that is chosen, and else the other control
  abbrev pub by_case : Store → List Case → Env → Value → Option Address → Control → Goes
  by_case m cases env v k other =
      or_else (first_case l.texts env (see l.texts (data_of m.items)) cases v) (λ r. on m (eval_under r.1 (r.0 ++ env) k)) (on m other)

  abbrev pub binds_one : Store → Bind → List Bind → ℕ → Env → Value → Option Address → Goes
  binds_one m b later body env v k =
      or_else (chosen l.texts env (see l.texts (data_of m.items)) b.tests b.names v) (λ bound. declares m later body (bound ++ env) k) (on m (raising exn.BindExn k))

  abbrev pub resumes : Store → Waits → Value → Option Address → Goes
  resumes m (FunctionOf f a env) v k = holding m (ArgumentOf a v) k (Eval a env)
  resumes m (ArgumentOf a f) v k = on m (Apply f v k)
  resumes m (PartOf e parts before later env) v k = eval_parts m parts (before ++ v ∷ []) later env k
  resumes m (SubjectOf e cases env) v k = by_case m cases env v k (raising exn.MatchExn k)
  resumes m (RightOf b later body env) v k = binds_one m b later body env v k
  resumes m (RaiseOf e) v k = on m (Raise v k)
  resumes m (GuardOf i cases env) v k = on m (Ret v k)

  abbrev pub returns : Store → Option Item → Value → Goes
  returns m (Some (Held w next)) v = resumes m w v next
  returns m _ v = None

  -- ---- Apply

  abbrev pub enters : Store → Option Item → Value → Value → Option Address → Goes
  enters m (Some (Code i cases env)) f v k = by_case m cases env v k (raising exn.MatchExn k)
  enters m (Some (Plain (ExnName x))) f v k = making_item m (Plain (Packet f v)) (λ a. Ret (At a) k)
  enters m _ f v k = None

  abbrev pub applies : Store → Value → Value → Option Address → Goes
  applies m (At a) v k = enters m (slice_get m.items a) (At a) v k
  applies m (Library e) v k = making_item m (Plain (Packet (Library e) v)) (λ a. Ret (At a) k)
  applies m (Maker n) v k = making_item m (Plain (Applied n v)) (λ a. Ret (At a) k)
  applies m RefMaker v k = making_item m (Plain (Cell v)) (λ a. Ret (At a) k)
  applies m (Builtin f) v k = plainly (builtin l.texts (seen_memory m) k f v)
  applies m _ v k = None

  -- ---- Raise

  abbrev pub uncaught_by : Store → Value → Goes
  uncaught_by m x =
      exn_name (as_bare l) (data_of m.items) (name_of (as_bare l) (data_of m.items) x) >>= (λ name. on m (End (Uncaught name)))

  abbrev pub raises_to : Store → Waits → Option Address → Value → Goes
  raises_to m (GuardOf i cases env) next x = by_case m cases env x next (Raise x next)
  raises_to m w next x = on m (Raise x next)

  abbrev pub raises_on : Store → Option Item → Value → Goes
  raises_on m (Some (Held w next)) x = raises_to m w next x
  raises_on m _ x = None

  -- ---- Eq

  abbrev pub compares : Store → Option Item → Bool → Option Address → Goes
  compares m (Some (Plain b)) t k = plainly (compare (as_bare l) (seen_memory m) (Some b) t k)
  compares m _ t k = None

  -- ---- The step

  abbrev pub step_term : Store → Control → Goes
  step_term m (Eval i env k) = slice_get l.terms i >>= (λ n. eval_term m i n env k)
  step_term m (Ret v None) = on m (End Normal)
  step_term m (Ret v (Some a)) = returns m (slice_get m.items a) v
  step_term m (Apply f v k) = applies m f v k
  step_term m (Raise x None) = uncaught_by m x
  step_term m (Raise x (Some a)) = raises_on m (slice_get m.items a) x
  step_term m (Eq None t k) = on m (Ret (truth t) k)
  step_term m (Eq (Some a) t k) = compares m (slice_get m.items a) t k
  step_term m (End e) = None
