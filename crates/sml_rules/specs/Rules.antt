-- Evaluation of expressions and declarations by the rules of 6.7, by derivations of bounded depth.
--
-- Each node of the tree has one rule here. It stands for the rules of the book for its form together with those for the matches, rows and value
-- bindings in it, so their premises are its premises, from left to right. A derivation without premises has depth 1, any other one more than its
-- deepest premise.
use Rattle.std.specs.Prelude.{ℕ, zero, suc, List, [], ◌∷◌, ◌++◌, Option, Some, None, length, filter_map, slice_get}
use Rattle.sml_tree.specs.declared.bare.Bare.{Bare}
use Rattle.sml_tree.specs.declared.bare.Node.{Node}
use Rattle.sml_tree.specs.declared.bare.Node.TheVariants as node
use Rattle.sml_tree.specs.declared.bare.Field.{Field}
use Rattle.sml_tree.specs.declared.bare.Rule.{Rule}
use Rattle.sml_tree.specs.declared.bare.Binding.{Binding}
use Rattle.sml_tree.specs.declared.bare.RecBinding.{RecBinding}
use Rattle.smlc_base.specs.declared.exception.LibraryExn.TheVariants as exn
use Rattle.sml_def.specs.Maybe.{◌>>=◌}
use Rattle.sml_def.specs.State.{Ending, Normal, Uncaught}
use Rattle.smlc_base.specs.Exceptions.{exn_text}
use Rattle.sml_def.specs.Step.{function_at, count_up}
use Rattle.sml_rules.specs.Terms.{Term, Number, Letter, Text, Record, Applied, Builtin, Maker, RefMaker, Library, Name, Packet, Cell, Function, no_terms, in_row, Env, nowhere, bind, look, ◌over◌, rec_env, State, Result, Gives, Raises, Deeper, Stuck, ◌then◌, given}
use Rattle.sml_rules.specs.Patterns.{Fit, Fits, Fails, TooDeep, pat, first_rule, con_value}
use Rattle.sml_rules.specs.Apply.{builtin, raising}

-- values by the slots of their fields
abbrev pub slotted : List Field → List Term → Env
slotted (f ∷ fields) (t ∷ values) = bind f.slot t (slotted fields values)
slotted _ _ = nowhere

-- the values of a record's fields in the order of labels, from those in the written order
abbrev pub by_label : List Field → List Term → List Term
by_label fields values = filter_map (look (slotted fields values)) (count_up 0 (length fields))

-- a new address in the memory (99), and a new exception name (130)
abbrev pub with_cell : Term → State → State
with_cell v s = record { memory = s.memory ++ v ∷ []; names = s.names; input = s.input; output = s.output }

abbrev pub with_name : ℕ → State → State
with_name x s = record { memory = s.memory; names = s.names ++ x ∷ []; input = s.input; output = s.output }

-- how a program ends, or that the bound of depth isn't enough, or that no rule applies
pub data Outcome : Type 0 where
  Ends : Ending → Outcome
  IsDeeper : Outcome
  NoRule : Outcome

module _ (p : Bare) where
  -- the functions of a `val rec` (126), each with its name and its match
  abbrev pub functions : List RecBinding → Option (List (ℕ × List Rule))
  functions [] = Some []
  functions (b ∷ bindings) = do
    f ← function_at p.nodes b.right
    others ← functions bindings
    Some ((b.name.0, f.1) ∷ others)

  -- The rules for derivations of depth d + 1. `pats`, `exp` and `dec` give the premises, by derivations of depth d.
  module _ (pats : Env → List Term → ℕ → Term → Fit Env) (exp : Env → ℕ → State → Result Term) (dec : Env → ℕ → State → Result Env) where
    -- a match on a value (109 to 113), and what is given where it gives FAIL
    abbrev pub by_rule : Fit (Env × ℕ) → Env → Result Term → State → Result Term
    by_rule (Fits r) env other s = exp (r.0 over env) r.1 s
    by_rule Fails env other s = other
    by_rule TooDeep env other s = Deeper s

    abbrev pub match : Env → List Rule → Term → Result Term → State → Result Term
    match env rules v other s = by_rule (first_rule p env s.memory (pats env s.memory) rules v) env other s

    -- expression rows (95), the values of earlier fields first
    abbrev pub row : Env → List Field → List Term → State → Result (List Term)
    row env [] earlier s = Gives earlier s
    row env (f ∷ fields) earlier s = exp env f.node s then (λ v. row env fields (earlier ++ v ∷ []))

    -- application, by what the function is
    abbrev pub apply : Term → Term → State → Result Term
    -- 97
    apply (Maker n) v s = Gives (Applied n v) s
    -- 98
    apply (Library e) v s = Gives (Packet (Library e) v) s
    apply (Name n) v s = Gives (Packet (Name n) v) s
    -- 99
    apply RefMaker v s = Gives (Cell (length s.memory)) (with_cell v s)
    -- 100, 101
    apply (Builtin f) v s = builtin f v s
    -- 102, 103
    apply (Function rules env group) v s = match (rec_env env group over env) rules v (raising exn.MatchExn s) s
    apply _ v s = Stuck s

    -- what a `handle` makes of what its expression gives
    abbrev pub handled : Env → List Rule → Result Term → Result Term
    -- 104
    handled env rules (Gives v s) = Gives v s
    -- 105, 106
    handled env rules (Raises x s) = match env rules x (Raises x s) s
    handled env rules (Deeper s) = Deeper s
    handled env rules (Stuck s) = Stuck s

    -- expressions
    abbrev pub exp_of : Env → Node → State → Result Term
    -- 90
    exp_of env (node.Int n) s = Gives (Number n) s
    exp_of env (node.Char c) s = Gives (Letter c) s
    exp_of env (node.Text t) s = given (slice_get p.texts t) (λ bytes. Gives (Text bytes)) s
    -- 91
    exp_of env (node.Var x) s = given (look env x.0) Gives s
    exp_of env (node.Constructor c) s = given (con_value env c) Gives s
    exp_of env (node.Builtin f) s = Gives (Builtin f) s
    -- 92, 95
    exp_of env (node.Record fields) s = row env fields [] s then (λ values. Gives (Record (in_row (by_label fields values))))
    -- 93
    exp_of env (node.Let d e) s = dec env d s then (λ inner. exp (inner over env) e)
    -- 97 to 103
    exp_of env (node.App f a) s = exp env f s then (λ function t. exp env a t then apply function)
    -- 102, 103, as it stands for the application of a function (Appendix A)
    exp_of env (node.Case e rules) s = exp env e s then (λ v t. match env rules v (raising exn.MatchExn t) t)
    -- 104 to 106
    exp_of env (node.Handle e rules) s = handled env rules (exp env e s)
    -- 107
    exp_of env (node.Raise e) s = exp env e s then (λ x. Raises x)
    -- 108
    exp_of env (node.Fn rules) s = Gives (Function rules env []) s
    -- types are dropped before evaluation (6.1)
    exp_of env (node.Typed e ty) s = exp env e s
    -- the end of the program, which is the body of its last declaration
    exp_of env node.Finish s = Gives (Record no_terms) s
    exp_of env _ s = Stuck s

    -- a value binding, by what its value and its pattern give (124, 125)
    abbrev pub bound_to : Fit Env → State → Result Env
    bound_to (Fits inner) s = Gives inner s
    bound_to Fails s = Raises (Library exn.BindExn) s
    bound_to TooDeep s = Deeper s

    -- value bindings, with the VE of the earlier ones
    abbrev pub bindings_of : Env → Env → List Binding → State → Result Env
    bindings_of env inner [] s = Gives inner s
    bindings_of env inner (b ∷ bindings) s =
        exp env b.right s then (λ v t. bound_to (pats env t.memory b.pat v) t) then (λ bound. bindings_of env (bound over inner) bindings)

    -- declarations
    abbrev pub dec_of : Env → Node → State → Result Env
    -- 114, 124, 125
    dec_of env (node.Val tyvars bindings) s = bindings_of env nowhere bindings s
    -- 114, 126
    dec_of env (node.ValRec tyvars bindings) s = given (functions bindings) (λ group. Gives (rec_env env group)) s
    -- 115, 116, whose type and constructor environments aren't needed here
    dec_of env (node.Type bindings) s = Gives nowhere s
    dec_of env (node.Datatype bindings) s = Gives nowhere s
    -- 119, 130
    dec_of env (node.Exception x ty) s = Gives (bind x.0 (Name (length s.names)) nowhere) (with_name x.0 s)
    -- 119, 131
    dec_of env (node.SameException x c) s = given (con_value env c) (λ v. Gives (bind x.0 v nowhere)) s
    dec_of env _ s = Stuck s

    abbrev pub exp_at : Env → Option Node → State → Result Term
    exp_at env None s = Stuck s
    exp_at env (Some n) s = exp_of env n s

    abbrev pub dec_at : Env → Option Node → State → Result Env
    dec_at env None s = Stuck s
    dec_at env (Some n) s = dec_of env n s

  -- s, E ⊢ node, by derivations of depth d at most: for an expression, and for a declaration
  abbrev pub evaluate : ℕ → (Env → ℕ → State → Result Term) × (Env → ℕ → State → Result Env)
  evaluate zero = ((λ env i s. Deeper s), (λ env i s. Deeper s))
  evaluate (suc d) =
      ((λ env i s. exp_at (λ e m. pat p e m d) (evaluate d).0 (evaluate d).1 env (slice_get p.nodes i) s), (λ env i s. dec_at (λ e m. pat p e m d) (evaluate d).0 (evaluate d).1 env (slice_get p.nodes i) s))

  abbrev pub begin : List ℕ → State
  begin input = record { memory = []; names = []; input = input; output = [] }

  -- the program's evaluation
  abbrev pub result : List ℕ → ℕ → Result Term
  result input d = (evaluate d).0 nowhere 0 (begin input)

  -- the spelling of an exception name at its declaration, and that of the name of a packet
  abbrev pub name_text : State → Term → Option (List ℕ)
  name_text s (Library e) = Some (exn_text e)
  name_text s (Name n) = slice_get s.names n >>= slice_get p.names
  name_text s _ = None

  abbrev pub spelled : State → Term → Option (List ℕ)
  spelled s (Packet x v) = name_text s x
  spelled s x = name_text s x

  abbrev pub uncaught : Option (List ℕ) → Outcome
  uncaught None = NoRule
  uncaught (Some name) = Ends (Uncaught name)

  abbrev pub outcome : Result Term → Outcome
  outcome (Gives v s) = Ends Normal
  outcome (Raises x s) = uncaught (spelled s x)
  outcome (Deeper s) = IsDeeper
  outcome (Stuck s) = NoRule

  abbrev pub output : Result Term → List ℕ
  output (Gives v s) = s.output
  output (Raises x s) = s.output
  output (Deeper s) = s.output
  output (Stuck s) = s.output

  -- how the program ends, by a derivation of depth d at most
  abbrev pub end_within : List ℕ → ℕ → Outcome
  end_within input d = outcome (result input d)

  -- what is written up to there
  abbrev pub output_within : List ℕ → ℕ → List ℕ
  output_within input d = output (result input d)
