-- The conversion. The continuation of a frame's part is a function of its own where `own` says so, bound where the frame would be pushed; or what the
-- frame does is written into the text of the part. Variables are numbers, given in order: a term and what is done with its value have those from n on.
use Rattle.std.specs.Prelude.{ℕ, zero, suc, ◌+◌, Bool, true, false, cond, List, [], ◌∷◌, ◌++◌, Option, Some, None, length, map, filter_map, nat_eq, slice_get}
use Rattle.smlc_base.specs.declared.exception.LibraryExn.{LibraryExn}
use Rattle.smlc_base.specs.declared.exception.LibraryExn.TheVariants as exn
use Rattle.smlc_base.specs.declared.match_tests.Want.{Want}
use Rattle.smlc_base.specs.declared.match_tests.Want.TheVariants as want
use Rattle.smlc_base.specs.declared.match_tests.Test.{Test as LambdaTest}
use Rattle.smlc_base.specs.declared.match_tests.Named.{Named}
use Rattle.smlc_base.specs.declared.point.PointKind.TheVariants as kind
use Rattle.smlc_base.specs.declared.primitive.Primitive.{Primitive}
use Rattle.smlc_base.specs.declared.primitive.Primitive.TheVariants as prim
use Rattle.sml_tree.specs.Points.{point}
use Rattle.sml_tree.specs.declared.bare.Con.{Con}
use Rattle.sml_tree.specs.declared.bare.Con.TheVariants as con
use Rattle.sml_tree.specs.declared.bare.RecBinding.{RecBinding}
use Rattle.prim_meaning.specs.Meaning.{takes_one}
use Rattle.sml_def.specs.Step.{count_up}
use Rattle.lambda_ir.specs.declared.term.Bind.{Bind}
use Rattle.lambda_ir.specs.declared.term.Case.{Case}
use Rattle.lambda_ir.specs.declared.term.Part.{Part}
use Rattle.lambda_ir.specs.declared.term.Term.{Term}
use Rattle.lambda_ir.specs.declared.term.Term.TheVariants as term
use Rattle.lambda_ir.specs.Free.{from_terms, within_terms, function_at}
use Rattle.cps_ir.specs.declared.atom.Atom.{Atom}
use Rattle.cps_ir.specs.declared.atom.Atom.TheVariants as atom
use Rattle.cps_ir.specs.declared.atom.Constant.{Constant}
use Rattle.cps_ir.specs.declared.atom.Constant.TheVariants as constant
use Rattle.cps_ir.specs.declared.atom.Shape.{Shape}
use Rattle.cps_ir.specs.declared.atom.Shape.TheVariants as shape
use Rattle.cps_ir.specs.declared.atom.Test.{Test}
use Rattle.cps_ir.specs.declared.atom.Wanted.{Wanted}
use Rattle.cps_ir.specs.declared.atom.Wanted.TheVariants as wanted
use Rattle.cps_ir.specs.Code.{Code, Make, Pick, Prim, Equal, Fix, Call, Match, Handler, SetHandler, Throw, Halt, Functions, NoFunction, Function, Rules, Otherwise, Rule}
use Rattle.cps_ir.specs.State.{bind}
use Rattle.convert_laws.specs.declared.head.Head.{Head}
use Rattle.convert_laws.specs.declared.head.Head.TheVariants as head
use Rattle.convert_laws.specs.Needs.{head_at}

-- ---- Atoms

abbrev pub variable : ℕ → Atom
variable x = atom.Var x

abbrev pub known : Constant → Atom
known k = atom.Constant k

-- the atoms of the names of the source that are in scope
abbrev pub Scope : Type 0
Scope = ℕ → Atom

abbrev pub nowhere : Scope
nowhere x = known constant.Nothing

-- a constructor as a value: `ref` and one with an argument stand as function parts alone
abbrev pub con_atom : Scope → Con → Atom
con_atom σ (con.Data t number takes) = known (constant.Tag number)
con_atom σ con.Ref = known constant.Nothing
con_atom σ (con.Exn x takes) = σ x.0
con_atom σ (con.Library e) = known (constant.Library e)

-- a primitive as a value: all others stand as function parts alone
abbrev pub builtin_atom : Primitive → Atom
builtin_atom prim.StdIn = known constant.StdIn
builtin_atom f = known constant.Nothing

-- ---- Continuations

-- what is done with a value: a function is called, or text goes on, from a next variable on
pub data Kon : Type 0 where
  Known : (a : Atom) → Kon
  Text : (g : Atom → ℕ → Code) → Kon

abbrev pub apply : Kon → Atom → ℕ → Code
apply (Known k) a n = Call k (a ∷ [])
apply (Text g) a n = g a n

-- where an atom is needed the frame has a function of its own
abbrev pub atom_of : Kon → Atom
atom_of (Known k) = k
atom_of (Text g) = known constant.Nothing

abbrev pub Conv : Type 0
Conv = Scope → Kon → ℕ → Code

-- a block is made, and is the value
abbrev pub make : Shape → List Atom → Kon → ℕ → Code
make s atoms κ n = Make n s atoms (apply κ (variable n) (suc n))

-- ---- How many variables a term takes at most

-- a way is gone from where it leaves the one before it
abbrev pub new_steps : List ℕ → List ℕ → ℕ
new_steps gone [] = 0
new_steps [] (i ∷ path) = suc (length path)
new_steps (g ∷ gone) (i ∷ path) = cond (nat_eq i g) (new_steps gone path) (suc (length path))

abbrev pub steps_from : List ℕ → List Named → ℕ
steps_from gone [] = 0
steps_from gone (x ∷ names) = new_steps gone x.path + steps_from x.path names

abbrev pub steps_of : List Named → ℕ
steps_of names = steps_from [] names

abbrev pub size_cases : (ℕ → ℕ) → List Case → ℕ
size_cases size [] = 0
size_cases size (c ∷ cases) = steps_of c.names + (size c.body + size_cases size cases)

abbrev pub size_parts : (ℕ → ℕ) → List Part → ℕ
size_parts size [] = 0
size_parts size (q ∷ parts) = 2 + (size q.node + size_parts size parts)

abbrev pub size_binds : (ℕ → ℕ) → List Bind → ℕ
size_binds size [] = 0
size_binds size (b ∷ binds) = 2 + (steps_of b.names + (size b.right + size_binds size binds))

abbrev pub size_group : (ℕ → ℕ) → List RecBinding → ℕ
size_group size [] = 0
size_group size (b ∷ bindings) = suc (size b.right + size_group size bindings)

abbrev pub size_term : (ℕ → ℕ) → Term → ℕ
size_term size (term.Tuple parts) = suc (size_parts size parts)
size_term size (term.App f a) = 8 + (size f + size a)
size_term size (term.Match e cases) = 2 + (size e + size_cases size cases)
size_term size (term.Fn cases) = 3 + size_cases size cases
size_term size (term.Raise e) = 2 + size e
size_term size (term.Handle e cases) = 5 + (size e + size_cases size cases)
size_term size (term.Same e) = size e
size_term size (term.Let d body) = size d + size body
size_term size (term.Binds binds) = size_binds size binds
size_term size (term.Group bindings) = size_group size bindings
size_term size (term.NewExn x) = 1
size_term size _ = 0

abbrev pub size_at : List Term → ℕ → ℕ
size_at terms = from_terms 0 (λ size i. size_term size) terms

-- ---- Matches

-- A way into an atom that was gone: the fields in order, each with the atom that stands there. The next way begins with as much of it as both have.
abbrev pub Way : Type 0
Way = List (ℕ × Atom)

-- the atom at the end of a way, and the way that was gone
abbrev pub picks : Way → List ℕ → Atom → (Way → Atom → ℕ → Code) → ℕ → Code
picks gone [] a rest n = rest [] a n
picks [] (i ∷ path) a rest n =
    Pick n i a (picks [] path (variable n) (λ w b m. rest ((i, variable n) ∷ w) b m) (suc n))
picks (g ∷ gone) (i ∷ path) a rest n =
    cond (nat_eq i g.0)
    (picks gone path g.1 (λ w b m. rest (g ∷ w) b m) n)
    (Pick n i a (picks [] path (variable n) (λ w b m. rest ((i, variable n) ∷ w) b m) (suc n)))

-- the names of a rule, each by its way into the subject; of two that are the same the first is seen
abbrev pub bind_each : Way → List Named → Atom → Scope → (Scope → ℕ → Code) → ℕ → Code
bind_each gone [] a σ rest n = rest σ n
bind_each gone (x ∷ names) a σ rest n =
    picks gone x.path a (λ w b m. bind_each w names a σ (λ τ l. rest (bind τ x.name.0 b) l) m) n

abbrev pub bind_names : List Named → Atom → Scope → (Scope → ℕ → Code) → ℕ → Code
bind_names names a σ rest n = bind_each [] names a σ rest n

abbrev pub wanted_of : Scope → Want → Wanted
wanted_of σ (want.Num z) = wanted.Num z
wanted_of σ (want.Tag t) = wanted.Tag t
wanted_of σ (want.Text t) = wanted.Text t
wanted_of σ (want.Exn x applied) = wanted.Exn (σ x.0) applied
wanted_of σ (want.Library e applied) = wanted.Exn (known (constant.Library e)) applied

abbrev pub test_of : Scope → LambdaTest → Test
test_of σ t = record { path = t.path; want = wanted_of σ t.want }

abbrev pub tests_of : Scope → List LambdaTest → List Test
tests_of σ tests = map (test_of σ) tests

-- a rule without tests is the last
abbrev pub rule_of : List Test → Code → Rules → Rules
rule_of [] c rules = Otherwise c
rule_of (t ∷ tests) c rules = Rule (t ∷ tests) c rules

abbrev pub match_of : Atom → Rules → Code
match_of a (Otherwise c) = c
match_of a (Rule tests c rules) = Match a (Rule tests c rules)

abbrev pub raise_exn : LibraryExn → Code
raise_exn e = Throw (known (constant.Library e))

-- ---- Applications

-- with the first fields of a block, from field i on
abbrev pub with_fields : ℕ → ℕ → Atom → (List Atom → ℕ → Code) → ℕ → Code
with_fields zero i a rest n = rest [] n
with_fields (suc k) i a rest n = Pick n i a (with_fields k (suc i) a (λ fields m. rest (variable n ∷ fields) m) (suc n))

-- how many fields a primitive takes of a tuple
abbrev pub fields_taken : Primitive → ℕ
fields_taken prim.Substring = 3
fields_taken _ = 2

-- a comparison calls its continuation
abbrev pub primitive : Primitive → Kon → List Atom → ℕ → Code
primitive prim.Equal κ (a ∷ b ∷ []) n = Equal a b true (atom_of κ)
primitive prim.Unequal κ (a ∷ b ∷ []) n = Equal a b false (atom_of κ)
primitive f κ atoms n = Prim n f atoms (apply κ (variable n) (suc n))

abbrev pub builtin : Primitive → Kon → Atom → ℕ → Code
builtin f κ a n = cond (takes_one f) (primitive f κ (a ∷ []) n) (with_fields (fields_taken f) 0 a (primitive f κ) n)

-- a constructor makes a block of its argument
abbrev pub constructor : Scope → Con → Kon → Atom → ℕ → Code
constructor σ (con.Data t number takes) κ a n = make (shape.Applied number) (a ∷ []) κ n
constructor σ con.Ref κ a n = make shape.Cell (a ∷ []) κ n
constructor σ (con.Exn x takes) κ a n = make shape.Packet (σ x.0 ∷ a ∷ []) κ n
constructor σ (con.Library e) κ a n = make shape.Packet (known (constant.Library e) ∷ a ∷ []) κ n

-- ---- Tuples

-- the item of a slot
abbrev pub item_of : {X : Type 0} → List Part → List X → ℕ → Option X
item_of [] xs s = None
item_of (q ∷ parts) [] s = None
item_of (q ∷ parts) (x ∷ xs) s = cond (nat_eq s q.slot) (Some x) (item_of parts xs s)

-- what parts came to, in the order of their slots
abbrev pub in_slots : {X : Type 0} → List Part → List X → List X
in_slots parts xs = filter_map (item_of parts xs) (count_up 0 (length parts))

-- ---- Terms

module _ (own : ℕ → Bool) (terms : List Term) where
  abbrev pub size : ℕ → ℕ
  size = size_at terms

  -- a part under its frame; `rest` is what is done with its value
  abbrev pub part : (ℕ → Conv) → ℕ → Scope → (Atom → ℕ → Code) → ℕ → Code
  part conv j σ rest n = cond (own j)
      (Fix (Function n (point j kind.Ret) (suc n ∷ []) (rest (variable (suc n)) (2 + n + size j)) NoFunction) (conv j σ (Known (variable n)) (2 + n)))
      (conv j σ (Text rest) n)

  -- the parts of a tuple that are left, and then the tuple
  abbrev pub parts_of : (ℕ → Conv) → List Part → List Atom → List Part → Scope → Kon → ℕ → Code
  parts_of conv all before [] σ κ n = make shape.Tuple (in_slots all before) κ n
  parts_of conv all before (q ∷ later) σ κ n =
      part conv q.node σ (λ a m. parts_of conv all (before ++ a ∷ []) later σ κ m) n

  abbrev pub tuple_of : (ℕ → Conv) → List Part → Scope → Kon → ℕ → Code
  tuple_of conv [] σ κ n = apply κ (known constant.Nothing) n
  tuple_of conv (q ∷ parts) σ κ n = parts_of conv (q ∷ parts) [] (q ∷ parts) σ κ n

  -- rules on an atom, and what is done where none is chosen
  abbrev pub rules_of : (ℕ → Conv) → List Case → Atom → Scope → Kon → Code → ℕ → Rules
  rules_of conv [] a σ κ other n = Otherwise other
  rules_of conv (c ∷ cases) a σ κ other n =
      rule_of (tests_of σ c.tests) (bind_names c.names a σ (λ τ m. conv c.body τ κ m) n) (rules_of conv cases a σ κ other (n + (steps_of c.names + size c.body)))

  abbrev pub match_on : (ℕ → Conv) → List Case → Scope → Kon → Code → Atom → ℕ → Code
  match_on conv cases σ κ other a n = match_of a (rules_of conv cases a σ κ other n)

  -- the function of term i, named f, with its parameter and its continuation
  abbrev pub function_of : (ℕ → Conv) → ℕ → ℕ → List Case → Scope → ℕ → Functions → Functions
  function_of conv f i cases σ n fs =
      Function f (point i kind.Fn) (n ∷ suc n ∷ []) (match_on conv cases σ (Known (variable (suc n))) (raise_exn exn.MatchExn) (variable n) (2 + n)) fs

  abbrev pub applied : (ℕ → Conv) → Head → ℕ → ℕ → Scope → Kon → ℕ → Code
  applied conv head.Computed f a σ κ n =
      part conv f σ (λ u m. part conv a σ (λ b l. Call u (b ∷ atom_of κ ∷ [])) m) n
  applied conv (head.Builtin p) f a σ κ n = part conv a σ (builtin p κ) n
  applied conv (head.Constructor c) f a σ κ n = part conv a σ (constructor σ c κ) n

  -- ---- Declarations

  abbrev pub binds_of : (ℕ → Conv) → List Bind → ℕ → Scope → Kon → ℕ → Code
  binds_of conv [] body σ κ n = conv body σ κ n
  binds_of conv (b ∷ later) body σ κ n =
      part conv b.right σ (λ a m. match_of a (rule_of (tests_of σ b.tests) (bind_names b.names a σ (λ τ l. binds_of conv later body τ κ l) m) (Otherwise (raise_exn exn.BindExn)))) n

  -- the names of a group are variables from n on
  abbrev pub scope_group : List RecBinding → ℕ → Scope → Scope
  scope_group [] n σ = σ
  scope_group (b ∷ bindings) n σ = bind (scope_group bindings (suc n) σ) b.name.0 (variable n)

  abbrev pub group_function : (ℕ → Conv) → Option (ℕ × List Case) → ℕ → Scope → ℕ → Functions → Functions
  group_function conv None f σ n fs = fs
  group_function conv (Some c) f σ n fs = function_of conv f c.0 c.1 σ n fs

  -- the functions, named from f on, with what else they take from n on
  abbrev pub group_of : (ℕ → Conv) → List RecBinding → ℕ → Scope → ℕ → Functions
  group_of conv [] f σ n = NoFunction
  group_of conv (b ∷ bindings) f σ n =
      group_function conv (function_at terms b.right) f σ n (group_of conv bindings (suc f) σ (n + size b.right))

  abbrev pub group_with : (ℕ → Conv) → List RecBinding → Scope → Code → ℕ → Code
  group_with conv bindings τ c n = Fix (group_of conv bindings n τ (n + length bindings)) c

  abbrev pub declared : (ℕ → Conv) → ℕ → ℕ → Option Term → Scope → Kon → ℕ → Code
  declared conv d body (Some (term.Binds binds)) σ κ n = binds_of conv binds body σ κ n
  declared conv d body (Some (term.Group bindings)) σ κ n =
      group_with conv bindings (scope_group bindings n σ) (conv body (scope_group bindings n σ) κ (n + size d)) n
  declared conv d body (Some term.Nothing) σ κ n = conv body σ κ n
  declared conv d body (Some (term.NewExn x)) σ κ n =
      Make n (shape.ExnName x.0) [] (conv body (bind σ x.0 (variable n)) κ (suc n))
  declared conv d body (Some (term.SameExn x c)) σ κ n = conv body (bind σ x.0 (con_atom σ c)) κ n
  declared conv d body _ σ κ n = Halt

  -- ---- Handlers

  -- The old handler is n, the function that catches is n + 1, with the packet n + 3, and the one that a value comes back to is n + 2, with the value
  -- n + 4. Both set the old handler again.
  abbrev pub handled : (ℕ → Conv) → ℕ → ℕ → List Case → Scope → Kon → ℕ → Code
  handled conv i e cases σ κ n =
      Handler n (Fix
      (Function (1 + n) (point i kind.Caught) ((3 + n) ∷ []) (SetHandler (variable n) (match_on conv cases σ κ (Throw (variable (3 + n))) (variable (3 + n)) (5 + n)))
      (Function (2 + n) (point i kind.Popped) ((4 + n) ∷ []) (SetHandler (variable n) (Call (atom_of κ) (variable (4 + n) ∷ []))) NoFunction))
      (SetHandler (variable (1 + n)) (conv e σ (Known (variable (2 + n))) (5 + n + size_cases size cases))))

  -- ---- The whole

  abbrev pub conv_term : (ℕ → Conv) → ℕ → Term → Conv
  conv_term conv i (term.Int z) σ κ n = apply κ (known (constant.Int z)) n
  conv_term conv i (term.Char c) σ κ n = apply κ (known (constant.Char c)) n
  conv_term conv i (term.Text t) σ κ n = apply κ (known (constant.Text t)) n
  conv_term conv i (term.Var x) σ κ n = apply κ (σ x.0) n
  conv_term conv i (term.Constructor c) σ κ n = apply κ (con_atom σ c) n
  conv_term conv i (term.Builtin f) σ κ n = apply κ (builtin_atom f) n
  conv_term conv i (term.Tuple parts) σ κ n = tuple_of conv parts σ κ n
  conv_term conv i (term.App f a) σ κ n = applied conv (head_at terms f) f a σ κ n
  conv_term conv i (term.Match e cases) σ κ n = part conv e σ (match_on conv cases σ κ (raise_exn exn.MatchExn)) n
  conv_term conv i (term.Fn cases) σ κ n =
      Fix (function_of conv n i cases σ (suc n) NoFunction) (apply κ (variable n) (3 + n + size_cases size cases))
  conv_term conv i (term.Raise e) σ κ n = part conv e σ (λ a m. Throw a) n
  conv_term conv i (term.Handle e cases) σ κ n = handled conv i e cases σ κ n
  conv_term conv i (term.Same e) σ κ n = conv e σ κ n
  conv_term conv i (term.Let d body) σ κ n = declared conv d body (slice_get terms d) σ κ n
  conv_term conv i term.Finish σ κ n = apply κ (known constant.Nothing) n
  conv_term conv i _ σ κ n = Halt

  abbrev pub no_conv : Conv
  no_conv σ κ n = Halt

  -- down to k levels
  abbrev pub conv_within : ℕ → ℕ → Conv
  conv_within k = within_terms no_conv conv_term k terms

  -- the whole program: term 0, behind which it ends
  abbrev pub convert : Code
  convert = conv_within (length terms) 0 nowhere (Text (λ a n. Halt)) 0
