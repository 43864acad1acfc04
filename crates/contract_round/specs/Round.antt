-- Contraction: rounds, each a census and one walk, until nothing is left that can be taken out.
use Rattle.std.specs.Prelude.{ℕ, zero, suc, ◌+◌, Bool, true, false, cond, not, ◌&&◌, ◌||◌, List, [], ◌∷◌, map, Option, Some, None, length, slice_get, nat_eq, nat_lt}
use Rattle.smlc_base.specs.declared.point.Point.{Point}
use Rattle.sml_tree.specs.Sets.{has}
use Rattle.sml_def.specs.Maybe.{◌>>=◌}
use Rattle.cps_ir.specs.declared.atom.Atom.{Atom}
use Rattle.cps_ir.specs.declared.atom.Wanted.{Wanted}
use Rattle.cps_ir.specs.declared.atom.Test.{Test}
use Rattle.cps_ir.specs.declared.atom.Shape.{Shape}
use Rattle.cps_ir.specs.declared.atom.Atom.TheVariants as atom
use Rattle.cps_ir.specs.declared.atom.Shape.TheVariants as form
use Rattle.cps_ir.specs.declared.atom.Wanted.TheVariants as want
use Rattle.cps_ir.specs.Code.{Code, Make, Pick, Prim, Equal, Fix, Call, Match, Handler, SetHandler, Throw, Halt, Functions, NoFunction, Function, Rules, Otherwise, Rule}
use Rattle.cps_ir.specs.State.{bind}
use Rattle.contract_laws.specs.Contract.{Made, nothing, known_as, is_pure, is_constant, says, says_made}
use Rattle.contract_laws.specs.Redex.{uses, uses_functions, uses_others, calls_with, nodes}

-- ---- What is known at a place

-- a function that is put where it is called: its body, from the arguments and the blocks that are known at the call
pub record Inlined : Type 0 where
  pub params : List ℕ
  pub code : List Atom → (ℕ → Option Made) → Code

pub record Known : Type 0 where
  -- what stands in the place of a variable
  pub σ : ℕ → Atom
  -- the tuples and applied constructors that were made in this body
  pub τ : ℕ → Option Made
  -- the functions of this body that are put where they are called
  pub ι : ℕ → Option Inlined

abbrev pub known : (ℕ → Atom) → (ℕ → Option Made) → (ℕ → Option Inlined) → Known
known σ τ ι = record { σ = σ; τ = τ; ι = ι }

abbrev pub outset : Known
outset = known atom.Var nothing nothing

-- x is bound to what it is known to be
abbrev pub binding : Known → ℕ → Option Made → Known
binding K x t = known (bind K.σ x (atom.Var x)) (bind K.τ x t) (bind K.ι x None)

-- an atom stands in the place of x
abbrev pub replacing : Known → ℕ → Atom → Known
replacing K x a = known (bind K.σ x a) K.τ (bind K.ι x None)

abbrev pub as_themselves : (ℕ → Atom) → List ℕ → (ℕ → Atom)
as_themselves σ [] = σ
as_themselves σ (x ∷ xs) = as_themselves (bind σ x (atom.Var x)) xs

-- inside a function that stays nothing is known of blocks and bodies
abbrev pub within : (ℕ → Atom) → List ℕ → Known
within σ params = known (as_themselves σ params) nothing nothing

-- arguments in place of parameters
abbrev pub with_arguments : (ℕ → Atom) → List ℕ → List Atom → (ℕ → Atom)
with_arguments σ [] atoms = σ
with_arguments σ (x ∷ xs) [] = σ
with_arguments σ (x ∷ xs) (a ∷ atoms) = with_arguments (bind σ x a) xs atoms

-- ---- Atoms, and the ways into known blocks

abbrev pub atom_in : (ℕ → Atom) → Atom → Atom
atom_in σ (atom.Var x) = σ x
atom_in σ (atom.Constant k) = atom.Constant k

abbrev pub atoms_in : (ℕ → Atom) → List Atom → List Atom
atoms_in σ atoms = map (atom_in σ) atoms

abbrev pub block_of : (ℕ → Option Made) → Atom → Option Made
block_of τ (atom.Var x) = τ x
block_of τ (atom.Constant k) = None

abbrev pub if_tuple : Shape → Option Atom → Option Atom
if_tuple form.Tuple field = field
if_tuple _ field = None

abbrev pub field_of_tuple : ℕ → Made → Option Atom
field_of_tuple i t = if_tuple t.shape (slice_get t.atoms i)

abbrev pub known_field : (ℕ → Option Made) → Atom → ℕ → Option Atom
known_field τ a i = block_of τ a >>= field_of_tuple i

-- the atom at the end of a way, if all blocks on it are known
abbrev pub at_end : (ℕ → Option Made) → Atom → List ℕ → Option Atom
at_end τ a [] = Some a
at_end τ a (i ∷ path) = block_of τ a >>= (λ t. slice_get t.atoms i >>= (λ b. at_end τ b path))

-- ---- Tests

abbrev pub wanted_in : (ℕ → Atom) → Wanted → Wanted
wanted_in σ (want.Exn a applied) = want.Exn (atom_in σ a) applied
wanted_in σ w = w

abbrev pub test_in : (ℕ → Atom) → Test → Test
test_in σ t = record { path = t.path; want = wanted_in σ t.want }

-- what is left of a test and those behind it, where one that fails leaves nothing
abbrev pub test_left : Option Bool → Test → Option (List Test) → Option (List Test)
test_left (Some false) t rest = None
test_left (Some true) t rest = rest
test_left None t rest = rest >>= (λ tests. Some (t ∷ tests))

module _ (texts : List (List ℕ)) where
  abbrev pub answer : (ℕ → Option Made) → Wanted → Atom → Option Bool
  answer τ w (atom.Var x) = τ x >>= (λ t. says_made w t.shape)
  answer τ w (atom.Constant k) = cond (is_constant w) (says texts w k) None

  -- whether a test is known to hold or to fail
  abbrev pub verdict : (ℕ → Option Made) → Atom → Test → Option Bool
  verdict τ a t = at_end τ a t.path >>= answer τ t.want

  -- the tests whose answer isn't known, or nothing
  abbrev pub tests_left : Known → Atom → List Test → Option (List Test)
  tests_left K a [] = Some []
  tests_left K a (t ∷ tests) = test_left (verdict K.τ a t) (test_in K.σ t) (tests_left K a tests)

-- a rule whose tests are gone is the last, and one with a test that fails goes
abbrev pub rule_left : Option (List Test) → Code → Rules → Rules
rule_left None c rules = rules
rule_left (Some []) c rules = Otherwise c
rule_left (Some (t ∷ tests)) c rules = Rule (t ∷ tests) c rules

-- the last rule alone needs no match
abbrev pub match_left : Atom → Rules → Code
match_left a (Otherwise c) = c
match_left a (Rule tests c rules) = Match a (Rule tests c rules)

-- ---- Functions that are bound together

abbrev pub is_unused : ℕ → Code → Bool
is_unused x c = nat_eq (uses x c) 0

-- exactly these variables, in order
abbrev pub are_vars : List ℕ → List Atom → Bool
are_vars [] [] = true
are_vars (x ∷ xs) (atom.Var y ∷ atoms) = nat_eq x y && are_vars xs atoms
are_vars xs atoms = false

-- the variable that a function calls with exactly its parameters, if it does nothing else
abbrev pub eta_of : ℕ → List ℕ → Code → Option ℕ
eta_of f params (Call (atom.Var x) atoms) = cond (not (nat_eq x f) && (not (has params x) && are_vars params atoms)) (Some x) None
eta_of f params c = None

abbrev pub with_eta : Option ℕ → ℕ → List ℕ → List ℕ
with_eta None f names = names
with_eta (Some x) f names = f ∷ names

-- the parts of the decision about functions that are bound in front of a body
module _ (all : Functions) (c : Code) where
  -- no use but in its own body
  abbrev pub is_dead : ℕ → Bool
  is_dead f = nat_eq (uses_others f all + uses f c) 0

  -- its one use is a call in the body that binds it
  abbrev pub is_once : ℕ → List ℕ → Bool
  is_once f params = nat_eq (uses_functions f all + uses f c) 1 && nat_eq (calls_with f (length params) c) 1

  abbrev pub if_alias : Option ℕ → ℕ → List ℕ → List ℕ → List ℕ
  if_alias None f front behind = behind
  if_alias (Some x) f front behind = cond (is_dead f || (has front x || has behind x)) behind (f ∷ behind)

  -- Those that are replaced by what they call. It is none of `front`, the earlier ones that only call another, and none that is
  -- itself replaced in this round: so of functions that call one another in a ring the last one stays.
  abbrev pub aliases_in : List ℕ → Functions → List ℕ
  aliases_in front NoFunction = []
  aliases_in front (Function f p params b fs) = if_alias (eta_of f params b) f front (aliases_in (with_eta (eta_of f params b) f front) fs)

-- What becomes of a function. Where several apply, the first of these does.
pub data Role : Type 0 where
  Dropped : Role
  Replaced : (x : ℕ) → Role
  Placed : Role
  Stays : Role

abbrev pub role_by : Bool → Bool → Option ℕ → Bool → Role
role_by true replaced target once = Dropped
role_by false true (Some x) once = Replaced x
role_by false true None true = Placed
role_by false true None false = Stays
role_by false false target true = Placed
role_by false false target false = Stays

abbrev pub role_in : Functions → Code → ℕ → List ℕ → Code → Role
role_in all c f params b = role_by (is_dead all c f) (has (aliases_in all c [] all) f) (eta_of f params b) (is_once all c f params)

abbrev pub Roles : Type 0
Roles = ℕ → List ℕ → Code → Role

-- the names of the functions that stay, and then what stands in the place of those that are replaced, in order
abbrev pub staying : Role → ℕ → (ℕ → Atom) → (ℕ → Atom)
staying Stays f σ = bind σ f (atom.Var f)
staying _ f σ = σ

abbrev pub names_stay : Roles → Functions → (ℕ → Atom) → (ℕ → Atom)
names_stay role NoFunction σ = σ
names_stay role (Function f p params b fs) σ = names_stay role fs (staying (role f params b) f σ)

abbrev pub replaced : Role → ℕ → (ℕ → Atom) → (ℕ → Atom)
replaced (Replaced x) f σ = bind σ f (σ x)
replaced _ f σ = σ

abbrev pub names_replaced : Roles → Functions → (ℕ → Atom) → (ℕ → Atom)
names_replaced role NoFunction σ = σ
names_replaced role (Function f p params b fs) σ = names_replaced role fs (replaced (role f params b) f σ)

abbrev pub names_in : Roles → Functions → (ℕ → Atom) → (ℕ → Atom)
names_in role fs σ = names_replaced role fs (names_stay role fs σ)

abbrev pub placed : Role → ℕ → Inlined → (ℕ → Option Inlined) → (ℕ → Option Inlined)
placed Placed f b ι = bind ι f (Some b)
placed _ f b ι = bind ι f None

abbrev pub function_left : Role → ℕ → Point → List ℕ → Code → Functions → Functions
function_left Stays f p params b fs = Function f p params b fs
function_left _ f p params b fs = fs

-- a group of none goes
abbrev pub fix_left : Functions → Code → Code
fix_left NoFunction c = c
fix_left (Function f p params b fs) c = Fix (Function f p params b fs) c

-- ---- Calls

-- the body in place of the call, where there is an argument for each parameter
abbrev pub call_left : Option Inlined → (ℕ → Option Made) → Atom → List Atom → Code
call_left None τ a atoms = Call a atoms
call_left (Some b) τ a atoms = cond (nat_eq (length atoms) (length b.params)) (b.code atoms τ) (Call a atoms)

abbrev pub inlined_of : (ℕ → Option Inlined) → Atom → Option Inlined
inlined_of ι (atom.Var f) = ι f
inlined_of ι (atom.Constant k) = None

-- ---- The walk

abbrev pub pick_left : Option Atom → (Atom → Code) → Code → Code
pick_left None replace stay = stay
pick_left (Some b) replace stay = replace b

module _ (texts : List (List ℕ)) where
  abbrev mutual
    pub walk : Known → Code → Code
    walk K (Make x shape atoms c) =
        cond (is_unused x c) (walk K c) (Make x shape (atoms_in K.σ atoms) (walk (binding K x (known_as shape (atoms_in K.σ atoms))) c))
    walk K (Pick x i a c) =
        cond (is_unused x c) (walk K c)
        (pick_left (known_field K.τ (atom_in K.σ a) i) (λ b. walk (replacing K x b) c) (Pick x i (atom_in K.σ a) (walk (binding K x None) c)))
    walk K (Prim x f atoms c) =
        cond (is_pure f && is_unused x c) (walk K c) (Prim x f (atoms_in K.σ atoms) (walk (binding K x None) c))
    walk K (Equal a b t k) = Equal (atom_in K.σ a) (atom_in K.σ b) t (atom_in K.σ k)
    walk K (Fix fs c) =
        fix_left (functions_walk (role_in fs c) (names_in (role_in fs c) fs K.σ) fs)
        (walk (known (names_in (role_in fs c) fs K.σ) K.τ (bodies_walk (role_in fs c) (names_in (role_in fs c) fs K.σ) fs K.ι)) c)
    walk K (Call a atoms) = call_left (inlined_of K.ι a) K.τ (atom_in K.σ a) (atoms_in K.σ atoms)
    walk K (Match a rules) = match_left (atom_in K.σ a) (rules_walk K (atom_in K.σ a) rules)
    walk K (Handler x c) = Handler x (walk (binding K x None) c)
    walk K (SetHandler a c) = SetHandler (atom_in K.σ a) (walk K c)
    walk K (Throw a) = Throw (atom_in K.σ a)
    walk K Halt = Halt

    -- the functions that stay
    pub functions_walk : Roles → (ℕ → Atom) → Functions → Functions
    functions_walk role σ NoFunction = NoFunction
    functions_walk role σ (Function f p params b fs) =
        function_left (role f params b) f p params (walk (within σ params) b) (functions_walk role σ fs)

    -- those that are put where they are called
    pub bodies_walk : Roles → (ℕ → Atom) → Functions → (ℕ → Option Inlined) → (ℕ → Option Inlined)
    bodies_walk role σ NoFunction ι = ι
    bodies_walk role σ (Function f p params b fs) ι =
        bodies_walk role σ fs (placed (role f params b) f (record { params = params; code = λ atoms τ. walk (known (with_arguments σ params atoms) τ nothing) b }) ι)

    pub rules_walk : Known → Atom → Rules → Rules
    rules_walk K a (Otherwise c) = Otherwise (walk K c)
    rules_walk K a (Rule tests c rules) = rule_left (tests_left texts K a tests) (walk K c) (rules_walk K a rules)

  -- one round
  abbrev pub round : Code → Code
  round c = walk outset c

  -- at most so many rounds, as long as the body gets smaller
  abbrev pub rounds : ℕ → Code → Code
  rounds zero c = c
  rounds (suc n) c = cond (nat_lt (nodes (round c)) (nodes c)) (rounds n (round c)) (round c)

  -- each of them takes a node away, so that there are no more of them than nodes
  abbrev pub contracted : Code → Code
  contracted c = rounds (nodes c) c
