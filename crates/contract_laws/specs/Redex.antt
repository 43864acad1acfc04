-- What a program without a redex is, and how many nodes a program has.
use Rattle.std.specs.Prelude.{◌≡◌, ◌≢◌, ℕ, zero, suc, ◌+◌, Bool, true, false, cond, List, [], ◌∷◌, map, length, slice_get, ◌&&◌, Option, Some, None, nat_eq}
use Rattle.smlc_base.specs.declared.point.Point.{Point}
use Rattle.simulation.specs.Blocks.{IsAmong}
use Rattle.cps_ir.specs.declared.atom.Atom.{Atom}
use Rattle.cps_ir.specs.declared.atom.Wanted.{Wanted}
use Rattle.cps_ir.specs.declared.atom.Test.{Test}
use Rattle.cps_ir.specs.declared.atom.Shape.{Shape}
use Rattle.cps_ir.specs.declared.atom.Atom.TheVariants as atom
use Rattle.cps_ir.specs.declared.atom.Shape.TheVariants as form
use Rattle.cps_ir.specs.declared.atom.Wanted.TheVariants as want
use Rattle.cps_ir.specs.Code.{Code, Make, Pick, Prim, Equal, Fix, Call, Match, Handler, SetHandler, Throw, Halt, Functions, NoFunction, Function, Rules, Otherwise, Rule}
use Rattle.cps_ir.specs.State.{bind}
use Rattle.contract_laws.specs.Contract.{Made, nothing, known_as, is_pure, IsKnown}

-- ---- Uses of a variable

abbrev pub uses_atom : ℕ → Atom → ℕ
uses_atom x (atom.Var y) = cond (nat_eq x y) 1 0
uses_atom x (atom.Constant v) = 0

abbrev pub uses_atoms : ℕ → List Atom → ℕ
uses_atoms x [] = 0
uses_atoms x (a ∷ atoms) = uses_atom x a + uses_atoms x atoms

abbrev pub uses_wanted : ℕ → Wanted → ℕ
uses_wanted x (want.Exn a applied) = uses_atom x a
uses_wanted x _ = 0

abbrev pub uses_tests : ℕ → List Test → ℕ
uses_tests x [] = 0
uses_tests x (t ∷ tests) = uses_wanted x t.want + uses_tests x tests

abbrev mutual
  -- everywhere in a body
  pub uses : ℕ → Code → ℕ
  uses x (Make y shape atoms c) = uses_atoms x atoms + uses x c
  uses x (Pick y i a c) = uses_atom x a + uses x c
  uses x (Prim y f atoms c) = uses_atoms x atoms + uses x c
  uses x (Equal a b t k) = uses_atoms x (a ∷ b ∷ k ∷ [])
  uses x (Fix fs c) = uses_functions x fs + uses x c
  uses x (Call a atoms) = uses_atoms x (a ∷ atoms)
  uses x (Match a rules) = uses_atom x a + uses_rules x rules
  uses x (Handler y c) = uses x c
  uses x (SetHandler a c) = uses_atom x a + uses x c
  uses x (Throw a) = uses_atom x a
  uses x Halt = 0

  pub uses_functions : ℕ → Functions → ℕ
  uses_functions x NoFunction = 0
  uses_functions x (Function f p params body fs) = uses x body + uses_functions x fs

  pub uses_rules : ℕ → Rules → ℕ
  uses_rules x (Otherwise c) = uses x c
  uses_rules x (Rule tests c rules) = uses_tests x tests + (uses x c + uses_rules x rules)

-- in the functions but x's own body
abbrev pub uses_others : ℕ → Functions → ℕ
uses_others x NoFunction = 0
uses_others x (Function f p params body fs) = cond (nat_eq x f) 0 (uses x body) + uses_others x fs

abbrev pub called_once : ℕ → Atom → ℕ
called_once f a = uses_atom f a

abbrev mutual
  -- calls of f in a body, without the functions bound in it
  pub calls : ℕ → Code → ℕ
  calls f (Make y shape atoms c) = calls f c
  calls f (Pick y i a c) = calls f c
  calls f (Prim y g atoms c) = calls f c
  calls f (Equal a b t k) = 0
  calls f (Fix fs c) = calls f c
  calls f (Call a atoms) = called_once f a
  calls f (Match a rules) = calls_rules f rules
  calls f (Handler y c) = calls f c
  calls f (SetHandler a c) = calls f c
  calls f (Throw a) = 0
  calls f Halt = 0

  pub calls_rules : ℕ → Rules → ℕ
  calls_rules f (Otherwise c) = calls f c
  calls_rules f (Rule tests c rules) = calls f c + calls_rules f rules

-- whether a call has n arguments, and is of f
abbrev pub applied_to : ℕ → ℕ → Atom → List Atom → ℕ
applied_to f n (atom.Var x) atoms = cond (nat_eq f x && nat_eq (length atoms) n) 1 0
applied_to f n (atom.Constant k) atoms = 0

abbrev mutual
  -- calls of f with n arguments in a body, without the functions bound in it
  pub calls_with : ℕ → ℕ → Code → ℕ
  calls_with f n (Make y shape atoms c) = calls_with f n c
  calls_with f n (Pick y i a c) = calls_with f n c
  calls_with f n (Prim y g atoms c) = calls_with f n c
  calls_with f n (Equal a b t k) = 0
  calls_with f n (Fix fs c) = calls_with f n c
  calls_with f n (Call a atoms) = applied_to f n a atoms
  calls_with f n (Match a rules) = calls_with_in f n rules
  calls_with f n (Handler y c) = calls_with f n c
  calls_with f n (SetHandler a c) = calls_with f n c
  calls_with f n (Throw a) = 0
  calls_with f n Halt = 0

  pub calls_with_in : ℕ → ℕ → Rules → ℕ
  calls_with_in f n (Otherwise c) = calls_with f n c
  calls_with_in f n (Rule tests c rules) = calls_with f n c + calls_with_in f n rules

-- ---- Redexes. A call with another number of arguments and a field that a tuple doesn't have are none: they have no step.

-- the body calls another bound atom with exactly the parameters
abbrev pub IsEta : ℕ → List ℕ → Code → Type 0
IsEta f params body = (x : ℕ) × (body ≡ Call (atom.Var x) (map atom.Var params)) × (x ≢ f) × (IsAmong x params → ⊥)

abbrev pub NoneKnown : List (List ℕ) → (ℕ → Option Made) → Atom → List Test → Type 0
NoneKnown texts τ a tests = (t : Test) (b : Bool) → IsAmong t tests → IsKnown texts τ a t b → ⊥

-- the atom is no known tuple that has this field
abbrev pub NoField : (ℕ → Option Made) → Atom → ℕ → Type 0
NoField τ a i = (z : ℕ) (t : Made) (b : Atom) → a ≡ atom.Var z → τ z ≡ Some t → t.shape ≡ form.Tuple → slice_get t.atoms i ≡ Some b → ⊥

-- of one function of a group, in front of a body
pub record NoRedexOf (f : ℕ) (params : List ℕ) (body : Code) (all : Functions) (c : Code) : Type 0 where
  pub used : uses_others f all + uses f c ≢ 0
  pub not_once : uses_functions f all + uses f c ≡ 1 → calls_with f (length params) c ≢ 1
  pub not_eta : IsEta f params body → ⊥

module _ (texts : List (List ℕ)) where
  abbrev mutual
    -- τ are the blocks that this body made
    pub NoRedex : (ℕ → Option Made) → Code → Type 0
    NoRedex τ (Make x shape atoms c) = (uses x c ≢ 0) × NoRedex (bind τ x (known_as shape atoms)) c
    NoRedex τ (Pick x i a c) = (uses x c ≢ 0) × NoField τ a i × NoRedex (bind τ x None) c
    NoRedex τ (Prim x f atoms c) = (is_pure f ≡ true → uses x c ≢ 0) × NoRedex (bind τ x None) c
    NoRedex τ (Equal a b t k) = Unit {0}
    NoRedex τ (Fix fs c) = NoRedexes fs c fs × NoRedex τ c
    NoRedex τ (Call a atoms) = Unit {0}
    NoRedex τ (Match a rules) = NoRedexRules τ a rules
    NoRedex τ (Handler x c) = NoRedex (bind τ x None) c
    NoRedex τ (SetHandler a c) = NoRedex τ c
    NoRedex τ (Throw a) = Unit {0}
    NoRedex τ Halt = Unit {0}

    pub NoRedexes : Functions → Code → Functions → Type 0
    NoRedexes all c NoFunction = Unit {0}
    NoRedexes all c (Function f p params body fs) = NoRedexOf f params body all c × NoRedex nothing body × NoRedexes all c fs

    pub NoRedexRules : (ℕ → Option Made) → Atom → Rules → Type 0
    NoRedexRules τ a (Otherwise c) = NoRedex τ c
    NoRedexRules τ a (Rule tests c rules) = NoneKnown texts τ a tests × NoRedex τ c × NoRedexRules τ a rules

  abbrev pub HasNoRedex : Code → Type 0
  HasNoRedex c = NoRedex nothing c

-- ---- The measure of rounds: bindings, calls' arguments, tests and bodies. Each redex takes one away.

abbrev pub count_tests : List Test → ℕ
count_tests [] = 0
count_tests (t ∷ tests) = suc (count_tests tests)

abbrev mutual
  pub nodes : Code → ℕ
  nodes (Make x shape atoms c) = suc (nodes c)
  nodes (Pick x i a c) = suc (nodes c)
  nodes (Prim x f atoms c) = suc (nodes c)
  nodes (Equal a b t k) = 1
  nodes (Fix fs c) = suc (nodes_functions fs + nodes c)
  nodes (Call a atoms) = 1
  nodes (Match a rules) = suc (nodes_rules rules)
  nodes (Handler x c) = suc (nodes c)
  nodes (SetHandler a c) = suc (nodes c)
  nodes (Throw a) = 1
  nodes Halt = 1

  pub nodes_functions : Functions → ℕ
  nodes_functions NoFunction = 0
  nodes_functions (Function f p params body fs) = suc (nodes body) + nodes_functions fs

  pub nodes_rules : Rules → ℕ
  nodes_rules (Otherwise c) = nodes c
  nodes_rules (Rule tests c rules) = suc (count_tests tests) + (nodes c + nodes_rules rules)
