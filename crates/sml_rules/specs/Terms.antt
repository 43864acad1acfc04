-- Values as terms, environments, and the state that the rules thread through their premises. Sections and rule numbers in this crate are those of
-- The Definition of Standard ML (Revised).
use Rattle.std.specs.Prelude.{ℕ, ℤ, List, [], ◌∷◌, Option, Some, None, cond, nat_eq}
use Rattle.smlc_base.specs.declared.primitive.Primitive.{Primitive}
use Rattle.smlc_base.specs.declared.exception.LibraryExn.{LibraryExn}
use Rattle.sml_tree.specs.declared.bare.Rule.{Rule}

mutual
  -- A value (6.2 and 6.3, Simple and Compound Objects). Only a reference has an address.
  pub data Term : Type 0 where
    -- special constants
    Number : ℤ → Term
    Letter : ℕ → Term
    Text : (bytes : List ℕ) → Term
    -- a record: the values of its fields in the order of labels
    Record : (fields : Terms) → Term
    -- a constructor without argument, and one with its argument
    Tag : (number : ℕ) → Term
    Applied : (number : ℕ) (argument : Term) → Term
    -- a basic value (6.4): a primitive, or the standard input
    Builtin : Primitive → Term
    -- a constructor with argument, and `ref`, as functions
    Maker : (number : ℕ) → Term
    RefMaker : Term
    -- an exception name: one of the library (6.5, Basic Exceptions), or the n-th of the state
    Library : LibraryExn → Term
    Name : (number : ℕ) → Term
    -- an exception value: an exception name with its argument
    Packet : (name argument : Term) → Term
    -- an address: the n-th of the memory
    Cell : (number : ℕ) → Term
    -- (match, E, VE) (6.6, Function Closures). VE is given by its functions: each is its name and its match, and all have the environment E.
    Function : (rules : List Rule) (env : Env) (group : List (ℕ × List Rule)) → Term

  -- a row of values
  pub data Terms : Type 0 where
    no_terms : Terms
    more_terms : Term → Terms → Terms

  -- An environment: the values of variables and of exception constructors, the innermost first. It has all that is in scope. The constructors of
  -- datatypes need no value in it, as the tree has them by their numbers.
  pub data Env : Type 0 where
    nowhere : Env
    bind : ℕ → Term → Env → Env

abbrev pub listed : Terms → List Term
listed no_terms = []
listed (more_terms t ts) = t ∷ listed ts

abbrev pub in_row : List Term → Terms
in_row [] = no_terms
in_row (t ∷ ts) = more_terms t (in_row ts)

-- E(x)
abbrev pub look : Env → ℕ → Option Term
look nowhere x = None
look (bind y t env) x = cond (nat_eq x y) (Some t) (look env x)

-- E + E', with the second in front
infixr 20 ◌over◌
abbrev pub ◌over◌ : Env → Env → Env
nowhere over env = env
(bind x t inner) over env = bind x t (inner over env)

-- Rec VE (6.6): each function of VE is (match, E, VE) once more
abbrev pub unrolled : Env → List (ℕ × List Rule) → List (ℕ × List Rule) → Env
unrolled env group [] = nowhere
unrolled env group (f ∷ functions) = bind f.0 (Function f.1 env group) (unrolled env group functions)

abbrev pub rec_env : Env → List (ℕ × List Rule) → Env
rec_env env group = unrolled env group group

-- The state (6.3): the memory by address, and for each exception name the name at its declaration; beside them the input that is left, and the
-- output so far.
pub record State : Type 0 where
  pub memory : List Term
  pub names : List ℕ
  pub input : List ℕ
  pub output : List ℕ

-- What a phrase gives by derivations of bounded depth: a result, a packet, or that the bound isn't enough; or that no rule applies. The state is that
-- which is reached.
pub data Result (A : Type 0) : Type 0 where
  Gives : A → State → Result A
  Raises : (packet : Term) → State → Result A
  Deeper : State → Result A
  Stuck : State → Result A

-- One premise after another, with the state of the first (6.7, the state convention). A packet ends the whole with that packet (the exception
-- convention), and so does a premise for which the bound isn't enough.
infixl 10 ◌then◌
abbrev pub ◌then◌ : {A B : Type 0} → Result A → (A → State → Result B) → Result B
(Gives a s) then f = f a s
(Raises x s) then f = Raises x s
(Deeper s) then f = Deeper s
(Stuck s) then f = Stuck s

-- what is there, and else no rule applies
abbrev pub given : {A B : Type 0} → Option A → (A → State → Result B) → State → Result B
given None f s = Stuck s
given (Some a) f s = f a s
