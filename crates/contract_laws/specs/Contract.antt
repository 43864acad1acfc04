-- One round of contraction, as a relation between the argument and the answer.
use Rattle.std.specs.Prelude.{◌≡◌, ◌≢◌, ◌≤◌, ℕ, ℤ, zero, suc, Bool, true, false, cond, List, [], ◌∷◌, ◌++◌, map, Option, Some, None, slice_get, nat_eq}
use Rattle.smlc_base.specs.declared.point.Point.{Point}
use Rattle.smlc_base.specs.declared.primitive.Primitive.{Primitive}
use Rattle.smlc_base.specs.declared.primitive.Primitive.TheVariants as prim
use Rattle.simulation.specs.Blocks.{IsAmong}
use Rattle.prim_meaning.specs.Strict.{met}
use Rattle.sml_def.specs.Builtin.{see, which}
use Rattle.sml_def.specs.State.{Nothing}
use Rattle.smlc_base.specs.declared.match_tests.Tag.{Tag}
use Rattle.cps_ir.specs.declared.atom.Constant.{Constant}
use Rattle.cps_ir.specs.Tests.{is_name, wanted}
use Rattle.smlc_base.specs.Points.{is_label}
use Rattle.simulation.specs.Runs.{times}
use Rattle.cps_ir.specs.declared.atom.Atom.{Atom}
use Rattle.cps_ir.specs.declared.atom.Wanted.{Wanted}
use Rattle.cps_ir.specs.declared.atom.Test.{Test}
use Rattle.cps_ir.specs.declared.atom.Shape.{Shape}
use Rattle.cps_ir.specs.declared.atom.Atom.TheVariants as atom
use Rattle.cps_ir.specs.declared.atom.Shape.TheVariants as form
use Rattle.cps_ir.specs.declared.atom.Wanted.TheVariants as want
use Rattle.cps_ir.specs.Code.{Code, Make, Pick, Prim, Equal, Fix, Call, Match, Handler, SetHandler, Throw, Halt, Functions, NoFunction, Function, Rules, Otherwise, Rule, names_of}
use Rattle.cps_ir.specs.Free.{labels}
use Rattle.cps_ir.specs.State.{bind, value_of}

-- a block that a variable of the answer is bound to in this body, of atoms of the answer
pub record Made : Type 0 where
  pub shape : Shape
  pub atoms : List Atom

-- a function that is put where it is called, with the atoms of the names outside it
pub record Body : Type 0 where
  pub params : List ℕ
  pub code : Code
  pub σ : ℕ → Option Atom

-- what is known at a place
pub record Scope : Type 0 where
  -- the atom of the answer that has the value of a variable of the argument
  pub σ : ℕ → Option Atom
  -- the block that a variable of the answer is
  pub τ : ℕ → Option Made
  -- the function that a variable of the argument is, which the answer doesn't bind
  pub ι : ℕ → Option Body
  -- the variables of the answer
  pub ns : List ℕ

abbrev pub scope : (ℕ → Option Atom) → (ℕ → Option Made) → (ℕ → Option Body) → List ℕ → Scope
scope σ τ ι ns = record { σ = σ; τ = τ; ι = ι; ns = ns }

abbrev pub nothing : {X : Type 0} → ℕ → Option X
nothing x = None

abbrev pub start : Scope
start = scope nothing nothing nothing []

abbrev pub AtomAt : (ℕ → Option Atom) → Atom → Atom → Type 0
AtomAt σ (atom.Var x) a = σ x ≡ Some a
AtomAt σ (atom.Constant k) a = a ≡ atom.Constant k

abbrev pub AtomsAt : (ℕ → Option Atom) → List Atom → List Atom → Type 0
AtomsAt σ [] [] = Unit {0}
AtomsAt σ [] (b ∷ bs) = ⊥
AtomsAt σ (a ∷ us) [] = ⊥
AtomsAt σ (a ∷ us) (b ∷ bs) = AtomAt σ a b × AtomsAt σ us bs

pub data WantedAt (σ : ℕ → Option Atom) : Wanted → Wanted → Type 0 where
  wants_num : (z : ℤ) → WantedAt σ (want.Num z) (want.Num z)
  wants_tag : (t : Tag) → WantedAt σ (want.Tag t) (want.Tag t)
  wants_text : (t : ℕ) → WantedAt σ (want.Text t) (want.Text t)
  wants_exn : (a b : Atom) (applied : Bool) → AtomAt σ a b → WantedAt σ (want.Exn a applied) (want.Exn b applied)

pub record TestAt (σ : ℕ → Option Atom) (t u : Test) : Type 0 where
  pub path : t.path ≡ u.path
  pub wanted : WantedAt σ t.want u.want

abbrev pub Fresh : ℕ → List ℕ → Type 0
Fresh x ns = IsAmong x ns → ⊥

abbrev pub AllFresh : List ℕ → List ℕ → Type 0
AllFresh [] ns = Unit {0}
AllFresh (x ∷ xs) ns = Fresh x ns × AllFresh xs (x ∷ ns)

-- x is bound in both, and what it is known to be
abbrev pub kept : Scope → ℕ → Option Made → Scope
kept S x t = scope (bind S.σ x (Some (atom.Var x))) (bind S.τ x t) (bind S.ι x None) (x ∷ S.ns)

-- x is bound in the argument alone
abbrev pub lost : Scope → ℕ → Option Atom → Option Body → Scope
lost S x a b = scope (bind S.σ x a) S.τ (bind S.ι x b) S.ns

-- tuples and applied constructors alone stay what they are
abbrev pub known_as : Shape → List Atom → Option Made
known_as form.Tuple atoms = Some (record { shape = form.Tuple; atoms = atoms })
known_as (form.Applied n) atoms = Some (record { shape = form.Applied n; atoms = atoms })
known_as _ atoms = None

abbrev pub params_kept : (ℕ → Option Atom) → List ℕ → (ℕ → Option Atom)
params_kept σ [] = σ
params_kept σ (x ∷ xs) = params_kept (bind σ x (Some (atom.Var x))) xs

abbrev pub with_params : List ℕ → List ℕ → List ℕ
with_params [] ns = ns
with_params (x ∷ xs) ns = with_params xs (x ∷ ns)

-- inside a function that is kept nothing is known of blocks and bodies
abbrev pub inner : Scope → List ℕ → Scope
inner S params = scope (params_kept S.σ params) nothing nothing (with_params params S.ns)

-- atoms in place of parameters
abbrev pub given_atoms : (ℕ → Option Atom) → List ℕ → List Atom → (ℕ → Option Atom)
given_atoms σ [] atoms = σ
given_atoms σ (x ∷ xs) [] = σ
given_atoms σ (x ∷ xs) (a ∷ atoms) = given_atoms (bind σ x (Some a)) xs atoms

abbrev pub AsMany : List ℕ → List Atom → Type 0
AsMany [] [] = Unit {0}
AsMany [] (a ∷ atoms) = ⊥
AsMany (x ∷ xs) [] = ⊥
AsMany (x ∷ xs) (a ∷ atoms) = AsMany xs atoms

abbrev pub called : Scope → Body → List Atom → Scope
called S b atoms = scope (given_atoms b.σ b.params atoms) S.τ nothing S.ns

-- neither raises nor acts
abbrev pub is_pure : Primitive → Bool
is_pure prim.Less = true
is_pure prim.Greater = true
is_pure prim.AtMost = true
is_pure prim.AtLeast = true
is_pure prim.Deref = true
is_pure prim.Ord = true
is_pure prim.Concat = true
is_pure prim.Size = true
is_pure prim.Str = true
is_pure prim.Implode = true
is_pure prim.Compare = true
is_pure _ = false

-- ---- What is known of tests

-- the atom of the answer that stands at the end of a way from another
pub data Leads (τ : ℕ → Option Made) : Atom → List ℕ → Atom → Type 0 where
  here : (a : Atom) → Leads τ a [] a
  there : (x i : ℕ) (t : Made) (b c : Atom) (path : List ℕ) → τ x ≡ Some t → slice_get t.atoms i ≡ Some b → Leads τ b path c → Leads τ (atom.Var x) (i ∷ path) c

-- no variable stands in it
abbrev pub is_constant : Wanted → Bool
is_constant (want.Exn (atom.Var x) applied) = false
is_constant _ = true

-- whether a constant is as it is wanted, which no store has a say in
abbrev pub says : List (List ℕ) → Wanted → Constant → Option Bool
says texts w k = met (see texts []) which (is_name []) (wanted texts (λ x. Nothing) w) (value_of k)

-- what a test of a block says
abbrev pub says_made : Wanted → Shape → Option Bool
says_made (want.Tag t) (form.Applied n) = Some (nat_eq t.number n)
says_made _ shape = None

-- whether an atom of the answer is as it is wanted
pub data Says (texts : List (List ℕ)) (τ : ℕ → Option Made) : Atom → Wanted → Bool → Type 0 where
  by_constant : (k : Constant) (w : Wanted) (b : Bool) → is_constant w ≡ true → says texts w k ≡ Some b → Says texts τ (atom.Constant k) w b
  by_block : (x : ℕ) (t : Made) (w : Wanted) (b : Bool) → τ x ≡ Some t → says_made w t.shape ≡ Some b → Says texts τ (atom.Var x) w b

pub data IsKnown (texts : List (List ℕ)) (τ : ℕ → Option Made) (a : Atom) (t : Test) (b : Bool) : Type 0 where
  known : (c : Atom) → Leads τ a t.path c → Says texts τ c t.want b → IsKnown texts τ a t b

-- what is left of the tests of a rule, of which none is known to fail
pub data Left (texts : List (List ℕ)) (σ : ℕ → Option Atom) (τ : ℕ → Option Made) (a : Atom) : List Test → List Test → Type 0 where
  none : Left texts σ τ a [] []
  left : (t u : Test) (ts us : List Test) → TestAt σ t u → Left texts σ τ a ts us → Left texts σ τ a (t ∷ ts) (u ∷ us)
  holds : (t : Test) (ts us : List Test) → IsKnown texts τ a t true → Left texts σ τ a ts us → Left texts σ τ a (t ∷ ts) us

-- one of the tests is known to fail
pub data Fails (texts : List (List ℕ)) (τ : ℕ → Option Made) (a : Atom) : List Test → Type 0 where
  first : (t : Test) (ts : List Test) → IsKnown texts τ a t false → Fails texts τ a (t ∷ ts)
  later : (t : Test) (ts : List Test) → Fails texts τ a ts → Fails texts τ a (t ∷ ts)

-- ---- Functions that are bound together, of which the answer binds some

-- those that only call another, in the scope of the names that both bind
pub data Aliases (L : List Point) : Functions → Scope → Scope → Type 0 where
  no_alias : (S : Scope) → Aliases L NoFunction S S
  next_alias : (S Z : Scope) (f : ℕ) (p : Point) (params : List ℕ) (b : Code) (fs : Functions) → Aliases L fs S Z → Aliases L (Function f p params b fs) S Z
  alias : (S Z : Scope) (f : ℕ) (p : Point) (params : List ℕ) (x : ℕ) (us : List Atom) (fs : Functions) (a : Atom) → is_label L p ≡ false → us ≡ map atom.Var params → (IsAmong x params → ⊥) → AllFresh params [] → S.σ x ≡ Some a → Aliases L fs (lost S f (Some a) None) Z → Aliases L (Function f p params (Call (atom.Var x) us) fs) S Z

-- then those that are put where they are called, whose names outside have these atoms
pub data Bodies (L : List Point) (σ : ℕ → Option Atom) : Functions → Scope → Scope → Type 0 where
  no_body : (S : Scope) → Bodies L σ NoFunction S S
  next_body : (S Z : Scope) (f : ℕ) (p : Point) (params : List ℕ) (b : Code) (fs : Functions) → Bodies L σ fs S Z → Bodies L σ (Function f p params b fs) S Z
  put_body : (S Z : Scope) (f : ℕ) (p : Point) (params : List ℕ) (b : Code) (fs : Functions) → is_label L p ≡ false → Bodies L σ fs (lost S f (S.σ f) (Some (record { params = params; code = b; σ = σ }))) Z → Bodies L σ (Function f p params b fs) S Z

-- ---- The relation

-- The second does what the first does. L are the points of the whole answer, and the number bounds how many steps the first takes
-- alone.
mutual
  pub data Contracts (texts : List (List ℕ)) (L : List Point) : ℕ → Scope → Code → Code → Type 0 where
    make : (w : ℕ) (S : Scope) (x : ℕ) (shape : Shape) (us bs : List Atom) (c d : Code) → AtomsAt S.σ us bs → Fresh x S.ns → Contracts texts L w (kept S x (known_as shape bs)) c d → Contracts texts L (suc w) S (Make x shape us c) (Make x shape bs d)
    pick : (w : ℕ) (S : Scope) (x i : ℕ) (a b : Atom) (c d : Code) → AtomAt S.σ a b → Fresh x S.ns → Contracts texts L w (kept S x None) c d → Contracts texts L (suc w) S (Pick x i a c) (Pick x i b d)
    does : (w : ℕ) (S : Scope) (x : ℕ) (f : Primitive) (us bs : List Atom) (c d : Code) → AtomsAt S.σ us bs → Fresh x S.ns → Contracts texts L w (kept S x None) c d → Contracts texts L (suc w) S (Prim x f us c) (Prim x f bs d)
    equal : (w : ℕ) (S : Scope) (a a' b b' k k' : Atom) (t : Bool) → AtomAt S.σ a a' → AtomAt S.σ b b' → AtomAt S.σ k k' → Contracts texts L w S (Equal a b t k) (Equal a' b' t k')
    call : (w : ℕ) (S : Scope) (a b : Atom) (us bs : List Atom) → AtomAt S.σ a b → AtomsAt S.σ us bs → Contracts texts L w S (Call a us) (Call b bs)
    match : (w : ℕ) (S : Scope) (a b : Atom) (rs ss : Rules) → AtomAt S.σ a b → RulesContract texts L w S b rs ss → Contracts texts L (suc w) S (Match a rs) (Match b ss)
    handler : (w : ℕ) (S : Scope) (x : ℕ) (c d : Code) → Fresh x S.ns → Contracts texts L w (kept S x None) c d → Contracts texts L (suc w) S (Handler x c) (Handler x d)
    set_handler : (w : ℕ) (S : Scope) (a b : Atom) (c d : Code) → AtomAt S.σ a b → Contracts texts L w S c d → Contracts texts L (suc w) S (SetHandler a c) (SetHandler b d)
    throw : (w : ℕ) (S : Scope) (a b : Atom) → AtomAt S.σ a b → Contracts texts L w S (Throw a) (Throw b)
    halt : (w : ℕ) (S : Scope) → Contracts texts L w S Halt Halt
    -- redex 1: no use of x is left
    no_make : (w : ℕ) (S : Scope) (x : ℕ) (shape : Shape) (us : List Atom) (c d : Code) → Contracts texts L w (lost S x None None) c d → Contracts texts L (suc w) S (Make x shape us c) d
    no_pick : (w : ℕ) (S : Scope) (x i : ℕ) (a : Atom) (c d : Code) → Contracts texts L w (lost S x None None) c d → Contracts texts L (suc w) S (Pick x i a c) d
    no_prim : (w : ℕ) (S : Scope) (x : ℕ) (f : Primitive) (us : List Atom) (c d : Code) → is_pure f ≡ true → Contracts texts L w (lost S x None None) c d → Contracts texts L (suc w) S (Prim x f us c) d
    -- redex 2: the body in place of the call
    inline : (w : ℕ) (S : Scope) (f : ℕ) (b : Body) (us bs : List Atom) (d : Code) → S.ι f ≡ Some b → AtomsAt S.σ us bs → AsMany b.params bs → Contracts texts L w (called S b bs) b.code d → Contracts texts L (suc (suc w)) S (Call (atom.Var f) us) d
    -- redex 3
    known_pick : (w : ℕ) (S : Scope) (x i z : ℕ) (a b : Atom) (t : Made) (c d : Code) → AtomAt S.σ a (atom.Var z) → S.τ z ≡ Some t → slice_get t.atoms i ≡ Some b → Contracts texts L w (lost S x (Some b) None) c d → Contracts texts L (suc w) S (Pick x i a c) d
    -- redex 4
    chosen : (w : ℕ) (S : Scope) (a b : Atom) (rs : Rules) (d : Code) → AtomAt S.σ a b → RulesContract texts L w S b rs (Otherwise d) → Contracts texts L (suc w) S (Match a rs) d
    -- functions, and among them redexes 1, 2 and 5: the answer binds some, or none
    group : (w : ℕ) (S U Y Z : Scope) (fs gs : Functions) (c d : Code) → AllFresh (names_of fs) [] → SomeContract texts L Z S fs gs U → Aliases L fs U Y → Bodies L Y.σ fs Y Z → Contracts texts L w Z c d → Contracts texts L (suc w) S (Fix fs c) (Fix gs d)
    group_gone : (w : ℕ) (S U Y Z : Scope) (fs : Functions) (c d : Code) → AllFresh (names_of fs) [] → SomeContract texts L Z S fs NoFunction U → Aliases L fs U Y → Bodies L Y.σ fs Y Z → Contracts texts L w Z c d → Contracts texts L (suc w) S (Fix fs c) d

  -- Some of the functions, with bodies in the scope Z. From S on the names that the answer binds too, and no others, make U.
  pub data SomeContract (texts : List (List ℕ)) (L : List Point) : Scope → Scope → Functions → Functions → Scope → Type 0 where
    some_none : (Z S : Scope) → SomeContract texts L Z S NoFunction NoFunction S
    some_both : (w : ℕ) (Z S U : Scope) (f : ℕ) (p : Point) (params : List ℕ) (b d : Code) (fs gs : Functions) → Fresh f S.ns → AllFresh params Z.ns → Contracts texts L w (inner Z params) b d → SomeContract texts L Z (kept S f None) fs gs U → SomeContract texts L Z S (Function f p params b fs) (Function f p params d gs) U
    some_skip : (Z S U : Scope) (f : ℕ) (p : Point) (params : List ℕ) (b : Code) (fs gs : Functions) → SomeContract texts L Z (lost S f None None) fs gs U → SomeContract texts L Z S (Function f p params b fs) gs U

  -- the rules of a match of this atom of the answer
  pub data RulesContract (texts : List (List ℕ)) (L : List Point) : ℕ → Scope → Atom → Rules → Rules → Type 0 where
    otherwise : (w : ℕ) (S : Scope) (a : Atom) (c d : Code) → Contracts texts L w S c d → RulesContract texts L w S a (Otherwise c) (Otherwise d)
    rule : (w : ℕ) (S : Scope) (a : Atom) (ts us : List Test) (c d : Code) (rs ss : Rules) → Left texts S.σ S.τ a ts us → Contracts texts L w S c d → RulesContract texts L w S a rs ss → RulesContract texts L w S a (Rule ts c rs) (Rule us d ss)
    last : (w : ℕ) (S : Scope) (a : Atom) (ts : List Test) (c d : Code) (rs : Rules) → Left texts S.σ S.τ a ts [] → Contracts texts L w S c d → RulesContract texts L w S a (Rule ts c rs) (Otherwise d)
    drop : (w : ℕ) (S : Scope) (a : Atom) (ts : List Test) (c : Code) (rs ss : Rules) → Fails texts S.τ a ts → RulesContract texts L w S a rs ss → RulesContract texts L w S a (Rule ts c rs) ss

-- ---- Rounds

-- What `contract` does: one round after another, each from nothing known. No point stands more often in an answer.
pub data Rounds (texts : List (List ℕ)) : Code → Code → Type 0 where
  done : (c : Code) → Rounds texts c c
  round : (w : ℕ) (c d e : Code) → Contracts texts (labels d) w start c d → ((p : Point) → times p (labels d) ≤ times p (labels c)) → Rounds texts d e → Rounds texts c e
