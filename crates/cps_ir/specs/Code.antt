-- The language as a tree: a body is one form inside the other, down to its end.
use Rattle.std.specs.Prelude.{ℕ, Bool, List, [], ◌∷◌}
use Rattle.smlc_base.specs.declared.point.Point.{Point}
use Rattle.smlc_base.specs.declared.point.Site.{Site}
use Rattle.smlc_base.specs.declared.primitive.Primitive.{Primitive}
use Rattle.cps_ir.specs.declared.atom.Atom.{Atom}
use Rattle.cps_ir.specs.declared.atom.Shape.{Shape}
use Rattle.cps_ir.specs.declared.atom.Test.{Test}

mutual
  pub data Code : Type 0 where
    Make : (x : ℕ) (shape : Shape) (atoms : List Atom) (c : Code) → Code
    Pick : (x i : ℕ) (a : Atom) (c : Code) → Code
    Prim : (x : ℕ) (f : Primitive) (atoms : List Atom) (c : Code) → Code
    Equal : (a b : Atom) (truth : Bool) (k : Atom) → Code
    Fix : (fs : Functions) (c : Code) → Code
    Call : (a : Atom) (atoms : List Atom) → Code
    Match : (a : Atom) (rules : Rules) → Code
    Handler : (x : ℕ) (c : Code) → Code
    SetHandler : (a : Atom) (c : Code) → Code
    Throw : (a : Atom) → Code
    Halt : Code

  -- functions that may name one another, each with its point and its parameters
  pub data Functions : Type 0 where
    NoFunction : Functions
    Function : (f : ℕ) (p : Point) (params : List ℕ) (body : Code) (fs : Functions) → Functions

  -- rules with tests, and a last one without
  pub data Rules : Type 0 where
    Otherwise : (c : Code) → Rules
    Rule : (tests : List Test) (c : Code) (rules : Rules) → Rules

-- a program as a tree, with what each pass hands on: the sites of points, the string constants by number, and the spellings of names
pub record Tree : Type 0 where
  pub code : Code
  pub sites : List Site
  pub texts : List (List ℕ)
  pub exns : List (List ℕ)

abbrev pub names_of : Functions → List ℕ
names_of NoFunction = []
names_of (Function f p params body fs) = f ∷ names_of fs
