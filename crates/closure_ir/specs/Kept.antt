-- What a program keeps.
use Rattle.std.specs.Prelude.{◌≡◌, ℕ, suc, ◌<◌, ◌≤◌, ◌^◌, List, [], ◌∷◌, ◌++◌, Some, length, map, flat_map, slice_get}
use Rattle.std.specs.List.{AllByRecursion}
use Rattle.smlc_base.specs.declared.point.Label.{Label}
use Rattle.sml_tree.specs.IsBare.{IsDistinct, IsInt}
use Rattle.sml_tree.specs.Order.{AscendFrom}
use Rattle.closure_ir.specs.declared.operand.Static.{Static}
use Rattle.closure_ir.specs.declared.operand.Static.TheVariants as static
use Rattle.closure_ir.specs.declared.operand.Operand.{Operand}
use Rattle.closure_ir.specs.declared.operand.Operand.TheVariants as operand
use Rattle.closure_ir.specs.declared.operand.Shape.{Shape}
use Rattle.closure_ir.specs.declared.operand.Shape.TheVariants as shape
use Rattle.closure_ir.specs.declared.body.Maker.{Maker}
use Rattle.closure_ir.specs.declared.body.Wanted.{Wanted}
use Rattle.closure_ir.specs.declared.body.Wanted.TheVariants as want
use Rattle.closure_ir.specs.declared.body.Test.{Test}
use Rattle.closure_ir.specs.declared.body.Target.{Target}
use Rattle.closure_ir.specs.declared.body.Target.TheVariants as target
use Rattle.closure_ir.specs.declared.body.Bind.{Bind}
use Rattle.closure_ir.specs.declared.body.Bind.TheVariants as bind
use Rattle.closure_ir.specs.declared.body.End.{End}
use Rattle.closure_ir.specs.declared.body.End.TheVariants as end
use Rattle.closure_ir.specs.declared.body.Body.{Body}
use Rattle.closure_ir.specs.declared.body.Function.{Function}
use Rattle.closure_ir.specs.Program.{Closed}

-- ---- The numbers of the bodies that stand in another, and of those that functions have

abbrev pub end_parts : End → List ℕ
end_parts (end.Match subject rules otherwise) = map (λ r. r.body) rules ++ otherwise ∷ []
end_parts _ = []

abbrev pub body_parts : Body → List ℕ
body_parts b = end_parts b.end

-- where each body stands: the first by itself, and each other in a function or in another body
abbrev pub places : Closed → List ℕ
places p = 0 ∷ (map (λ f. f.body) p.functions ++ flat_map body_parts p.bodies)

-- ---- What is cited, and ranges

module _ (p : Closed) where
  abbrev pub LabelKept : Label → Type 0
  LabelKept l = l.0 < length p.functions

  abbrev pub StaticKept : Static → Type 0
  StaticKept (static.Function l) = LabelKept l
  StaticKept (static.Text t) = t < length p.texts
  StaticKept (static.Library e) = Unit {0}

  -- where so many blocks are made in one step
  abbrev pub OperandKept : ℕ → Operand → Type 0
  OperandKept group (operand.Path x steps) = x < p.variables
  OperandKept group (operand.New k) = k < group
  OperandKept group (operand.Static s) = StaticKept s
  OperandKept group (operand.Code l) = LabelKept l
  OperandKept group (operand.Literal z) = IsInt z

  -- behind what is made
  abbrev pub Kept : Operand → Type 0
  Kept o = OperandKept 0 o

  abbrev pub ShapeKept : Shape → Type 0
  ShapeKept (shape.Applied n) = n < 2 ^ 20
  ShapeKept (shape.ExnName x) = x < length p.exns
  ShapeKept (shape.Closure l) = LabelKept l
  ShapeKept _ = Unit {0}

  abbrev pub MakerKept : ℕ → Maker → Type 0
  MakerKept group m = (m.var < p.variables) × ShapeKept m.shape × AllByRecursion (OperandKept group) m.fields

  abbrev pub WantedKept : Wanted → Type 0
  WantedKept (want.Num z) = IsInt z
  WantedKept (want.Tag t) = t.number < 2 ^ 20
  WantedKept (want.Text t) = t < length p.texts
  WantedKept (want.Exn name applied) = Kept name

  abbrev pub TestsKept : List Test → Type 0
  TestsKept tests = AllByRecursion (λ t. WantedKept t.want) tests

  abbrev pub TargetKept : Target → Type 0
  TargetKept (target.Known l) = LabelKept l
  TargetKept target.Through = Unit {0}

  abbrev pub BindKept : Bind → Type 0
  BindKept (bind.Make makers) = AllByRecursion (MakerKept (length makers)) makers
  BindKept (bind.Let x o) = (x < p.variables) × Kept o
  BindKept (bind.Prim x f os) = (x < p.variables) × AllByRecursion Kept os
  BindKept (bind.Handler x) = x < p.variables
  BindKept (bind.SetHandler o) = Kept o

  abbrev pub EndKept : End → Type 0
  EndKept (end.Equal a b truth k) = AllByRecursion Kept (a ∷ b ∷ k ∷ [])
  EndKept (end.Call t f os) = TargetKept t × AllByRecursion Kept (f ∷ os)
  EndKept (end.Match o rules otherwise) = Kept o × AllByRecursion (λ r. TestsKept r.tests) rules
  EndKept (end.Throw o) = Kept o
  EndKept end.Halt = Unit {0}

  abbrev pub BodyKept : Body → Type 0
  BodyKept b = AllByRecursion BindKept b.binds × EndKept b.end

  abbrev pub FunctionKept : Function → Type 0
  FunctionKept f = (f.body < length p.bodies) × AllByRecursion (λ x. x < p.variables) f.params

pub record IsProgram (p : Closed) : Type 0 where
  -- a body that stands in another has the greater number, and each body stands in one place
  pub numbered : (i : ℕ) (b : Body) → slice_get p.bodies i ≡ Some b → AllByRecursion (λ c. (i < c) × (c < length p.bodies)) (body_parts b)
  pub apart : IsDistinct (places p)
  pub all : length (places p) ≡ length p.bodies
  -- each label of a function has its point, and at most one label more, of comparisons
  pub points : AscendFrom 0 p.points
  pub fewer : length p.functions ≤ length p.points
  pub one_more : length p.points ≤ suc (length p.functions)
  -- constants in their ranges, and labels, texts, names and variables that stand there
  pub functions : AllByRecursion (FunctionKept p) p.functions
  pub kept : AllByRecursion (BodyKept p) p.bodies
