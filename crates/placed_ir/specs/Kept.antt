-- What a program keeps.
use Rattle.std.specs.Prelude.{◌≡◌, ℕ, zero, suc, ◌+◌, ◌<◌, ◌≤◌, ◌^◌, List, [], ◌∷◌, ◌++◌, Some, length, map, flat_map, slice_get}
use Rattle.std.specs.List.{AllByRecursion}
use Rattle.smlc_base.specs.declared.point.Label.{Label}
use Rattle.sml_tree.specs.IsBare.{IsDistinct, IsInt}
use Rattle.sml_tree.specs.Order.{AscendFrom}
use Rattle.closure_ir.specs.declared.operand.Static.{Static}
use Rattle.closure_ir.specs.declared.operand.Static.TheVariants as static
use Rattle.closure_ir.specs.declared.operand.Shape.{Shape}
use Rattle.closure_ir.specs.declared.operand.Shape.TheVariants as shape
use Rattle.closure_ir.specs.declared.body.Target.{Target}
use Rattle.closure_ir.specs.declared.body.Target.TheVariants as target
use Rattle.placed_ir.specs.declared.home.Home.{Home}
use Rattle.placed_ir.specs.declared.home.Home.TheVariants as home
use Rattle.placed_ir.specs.declared.home.Source.{Source}
use Rattle.placed_ir.specs.declared.home.Source.TheVariants as source
use Rattle.placed_ir.specs.declared.home.Building.{Building}
use Rattle.placed_ir.specs.declared.test.Wanted.{Wanted}
use Rattle.placed_ir.specs.declared.test.Wanted.TheVariants as want
use Rattle.placed_ir.specs.declared.test.Test.{Test}
use Rattle.placed_ir.specs.declared.body.Step.{Step}
use Rattle.placed_ir.specs.declared.body.Step.TheVariants as step
use Rattle.placed_ir.specs.declared.body.End.{End}
use Rattle.placed_ir.specs.declared.body.End.TheVariants as end
use Rattle.placed_ir.specs.declared.body.Body.{Body}
use Rattle.placed_ir.specs.declared.body.Function.{Function}
use Rattle.placed_ir.specs.Program.{Placed}

-- ---- The numbers of the bodies that stand in another, and of those that functions have

abbrev pub end_parts : End → List ℕ
end_parts (end.Match subject rules otherwise) = map (λ r. r.body) rules ++ otherwise ∷ []
end_parts _ = []

abbrev pub body_parts : Body → List ℕ
body_parts b = end_parts b.end

-- where each body stands: the first by itself, and each other in a function or in another body
abbrev pub places : Placed → List ℕ
places p = 0 ∷ (map (λ f. f.body) p.functions ++ flat_map body_parts p.bodies)

-- ---- What is cited, and ranges

-- the registers of values
abbrev pub registers : ℕ
registers = 20

abbrev pub HomeKept : Home → Type 0
HomeKept (home.Register k) = k < registers
HomeKept (home.Spill i) = Unit {0}

-- the words of a group with the headers
abbrev pub group_words : List Building → ℕ
group_words [] = 0
group_words (b ∷ buildings) = suc (length b.fields) + group_words buildings

module _ (p : Placed) where
  abbrev pub LabelKept : Label → Type 0
  LabelKept l = l.0 < length p.functions

  abbrev pub StaticKept : Static → Type 0
  StaticKept (static.Function l) = LabelKept l
  StaticKept (static.Text t) = t < length p.texts
  StaticKept (static.Library e) = Unit {0}

  -- where so many words are made in one step
  abbrev pub SourceKept : ℕ → Source → Type 0
  SourceKept words (source.Along h steps) = HomeKept h
  SourceKept words (source.Fresh n) = n < words
  SourceKept words (source.Static s) = StaticKept s
  SourceKept words (source.Code l) = LabelKept l
  SourceKept words (source.Literal z) = IsInt z

  -- behind what is made
  abbrev pub Kept : Source → Type 0
  Kept s = SourceKept 0 s

  abbrev pub ShapeKept : Shape → Type 0
  ShapeKept (shape.Applied n) = n < 2 ^ 20
  ShapeKept (shape.ExnName x) = x < length p.exns
  ShapeKept (shape.Closure l) = LabelKept l
  ShapeKept _ = Unit {0}

  abbrev pub BuildingKept : ℕ → Building → Type 0
  BuildingKept words b = ShapeKept b.shape × AllByRecursion (SourceKept words) b.fields

  abbrev pub WantedKept : Wanted → Type 0
  WantedKept (want.Num z) = IsInt z
  WantedKept (want.Tag t) = t.number < 2 ^ 20
  WantedKept (want.Text t) = t < length p.texts
  WantedKept (want.Exn name applied) = Kept name

  abbrev pub TestsKept : List Test → Type 0
  TestsKept tests = AllByRecursion (λ t. WantedKept t.want) tests

  abbrev pub TargetKept : Target → Type 0
  TargetKept (target.Known l) = LabelKept l
  TargetKept target.Through = Unit {0}

  abbrev pub StepKept : Step → Type 0
  StepKept (step.Make buildings) = AllByRecursion (BuildingKept (group_words buildings)) buildings
  StepKept (step.Name h n) = HomeKept h
  StepKept (step.Let h s) = HomeKept h × Kept s
  StepKept (step.Prim f sources) = AllByRecursion Kept sources
  StepKept (step.Take h) = HomeKept h
  StepKept (step.Handler h) = HomeKept h
  StepKept (step.SetHandler s) = Kept s

  abbrev pub EndKept : End → Type 0
  EndKept (end.Equal a b truth k) = AllByRecursion Kept (a ∷ b ∷ k ∷ [])
  EndKept (end.Call t f sources) = TargetKept t × AllByRecursion Kept (f ∷ sources)
  EndKept (end.Match s rules otherwise) = Kept s × AllByRecursion (λ r. TestsKept r.tests) rules
  EndKept (end.Throw s) = Kept s
  EndKept end.Halt = Unit {0}

  abbrev pub BodyKept : Body → Type 0
  BodyKept b = AllByRecursion StepKept b.steps × EndKept b.end

  -- what the record of a body takes, with its header, is within the program's number
  abbrev pub FrameKept : ℕ → Type 0
  FrameKept zero = Unit {0}
  FrameKept (suc n) = suc (suc n) ≤ p.spill

  abbrev pub FunctionKept : Function → Type 0
  FunctionKept f = (f.body < length p.bodies) × FrameKept f.frame

pub record IsProgram (p : Placed) : Type 0 where
  -- a body that stands in another has the greater number, and each body stands in one place
  pub numbered : (i : ℕ) (b : Body) → slice_get p.bodies i ≡ Some b → AllByRecursion (λ c. (i < c) × (c < length p.bodies)) (body_parts b)
  pub apart : IsDistinct (places p)
  pub all : length (places p) ≡ length p.bodies
  -- each label of a function has its point, and at most one label more, of comparisons
  pub points : AscendFrom 0 p.points
  pub fewer : length p.functions ≤ length p.points
  pub one_more : length p.points ≤ suc (length p.functions)
  -- constants in their ranges, registers among the 20, and labels, texts and names that stand there
  pub functions : AllByRecursion (FunctionKept p) p.functions
  pub frame : FrameKept p p.frame
  pub kept : AllByRecursion (BodyKept p) p.bodies
