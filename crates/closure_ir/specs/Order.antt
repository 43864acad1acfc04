-- Class records in order: each is made in one step with a closure that names it.
use Rattle.std.specs.Prelude.{◌≡◌, ℕ, ◌<◌, List, Some, slice_get}
use Rattle.smlc_base.specs.declared.point.Point.{Point}
use Rattle.simulation.specs.Blocks.{IsAmong}
use Rattle.closure_ir.specs.declared.operand.Shape.TheVariants as shape
use Rattle.closure_ir.specs.declared.operand.Operand.TheVariants as operand
use Rattle.closure_ir.specs.declared.body.Maker.{Maker}
use Rattle.closure_ir.specs.Code.{Code, Make, Let, Prim, Handler, SetHandler, When, Routine, Tree}

-- a closure of a point, made behind block i of the group, that names it
pub record IsNamedBehind (points : List Point) (makers : List Maker) (i : ℕ) : Type 0 where
  pub place : ℕ
  pub behind : i < place
  pub maker : Maker
  pub stands : slice_get makers place ≡ Some maker
  pub label : ℕ
  pub closure : maker.shape ≡ shape.Closure (record { 0 = label })
  pub point : Point
  pub labelled : slice_get points label ≡ Some point
  pub names : IsAmong (operand.New i) maker.fields

-- each class record of a group is named by a closure behind it
abbrev pub NamesRecords : List Point → List Maker → Type 0
NamesRecords points makers = (i k : ℕ) (m : Maker) → slice_get makers i ≡ Some m → m.shape ≡ shape.ClassRecord k → IsNamedBehind points makers i

abbrev pub IsOrderlyCode : List Point → Code → Type 0
IsOrderlyCode points (Make makers c) = NamesRecords points makers × IsOrderlyCode points c
IsOrderlyCode points (Let x o c) = IsOrderlyCode points c
IsOrderlyCode points (Prim x f os c) = IsOrderlyCode points c
IsOrderlyCode points (Handler x c) = IsOrderlyCode points c
IsOrderlyCode points (SetHandler o c) = IsOrderlyCode points c
IsOrderlyCode points (When o tests same other) = IsOrderlyCode points same × IsOrderlyCode points other
IsOrderlyCode points _ = Unit {0}

pub record IsOrderly (p : Tree) : Type 0 where
  pub main : IsOrderlyCode p.points p.main
  pub functions : (l : ℕ) (f : Routine) → slice_get p.functions l ≡ Some f → IsOrderlyCode p.points f.code
