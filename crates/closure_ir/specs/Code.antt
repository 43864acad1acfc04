-- The language as a tree: a body is one form inside the other, down to its end.
use Rattle.std.specs.Prelude.{ℕ, Bool, List}
use Rattle.smlc_base.specs.declared.point.Point.{Point}
use Rattle.smlc_base.specs.declared.point.Site.{Site}
use Rattle.smlc_base.specs.declared.primitive.Primitive.{Primitive}
use Rattle.closure_ir.specs.declared.operand.Operand.{Operand}
use Rattle.closure_ir.specs.declared.body.Maker.{Maker}
use Rattle.closure_ir.specs.declared.body.Target.{Target}
use Rattle.closure_ir.specs.declared.body.Test.{Test}

pub data Code : Type 0 where
  Make : (makers : List Maker) (c : Code) → Code
  Let : (x : ℕ) (value : Operand) (c : Code) → Code
  Prim : (x : ℕ) (f : Primitive) (os : List Operand) (c : Code) → Code
  Handler : (x : ℕ) (c : Code) → Code
  SetHandler : (value : Operand) (c : Code) → Code
  -- one rule of a match: the first where all tests hold
  When : (subject : Operand) (tests : List Test) (same other : Code) → Code
  Equal : (a b : Operand) (truth : Bool) (k : Operand) → Code
  Call : (target : Target) (f : Operand) (os : List Operand) → Code
  Throw : (packet : Operand) → Code
  Halt : Code

-- a function: its first parameter is its own closure
pub record Routine : Type 0 where
  pub params : List ℕ
  pub code : Code

-- A program. Label l is the function at place l, and stands for the point there.
pub record Tree : Type 0 where
  pub main : Code
  pub functions : List Routine
  pub points : List Point
  pub sites : List Site
  -- the string constants, and the spellings of exceptions
  pub texts : List (List ℕ)
  pub exns : List (List ℕ)
