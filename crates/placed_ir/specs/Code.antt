-- The language as a tree: a body is one form inside the other, down to its end.
use Rattle.std.specs.Prelude.{ℕ, Bool, List}
use Rattle.smlc_base.specs.declared.point.Point.{Point}
use Rattle.smlc_base.specs.declared.point.Site.{Site}
use Rattle.smlc_base.specs.declared.primitive.Primitive.{Primitive}
use Rattle.closure_ir.specs.declared.body.Target.{Target}
use Rattle.placed_ir.specs.declared.home.Home.{Home}
use Rattle.placed_ir.specs.declared.home.Source.{Source}
use Rattle.placed_ir.specs.declared.home.Building.{Building}
use Rattle.placed_ir.specs.declared.test.Test.{Test}

pub data Code : Type 0 where
  -- makes the body's spill record, of so many words behind the header
  Frame : (words : ℕ) (c : Code) → Code
  -- makes blocks in one step; the base is the address of the first
  Make : (buildings : List Building) (c : Code) → Code
  -- the home gets the address so many words behind the base
  Name : (home : Home) (offset : ℕ) (c : Code) → Code
  Let : (home : Home) (value : Source) (c : Code) → Code
  -- the scratch register gets a primitive's result, or it raises
  Prim : (f : Primitive) (sources : List Source) (c : Code) → Code
  -- the home gets what the scratch register has
  Take : (home : Home) (c : Code) → Code
  Handler : (home : Home) (c : Code) → Code
  SetHandler : (value : Source) (c : Code) → Code
  -- one rule of a match: the first where all tests hold
  When : (subject : Source) (tests : List Test) (same other : Code) → Code
  Equal : (a b : Source) (truth : Bool) (k : Source) → Code
  Call : (target : Target) (f : Source) (sources : List Source) → Code
  Throw : (packet : Source) → Code
  Halt : Code

-- A program. Label l is the code at place l, and stands for the point there: its closure and its arguments come in the first registers.
pub record Tree : Type 0 where
  pub main : Code
  pub functions : List Code
  pub points : List Point
  pub sites : List Site
  -- the string constants, and the spellings of exceptions
  pub texts : List (List ℕ)
  pub exns : List (List ℕ)
  -- the greatest number of words of spill records, with their headers, that one path through one body makes
  pub spill : ℕ
