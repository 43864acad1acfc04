-- A program, and the trees that it is.
use Rattle.std.specs.Prelude.{ℕ, zero, suc, List, [], ◌∷◌, Option, Some, None, length, map, slice_get}
use Rattle.smlc_base.specs.declared.point.Point.{Point}
use Rattle.smlc_base.specs.declared.point.Site.{Site}
use Rattle.closure_ir.specs.declared.operand.Operand.{Operand}
use Rattle.closure_ir.specs.declared.body.Bind.{Bind}
use Rattle.closure_ir.specs.declared.body.Bind.TheVariants as bind
use Rattle.closure_ir.specs.declared.body.Rule.{Rule}
use Rattle.closure_ir.specs.declared.body.End.{End}
use Rattle.closure_ir.specs.declared.body.End.TheVariants as end
use Rattle.closure_ir.specs.declared.body.Body.{Body}
use Rattle.closure_ir.specs.declared.body.Function.{Function}
use Rattle.closure_ir.specs.Code.{Code, Make, Let, Prim, Handler, SetHandler, When, Equal, Call, Throw, Halt, Routine, Tree}

-- Its bodies, where body 0 is what is run first, its functions by label, the points of its labels, a bound above its variables, the sites of its
-- points, the string constants by number, and the spellings of names.
pub record Closed : Type 0 where
  pub bodies : List Body
  pub functions : List Function
  pub points : List Point
  pub variables : ℕ
  pub sites : List Site
  pub texts : List (List ℕ)
  pub exns : List (List ℕ)

-- ---- The tree of a body, from those of the bodies that it names

abbrev pub code_of_rules : (ℕ → Code) → Operand → List Rule → ℕ → Code
code_of_rules part subject [] otherwise = part otherwise
code_of_rules part subject (r ∷ rules) otherwise = When subject r.tests (part r.body) (code_of_rules part subject rules otherwise)

abbrev pub code_of_end : (ℕ → Code) → End → Code
code_of_end part (end.Equal a b truth k) = Equal a b truth k
code_of_end part (end.Call target f os) = Call target f os
code_of_end part (end.Match subject rules otherwise) = code_of_rules part subject rules otherwise
code_of_end part (end.Throw packet) = Throw packet
code_of_end part end.Halt = Halt

abbrev pub code_of_bind : Bind → Code → Code
code_of_bind (bind.Make makers) c = Make makers c
code_of_bind (bind.Let x value) c = Let x value c
code_of_bind (bind.Prim x f os) c = Prim x f os c
code_of_bind (bind.Handler x) c = Handler x c
code_of_bind (bind.SetHandler value) c = SetHandler value c

-- one form around the other, the first outermost
abbrev pub code_of_binds : List Bind → Code → Code
code_of_binds [] c = c
code_of_binds (b ∷ binds) c = code_of_bind b (code_of_binds binds c)

abbrev pub code_of_body : (ℕ → Code) → Option Body → Code
code_of_body part None = Halt
code_of_body part (Some b) = code_of_binds b.binds (code_of_end part b.end)

-- down to k levels; parts have greater numbers, so that as many levels as there are bodies are all
abbrev pub code_within : ℕ → List Body → ℕ → Code
code_within zero bodies i = Halt
code_within (suc k) bodies i = code_of_body (code_within k bodies) (slice_get bodies i)

abbrev pub code_at : List Body → ℕ → Code
code_at bodies i = code_within (length bodies) bodies i

abbrev pub routine_of : List Body → Function → Routine
routine_of bodies f = record { params = f.params; code = code_at bodies f.body }

abbrev pub tree_of : Closed → Tree
tree_of p = record {
  main = code_at p.bodies 0;
  functions = map (routine_of p.bodies) p.functions;
  points = p.points;
  sites = p.sites;
  texts = p.texts;
  exns = p.exns;
}
