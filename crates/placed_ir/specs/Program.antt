-- A program, and the tree that it is.
use Rattle.std.specs.Prelude.{ℕ, zero, suc, List, [], ◌∷◌, Option, Some, None, length, map, slice_get}
use Rattle.smlc_base.specs.declared.point.Point.{Point}
use Rattle.smlc_base.specs.declared.point.Site.{Site}
use Rattle.placed_ir.specs.declared.home.Source.{Source}
use Rattle.placed_ir.specs.declared.body.Step.{Step}
use Rattle.placed_ir.specs.declared.body.Step.TheVariants as step
use Rattle.placed_ir.specs.declared.body.Rule.{Rule}
use Rattle.placed_ir.specs.declared.body.End.{End}
use Rattle.placed_ir.specs.declared.body.End.TheVariants as end
use Rattle.placed_ir.specs.declared.body.Body.{Body}
use Rattle.placed_ir.specs.declared.body.Function.{Function}
use Rattle.placed_ir.specs.Code.{Code, Frame, Make, Name, Let, Prim, Take, Handler, SetHandler, When, Equal, Call, Throw, Halt, Tree}

-- Its bodies, where body 0 is what is run first, the words of the spill record of what is run first, its functions by label, the points of its labels,
-- the sites of its points, the string constants by number, the spellings of names, and the greatest number of words of spill records of one path.
pub record Placed : Type 0 where
  pub bodies : List Body
  pub frame : ℕ
  pub functions : List Function
  pub points : List Point
  pub sites : List Site
  pub texts : List (List ℕ)
  pub exns : List (List ℕ)
  pub spill : ℕ

-- ---- The tree of a body, from those of the bodies that it names

abbrev pub code_of_rules : (ℕ → Code) → Source → List Rule → ℕ → Code
code_of_rules part subject [] otherwise = part otherwise
code_of_rules part subject (r ∷ rules) otherwise = When subject r.tests (part r.body) (code_of_rules part subject rules otherwise)

abbrev pub code_of_end : (ℕ → Code) → End → Code
code_of_end part (end.Equal a b truth k) = Equal a b truth k
code_of_end part (end.Call target f sources) = Call target f sources
code_of_end part (end.Match subject rules otherwise) = code_of_rules part subject rules otherwise
code_of_end part (end.Throw packet) = Throw packet
code_of_end part end.Halt = Halt

abbrev pub code_of_step : Step → Code → Code
code_of_step (step.Make buildings) c = Make buildings c
code_of_step (step.Name home offset) c = Name home offset c
code_of_step (step.Let home value) c = Let home value c
code_of_step (step.Prim f sources) c = Prim f sources c
code_of_step (step.Take home) c = Take home c
code_of_step (step.Handler home) c = Handler home c
code_of_step (step.SetHandler value) c = SetHandler value c

-- one form around the other, the first outermost
abbrev pub code_of_steps : List Step → Code → Code
code_of_steps [] c = c
code_of_steps (s ∷ steps) c = code_of_step s (code_of_steps steps c)

abbrev pub code_of_body : (ℕ → Code) → Option Body → Code
code_of_body part None = Halt
code_of_body part (Some b) = code_of_steps b.steps (code_of_end part b.end)

-- down to k levels; parts have greater numbers, so that as many levels as there are bodies are all
abbrev pub code_within : ℕ → List Body → ℕ → Code
code_within zero bodies i = Halt
code_within (suc k) bodies i = code_of_body (code_within k bodies) (slice_get bodies i)

abbrev pub code_at : List Body → ℕ → Code
code_at bodies i = code_within (length bodies) bodies i

-- what makes a spill record begins by that
abbrev pub framed : ℕ → Code → Code
framed zero c = c
framed (suc n) c = Frame (suc n) c

abbrev pub function_code : List Body → Function → Code
function_code bodies f = framed f.frame (code_at bodies f.body)

abbrev pub tree_of : Placed → Tree
tree_of p = record {
  main = framed p.frame (code_at p.bodies 0);
  functions = map (function_code p.bodies) p.functions;
  points = p.points;
  sites = p.sites;
  texts = p.texts;
  exns = p.exns;
  spill = p.spill;
}
