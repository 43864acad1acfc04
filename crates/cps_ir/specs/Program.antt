-- A program, and the tree that it is.
use Rattle.std.specs.Prelude.{ℕ, zero, suc, List, [], ◌∷◌, Option, Some, None, length, slice_get}
use Rattle.smlc_base.specs.declared.point.Site.{Site}
use Rattle.cps_ir.specs.declared.body.Function.{Function as Entry}
use Rattle.cps_ir.specs.declared.body.Bind.{Bind}
use Rattle.cps_ir.specs.declared.body.Bind.TheVariants as bind
use Rattle.cps_ir.specs.declared.body.Rule.{Rule as Chosen}
use Rattle.cps_ir.specs.declared.body.End.{End}
use Rattle.cps_ir.specs.declared.body.End.TheVariants as end
use Rattle.cps_ir.specs.declared.body.Body.{Body}
use Rattle.cps_ir.specs.Code.{Code, Make, Pick, Prim, Equal, Fix, Call, Match, Handler, SetHandler, Throw, Halt, Functions, NoFunction, Function, Rules, Otherwise, Rule, Tree}

-- its bodies, where body 0 is the whole, a bound above its variables, the sites of its points, the string constants by number, and the spellings of names
pub record Cps : Type 0 where
  pub bodies : List Body
  pub variables : ℕ
  pub sites : List Site
  pub texts : List (List ℕ)
  pub exns : List (List ℕ)

-- ---- The tree of a body, from those of the bodies that it names

abbrev pub functions_of : (ℕ → Code) → List Entry → Functions
functions_of part [] = NoFunction
functions_of part (f ∷ fs) = Function f.name f.point f.params (part f.body) (functions_of part fs)

abbrev pub rules_of : (ℕ → Code) → List Chosen → ℕ → Rules
rules_of part [] otherwise = Otherwise (part otherwise)
rules_of part (r ∷ rules) otherwise = Rule r.tests (part r.body) (rules_of part rules otherwise)

abbrev pub code_of_end : (ℕ → Code) → End → Code
code_of_end part (end.Equal a b truth k) = Equal a b truth k
code_of_end part (end.Call a atoms) = Call a atoms
code_of_end part (end.Match a rules otherwise) = Match a (rules_of part rules otherwise)
code_of_end part (end.Throw a) = Throw a
code_of_end part end.Halt = Halt

abbrev pub code_of_bind : (ℕ → Code) → Bind → Code → Code
code_of_bind part (bind.Make x shape atoms) c = Make x shape atoms c
code_of_bind part (bind.Pick x i a) c = Pick x i a c
code_of_bind part (bind.Prim x f atoms) c = Prim x f atoms c
code_of_bind part (bind.Fix fs) c = Fix (functions_of part fs) c
code_of_bind part (bind.Handler x) c = Handler x c
code_of_bind part (bind.SetHandler a) c = SetHandler a c

-- one form around the other, the first outermost
abbrev pub code_of_binds : (ℕ → Code) → List Bind → Code → Code
code_of_binds part [] c = c
code_of_binds part (b ∷ binds) c = code_of_bind part b (code_of_binds part binds c)

abbrev pub code_of_body : (ℕ → Code) → Option Body → Code
code_of_body part None = Halt
code_of_body part (Some b) = code_of_binds part b.binds (code_of_end part b.end)

-- down to k levels; parts have greater numbers, so that as many levels as there are bodies are all
abbrev pub code_within : ℕ → List Body → ℕ → Code
code_within zero bodies i = Halt
code_within (suc k) bodies i = code_of_body (code_within k bodies) (slice_get bodies i)

abbrev pub code_at : List Body → ℕ → Code
code_at bodies i = code_within (length bodies) bodies i

abbrev pub tree_of : Cps → Tree
tree_of q = record { code = code_at q.bodies 0; sites = q.sites; texts = q.texts; exns = q.exns }
