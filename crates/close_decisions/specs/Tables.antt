-- What is decided of functions, in tables.
use Rattle.std.specs.Prelude.{◌≡◌, ℕ, suc, ◌<◌, List, [], ◌∷◌, Option, Some, None, cond, nat_eq, map, length, slice_get}
use Rattle.std.specs.List.{AllByRecursion}
use Rattle.cps_ir.specs.Slim.{Layout}
use Rattle.cps_ir.specs.Program.{Cps, code_at}
use Rattle.cps_ir.specs.Kept.{IsProgram}
use Rattle.lifetime_users.specs.Users.{label_in}
use Rattle.close_laws.specs.Layouts.{Facts, facts}
use Rattle.close_laws.specs.Close.{design_of}
use Rattle.closure_layouts.specs.declared.layouts.ClosureLayout.{ClosureLayout}
use Rattle.closure_layouts.specs.Found.{closure_at}
use Rattle.close_steps.specs.declared.decisions.Decision.{Decision}
use Rattle.close_steps.specs.declared.decisions.Decisions.{Decisions}
use Rattle.close_steps.specs.Visible.{Have}

-- the number of the first function of a name, from one on
abbrev pub number_of : ℕ → List Layout → ℕ → Option ℕ
number_of n [] x = None
number_of n (l ∷ ls) x = cond (nat_eq l.name x) (Some n) (number_of (suc n) ls x)

abbrev pub decision_with : List Layout → Layout → ClosureLayout → Decision
decision_with all l k = record { label = record { 0 = label_in all l.point }; is_static = k.is_static; has_code = k.has_code; classes = k.classes; own = k.own }

abbrev pub decisions_with : List Layout → List Layout → List ClosureLayout → List Decision
decisions_with all [] ks = []
decisions_with all (l ∷ ls) [] = []
decisions_with all (l ∷ ls) (k ∷ ks) = decision_with all l k ∷ decisions_with all ls ks

-- each variable has the number of the first function of its name, from one on
pub record AreNumbers (variables n : ℕ) (ls : List Layout) (numbers : List (Option ℕ)) : Type 0 where
  pub len : length numbers ≡ variables
  pub at : (x : ℕ) → x < variables → slice_get numbers x ≡ Some (number_of n ls x)

-- the tables of a program whose variables are below a bound
pub record AreTables (A : Facts) (variables : ℕ) (d : Decisions) : Type 0 where
  pub functions : d.functions ≡ decisions_with A.all A.all (map (λ l. closure_at A l.point) A.all)
  pub numbers : AreNumbers variables 0 A.all d.numbers
  pub classes : d.classes.of ≡ A.classes
  pub first : d.first_record ≡ A.fresh

abbrev pub TablesHave : Type 0
TablesHave = (A : Facts) (variables : ℕ) (d : Decisions) → AreTables A variables d → AllByRecursion (λ l. l.name < variables) A.all → Have (design_of A) d

abbrev pub ProgramsHave : Type 0
ProgramsHave =
    (q : Cps) → IsProgram q → (d : Decisions) → AreTables (facts q.variables (code_at q.bodies 0)) q.variables d
    → Have (design_of (facts q.variables (code_at q.bodies 0))) d
