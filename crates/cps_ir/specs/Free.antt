-- The variables that are free in a body, those that it binds, and the points that stand in it.
use Rattle.std.specs.Prelude.{ℕ, List, [], ◌∷◌, ◌++◌}
use Rattle.smlc_base.specs.declared.point.Point.{Point}
use Rattle.sml_tree.specs.Sets.{union, union_over, without}
use Rattle.sml_def.specs.Run.{eq_point}
use Rattle.cps_ir.specs.declared.atom.Atom.{Atom}
use Rattle.cps_ir.specs.declared.atom.Atom.TheVariants as atom
use Rattle.cps_ir.specs.declared.atom.Wanted.{Wanted}
use Rattle.cps_ir.specs.declared.atom.Wanted.TheVariants as want
use Rattle.cps_ir.specs.declared.atom.Test.{Test}
use Rattle.cps_ir.specs.Code.{Code, Make, Pick, Prim, Equal, Fix, Call, Match, Handler, SetHandler, Throw, Halt, Functions, NoFunction, Function, Rules, Otherwise, Rule, names_of}

abbrev pub vars : Atom → List ℕ
vars (atom.Var x) = x ∷ []
vars (atom.Constant k) = []

abbrev pub vars_all : List Atom → List ℕ
vars_all atoms = union_over vars atoms

abbrev pub vars_wanted : Wanted → List ℕ
vars_wanted (want.Exn a applied) = vars a
vars_wanted _ = []

abbrev pub vars_tests : List Test → List ℕ
vars_tests tests = union_over (λ t. vars_wanted t.want) tests

abbrev mutual
  pub free_code : Code → List ℕ
  free_code (Make x shape atoms c) = union (vars_all atoms) (without (free_code c) (x ∷ []))
  free_code (Pick x i a c) = union (vars a) (without (free_code c) (x ∷ []))
  free_code (Prim x f atoms c) = union (vars_all atoms) (without (free_code c) (x ∷ []))
  free_code (Equal a b truth k) = vars_all (a ∷ b ∷ k ∷ [])
  free_code (Fix fs c) = without (union (free_functions fs) (free_code c)) (names_of fs)
  free_code (Call a atoms) = union (vars a) (vars_all atoms)
  free_code (Match a rules) = union (vars a) (free_rules rules)
  free_code (Handler x c) = without (free_code c) (x ∷ [])
  free_code (SetHandler a c) = union (vars a) (free_code c)
  free_code (Throw a) = vars a
  free_code Halt = []

  pub free_functions : Functions → List ℕ
  free_functions NoFunction = []
  free_functions (Function f p params body fs) = union (without (free_code body) params) (free_functions fs)

  pub free_rules : Rules → List ℕ
  free_rules (Otherwise c) = free_code c
  free_rules (Rule tests c rules) = union (vars_tests tests) (union (free_code c) (free_rules rules))

-- each variable as often as it is bound
abbrev mutual
  pub bound : Code → List ℕ
  bound (Make x shape atoms c) = x ∷ bound c
  bound (Pick x i a c) = x ∷ bound c
  bound (Prim x f atoms c) = x ∷ bound c
  bound (Equal a b truth k) = []
  bound (Fix fs c) = bound_functions fs ++ bound c
  bound (Call a atoms) = []
  bound (Match a rules) = bound_rules rules
  bound (Handler x c) = x ∷ bound c
  bound (SetHandler a c) = bound c
  bound (Throw a) = []
  bound Halt = []

  pub bound_functions : Functions → List ℕ
  bound_functions NoFunction = []
  bound_functions (Function f p params body fs) = f ∷ (params ++ (bound body ++ bound_functions fs))

  pub bound_rules : Rules → List ℕ
  bound_rules (Otherwise c) = bound c
  bound_rules (Rule tests c rules) = bound c ++ bound_rules rules

-- the points of the functions, and that of comparisons once for each
abbrev mutual
  pub labels : Code → List Point
  labels (Make x shape atoms c) = labels c
  labels (Pick x i a c) = labels c
  labels (Prim x f atoms c) = labels c
  labels (Equal a b truth k) = eq_point ∷ []
  labels (Fix fs c) = labels_functions fs ++ labels c
  labels (Call a atoms) = []
  labels (Match a rules) = labels_rules rules
  labels (Handler x c) = labels c
  labels (SetHandler a c) = labels c
  labels (Throw a) = []
  labels Halt = []

  pub labels_functions : Functions → List Point
  labels_functions NoFunction = []
  labels_functions (Function f p params body fs) = p ∷ (labels body ++ labels_functions fs)

  pub labels_rules : Rules → List Point
  labels_rules (Otherwise c) = labels c
  labels_rules (Rule tests c rules) = labels c ++ labels_rules rules
