-- The users of variables, and the classes of those that live together.
use Rattle.std.specs.Prelude.{ℕ, Bool, true, false, ◌&&◌, nat_eq, nat_lt, nat_le, List, [], ◌∷◌, ◌++◌, Option, Some, None, cond, filter, map, length, count_by}
use Rattle.smlc_base.specs.declared.point.Point.{Point}
use Rattle.sml_tree.specs.Order.{rank}
use Rattle.sml_tree.specs.Sets.{has, union_over}
use Rattle.cps_ir.specs.Code.{Code, Make, Pick, Prim, Equal, Fix, Call, Match, Handler, SetHandler, Throw, Halt, Functions, NoFunction, Function, Rules, Otherwise, Rule}
use Rattle.cps_ir.specs.Slim.{Layout, layouts}
use Rattle.lifetime_users.specs.declared.class.Class.{Class}

-- ---- Labels

-- how many functions have an earlier point
abbrev pub label_in : List Layout → Point → ℕ
label_in all p = count_by (λ l. nat_lt (rank l.point) (rank p)) all

-- ---- Where variables are bound

-- a variable that no function binding names, and the function in whose body it is bound; the body of the whole has none
pub record Binding : Type 0 where
  pub var : ℕ
  pub home : Option ℕ

abbrev pub binding : Option ℕ → ℕ → Binding
binding home x = record { var = x; home = home }

-- a parameter is bound in its function's body
abbrev mutual
  pub bindings : Option ℕ → Code → List Binding
  bindings home (Make x shape atoms c) = binding home x ∷ bindings home c
  bindings home (Pick x i a c) = binding home x ∷ bindings home c
  bindings home (Prim x f atoms c) = binding home x ∷ bindings home c
  bindings home (Equal a b truth k) = []
  bindings home (Fix fs c) = bindings_functions fs ++ bindings home c
  bindings home (Call a atoms) = []
  bindings home (Match a rules) = bindings_rules home rules
  bindings home (Handler x c) = binding home x ∷ bindings home c
  bindings home (SetHandler a c) = bindings home c
  bindings home (Throw a) = []
  bindings home Halt = []

  pub bindings_functions : Functions → List Binding
  bindings_functions NoFunction = []
  bindings_functions (Function f p params body fs) =
      map (binding (Some f)) params ++ (bindings (Some f) body ++ bindings_functions fs)

  pub bindings_rules : Option ℕ → Rules → List Binding
  bindings_rules home (Otherwise c) = bindings home c
  bindings_rules home (Rule tests c rules) = bindings home c ++ bindings_rules home rules

abbrev pub home_of : List Binding → ℕ → Option ℕ
home_of [] x = None
home_of (b ∷ bound) x = cond (nat_eq b.var x) b.home (home_of bound x)

abbrev pub same_home : Option ℕ → Option ℕ → Bool
same_home (Some f) (Some g) = nat_eq f g
same_home None None = true
same_home _ _ = false

-- ---- Users

-- the labels of the functions in whose free variables x is, in ascending order
abbrev pub users : List Layout → ℕ → List ℕ
users all x = union_over (λ l. cond (has l.free x) (label_in all l.point ∷ []) []) all

abbrev pub same_numbers : List ℕ → List ℕ → Bool
same_numbers [] [] = true
same_numbers (m ∷ ms) (n ∷ ns) = nat_eq m n && same_numbers ms ns
same_numbers _ _ = false

-- ---- Classes

abbrev pub begins_with : ℕ → List ℕ → Bool
begins_with x [] = false
begins_with x (y ∷ ys) = nat_eq x y

module _ (all : List Layout) (bound : List Binding) where
  -- in ascending order
  abbrev pub variables : List ℕ
  variables = union_over (λ b. b.var ∷ []) bound

  -- bound in one body, with equal users
  abbrev pub live_together : ℕ → ℕ → Bool
  live_together x y = same_home (home_of bound x) (home_of bound y) && same_numbers (users all x) (users all y)

  abbrev pub companions : ℕ → List ℕ
  companions x = filter (live_together x) variables

  -- the least of at least 3 variables that have at least 2 users
  abbrev pub leads : ℕ → Bool
  leads x = begins_with x (companions x) && nat_le 3 (length (companions x)) && nat_le 2 (length (users all x))

  abbrev pub class_of : ℕ → Class
  class_of x = record { vars = companions x; users = map (λ l. record { 0 = l }) (users all x) }

  abbrev pub classes_among : List Class
  classes_among = map class_of (filter leads variables)

-- the classes of a program, in the order of their least variables
abbrev pub classes : Code → List Class
classes c = classes_among (layouts c) (bindings None c)
