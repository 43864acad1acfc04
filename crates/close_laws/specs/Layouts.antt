-- Closed functions, functions that are used as values, and what a closure has.
use Rattle.std.specs.Prelude.{ℕ, zero, suc, ◌+◌, Bool, not, ◌&&◌, ◌||◌, nat_eq, List, [], ◌∷◌, Option, Some, None, cond, filter, map, length, slice_get}
use Rattle.std.specs.List.{list_all, list_any}
use Rattle.smlc_base.specs.declared.point.Point.{Point}
use Rattle.smlc_base.specs.Points.{is_point}
use Rattle.sml_tree.specs.Sets.{has, union, without}
use Rattle.cps_ir.specs.Code.{Code, Make, Pick, Prim, Equal, Fix, Call, Match, Handler, SetHandler, Throw, Halt, Functions, NoFunction, Function, Rules, Otherwise, Rule}
use Rattle.cps_ir.specs.Free.{vars, vars_all, vars_tests}
use Rattle.cps_ir.specs.Slim.{Layout, layouts}
use Rattle.lifetime_users.specs.declared.class.Class.{Class}
use Rattle.lifetime_users.specs.Users.{label_in, classes}

-- ---- Closed functions: the greatest set whose functions have no free variable but themselves and its members

-- it would have no free variable but itself and these
abbrev pub needs_only : List ℕ → Layout → Bool
needs_only set l = list_all (λ x. nat_eq x l.name || has set x) l.free

abbrev pub names_of_layouts : List Layout → List ℕ
names_of_layouts all = map (λ l. l.name) all

-- what is left of a set: those of its functions that need only it
abbrev pub stay_closed : List Layout → List ℕ → List ℕ
stay_closed all set = names_of_layouts (filter (λ l. has set l.name && needs_only set l) all)

-- after n rounds from all functions
abbrev pub closed_after : ℕ → List Layout → List ℕ
closed_after zero all = names_of_layouts all
closed_after (suc n) all = stay_closed all (closed_after n all)

-- each round but the last loses one
abbrev pub closed_names : List Layout → List ℕ
closed_names all = closed_after (length all) all

-- ---- Functions that are used as values: other than as the function part of a call

abbrev mutual
  pub values : Code → List ℕ
  values (Make x shape atoms c) = union (vars_all atoms) (values c)
  values (Pick x i a c) = union (vars a) (values c)
  values (Prim x f atoms c) = union (vars_all atoms) (values c)
  values (Equal a b truth k) = vars_all (a ∷ b ∷ k ∷ [])
  values (Fix fs c) = union (values_functions fs) (values c)
  values (Call a atoms) = vars_all atoms
  values (Match a rules) = union (vars a) (values_rules rules)
  values (Handler x c) = values c
  values (SetHandler a c) = union (vars a) (values c)
  values (Throw a) = vars a
  values Halt = []

  pub values_functions : Functions → List ℕ
  values_functions NoFunction = []
  values_functions (Function f p params body fs) = union (values body) (values_functions fs)

  pub values_rules : Rules → List ℕ
  values_rules (Otherwise c) = values c
  values_rules (Rule tests c rules) = union (vars_tests tests) (union (values c) (values_rules rules))

-- ---- What is worked out once for a program

pub record Facts : Type 0 where
  pub all : List Layout
  pub closed : List ℕ
  pub values : List ℕ
  pub classes : List Class
  -- above all variables
  pub fresh : ℕ

abbrev pub facts : ℕ → Code → Facts
facts fresh c = record {
  all = layouts c;
  closed = closed_names (layouts c);
  values = values c;
  classes = classes c;
  fresh = fresh;
}

-- ---- Look-ups

abbrev pub layout_at : List Layout → Point → Option Layout
layout_at [] p = None
layout_at (l ∷ all) p = cond (is_point l.point p) (Some l) (layout_at all p)

abbrev pub layout_named : List Layout → ℕ → Option Layout
layout_named [] x = None
layout_named (l ∷ all) x = cond (nat_eq l.name x) (Some l) (layout_named all x)

abbrev pub point_of : Option Layout → Option Point
point_of None = None
point_of (Some l) = Some l.point

abbrev pub name_in : Option Layout → ℕ
name_in None = 0
name_in (Some l) = l.name

abbrev pub free_in : Option Layout → List ℕ
free_in None = []
free_in (Some l) = l.free

abbrev pub uses_class : ℕ → Class → Bool
uses_class l k = list_any (λ u. nat_eq u.0 l) k.users

-- the numbers, from n on, of the classes that have the label among their users
abbrev pub classes_of : ℕ → ℕ → List Class → List ℕ
classes_of n l [] = []
classes_of n l (k ∷ ks) = cond (uses_class l k) (n ∷ classes_of (suc n) l ks) (classes_of (suc n) l ks)

abbrev pub in_class : List Class → ℕ → Bool
in_class ks x = list_any (λ k. has k.vars x) ks

abbrev pub vars_in : Option Class → List ℕ
vars_in None = []
vars_in (Some k) = k.vars

module _ (A : Facts) where
  -- labels are numbers of points in order
  abbrev pub label : Point → ℕ
  label p = label_in A.all p

  abbrev pub name_at : Point → ℕ
  name_at p = name_in (layout_at A.all p)

  -- a closed function has no closure
  abbrev pub is_static : Point → Bool
  is_static p = has A.closed (name_at p)

  -- a closure has the code of its label, where its function is used as a value
  abbrev pub has_code : Point → Bool
  has_code p = has A.values (name_at p)

  abbrev pub class_vars : ℕ → List ℕ
  class_vars k = vars_in (slice_get A.classes k)

  -- free variables without the function itself and closed functions
  abbrev pub holds : Point → List ℕ
  holds p = without (free_in (layout_at A.all p)) (name_at p ∷ A.closed)

  -- behind the code word: records of these classes
  abbrev pub layout_classes : Point → List ℕ
  layout_classes p = cond (is_static p) [] (classes_of 0 (label p) A.classes)

  -- and then these variables
  abbrev pub layout_own : Point → List ℕ
  layout_own p = cond (is_static p) [] (filter (λ x. not (in_class A.classes x)) (holds p))

  -- where the fields behind the code word begin
  abbrev pub base : Point → ℕ
  base p = cond (has_code p) 1 0

  -- the words of a closure with its header, 0 for a closed function
  abbrev pub layout_words : Point → ℕ
  layout_words p = cond (is_static p) 0 (suc (base p + (length (layout_classes p) + length (layout_own p))))

  -- those of the records of some classes
  abbrev pub record_words : List ℕ → ℕ
  record_words [] = 0
  record_words (k ∷ ks) = suc (length (class_vars k)) + record_words ks
