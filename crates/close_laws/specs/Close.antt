-- The closed program of a program: the design of its layouts, and its functions by label.
use Rattle.std.specs.Prelude.{ℕ, zero, suc, ◌+◌, pos, Bool, true, false, ◌||◌, nat_eq, List, [], ◌∷◌, ◌++◌, Option, Some, None, cond, length}
use Rattle.smlc_base.specs.declared.point.Point.{Point}
use Rattle.sml_def.specs.Run.{eq_point}
use Rattle.cps_ir.specs.Code as cps
use Rattle.cps_ir.specs.Code.{Functions, NoFunction, Function, Rules, Otherwise, Rule}
use Rattle.closure_ir.specs.declared.operand.Static.TheVariants as static
use Rattle.closure_ir.specs.declared.operand.Operand.{Operand}
use Rattle.closure_ir.specs.declared.operand.Operand.TheVariants as operand
use Rattle.closure_ir.specs.Code.{Routine, Tree}
use Rattle.close_laws.specs.Layouts.{Facts, facts, label, name_at, is_static, has_code, class_vars, layout_classes, layout_own, base, layout_named, point_of}
use Rattle.close_laws.specs.Lower.{Design, Places, Hand, lower, lower_function}

-- ---- Where a body finds what its closure has

abbrev pub next_place : Option ℕ → Option ℕ
next_place None = None
next_place (Some i) = Some (suc i)

abbrev pub place_in : List ℕ → ℕ → Option ℕ
place_in [] x = None
place_in (y ∷ ys) x = cond (nat_eq y x) (Some 0) (next_place (place_in ys x))

-- a field of the closure, if there is a place
abbrev pub or_field : ℕ → ℕ → Option ℕ → Operand → Operand
or_field f n None o = o
or_field f n (Some i) o = operand.Path f ((n + i) ∷ [])

-- a field of the record in field j
abbrev pub or_through : ℕ → ℕ → Option ℕ → Operand → Operand
or_through f j None o = o
or_through f j (Some i) o = operand.Path f (j ∷ i ∷ [])

-- through the records of these classes, from field j on
abbrev pub through_classes : ℕ → ℕ → (ℕ → List ℕ) → List ℕ → ℕ → Operand → Operand
through_classes f j members [] x o = o
through_classes f j members (k ∷ ks) x o =
    or_through f j (place_in (members k) x) (through_classes f (suc j) members ks x o)

abbrev pub slot_at : ℕ → ℕ → Option ℕ → Option Operand
slot_at f n None = None
slot_at f n (Some j) = Some (operand.Path f ((n + j) ∷ []))

module _ (A : Facts) where
  abbrev pub known : ℕ → Option Point
  known x = point_of (layout_named A.all x)

  abbrev pub static_at : Option Point → Operand
  static_at None = operand.Literal (pos 0)
  static_at (Some p) = operand.Static (static.Function (record { 0 = label A p }))

  -- itself, a variable of its own, one of a class, or a closed function
  abbrev pub found_at : Point → ℕ → ℕ → Operand
  found_at p f x =
      cond (nat_eq f x) (operand.Path f [])
      (or_field f (base A p + length (layout_classes A p)) (place_in (layout_own A p) x)
      (through_classes f (base A p) (class_vars A) (layout_classes A p) x (static_at (known x))))

  abbrev pub design_of : Design
  design_of = record {
    label = label A;
    static = is_static A;
    code = has_code A;
    classes = layout_classes A;
    own = layout_own A;
    members = class_vars A;
    record_name = λ k. A.fresh + k;
    inner = λ p x. found_at p (name_at A p) x;
    slots = λ p k. slot_at (name_at A p) (base A p) (place_in (layout_classes A p) k);
    known = known;
  }

-- ---- Functions by label

-- a function of the program, with the label of its point
pub record Labelled : Type 0 where
  pub label : ℕ
  pub point : Point
  pub routine : Routine

module _ (A : Facts) where
  abbrev mutual
    pub functions_in : cps.Code → List Labelled
    functions_in (cps.Make x s atoms c) = functions_in c
    functions_in (cps.Pick x i a c) = functions_in c
    functions_in (cps.Prim x f atoms c) = functions_in c
    functions_in (cps.Equal a b truth k) = []
    functions_in (cps.Fix fs c) = functions_of fs ++ functions_in c
    functions_in (cps.Call a atoms) = []
    functions_in (cps.Match a rules) = functions_of_rules rules
    functions_in (cps.Handler x c) = functions_in c
    functions_in (cps.SetHandler a c) = functions_in c
    functions_in (cps.Throw a) = []
    functions_in cps.Halt = []

    pub functions_of : Functions → List Labelled
    functions_of NoFunction = []
    functions_of (Function f p params body fs) =
        record { label = label A p; point = p; routine = lower_function (design_of A) f p params body } ∷ (functions_in body ++ functions_of fs)

    pub functions_of_rules : Rules → List Labelled
    functions_of_rules (Otherwise c) = functions_in c
    functions_of_rules (Rule tests c rules) = functions_in c ++ functions_of_rules rules

-- those of a label
abbrev pub with_label : ℕ → List Labelled → List Labelled
with_label l [] = []
with_label l (f ∷ fs) = cond (nat_eq f.label l) (f ∷ with_label l fs) (with_label l fs)

-- in the order of labels, n from l on
abbrev pub by_label : ℕ → ℕ → List Labelled → List Labelled
by_label l zero fs = []
by_label l (suc n) fs = with_label l fs ++ by_label (suc l) n fs

-- ---- Whether a comparison stands in a program

abbrev mutual
  pub compares : cps.Code → Bool
  compares (cps.Make x s atoms c) = compares c
  compares (cps.Pick x i a c) = compares c
  compares (cps.Prim x f atoms c) = compares c
  compares (cps.Equal a b truth k) = true
  compares (cps.Fix fs c) = compares_functions fs || compares c
  compares (cps.Call a atoms) = false
  compares (cps.Match a rules) = compares_rules rules
  compares (cps.Handler x c) = compares c
  compares (cps.SetHandler a c) = compares c
  compares (cps.Throw a) = false
  compares cps.Halt = false

  pub compares_functions : Functions → Bool
  compares_functions NoFunction = false
  compares_functions (Function f p params body fs) = compares body || compares_functions fs

  pub compares_rules : Rules → Bool
  compares_rules (Otherwise c) = compares c
  compares_rules (Rule tests c rules) = compares c || compares_rules rules

-- ---- The program

abbrev pub nowhere : Places
nowhere x = operand.Literal (pos 0)

abbrev pub none_at_hand : Hand
none_at_hand k = None

abbrev pub labelled : Facts → cps.Code → List Labelled
labelled A c = let fs = functions_in A c in by_label 0 (length fs) fs

abbrev pub points_of : List Labelled → List Point
points_of [] = []
points_of (f ∷ fs) = f.point ∷ points_of fs

-- the points that are left, in order; that of comparisons is the last
abbrev pub left_points : Facts → cps.Code → List Point
left_points A c = points_of (labelled A c) ++ cond (compares c) (eq_point ∷ []) []

abbrev pub routines_of : List Labelled → List Routine
routines_of [] = []
routines_of (f ∷ fs) = f.routine ∷ routines_of fs

abbrev pub close_by : Facts → cps.Tree → Tree
close_by A q = record {
  main = lower (design_of A) nowhere none_at_hand q.code;
  functions = routines_of (labelled A q.code);
  points = left_points A q.code;
  sites = q.sites;
  texts = q.texts;
  exns = q.exns;
}

-- the variables of class records are numbered behind those of the program
abbrev pub close : ℕ → cps.Tree → Tree
close fresh q = close_by (facts fresh q.code) q
