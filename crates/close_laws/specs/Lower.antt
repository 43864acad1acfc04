-- How a body becomes one of the closed program, by a design: which functions are closed, which have a code word, the classes, and what each closure holds.
use Rattle.std.specs.Prelude.{ℕ, zero, suc, ℤ, pos, List, [], ◌∷◌, ◌++◌, map, length, Option, Some, None, cond, Bool, nat_eq, is_some}
use Rattle.smlc_base.specs.declared.point.Point.{Point}
use Rattle.smlc_base.specs.declared.point.Label.{Label}
use Rattle.cps_ir.specs.declared.atom.Constant.{Constant}
use Rattle.cps_ir.specs.declared.atom.Constant.TheVariants as constant
use Rattle.cps_ir.specs.declared.atom.Atom.{Atom}
use Rattle.cps_ir.specs.declared.atom.Atom.TheVariants as atom
use Rattle.cps_ir.specs.declared.atom.Shape.{Shape as Kind}
use Rattle.cps_ir.specs.declared.atom.Shape.TheVariants as kind
use Rattle.cps_ir.specs.declared.atom.Wanted.{Wanted as Wish}
use Rattle.cps_ir.specs.declared.atom.Wanted.TheVariants as wish
use Rattle.cps_ir.specs.declared.atom.Test.{Test as Trial}
use Rattle.cps_ir.specs.Code as cps
use Rattle.cps_ir.specs.Code.{Functions, NoFunction, Function, Rules, Otherwise, Rule}
use Rattle.closure_ir.specs.declared.operand.Static.TheVariants as static
use Rattle.closure_ir.specs.declared.operand.Operand.{Operand}
use Rattle.closure_ir.specs.declared.operand.Operand.TheVariants as operand
use Rattle.closure_ir.specs.declared.operand.Shape.{Shape}
use Rattle.closure_ir.specs.declared.operand.Shape.TheVariants as shape
use Rattle.closure_ir.specs.declared.body.Maker.{Maker}
use Rattle.closure_ir.specs.declared.body.Target.{Target}
use Rattle.closure_ir.specs.declared.body.Target.TheVariants as target
use Rattle.closure_ir.specs.declared.body.Wanted.{Wanted}
use Rattle.closure_ir.specs.declared.body.Wanted.TheVariants as want
use Rattle.closure_ir.specs.declared.body.Test.{Test}
use Rattle.closure_ir.specs.Code.{Code, Make, Let, Prim, Handler, SetHandler, When, Equal, Call, Throw, Halt, Routine}

-- all that the pass decides
pub record Design : Type 0 where
  -- the label of a function's point; is the function closed; has its closure a code word
  pub label : Point → ℕ
  pub static : Point → Bool
  pub code : Point → Bool
  -- what its closure has behind that: records of these classes, then these variables
  pub classes : Point → List ℕ
  pub own : Point → List ℕ
  -- the variables of a class, and the variable that holds its record where it is made
  pub members : ℕ → List ℕ
  pub record_name : ℕ → ℕ
  -- where the function's body finds a variable, and the record of a class
  pub inner : Point → ℕ → Operand
  pub slots : Point → ℕ → Option Operand
  -- the function that a variable is bound to by its binding
  pub known : ℕ → Option Point

-- a function of a group
pub record Member : Type 0 where
  pub name : ℕ
  pub point : Point

abbrev pub members_of : Functions → List Member
members_of NoFunction = []
members_of (Function f p params body fs) = record { name = f; point = p } ∷ members_of fs

abbrev pub names_of : List Member → List ℕ
names_of ms = map (λ m. m.name) ms

-- ---- Places

-- where variables are found, and the records of classes
abbrev pub Places : Type 0
Places = ℕ → Operand

abbrev pub Hand : Type 0
Hand = ℕ → Option Operand

abbrev pub placed : {X : Type 0} → (ℕ → X) → ℕ → X → ℕ → X
placed at x o y = cond (nat_eq y x) o (at y)

-- each of these in the place beside it
abbrev pub placed_all : {X : Type 0} → (ℕ → X) → List ℕ → List X → ℕ → X
placed_all at [] os = at
placed_all at (x ∷ xs) [] = at
placed_all at (x ∷ xs) (o ∷ os) = placed_all (placed at x o) xs os

abbrev pub itself : ℕ → Operand
itself x = operand.Path x []

abbrev pub here : Places → ℕ → Places
here at x = placed at x (itself x)

abbrev pub here_all : List ℕ → Places → Places
here_all xs at = placed_all at xs (map itself xs)

-- n blocks of the group that is being made, from number k on
abbrev pub fresh_from : ℕ → ℕ → List Operand
fresh_from k zero = []
fresh_from k (suc n) = operand.New k ∷ fresh_from (suc k) n

-- ---- Atoms, tests and shapes

abbrev pub number : Constant → ℤ
number (constant.Int z) = z
number (constant.Char c) = pos c
number (constant.Tag n) = pos n
number _ = pos 0

abbrev pub constant_of : Constant → Operand
constant_of (constant.Text t) = operand.Static (static.Text t)
constant_of (constant.Library e) = operand.Static (static.Library e)
constant_of k = operand.Literal (number k)

abbrev pub operand_of : Places → Atom → Operand
operand_of at (atom.Var x) = at x
operand_of at (atom.Constant k) = constant_of k

abbrev pub operands_of : Places → List Atom → List Operand
operands_of at atoms = map (operand_of at) atoms

-- one step further
abbrev pub beyond : Operand → ℕ → Operand
beyond (operand.Path x steps) i = operand.Path x (steps ++ i ∷ [])
beyond o i = o

abbrev pub wanted_of : Places → Wish → Wanted
wanted_of at (wish.Num z) = want.Num z
wanted_of at (wish.Tag t) = want.Tag t
wanted_of at (wish.Text t) = want.Text t
wanted_of at (wish.Exn a applied) = want.Exn (operand_of at a) applied

abbrev pub test_of : Places → Trial → Test
test_of at t = record { path = t.path; want = wanted_of at t.want }

abbrev pub shape_of : Kind → Shape
shape_of kind.Tuple = shape.Tuple
shape_of (kind.Applied n) = shape.Applied n
shape_of kind.Cell = shape.Cell
shape_of (kind.ExnName x) = shape.ExnName x
shape_of kind.Packet = shape.Packet

module _ (S : Design) where
  abbrev pub label_of : Point → Label
  label_of p = record { 0 = S.label p }

  -- ---- Groups

  -- the functions of a group that have a closure, and those that have none
  abbrev pub kept : List Member → List Member
  kept [] = []
  kept (m ∷ ms) = cond (S.static m.point) (kept ms) (m ∷ kept ms)

  abbrev pub unkept : List Member → List Member
  unkept [] = []
  unkept (m ∷ ms) = cond (S.static m.point) (m ∷ unkept ms) (unkept ms)

  -- a closed function is a static block
  abbrev pub static_of : Member → Operand
  static_of m = operand.Static (static.Function (label_of m.point))

  abbrev pub statics : Places → List Member → Places
  statics at ms = placed_all at (names_of (unkept ms)) (map static_of (unkept ms))

  -- the records that closures name
  abbrev pub needs : List Member → List ℕ
  needs [] = []
  needs (m ∷ ms) = S.classes m.point ++ needs ms

  -- those that aren't at hand, each once
  abbrev pub lacking : Hand → List ℕ → List ℕ
  lacking hand [] = []
  lacking hand (k ∷ ks) =
      cond (is_some (hand k)) (lacking hand ks) (k ∷ lacking (placed hand k (Some (operand.New 0))) ks)

  -- the records of a group that are made with it
  abbrev pub news : Hand → List Member → List ℕ
  news hand ms = lacking hand (needs (kept ms))

  -- records while they are made, and afterwards
  abbrev pub hand_new : Hand → List ℕ → Hand
  hand_new hand ks = placed_all hand ks (map Some (fresh_from 0 (length ks)))

  abbrev pub hand_made : Hand → List ℕ → Hand
  hand_made hand ks = placed_all hand ks (map (λ k. Some (itself (S.record_name k))) ks)

  abbrev pub record_maker : Places → ℕ → Maker
  record_maker at k = record { var = S.record_name k; shape = shape.ClassRecord k; fields = map at (S.members k) }

  -- each record is at hand that a closure names
  abbrev pub pointer : Option Operand → Operand
  pointer None = operand.Literal (pos 0)
  pointer (Some o) = o

  abbrev pub code_field : Point → List Operand
  code_field p = cond (S.code p) (operand.Code (label_of p) ∷ []) []

  abbrev pub closure_fields : Places → Hand → Point → List Operand
  closure_fields at hand p = code_field p ++ (map (λ k. pointer (hand k)) (S.classes p) ++ map at (S.own p))

  abbrev pub closure_maker : Places → Hand → Member → Maker
  closure_maker at hand m = record { var = m.name; shape = shape.Closure (label_of m.point); fields = closure_fields at hand m.point }

  -- where the closures of a group are while it is made
  abbrev pub at_group : Places → Hand → List Member → Places
  at_group at hand ms =
      placed_all (statics at ms) (names_of (kept ms)) (fresh_from (length (news hand ms)) (length (kept ms)))

  abbrev pub makers : Places → Hand → List Member → List Maker
  makers at hand ms =
      map (record_maker at) (news hand ms) ++ map (closure_maker (at_group at hand ms) (hand_new hand (news hand ms))) (kept ms)

  -- a group of closed functions makes nothing
  abbrev pub made : List Maker → Code → Code
  made [] c = c
  made (m ∷ ms) c = Make (m ∷ ms) c

  abbrev pub at_after : Places → List Member → Places
  at_after at ms = here_all (names_of (kept ms)) (statics at ms)

  -- ---- Bodies

  -- a function that is bound to the variable is called by its label
  abbrev pub target_by : Option Point → Target
  target_by None = target.Through
  target_by (Some p) = target.Known (label_of p)

  abbrev pub target_of : Atom → Target
  target_of (atom.Var x) = target_by (S.known x)
  target_of (atom.Constant k) = target.Through

  abbrev mutual
    pub lower : Places → Hand → cps.Code → Code
    lower at hand (cps.Make x s atoms c) =
        Make (record { var = x; shape = shape_of s; fields = operands_of at atoms } ∷ []) (lower (here at x) hand c)
    lower at hand (cps.Pick x i a c) = Let x (beyond (operand_of at a) i) (lower (here at x) hand c)
    lower at hand (cps.Prim x f atoms c) = Prim x f (operands_of at atoms) (lower (here at x) hand c)
    lower at hand (cps.Equal a b truth k) = Equal (operand_of at a) (operand_of at b) truth (operand_of at k)
    lower at hand (cps.Fix fs c) =
        let ms = members_of fs in
        made (makers at hand ms) (lower (at_after at ms) (hand_made hand (news hand ms)) c)
    lower at hand (cps.Call a atoms) = Call (target_of a) (operand_of at a) (operands_of at atoms)
    lower at hand (cps.Match a rules) = lower_rules at hand (operand_of at a) rules
    lower at hand (cps.Handler x c) = Handler x (lower (here at x) hand c)
    lower at hand (cps.SetHandler a c) = SetHandler (operand_of at a) (lower at hand c)
    lower at hand (cps.Throw a) = Throw (operand_of at a)
    lower at hand cps.Halt = Halt

    pub lower_rules : Places → Hand → Operand → Rules → Code
    lower_rules at hand o (Otherwise c) = lower at hand c
    lower_rules at hand o (Rule tests c rules) =
        When o (map (test_of at) tests) (lower at hand c) (lower_rules at hand o rules)

  -- a function's first parameter is its own closure
  abbrev pub lower_function : ℕ → Point → List ℕ → cps.Code → Routine
  lower_function f p params body =
      record { params = f ∷ params; code = lower (here_all params (S.inner p)) (S.slots p) body }
