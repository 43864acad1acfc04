-- A function used once, a pick of a known tuple and a known test: two rounds leave nothing of them.
use Rattle.std.proofs.Common.{◌≡◌, ℕ, ℤ, pos, zero, suc, List, [], ◌∷◌, Option, Some, None, true, refl, arith}
use Rattle.smlc_base.specs.declared.point.Point.{Point}
use Rattle.smlc_base.specs.declared.point.PointKind.TheVariants.{Fn}
use Rattle.simulation.specs.Keeps.{Keeps}
use Rattle.simulation.proofs.Lists.{times-append}
use Rattle.cps_ir.specs.declared.atom.Constant.{Constant}
use Rattle.cps_ir.specs.declared.atom.Constant.TheVariants as constant
use Rattle.cps_ir.specs.declared.atom.Atom.{Atom}
use Rattle.cps_ir.specs.declared.atom.Test.{Test}
use Rattle.cps_ir.specs.declared.atom.Atom.TheVariants as atom
use Rattle.cps_ir.specs.declared.atom.Shape.TheVariants as form
use Rattle.cps_ir.specs.declared.atom.Wanted.TheVariants as want
use Rattle.cps_ir.specs.Code.{Code, Make, Pick, Fix, Call, Match, Throw, Halt, Functions, NoFunction, Function, Rules, Otherwise, Rule, Tree}
use Rattle.cps_ir.specs.Free.{labels}
use Rattle.cps_ir.specs.Run.{cps_run}
use Rattle.contract_laws.specs.Contract.{Body, Scope, start, lost, kept, Contracts, make, call, throw, no_make, inline, known_pick, chosen, group_gone, some_none, some_skip, no_alias, next_alias, no_body, put_body, RulesContract, last, Left, none, holds, IsKnown, known, Leads, here, there, Says, by_constant, Rounds, done, round}
use Rattle.contract_laws.specs.Redex.{HasNoRedex}
use Rattle.contract_laws.specs.Law.{with_code}
use Rattle.contract_laws.proofs.Rounds.{rounds_keep}

abbrev seven : Constant
seven = constant.Int (pos 7)

abbrev at : Point
at = record { node = 0; kind = Fn }

abbrev inside : Code
inside = Match (atom.Var 1) (Rule (record { path = []; want = want.Num (pos 7) } ∷ []) (Throw (atom.Var 1)) (Otherwise Halt))

-- fun f x = case x of 7 => throw x | _ => halt;  let t = (7, 7) in f (#1 t)
abbrev before : Code
before = Fix (Function 10 at (1 ∷ []) inside NoFunction) (Make 2 form.Tuple (atom.Constant seven ∷ atom.Constant seven ∷ []) (Pick 3 0 (atom.Var 2) (Call (atom.Var 10) (atom.Var 3 ∷ []))))

abbrev between : Code
between = Make 2 form.Tuple (atom.Constant seven ∷ atom.Constant seven ∷ []) (Throw (atom.Constant seven))

abbrev after : Code
after = Throw (atom.Constant seven)

first : Contracts [] [] 6 start before between
first = group_gone 5 start (lost start 10 None None) (lost start 10 None None) _ (Function 10 at (1 ∷ []) inside NoFunction) _ _ ((λ i. i), tt)
    (some_skip _ _ _ 10 at (1 ∷ []) inside NoFunction NoFunction (some_none _ _)) (next_alias _ _ 10 at (1 ∷ []) inside NoFunction (no_alias _)) (put_body _ _ 10 at (1 ∷ []) inside NoFunction refl (no_body _))
    (make 4 _ 2 form.Tuple _ (atom.Constant seven ∷ atom.Constant seven ∷ []) _ _ (refl, (refl, tt)) (λ i. i)
    (known_pick 3 _ 3 0 2 (atom.Var 2) (atom.Constant seven) _ _ _ refl refl refl
    (inline 1 _ 10 _ (atom.Var 3 ∷ []) (atom.Constant seven ∷ []) _ refl (refl, tt) tt
    (chosen 0 _ (atom.Var 1) (atom.Constant seven) _ _ refl (last 0 _ (atom.Constant seven) _ _ _ _ (holds _ _ _ (known (atom.Constant seven) (here (atom.Constant seven)) (by_constant seven (want.Num (pos 7)) true refl refl)) none) (throw 0 _ (atom.Var 1) (atom.Constant seven) refl))))))

second : Contracts [] [] 1 start between after
second = no_make 0 start 2 form.Tuple _ _ _ (throw 0 _ (atom.Constant seven) (atom.Constant seven) refl)

pub nothing_is_left : HasNoRedex [] after
nothing_is_left = tt

pub two_rounds : Rounds [] before after
two_rounds = round 6 before between after first (λ p. omega arith) (round 1 between after after second (λ p. omega arith) (done after))

pub example_keeps : (q : Tree) → q.texts ≡ [] → (input : List ℕ) → Rounds q.texts before after → Keeps (cps_run (with_code q before) input) (cps_run (with_code q after) input)
example_keeps q e input r = rounds_keep q before after r input
