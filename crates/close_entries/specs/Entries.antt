-- What a function's body sees at its beginning, as data.
use Rattle.std.specs.Prelude.{◌≡◌, ℕ, suc, ◌+◌, false, cond, List, [], ◌∷◌, ◌++◌, length, Some}
use Rattle.smlc_base.specs.declared.point.Point.{Point}
use Rattle.cps_ir.specs.Code as cps
use Rattle.close_laws.specs.Layouts.{Facts, name_at}
use Rattle.close_laws.specs.Lower.{lower, lower_function}
use Rattle.close_laws.specs.Close.{design_of}
use Rattle.close_scopes.specs.declared.found.Found.TheVariants as found
use Rattle.close_scopes.specs.declared.scopes.Bound.{Bound}
use Rattle.close_scopes.specs.Scopes.{over}
use Rattle.close_steps.specs.declared.decisions.Decision.{Decision}
use Rattle.close_steps.specs.declared.decisions.Decisions.{Decisions}
use Rattle.close_steps.specs.Visible.{Have, Visible, class_members, decision_of, places_in, hand_in}
use Rattle.close_groups.specs.Group.{at, themselves}

-- in the fields of a closure, from field n on
abbrev pub fields_from : ℕ → ℕ → List ℕ → List Bound
fields_from f n [] = []
fields_from f n (x ∷ xs) = at x (found.Field f n) ∷ fields_from f (suc n) xs

-- in the fields of the record in field j, from its field i on
abbrev pub shared_from : ℕ → ℕ → ℕ → List ℕ → List Bound
shared_from f j i [] = []
shared_from f j i (x ∷ xs) = at x (found.Shared f j i) ∷ shared_from f j (suc i) xs

-- through the records of these classes, from field j on
abbrev pub through_records : Decisions → ℕ → ℕ → List ℕ → List Bound
through_records d f j [] = []
through_records d f j (k ∷ ks) = shared_from f j 0 (class_members d k) ++ through_records d f (suc j) ks

-- where the fields behind the code word begin
abbrev pub first_field : Decision → ℕ
first_field k = cond k.has_code 1 0

-- what a closure has, the first innermost
abbrev pub closure_bounds : Decisions → ℕ → Decision → List Bound
closure_bounds d f k =
    at f (found.Here f) ∷ (fields_from f (first_field k + length k.classes) k.own ++ through_records d f (first_field k) k.classes)

abbrev pub entered : Decisions → ℕ → Decision → List ℕ → Visible
entered d f k params = record {
  is_main = false;
  variables = over (themselves params) (closure_bounds d f k);
  records = fields_from f (first_field k) k.classes;
}

-- a function is what its body comes to, where that sees this
abbrev pub FunctionsAreEntered : Type 0
FunctionsAreEntered =
    (A : Facts) (d : Decisions) → Have (design_of A) d → (p : Point) (k : Decision) → decision_of (design_of A) (Some p) ≡ Some k
    → (params : List ℕ) (c : cps.Code)
    → lower_function (design_of A) (name_at A p) p params c
    ≡ record { params = name_at A p ∷ params; code = lower (design_of A) (places_in d (entered d (name_at A p) k params)) (hand_in (entered d (name_at A p) k params)) c }
