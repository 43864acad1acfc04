-- Steps that are there where a variable lives on.
use Rattle.std.proofs.Common.{◌≡◌, Bool, true, false, List, [], ◌∷◌, ◌++◌, cond, Some, None, refl, ap, ◌∙◌, Result, Ok, Err, OnOk}
use Rattle.placed_ir.specs.declared.home.Home.{Home}
use Rattle.placed_ir.specs.declared.body.Step.{Step}
use Rattle.reg_spill.specs.Homed.{homed}

pub homed_if : (f : Home → Step) (b : Bool) (h : Home) → homed f (cond b (Some h) None) ≡ cond b (f h ∷ []) []
homed_if f true h = refl
homed_if f false h = refl

-- the same behind a step that answers the same
pub then_same : {E : Type 0} (r : Result (Unit {0}) E) (old new mid all : List Step) → mid ≡ all → OnOk r (new ≡ old ++ mid) → OnOk r (new ≡ old ++ all)
then_same (Ok u) old new mid all f h = h ∙ ap (λ xs. old ++ xs) f
then_same (Err e) old new mid all f h = tt

pub then_is : {E : Type 0} {X : Type 0} (r : Result (Unit {0}) E) (x y z : X) → y ≡ z → OnOk r (x ≡ y) → OnOk r (x ≡ z)
then_is (Ok u) x y z f h = h ∙ f
then_is (Err e) x y z f h = tt

append_one : (old : List Step) (s : Step) (rest : List Step) → (old ++ s ∷ []) ++ rest ≡ old ++ (s ∷ rest)
append_one [] s rest = refl
append_one (o ∷ old) s rest = ap (λ xs. o ∷ xs) (append_one old s rest)

-- behind one step more
pub then_pushed : {E : Type 0} (r : Result (Unit {0}) E) (old pushed new : List Step) (s t : Step) (mid all : List Step) → pushed ≡ old ++ s ∷ [] → s ≡ t → mid ≡ all → OnOk r (new ≡ pushed ++ mid) → OnOk r (new ≡ old ++ (t ∷ all))
then_pushed (Ok u) old pushed new s t mid all e f g h =
    h ∙ ap (λ xs. xs ++ mid) e ∙ append_one old s mid ∙ ap (λ k. old ++ (k ∷ mid)) f ∙ ap (λ xs. old ++ (t ∷ xs)) g
then_pushed (Err e) old pushed new s t mid all f g i h = tt
