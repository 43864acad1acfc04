-- How a plan is written.
use Rattle.std.specs.Prelude.{ℕ, suc, List, [], ◌∷◌, ◌++◌, length, flat_map, codes}
use Rattle.std.specs.Fmt.{decimal}
use Rattle.smlc_base.specs.declared.point.Label.{Label}
use Rattle.smlc_base.specs.declared.point.PointKind.{PointKind}
use Rattle.smlc_base.specs.declared.point.PointKind.TheVariants as kind
use Rattle.lifetime_users.specs.declared.class.Class.{Class}
use Rattle.close_laws.specs.declared.plan.LabelPlan.{LabelPlan}
use Rattle.close_laws.specs.declared.plan.Plan.{Plan}

abbrev pub kind_text : PointKind → List ℕ
kind_text kind.Fn = codes "fn"
kind_text kind.Ret = codes "ret"
kind_text kind.Caught = codes "caught"
kind_text kind.Popped = codes "popped"
kind_text kind.Eq = codes "eq"

abbrev pub newline : List ℕ
newline = 10 ∷ []

-- the place is FILE:LINE:COL
abbrev pub label_line : ℕ → LabelPlan → List ℕ
label_line n l =
    codes "label " ++ decimal n ++ codes " " ++ kind_text l.point.kind ++ codes " " ++ decimal l.place.file ++ codes ":" ++ decimal l.place.line ++ codes ":" ++ decimal l.place.col ++ codes " words " ++ decimal l.words ++ codes " records " ++ decimal l.records ++ codes " source " ++ decimal l.source ++ newline

abbrev pub user_text : Label → List ℕ
user_text user = codes " " ++ decimal user.0

abbrev pub class_line : ℕ → Class → List ℕ
class_line n k =
    codes "class " ++ decimal n ++ codes " size " ++ decimal (length k.vars) ++ codes " users" ++ flat_map user_text k.users ++ newline

-- one line for each, numbered from n on
abbrev pub lines_from : {X : Type 0} → (ℕ → X → List ℕ) → ℕ → List X → List ℕ
lines_from line n [] = []
lines_from line n (x ∷ xs) = line n x ++ lines_from line (suc n) xs

-- a line for each label, one for each class, the factor, and the words that a path through a body spills
abbrev pub plan_text : Plan → List ℕ
plan_text p =
    lines_from label_line 0 p.labels ++ lines_from class_line 0 p.classes.of ++ codes "factor " ++ decimal p.factor ++ newline ++ codes "spill " ++ decimal p.spill ++ newline
