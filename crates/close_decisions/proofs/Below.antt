-- The functions of a program have names below its bound.
use Rattle.std.proofs.Common.{ℕ, ◌<◌, List, [], ◌∷◌, ◌++◌}
use Rattle.std.specs.List.{AllByRecursion}
use Rattle.cps_ir.specs.Code.{Code, Make, Pick, Prim, Equal, Fix, Call, Match, Handler, SetHandler, Throw, Halt, Functions, NoFunction, Function, Rules, Otherwise, Rule}
use Rattle.cps_ir.specs.Free.{bound, bound_functions, bound_rules}
use Rattle.cps_ir.specs.Slim.{Layout, layouts, layouts_functions, layouts_rules}
use Rattle.cps_ir.specs.Program.{code_at}
use Rattle.cps_free.proofs.Unfold.{all_front, all_back}
use Rattle.close_laws.specs.Layouts.{facts}
use Rattle.close_decisions.specs.Tables.{ProgramsHave}
use Rattle.close_decisions.proofs.Having.{having}

both : {A : Type 0} (P : A → Type 0) (xs ys : List A) → AllByRecursion P xs → AllByRecursion P ys → AllByRecursion P (xs ++ ys)
both P [] ys h k = k
both P (x ∷ xs) ys h k = (h.0, both P xs ys h.1 k)

module _ (n : ℕ) where
  abbrev Is : ℕ → Type 0
  Is x = x < n

  abbrev Has : Layout → Type 0
  Has l = l.name < n

  mutual
    code_below : (c : Code) → AllByRecursion Is (bound c) → AllByRecursion Has (layouts c)
    code_below (Make x s atoms c) h = code_below c h.1
    code_below (Pick x i a c) h = code_below c h.1
    code_below (Prim x f atoms c) h = code_below c h.1
    code_below (Equal a b truth k) h = tt
    code_below (Fix fs c) h =
        both Has (layouts_functions fs) (layouts c) (functions_below fs (all_front Is (bound_functions fs) (bound c) h)) (code_below c (all_back Is (bound_functions fs) (bound c) h))
    code_below (Call a atoms) h = tt
    code_below (Match a rules) h = rules_below rules h
    code_below (Handler x c) h = code_below c h.1
    code_below (SetHandler a c) h = code_below c h
    code_below (Throw a) h = tt
    code_below Halt h = tt

    functions_below : (fs : Functions) → AllByRecursion Is (bound_functions fs) → AllByRecursion Has (layouts_functions fs)
    functions_below NoFunction h = tt
    functions_below (Function f p params body fs) h =
        let inner = all_back Is params (bound body ++ bound_functions fs) h.1 in
        (h.0, both Has (layouts body) (layouts_functions fs) (code_below body (all_front Is (bound body) (bound_functions fs) inner)) (functions_below fs (all_back Is (bound body) (bound_functions fs) inner)))

    rules_below : (rules : Rules) → AllByRecursion Is (bound_rules rules) → AllByRecursion Has (layouts_rules rules)
    rules_below (Otherwise c) h = code_below c h
    rules_below (Rule tests c rules) h =
        both Has (layouts c) (layouts_rules rules) (code_below c (all_front Is (bound c) (bound_rules rules) h)) (rules_below rules (all_back Is (bound c) (bound_rules rules) h))

pub programs : ProgramsHave
programs q kept d tables =
    having (facts q.variables (code_at q.bodies 0)) q.variables d tables (code_below q.variables (code_at q.bodies 0) kept.below)
