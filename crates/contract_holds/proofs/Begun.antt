-- Bodies that are begun, with their tasks.
use Rattle.std.proofs.Common.{◌≡◌, ◌≢◌, ℕ, zero, suc, ◌+◌, ◌≤◌, List, [], ◌∷◌, ◌++◌, length, map, replicate, refl, sym, ap, ◌∙◌, arith, append_assoc, append-nil, length-append}
use Rattle.std.specs.Prelude.{get_or, slice_set}
use Rattle.std.proofs.lemmas.List.{length-replicate, get_or-set_other}
use Rattle.cps_ir.specs.declared.body.Rule.{Rule}
use Rattle.cps_ir.specs.declared.body.Body.{Body}
use Rattle.contract_rows.specs.Rows.{empty, numbers}
use Rattle.contract_group.specs.declared.task.Task.{Task}
use Rattle.contract_steps.specs.Steps.{task_from, rules_from, rule_tasks, rule_bodies}
use Rattle.contract_holds.specs.Fits.{binds_of, slots_of}

pub replicate_more : (m : ℕ) → replicate m empty ++ empty ∷ [] ≡ replicate (suc m) empty
replicate_more zero = refl
replicate_more (suc m) = ap (λ bs. empty ∷ bs) (replicate_more m)

pub numbers_more : (n m : ℕ) → numbers n (suc m) ≡ numbers n m ++ (n + m) ∷ []
numbers_more n zero = let e : n ≡ n + 0 = omega arith in ap (λ i. i ∷ []) e
numbers_more n (suc m) = let e : suc n + m ≡ n + suc m = omega arith in ap (λ is. n ∷ is) (numbers_more (suc n) m) ∙ ap (λ i. n ∷ (numbers (suc n) m ++ i ∷ [])) e

-- an empty body stands behind those that were there
pub past_empty : (bodies : List Body) (k i : ℕ) → length bodies ≤ i → get_or (bodies ++ replicate k empty) i empty ≡ empty
past_empty [] zero i h = refl
past_empty [] (suc k) zero h = refl
past_empty [] (suc k) (suc i) h = past_empty [] k i (omega arith)
past_empty (b ∷ bodies) k zero h = absurd (omega arith)
past_empty (b ∷ bodies) k (suc i) h = past_empty bodies k i (omega arith)

pub past_binds : (bodies : List Body) (k slot i : ℕ) (b : Body) → i ≢ slot → length bodies ≤ i → binds_of (slice_set (bodies ++ replicate k empty) slot b) i ≡ []
past_binds bodies k slot i b n h = ap (λ c. c.binds) (get_or-set_other (bodies ++ replicate k empty) slot i b empty n ∙ past_empty bodies k i h)

-- ---- Rules

pub rules_parts : (n : ℕ) (rules : List Rule) → map (λ r. r.body) (rules_from n rules) ≡ numbers n (length rules)
rules_parts n [] = refl
rules_parts n (r ∷ rules) = ap (λ is. n ∷ is) (rules_parts (suc n) rules)

pub rule_bodies_are : (rules : List Rule) (bodies : List Body) → rule_bodies rules bodies ≡ bodies ++ replicate (length rules) empty
rule_bodies_are [] bodies = sym (append-nil bodies)
rule_bodies_are (r ∷ rules) bodies = rule_bodies_are rules (bodies ++ empty ∷ []) ∙ append_assoc bodies (empty ∷ []) (replicate (length rules) empty)

pub bodies_length : (rules : List Rule) (bodies : List Body) → length (rule_bodies rules bodies) ≡ length bodies + length rules
bodies_length rules bodies = ap length (rule_bodies_are rules bodies) ∙ length-append bodies (replicate (length rules) empty) ∙ ap (λ n. length bodies + n) (length-replicate (length rules) empty)

abbrev pub tasks_list : ℕ → ℕ → List Rule → List Task
tasks_list root n [] = []
tasks_list root n (r ∷ rules) = task_from root n r.body ∷ tasks_list root (suc n) rules

pub rule_tasks_are : (root n : ℕ) (rules : List Rule) (work : List Task) → rule_tasks root n rules work ≡ work ++ tasks_list root n rules
rule_tasks_are root n [] work = sym (append-nil work)
rule_tasks_are root n (r ∷ rules) work = rule_tasks_are root (suc n) rules (work ++ task_from root n r.body ∷ []) ∙ append_assoc work (task_from root n r.body ∷ []) (tasks_list root (suc n) rules)

pub list_slots : (root n : ℕ) (rules : List Rule) → slots_of (tasks_list root n rules) ≡ numbers n (length rules)
list_slots root n [] = refl
list_slots root n (r ∷ rules) = ap (λ is. n ∷ is) (list_slots root (suc n) rules)
