-- Sums of uses, where nothing is bound.
use Rattle.std.proofs.Common.{◌≡◌, ℕ, ◌+◌, ◌≤◌, List, [], ◌∷◌, Option, Some, None, cond, inl, inr, refl, sym, ap, subst, arith}
use Rattle.simulation.specs.Blocks.{IsAmong}
use Rattle.sml_tree.specs.Sets.{has}
use Rattle.cps_ir.specs.declared.body.Function.{Function as Entry}
use Rattle.cps_ir.specs.declared.body.Body.{Body}
use Rattle.cps_ir.specs.Code.{Code, Functions}
use Rattle.cps_ir.specs.Program.{code_at, functions_of}
use Rattle.contract_laws.specs.Redex.{uses, uses_functions}
use Rattle.contract_laws.specs.Weigh.{weigh, names_weigh, of_name}
use Rattle.contract_round.proofs.Facts.{own_same}
use Rattle.contract_round.proofs.Group.{IsEta}
use Rattle.contract_round.proofs.Names.{inside_weigh}
use Rattle.contract_census.specs.declared.counts.Count.{Count}
use Rattle.contract_census.specs.Counting.{count_at}
use Rattle.contract_census.specs.Counted.{IsCensus, AreCounts}
use Rattle.contract_group.specs.declared.task.Placed.{Placed}
use Rattle.contract_group.specs.declared.task.Task.{Task}
use Rattle.contract_holds.specs.Open.{occurs, occurs_in, occurs_functions, binds_in, inner, work_sum, placed_sum}
use Rattle.contract_holds.proofs.Occurs.{cond_has, uses_occurs, calls_inner}

module _ (source : List Body) (x : ℕ) where
  pub work_quiet : (work : List Task) → work_sum source (λ d. weigh (of_name x) d) work ≡ 0 → work_sum source (λ d. uses x d) work ≤ work_sum source (λ d. occurs x d) work
  work_quiet [] e = omega arith
  work_quiet (t ∷ work) e = let h = work_quiet work (omega arith) in let u = uses_occurs x (code_at source t.body) (omega arith) in omega arith

  pub work_inner : (work : List Task) → work_sum source (λ d. inner x d) work ≤ work_sum source (λ d. uses x d) work
  work_inner [] = omega arith
  work_inner (t ∷ work) = let h = work_inner work in let u = calls_inner x 0 (code_at source t.body) in omega arith

  pub placed_quiet : (table : List (Option Placed)) → placed_sum source (binds_in x) table ≡ 0 → placed_sum source (λ ps d. uses x d) table ≤ placed_sum source (occurs_in x) table
  placed_quiet [] e = omega arith
  placed_quiet (None ∷ table) e = placed_quiet table e
  placed_quiet (Some p ∷ table) e =
      let h = placed_quiet table (omega arith) in
      let u = uses_occurs x (code_at source p.body) (omega arith) in
      let c = cond_has x p.params (occurs x (code_at source p.body)) (omega arith) in
      omega arith

module _ (part : ℕ → Code) where
  pub uses_in : (x : ℕ) (fs : List Entry) (f : Entry) → IsAmong f fs → uses x (part f.body) ≤ uses_functions x (functions_of part fs)
  uses_in x [] f i = absurd i
  uses_in x (g ∷ fs) f (inl e) = let q : uses x (part f.body) ≡ uses x (part g.body) = ap (λ h. uses x (part h.body)) e in omega arith
  uses_in x (g ∷ fs) f (inr i) = let h = uses_in x fs f i in omega arith

  pub inside_in : (x : ℕ) (fs : List Entry) (f : Entry) → IsAmong f fs → names_weigh (of_name x) f.params + weigh (of_name x) (part f.body) ≤ inside_weigh x (functions_of part fs)
  inside_in x [] f i = absurd i
  inside_in x (g ∷ fs) f (inl e) = let q : names_weigh (of_name x) f.params + weigh (of_name x) (part f.body) ≡ names_weigh (of_name x) g.params + weigh (of_name x) (part g.body) = ap (λ h. names_weigh (of_name x) h.params + weigh (of_name x) (part h.body)) e in omega arith
  inside_in x (g ∷ fs) f (inr i) = let h = inside_in x fs f i in omega arith

  -- what a function only calls occurs
  eta_occurs : (f x : ℕ) (params : List ℕ) (b : Code) → IsEta f params b x → 1 ≤ cond (has params x) 0 (occurs x b)
  eta_occurs f x params b e =
      let o = own_same x x refl in
      let u : 1 ≤ occurs x b = subst (λ c. 1 ≤ occurs x c) (sym e.code) (omega arith) in
      subst (λ h. 1 ≤ cond h 0 (occurs x b)) (sym e.outside) u

  pub target_occurs : (x : ℕ) (fs : List Entry) (f : Entry) → IsAmong f fs → IsEta f.name f.params (part f.body) x → 1 ≤ occurs_functions x (functions_of part fs)
  target_occurs x [] f i e = absurd i
  target_occurs x (g ∷ fs) f (inl q) e = let u = eta_occurs f.name x f.params (part f.body) e in let k = subst (λ h. 1 ≤ cond (has h.params x) 0 (occurs x (part h.body))) q u in omega arith
  target_occurs x (g ∷ fs) f (inr i) e = let h = target_occurs x fs f i e in omega arith

  pub each_counted : (counts : List Count) (all : Functions) (c : Code) (fs : List Entry) → ((x : ℕ) → AreCounts x (count_at counts x) all c (functions_of part fs)) → (f : Entry) → IsAmong f fs → IsCensus counts (part f.body)
  each_counted counts all c [] h f i = absurd i
  each_counted counts all c (g ∷ fs) h f (inl e) = subst (λ b. IsCensus counts (part b.body)) (sym e) (λ x. let k = h x in k.1)
  each_counted counts all c (g ∷ fs) h f (inr i) = each_counted counts all c fs (λ x. let k = h x in k.2) f i
