-- The counts of a whole program.
use Rattle.std.proofs.Common.{◌≡◌, ℕ, ◌+◌, ◌<◌, ◌≤◌, List, [], ◌∷◌, Bool, true, false, cond, None, replicate, refl, sym, ap, ◌∙◌, subst, arith, ⊎_elim, nat_eq, eqb-true}
use Rattle.std.specs.List.{AllByRecursion}
use Rattle.std.proofs.lemmas.Bool.{cases_lt}
use Rattle.std.proofs.lemmas.List.{length-replicate, get_or-replicate}
use Rattle.cps_ir.specs.Code.{Code}
use Rattle.cps_ir.specs.Program.{Cps, code_at, tree_of}
use Rattle.cps_ir.specs.Kept.{IsProgram}
use Rattle.cps_ir.specs.Free.{bound}
use Rattle.contract_laws.specs.Weigh.{names_weigh, of_name}
use Rattle.contract_laws.proofs.Free.{In}
use Rattle.contract_round.proofs.Facts.{own}
use Rattle.contract_round.proofs.Counts.{bound_weigh, distinct_weighs}
use Rattle.contract_census.specs.declared.counts.Count.{Count}
use Rattle.contract_census.specs.Counting.{nothing_counted, count_at}
use Rattle.contract_census.specs.Counted.{IsCensus}
use Rattle.contract_census.specs.Run.{run_whole}
use Rattle.contract_census.proofs.Tally.{Tally}
use Rattle.contract_census.proofs.Context.{nothing_said, said}

above : (n y : ℕ) (xs : List ℕ) → n ≤ y → AllByRecursion (λ x. x < n) xs → names_weigh (of_name y) xs ≡ 0
above n y [] h a = refl
above n y (x ∷ xs) h a = let g = above n y xs h a.1 in let l = a.0 in by (nat_eq y x) refl g l
  where
    by : (b : Bool) → nat_eq y x ≡ b → names_weigh (of_name y) xs ≡ 0 → x < n → own y x + names_weigh (of_name y) xs ≡ 0
    by true e g l = let k = eqb-true y x e in absurd (omega arith)
    by false e g l = let k : own y x ≡ 0 = ap (λ b. cond b 1 0) e in omega arith

pub counted : (q : Cps) → IsProgram q → IsCensus (run_whole q.variables (code_at q.bodies 0)) (tree_of q).code
counted q p y = ⊎_elim
    (λ (l : y < q.variables). said y c None s (λ z. let e = bound_weigh z c in let d = distinct_weighs (bound c) p.once z in omega arith) (λ g e. absurd (cc)) (λ i. let k : In y [] = subst (In y) p.closed i in absurd (cc)) (begun l))
    (λ (l : q.variables ≤ y). nothing_said y (count_at (run_whole q.variables c) y) c (bound_weigh y c ∙ above q.variables y (bound c) l p.below))
    (cases_lt y q.variables)
  where
    c : Code
    c = code_at q.bodies 0

    s : List Count
    s = replicate q.variables nothing_counted

    begun : y < q.variables → Tally y None false 0 0 0 s
    begun l =
        let e = get_or-replicate q.variables y nothing_counted nothing_counted l in
        record {
          stands = subst (λ n. y < n) (sym (length-replicate q.variables nothing_counted)) l;
          used = ap (λ k. k.uses) e;
          outside = ap (λ k. k.outside) e;
          called = ap (λ k. k.calls) e;
          opened = ap (λ k. k.is_open) e;
          home = ap (λ k. k.home) e;
        }
