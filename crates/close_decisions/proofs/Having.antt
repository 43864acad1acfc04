-- The tables of a program have what its design decides.
use Rattle.std.proofs.Common.{◌≡◌, ℕ, zero, suc, ◌+◌, ◌<◌, ◌≤◌, Bool, true, false, cond, List, [], ◌∷◌, Option, Some, None, map, length, slice_get, refl, sym, ap, ◌∙◌, arith, eqb-true}
use Rattle.std.specs.Prelude.{nat_eq, nat_lt}
use Rattle.std.specs.List.{AllByRecursion}
use Rattle.cps_ir.specs.Slim.{Layout}
use Rattle.close_laws.specs.Layouts.{Facts, layout_named, point_of, vars_in}
use Rattle.close_laws.specs.Close.{design_of}
use Rattle.closure_layouts.specs.Found.{closure_at}
use Rattle.close_steps.specs.declared.decisions.Decision.{Decision}
use Rattle.close_steps.specs.Visible.{decided, decision_of, at_number}
use Rattle.close_decisions.specs.Tables.{number_of, decision_with, decisions_with, TablesHave}

abbrev next : Option ℕ → Option ℕ
next None = None
next (Some i) = Some (suc i)

shifted : (n : ℕ) (ls : List Layout) (x : ℕ) → number_of (suc n) ls x ≡ next (number_of n ls x)
shifted n [] x = refl
shifted n (l ∷ ls) x = by (nat_eq l.name x) (shifted (suc n) ls x)
  where
    by : (b : Bool) → number_of (suc (suc n)) ls x ≡ next (number_of (suc n) ls x) → cond b (Some (suc n)) (number_of (suc (suc n)) ls x) ≡ next (cond b (Some n) (number_of (suc n) ls x))
    by true e = refl
    by false e = e

one_further : (f : Decision) (fs : List Decision) (m : Option ℕ) → at_number (f ∷ fs) (Some (next m)) ≡ at_number fs (Some m)
one_further f fs None = refl
one_further f fs (Some i) = refl

past_end : (xs : List (Option ℕ)) (i : ℕ) → length xs ≤ i → slice_get xs i ≡ None
past_end [] i h = refl
past_end (x ∷ xs) zero h = absurd (omega (arith, h))
past_end (x ∷ xs) (suc i) h = past_end xs i (omega (arith, h))

none_named : (variables x : ℕ) (ls : List Layout) → variables ≤ x → AllByRecursion (λ l. l.name < variables) ls → layout_named ls x ≡ None
none_named variables x [] h a = refl
none_named variables x (l ∷ ls) h a = by (nat_eq l.name x) refl (none_named variables x ls h a.1)
  where
    by : (b : Bool) → nat_eq l.name x ≡ b → layout_named ls x ≡ None → cond b (Some l) (layout_named ls x) ≡ None
    by true e r = absurd (let q = eqb-true l.name x e in let p = a.0 in omega (arith, q, p, h))
    by false e r = r

module _ (A : Facts) where
  at_name : (ls : List Layout) (x : ℕ) → at_number (decisions_with A.all ls (map (λ l. closure_at A l.point) ls)) (Some (number_of 0 ls x)) ≡ decision_of (design_of A) (point_of (layout_named ls x))
  at_name [] x = refl
  at_name (l ∷ ls) x = by (nat_eq l.name x) (at_name ls x)
    where
      by : (b : Bool) → at_number (decisions_with A.all ls (map (λ k. closure_at A k.point) ls)) (Some (number_of 0 ls x)) ≡ decision_of (design_of A) (point_of (layout_named ls x)) → at_number (decision_with A.all l (closure_at A l.point) ∷ decisions_with A.all ls (map (λ k. closure_at A k.point) ls)) (Some (cond b (Some 0) (number_of 1 ls x))) ≡ decision_of (design_of A) (point_of (cond b (Some l) (layout_named ls x)))
      by true e = refl
      by false e =
          ap (λ m. at_number (decision_with A.all l (closure_at A l.point) ∷ decisions_with A.all ls (map (λ k. closure_at A k.point) ls)) (Some m)) (shifted 0 ls x)
          ∙ one_further (decision_with A.all l (closure_at A l.point)) (decisions_with A.all ls (map (λ k. closure_at A k.point) ls)) (number_of 0 ls x)
          ∙ e

pub having : TablesHave
having A variables d tables below = record {
  functions = all_decided;
  members = λ k. ap (λ ks. vars_in (slice_get ks k)) tables.classes;
  records = λ k. ap (λ n. n + k) (sym tables.first);
}
  where
    within : (x : ℕ) → x < variables → decided d x ≡ decision_of (design_of A) ((design_of A).known x)
    within x h = ap (λ fs. at_number fs (slice_get d.numbers x)) tables.functions ∙ ap (at_number (decisions_with A.all A.all (map (λ l. closure_at A l.point) A.all))) (tables.numbers.at x h) ∙ at_name A A.all x

    past : (x : ℕ) → variables ≤ x → decided d x ≡ decision_of (design_of A) ((design_of A).known x)
    past x h =
        ap (at_number d.functions) (past_end d.numbers x (let n = tables.numbers.len in omega (arith, n, h)))
        ∙ sym (ap (λ o. decision_of (design_of A) (point_of o)) (none_named variables x A.all h below))

    by_order : (x : ℕ) (b : Bool) → nat_lt x variables ≡ b → decided d x ≡ decision_of (design_of A) ((design_of A).known x)
    by_order x true e = within x (grind (arith, e))
    by_order x false e = past x (grind (arith, e))

    all_decided : (x : ℕ) → decided d x ≡ decision_of (design_of A) ((design_of A).known x)
    all_decided x = by_order x (nat_lt x variables) refl
