-- One function more has its number.
use Rattle.std.proofs.Common.{◌≡◌, ℕ, zero, suc, ◌+◌, ◌-◌, ◌++◌, subst, ◌<◌, ◌≤◌, Bool, true, false, cond, List, [], ◌∷◌, Option, Some, None, length, drop, replicate, slice_get, refl, sym, ap, ◌∙◌, arith, length-set, eqb-true, drop-cons}
use Rattle.std.specs.Prelude.{nat_eq, slice_set, slice_index_or}
use Rattle.cps_ir.specs.Slim.{Layout}
use Rattle.std.proofs.lemmas.List.{drop_all}
use Rattle.lifetime_users.specs.Users.{label_in}
use Rattle.closure_layouts.specs.declared.layouts.ClosureLayout.{ClosureLayout}
use Rattle.close_steps.specs.declared.decisions.Decision.{Decision}
use Rattle.simulation.proofs.Lists.{get_set_other}
use Rattle.close_decisions.specs.Tables.{number_of, decision_with, decisions_with, AreNumbers}

set_same : {A : Type 0} (xs : List A) (i : ℕ) (x : A) → i < length xs → slice_get (slice_set xs i x) i ≡ Some x
set_same [] i x h = absurd (omega (arith, h))
set_same (y ∷ ys) zero x h = refl
set_same (y ∷ ys) (suc i) x h = set_same ys i x (omega (arith, h))

pub one_more : (variables i : ℕ) (l : Layout) (ls : List Layout) (numbers : List (Option ℕ)) → AreNumbers variables (suc i) ls numbers → AreNumbers variables i (l ∷ ls) (slice_set numbers l.name (Some i))
one_more variables i l ls numbers are = record {
  len = length-set numbers l.name (Some i) ∙ are.len;
  at = λ x h. by x h (nat_eq l.name x) refl;
}
  where
    by : (x : ℕ) → x < variables → (b : Bool) → nat_eq l.name x ≡ b → slice_get (slice_set numbers l.name (Some i)) x ≡ Some (cond (nat_eq l.name x) (Some i) (number_of (suc i) ls x))
    by x h true e =
        let q : l.name ≡ x = eqb-true l.name x e in
        let n = are.len in
        ap (slice_get (slice_set numbers l.name (Some i))) (sym q) ∙ set_same numbers l.name (Some i) (omega (arith, q, n, h)) ∙ sym (ap (λ b. Some (cond b (Some i) (number_of (suc i) ls x))) e)
    by x h false e =
        get_set_other numbers l.name (Some i) x (λ q. absurd (let f : nat_eq l.name x ≡ true = grind (arith, q) in let g : true ≡ false = sym f ∙ e in cc))
        ∙ are.at x h ∙ sym (ap (λ b. Some (cond b (Some i) (number_of (suc i) ls x))) e)

abbrev none_of : Option ℕ
none_of = None

replicated : (n x : ℕ) → x < n → slice_get (replicate n none_of) x ≡ Some None
replicated zero x h = absurd (omega (arith, h))
replicated (suc n) zero h = refl
replicated (suc n) (suc x) h = replicated n x (omega (arith, h))

replicated_length : (n : ℕ) → length (replicate n none_of) ≡ n
replicated_length zero = refl
replicated_length (suc n) = ap suc (replicated_length n)

pub none_yet : (variables i : ℕ) (numbers : List (Option ℕ)) → numbers ≡ replicate variables None → AreNumbers variables i [] numbers
none_yet variables i numbers e = record {
  len = ap length e ∙ replicated_length variables;
  at = λ x h. ap (λ xs. slice_get xs x) e ∙ replicated variables x h;
}

pub one_back : (variables i : ℕ) (all : List Layout) (d k : Layout) (numbers later : List (Option ℕ)) (name number : ℕ) → 0 < i → i ≤ length all → k ≡ slice_index_or all (i - 1) d → AreNumbers variables i (drop i all) numbers → later ≡ slice_set numbers name (Some number) → name ≡ k.name → number ≡ i - 1 → AreNumbers variables (i - 1) (drop (i - 1) all) later
one_back variables i all d k numbers later name number pos le is are set named numbered =
    let next : suc (i - 1) ≡ i = omega (arith, pos) in
    let front : drop (i - 1) all ≡ k ∷ drop i all = drop-cons all (i - 1) d (omega (arith, pos, le)) ∙ ap (λ l. l ∷ drop (suc (i - 1)) all) (sym is) ∙ ap (λ n. k ∷ drop n all) next in
    let before : AreNumbers variables (suc (i - 1)) (drop i all) numbers = subst (λ n. AreNumbers variables n (drop i all) numbers) (sym next) are in
    subst (λ ls. AreNumbers variables (i - 1) ls later) (sym front)
    (subst (AreNumbers variables (i - 1) (k ∷ drop i all)) (sym (set ∙ ap (λ x. slice_set numbers x (Some number)) named ∙ ap (λ n. slice_set numbers k.name (Some n)) numbered)) (one_more variables (i - 1) k (drop i all) numbers before))

pub all_yet : (variables n : ℕ) (all : List Layout) (numbers : List (Option ℕ)) → numbers ≡ replicate variables None → n ≡ length all → AreNumbers variables n (drop n all) numbers
all_yet variables n all numbers e h = subst (λ ls. AreNumbers variables n ls numbers) (sym (drop_all n all (omega (arith, h)))) (none_yet variables n numbers e)

append_one : (xs : List Decision) (x : Decision) (ys : List Decision) → (xs ++ x ∷ []) ++ ys ≡ xs ++ x ∷ ys
append_one [] x ys = refl
append_one (z ∷ xs) x ys = ap (λ zs. z ∷ zs) (append_one xs x ys)

-- one function more is decided
pub decided_more : (all ls : List Layout) (ks : List ClosureLayout) (i : ℕ) (dl l : Layout) (dk k : ClosureLayout) (fs later whole : List Decision) (one : Decision) (n : ℕ) → i < length ls → length ks ≡ length ls → l ≡ slice_index_or ls i dl → k ≡ slice_index_or ks i dk → n ≡ label_in all l.point → one ≡ record { label = record { 0 = n }; is_static = k.is_static; has_code = k.has_code; classes = k.classes; own = k.own } → later ≡ fs ++ one ∷ [] → fs ++ decisions_with all (drop i ls) (drop i ks) ≡ whole → later ++ decisions_with all (drop (i + 1) ls) (drop (i + 1) ks) ≡ whole
decided_more all ls ks i dl l dk k fs later whole one n lt len isl isk named decided pushed before =
    let next : suc i ≡ i + 1 = omega arith in
    let left : drop i ls ≡ l ∷ drop (i + 1) ls = drop-cons ls i dl lt ∙ ap (λ j. j ∷ drop (suc i) ls) (sym isl) ∙ ap (λ m. l ∷ drop m ls) next in
    let right : drop i ks ≡ k ∷ drop (i + 1) ks = drop-cons ks i dk (omega (arith, lt, len)) ∙ ap (λ j. j ∷ drop (suc i) ks) (sym isk) ∙ ap (λ m. k ∷ drop m ks) next in
    let same : one ≡ decision_with all l k = decided ∙ ap (λ m. record { label = record { 0 = m }; is_static = k.is_static; has_code = k.has_code; classes = k.classes; own = k.own }) named in
    ap (λ gs. gs ++ decisions_with all (drop (i + 1) ls) (drop (i + 1) ks)) (pushed ∙ ap (λ f. fs ++ f ∷ []) same)
    ∙ append_one fs (decision_with all l k) (decisions_with all (drop (i + 1) ls) (drop (i + 1) ks))
    ∙ sym (ap (λ js. fs ++ decisions_with all js (drop i ks)) left ∙ ap (λ js. fs ++ decisions_with all (l ∷ drop (i + 1) ls) js) right)
    ∙ before
