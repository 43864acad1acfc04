-- bytes that were written, in parts
use Rattle.std.proofs.Common.{◌≡◌, ◌⊎◌, inl, inr, refl, ℕ, ◌-◌, List, ◌++◌, length, take, drop, arith, sym, ap, subst, ◌∙◌, Option, Result, Ok, Err, append_assoc, length-drop}
use Rattle.std.specs.Prelude.{OnOk}
use Rattle.std.proofs.lemmas.List.{take-append-drop, take_all}
use Rattle.smlc_edge.specs.declared.edge.Failed.{Failed}
use Rattle.smlc_edge.specs.Edge.{Gains, Fails}
use Rattle.smlc_edge.proofs.Gained.{gains_more}
use Rattle.smlc_jobs.specs.Write.{Whole, Said}

pub rest_is : (n : ℕ) (rest : List ℕ) → take (length rest - n) (drop n rest) ≡ drop n rest
rest_is n rest = take_all (length rest - n) (drop n rest) (simp length-drop (omega arith))

pub part_written : (wrote rest bytes : List ℕ) (n : ℕ) → wrote ++ rest ≡ bytes → (wrote ++ take n rest) ++ take (length rest - n) (drop n rest) ≡ bytes
part_written wrote rest bytes n h = rw (rest_is n rest) (append_assoc wrote (take n rest) (drop n rest) ∙ ap (λ (z : List ℕ). wrote ++ z) (take-append-drop n rest) ∙ h)

-- bytes behind bytes that were all written
pub whole-both : (first second : List ℕ) (r : Result (Unit {0}) Failed) (t t' t'' : Option (List ℕ)) → Whole first (Ok tt) t t' → Whole second r t' t'' → Whole (first ++ second) r t t''
whole-both first second r t t' t'' a b = record {
  wrote = first ++ b.wrote;
  gains = subst (λ (x : List ℕ). Gains t t'' (x ++ b.wrote)) a.all (gains_more t t' t'' a.wrote b.wrote a.gains b.gains);
  front = (b.front.0, ap (λ (x : List ℕ). first ++ x) b.front.1 ∙ sym (append_assoc first b.wrote b.front.0));
  all = then_all r b.all;
}
  where
    then_all : (r : Result (Unit {0}) Failed) → OnOk r (b.wrote ≡ second) → OnOk r (first ++ b.wrote ≡ first ++ second)
    then_all (Ok u) h = ap (λ (x : List ℕ). first ++ x) h
    then_all (Err e) h = tt

-- bytes of which not all were written, so that nothing came behind them
pub whole-stopped : (first second : List ℕ) (e : Failed) (t t' : Option (List ℕ)) → Whole first (Err e) t t' → Whole (first ++ second) (Err e) t t'
whole-stopped first second e t t' a = record {
  wrote = a.wrote;
  gains = a.gains;
  front = (a.front.0 ++ second, ap (λ (x : List ℕ). x ++ second) a.front.1 ∙ append_assoc a.wrote a.front.0 second);
  all = tt;
}

-- a line behind bytes that were written
pub said-behind : (first second : List ℕ) (status r f f' f'' : ℕ) (t t' t'' : Option (List ℕ)) → Whole first (Ok tt) t t' → f' ≡ f → Said second status r f' f'' t' t'' → Said (first ++ second) status r f f'' t t''
said-behind first second status r f f' f'' t t' t'' a same s = record {
  wrote = first ++ s.wrote;
  gains = subst (λ (x : List ℕ). Gains t t'' (x ++ s.wrote)) a.all (gains_more t t' t'' a.wrote s.wrote a.gains s.gains);
  front = (s.front.0, ap (λ (x : List ℕ). first ++ x) s.front.1 ∙ sym (append_assoc first s.wrote s.front.0));
  how = by_how s.how;
}
  where
    by_how : ((r ≡ status) × (s.wrote ≡ second) × (f'' ≡ f')) ⊎ ((r ≡ 5) × Fails f' f'') → ((r ≡ status) × (first ++ s.wrote ≡ first ++ second) × (f'' ≡ f)) ⊎ ((r ≡ 5) × Fails f f'')
    by_how (inl h) = inl (h.0, ap (λ (x : List ℕ). first ++ x) h.1, h.2 ∙ same)
    by_how (inr h) = inr (h.0, subst (λ (x : ℕ). Fails x f'') same h.1)

-- bytes of which not all were written, so that no line came behind them
pub said-stopped : (first second : List ℕ) (status f f' : ℕ) (e : Failed) (t t' : Option (List ℕ)) → Whole first (Err e) t t' → Fails f f' → Said (first ++ second) status 5 f f' t t'
said-stopped first second status f f' e t t' a fails = record {
  wrote = a.wrote;
  gains = a.gains;
  front = (a.front.0 ++ second, ap (λ (x : List ℕ). x ++ second) a.front.1 ∙ append_assoc a.wrote a.front.0 second);
  how = inr (refl, fails);
}
