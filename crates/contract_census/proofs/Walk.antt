-- What a walk over a body does with the count of a variable that the body doesn't bind.
use Rattle.std.proofs.Common.{◌≡◌, ◌≢◌, ℕ, ◌<◌, List, [], ◌∷◌, length, Bool, true, false, cond, Option, Some, slice_set, refl, ap, ◌∙◌, subst, arith, nat_eq, nat_lt, length-set, eqb-true}
use Rattle.std.proofs.lemmas.List.{get_or-set_same, get_or-set_other}
use Rattle.cps_ir.specs.declared.atom.Atom.{Atom}
use Rattle.cps_ir.specs.declared.atom.Wanted.{Wanted}
use Rattle.cps_ir.specs.declared.atom.Test.{Test}
use Rattle.cps_ir.specs.declared.atom.Atom.TheVariants as atom
use Rattle.cps_ir.specs.declared.atom.Wanted.TheVariants as want
use Rattle.cps_ir.specs.Code.{Code, Make, Pick, Prim, Equal, Fix, Call, Match, Handler, SetHandler, Throw, Halt, Functions, NoFunction, Function, Rules, Otherwise, Rule, names_of}
use Rattle.contract_laws.specs.Redex.{uses, uses_functions, uses_rules, uses_atom, uses_atoms, uses_wanted, uses_tests}
use Rattle.contract_laws.specs.Weigh.{weigh, weigh_functions, weigh_rules, names_weigh, of_name}
use Rattle.contract_round.proofs.Facts.{own, own_same}
use Rattle.contract_round.proofs.Names.{functions_weigh}
use Rattle.contract_census.specs.declared.counts.Count.{Count}
use Rattle.contract_census.specs.declared.counts.Event.{Event}
use Rattle.contract_census.specs.declared.counts.Event.TheVariants as event
use Rattle.contract_census.specs.Counting.{nothing_counted, after, count_at, noted, use_atom, use_atoms, use_wanted, use_tests, call_atom}
use Rattle.contract_census.specs.Run.{bind_names, use_in, run, run_functions, run_rules}

-- ---- One event

within_by : (x : ℕ) (s : List Count) (new : List Count) → length new ≡ length s → length (cond (nat_lt x (length s)) new s) ≡ length s
within_by x s new e = by (nat_lt x (length s))
  where
    by : (b : Bool) → length (cond b new s) ≡ length s
    by true = e
    by false = refl

pub noted_length : (e : Event) (x : ℕ) (s : List Count) → length (noted e x s) ≡ length s
noted_length e x s = within_by x s (slice_set s x (after e (count_at s x))) (length-set s x (after e (count_at s x)))

differs : (y x : ℕ) → nat_eq y x ≡ false → y ≢ x
differs y x e h = grind arith

pub noted_other : (e : Event) (y x : ℕ) (s : List Count) → nat_eq y x ≡ false → count_at (noted e x s) y ≡ count_at s y
noted_other e y x s n = by (nat_lt x (length s))
  where
    by : (b : Bool) → count_at (cond b (slice_set s x (after e (count_at s x))) s) y ≡ count_at s y
    by true = get_or-set_other s x y (after e (count_at s x)) nothing_counted (differs y x n)
    by false = refl

pub noted_same : (e : Event) (y x : ℕ) (s : List Count) → nat_eq y x ≡ true → y < length s → count_at (noted e x s) y ≡ after e (count_at s y)
noted_same e y x s q h =
    let k : y ≡ x = eqb-true y x q in
    let lt : nat_lt x (length s) ≡ true = subst (λ z. nat_lt z (length s) ≡ true) k (lt_true h) in
    ap (λ b. count_at (cond b (slice_set s x (after e (count_at s x))) s) y) lt
    ∙ subst (λ z. count_at (slice_set s z (after e (count_at s z))) y ≡ after e (count_at s y)) k (get_or-set_same s y (after e (count_at s y)) nothing_counted h)
  where
    lt_true : y < length s → nat_lt y (length s) ≡ true
    lt_true h = grind arith

-- ---- Where it isn't used, nothing changes

module _ (y : ℕ) where
  pub record Same (s t : List Count) : Type 0 where
    pub len : length t ≡ length s
    pub at : count_at t y ≡ count_at s y

  pub same_refl : (s : List Count) → Same s s
  same_refl s = record { len = refl; at = refl }

  pub same_then : (s t u : List Count) → Same s t → Same t u → Same s u
  same_then s t u h g = record { len = g.len ∙ h.len; at = g.at ∙ h.at }

  pub same_noted : (e : Event) (x : ℕ) (s : List Count) → own y x ≡ 0 → Same s (noted e x s)
  same_noted e x s n = by (nat_eq y x) refl
    where
      by : (b : Bool) → nat_eq y x ≡ b → Same s (noted e x s)
      by true q = let k = own_same y x (eqb-true y x q) in absurd (omega arith)
      by false q = record { len = noted_length e x s; at = noted_other e y x s q }

  pub same_atom : (a : Atom) (s : List Count) → uses_atom y a ≡ 0 → Same s (use_atom a s)
  same_atom (atom.Var x) s h = same_noted event.Used x s h
  same_atom (atom.Constant k) s h = same_refl s

  pub same_atoms : (atoms : List Atom) (s : List Count) → uses_atoms y atoms ≡ 0 → Same s (use_atoms atoms s)
  same_atoms [] s h = same_refl s
  same_atoms (a ∷ atoms) s h = same_then s (use_atom a s) (use_atoms atoms (use_atom a s)) (same_atom a s (omega arith)) (same_atoms atoms (use_atom a s) (omega arith))

  same_call : (w : Option ℕ) (a : Atom) (n : ℕ) (s : List Count) → uses_atom y a ≡ 0 → Same s (call_atom w a n s)
  same_call w (atom.Var x) n s h = same_noted (event.Called w n) x s h
  same_call w (atom.Constant k) n s h = same_refl s

  same_wanted : (w : Wanted) (s : List Count) → uses_wanted y w ≡ 0 → Same s (use_wanted w s)
  same_wanted (want.Exn a applied) s h = same_atom a s h
  same_wanted (want.Num z) s h = same_refl s
  same_wanted (want.Tag t) s h = same_refl s
  same_wanted (want.Text t) s h = same_refl s

  pub same_tests : (ts : List Test) (s : List Count) → uses_tests y ts ≡ 0 → Same s (use_tests ts s)
  same_tests [] s h = same_refl s
  same_tests (t ∷ ts) s h =
      same_then s (use_wanted t.want s) (use_tests ts (use_wanted t.want s)) (same_wanted t.want s (omega arith)) (same_tests ts (use_wanted t.want s) (omega arith))

  pub same_in : (rs : Rules) (s : List Count) → uses_rules y rs ≡ 0 → Same s (use_in rs s)
  same_in (Otherwise c) s h = same_refl s
  same_in (Rule ts c rs) s h = same_then s (use_tests ts s) (use_in rs (use_tests ts s)) (same_tests ts s (omega arith)) (same_in rs (use_tests ts s) (omega arith))

  pub same_names : (w : Option ℕ) (fs : Functions) (s : List Count) → names_weigh (of_name y) (names_of fs) ≡ 0 → Same s (bind_names w fs s)
  same_names w NoFunction s h = same_refl s
  same_names w (Function f p params b fs) s h =
      let t = noted (event.Bound w (length params)) f s in
      same_then s t (bind_names w fs t) (same_noted (event.Bound w (length params)) f s (omega arith)) (same_names w fs t (omega arith))

  mutual
    pub same_run : (c : Code) (w : Option ℕ) (s : List Count) → uses y c ≡ 0 → weigh (of_name y) c ≡ 0 → Same s (run w c s)
    same_run (Make x shape atoms c) w s u h = let t = use_atoms atoms s in same_then s t (run w c t) (same_atoms atoms s (omega arith)) (same_run c w t (omega arith) (omega arith))
    same_run (Pick x i a c) w s u h = let t = use_atom a s in same_then s t (run w c t) (same_atom a s (omega arith)) (same_run c w t (omega arith) (omega arith))
    same_run (Prim x f atoms c) w s u h = let t = use_atoms atoms s in same_then s t (run w c t) (same_atoms atoms s (omega arith)) (same_run c w t (omega arith) (omega arith))
    same_run (Equal a b truth k) w s u h = same_atoms (a ∷ b ∷ k ∷ []) s u
    same_run (Fix fs c) w s u h =
        let g = functions_weigh y fs in
        let t = bind_names w fs s in
        same_then s (run w c t) (run_functions fs (run w c t)) (same_then s t (run w c t) (same_names w fs s (omega arith)) (same_run c w t (omega arith) (omega arith)))
        (same_functions fs (run w c t) (omega arith) (omega arith))
    same_run (Call a atoms) w s u h =
        let t = call_atom w a (length atoms) s in
        same_then s t (use_atoms atoms (use_atom a t)) (same_call w a (length atoms) s (omega arith)) (same_atoms (a ∷ atoms) t u)
    same_run (Match a rules) w s u h =
        let t = use_atom a s in
        let r = use_in rules t in
        same_then s r (run_rules w rules r) (same_then s t r (same_atom a s (omega arith)) (same_in rules t (omega arith))) (same_rules rules w r (omega arith) (omega arith))
    same_run (Handler x c) w s u h = same_run c w s u (omega arith)
    same_run (SetHandler a c) w s u h = let t = use_atom a s in same_then s t (run w c t) (same_atom a s (omega arith)) (same_run c w t (omega arith) (omega arith))
    same_run (Throw a) w s u h = same_atom a s u
    same_run Halt w s u h = same_refl s

    -- functions of other names
    pub same_functions : (fs : Functions) (s : List Count) → uses_functions y fs ≡ 0 → weigh_functions (of_name y) fs ≡ 0 → Same s (run_functions fs s)
    same_functions NoFunction s u h = same_refl s
    same_functions (Function f p params b fs) s u h =
        let t = run_functions fs s in
        let o = noted event.Opened f t in
        let r = run (Some f) b o in
        same_then s t (noted event.Closed f r) (same_functions fs s (omega arith) (omega arith))
        (same_then t r (noted event.Closed f r) (same_then t o r (same_noted event.Opened f t (omega arith)) (same_run b (Some f) o (omega arith) (omega arith))) (same_noted event.Closed f r (omega arith)))

    pub same_rules : (rs : Rules) (w : Option ℕ) (s : List Count) → uses_rules y rs ≡ 0 → weigh_rules (of_name y) rs ≡ 0 → Same s (run_rules w rs s)
    same_rules (Otherwise c) w s u h = same_run c w s u h
    same_rules (Rule ts c rs) w s u h = let t = run_rules w rs s in same_then s t (run w c t) (same_rules rs w s (omega arith) (omega arith)) (same_run c w t (omega arith) (omega arith))
