-- The count of a variable comes from the place where it is bound alone.
use Rattle.std.proofs.Common.{◌≡◌, ℕ, zero, suc, ◌+◌, ◌<◌, ◌≤◌, List, [], ◌∷◌, length, Bool, true, false, cond, Option, Some, None, refl, sym, ap, ◌∙◌, subst, arith, nat_eq, eqb-true, eq-eqb}
use Rattle.sml_tree.specs.Sets.{union, without}
use Rattle.simulation.proofs.Lists.{some_eq}
use Rattle.cps_ir.specs.declared.atom.Test.{Test}
use Rattle.cps_ir.specs.Code.{Code, Make, Pick, Prim, Equal, Fix, Call, Match, Handler, SetHandler, Throw, Halt, Functions, NoFunction, Function, Rules, Otherwise, Rule, names_of}
use Rattle.cps_ir.specs.Free.{vars, vars_all, vars_tests, free_code, free_functions, free_rules}
use Rattle.contract_laws.specs.Redex.{uses, uses_functions, uses_others, calls_with}
use Rattle.contract_laws.specs.Weigh.{Scale, weigh, weigh_functions, weigh_rules, names_weigh, of_name}
use Rattle.contract_laws.proofs.Free.{in_left, in_right, in_without, in_one, in_among}
use Rattle.contract_round.proofs.Facts.{own, own_same, among_weighs}
use Rattle.contract_round.proofs.Names.{inside_weigh, functions_weigh}
use Rattle.contract_census.specs.declared.counts.Home.{Home}
use Rattle.contract_census.specs.declared.counts.Count.{Count}
use Rattle.contract_census.specs.declared.counts.Event.TheVariants as event
use Rattle.contract_census.specs.Counting.{same_function, count_at, noted, use_atom, use_atoms, use_tests}
use Rattle.contract_census.specs.Counted.{times_of, IsFunctionCount, CountOf, IsCount, AreCounts, IsCountIn}
use Rattle.contract_census.specs.Run.{bind_names, use_in, run, run_functions, run_rules}
use Rattle.contract_census.proofs.Unused.{Not, atom_unused, atoms_unused, tests_unused, behind, unused, unused_functions, unused_rules}
use Rattle.contract_census.proofs.Walk.{noted_length, noted_same, Same, same_then, same_noted, same_atom, same_atoms, same_names, same_run, same_functions, same_rules, same_refl, same_tests}
use Rattle.contract_census.proofs.Tally.{here, Tally, tally_same, tally, tally_functions}

same_self : (w : Option ℕ) → same_function w w ≡ true
same_self None = refl
same_self (Some f) = eq-eqb f f refl

-- the parameters of the first function of a name
abbrev arity : ℕ → Functions → ℕ
arity y NoFunction = 0
arity y (Function f p params b fs) = cond (nat_eq y f) (length params) (arity y fs)

module _ (y : ℕ) where
  W : Code → ℕ
  W c = weigh (of_name y) c

  own_none : (x : ℕ) → nat_eq y x ≡ false → own y x ≡ 0
  own_none x e = ap (λ b. cond b 1 0) e

  -- ---- Where it isn't bound, nothing is said

  mutual
    pub nothing_said : (k : Count) (c : Code) → weigh (of_name y) c ≡ 0 → IsCount y k c
    nothing_said k (Make x shape atoms c) h = ((λ e. let o = own_same y x e in absurd (omega arith)), nothing_said k c (omega arith))
    nothing_said k (Pick x i a c) h = ((λ e. let o = own_same y x e in absurd (omega arith)), nothing_said k c (omega arith))
    nothing_said k (Prim x f atoms c) h = ((λ e. let o = own_same y x e in absurd (omega arith)), nothing_said k c (omega arith))
    nothing_said k (Equal a b truth n) h = tt
    nothing_said k (Fix fs c) h = (nothing_said_in k fs c fs (omega arith), nothing_said k c (omega arith))
    nothing_said k (Call a atoms) h = tt
    nothing_said k (Match a rules) h = nothing_said_rules k rules (omega arith)
    nothing_said k (Handler x c) h = nothing_said k c (omega arith)
    nothing_said k (SetHandler a c) h = nothing_said k c (omega arith)
    nothing_said k (Throw a) h = tt
    nothing_said k Halt h = tt

    pub nothing_said_in : (k : Count) (all : Functions) (c : Code) (fs : Functions) → weigh_functions (of_name y) fs ≡ 0 → AreCounts y k all c fs
    nothing_said_in k all c NoFunction h = tt
    nothing_said_in k all c (Function f p params b fs) h =
        ((λ e. let o = own_same y f e in absurd (omega arith)), nothing_said k b (omega arith), nothing_said_in k all c fs (omega arith))

    pub nothing_said_rules : (k : Count) (rs : Rules) → weigh_rules (of_name y) rs ≡ 0 → IsCountIn y k rs
    nothing_said_rules k (Otherwise c) h = nothing_said k c h
    nothing_said_rules k (Rule ts c rs) h = (nothing_said k c (omega arith), nothing_said_rules k rs (omega arith))

  -- ---- One of functions that are bound together

  abbrev Fresh : List Count → Type 0
  Fresh s = Tally y None false 0 0 0 s

  bind_home : (w : Option ℕ) (fs : Functions) (s : List Count) → names_weigh (of_name y) (names_of fs) ≡ 1 → Fresh s → Tally y (Some (record { within = w; parameters = arity y fs })) false 0 0 0 (bind_names w fs s)
  bind_home w NoFunction s h t = absurd (omega arith)
  bind_home w (Function f p params b fs) s h t = by (nat_eq y f) refl (λ e. bind_home w fs new (let o = own_none f e in omega arith) (tally_same (same_noted y (event.Bound w (length params)) f s (own_none f e)) t))
    where
      new : List Count
      new = noted (event.Bound w (length params)) f s

      by : (o : Bool) → nat_eq y f ≡ o → (nat_eq y f ≡ false → Tally y (Some (record { within = w; parameters = arity y fs })) false 0 0 0 (bind_names w fs new)) → Tally y (Some (record { within = w; parameters = cond o (length params) (arity y fs) })) false 0 0 0 (bind_names w fs new)
      by true q go =
          let o = own_same y f (eqb-true y f q) in
          let n = noted_same (event.Bound w (length params)) y f s q t.stands in
          tally_same (same_names y w fs new (omega arith))
          (record {
            stands = subst (λ z. y < z) (sym (noted_length (event.Bound w (length params)) f s)) t.stands;
            used = ap (λ c. c.uses) n ∙ t.used;
            outside = ap (λ c. c.outside) n ∙ t.outside;
            called = ap (λ c. c.calls) n ∙ t.called;
            opened = ap (λ c. c.is_open) n ∙ t.opened;
            home = ap (λ c. c.home) n;
          })
      by false q go = go q

  module _ (all : Functions) (c : Code) (k : Count) (used : k.uses ≡ times_of (uses_functions y all + uses y c)) (outside : k.outside ≡ times_of (uses_others y all + uses y c)) where
    named_counts : (fs : Functions) → names_weigh (of_name y) (names_of fs) ≤ 1 → inside_weigh y fs ≡ 0 → k.calls ≡ times_of (calls_with y (arity y fs) c) → AreCounts y k all c fs
    named_counts NoFunction h g e = tt
    named_counts (Function f p params b fs) h g e = (
      (λ q. record { used = used; outside = outside; called = e ∙ ap (λ o. times_of (calls_with y (cond o (length params) (arity y fs)) c)) (eq-eqb y f q) }),
      nothing_said k b (omega arith),
      by (nat_eq y f) refl (λ d. named_counts fs (omega arith) (omega arith) d) e,
    )
      where
        by : (o : Bool) → nat_eq y f ≡ o → (k.calls ≡ times_of (calls_with y (arity y fs) c) → AreCounts y k all c fs) → k.calls ≡ times_of (calls_with y (cond o (length params) (arity y fs)) c) → AreCounts y k all c fs
        by true q go d = let o = own_same y f (eqb-true y f q) in let w = functions_weigh y fs in nothing_said_in k all c fs (omega arith)
        by false q go d = go d

  -- the owner of a body binds none of its names in it
  abbrev Outside : Option ℕ → (Scale → ℕ) → Type 0
  Outside w f = (g : ℕ) → w ≡ Some g → f (of_name g) ≡ 0

  named : (fs : Functions) (c : Code) (w : Option ℕ) (s : List Count) → names_weigh (of_name y) (names_of fs) ≡ 1 → inside_weigh y fs ≡ 0 → weigh (of_name y) c ≡ 0 → Outside w (λ z. weigh z (Fix fs c)) → Fresh s → AreCounts y (count_at (run w (Fix fs c) s) y) fs c fs
  named fs c w s one none free out t =
      let home : Home = record { within = w; parameters = arity y fs } in
      let m : Option Home = Some home in
      let t1 = bind_names w fs s in
      let within_is : (h : Home) → m ≡ Some h → w ≡ h.within = λ h e. some_eq (λ v. w ≡ v.within) home h e refl in
      let away : (h : Home) (g : ℕ) → m ≡ Some h → h.within ≡ Some g → weigh (of_name g) (Fix fs c) ≡ 0 = λ h g e f. out g (within_is h e ∙ f) in
      let two = tally y m c w false 0 0 0 t1 free (λ h g e f. let z = away h g e f in omega arith) (bind_home w fs s one t) in
      let three =
      tally_functions y m fs false (0 + uses y c) (0 + uses y c) (0 + here m w (λ p. calls_with y p c)) (run w c t1) (λ q. absurd (cc)) none (λ h g e f. let z = away h g e f in omega arith) two in
      let calls : 0 + here m w (λ p. calls_with y p c) ≡ calls_with y (arity y fs) c = let z = ap (λ b. cond b (calls_with y (arity y fs) c) 0) (same_self w) in omega arith in
      let i : (0 + uses y c) + uses_functions y fs ≡ uses_functions y fs + uses y c = omega arith in
      let j : (0 + uses y c) + uses_others y fs ≡ uses_others y fs + uses y c = omega arith in
      named_counts fs c (count_at (run w (Fix fs c) s) y) (three.used ∙ ap times_of i) (three.outside ∙ ap times_of j) fs (omega arith) none (three.called ∙ ap times_of calls)

  -- ---- Anywhere

  -- behind a binding
  rest : (x : ℕ) (c : Code) (k : Count) → own y x + weigh (of_name y) c ≤ 1 → (own y x ≡ 0 → IsCount y k c) → IsCount y k c
  rest x c k h go = by (nat_eq y x) refl
    where
      by : (b : Bool) → nat_eq y x ≡ b → IsCount y k c
      by true e = let o = own_same y x (eqb-true y x e) in nothing_said k c (omega arith)
      by false e = go (own_none x e)

  count_of : (x : ℕ) (c : Code) (w : Option ℕ) (s : List Count) → own y x + weigh (of_name y) c ≤ 1 → Fresh s → CountOf y (count_at (run w c s) y) x c
  count_of x c w s h t e =
      let o = own_same y x e in
      let k = tally y None c w false 0 0 0 s (omega arith) (λ v g a b. absurd (cc)) t in
      let z : 0 + uses y c ≡ uses y c = omega arith in
      k.used ∙ ap times_of z

  said_same : (s t : List Count) (c : Code) → Same y s t → IsCount y (count_at s y) c → IsCount y (count_at t y) c
  said_same s t c e h = subst (λ k. IsCount y k c) (sym e.at) h

  said_in_same : (s t : List Count) (all : Functions) (c : Code) (fs : Functions) → Same y s t → AreCounts y (count_at s y) all c fs → AreCounts y (count_at t y) all c fs
  said_in_same s t all c fs e h = subst (λ k. AreCounts y k all c fs) (sym e.at) h

  said_rules_same : (s t : List Count) (rs : Rules) → Same y s t → IsCountIn y (count_at s y) rs → IsCountIn y (count_at t y) rs
  said_rules_same s t rs e h = subst (λ k. IsCountIn y k rs) (sym e.at) h

  abbrev Once : (Scale → ℕ) → Type 0
  Once f = (z : ℕ) → f (of_name z) ≤ 1

  by_weight : {P : Type 0} (n : ℕ) (k : ℕ) → n ≡ k → (n ≡ 0 → P) → (1 ≤ n → P) → P
  by_weight n zero e f g = f e
  by_weight n (suc k) e f g = g (omega arith)

  -- one of the names, or none
  by_group : (fs : Functions) (c : Code) (w : Option ℕ) (s : List Count) → weigh_functions (of_name y) fs + weigh (of_name y) c ≤ 1 → (names_weigh (of_name y) (names_of fs) ≡ 1 → inside_weigh y fs ≡ 0 → weigh (of_name y) c ≡ 0 → AreCounts y (count_at (run w (Fix fs c) s) y) fs c fs) → (names_weigh (of_name y) (names_of fs) ≡ 0 → IsCount y (count_at (run w (Fix fs c) s) y) (Fix fs c)) → IsCount y (count_at (run w (Fix fs c) s) y) (Fix fs c)
  by_group fs c w s h f g =
      let k = functions_weigh y fs in
      by_weight (names_weigh (of_name y) (names_of fs)) (names_weigh (of_name y) (names_of fs)) refl g
      (λ l. (f (omega arith) (omega arith) (omega arith), nothing_said (count_at (run w (Fix fs c) s) y) c (omega arith)))

  itself : (f g : ℕ) → Some f ≡ Some g → {n : ℕ} → own g f + n ≤ 1 → n ≡ 0
  itself f g e h = let o = own_same g f (sym (some_eq (λ v. f ≡ v) f g e refl)) in omega arith

  in_free : (ts : List Test) (a b : List ℕ) → Not y (union (vars_tests ts) (union a b)) → Not y b
  in_free ts a b n i = n (in_right y (vars_tests ts) (union a b) (in_right y a b i))

  same_in_free : (rs : Rules) (s : List Count) → Not y (free_rules rs) → Same y s (use_in rs s)
  same_in_free (Otherwise c) s n = same_refl y s
  same_in_free (Rule ts c rs) s n =
      same_then y s (use_tests ts s) (use_in rs (use_tests ts s)) (same_tests y ts s (tests_unused y ts (λ i. n (in_left y (vars_tests ts) (union (free_code c) (free_rules rs)) i))))
      (same_in_free rs (use_tests ts s) (in_free ts (free_code c) (free_rules rs) n))

  none_before : (x : ℕ) (xs : List ℕ) → own y x ≡ 0 → Not y (without xs (x ∷ [])) → Not y xs
  none_before x xs o n i = n (in_without y xs (x ∷ []) (λ j. let k = own_same y x (in_one y x j) in absurd (omega arith)) i)

  mutual
    pub said : (c : Code) (w : Option ℕ) (s : List Count) → Once (λ z. weigh z c) → Outside w (λ z. weigh z c) → Not y (free_code c) → Fresh s → IsCount y (count_at (run w c s) y) c
    said (Make x shape atoms c) w s one out n t =
        let u = use_atoms atoms s in
        let h = one y in
        let f = tally_same (same_atoms y atoms s (atoms_unused y atoms (λ i. n (in_left y (vars_all atoms) (without (free_code c) (x ∷ [])) i)))) t in (
          count_of x c w u (omega arith) f,
          rest x c (count_at (run w c u) y) (omega arith) (λ o. said c w u (λ z. let k = one z in omega arith) (λ g e. let k = out g e in omega arith) (behind y x (free_code c) (vars_all atoms) o n) f),
        )
    said (Pick x i a c) w s one out n t =
        let u = use_atom a s in
        let h = one y in
        let f = tally_same (same_atom y a s (atom_unused y a (λ i. n (in_left y (vars a) (without (free_code c) (x ∷ [])) i)))) t in (
          count_of x c w u (omega arith) f,
          rest x c (count_at (run w c u) y) (omega arith) (λ o. said c w u (λ z. let k = one z in omega arith) (λ g e. let k = out g e in omega arith) (behind y x (free_code c) (vars a) o n) f),
        )
    said (Prim x p atoms c) w s one out n t =
        let u = use_atoms atoms s in
        let h = one y in
        let f = tally_same (same_atoms y atoms s (atoms_unused y atoms (λ i. n (in_left y (vars_all atoms) (without (free_code c) (x ∷ [])) i)))) t in (
          count_of x c w u (omega arith) f,
          rest x c (count_at (run w c u) y) (omega arith) (λ o. said c w u (λ z. let k = one z in omega arith) (λ g e. let k = out g e in omega arith) (behind y x (free_code c) (vars_all atoms) o n) f),
        )
    said (Equal a b truth k) w s one out n t = tt
    said (Fix fs c) w s one out n t =
        let h = one y in
        let g = functions_weigh y fs in
        let free = in_without y (union (free_functions fs) (free_code c)) (names_of fs) in
        let u = bind_names w fs s in
        let v = run w c u in
        by_group fs c w s (omega arith) (λ o i z. named fs c w s o i z out t)
        (λ none.
        let f = tally_same (same_names y w fs s none) t in
        let out_names : Not y (names_of fs) = λ i. let k = among_weighs y (names_of fs) (in_among y (names_of fs) i) in absurd (omega arith) in
        let no_c : Not y (free_code c) = λ i. n (free out_names (in_right y (free_functions fs) (free_code c) i)) in
        let no_fs : Not y (free_functions fs) = λ i. n (free out_names (in_left y (free_functions fs) (free_code c) i)) in
        by_weight (inside_weigh y fs) (inside_weigh y fs) refl
        -- bound in the body behind them, or nowhere
        (λ zero_in.
        let e = same_functions y fs v (unused_functions y fs no_fs zero_in) (omega arith) in
        (nothing_said_in (count_at (run_functions fs v) y) fs c fs (omega arith), said_same v (run_functions fs v) c e (said c w u (λ z. let k = one z in omega arith) (λ g e. let k = out g e in omega arith) no_c f)))
        -- bound in a function
        (λ some_in.
        let e = same_run y c w u (unused y c no_c (omega arith)) (omega arith) in
        (said_functions fs fs c v (λ z. let k = one z in omega arith) none no_fs (tally_same e f), nothing_said (count_at (run_functions fs v) y) c (omega arith))))
    said (Call a atoms) w s one out n t = tt
    said (Match a rules) w s one out n t =
        let u = use_atom a s in
        let r = use_in rules u in
        let no : Not y (free_rules rules) = λ i. n (in_right y (vars a) (free_rules rules) i) in
        let f = tally_same (same_atom y a s (atom_unused y a (λ i. n (in_left y (vars a) (free_rules rules) i)))) t in
        said_rules rules w r (λ z. let k = one z in omega arith) (λ g e. let k = out g e in omega arith) no (tally_same (same_in_free rules u no) f)
    said (Handler x c) w s one out n t =
        let h = one y in
        rest x c (count_at (run w c s) y) (omega arith) (λ o. said c w s (λ z. let k = one z in omega arith) (λ g e. let k = out g e in omega arith) (none_before x (free_code c) o n) t)
    said (SetHandler a c) w s one out n t =
        let f = tally_same (same_atom y a s (atom_unused y a (λ i. n (in_left y (vars a) (free_code c) i)))) t in
        said c w (use_atom a s) (λ z. let k = one z in omega arith) (λ g e. let k = out g e in omega arith) (λ i. n (in_right y (vars a) (free_code c) i)) f
    said (Throw a) w s one out n t = tt
    said Halt w s one out n t = tt

    said_functions : (all fs : Functions) (c : Code) (s : List Count) → Once (λ z. weigh_functions z fs) → names_weigh (of_name y) (names_of fs) ≡ 0 → Not y (free_functions fs) → Fresh s → AreCounts y (count_at (run_functions fs s) y) all c fs
    said_functions all NoFunction c s one none n t = tt
    said_functions all (Function f p params b fs) c s one none n t =
        let h = one y in
        let g = functions_weigh y fs in
        let u = run_functions fs s in
        let o = noted event.Opened f u in
        let r = run (Some f) b o in
        let z = noted event.Closed f r in
        let no_fs : Not y (free_functions fs) = λ i. n (in_right y (without (free_code b) params) (free_functions fs) i) in
        let front : y ≡ f → IsFunctionCount all c y params (count_at z y) = λ e. let k = own_same y f e in absurd (omega arith) in
        by_weight (names_weigh (of_name y) params) (names_weigh (of_name y) params) refl
        (λ no_param.
        let no_b : Not y (free_code b) = λ i. n (in_left y (without (free_code b) params) (free_functions fs) (in_without y (free_code b) params (λ j. let k = among_weighs y params (in_among y params j) in absurd (omega arith)) i)) in
        by_weight (weigh (of_name y) b) (weigh (of_name y) b) refl
        -- bound in another function
        (λ no_bound.
        let e = same_then y u r z (same_then y u o r (same_noted y event.Opened f u (omega arith)) (same_run y b (Some f) o (unused y b no_b no_bound) no_bound)) (same_noted y event.Closed f r (omega arith)) in
        (front, nothing_said (count_at z y) b no_bound, said_in_same u z all c fs e (said_functions all fs c s (λ z. let k = one z in omega arith) (omega arith) no_fs t)))
        -- bound in this one's body
        (λ some_bound.
        let e = same_functions y fs s (unused_functions y fs no_fs (omega arith)) (omega arith) in
        let d = same_noted y event.Opened f u (omega arith) in (
          front,
          said_same r z b (same_noted y event.Closed f r (omega arith)) (said b (Some f) o (λ z. let k = one z in omega arith) (λ g q. itself f g q (let k = one g in omega arith)) no_b (tally_same d (tally_same e t))),
          nothing_said_in (count_at z y) all c fs (omega arith),
        )))
        -- a parameter
        (λ a_param. (front, nothing_said (count_at z y) b (omega arith), nothing_said_in (count_at z y) all c fs (omega arith)))

    said_rules : (rs : Rules) (w : Option ℕ) (s : List Count) → Once (λ z. weigh_rules z rs) → Outside w (λ z. weigh_rules z rs) → Not y (free_rules rs) → Fresh s → IsCountIn y (count_at (run_rules w rs s) y) rs
    said_rules (Otherwise c) w s one out n t = said c w s one out n t
    said_rules (Rule ts c rs) w s one out n t =
        let h = one y in
        let u = run_rules w rs s in
        let no_c : Not y (free_code c) = λ i. n (in_right y (vars_tests ts) (union (free_code c) (free_rules rs)) (in_left y (free_code c) (free_rules rs) i)) in
        let no_rs : Not y (free_rules rs) = λ i. n (in_right y (vars_tests ts) (union (free_code c) (free_rules rs)) (in_right y (free_code c) (free_rules rs) i)) in
        by_weight (weigh_rules (of_name y) rs) (weigh_rules (of_name y) rs) refl
        (λ none.
        let e = same_rules y rs w s (unused_rules y rs no_rs none) none in
        (said c w u (λ z. let k = one z in omega arith) (λ g e. let k = out g e in omega arith) no_c (tally_same e t), nothing_said_rules (count_at (run w c u) y) rs none))
        (λ some.
        let e = same_run y c w u (unused y c no_c (omega arith)) (omega arith) in
        (nothing_said (count_at (run w c u) y) c (omega arith), said_rules_same u (run w c u) rs e (said_rules rs w s (λ z. let k = one z in omega arith) (λ g e. let k = out g e in omega arith) no_rs t)))
