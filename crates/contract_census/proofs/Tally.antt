-- What a walk over a body adds to the count of a variable that is bound in front of it.
use Rattle.std.proofs.Common.{◌≡◌, ℕ, zero, suc, ◌+◌, ◌<◌, List, [], ◌∷◌, length, Bool, true, false, cond, ◌&&◌, Option, Some, None, refl, sym, ap, ◌∙◌, subst, arith, nat_eq, eqb-true}
use Rattle.cps_ir.specs.declared.atom.Atom.{Atom}
use Rattle.cps_ir.specs.declared.atom.Wanted.{Wanted}
use Rattle.cps_ir.specs.declared.atom.Test.{Test}
use Rattle.cps_ir.specs.declared.atom.Atom.TheVariants as atom
use Rattle.cps_ir.specs.declared.atom.Wanted.TheVariants as want
use Rattle.cps_ir.specs.Code.{Code, Make, Pick, Prim, Equal, Fix, Call, Match, Handler, SetHandler, Throw, Halt, Functions, NoFunction, Function, Rules, Otherwise, Rule, names_of}
use Rattle.contract_laws.specs.Redex.{uses, uses_functions, uses_others, uses_rules, uses_atom, uses_atoms, uses_wanted, uses_tests, calls_with, calls_with_in, applied_to}
use Rattle.contract_laws.specs.Weigh.{Scale, weigh, weigh_functions, weigh_rules, names_weigh, of_name}
use Rattle.contract_round.proofs.Facts.{own, own_same}
use Rattle.contract_round.proofs.Names.{inside_weigh, functions_weigh}
use Rattle.contract_census.specs.declared.counts.Times.{Times}
use Rattle.contract_census.specs.declared.counts.Home.{Home}
use Rattle.contract_census.specs.declared.counts.Count.{Count}
use Rattle.contract_census.specs.declared.counts.Event.{Event}
use Rattle.contract_census.specs.declared.counts.Event.TheVariants as event
use Rattle.contract_census.specs.Counting.{more, same_function, is_home, after, count_at, noted, use_atom, use_atoms, use_wanted, use_tests, call_atom}
use Rattle.contract_census.specs.Counted.{times_of}
use Rattle.contract_census.specs.Run.{bind_names, use_in, run, run_functions, run_rules}
use Rattle.contract_census.proofs.Walk.{noted_length, noted_same, noted_other, Same, same_noted, same_names}

pub more_times : (n : ℕ) → more (times_of n) ≡ times_of (suc n)
more_times zero = refl
more_times (suc zero) = refl
more_times (suc (suc n)) = refl

-- uses that are counted as outside, by whether the own body is open
abbrev pub outs : Bool → ℕ → ℕ
outs b n = cond b 0 n

outs_sum : (b : Bool) (m n : ℕ) → outs b (m + n) ≡ outs b m + outs b n
outs_sum true m n = refl
outs_sum false m n = refl

outs_none : (b : Bool) → outs b 0 ≡ 0
outs_none true = refl
outs_none false = refl

-- calls that are counted, by the home and the place
abbrev pub here : Option Home → Option ℕ → (ℕ → ℕ) → ℕ
here None w f = 0
here (Some h) w f = cond (same_function h.within w) (f h.parameters) 0

here_sum : (m : Option Home) (w : Option ℕ) (f g : ℕ → ℕ) → here m w (λ n. f n + g n) ≡ here m w f + here m w g
here_sum None w f g = refl
here_sum (Some h) w f g = by (same_function h.within w)
  where
    by : (b : Bool) → cond b (f h.parameters + g h.parameters) 0 ≡ cond b (f h.parameters) 0 + cond b (g h.parameters) 0
    by true = refl
    by false = refl

here_none : (m : Option Home) (w : Option ℕ) → here m w (λ n. 0) ≡ 0
here_none None w = refl
here_none (Some h) w = by (same_function h.within w)
  where
    by : (b : Bool) → cond b zero 0 ≡ 0
    by true = refl
    by false = refl

plus_none : (k n : ℕ) → n ≡ 0 → k ≡ k + n
plus_none k n e = omega arith

-- so often, on the way
pub record Tally (y : ℕ) (m : Option Home) (b : Bool) (i j k : ℕ) (s : List Count) : Type 0 where
  pub stands : y < length s
  pub used : (count_at s y).uses ≡ times_of i
  pub outside : (count_at s y).outside ≡ times_of j
  pub called : (count_at s y).calls ≡ times_of k
  pub opened : (count_at s y).is_open ≡ b
  pub home : (count_at s y).home ≡ m

pub recount : {y : ℕ} {m : Option Home} {b : Bool} {i i' j j' k k' : ℕ} {s : List Count} → i ≡ i' → j ≡ j' → k ≡ k' → Tally y m b i j k s → Tally y m b i' j' k' s
recount e f g t = record { stands = t.stands; used = t.used ∙ ap times_of e; outside = t.outside ∙ ap times_of f; called = t.called ∙ ap times_of g; opened = t.opened; home = t.home }

pub tally_same : {y : ℕ} {m : Option Home} {b : Bool} {i j k : ℕ} {s t : List Count} → Same y s t → Tally y m b i j k s → Tally y m b i j k t
tally_same {y = y} {s = s} {t = t} e h = record {
  stands = subst (λ n. y < n) (sym e.len) h.stands;
  used = ap (λ c. c.uses) e.at ∙ h.used;
  outside = ap (λ c. c.outside) e.at ∙ h.outside;
  called = ap (λ c. c.calls) e.at ∙ h.called;
  opened = ap (λ c. c.is_open) e.at ∙ h.opened;
  home = ap (λ c. c.home) e.at ∙ h.home;
}

pub none_more : {y : ℕ} {m : Option Home} {b : Bool} {i j k : ℕ} {s : List Count} → Tally y m b i j k s → Tally y m b (i + 0) (j + outs b 0) k s
none_more {b = b} {j = j} t = recount (omega arith) (plus_none j (outs b 0) (outs_none b)) refl t

one_more : (n : ℕ) → times_of (suc n) ≡ times_of (n + 1)
one_more n = let e : suc n ≡ n + 1 = omega arith in ap times_of e

no_more : (n : ℕ) → times_of n ≡ times_of (n + 0)
no_more n = let e : n ≡ n + 0 = omega arith in ap times_of e

more_outs : (b : Bool) (k : Times) (j : ℕ) → k ≡ times_of j → cond b k (more k) ≡ times_of (j + outs b 1)
more_outs true k j e = e ∙ no_more j
more_outs false k j e = ap more e ∙ more_times j ∙ one_more j

-- ---- Uses

module _ (y : ℕ) (m : Option Home) where
  use_var : (b : Bool) (i j k x : ℕ) (s : List Count) → Tally y m b i j k s → Tally y m b (i + own y x) (j + outs b (own y x)) k (noted event.Used x s)
  use_var b i j k x s t = by (nat_eq y x) refl
    where
      by : (o : Bool) → nat_eq y x ≡ o → Tally y m b (i + cond o 1 0) (j + outs b (cond o 1 0)) k (noted event.Used x s)
      by true q =
          let e = noted_same event.Used y x s q t.stands in
          record {
            stands = subst (λ n. y < n) (sym (noted_length event.Used x s)) t.stands;
            used = ap (λ c. c.uses) e ∙ ap more t.used ∙ more_times i ∙ one_more i;
            outside = ap (λ c. c.outside) e ∙ ap (λ o. cond o (count_at s y).outside (more (count_at s y).outside)) t.opened ∙ more_outs b (count_at s y).outside j t.outside;
            called = ap (λ c. c.calls) e ∙ t.called;
            opened = ap (λ c. c.is_open) e ∙ t.opened;
            home = ap (λ c. c.home) e ∙ t.home;
          }
      by false q =
          none_more (tally_same (record { len = noted_length event.Used x s; at = noted_other event.Used y x s q }) t)

  pub use_one : (b : Bool) (i j k : ℕ) (a : Atom) (s : List Count) → Tally y m b i j k s → Tally y m b (i + uses_atom y a) (j + outs b (uses_atom y a)) k (use_atom a s)
  use_one b i j k (atom.Var x) s t = use_var b i j k x s t
  use_one b i j k (atom.Constant c) s t = none_more t

  -- one sum behind another
  sums : (b : Bool) (i j k u v : ℕ) (s : List Count) → Tally y m b ((i + u) + v) ((j + outs b u) + outs b v) k s → Tally y m b (i + (u + v)) (j + outs b (u + v)) k s
  sums b i j k u v s t = let e = outs_sum b u v in recount (omega arith) (omega arith) refl t

  pub use_many : (b : Bool) (i j k : ℕ) (atoms : List Atom) (s : List Count) → Tally y m b i j k s → Tally y m b (i + uses_atoms y atoms) (j + outs b (uses_atoms y atoms)) k (use_atoms atoms s)
  use_many b i j k [] s t = none_more t
  use_many b i j k (a ∷ atoms) s t =
      sums b i j k (uses_atom y a) (uses_atoms y atoms) (use_atoms atoms (use_atom a s))
      (use_many b (i + uses_atom y a) (j + outs b (uses_atom y a)) k atoms (use_atom a s) (use_one b i j k a s t))

  one_wanted : (b : Bool) (i j k : ℕ) (w : Wanted) (s : List Count) → Tally y m b i j k s → Tally y m b (i + uses_wanted y w) (j + outs b (uses_wanted y w)) k (use_wanted w s)
  one_wanted b i j k (want.Exn a applied) s t = use_one b i j k a s t
  one_wanted b i j k (want.Num z) s t = none_more t
  one_wanted b i j k (want.Tag g) s t = none_more t
  one_wanted b i j k (want.Text g) s t = none_more t

  many_tests : (b : Bool) (i j k : ℕ) (ts : List Test) (s : List Count) → Tally y m b i j k s → Tally y m b (i + uses_tests y ts) (j + outs b (uses_tests y ts)) k (use_tests ts s)
  many_tests b i j k [] s t = none_more t
  many_tests b i j k (u ∷ ts) s t =
      sums b i j k (uses_wanted y u.want) (uses_tests y ts) (use_tests ts (use_wanted u.want s))
      (many_tests b (i + uses_wanted y u.want) (j + outs b (uses_wanted y u.want)) k ts (use_wanted u.want s) (one_wanted b i j k u.want s t))

  -- uses in the tests of rules, and in their bodies
  abbrev in_tests : Rules → ℕ
  in_tests (Otherwise c) = 0
  in_tests (Rule ts c rs) = uses_tests y ts + in_tests rs

  abbrev in_bodies : Rules → ℕ
  in_bodies (Otherwise c) = uses y c
  in_bodies (Rule ts c rs) = in_bodies rs + uses y c

  rules_parts : (rs : Rules) → uses_rules y rs ≡ in_tests rs + in_bodies rs
  rules_parts (Otherwise c) = omega arith
  rules_parts (Rule ts c rs) = let h = rules_parts rs in omega arith

  all_tests : (b : Bool) (i j k : ℕ) (rs : Rules) (s : List Count) → Tally y m b i j k s → Tally y m b (i + in_tests rs) (j + outs b (in_tests rs)) k (use_in rs s)
  all_tests b i j k (Otherwise c) s t = none_more t
  all_tests b i j k (Rule ts c rs) s t =
      sums b i j k (uses_tests y ts) (in_tests rs) (use_in rs (use_tests ts s))
      (all_tests b (i + uses_tests y ts) (j + outs b (uses_tests y ts)) k rs (use_tests ts s) (many_tests b i j k ts s t))

  -- ---- Calls

  counts_call : (w : Option ℕ) (n : ℕ) (o : Bool) (h : Option Home) (c : Times) (k : ℕ) → h ≡ m → c ≡ times_of k → cond (o && is_home h w n) (more c) c ≡ times_of (k + here m w (λ p. cond (o && nat_eq n p) 1 0))
  counts_call w n o h c k e f = ap (λ g. cond (o && is_home g w n) (more c) c) e ∙ by m o
    where
      same : c ≡ times_of (k + 0)
      same = f ∙ no_more k

      at : (p q r : Bool) → cond (p && (q && r)) (more c) c ≡ times_of (k + cond q (cond (p && r) 1 0) 0)
      at true true true = ap more f ∙ more_times k ∙ one_more k
      at true true false = same
      at true false r = same
      at false true r = same
      at false false r = same

      by : (m : Option Home) (o : Bool) → cond (o && is_home m w n) (more c) c ≡ times_of (k + here m w (λ p. cond (o && nat_eq n p) 1 0))
      by None true = same
      by None false = same
      by (Some h) o = at o (same_function h.within w) (nat_eq n h.parameters)

  call_one : (w : Option ℕ) (b : Bool) (i j k : ℕ) (a : Atom) (atoms : List Atom) (s : List Count) → Tally y m b i j k s → Tally y m b i j (k + here m w (λ p. applied_to y p a atoms)) (call_atom w a (length atoms) s)
  call_one w b i j k (atom.Var x) atoms s t = by (nat_eq y x) refl
    where
      by : (o : Bool) → nat_eq y x ≡ o → Tally y m b i j (k + here m w (λ p. cond (o && nat_eq (length atoms) p) 1 0)) (noted (event.Called w (length atoms)) x s)
      by true q =
          let e = noted_same (event.Called w (length atoms)) y x s q t.stands in
          record {
            stands = subst (λ n. y < n) (sym (noted_length (event.Called w (length atoms)) x s)) t.stands;
            used = ap (λ c. c.uses) e ∙ t.used;
            outside = ap (λ c. c.outside) e ∙ t.outside;
            called = ap (λ c. c.calls) e ∙ counts_call w (length atoms) true (count_at s y).home (count_at s y).calls k t.home t.called;
            opened = ap (λ c. c.is_open) e ∙ t.opened;
            home = ap (λ c. c.home) e ∙ t.home;
          }
      by false q =
          recount refl refl (plus_none k (here m w (λ p. 0)) (here_none m w))
          (tally_same (record { len = noted_length (event.Called w (length atoms)) x s; at = noted_other (event.Called w (length atoms)) y x s q }) t)
  call_one w b i j k (atom.Constant c) atoms s t = recount refl refl (plus_none k (here m w (λ p. 0)) (here_none m w)) t

  -- ---- The walk

  -- the function whose body binds y isn't bound here
  abbrev pub Away : (Scale → ℕ) → Type 0
  Away f = (h : Home) (g : ℕ) → m ≡ Some h → h.within ≡ Some g → f (of_name g) ≡ 0

  elsewhere : (f : ℕ) (F : ℕ → ℕ) → ((h : Home) (g : ℕ) → m ≡ Some h → h.within ≡ Some g → own g f ≡ 0) → here m (Some f) F ≡ 0
  elsewhere f F a = by m (λ h g e k. a h g e k)
    where
      other : (v : Option ℕ) (n : ℕ) → ((g : ℕ) → v ≡ Some g → own g f ≡ 0) → cond (same_function v (Some f)) n 0 ≡ 0
      other None n a = refl
      other (Some g) n a = at (nat_eq g f) (a g refl)
        where
          at : (b : Bool) → cond b 1 zero ≡ 0 → cond b n 0 ≡ 0
          at true e = absurd (omega arith)
          at false e = refl

      by : (o : Option Home) → ((h : Home) (g : ℕ) → o ≡ Some h → h.within ≡ Some g → own g f ≡ 0) → here o (Some f) F ≡ 0
      by None a = refl
      by (Some h) a = other h.within (F h.parameters) (λ g e. a h g refl e)

  opens : (e : Event) (o b : Bool) (i j k f : ℕ) (s : List Count) → ((c : Count) → after e c ≡ record { uses = c.uses; outside = c.outside; calls = c.calls; is_open = o; home = c.home }) → nat_eq y f ≡ true → Tally y m b i j k s → Tally y m o i j k (noted e f s)
  opens e o b i j k f s is q t =
      let n = noted_same e y f s q t.stands ∙ is (count_at s y) in
      record {
        stands = subst (λ z. y < z) (sym (noted_length e f s)) t.stands;
        used = ap (λ c. c.uses) n ∙ t.used;
        outside = ap (λ c. c.outside) n ∙ t.outside;
        called = ap (λ c. c.calls) n ∙ t.called;
        opened = ap (λ c. c.is_open) n;
        home = ap (λ c. c.home) n ∙ t.home;
      }

  -- a function's body, which is open to the function itself
  around_body : (f : ℕ) (c : Code) (b : Bool) (i j k : ℕ) (s : List Count) → (b ≡ true → own y f ≡ 0) → ((b' : Bool) (i' j' : ℕ) (s' : List Count) → Tally y m b' i' j' k s' → Tally y m b' (i' + uses y c) (j' + outs b' (uses y c)) k (run (Some f) c s')) → Tally y m b i j k s → Tally y m b (i + uses y c) (j + outs b (cond (nat_eq y f) 0 (uses y c))) k (noted event.Closed f (run (Some f) c (noted event.Opened f s)))
  around_body f c b i j k s n go t = by (nat_eq y f) refl
    where
      inner : List Count
      inner = run (Some f) c (noted event.Opened f s)

      itself : (b : Bool) → nat_eq y f ≡ true → (b ≡ true → own y f ≡ 0) → Tally y m b i j k s → Tally y m b (i + uses y c) (j + outs b 0) k (noted event.Closed f inner)
      itself true q n t = let k = own_same y f (eqb-true y f q) in let z = n refl in absurd (omega arith)
      itself false q n t = recount refl (omega arith) refl (opens event.Closed false true (i + uses y c) j k f inner (λ c. refl) q (recount refl (omega arith) refl (go true i j (noted event.Opened f s) (opens event.Opened true false i j k f s (λ c. refl) q t))))

      by : (o : Bool) → nat_eq y f ≡ o → Tally y m b (i + uses y c) (j + outs b (cond o 0 (uses y c))) k (noted event.Closed f inner)
      by true q = itself b q n t
      by false q =
          let o : own y f ≡ 0 = ap (λ x. cond x 1 0) q in
          tally_same (same_noted y event.Closed f inner o) (go b i j (noted event.Opened f s) (tally_same (same_noted y event.Opened f s o) t))

  pub others_all : (fs : Functions) → names_weigh (of_name y) (names_of fs) ≡ 0 → uses_others y fs ≡ uses_functions y fs
  others_all NoFunction h = refl
  others_all (Function f p params b fs) h = let g = others_all fs (omega arith) in by (nat_eq y f) refl (omega arith)
    where
      by : (o : Bool) → nat_eq y f ≡ o → uses_others y fs ≡ uses_functions y fs → cond o 0 (uses y b) + uses_others y fs ≡ uses y b + uses_functions y fs
      by true q g = let k = own_same y f (eqb-true y f q) in absurd (omega arith)
      by false q g = omega arith

  mutual
    pub tally : (c : Code) (w : Option ℕ) (b : Bool) (i j k : ℕ) (s : List Count) → weigh (of_name y) c ≡ 0 → Away (λ z. weigh z c) → Tally y m b i j k s → Tally y m b (i + uses y c) (j + outs b (uses y c)) (k + here m w (λ p. calls_with y p c)) (run w c s)
    tally (Make x shape atoms c) w b i j k s h a t =
        sums b i j (k + here m w (λ p. calls_with y p c)) (uses_atoms y atoms) (uses y c) (run w c (use_atoms atoms s))
        (tally c w b (i + uses_atoms y atoms) (j + outs b (uses_atoms y atoms)) k (use_atoms atoms s) (omega arith) (λ v g e f. let z = a v g e f in omega arith) (use_many b i j k atoms s t))
    tally (Pick x n u c) w b i j k s h a t =
        sums b i j (k + here m w (λ p. calls_with y p c)) (uses_atom y u) (uses y c) (run w c (use_atom u s))
        (tally c w b (i + uses_atom y u) (j + outs b (uses_atom y u)) k (use_atom u s) (omega arith) (λ v g e f. let z = a v g e f in omega arith) (use_one b i j k u s t))
    tally (Prim x q atoms c) w b i j k s h a t =
        sums b i j (k + here m w (λ p. calls_with y p c)) (uses_atoms y atoms) (uses y c) (run w c (use_atoms atoms s))
        (tally c w b (i + uses_atoms y atoms) (j + outs b (uses_atoms y atoms)) k (use_atoms atoms s) (omega arith) (λ v g e f. let z = a v g e f in omega arith) (use_many b i j k atoms s t))
    tally (Equal u v truth n) w b i j k s h a t = recount refl refl (plus_none k (here m w (λ p. 0)) (here_none m w)) (use_many b i j k (u ∷ v ∷ n ∷ []) s t)
    tally (Fix fs c) w b i j k s h a t =
        let g = functions_weigh y fs in
        let k' = k + here m w (λ p. calls_with y p c) in
        let all = others_all fs (omega arith) in
        let o = outs_sum b (uses_functions y fs) (uses y c) in
        let o' = ap (outs b) all in
        recount (omega arith) (omega arith) refl
        (tally_functions fs b (i + uses y c) (j + outs b (uses y c)) k' (run w c (bind_names w fs s)) (λ q. omega arith) (omega arith) (λ v g e f. let z = a v g e f in omega arith)
        (tally c w b i j k (bind_names w fs s) (omega arith) (λ v g e f. let z = a v g e f in omega arith) (tally_same (same_names y w fs s (omega arith)) t)))
    tally (Call u atoms) w b i j k s h a t =
        use_many b i j (k + here m w (λ p. applied_to y p u atoms)) (u ∷ atoms) (call_atom w u (length atoms) s) (call_one w b i j k u atoms s t)
    tally (Match u rules) w b i j k s h a t =
        let k' = k + here m w (λ p. calls_with_in y p rules) in
        let r = use_in rules (use_atom u s) in
        let e : uses_rules y rules ≡ in_tests rules + in_bodies rules = rules_parts rules in
        let n = ap (outs b) e in
        let o = outs_sum b (uses_atom y u) (uses_rules y rules) in
        let q = outs_sum b (in_tests rules) (in_bodies rules) in
        recount (omega arith) (omega arith) refl
        (tally_rules rules w b ((i + uses_atom y u) + in_tests rules) ((j + outs b (uses_atom y u)) + outs b (in_tests rules)) k r (omega arith) (λ v g e f. let z = a v g e f in omega arith)
        (all_tests b (i + uses_atom y u) (j + outs b (uses_atom y u)) k rules (use_atom u s) (use_one b i j k u s t)))
    tally (Handler x c) w b i j k s h a t = tally c w b i j k s (omega arith) (λ v g e f. let z = a v g e f in omega arith) t
    tally (SetHandler u c) w b i j k s h a t =
        sums b i j (k + here m w (λ p. calls_with y p c)) (uses_atom y u) (uses y c) (run w c (use_atom u s))
        (tally c w b (i + uses_atom y u) (j + outs b (uses_atom y u)) k (use_atom u s) (omega arith) (λ v g e f. let z = a v g e f in omega arith) (use_one b i j k u s t))
    tally (Throw u) w b i j k s h a t = recount refl refl (plus_none k (here m w (λ p. 0)) (here_none m w)) (use_one b i j k u s t)
    tally Halt w b i j k s h a t = recount (omega arith) (plus_none j (outs b 0) (outs_none b)) (plus_none k (here m w (λ p. 0)) (here_none m w)) t

    -- bodies of functions, in which y isn't bound
    pub tally_functions : (fs : Functions) (b : Bool) (i j k : ℕ) (s : List Count) → (b ≡ true → names_weigh (of_name y) (names_of fs) ≡ 0) → inside_weigh y fs ≡ 0 → Away (λ z. weigh_functions z fs) → Tally y m b i j k s → Tally y m b (i + uses_functions y fs) (j + outs b (uses_others y fs)) k (run_functions fs s)
    tally_functions NoFunction b i j k s n h a t = none_more t
    tally_functions (Function f p params c fs) b i j k s n h a t =
        let o = outs_sum b (cond (nat_eq y f) 0 (uses y c)) (uses_others y fs) in
        recount (omega arith) (omega arith) refl
        (around_body f c b (i + uses_functions y fs) (j + outs b (uses_others y fs)) k (run_functions fs s) (λ q. let z = n q in omega arith)
        (λ b' i' j' s' t'.
        recount refl refl (sym (plus_none k (here m (Some f) (λ p. calls_with y p c)) (elsewhere f (λ p. calls_with y p c) (λ v g e q. let z = a v g e q in omega arith))))
        (tally c (Some f) b' i' j' k s' (omega arith) (λ v g e q. let z = a v g e q in omega arith) t'))
        (tally_functions fs b i j k s (λ q. let z = n q in omega arith) (omega arith) (λ v g e q. let z = a v g e q in omega arith) t))

    pub tally_rules : (rs : Rules) (w : Option ℕ) (b : Bool) (i j k : ℕ) (s : List Count) → weigh_rules (of_name y) rs ≡ 0 → Away (λ z. weigh_rules z rs) → Tally y m b i j k s → Tally y m b (i + in_bodies rs) (j + outs b (in_bodies rs)) (k + here m w (λ p. calls_with_in y p rs)) (run_rules w rs s)
    tally_rules (Otherwise c) w b i j k s h a t = tally c w b i j k s h a t
    tally_rules (Rule ts c rs) w b i j k s h a t =
        let o = here_sum m w (λ p. calls_with y p c) (λ p. calls_with_in y p rs) in
        recount refl refl (omega arith)
        (sums b i j ((k + here m w (λ p. calls_with_in y p rs)) + here m w (λ p. calls_with y p c)) (in_bodies rs) (uses y c) (run w c (run_rules w rs s))
        (tally c w b (i + in_bodies rs) (j + outs b (in_bodies rs)) (k + here m w (λ p. calls_with_in y p rs)) (run_rules w rs s) (omega arith) (λ v g e f. let z = a v g e f in omega arith)
        (tally_rules rs w b i j k s (omega arith) (λ v g e f. let z = a v g e f in omega arith) t)))
