-- What a round takes away, and what it puts in twice.
use Rattle.std.proofs.Common.{◌≡◌, ℕ, zero, suc, ◌+◌, ◌≤◌, List, [], ◌∷◌, ◌++◌, map, Option, Some, None, Bool, true, false, cond, refl, sym, ap, ◌∙◌, arith}
use Rattle.smlc_base.specs.declared.point.Point.{Point}
use Rattle.smlc_base.specs.Points.{is_point}
use Rattle.simulation.specs.Runs.{times}
use Rattle.simulation.proofs.Lists.{times-append}
use Rattle.sml_def.specs.Run.{eq_point}
use Rattle.cps_ir.specs.declared.atom.Atom.{Atom}
use Rattle.cps_ir.specs.Code.{Code, Make, Pick, Prim, Equal, Fix, Call, Match, Handler, SetHandler, Throw, Halt, Functions, NoFunction, Function, Rules, Otherwise, Rule}
use Rattle.cps_ir.specs.Free.{labels, labels_functions, labels_rules}
use Rattle.contract_laws.specs.Contract.{Scope, Contracts, make, pick, does, equal, call, match, handler, set_handler, throw, halt, no_make, no_pick, no_prim, inline, known_pick, chosen, group, group_gone, SomeContract, some_none, some_both, some_skip, RulesContract, otherwise, rule, last, drop}
use Rattle.contract_laws.specs.Contract as con
use Rattle.contract_laws.specs.Weigh.{Scale, names_weigh, weigh, weigh_functions, weigh_rules, of_point}

module _ (s : Scale) (T : List (List ℕ)) (L : List Point) where
  abbrev mutual
    -- bodies that are put where they are called
    pub spent : {w : ℕ} {S : Scope} {c d : Code} → Contracts T L w S c d → ℕ
    spent (make w S x shape us bs c d p fr k) = spent k
    spent (pick w S x i a b c d p fr k) = spent k
    spent (does w S x f us bs c d p fr k) = spent k
    spent (equal w S a a' b b' k k' t p o l) = 0
    spent (call w S a b us bs p o) = 0
    spent (match w S a b rs ss p k) = spent_rules k
    spent (handler w S x c d fr k) = spent k
    spent (set_handler w S a b c d p k) = spent k
    spent (throw w S a b p) = 0
    spent (halt w S) = 0
    spent (no_make w S x shape us c d k) = spent k
    spent (no_pick w S x i a c d k) = spent k
    spent (no_prim w S x f us c d pure k) = spent k
    spent (inline w S f b us bs d is o many k) = weigh s b.code + spent k
    spent (known_pick w S x i z a b t c d p known get k) = spent k
    spent (chosen w S a b rs d p k) = spent_rules k
    spent (group w S U Y Z fs gs c d dis e al bo k) = spent_some e + spent k
    spent (group_gone w S U Y Z fs c d dis e al bo k) = spent k

    pub spent_some : {Z S : Scope} {fs gs : Functions} {U : Scope} → SomeContract T L Z S fs gs U → ℕ
    spent_some (some_none Z S) = 0
    spent_some (some_both w Z S U f p xs b d fs gs fr frs k e) = spent k + spent_some e
    spent_some (some_skip Z S U f p xs b fs gs e) = spent_some e

    pub spent_rules : {w : ℕ} {S : Scope} {a : Atom} {rs ss : Rules} → RulesContract T L w S a rs ss → ℕ
    spent_rules (otherwise w S a c d k) = spent k
    spent_rules (rule w S a ts us c d rs ss l k r) = spent k + spent_rules r
    spent_rules (last w S a ts c d rs l k) = spent k
    spent_rules (drop w S a ts c rs ss f r) = spent_rules r

  abbrev mutual
    -- what the answer doesn't have
    pub saved : {w : ℕ} {S : Scope} {c d : Code} → Contracts T L w S c d → ℕ
    saved (make w S x shape us bs c d p fr k) = saved k
    saved (pick w S x i a b c d p fr k) = saved k
    saved (does w S x f us bs c d p fr k) = saved k
    saved (equal w S a a' b b' k k' t p o l) = 0
    saved (call w S a b us bs p o) = 0
    saved (match w S a b rs ss p k) = saved_rules k
    saved (handler w S x c d fr k) = saved k
    saved (set_handler w S a b c d p k) = saved k
    saved (throw w S a b p) = 0
    saved (halt w S) = 0
    saved (no_make w S x shape us c d k) = (s.node + s.name x) + saved k
    saved (no_pick w S x i a c d k) = (s.node + s.name x) + saved k
    saved (no_prim w S x f us c d pure k) = (s.node + s.name x) + saved k
    saved (inline w S f b us bs d is o many k) = saved k
    saved (known_pick w S x i z a b t c d p known get k) = (s.node + s.name x) + saved k
    saved (chosen w S a b rs d p k) = s.node + saved_rules k
    saved (group w S U Y Z fs gs c d dis e al bo k) = saved_some e + saved k
    saved (group_gone w S U Y Z fs c d dis e al bo k) = weigh_functions s fs + saved k

    pub saved_some : {Z S : Scope} {fs gs : Functions} {U : Scope} → SomeContract T L Z S fs gs U → ℕ
    saved_some (some_none Z S) = 0
    saved_some (some_both w Z S U f p xs b d fs gs fr frs k e) = saved k + saved_some e
    saved_some (some_skip Z S U f p xs b fs gs e) = (((s.node + s.name f) + (s.point p + names_weigh s xs)) + weigh s b) + saved_some e

    pub saved_rules : {w : ℕ} {S : Scope} {a : Atom} {rs ss : Rules} → RulesContract T L w S a rs ss → ℕ
    saved_rules (otherwise w S a c d k) = saved k
    saved_rules (rule w S a ts us c d rs ss l k r) = saved k + saved_rules r
    saved_rules (last w S a ts c d rs l k) = (s.node + weigh_rules s rs) + saved k
    saved_rules (drop w S a ts c rs ss f r) = (s.node + weigh s c) + saved_rules r

  mutual
    -- What the answer weighs, and what it doesn't have, is in the argument or was put in twice. So where no body is put in twice, no
    -- name is bound more often, no point stands more often, and there are fewer nodes.
    pub counts : {w : ℕ} {S : Scope} {c d : Code} (k : Contracts T L w S c d) → weigh s d + saved k ≤ weigh s c + spent k
    counts (make w S x shape us bs c d p fr k) = let h = counts k in omega arith
    counts (pick w S x i a b c d p fr k) = let h = counts k in omega arith
    counts (does w S x f us bs c d p fr k) = let h = counts k in omega arith
    counts (equal w S a a' b b' k k' t p o l) = omega arith
    counts (call w S a b us bs p o) = omega arith
    counts (match w S a b rs ss p k) = let h = counts_rules k in omega arith
    counts (handler w S x c d fr k) = let h = counts k in omega arith
    counts (set_handler w S a b c d p k) = let h = counts k in omega arith
    counts (throw w S a b p) = omega arith
    counts (halt w S) = omega arith
    counts (no_make w S x shape us c d k) = let h = counts k in omega arith
    counts (no_pick w S x i a c d k) = let h = counts k in omega arith
    counts (no_prim w S x f us c d pure k) = let h = counts k in omega arith
    counts (inline w S f b us bs d is o many k) = let h = counts k in omega arith
    counts (known_pick w S x i z a b t c d p known get k) = let h = counts k in omega arith
    counts (chosen w S a b rs d p k) = let h = counts_rules k in omega arith
    counts (group w S U Y Z fs gs c d dis e al bo k) = let h = counts k in let g = counts_some e in omega arith
    counts (group_gone w S U Y Z fs c d dis e al bo k) = let h = counts k in omega arith

    pub counts_some : {Z S : Scope} {fs gs : Functions} {U : Scope} (e : SomeContract T L Z S fs gs U) → weigh_functions s gs + saved_some e ≤ weigh_functions s fs + spent_some e
    counts_some (some_none Z S) = omega arith
    counts_some (some_both w Z S U f p xs b d fs gs fr frs k e) = let h = counts k in let g = counts_some e in omega arith
    counts_some (some_skip Z S U f p xs b fs gs e) = let g = counts_some e in omega arith

    pub counts_rules : {w : ℕ} {S : Scope} {a : Atom} {rs ss : Rules} (k : RulesContract T L w S a rs ss) → weigh_rules s ss + saved_rules k ≤ weigh_rules s rs + spent_rules k
    counts_rules (otherwise w S a c d k) = counts k
    counts_rules (rule w S a ts us c d rs ss l k r) = let h = counts k in let g = counts_rules r in omega arith
    counts_rules (last w S a ts c d rs l k) = let h = counts k in omega arith
    counts_rules (drop w S a ts c rs ss f r) = let h = counts_rules r in omega arith

-- ---- Points

no_names : (p : Point) (xs : List ℕ) → names_weigh (of_point p) xs ≡ 0
no_names p [] = refl
no_names p (x ∷ xs) = let h = no_names p xs in omega arith

mutual
  pub weigh_times : (p : Point) (c : Code) → weigh (of_point p) c ≡ times p (labels c)
  weigh_times p (Make x shape atoms c) = let h = weigh_times p c in omega arith
  weigh_times p (Pick x i a c) = let h = weigh_times p c in omega arith
  weigh_times p (Prim x f atoms c) = let h = weigh_times p c in omega arith
  weigh_times p (Equal a b t k) = refl
  weigh_times p (Fix fs c) = let h = weigh_times p c in let g = functions_times p fs in let e = times-append p (labels_functions fs) (labels c) in omega arith
  weigh_times p (Call a atoms) = refl
  weigh_times p (Match a rules) = let h = rules_times p rules in omega arith
  weigh_times p (Handler x c) = let h = weigh_times p c in omega arith
  weigh_times p (SetHandler a c) = let h = weigh_times p c in omega arith
  weigh_times p (Throw a) = refl
  weigh_times p Halt = refl

  functions_times : (p : Point) (fs : Functions) → weigh_functions (of_point p) fs ≡ times p (labels_functions fs)
  functions_times p NoFunction = refl
  functions_times p (Function f q xs b fs) =
      let h = weigh_times p b in
      let g = functions_times p fs in
      let e = times-append p (labels b) (labels_functions fs) in
      let n = no_names p xs in
      by (is_point q p) (omega arith)
    where
      by : (c : Bool) → (names_weigh (of_point p) xs + (weigh (of_point p) b + weigh_functions (of_point p) fs) ≡ times p (labels b ++ labels_functions fs)) → (0 + (cond c 1 0 + names_weigh (of_point p) xs)) + (weigh (of_point p) b + weigh_functions (of_point p) fs) ≡ cond c (suc (times p (labels b ++ labels_functions fs))) (times p (labels b ++ labels_functions fs))
      by true e = omega arith
      by false e = omega arith

  rules_times : (p : Point) (rs : Rules) → weigh_rules (of_point p) rs ≡ times p (labels_rules rs)
  rules_times p (Otherwise c) = weigh_times p c
  rules_times p (Rule ts c rs) = let h = weigh_times p c in let g = rules_times p rs in let e = times-append p (labels c) (labels_rules rs) in omega arith

-- a round that puts in no body twice has no point more often
pub linear_times : (T : List (List ℕ)) (L : List Point) (w : ℕ) (S : Scope) (c d : Code) (k : Contracts T L w S c d) (p : Point) → spent (of_point p) T L k ≤ saved (of_point p) T L k → times p (labels d) ≤ times p (labels c)
linear_times T L w S c d k p h = let g = counts (of_point p) T L k in let a = weigh_times p c in let b = weigh_times p d in omega arith
