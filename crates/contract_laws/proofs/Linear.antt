-- Where each body is put in at most once, no more is put in than is taken away.
use Rattle.std.proofs.Common.{◌≡◌, ◌≢◌, ℕ, zero, suc, ◌+◌, ◌≤◌, List, [], ◌∷◌, Option, Some, None, Bool, true, false, cond, ◌⊎◌, inl, inr, refl, sym, ap, ◌∙◌, subst, arith, ⊎_elim, nat_eq}
use Rattle.smlc_base.specs.declared.point.Point.{Point}
use Rattle.simulation.specs.Runs.{times}
use Rattle.simulation.proofs.Lists.{some_eq}
use Rattle.cps_ir.specs.declared.atom.Atom.{Atom}
use Rattle.cps_ir.specs.declared.atom.Atom.TheVariants as atom
use Rattle.cps_ir.specs.Code.{Code, Make, Pick, Prim, Equal, Fix, Call, Match, Handler, SetHandler, Throw, Halt, Functions, NoFunction, Function, Rules, Otherwise, Rule}
use Rattle.cps_ir.specs.Free.{labels}
use Rattle.cps_ir.specs.State.{bind}
use Rattle.contract_laws.specs.Contract.{Body, Scope, start, kept, lost, Contracts, make, pick, does, equal, call, match, handler, set_handler, throw, halt, no_make, no_pick, no_prim, inline, known_pick, chosen, Aliases, no_alias, next_alias, alias, Bodies, no_body, next_body, put_body, group, group_gone, SomeContract, some_none, some_both, some_skip, RulesContract, otherwise, rule, last, drop}
use Rattle.contract_laws.specs.Redex.{calls, calls_rules, called_once}
use Rattle.contract_laws.specs.Weigh.{Scale, weigh, weigh_functions, of_point}
use Rattle.contract_laws.proofs.Relation.{eqb_other, bind_same, bind_other}
use Rattle.contract_laws.proofs.Free.{bind_cases}
use Rattle.contract_laws.proofs.Count.{spent, spent_some, spent_rules, saved, saved_some, saved_rules, linear_times}

-- what calls in a body come to, where W says it for each name
abbrev pub owed_atom : (ℕ → ℕ) → Atom → ℕ
owed_atom W (atom.Var f) = W f
owed_atom W (atom.Constant v) = 0

abbrev mutual
  pub owed : (ℕ → ℕ) → Code → ℕ
  owed W (Make x shape atoms c) = owed W c
  owed W (Pick x i a c) = owed W c
  owed W (Prim x f atoms c) = owed W c
  owed W (Equal a b t k) = 0
  owed W (Fix fs c) = owed W c
  owed W (Call a atoms) = owed_atom W a
  owed W (Match a rules) = owed_rules W rules
  owed W (Handler x c) = owed W c
  owed W (SetHandler a c) = owed W c
  owed W (Throw a) = 0
  owed W Halt = 0

  pub owed_rules : (ℕ → ℕ) → Rules → ℕ
  owed_rules W (Otherwise c) = owed W c
  owed_rules W (Rule ts c rules) = owed W c + owed_rules W rules

abbrev pub free : ℕ → ℕ
free x = 0

mutual
  pub owed_free : (c : Code) → owed free c ≡ 0
  owed_free (Make x shape atoms c) = owed_free c
  owed_free (Pick x i a c) = owed_free c
  owed_free (Prim x f atoms c) = owed_free c
  owed_free (Equal a b t k) = refl
  owed_free (Fix fs c) = owed_free c
  owed_free (Call (atom.Var f) atoms) = refl
  owed_free (Call (atom.Constant v) atoms) = refl
  owed_free (Match a rules) = rules_free rules
  owed_free (Handler x c) = owed_free c
  owed_free (SetHandler a c) = owed_free c
  owed_free (Throw a) = refl
  owed_free Halt = refl

  rules_free : (rs : Rules) → owed_rules free rs ≡ 0
  rules_free (Otherwise c) = owed_free c
  rules_free (Rule ts c rs) = let h = owed_free c in let g = rules_free rs in omega arith

self_once : (f : ℕ) → called_once f (atom.Var f) ≡ zero → ⊥
self_once f h = let k : called_once f (atom.Var f) ≡ suc zero = bind_same (λ x. zero) f (suc zero) in absurd (omega arith)

atom_none : (W : ℕ → ℕ) (f n : ℕ) (a : Atom) → called_once f a ≡ 0 → owed_atom (bind W f n) a ≤ owed_atom W a
atom_none W f n (atom.Constant v) e = omega arith
atom_none W f n (atom.Var g) e = let k = bind_other W f n g (λ q. self_once f (subst (λ t. called_once f (atom.Var t) ≡ zero) q e)) in omega arith

atom_once : (W : ℕ → ℕ) (f n : ℕ) (a : Atom) → owed_atom (bind W f n) a ≤ owed_atom W a + n
atom_once W f n (atom.Constant v) = omega arith
atom_once W f n (atom.Var g) = by (nat_eq g f)
  where
    by : (b : Bool) → cond b n (W g) ≤ W g + n
    by true = omega arith
    by false = omega arith

mutual
  owed_none : (W : ℕ → ℕ) (f n : ℕ) (c : Code) → calls f c ≡ 0 → owed (bind W f n) c ≤ owed W c
  owed_none W f n (Make x shape atoms c) e = owed_none W f n c e
  owed_none W f n (Pick x i a c) e = owed_none W f n c e
  owed_none W f n (Prim x g atoms c) e = owed_none W f n c e
  owed_none W f n (Equal a b t k) e = omega arith
  owed_none W f n (Fix fs c) e = owed_none W f n c e
  owed_none W f n (Call a atoms) e = atom_none W f n a e
  owed_none W f n (Match a rules) e = rules_none W f n rules e
  owed_none W f n (Handler x c) e = owed_none W f n c e
  owed_none W f n (SetHandler a c) e = owed_none W f n c e
  owed_none W f n (Throw a) e = omega arith
  owed_none W f n Halt e = omega arith

  rules_none : (W : ℕ → ℕ) (f n : ℕ) (rs : Rules) → calls_rules f rs ≡ 0 → owed_rules (bind W f n) rs ≤ owed_rules W rs
  rules_none W f n (Otherwise c) e = owed_none W f n c e
  rules_none W f n (Rule ts c rs) e = let h = owed_none W f n c (omega arith) in let g = rules_none W f n rs (omega arith) in omega arith

two_once : (W : ℕ → ℕ) (f n : ℕ) (c : Code) (rs : Rules) → calls f c + calls_rules f rs ≤ 1 → (calls f c ≤ 1 → owed (bind W f n) c ≤ owed W c + n) → (calls_rules f rs ≤ 1 → owed_rules (bind W f n) rs ≤ owed_rules W rs + n) → owed (bind W f n) c + owed_rules (bind W f n) rs ≤ (owed W c + owed_rules W rs) + n
two_once W f n c rs e left right = by (calls f c) refl
  where
    by : (m : ℕ) → calls f c ≡ m → owed (bind W f n) c + owed_rules (bind W f n) rs ≤ (owed W c + owed_rules W rs) + n
    by zero g = let h = owed_none W f n c g in let k = right (omega arith) in omega arith
    by (suc m) g = let h = left (omega arith) in let k = rules_none W f n rs (omega arith) in omega arith

mutual
  pub owed_once : (W : ℕ → ℕ) (f n : ℕ) (c : Code) → calls f c ≤ 1 → owed (bind W f n) c ≤ owed W c + n
  owed_once W f n (Make x shape atoms c) e = owed_once W f n c e
  owed_once W f n (Pick x i a c) e = owed_once W f n c e
  owed_once W f n (Prim x g atoms c) e = owed_once W f n c e
  owed_once W f n (Equal a b t k) e = omega arith
  owed_once W f n (Fix fs c) e = owed_once W f n c e
  owed_once W f n (Call a atoms) e = atom_once W f n a
  owed_once W f n (Match a rules) e = rules_once W f n rules e
  owed_once W f n (Handler x c) e = owed_once W f n c e
  owed_once W f n (SetHandler a c) e = owed_once W f n c e
  owed_once W f n (Throw a) e = omega arith
  owed_once W f n Halt e = omega arith

  rules_once : (W : ℕ → ℕ) (f n : ℕ) (rs : Rules) → calls_rules f rs ≤ 1 → owed_rules (bind W f n) rs ≤ owed_rules W rs + n
  rules_once W f n (Otherwise c) e = owed_once W f n c e
  rules_once W f n (Rule ts c rs) e = two_once W f n c rs e (λ i. owed_once W f n c i) (λ i. rules_once W f n rs i)

module _ (s : Scale) where
  -- each body that is put in is called at most once
  abbrev pub CalledOnce : {L : List Point} {σ : ℕ → Option Atom} {fs : Functions} {Y Z : Scope} → Bodies L σ fs Y Z → Code → Type 0
  CalledOnce (no_body S) c = Unit {0}
  CalledOnce (next_body S Z f p xs b fs r) c = CalledOnce r c
  CalledOnce (put_body S Z f p xs b fs hid r) c = (calls f c ≤ 1) × CalledOnce r c

  abbrev pub put : {L : List Point} {σ : ℕ → Option Atom} {fs : Functions} {Y Z : Scope} → Bodies L σ fs Y Z → ℕ
  put (no_body S) = 0
  put (next_body S Z f p xs b fs r) = put r
  put (put_body S Z f p xs b fs hid r) = weigh s b + put r

  put_less : (L : List Point) (σ : ℕ → Option Atom) (fs : Functions) (Y Z : Scope) (r : Bodies L σ fs Y Z) → put r ≤ weigh_functions s fs
  put_less L σ fs Y Z (no_body S) = omega arith
  put_less L σ fs Y Z (next_body S Z' f p xs b hs r) = let h = put_less L σ hs Y Z r in omega arith
  put_less L σ fs Y Z (put_body S Z' f p xs b hs hid r) = let h = put_less L σ hs _ Z r in omega arith

  module _ (T : List (List ℕ)) (L : List Point) where
    abbrev pub skipped : {Z S : Scope} {fs gs : Functions} {U : Scope} → SomeContract T L Z S fs gs U → ℕ
    skipped (some_none Z S) = 0
    skipped (some_both w Z S U f p xs b d fs gs fr frs k e) = skipped e
    skipped (some_skip Z S U f p xs b fs gs e) = weigh s b + skipped e

    abbrev mutual
      pub Linear : {w : ℕ} {S : Scope} {c d : Code} → Contracts T L w S c d → Type 0
      Linear (make w S x shape us bs c d p fr k) = Linear k
      Linear (pick w S x i a b c d p fr k) = Linear k
      Linear (does w S x f us bs c d p fr k) = Linear k
      Linear (equal w S a a' b b' k k' t p o l) = Unit {0}
      Linear (call w S a b us bs p o) = Unit {0}
      Linear (match w S a b rs ss p k) = LinearRules k
      Linear (handler w S x c d fr k) = Linear k
      Linear (set_handler w S a b c d p k) = Linear k
      Linear (throw w S a b p) = Unit {0}
      Linear (halt w S) = Unit {0}
      Linear (no_make w S x shape us c d k) = Linear k
      Linear (no_pick w S x i a c d k) = Linear k
      Linear (no_prim w S x f us c d pure k) = Linear k
      Linear (inline w S f b us bs d is o many k) = Linear k
      Linear (known_pick w S x i z a b t c d p known get k) = Linear k
      Linear (chosen w S a b rs d p k) = LinearRules k
      Linear (group w S U Y Z fs gs c d dis e al bo k) = LinearSome e × CalledOnce bo c × (put bo ≤ skipped e) × Linear k
      Linear (group_gone w S U Y Z fs c d dis e al bo k) = CalledOnce bo c × Linear k

      pub LinearSome : {Z S : Scope} {fs gs : Functions} {U : Scope} → SomeContract T L Z S fs gs U → Type 0
      LinearSome (some_none Z S) = Unit {0}
      LinearSome (some_both w Z S U f p xs b d fs gs fr frs k e) = Linear k × LinearSome e
      LinearSome (some_skip Z S U f p xs b fs gs e) = LinearSome e

      pub LinearRules : {w : ℕ} {S : Scope} {a : Atom} {rs ss : Rules} → RulesContract T L w S a rs ss → Type 0
      LinearRules (otherwise w S a c d k) = Linear k
      LinearRules (rule w S a ts us c d rs ss l k r) = Linear k × LinearRules r
      LinearRules (last w S a ts c d rs l k) = Linear k
      LinearRules (drop w S a ts c rs ss f r) = LinearRules r

    abbrev Pays : Scope → (ℕ → ℕ) → Type 0
    Pays S W = (f : ℕ) (b : Body) → S.ι f ≡ Some b → weigh s b.code ≤ W f

    pays_none : (S : Scope) (W : ℕ → ℕ) (x : ℕ) → Pays S W → (f : ℕ) (b : Body) → bind S.ι x None f ≡ Some b → weigh s b.code ≤ W f
    pays_none S W x h f b e = ⊎_elim (λ (u : (f ≡ x) × (None ≡ Some b)). absurd (let k = u.1 in cc)) (λ (u : (f ≢ x) × (S.ι f ≡ Some b)). h f b u.1) (bind_cases S.ι x None f b e)

    pays_some : (W : ℕ → ℕ) (Z S U : Scope) (fs gs : Functions) → SomeContract T L Z S fs gs U → Pays S W → Pays U W
    pays_some W Z S U fs gs (some_none Z' S') h = h
    pays_some W Z S U fs gs (some_both w Z' S' U' f p xs b d hs ks fr frs k e) h = pays_some W Z (kept S f None) U hs ks e (pays_none S W f h)
    pays_some W Z S U fs gs (some_skip Z' S' U' f p xs b hs ks e) h = pays_some W Z (lost S f None None) U hs gs e (pays_none S W f h)

    pays_alias : (W : ℕ → ℕ) (U Y : Scope) (fs : Functions) → Aliases L fs U Y → Pays U W → Pays Y W
    pays_alias W U Y fs (no_alias S) h = h
    pays_alias W U Y fs (next_alias S Z f p xs b hs r) h = pays_alias W U Y hs r h
    pays_alias W U Y fs (alias S Z f p xs x us hs a hid same out dis k r) h = pays_alias W (lost U f (Some a) None) Y hs r (pays_none U W f h)

    pays_bodies : (σ : ℕ → Option Atom) (W : ℕ → ℕ) (Y Z : Scope) (fs : Functions) (c : Code) (r : Bodies L σ fs Y Z) → CalledOnce r c → Pays Y W → (X : ℕ → ℕ) × Pays Z X × (owed X c ≤ owed W c + put r)
    pays_bodies σ W Y Z fs c (no_body S) o h = (W, h, omega arith)
    pays_bodies σ W Y Z fs c (next_body S Z' f p xs b hs r) o h = pays_bodies σ W Y Z hs c r o h
    pays_bodies σ W Y Z fs c (put_body S Z' f p xs b hs hid r) o h =
        let body : Body = record { params = xs; code = b; σ = σ } in
        let n = weigh s b in
        let k = pays_bodies σ (bind W f n) (lost Y f (Y.σ f) (Some body)) Z hs c r o.1
        (λ g v e. ⊎_elim
        (λ (u : (g ≡ f) × (Some body ≡ Some v)). let i = ap (bind W f n) u.0 ∙ bind_same W f n in let j = some_eq (λ (t : Body). weigh s t.code ≡ n) body v u.1 refl in omega arith)
        (λ (u : (g ≢ f) × (Y.ι g ≡ Some v)). let i = bind_other W f n g u.0 in let j = h g v u.1 in omega arith)
        (bind_cases Y.ι f (Some body) g v e)) in
        let l = owed_once W f n c o.0 in
        let m = k.2 in
        (k.0, k.1, omega arith)

    mutual
      linear : {w : ℕ} {S : Scope} {c d : Code} (k : Contracts T L w S c d) (W : ℕ → ℕ) → Linear k → Pays S W → spent s T L k ≤ saved s T L k + owed W c
      linear (make w S x shape us bs c d p fr k) W l h = linear k W l (pays_none S W x h)
      linear (pick w S x i a b c d p fr k) W l h = linear k W l (pays_none S W x h)
      linear (does w S x f us bs c d p fr k) W l h = linear k W l (pays_none S W x h)
      linear (equal w S a a' b b' k k' t p o q) W l h = omega arith
      linear (call w S a b us bs p o) W l h = omega arith
      linear (match w S a b rs ss p k) W l h = linear_rules k W l h
      linear (handler w S x c d fr k) W l h = linear k W l (pays_none S W x h)
      linear (set_handler w S a b c d p k) W l h = linear k W l h
      linear (throw w S a b p) W l h = omega arith
      linear (halt w S) W l h = omega arith
      linear (no_make w S x shape us c d k) W l h = let i = linear k W l (pays_none S W x h) in omega arith
      linear (no_pick w S x i a c d k) W l h = let j = linear k W l (pays_none S W x h) in omega arith
      linear (no_prim w S x f us c d pure k) W l h = let i = linear k W l (pays_none S W x h) in omega arith
      linear (inline w S f b us bs d is o many k) W l h =
          let i = linear k free l (λ g v e. absurd (cc)) in
          let j = owed_free b.code in
          let m = h f b is in
          omega arith
      linear (known_pick w S x i z a b t c d p known get k) W l h = let j = linear k W l (pays_none S W x h) in omega arith
      linear (chosen w S a b rs d p k) W l h = let j = linear_rules k W l h in omega arith
      linear (group w S U Y Z fs gs c d dis e al bo k) W l h =
          let x = pays_bodies Y.σ W Y Z fs c bo l.1 (pays_alias W U Y fs al (pays_some W Z S U fs gs e h)) in
          let i = linear k x.0 l.3 x.1 in
          let j = linear_some e l.0 in
          let m = x.2 in
          let n = l.2 in
          omega arith
      linear (group_gone w S U Y Z fs c d dis e al bo k) W l h =
          let x = pays_bodies Y.σ W Y Z fs c bo l.0 (pays_alias W U Y fs al (pays_some W Z S U fs NoFunction e h)) in
          let i = linear k x.0 l.1 x.1 in
          let m = x.2 in
          let n = put_less L Y.σ fs Y Z bo in
          omega arith

      linear_some : {Z S : Scope} {fs gs : Functions} {U : Scope} (e : SomeContract T L Z S fs gs U) → LinearSome e → spent_some s T L e + skipped e ≤ saved_some s T L e
      linear_some (some_none Z S) l = omega arith
      linear_some (some_both w Z S U f p xs b d fs gs fr frs k e) l =
          let i = linear k free l.0 (λ g v e. absurd (cc)) in
          let j = owed_free b in
          let m = linear_some e l.1 in
          omega arith
      linear_some (some_skip Z S U f p xs b fs gs e) l = let m = linear_some e l in omega arith

      linear_rules : {w : ℕ} {S : Scope} {a : Atom} {rs ss : Rules} (k : RulesContract T L w S a rs ss) (W : ℕ → ℕ) → LinearRules k → Pays S W → spent_rules s T L k ≤ saved_rules s T L k + owed_rules W rs
      linear_rules (otherwise w S a c d k) W l h = linear k W l h
      linear_rules (rule w S a ts us c d rs ss x k r) W l h = let i = linear k W l.0 h in let j = linear_rules r W l.1 h in omega arith
      linear_rules (last w S a ts c d rs x k) W l h = let i = linear k W l h in omega arith
      linear_rules (drop w S a ts c rs ss f r) W l h = let j = linear_rules r W l h in omega arith

-- A round that puts in each body at most once puts in no more than it takes away.
pub linear_round : (s : Scale) (T : List (List ℕ)) (L : List Point) (w : ℕ) (c d : Code) (k : Contracts T L w start c d) → Linear s T L k → spent s T L k ≤ saved s T L k
linear_round s T L w c d k l = let h = linear s T L k free l (λ g v e. absurd (cc)) in let i = owed_free c in omega arith

-- So no point stands more often: what `Rounds.round` asks for.
pub linear_labels : (T : List (List ℕ)) (L : List Point) (w : ℕ) (c d : Code) (k : Contracts T L w start c d) → ((p : Point) → Linear (of_point p) T L k) → (p : Point) → times p (labels d) ≤ times p (labels c)
linear_labels T L w c d k l p = linear_times T L w start c d k p (linear_round (of_point p) T L w c d k (l p))
