-- What is used, where it isn't bound, occurs; and what occurs is free.
use Rattle.std.proofs.Common.{◌≡◌, ℕ, zero, suc, ◌+◌, ◌≤◌, List, [], ◌∷◌, Bool, true, false, cond, ◌||◌, ◌⊎◌, inl, inr, refl, ap, arith, ⊎_elim, eqb-true, nat_eq}
use Rattle.sml_tree.specs.Sets.{has, union, without}
use Rattle.cps_ir.specs.declared.atom.Atom.{Atom}
use Rattle.cps_ir.specs.declared.atom.Atom.TheVariants as atom
use Rattle.cps_ir.specs.declared.atom.Wanted.{Wanted}
use Rattle.cps_ir.specs.declared.atom.Wanted.TheVariants as want
use Rattle.cps_ir.specs.declared.atom.Test.{Test}
use Rattle.cps_ir.specs.Code.{Code, Make, Pick, Prim, Equal, Fix, Call, Match, Handler, SetHandler, Throw, Halt, Functions, NoFunction, Function, Rules, Otherwise, Rule, names_of}
use Rattle.cps_ir.specs.Free.{vars, vars_all, vars_wanted, vars_tests, free_code, free_functions, free_rules}
use Rattle.contract_laws.specs.Redex.{uses, uses_functions, uses_rules, uses_atom, uses_atoms, uses_wanted, uses_tests, calls_with, calls_with_in}
use Rattle.contract_laws.specs.Weigh.{weigh, weigh_functions, weigh_rules, names_weigh, of_name}
use Rattle.contract_laws.proofs.Free.{In, in_left, in_right, in_without, in_one, one_in, in_cases}
use Rattle.contract_round.proofs.Facts.{own, own_same, applied_less}
use Rattle.contract_holds.specs.Open.{occurs, occurs_functions, occurs_rules, inner, inner_rules}

-- ---- Where a variable isn't bound

abbrev one_if : Bool → ℕ
one_if b = cond b 1 0

pub cond_own : (x y n : ℕ) → own x y ≡ 0 → cond (nat_eq x y) 0 n ≡ n
cond_own x y n e = by (nat_eq x y) e
  where
    by : (b : Bool) → one_if b ≡ 0 → cond b 0 n ≡ n
    by true h = absurd (omega arith)
    by false h = refl

pub has_weighs : (x : ℕ) (xs : List ℕ) → has xs x ≡ true → 1 ≤ names_weigh (of_name x) xs
has_weighs x [] h = absurd (cc)
has_weighs x (y ∷ xs) h = ⊎_elim (λ (e : x ≡ y). let o = own_same x y e in omega arith) (λ (i : In x xs). let k = has_weighs x xs i in omega arith) (in_cases x y xs h)

pub has_none : (x : ℕ) (xs : List ℕ) → names_weigh (of_name x) xs ≡ 0 → has xs x ≡ false
has_none x xs e = by (has xs x) refl
  where
    by : (b : Bool) → has xs x ≡ b → has xs x ≡ false
    by true h = let k = has_weighs x xs h in absurd (omega arith)
    by false h = h

pub weighs_none : (x : ℕ) (xs : List ℕ) → has xs x ≡ false → names_weigh (of_name x) xs ≡ 0
weighs_none x [] e = refl
weighs_none x (y ∷ ys) e = by (nat_eq x y) refl (weighs_none x ys) e
  where
    by : (b : Bool) → nat_eq x y ≡ b → (has ys x ≡ false → names_weigh (of_name x) ys ≡ 0) → (b || has ys x) ≡ false → own x y + names_weigh (of_name x) ys ≡ 0
    by true q f h = absurd (cc)
    by false q f h = let o : own x y ≡ 0 = ap (λ t. cond t 1 0) q in let k = f h in omega arith

pub cond_has : (x : ℕ) (xs : List ℕ) (n : ℕ) → names_weigh (of_name x) xs ≡ 0 → cond (has xs x) 0 n ≡ n
cond_has x xs n e = ap (λ b. cond b 0 n) (has_none x xs e)

pub names_less : (x : ℕ) (fs : Functions) → names_weigh (of_name x) (names_of fs) ≤ weigh_functions (of_name x) fs
names_less x NoFunction = omega arith
names_less x (Function f p params b fs) = let h = names_less x fs in omega arith

-- ---- What is used there occurs

mutual
  pub uses_occurs : (x : ℕ) (c : Code) → weigh (of_name x) c ≡ 0 → uses x c ≤ occurs x c
  uses_occurs x (Make y shape atoms c) w = let h = uses_occurs x c (omega arith) in let e = cond_own x y (occurs x c) (omega arith) in omega arith
  uses_occurs x (Pick y i a c) w = let h = uses_occurs x c (omega arith) in let e = cond_own x y (occurs x c) (omega arith) in omega arith
  uses_occurs x (Prim y f atoms c) w = let h = uses_occurs x c (omega arith) in let e = cond_own x y (occurs x c) (omega arith) in omega arith
  uses_occurs x (Equal a b t k) w = omega arith
  uses_occurs x (Fix fs c) w =
      let n = names_less x fs in
      let e = cond_has x (names_of fs) (occurs_functions x fs + occurs x c) (omega arith) in
      let h = uses_occurs x c (omega arith) in
      let g = uses_occurs_functions x fs (omega arith) in
      omega arith
  uses_occurs x (Call a atoms) w = omega arith
  uses_occurs x (Match a rules) w = let h = uses_occurs_rules x rules (omega arith) in omega arith
  uses_occurs x (Handler y c) w = let h = uses_occurs x c (omega arith) in let e = cond_own x y (occurs x c) (omega arith) in omega arith
  uses_occurs x (SetHandler a c) w = let h = uses_occurs x c (omega arith) in omega arith
  uses_occurs x (Throw a) w = omega arith
  uses_occurs x Halt w = omega arith

  pub uses_occurs_functions : (x : ℕ) (fs : Functions) → weigh_functions (of_name x) fs ≡ 0 → uses_functions x fs ≤ occurs_functions x fs
  uses_occurs_functions x NoFunction w = omega arith
  uses_occurs_functions x (Function f p params b fs) w =
      let e = cond_has x params (occurs x b) (omega arith) in
      let h = uses_occurs x b (omega arith) in
      let g = uses_occurs_functions x fs (omega arith) in
      omega arith

  pub uses_occurs_rules : (x : ℕ) (rs : Rules) → weigh_rules (of_name x) rs ≡ 0 → uses_rules x rs ≤ occurs_rules x rs
  uses_occurs_rules x (Otherwise c) w = uses_occurs x c w
  uses_occurs_rules x (Rule ts c rs) w = let h = uses_occurs x c (omega arith) in let g = uses_occurs_rules x rs (omega arith) in omega arith

-- ---- Calls in the body itself are no uses in its functions

mutual
  pub calls_inner : (f n : ℕ) (c : Code) → calls_with f n c + inner f c ≤ uses f c
  calls_inner f n (Make y shape atoms c) = let h = calls_inner f n c in omega arith
  calls_inner f n (Pick y i a c) = let h = calls_inner f n c in omega arith
  calls_inner f n (Prim y g atoms c) = let h = calls_inner f n c in omega arith
  calls_inner f n (Equal a b t k) = omega arith
  calls_inner f n (Fix fs c) = let h = calls_inner f n c in omega arith
  calls_inner f n (Call a atoms) = let h = applied_less f n a atoms in omega arith
  calls_inner f n (Match a rules) = let h = calls_inner_rules f n rules in omega arith
  calls_inner f n (Handler y c) = let h = calls_inner f n c in omega arith
  calls_inner f n (SetHandler a c) = let h = calls_inner f n c in omega arith
  calls_inner f n (Throw a) = omega arith
  calls_inner f n Halt = omega arith

  pub calls_inner_rules : (f n : ℕ) (rs : Rules) → calls_with_in f n rs + inner_rules f rs ≤ uses_rules f rs
  calls_inner_rules f n (Otherwise c) = calls_inner f n c
  calls_inner_rules f n (Rule ts c rs) = let h = calls_inner f n c in let g = calls_inner_rules f n rs in omega arith

-- ---- What occurs is free

some_of : (m n : ℕ) → 1 ≤ m + n → (1 ≤ m) ⊎ (1 ≤ n)
some_of zero n h = inr (omega arith)
some_of (suc m) n h = inl (omega arith)

not_bound : (x y n : ℕ) → 1 ≤ cond (nat_eq x y) 0 n → (1 ≤ n) × (x ≡ y → ⊥)
not_bound x y n h = by (nat_eq x y) refl h
  where
    by : (b : Bool) → nat_eq x y ≡ b → 1 ≤ cond b 0 n → (1 ≤ n) × (x ≡ y → ⊥)
    by true e g = absurd (omega arith)
    by false e g = (g, λ q. let o = own_same x y q in let z : own x y ≡ 0 = ap (λ t. cond t 1 0) e in absurd (omega arith))

not_among : (x : ℕ) (xs : List ℕ) (n : ℕ) → 1 ≤ cond (has xs x) 0 n → (1 ≤ n) × (In x xs → ⊥)
not_among x xs n h = by (has xs x) refl h
  where
    by : (b : Bool) → has xs x ≡ b → 1 ≤ cond b 0 n → (1 ≤ n) × (In x xs → ⊥)
    by true e g = absurd (omega arith)
    by false e g = (g, λ q. absurd (cc))

uses_in_atom : (x : ℕ) (a : Atom) → 1 ≤ uses_atom x a → In x (vars a)
uses_in_atom x (atom.Var y) h = by (nat_eq x y) refl h
  where
    by : (b : Bool) → nat_eq x y ≡ b → 1 ≤ cond b 1 0 → In x (y ∷ [])
    by true e g = one_in x y (eqb-true x y e)
    by false e g = absurd (omega arith)
uses_in_atom x (atom.Constant k) h = absurd (omega arith)

uses_in_atoms : (x : ℕ) (us : List Atom) → 1 ≤ uses_atoms x us → In x (vars_all us)
uses_in_atoms x [] h = absurd (omega arith)
uses_in_atoms x (a ∷ us) h = ⊎_elim (λ (i : 1 ≤ uses_atom x a). in_left x (vars a) (vars_all us) (uses_in_atom x a i)) (λ (i : 1 ≤ uses_atoms x us). in_right x (vars a) (vars_all us) (uses_in_atoms x us i)) (some_of (uses_atom x a) (uses_atoms x us) h)

uses_in_wanted : (x : ℕ) (w : Wanted) → 1 ≤ uses_wanted x w → In x (vars_wanted w)
uses_in_wanted x (want.Exn a applied) h = uses_in_atom x a h
uses_in_wanted x (want.Num z) h = absurd (omega arith)
uses_in_wanted x (want.Tag t) h = absurd (omega arith)
uses_in_wanted x (want.Text t) h = absurd (omega arith)

uses_in_tests : (x : ℕ) (ts : List Test) → 1 ≤ uses_tests x ts → In x (vars_tests ts)
uses_in_tests x [] h = absurd (omega arith)
uses_in_tests x (t ∷ ts) h = ⊎_elim (λ (i : 1 ≤ uses_wanted x t.want). in_left x (vars_wanted t.want) (vars_tests ts) (uses_in_wanted x t.want i)) (λ (i : 1 ≤ uses_tests x ts). in_right x (vars_wanted t.want) (vars_tests ts) (uses_in_tests x ts i)) (some_of (uses_wanted x t.want) (uses_tests x ts) h)

either : (x m n : ℕ) (xs ys : List ℕ) → 1 ≤ m + n → (1 ≤ m → In x xs) → (1 ≤ n → In x ys) → In x (union xs ys)
either x m n xs ys h f g = ⊎_elim (λ (i : 1 ≤ m). in_left x xs ys (f i)) (λ (i : 1 ≤ n). in_right x xs ys (g i)) (some_of m n h)

mutual
  pub occurs_free : (x : ℕ) (c : Code) → 1 ≤ occurs x c → In x (free_code c)
  occurs_free x (Make y shape us c) h = either x _ _ (vars_all us) (without (free_code c) (y ∷ [])) h (uses_in_atoms x us) (λ i. let k = not_bound x y (occurs x c) i in in_without x (free_code c) (y ∷ []) (λ j. k.1 (in_one x y j)) (occurs_free x c k.0))
  occurs_free x (Pick y j a c) h = either x _ _ (vars a) (without (free_code c) (y ∷ [])) h (uses_in_atom x a) (λ i. let k = not_bound x y (occurs x c) i in in_without x (free_code c) (y ∷ []) (λ j. k.1 (in_one x y j)) (occurs_free x c k.0))
  occurs_free x (Prim y f us c) h = either x _ _ (vars_all us) (without (free_code c) (y ∷ [])) h (uses_in_atoms x us) (λ i. let k = not_bound x y (occurs x c) i in in_without x (free_code c) (y ∷ []) (λ j. k.1 (in_one x y j)) (occurs_free x c k.0))
  occurs_free x (Equal a b t k) h = uses_in_atoms x (a ∷ b ∷ k ∷ []) h
  occurs_free x (Fix fs c) h =
      let k = not_among x (names_of fs) (occurs_functions x fs + occurs x c) h in
      in_without x (union (free_functions fs) (free_code c)) (names_of fs) k.1 (either x _ _ (free_functions fs) (free_code c) k.0 (occurs_free_functions x fs) (occurs_free x c))
  occurs_free x (Call a us) h = either x _ _ (vars a) (vars_all us) h (uses_in_atom x a) (uses_in_atoms x us)
  occurs_free x (Match a rules) h = either x _ _ (vars a) (free_rules rules) h (uses_in_atom x a) (occurs_free_rules x rules)
  occurs_free x (Handler y c) h = let k = not_bound x y (occurs x c) h in in_without x (free_code c) (y ∷ []) (λ j. k.1 (in_one x y j)) (occurs_free x c k.0)
  occurs_free x (SetHandler a c) h = either x _ _ (vars a) (free_code c) h (uses_in_atom x a) (occurs_free x c)
  occurs_free x (Throw a) h = uses_in_atom x a h
  occurs_free x Halt h = absurd (omega arith)

  pub occurs_free_functions : (x : ℕ) (fs : Functions) → 1 ≤ occurs_functions x fs → In x (free_functions fs)
  occurs_free_functions x NoFunction h = absurd (omega arith)
  occurs_free_functions x (Function f p params b fs) h =
      either x _ _ (without (free_code b) params) (free_functions fs) h (λ i. let k = not_among x params (occurs x b) i in in_without x (free_code b) params k.1 (occurs_free x b k.0)) (occurs_free_functions x fs)

  pub occurs_free_rules : (x : ℕ) (rs : Rules) → 1 ≤ occurs_rules x rs → In x (free_rules rs)
  occurs_free_rules x (Otherwise c) h = occurs_free x c h
  occurs_free_rules x (Rule ts c rs) h = either x _ _ (vars_tests ts) (union (free_code c) (free_rules rs)) h (uses_in_tests x ts) (λ i. either x _ _ (free_code c) (free_rules rs) i (occurs_free x c) (occurs_free_rules x rs))
