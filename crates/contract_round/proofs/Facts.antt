-- How often a variable is used, called and bound.
use Rattle.std.proofs.Common.{◌≡◌, ℕ, ◌+◌, ◌≤◌, List, [], ◌∷◌, length, Bool, true, false, cond, ◌&&◌, inl, inr, refl, ap, arith, ⊎_elim, eq-eqb, nat_eq}
use Rattle.simulation.specs.Blocks.{IsAmong}
use Rattle.sml_tree.specs.Sets.{union, without}
use Rattle.cps_ir.specs.declared.atom.Atom.{Atom}
use Rattle.cps_ir.specs.declared.atom.Wanted.{Wanted}
use Rattle.cps_ir.specs.declared.atom.Test.{Test}
use Rattle.cps_ir.specs.declared.atom.Atom.TheVariants as atom
use Rattle.cps_ir.specs.declared.atom.Wanted.TheVariants as want
use Rattle.cps_ir.specs.Code.{Code, Make, Pick, Prim, Equal, Fix, Call, Match, Handler, SetHandler, Throw, Halt, Functions, NoFunction, Function, Rules, Otherwise, Rule, names_of}
use Rattle.cps_ir.specs.Free.{vars, vars_all, vars_wanted, vars_tests, free_code, free_functions, free_rules}
use Rattle.contract_laws.specs.Contract.{Fresh, AllFresh, with_params}
use Rattle.contract_laws.specs.Redex.{uses, uses_functions, uses_rules, uses_atom, uses_atoms, uses_wanted, uses_tests, calls, calls_rules, calls_with, calls_with_in, applied_to}
use Rattle.contract_laws.specs.Weigh.{names_weigh, of_name}
use Rattle.contract_laws.proofs.Free.{In, in_union, without_in, in_one}

abbrev pub own : ℕ → ℕ → ℕ
own x y = cond (nat_eq x y) 1 0

pub own_same : (x y : ℕ) → x ≡ y → own x y ≡ 1
own_same x y e = ap (λ t. cond t 1 0) (eq-eqb x y e)

-- ---- Calls are uses

mutual
  pub calls_less : (f : ℕ) (c : Code) → calls f c ≤ uses f c
  calls_less f (Make y shape atoms c) = let h = calls_less f c in omega arith
  calls_less f (Pick y i a c) = let h = calls_less f c in omega arith
  calls_less f (Prim y g atoms c) = let h = calls_less f c in omega arith
  calls_less f (Equal a b t k) = omega arith
  calls_less f (Fix fs c) = let h = calls_less f c in omega arith
  calls_less f (Call a atoms) = omega arith
  calls_less f (Match a rules) = let h = calls_less_rules f rules in omega arith
  calls_less f (Handler y c) = calls_less f c
  calls_less f (SetHandler a c) = let h = calls_less f c in omega arith
  calls_less f (Throw a) = omega arith
  calls_less f Halt = omega arith

  pub calls_less_rules : (f : ℕ) (rs : Rules) → calls_rules f rs ≤ uses_rules f rs
  calls_less_rules f (Otherwise c) = calls_less f c
  calls_less_rules f (Rule ts c rs) = let h = calls_less f c in let g = calls_less_rules f rs in omega arith

both_one : (b c : Bool) → cond (b && c) 1 0 ≤ cond b 1 0
both_one true true = omega arith
both_one true false = omega arith
both_one false c = omega arith

pub applied_less : (f n : ℕ) (a : Atom) (atoms : List Atom) → applied_to f n a atoms ≤ uses_atom f a
applied_less f n (atom.Var x) atoms = both_one (nat_eq f x) (nat_eq (length atoms) n)
applied_less f n (atom.Constant k) atoms = omega arith

mutual
  pub with_less : (f n : ℕ) (c : Code) → calls_with f n c ≤ uses f c
  with_less f n (Make y shape atoms c) = let h = with_less f n c in omega arith
  with_less f n (Pick y i a c) = let h = with_less f n c in omega arith
  with_less f n (Prim y g atoms c) = let h = with_less f n c in omega arith
  with_less f n (Equal a b t k) = omega arith
  with_less f n (Fix fs c) = let h = with_less f n c in omega arith
  with_less f n (Call a atoms) = let h = applied_less f n a atoms in omega arith
  with_less f n (Match a rules) = let h = with_less_rules f n rules in omega arith
  with_less f n (Handler y c) = with_less f n c
  with_less f n (SetHandler a c) = let h = with_less f n c in omega arith
  with_less f n (Throw a) = omega arith
  with_less f n Halt = omega arith

  pub with_less_rules : (f n : ℕ) (rs : Rules) → calls_with_in f n rs ≤ uses_rules f rs
  with_less_rules f n (Otherwise c) = with_less f n c
  with_less_rules f n (Rule ts c rs) = let h = with_less f n c in let g = with_less_rules f n rs in omega arith

-- ---- What is free is used

pub in_uses_atom : (x : ℕ) (a : Atom) → In x (vars a) → 1 ≤ uses_atom x a
in_uses_atom x (atom.Var y) h = let e = own_same x y (in_one x y h) in omega arith
in_uses_atom x (atom.Constant k) h = absurd (cc)

pub in_uses_atoms : (x : ℕ) (atoms : List Atom) → In x (vars_all atoms) → 1 ≤ uses_atoms x atoms
in_uses_atoms x [] h = absurd (cc)
in_uses_atoms x (a ∷ atoms) h = ⊎_elim
    (λ (i : In x (vars a)). let e = in_uses_atom x a i in omega arith)
    (λ (i : In x (vars_all atoms)). let e = in_uses_atoms x atoms i in omega arith)
    (in_union x (vars a) (vars_all atoms) h)

pub in_uses_wanted : (x : ℕ) (w : Wanted) → In x (vars_wanted w) → 1 ≤ uses_wanted x w
in_uses_wanted x (want.Exn a applied) h = in_uses_atom x a h
in_uses_wanted x (want.Num z) h = absurd (cc)
in_uses_wanted x (want.Tag t) h = absurd (cc)
in_uses_wanted x (want.Text t) h = absurd (cc)

pub in_uses_tests : (x : ℕ) (ts : List Test) → In x (vars_tests ts) → 1 ≤ uses_tests x ts
in_uses_tests x [] h = absurd (cc)
in_uses_tests x (t ∷ ts) h = ⊎_elim
    (λ (i : In x (vars_wanted t.want)). let e = in_uses_wanted x t.want i in omega arith)
    (λ (i : In x (vars_tests ts)). let e = in_uses_tests x ts i in omega arith)
    (in_union x (vars_wanted t.want) (vars_tests ts) h)

either : (x m n : ℕ) (xs ys : List ℕ) → In x (union xs ys) → (In x xs → 1 ≤ m) → (In x ys → 1 ≤ n) → 1 ≤ m + n
either x m n xs ys h f g = ⊎_elim (λ (i : In x xs). let e = f i in omega arith) (λ (i : In x ys). let e = g i in omega arith) (in_union x xs ys h)

out_of : (x : ℕ) (xs gone : List ℕ) → In x (without xs gone) → In x xs
out_of x xs gone h = let k = without_in x xs gone h in k.1

mutual
  pub in_uses : (x : ℕ) (c : Code) → In x (free_code c) → 1 ≤ uses x c
  in_uses x (Make y shape atoms c) h = either x _ _ (vars_all atoms) (without (free_code c) (y ∷ [])) h (in_uses_atoms x atoms) (λ i. in_uses x c (out_of x (free_code c) (y ∷ []) i))
  in_uses x (Pick y k a c) h = either x _ _ (vars a) (without (free_code c) (y ∷ [])) h (in_uses_atom x a) (λ i. in_uses x c (out_of x (free_code c) (y ∷ []) i))
  in_uses x (Prim y g atoms c) h = either x _ _ (vars_all atoms) (without (free_code c) (y ∷ [])) h (in_uses_atoms x atoms) (λ i. in_uses x c (out_of x (free_code c) (y ∷ []) i))
  in_uses x (Equal a b t k) h = in_uses_atoms x (a ∷ b ∷ k ∷ []) h
  in_uses x (Fix fs c) h = either x _ _ (free_functions fs) (free_code c) (out_of x (union (free_functions fs) (free_code c)) (names_of fs) h) (in_uses_functions x fs) (in_uses x c)
  in_uses x (Call a atoms) h = either x _ _ (vars a) (vars_all atoms) h (in_uses_atom x a) (in_uses_atoms x atoms)
  in_uses x (Match a rules) h = either x _ _ (vars a) (free_rules rules) h (in_uses_atom x a) (in_uses_rules x rules)
  in_uses x (Handler y c) h = in_uses x c (out_of x (free_code c) (y ∷ []) h)
  in_uses x (SetHandler a c) h = either x _ _ (vars a) (free_code c) h (in_uses_atom x a) (in_uses x c)
  in_uses x (Throw a) h = in_uses_atom x a h
  in_uses x Halt h = absurd (cc)

  pub in_uses_functions : (x : ℕ) (fs : Functions) → In x (free_functions fs) → 1 ≤ uses_functions x fs
  in_uses_functions x NoFunction h = absurd (cc)
  in_uses_functions x (Function f p params b fs) h = either x _ _ (without (free_code b) params) (free_functions fs) h (λ i. in_uses x b (out_of x (free_code b) params i)) (in_uses_functions x fs)

  pub in_uses_rules : (x : ℕ) (rs : Rules) → In x (free_rules rs) → 1 ≤ uses_rules x rs
  in_uses_rules x (Otherwise c) h = in_uses x c h
  in_uses_rules x (Rule ts c rs) h = either x _ _ (vars_tests ts) (union (free_code c) (free_rules rs)) h (in_uses_tests x ts) (λ i. either x _ _ (free_code c) (free_rules rs) i (in_uses x c) (in_uses_rules x rs))

-- ---- Names

pub among_weighs : (x : ℕ) (ns : List ℕ) → IsAmong x ns → 1 ≤ names_weigh (of_name x) ns
among_weighs x [] h = absurd h
among_weighs x (y ∷ ns) (inl e) = let k = own_same x y e in omega arith
among_weighs x (y ∷ ns) (inr h) = let k = among_weighs x ns h in omega arith

pub fresh_of : (x : ℕ) (ns : List ℕ) → names_weigh (of_name x) ns ≡ 0 → Fresh x ns
fresh_of x ns e h = let k = among_weighs x ns h in absurd (omega arith)

pub all_fresh : (xs ns : List ℕ) → ((x : ℕ) → names_weigh (of_name x) xs + names_weigh (of_name x) ns ≤ 1) → AllFresh xs ns
all_fresh [] ns h = tt
all_fresh (x ∷ xs) ns h =
    (let k = h x in let e = own_same x x refl in fresh_of x ns (omega arith), all_fresh xs (x ∷ ns) (λ y. let k = h y in omega arith))

pub params_weigh : (x : ℕ) (xs ns : List ℕ) → names_weigh (of_name x) (with_params xs ns) ≡ names_weigh (of_name x) xs + names_weigh (of_name x) ns
params_weigh x [] ns = omega arith
params_weigh x (y ∷ xs) ns = let h = params_weigh x xs (y ∷ ns) in omega arith
