-- A variable that is neither free nor bound in a body isn't used there.
use Rattle.std.proofs.Common.{◌≡◌, ℕ, List, [], ◌∷◌, Bool, true, false, cond, ◌||◌, refl, ap, arith, nat_eq}
use Rattle.sml_tree.specs.Sets.{union, without}
use Rattle.cps_ir.specs.declared.atom.Atom.{Atom}
use Rattle.cps_ir.specs.declared.atom.Wanted.{Wanted}
use Rattle.cps_ir.specs.declared.atom.Test.{Test}
use Rattle.cps_ir.specs.declared.atom.Atom.TheVariants as atom
use Rattle.cps_ir.specs.declared.atom.Wanted.TheVariants as want
use Rattle.cps_ir.specs.Code.{Code, Make, Pick, Prim, Equal, Fix, Call, Match, Handler, SetHandler, Throw, Halt, Functions, NoFunction, Function, Rules, Otherwise, Rule, names_of}
use Rattle.cps_ir.specs.Free.{vars, vars_all, vars_wanted, vars_tests, free_code, free_functions, free_rules}
use Rattle.contract_laws.specs.Redex.{uses, uses_functions, uses_rules, uses_atom, uses_atoms, uses_wanted, uses_tests}
use Rattle.contract_laws.specs.Weigh.{weigh, weigh_functions, weigh_rules, of_name}
use Rattle.contract_laws.proofs.Free.{In, in_left, in_right, in_without, in_one, in_among}
use Rattle.contract_round.proofs.Facts.{own, own_same, among_weighs}
use Rattle.contract_round.proofs.Names.{inside_weigh, functions_weigh}

module _ (y : ℕ) where
  abbrev pub Not : List ℕ → Type 0
  Not xs = In y xs → ⊥

  abbrev Nought : ℕ → Type 0
  Nought n = n ≡ 0

  pub atom_unused : (a : Atom) → Not (vars a) → uses_atom y a ≡ 0
  atom_unused (atom.Var x) n = by (nat_eq y x) refl
    where
      by : (b : Bool) → nat_eq y x ≡ b → Nought (cond b 1 0)
      by true e = absurd (n (ap (λ b. b || false) e))
      by false e = refl
  atom_unused (atom.Constant k) n = refl

  pub atoms_unused : (atoms : List Atom) → Not (vars_all atoms) → uses_atoms y atoms ≡ 0
  atoms_unused [] n = refl
  atoms_unused (a ∷ atoms) n =
      let h = atom_unused a (λ i. n (in_left y (vars a) (vars_all atoms) i)) in
      let g = atoms_unused atoms (λ i. n (in_right y (vars a) (vars_all atoms) i)) in
      omega arith

  wanted_unused : (w : Wanted) → Not (vars_wanted w) → uses_wanted y w ≡ 0
  wanted_unused (want.Exn a applied) n = atom_unused a n
  wanted_unused (want.Num z) n = refl
  wanted_unused (want.Tag t) n = refl
  wanted_unused (want.Text t) n = refl

  pub tests_unused : (ts : List Test) → Not (vars_tests ts) → uses_tests y ts ≡ 0
  tests_unused [] n = refl
  tests_unused (t ∷ ts) n =
      let h = wanted_unused t.want (λ i. n (in_left y (vars_wanted t.want) (vars_tests ts) i)) in
      let g = tests_unused ts (λ i. n (in_right y (vars_wanted t.want) (vars_tests ts) i)) in
      omega arith

  -- behind the binding of another
  pub behind : (x : ℕ) (xs us : List ℕ) → own y x ≡ 0 → Not (union us (without xs (x ∷ []))) → Not xs
  behind x xs us o n i =
      n (in_right y us (without xs (x ∷ [])) (in_without y xs (x ∷ []) (λ j. let k = own_same y x (in_one y x j) in absurd (omega arith)) i))

  pub names_none : (fs : Functions) → weigh_functions (of_name y) fs ≡ 0 → Not (names_of fs)
  names_none fs h i = let k = among_weighs y (names_of fs) (in_among y (names_of fs) i) in let g = functions_weigh y fs in absurd (omega arith)

  mutual
    pub unused : (c : Code) → Not (free_code c) → weigh (of_name y) c ≡ 0 → uses y c ≡ 0
    unused (Make x shape atoms c) n h =
        let f = atoms_unused atoms (λ i. n (in_left y (vars_all atoms) (without (free_code c) (x ∷ [])) i)) in
        let g = unused c (behind x (free_code c) (vars_all atoms) (omega arith) n) (omega arith) in
        omega arith
    unused (Pick x i a c) n h =
        let f = atom_unused a (λ i. n (in_left y (vars a) (without (free_code c) (x ∷ [])) i)) in
        let g = unused c (behind x (free_code c) (vars a) (omega arith) n) (omega arith) in
        omega arith
    unused (Prim x f atoms c) n h =
        let f = atoms_unused atoms (λ i. n (in_left y (vars_all atoms) (without (free_code c) (x ∷ [])) i)) in
        let g = unused c (behind x (free_code c) (vars_all atoms) (omega arith) n) (omega arith) in
        omega arith
    unused (Equal a b truth k) n h = atoms_unused (a ∷ b ∷ k ∷ []) n
    unused (Fix fs c) n h =
        let w = functions_weigh y fs in
        let out = in_without y (union (free_functions fs) (free_code c)) (names_of fs) (names_none fs (omega arith)) in
        let f = unused_functions fs (λ i. n (out (in_left y (free_functions fs) (free_code c) i))) (omega arith) in
        let g = unused c (λ i. n (out (in_right y (free_functions fs) (free_code c) i))) (omega arith) in
        omega arith
    unused (Call a atoms) n h =
        let f = atom_unused a (λ i. n (in_left y (vars a) (vars_all atoms) i)) in
        let g = atoms_unused atoms (λ i. n (in_right y (vars a) (vars_all atoms) i)) in
        omega arith
    unused (Match a rules) n h =
        let f = atom_unused a (λ i. n (in_left y (vars a) (free_rules rules) i)) in
        let g = unused_rules rules (λ i. n (in_right y (vars a) (free_rules rules) i)) (omega arith) in
        omega arith
    unused (Handler x c) n h =
        unused c (λ i. n (in_without y (free_code c) (x ∷ []) (λ j. let k = own_same y x (in_one y x j) in absurd (omega arith)) i)) (omega arith)
    unused (SetHandler a c) n h =
        let f = atom_unused a (λ i. n (in_left y (vars a) (free_code c) i)) in
        let g = unused c (λ i. n (in_right y (vars a) (free_code c) i)) (omega arith) in
        omega arith
    unused (Throw a) n h = atom_unused a n
    unused Halt n h = refl

    pub unused_functions : (fs : Functions) → Not (free_functions fs) → inside_weigh y fs ≡ 0 → uses_functions y fs ≡ 0
    unused_functions NoFunction n h = refl
    unused_functions (Function f p params b fs) n h =
        let k = unused b (λ i. n (in_left y (without (free_code b) params) (free_functions fs) (in_without y (free_code b) params (λ j. let k = among_weighs y params (in_among y params j) in absurd (omega arith)) i))) (omega arith) in
        let g = unused_functions fs (λ i. n (in_right y (without (free_code b) params) (free_functions fs) i)) (omega arith) in
        omega arith

    pub unused_rules : (rs : Rules) → Not (free_rules rs) → weigh_rules (of_name y) rs ≡ 0 → uses_rules y rs ≡ 0
    unused_rules (Otherwise c) n h = unused c n h
    unused_rules (Rule ts c rs) n h =
        let f = tests_unused ts (λ i. n (in_left y (vars_tests ts) (union (free_code c) (free_rules rs)) i)) in
        let g = unused c (λ i. n (in_right y (vars_tests ts) (union (free_code c) (free_rules rs)) (in_left y (free_code c) (free_rules rs) i))) (omega arith) in
        let k = unused_rules rs (λ i. n (in_right y (vars_tests ts) (union (free_code c) (free_rules rs)) (in_right y (free_code c) (free_rules rs) i))) (omega arith) in
        omega arith
