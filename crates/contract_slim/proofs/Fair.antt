-- What names a function names nothing else, so what is known of a closed function is known where it is bound.
use Rattle.std.proofs.Common.{◌≡◌, ℕ, ◌+◌, ◌≤◌, List, [], ◌∷◌, ◌++◌, ◌⊎◌, inl, inr, refl, sym, ap, ◌∙◌, subst, arith}
use Rattle.std.specs.List.{AllByRecursion}
use Rattle.smlc_base.specs.declared.point.Point.{Point}
use Rattle.simulation.specs.Blocks.{IsAmong}
use Rattle.simulation.proofs.Lists.{among_left, among_right}
use Rattle.sml_tree.specs.Sets.{without}
use Rattle.sml_tree.specs.IsBare.{IsDistinct}
use Rattle.cps_ir.specs.Code.{Code, Make, Pick, Prim, Equal, Fix, Call, Match, Handler, SetHandler, Throw, Halt, Functions, NoFunction, Function, Rules, Otherwise, Rule}
use Rattle.cps_ir.specs.Free.{free_code, bound, bound_functions, bound_rules}
use Rattle.cps_ir.specs.Slim.{Layout, layouts, layouts_functions, layouts_rules, AreClosed}
use Rattle.contract_laws.specs.Weigh.{names_weigh, of_name}
use Rattle.contract_laws.proofs.Free.{In, in_cases}
use Rattle.contract_round.proofs.Counts.{distinct_weighs}
use Rattle.contract_round.proofs.Facts.{own, own_same, among_weighs}

-- the layout of a function
abbrev pub layout_of : ℕ → Point → List ℕ → Code → Layout
layout_of f p params b = record { name = f; point = p; free = without (free_code b) params }

module _ (K : ℕ → Type 0) (C : List Layout) where
  -- no other variable has the name of a closed function, and what is free in a closed function is itself or closed
  abbrev mutual
    pub Fair : Code → Type 0
    Fair (Make x shape atoms c) = (K x → ⊥) × Fair c
    Fair (Pick x i a c) = (K x → ⊥) × Fair c
    Fair (Prim x f atoms c) = (K x → ⊥) × Fair c
    Fair (Equal a b t k) = Unit {0}
    Fair (Fix fs c) = FairAll fs × Fair c
    Fair (Call a atoms) = Unit {0}
    Fair (Match a rules) = FairRules rules
    Fair (Handler x c) = (K x → ⊥) × Fair c
    Fair (SetHandler a c) = Fair c
    Fair (Throw a) = Unit {0}
    Fair Halt = Unit {0}

    pub FairAll : Functions → Type 0
    FairAll NoFunction = Unit {0}
    FairAll (Function f p params b fs) =
        AllByRecursion (λ x. K x → ⊥) params × (K f → (y : ℕ) → In y (without (free_code b) params) → (y ≡ f) ⊎ K y) × IsAmong (layout_of f p params b) C × Fair b × FairAll fs

    pub FairRules : Rules → Type 0
    FairRules (Otherwise c) = Fair c
    FairRules (Rule tests c rules) = Fair c × FairRules rules

-- ---- The variables that name no function

abbrev mutual
  pub plain : Code → List ℕ
  plain (Make x shape atoms c) = x ∷ plain c
  plain (Pick x i a c) = x ∷ plain c
  plain (Prim x f atoms c) = x ∷ plain c
  plain (Equal a b t k) = []
  plain (Fix fs c) = plain_functions fs ++ plain c
  plain (Call a atoms) = []
  plain (Match a rules) = plain_rules rules
  plain (Handler x c) = x ∷ plain c
  plain (SetHandler a c) = plain c
  plain (Throw a) = []
  plain Halt = []

  pub plain_functions : Functions → List ℕ
  plain_functions NoFunction = []
  plain_functions (Function f p params b fs) = params ++ (plain b ++ plain_functions fs)

  pub plain_rules : Rules → List ℕ
  plain_rules (Otherwise c) = plain c
  plain_rules (Rule tests c rules) = plain c ++ plain_rules rules

abbrev many : ℕ → List ℕ → ℕ
many x xs = names_weigh (of_name x) xs

-- how many functions have a name
abbrev named : ℕ → List Layout → ℕ
named x [] = 0
named x (l ∷ ls) = own x l.name + named x ls

many_append : (x : ℕ) (xs ys : List ℕ) → many x (xs ++ ys) ≡ many x xs + many x ys
many_append x [] ys = omega arith
many_append x (y ∷ xs) ys = let h = many_append x xs ys in omega arith

named_append : (x : ℕ) (ls ms : List Layout) → named x (ls ++ ms) ≡ named x ls + named x ms
named_append x [] ms = omega arith
named_append x (l ∷ ls) ms = let h = named_append x ls ms in omega arith

mutual
  parted : (x : ℕ) (c : Code) → many x (bound c) ≡ many x (plain c) + named x (layouts c)
  parted x (Make y shape atoms c) = let h = parted x c in omega arith
  parted x (Pick y i a c) = let h = parted x c in omega arith
  parted x (Prim y f atoms c) = let h = parted x c in omega arith
  parted x (Equal a b t k) = refl
  parted x (Fix fs c) =
      let h = parted_functions x fs in
      let g = parted x c in
      let e = many_append x (bound_functions fs) (bound c) in
      let k = many_append x (plain_functions fs) (plain c) in
      let n = named_append x (layouts_functions fs) (layouts c) in
      omega arith
  parted x (Call a atoms) = refl
  parted x (Match a rules) = parted_rules x rules
  parted x (Handler y c) = let h = parted x c in omega arith
  parted x (SetHandler a c) = parted x c
  parted x (Throw a) = refl
  parted x Halt = refl

  parted_functions : (x : ℕ) (fs : Functions) → many x (bound_functions fs) ≡ many x (plain_functions fs) + named x (layouts_functions fs)
  parted_functions x NoFunction = refl
  parted_functions x (Function f p params b fs) =
      let h = parted x b in
      let g = parted_functions x fs in
      let e = many_append x params (bound b ++ bound_functions fs) in
      let i = many_append x (bound b) (bound_functions fs) in
      let k = many_append x params (plain b ++ plain_functions fs) in
      let j = many_append x (plain b) (plain_functions fs) in
      let n = named_append x (layouts b) (layouts_functions fs) in
      omega arith

  parted_rules : (x : ℕ) (rs : Rules) → many x (bound_rules rs) ≡ many x (plain_rules rs) + named x (layouts_rules rs)
  parted_rules x (Otherwise c) = parted x c
  parted_rules x (Rule ts c rs) =
      let h = parted x c in
      let g = parted_rules x rs in
      let e = many_append x (bound c) (bound_rules rs) in
      let k = many_append x (plain c) (plain_rules rs) in
      let n = named_append x (layouts c) (layouts_rules rs) in
      omega arith

-- ---- One function of a name

named_one : (x : ℕ) (ls : List Layout) (l : Layout) → IsAmong l ls → l.name ≡ x → 1 ≤ named x ls
named_one x [] l i e = absurd i
named_one x (k ∷ ls) l (inl s) e = let o = own_same x k.name (sym e ∙ ap (λ (t : Layout). t.name) s) in omega (arith, o)
named_one x (k ∷ ls) l (inr i) e = let h = named_one x ls l i e in omega (arith, h)

one_named : (x : ℕ) (ls : List Layout) → named x ls ≤ 1 → (l m : Layout) → IsAmong l ls → IsAmong m ls → l.name ≡ x → m.name ≡ x → l ≡ m
one_named x [] h l m i j e g = absurd i
one_named x (k ∷ ls) h l m (inl s) (inl t) e g = s ∙ sym t
one_named x (k ∷ ls) h l m (inl s) (inr j) e g =
    let o = own_same x k.name (sym e ∙ ap (λ (t : Layout). t.name) s) in let n = named_one x ls m j g in absurd (omega (arith, o, n, h))
one_named x (k ∷ ls) h l m (inr i) (inl t) e g =
    let o = own_same x k.name (sym g ∙ ap (λ (t : Layout). t.name) t) in let n = named_one x ls l i e in absurd (omega (arith, o, n, h))
one_named x (k ∷ ls) h l m (inr i) (inr j) e g = one_named x ls (omega (arith, h)) l m i j e g

-- ---- The whole

module _ (K : ℕ → Type 0) (C : List Layout) (only : (l : Layout) → IsAmong l C → K l.name → (y : ℕ) → In y l.free → (y ≡ l.name) ⊎ K y) where
  none_closed : (xs : List ℕ) → ((x : ℕ) → IsAmong x xs → K x → ⊥) → AllByRecursion (λ x. K x → ⊥) xs
  none_closed [] h = tt
  none_closed (x ∷ xs) h = (h x (inl refl), none_closed xs (λ y i. h y (inr i)))

  mutual
    fair : (c : Code) → ((x : ℕ) → IsAmong x (plain c) → K x → ⊥) → ((l : Layout) → IsAmong l (layouts c) → IsAmong l C) → Fair K C c
    fair (Make x shape atoms c) h m = (h x (inl refl), fair c (λ y i. h y (inr i)) m)
    fair (Pick x i a c) h m = (h x (inl refl), fair c (λ y i. h y (inr i)) m)
    fair (Prim x f atoms c) h m = (h x (inl refl), fair c (λ y i. h y (inr i)) m)
    fair (Equal a b t k) h m = tt
    fair (Fix fs c) h m =
        (fair_all fs (λ y i. h y (among_left y (plain_functions fs) (plain c) i)) (λ l i. m l (among_left l (layouts_functions fs) (layouts c) i)), fair c (λ y i. h y (among_right y (plain_functions fs) (plain c) i)) (λ l i. m l (among_right l (layouts_functions fs) (layouts c) i)))
    fair (Call a atoms) h m = tt
    fair (Match a rules) h m = fair_rules rules h m
    fair (Handler x c) h m = (h x (inl refl), fair c (λ y i. h y (inr i)) m)
    fair (SetHandler a c) h m = fair c h m
    fair (Throw a) h m = tt
    fair Halt h m = tt

    fair_all : (fs : Functions) → ((x : ℕ) → IsAmong x (plain_functions fs) → K x → ⊥) → ((l : Layout) → IsAmong l (layouts_functions fs) → IsAmong l C) → FairAll K C fs
    fair_all NoFunction h m = tt
    fair_all (Function f p params b fs) h m =
        let here : IsAmong (layout_of f p params b) C = m (layout_of f p params b) (inl refl) in
        let rest = λ (y : ℕ) (i : IsAmong y (plain b ++ plain_functions fs)). h y (among_right y params (plain b ++ plain_functions fs) i) in
        (none_closed params (λ y i. h y (among_left y params (plain b ++ plain_functions fs) i)), (λ k y i. only (layout_of f p params b) here k y i), here, fair b (λ y i. rest y (among_left y (plain b) (plain_functions fs) i)) (λ l i. m l (inr (among_left l (layouts b) (layouts_functions fs) i))), fair_all fs (λ y i. rest y (among_right y (plain b) (plain_functions fs) i)) (λ l i. m l (inr (among_right l (layouts b) (layouts_functions fs) i))))

    fair_rules : (rs : Rules) → ((x : ℕ) → IsAmong x (plain_rules rs) → K x → ⊥) → ((l : Layout) → IsAmong l (layouts_rules rs) → IsAmong l C) → FairRules K C rs
    fair_rules (Otherwise c) h m = fair c h m
    fair_rules (Rule ts c rs) h m =
        (fair c (λ y i. h y (among_left y (plain c) (plain_rules rs) i)) (λ l i. m l (among_left l (layouts c) (layouts_rules rs) i)), fair_rules rs (λ y i. h y (among_right y (plain c) (plain_rules rs) i)) (λ l i. m l (among_right l (layouts c) (layouts_rules rs) i)))

module _ (c : Code) (d : IsDistinct (bound c)) where
  once : (x : ℕ) → many x (plain c) + named x (layouts c) ≤ 1
  once x = let h = distinct_weighs (bound c) d x in let e = parted x c in omega (arith, h, e)

  -- a variable that is bound names no function
  pub plain_apart : (x : ℕ) → IsAmong x (plain c) → (l : Layout) → IsAmong l (layouts c) → l.name ≡ x → ⊥
  plain_apart x i l j e =
      let n = named_one x (layouts c) l j e in
      let m = among_weighs x (plain c) i in
      let o = once x in
      omega (arith, n, m, o)

-- of a program whose variables are bound once, with a set of closed functions
module _ (c : Code) (closed : List ℕ) (d : IsDistinct (bound c)) (a : AreClosed (layouts c) closed) where
  unnamed : (x : ℕ) → IsAmong x (plain c) → In x closed → ⊥
  unnamed x i k = let r = a x k in plain_apart c d x i r.0 r.1 r.2

  pub only_closed : (l : Layout) → IsAmong l (layouts c) → In l.name closed → (y : ℕ) → In y l.free → (y ≡ l.name) ⊎ In y closed
  only_closed l i k y j =
      let r = a l.name k in
      let o = once c d l.name in
      let same : r.0 ≡ l = one_named l.name (layouts c) (omega (arith, o)) r.0 l r.1 i r.2 refl in
      in_cases y l.name closed (r.3 y (subst (λ (t : Layout). In y t.free) (sym same) j))

  pub whole_fair : Fair (λ x. In x closed) (layouts c) c
  whole_fair = fair (λ x. In x closed) (layouts c) only_closed c unnamed (λ l i. i)
