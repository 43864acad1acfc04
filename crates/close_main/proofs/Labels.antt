-- The functions of a program have different labels.
use Rattle.std.proofs.Common.{◌≡◌, ℕ, zero, suc, ◌+◌, ◌<◌, ◌≤◌, Bool, true, false, cond, List, [], ◌∷◌, ◌++◌, length, inl, inr, refl, sym, ap, ◌∙◌, arith, nat_eq}
use Rattle.std.specs.Prelude.{nat_lt, count_by}
use Rattle.std.proofs.lemmas.Bool.{eqb-true}
use Rattle.std.proofs.lemmas.List.Sums.{sum_by-cons}
use Rattle.smlc_base.specs.Points.{is_point}
use Rattle.simulation.specs.Blocks.{IsAmong}
use Rattle.sml_tree.specs.Order.{rank}
use Rattle.cps_ir.specs.Code.{Code, Make, Pick, Prim, Equal, Fix, Call, Match, Handler, SetHandler, Throw, Halt, Functions, NoFunction, Function, Rules, Otherwise, Rule}
use Rattle.cps_ir.specs.Slim.{Layout, layouts, layouts_functions, layouts_rules}
use Rattle.lifetime_users.specs.Users.{label_in}
use Rattle.label_order.specs.Order.{AreApart}
use Rattle.label_order.proofs.Ranks.{one_point}
use Rattle.close_laws.specs.Layouts.{Facts}
use Rattle.close_laws.specs.Close.{Labelled, functions_in, functions_of, functions_of_rules}
use Rattle.close_seen.proofs.Tally.{once}

module _ (A : Facts) (w : ℕ → ℕ) where
  abbrev pub weigh_labels : List Labelled → ℕ
  weigh_labels [] = 0
  weigh_labels (g ∷ gs) = w g.label + weigh_labels gs

  abbrev pub weigh_layouts : List Layout → ℕ
  weigh_layouts [] = 0
  weigh_layouts (l ∷ ls) = w (label_in A.all l.point) + weigh_layouts ls

  labels_append : (gs hs : List Labelled) → weigh_labels (gs ++ hs) ≡ weigh_labels gs + weigh_labels hs
  labels_append [] hs = omega arith
  labels_append (g ∷ gs) hs = let e = labels_append gs hs in omega (arith, e)

  layouts_append : (ls ks : List Layout) → weigh_layouts (ls ++ ks) ≡ weigh_layouts ls + weigh_layouts ks
  layouts_append [] ks = omega arith
  layouts_append (l ∷ ls) ks = let e = layouts_append ls ks in omega (arith, e)

  both : (gs hs : List Labelled) (ls ks : List Layout) → weigh_labels gs ≡ weigh_layouts ls → weigh_labels hs ≡ weigh_layouts ks → weigh_labels (gs ++ hs) ≡ weigh_layouts (ls ++ ks)
  both gs hs ls ks e f = let a = labels_append gs hs in let b = layouts_append ls ks in omega (arith, a, b, e, f)

  mutual
    pub in_step : (c : Code) → weigh_labels (functions_in A c) ≡ weigh_layouts (layouts c)
    in_step (Make x s atoms c) = in_step c
    in_step (Pick x i t c) = in_step c
    in_step (Prim x f atoms c) = in_step c
    in_step (Equal l r truth k) = refl
    in_step (Fix fs c) = both (functions_of A fs) (functions_in A c) (layouts_functions fs) (layouts c) (functions_step fs) (in_step c)
    in_step (Call t atoms) = refl
    in_step (Match t rules) = rules_step rules
    in_step (Handler x c) = in_step c
    in_step (SetHandler t c) = in_step c
    in_step (Throw t) = refl
    in_step Halt = refl

    functions_step : (fs : Functions) → weigh_labels (functions_of A fs) ≡ weigh_layouts (layouts_functions fs)
    functions_step NoFunction = refl
    functions_step (Function f p params body fs) =
        let e = both (functions_in A body) (functions_of A fs) (layouts body) (layouts_functions fs) (in_step body) (functions_step fs) in omega (arith, e)

    rules_step : (rules : Rules) → weigh_labels (functions_of_rules A rules) ≡ weigh_layouts (layouts_rules rules)
    rules_step (Otherwise c) = in_step c
    rules_step (Rule tests c rules) = both (functions_in A c) (functions_of_rules A rules) (layouts c) (layouts_rules rules) (in_step c) (rules_step rules)

abbrev pub of : ℕ → ℕ → ℕ
of l m = once (nat_eq m l)

module _ (A : Facts) (l : ℕ) where
  no_label : (k : Layout) (ls : List Layout) → ((j : Layout) → IsAmong j (k ∷ ls) → IsAmong j A.all) → ((j : Layout) → IsAmong j ls → is_point j.point k.point ≡ false) → nat_eq (label_in A.all k.point) l ≡ true → weigh_layouts A (of l) ls ≡ 0
  no_label k [] in_all apart e = refl
  no_label k (j ∷ ls) in_all apart e = by (nat_eq (label_in A.all j.point) l) refl (no_label k ls (λ i m. in_all i (skip i m)) (λ i m. apart i (inr m)) e)
    where
      skip : (i : Layout) → IsAmong i (k ∷ ls) → IsAmong i (k ∷ (j ∷ ls))
      skip i (inl m) = inl m
      skip i (inr m) = inr (inr m)

      by : (b : Bool) → nat_eq (label_in A.all j.point) l ≡ b → weigh_layouts A (of l) ls ≡ 0 → once (nat_eq (label_in A.all j.point) l) + weigh_layouts A (of l) ls ≡ 0
      by false f r = let o : once (nat_eq (label_in A.all j.point) l) ≡ 0 = ap once f in omega (arith, o, r)
      by true f r =
          absurd
          (let same : label_in A.all j.point ≡ label_in A.all k.point = eqb-true (label_in A.all j.point) l f ∙ sym (eqb-true (label_in A.all k.point) l e) in
          let one : is_point j.point k.point ≡ true = one_point A.all j k (in_all j (inr (inl refl))) (in_all k (inl refl)) same in
          let z : true ≡ false = sym one ∙ apart j (inl refl) in cc)

  few_labels : (ls : List Layout) → ((j : Layout) → IsAmong j ls → IsAmong j A.all) → AreApart ls → weigh_layouts A (of l) ls ≤ 1
  few_labels [] in_all apart = omega arith
  few_labels (k ∷ ls) in_all apart = by (nat_eq (label_in A.all k.point) l) refl (few_labels ls (λ j m. in_all j (inr m)) apart.1)
    where
      by : (b : Bool) → nat_eq (label_in A.all k.point) l ≡ b → weigh_layouts A (of l) ls ≤ 1 → once (nat_eq (label_in A.all k.point) l) + weigh_layouts A (of l) ls ≤ 1
      by false e r = let o : once (nat_eq (label_in A.all k.point) l) ≡ 0 = ap once e in omega (arith, o, r)
      by true e r =
          let o : once (nat_eq (label_in A.all k.point) l) ≡ 1 = ap once e in
          let z = no_label k ls in_all apart.0 e in
          omega (arith, o, z)

-- each label is that of one function at most
pub few : (A : Facts) (c : Code) → A.all ≡ layouts c → AreApart (layouts c) → (l : ℕ) → weigh_labels A (of l) (functions_in A c) ≤ 1
few A c e apart l =
    let s = in_step A (of l) c in
    let f = few_labels A l (layouts c) (λ j m. Rattle.std.proofs.Common.subst (IsAmong j) (sym e) m) apart in
    omega (arith, s, f)

-- ---- Labels are below the number of functions

counted : (r : ℕ) (l : Layout) (ls : List Layout) → count_by (λ k. nat_lt (rank k.point) r) (l ∷ ls) ≡ cond {A = ℕ} (nat_lt (rank l.point) r) 1 0 + count_by (λ k. nat_lt (rank k.point) r) ls
counted r l ls = sum_by-cons (λ k. cond (nat_lt (rank k.point) r) 1 0) l ls

at_most : (b : Bool) → cond {A = ℕ} b 1 0 ≤ 1
at_most true = omega arith
at_most false = omega arith

no_more : (r : ℕ) (ls : List Layout) → count_by (λ k. nat_lt (rank k.point) r) ls ≤ length ls
no_more r [] = omega arith
no_more r (l ∷ ls) = let a = counted r l ls in let b = at_most (nat_lt (rank l.point) r) in let c = no_more r ls in omega (arith, a, b, c)

pub label_low : (l : Layout) (ls : List Layout) → IsAmong l ls → label_in ls l.point < length ls
label_low l ls m = go ls m
  where
    go : (ks : List Layout) → IsAmong l ks → count_by (λ k. nat_lt (rank k.point) (rank l.point)) ks < length ks
    go [] n = absurd n
    go (k ∷ ks) (inl e) =
        let a = counted (rank l.point) k ks in
        let same : rank k.point ≡ rank l.point = ap (λ (j : Layout). rank j.point) (sym e) in
        let none : nat_lt (rank k.point) (rank l.point) ≡ false = grind (arith, same) in
        let z : cond {A = ℕ} (nat_lt (rank k.point) (rank l.point)) 1 0 ≡ 0 = ap (λ t. cond {A = ℕ} t 1 0) none in
        let c = no_more (rank l.point) ks in
        omega (arith, a, z, c)
    go (k ∷ ks) (inr n) =
        let a = counted (rank l.point) k ks in
        let b = at_most (nat_lt (rank k.point) (rank l.point)) in
        let c = go ks n in
        omega (arith, a, b, c)
