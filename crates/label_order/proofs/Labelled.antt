-- The functions of the definition by label are those of a program by label.
use Rattle.std.proofs.Common.{◌≡◌, ℕ, zero, suc, Bool, true, false, cond, List, [], ◌∷◌, ◌++◌, length, refl, sym, ap, ◌∙◌}
use Rattle.std.specs.Prelude.{nat_eq}
use Rattle.cps_ir.specs.Code.{Code, Make, Pick, Prim, Equal, Fix, Call, Match, Handler, SetHandler, Throw, Halt, Functions, NoFunction, Function, Rules, Otherwise, Rule}
use Rattle.cps_ir.specs.Slim.{Layout, layouts, layouts_functions, layouts_rules}
use Rattle.lifetime_users.specs.Users.{label_in}
use Rattle.close_laws.specs.Layouts.{Facts}
use Rattle.close_laws.specs.Close.{Labelled, functions_in, functions_of, functions_of_rules, with_label, by_label, labelled, points_of}
use Rattle.label_order.specs.Order.{of_label, by_label_from, by_label_in, points_in}

module _ (A : Facts) where
  -- in step
  abbrev AreAlike : List Labelled → List Layout → Type 0
  AreAlike [] [] = Unit {0}
  AreAlike [] (l ∷ ls) = ⊥
  AreAlike (f ∷ fs) [] = ⊥
  AreAlike (f ∷ fs) (l ∷ ls) = (f.label ≡ label_in A.all l.point) × (f.point ≡ l.point) × AreAlike fs ls

  alike_append : (fs : List Labelled) (ls : List Layout) (gs : List Labelled) (ks : List Layout) → AreAlike fs ls → AreAlike gs ks → AreAlike (fs ++ gs) (ls ++ ks)
  alike_append [] [] gs ks a b = b
  alike_append [] (l ∷ ls) gs ks a b = absurd a
  alike_append (f ∷ fs) [] gs ks a b = absurd a
  alike_append (f ∷ fs) (l ∷ ls) gs ks a b = (a.0, a.1, alike_append fs ls gs ks a.2 b)

  mutual
    code_alike : (c : Code) → AreAlike (functions_in A c) (layouts c)
    code_alike (Make x s atoms c) = code_alike c
    code_alike (Pick x i t c) = code_alike c
    code_alike (Prim x f atoms c) = code_alike c
    code_alike (Equal l r truth k) = tt
    code_alike (Fix fs c) = alike_append (functions_of A fs) (layouts_functions fs) (functions_in A c) (layouts c) (functions_alike fs) (code_alike c)
    code_alike (Call t atoms) = tt
    code_alike (Match t rules) = rules_alike rules
    code_alike (Handler x c) = code_alike c
    code_alike (SetHandler t c) = code_alike c
    code_alike (Throw t) = tt
    code_alike Halt = tt

    functions_alike : (fs : Functions) → AreAlike (functions_of A fs) (layouts_functions fs)
    functions_alike NoFunction = tt
    functions_alike (Function f p params body fs) =
        (refl, refl, alike_append (functions_in A body) (layouts body) (functions_of A fs) (layouts_functions fs) (code_alike body) (functions_alike fs))

    rules_alike : (rules : Rules) → AreAlike (functions_of_rules A rules) (layouts_rules rules)
    rules_alike (Otherwise c) = code_alike c
    rules_alike (Rule tests c rules) = alike_append (functions_in A c) (layouts c) (functions_of_rules A rules) (layouts_rules rules) (code_alike c) (rules_alike rules)

  alike_length : (fs : List Labelled) (ls : List Layout) → AreAlike fs ls → length fs ≡ length ls
  alike_length [] [] a = refl
  alike_length [] (l ∷ ls) a = absurd a
  alike_length (f ∷ fs) [] a = absurd a
  alike_length (f ∷ fs) (l ∷ ls) a = ap suc (alike_length fs ls a.2)

  one_label : (n : ℕ) (fs : List Labelled) (ls : List Layout) → AreAlike fs ls → points_of (with_label n fs) ≡ points_in (of_label A.all n ls)
  one_label n [] [] a = refl
  one_label n [] (l ∷ ls) a = absurd a
  one_label n (f ∷ fs) [] a = absurd a
  one_label n (f ∷ fs) (l ∷ ls) a =
      ap (λ k. points_of (cond (nat_eq k n) (f ∷ with_label n fs) (with_label n fs))) a.0 ∙ by (nat_eq (label_in A.all l.point) n) (one_label n fs ls a.2)
    where
      by : (b : Bool) → points_of (with_label n fs) ≡ points_in (of_label A.all n ls) → points_of (cond b (f ∷ with_label n fs) (with_label n fs)) ≡ points_in (cond b (l ∷ of_label A.all n ls) (of_label A.all n ls))
      by true e = ap (λ p. p ∷ points_of (with_label n fs)) a.1 ∙ ap (λ ps. l.point ∷ ps) e
      by false e = e

  points_append : (fs gs : List Labelled) → points_of (fs ++ gs) ≡ points_of fs ++ points_of gs
  points_append [] gs = refl
  points_append (f ∷ fs) gs = ap (λ ps. f.point ∷ ps) (points_append fs gs)

  points_join : (ls ks : List Layout) → points_in (ls ++ ks) ≡ points_in ls ++ points_in ks
  points_join [] ks = refl
  points_join (l ∷ ls) ks = ap (λ ps. l.point ∷ ps) (points_join ls ks)

  from_label : (l n : ℕ) (fs : List Labelled) (ls : List Layout) → AreAlike fs ls → points_of (by_label l n fs) ≡ points_in (by_label_from A.all l n ls)
  from_label l zero fs ls a = refl
  from_label l (suc n) fs ls a =
      points_append (with_label l fs) (by_label (suc l) n fs) ∙ ap (λ ps. ps ++ points_of (by_label (suc l) n fs)) (one_label l fs ls a) ∙ ap (λ ps. points_in (of_label A.all l ls) ++ ps) (from_label (suc l) n fs ls a)
      ∙ sym (points_join (of_label A.all l ls) (by_label_from A.all (suc l) n ls))

pub labelled_in_order : (A : Facts) (c : Code) → A.all ≡ layouts c → points_of (labelled A c) ≡ points_in (by_label_in (layouts c) (layouts c))
labelled_in_order A c e =
    let a = code_alike A c in
    from_label A 0 (length (functions_in A c)) (functions_in A c) (layouts c) a
    ∙ ap (λ n. points_in (by_label_from A.all 0 n (layouts c))) (alike_length A (functions_in A c) (layouts c) a)
    ∙ ap (λ all. points_in (by_label_from all 0 (length (layouts c)) (layouts c))) e
