-- Functions with different points.
use Rattle.std.proofs.Common.{◌≡◌, suc, ◌+◌, ◌≤◌, Bool, true, false, cond, List, [], ◌∷◌, ◌++◌, inl, inr, refl, sym, ap, ◌∙◌, subst, arith}
use Rattle.std.specs.Prelude.{nat_eq}
use Rattle.smlc_base.specs.declared.point.Point.{Point}
use Rattle.smlc_base.specs.Points.{is_point}
use Rattle.simulation.specs.Blocks.{IsAmong}
use Rattle.simulation.specs.Runs.{times}
use Rattle.simulation.proofs.Lists.{times-append}
use Rattle.sml_tree.specs.Order.{rank}
use Rattle.cps_ir.specs.Code.{Code, Make, Pick, Prim, Equal, Fix, Call, Match, Handler, SetHandler, Throw, Halt, Functions, NoFunction, Function, Rules, Otherwise, Rule, Tree}
use Rattle.cps_ir.specs.Free.{labels, labels_functions, labels_rules}
use Rattle.cps_ir.specs.Slim.{Layout, layouts, layouts_functions, layouts_rules, IsSlim}
use Rattle.closure_layouts.specs.Found.{PointedOnce}
use Rattle.label_order.specs.Order.{AreApart, points_in}
use Rattle.left_words.proofs.Sited.{rank_eq}

turned : (p q : Point) → is_point p q ≡ is_point q p
turned p q = let e : nat_eq (rank p) (rank q) ≡ nat_eq (rank q) (rank p) = grind arith in sym (rank_eq p q) ∙ e ∙ rank_eq q p

pub pointed_once : (all : List Layout) → AreApart all → PointedOnce all
pointed_once [] a l k m n e = absurd m
pointed_once (j ∷ all) a l k (inl m) (inl n) e = m ∙ sym n
pointed_once (j ∷ all) a l k (inl m) (inr n) e =
    absurd (let f : is_point k.point l.point ≡ false = subst (λ (i : Layout). is_point k.point i.point ≡ false) (sym m) (a.0 k n) in let g : true ≡ false = sym e ∙ turned l.point k.point ∙ f in cc)
pointed_once (j ∷ all) a l k (inr m) (inl n) e =
    absurd (let f : is_point l.point k.point ≡ false = subst (λ (i : Layout). is_point l.point i.point ≡ false) (sym n) (a.0 l m) in let g : true ≡ false = sym e ∙ f in cc)
pointed_once (j ∷ all) a l k (inr m) (inr n) e = pointed_once all a.1 l k m n e

-- ---- The functions of a slim program have different points

points_join : (ls ks : List Layout) → points_in (ls ++ ks) ≡ points_in ls ++ points_in ks
points_join [] ks = refl
points_join (l ∷ ls) ks = ap (λ ps. l.point ∷ ps) (points_join ls ks)

both_fewer : (p : Point) (ls ks : List Layout) (ps qs : List Point) → times p (points_in ls) ≤ times p ps → times p (points_in ks) ≤ times p qs → times p (points_in (ls ++ ks)) ≤ times p (ps ++ qs)
both_fewer p ls ks ps qs h g =
    let a : times p (points_in (ls ++ ks)) ≡ times p (points_in ls) + times p (points_in ks) = ap (times p) (points_join ls ks) ∙ times-append p (points_in ls) (points_in ks) in
    let b = times-append p ps qs in
    omega (arith, h, g, a, b)

one_more : (p q : Point) (xs ys : List Point) → times p xs ≤ times p ys → times p (q ∷ xs) ≤ times p (q ∷ ys)
one_more p q xs ys h = by (is_point q p)
  where
    by : (b : Bool) → cond b (suc (times p xs)) (times p xs) ≤ cond b (suc (times p ys)) (times p ys)
    by true = omega (arith, h)
    by false = h

mutual
  code_fewer : (p : Point) (c : Code) → times p (points_in (layouts c)) ≤ times p (labels c)
  code_fewer p (Make x s atoms c) = code_fewer p c
  code_fewer p (Pick x i a c) = code_fewer p c
  code_fewer p (Prim x f atoms c) = code_fewer p c
  code_fewer p (Equal a b truth k) = omega arith
  code_fewer p (Fix fs c) = both_fewer p (layouts_functions fs) (layouts c) (labels_functions fs) (labels c) (functions_fewer p fs) (code_fewer p c)
  code_fewer p (Call a atoms) = omega arith
  code_fewer p (Match a rules) = rules_fewer p rules
  code_fewer p (Handler x c) = code_fewer p c
  code_fewer p (SetHandler a c) = code_fewer p c
  code_fewer p (Throw a) = omega arith
  code_fewer p Halt = omega arith

  functions_fewer : (p : Point) (fs : Functions) → times p (points_in (layouts_functions fs)) ≤ times p (labels_functions fs)
  functions_fewer p NoFunction = omega arith
  functions_fewer p (Function f q params body fs) =
      one_more p q (points_in (layouts body ++ layouts_functions fs)) (labels body ++ labels_functions fs) (both_fewer p (layouts body) (layouts_functions fs) (labels body) (labels_functions fs) (code_fewer p body) (functions_fewer p fs))

  rules_fewer : (p : Point) (rules : Rules) → times p (points_in (layouts_rules rules)) ≤ times p (labels_rules rules)
  rules_fewer p (Otherwise c) = code_fewer p c
  rules_fewer p (Rule tests c rules) = both_fewer p (layouts c) (layouts_rules rules) (labels c) (labels_rules rules) (code_fewer p c) (rules_fewer p rules)

at_least_once : (p : Point) (ls : List Layout) (k : Layout) → IsAmong k ls → is_point k.point p ≡ true → 1 ≤ times p (points_in ls)
at_least_once p [] k m e = absurd m
at_least_once p (l ∷ ls) k (inl same) e =
    let here : times p (points_in (l ∷ ls)) ≡ suc (times p (points_in ls)) = ap (λ b. cond b (suc (times p (points_in ls))) (times p (points_in ls))) (ap (λ (j : Layout). is_point j.point p) (sym same) ∙ e) in
    omega (arith, here)
at_least_once p (l ∷ ls) k (inr m) e = by (is_point l.point p) (at_least_once p ls k m e)
  where
    by : (b : Bool) → 1 ≤ times p (points_in ls) → 1 ≤ cond b (suc (times p (points_in ls))) (times p (points_in ls))
    by true h = omega arith
    by false h = h

self_point : (p : Point) → is_point p p ≡ true
self_point p = let e : nat_eq (rank p) (rank p) ≡ true = grind arith in sym (rank_eq p p) ∙ e

once_apart : (ls : List Layout) → ((l : Layout) → IsAmong l ls → times l.point (points_in ls) ≤ 1) → AreApart ls
once_apart [] h = tt
once_apart (l ∷ ls) h = (λ k m. head k m (is_point k.point l.point) refl, once_apart ls (λ k m. fewer k m))
  where
    self : times l.point (points_in (l ∷ ls)) ≡ suc (times l.point (points_in ls))
    self = ap (λ b. cond b (suc (times l.point (points_in ls))) (times l.point (points_in ls))) (self_point l.point)

    head : (k : Layout) → IsAmong k ls → (b : Bool) → is_point k.point l.point ≡ b → is_point k.point l.point ≡ false
    head k m false e = e
    head k m true e =
        absurd (let a = at_least_once l.point ls k m e in let b : times l.point (points_in (l ∷ ls)) ≤ 1 = h l (inl refl) in omega (arith, a, b, self))

    drop_one : (q : Point) (b : Bool) → cond b (suc (times q (points_in ls))) (times q (points_in ls)) ≤ 1 → times q (points_in ls) ≤ 1
    drop_one q true g = omega (arith, g)
    drop_one q false g = g

    fewer : (k : Layout) → IsAmong k ls → times k.point (points_in ls) ≤ 1
    fewer k m = drop_one k.point (is_point l.point k.point) (h k (inr m))

pub slim_apart : (q : Tree) → IsSlim q → AreApart (layouts q.code)
slim_apart q slim =
    once_apart (layouts q.code) (λ l m. (let a = slim.once l.point (slim.functions l m) in let b = code_fewer l.point q.code in omega (arith, a, b)))
