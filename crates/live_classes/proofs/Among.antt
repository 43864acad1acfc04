-- Classes by key are the classes of the definition.
use Rattle.std.proofs.Common.{◌≡◌, ℕ, ◌<◌, Bool, true, false, List, [], ◌∷◌, ◌++◌, Option, Some, None, map, refl, sym, ap, ◌∙◌, subst, arith}
use Rattle.std.specs.Prelude.{nat_eq, filter, ◌&&◌, ◌||◌, if◌then◌else◌}
use Rattle.std.specs.List.{list_any, AllByRecursion}
use Rattle.std.proofs.lemmas.Bool.{eqb-true}
use Rattle.smlc_base.specs.declared.point.Label.{Label}
use Rattle.sml_tree.specs.Sets.{has, row_at, union_over}
use Rattle.sml_tree.proofs.Members.{has-union_over}
use Rattle.cps_ir.specs.Code.{Code, Make, Pick, Prim, Equal, Fix, Call, Match, Handler, SetHandler, Throw, Halt, Functions, NoFunction, Function, Rules, Otherwise, Rule}
use Rattle.cps_ir.specs.Free.{bound, bound_functions, bound_rules}
use Rattle.cps_ir.specs.Slim.{Layout, layouts}
use Rattle.cps_free.proofs.Unfold.{all_front, all_back}
use Rattle.lifetime_users.specs.declared.class.Class.{Class}
use Rattle.lifetime_users.specs.Users.{Binding, binding, bindings, bindings_functions, bindings_rules, home_of, same_home, same_numbers, users, variables, live_together, companions, leads, class_of, classes_among, classes}
use Rattle.variable_users.specs.Rows.{AreUsers}
use Rattle.live_classes.specs.Keys.{key_of, key_at, AreHomes, with_key, is_lead, class_with, leads_by, class_by, classes_by}

-- ---- One key, so one home and the same users

eq_sym : (x y : ℕ) → nat_eq x y ≡ nat_eq y x
eq_sym x y = grind arith

numbers_sym : (xs ys : List ℕ) → same_numbers xs ys ≡ same_numbers ys xs
numbers_sym [] [] = refl
numbers_sym [] (y ∷ ys) = refl
numbers_sym (x ∷ xs) [] = refl
numbers_sym (x ∷ xs) (y ∷ ys) = ap (λ b. b && same_numbers xs ys) (eq_sym x y) ∙ ap (λ b. nat_eq y x && b) (numbers_sym xs ys)

key_same : (g h : Option ℕ) (us vs : List ℕ) → same_numbers (key_of g us) (key_of h vs) ≡ (same_home h g && same_numbers vs us)
key_same None None us vs = numbers_sym us vs
key_same None (Some h) us vs = refl
key_same (Some g) None us vs = refl
key_same (Some g) (Some h) us vs = by (nat_eq g h) (eq_sym g h)
  where
    by : (b : Bool) → nat_eq g h ≡ nat_eq h g → (nat_eq g h && same_numbers us vs) ≡ (nat_eq h g && same_numbers vs us)
    by b e = ap (λ c. c && same_numbers us vs) e ∙ ap (λ c. nat_eq h g && c) (numbers_sym us vs)

-- ---- The same for each member

filter_same : (f g : ℕ → Bool) (xs : List ℕ) → ((x : ℕ) → has xs x ≡ true → f x ≡ g x) → filter f xs ≡ filter g xs
filter_same f g [] h = refl
filter_same f g (x ∷ xs) h =
    let self : nat_eq x x ≡ true = grind arith in
    ap (λ b. if b then x ∷ filter f xs else filter f xs) (h x (ap (λ b. b || has xs x) self))
    ∙ ap (λ zs. if g x then x ∷ zs else zs) (filter_same f g xs (λ y m. h y (more (nat_eq y x) (has xs y) m)))
  where
    more : (a b : Bool) → b ≡ true → (a || b) ≡ true
    more true b e = refl
    more false b e = e

chosen_same : (f g : ℕ → Class) (p q : ℕ → Bool) (xs : List ℕ) → ((x : ℕ) → has xs x ≡ true → (f x ≡ g x) × (p x ≡ q x)) → map f (filter p xs) ≡ map g (filter q xs)
chosen_same f g p q [] h = refl
chosen_same f g p q (x ∷ xs) h =
    let self : nat_eq x x ≡ true = grind arith in
    let here = h x (ap (λ b. b || has xs x) self) in
    ap (λ b. map f (if b then x ∷ filter p xs else filter p xs)) here.1 ∙ by (q x) here.0 (chosen_same f g p q xs (λ y m. h y (more (nat_eq y x) (has xs y) m)))
  where
    more : (a b : Bool) → b ≡ true → (a || b) ≡ true
    more true b e = refl
    more false b e = e

    by : (b : Bool) → f x ≡ g x → map f (filter p xs) ≡ map g (filter q xs) → map f (if b then x ∷ filter p xs else filter p xs) ≡ map g (if b then x ∷ filter q xs else filter q xs)
    by true e r = ap (λ k. k ∷ map f (filter p xs)) e ∙ ap (λ ks. g x ∷ ks) r
    by false e r = r

module _ (all : List Layout) (bound : List Binding) (n : ℕ) (homes : List (Option ℕ)) (rows : List (List ℕ)) (h : AreHomes bound n homes) (u : AreUsers all n rows) (below : (x : ℕ) → has (variables all bound) x ≡ true → x < n) where
  abbrev V : List ℕ
  V = variables all bound

  abbrev K : ℕ → List ℕ
  K = key_at homes rows

  together : (x y : ℕ) → x < n → y < n → same_numbers (K y) (K x) ≡ live_together all bound x y
  together x y k m =
      ap (λ o. same_numbers (key_of o (row_at rows y)) (K x)) (h.at y m)
      ∙ ap (λ us. same_numbers (key_of (home_of bound y) us) (K x)) (u.at y m)
      ∙ ap (λ o. same_numbers (key_of (home_of bound y) (users all y)) (key_of o (row_at rows x))) (h.at x k)
      ∙ ap (λ us. same_numbers (key_of (home_of bound y) (users all y)) (key_of (home_of bound x) us)) (u.at x k)
      ∙ key_same (home_of bound y) (home_of bound x) (users all y) (users all x)

  group_is : (x : ℕ) → x < n → with_key K V (K x) ≡ companions all bound x
  group_is x k = filter_same (λ y. same_numbers (K y) (K x)) (live_together all bound x) V (λ y m. together x y k (below y m))

  class_is : (x : ℕ) → x < n → class_by K (row_at rows) V x ≡ class_of all bound x
  class_is x k = ap (λ row. class_with row (row_at rows x)) (group_is x k) ∙ ap (class_with (companions all bound x)) (u.at x k)

  lead_is : (x : ℕ) → x < n → leads_by K (row_at rows) V x ≡ leads all bound x
  lead_is x k = ap (λ row. is_lead x row (row_at rows x)) (group_is x k) ∙ ap (is_lead x (companions all bound x)) (u.at x k)

  pub classes_are : classes_by K (row_at rows) V V ≡ classes_among all bound
  classes_are = chosen_same (class_by K (row_at rows) V) (class_of all bound) (leads_by K (row_at rows) V) (leads all bound) V (λ x m. (class_is x (below x m), lead_is x (below x m)))

-- ---- What is bound is below the bound of a program

all_both : {A : Type 0} (P : A → Type 0) (xs ys : List A) → AllByRecursion P xs → AllByRecursion P ys → AllByRecursion P (xs ++ ys)
all_both P [] ys h g = g
all_both P (x ∷ xs) ys h g = (h.0, all_both P xs ys h.1 g)

module _ (n : ℕ) where
  abbrev Low : ℕ → Type 0
  Low x = x < n

  abbrev LowBinding : Binding → Type 0
  LowBinding b = b.var < n

  params_low : (home : Option ℕ) (ps : List ℕ) → AllByRecursion Low ps → AllByRecursion LowBinding (map (binding home) ps)
  params_low home [] a = tt
  params_low home (p ∷ ps) a = (a.0, params_low home ps a.1)

  mutual
    code_low : (home : Option ℕ) (c : Code) → AllByRecursion Low (bound c) → AllByRecursion LowBinding (bindings home c)
    code_low home (Make x s atoms c) a = (a.0, code_low home c a.1)
    code_low home (Pick x i t c) a = (a.0, code_low home c a.1)
    code_low home (Prim x f atoms c) a = (a.0, code_low home c a.1)
    code_low home (Equal l r truth k) a = tt
    code_low home (Fix fs c) a =
        all_both LowBinding (bindings_functions fs) (bindings home c) (functions_low fs (all_front Low (bound_functions fs) (bound c) a)) (code_low home c (all_back Low (bound_functions fs) (bound c) a))
    code_low home (Call t atoms) a = tt
    code_low home (Match t rules) a = rules_low home rules a
    code_low home (Handler x c) a = (a.0, code_low home c a.1)
    code_low home (SetHandler t c) a = code_low home c a
    code_low home (Throw t) a = tt
    code_low home Halt a = tt

    functions_low : (fs : Functions) → AllByRecursion Low (bound_functions fs) → AllByRecursion LowBinding (bindings_functions fs)
    functions_low NoFunction a = tt
    functions_low (Function f p params body fs) a =
        let rest = all_back Low params (bound body ++ bound_functions fs) a.1 in
        all_both LowBinding (map (binding (Some f)) params) (bindings (Some f) body ++ bindings_functions fs) (params_low (Some f) params (all_front Low params (bound body ++ bound_functions fs) a.1))
        (all_both LowBinding (bindings (Some f) body) (bindings_functions fs) (code_low (Some f) body (all_front Low (bound body) (bound_functions fs) rest)) (functions_low fs (all_back Low (bound body) (bound_functions fs) rest)))

    rules_low : (home : Option ℕ) (rules : Rules) → AllByRecursion Low (bound_rules rules) → AllByRecursion LowBinding (bindings_rules home rules)
    rules_low home (Otherwise c) a = code_low home c a
    rules_low home (Rule tests c rules) a =
        all_both LowBinding (bindings home c) (bindings_rules home rules) (code_low home c (all_front Low (bound c) (bound_rules rules) a)) (rules_low home rules (all_back Low (bound c) (bound_rules rules) a))

  any_low : (bs : List Binding) (x : ℕ) → AllByRecursion LowBinding bs → list_any (λ b. has (b.var ∷ []) x) bs ≡ true → x < n
  any_low [] x a e = absurd (cc)
  any_low (b ∷ bs) x a e = by (nat_eq x b.var) refl e (any_low bs x a.1)
    where
      by : (t : Bool) → nat_eq x b.var ≡ t → ((t || false) || list_any (λ (k : Binding). has (k.var ∷ []) x) bs) ≡ true → (list_any (λ (k : Binding). has (k.var ∷ []) x) bs ≡ true → x < n) → x < n
      by true f g later = subst (λ y. y < n) (sym (eqb-true x b.var f)) a.0
      by false f g later = later g

  pub variables_low : (all : List Layout) (c : Code) → AllByRecursion Low (bound c) → (x : ℕ) → has (variables all (bindings None c)) x ≡ true → x < n
  variables_low all c a x m = any_low (bindings None c) x (code_low None c a) (sym (has-union_over (λ (b : Binding). b.var ∷ []) (bindings None c) x) ∙ m)

pub classes_found : (c : Code) (n : ℕ) (ls : List Layout) (bs : List Binding) (homes : List (Option ℕ)) (rows : List (List ℕ)) (vars : List ℕ) → ls ≡ layouts c → bs ≡ bindings None c → AreHomes bs n homes → AreUsers ls n rows → vars ≡ union_over (λ (b : Binding). b.var ∷ []) bs → AllByRecursion (λ x. x < n) (bound c) → classes_by (key_at homes rows) (row_at rows) vars vars ≡ classes c
classes_found c n ls bs homes rows vars e f h u v low =
    let homes_are : AreHomes (bindings None c) n homes = subst (λ ks. AreHomes ks n homes) f h in
    let users_are : AreUsers (layouts c) n rows = subst (λ ks. AreUsers ks n rows) e u in
    ap (λ xs. classes_by (key_at homes rows) (row_at rows) xs xs) (v ∙ ap (union_over (λ (b : Binding). b.var ∷ [])) f)
    ∙ classes_are (layouts c) (bindings None c) n homes rows homes_are users_are (variables_low n (layouts c) c low)

pub class_made : (group users vars : List ℕ) (labels : List Label) → vars ≡ group → labels ≡ map (λ l. record { 0 = l }) users → record { vars = vars; users = labels } ≡ class_with group users
class_made group users vars labels e f = ap (λ xs. record { vars = xs; users = labels }) e ∙ ap (λ ls. record { vars = group; users = ls }) f
