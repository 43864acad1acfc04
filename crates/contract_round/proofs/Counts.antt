-- Names that are bound, and points that stand, as they are counted and as lists.
use Rattle.std.proofs.Common.{◌≡◌, ◌≢◌, ℕ, ◌+◌, ◌≤◌, List, [], ◌∷◌, ◌++◌, length, Option, Some, None, Bool, true, false, cond, ◌&&◌, ◌||◌, inl, inr, refl, sym, ap, ◌∙◌, subst, arith, ⊎_elim, eqb-true, nat_eq}
use Rattle.smlc_base.specs.declared.point.Point.{Point}
use Rattle.smlc_base.specs.declared.point.PointKind.TheVariants.{Eq}
use Rattle.smlc_base.specs.Points.{is_label}
use Rattle.simulation.specs.Blocks.{IsAmong}
use Rattle.simulation.specs.Runs.{times}
use Rattle.simulation.proofs.Nth.{point_is_one}
use Rattle.simulation.proofs.Lists.{among_left, among_right, among_append, label_times}
use Rattle.sml_tree.specs.Sets.{has}
use Rattle.sml_tree.specs.IsBare.{IsDistinct}
use Rattle.cps_ir.specs.declared.atom.Atom.{Atom}
use Rattle.cps_ir.specs.declared.atom.Atom.TheVariants as atom
use Rattle.cps_ir.specs.declared.atom.Test.{Test}
use Rattle.cps_ir.specs.Code.{Code, Make, Pick, Prim, Equal, Fix, Call, Match, Handler, SetHandler, Throw, Halt, Functions, NoFunction, Function, Rules, Otherwise, Rule}
use Rattle.cps_ir.specs.Free.{bound, bound_functions, bound_rules}
use Rattle.cps_ir.specs.Slim.{Layout, layouts, layouts_functions, layouts_rules}
use Rattle.cps_ir.specs.State.{bind}
use Rattle.contract_laws.specs.Contract.{Made, nothing, known_as, is_pure}
use Rattle.contract_laws.specs.Weigh.{Scale, weigh, names_weigh, weigh_functions, weigh_rules, of_name, of_point}
use Rattle.contract_laws.proofs.Free.{in_among, bind_cases}
use Rattle.simulation.proofs.Lists.{some_eq}
use Rattle.contract_round.specs.Round.{Inlined, Known, known, binding, replacing, within, with_arguments, atom_in, atoms_in, known_field, tests_left, is_unused, Role, Dropped, Replaced, Placed, Stays, Roles, role_in, names_in, placed, function_left, fix_left, call_left, inlined_of, match_left, rule_left, pick_left, walk, functions_walk, bodies_walk, rules_walk}
use Rattle.contract_round.proofs.Facts.{own, own_same, among_weighs}
use Rattle.contract_round.proofs.Walked.{Gone, nobody, one, both, Hidden, gone_weigh, Fine}
use Rattle.contract_round.proofs.Names.{NoEq, NoEqIn, NoEqRules}

-- ---- Names

names_append : (s : Scale) (xs ys : List ℕ) → names_weigh s (xs ++ ys) ≡ names_weigh s xs + names_weigh s ys
names_append s [] ys = omega arith
names_append s (x ∷ xs) ys = let h = names_append s xs ys in omega arith

mutual
  pub bound_weigh : (x : ℕ) (c : Code) → weigh (of_name x) c ≡ names_weigh (of_name x) (bound c)
  bound_weigh x (Make y shape atoms c) = let h = bound_weigh x c in omega arith
  bound_weigh x (Pick y i a c) = let h = bound_weigh x c in omega arith
  bound_weigh x (Prim y f atoms c) = let h = bound_weigh x c in omega arith
  bound_weigh x (Equal a b t k) = refl
  bound_weigh x (Fix fs c) = let h = bound_weigh x c in let g = functions_weigh x fs in let e = names_append (of_name x) (bound_functions fs) (bound c) in omega arith
  bound_weigh x (Call a atoms) = refl
  bound_weigh x (Match a rules) = let h = rules_weigh x rules in omega arith
  bound_weigh x (Handler y c) = let h = bound_weigh x c in omega arith
  bound_weigh x (SetHandler a c) = let h = bound_weigh x c in omega arith
  bound_weigh x (Throw a) = refl
  bound_weigh x Halt = refl

  functions_weigh : (x : ℕ) (fs : Functions) → weigh_functions (of_name x) fs ≡ names_weigh (of_name x) (bound_functions fs)
  functions_weigh x NoFunction = refl
  functions_weigh x (Function f p params b fs) =
      let h = bound_weigh x b in
      let g = functions_weigh x fs in
      let e = names_append (of_name x) params (bound b ++ bound_functions fs) in
      let k = names_append (of_name x) (bound b) (bound_functions fs) in
      omega arith

  rules_weigh : (x : ℕ) (rs : Rules) → weigh_rules (of_name x) rs ≡ names_weigh (of_name x) (bound_rules rs)
  rules_weigh x (Otherwise c) = bound_weigh x c
  rules_weigh x (Rule ts c rs) = let h = bound_weigh x c in let g = rules_weigh x rs in let e = names_append (of_name x) (bound c) (bound_rules rs) in omega arith

not_weighs : (xs : List ℕ) (x : ℕ) → has xs x ≡ false → names_weigh (of_name x) xs ≡ 0
not_weighs [] x e = refl
not_weighs (y ∷ xs) x e = by (nat_eq x y) (has xs x) refl e (not_weighs xs x)
  where
    by : (a b : Bool) → nat_eq x y ≡ a → (a || b) ≡ false → (b ≡ false → names_weigh (of_name x) xs ≡ 0) → own x y + names_weigh (of_name x) xs ≡ 0
    by true b g h r = absurd (cc)
    by false b g h r = let k = r h in let o : own x y ≡ 0 = ap (λ t. cond t 1 0) g in omega arith

pub distinct_weighs : (xs : List ℕ) → IsDistinct xs → (x : ℕ) → names_weigh (of_name x) xs ≤ 1
distinct_weighs [] d x = omega arith
distinct_weighs (y ∷ xs) d x = by (nat_eq x y) refl (distinct_weighs xs d.1 x)
  where
    by : (a : Bool) → nat_eq x y ≡ a → names_weigh (of_name x) xs ≤ 1 → own x y + names_weigh (of_name x) xs ≤ 1
    by true g h = let q = eqb-true x y g in let n = not_weighs xs x (subst (λ z. has xs z ≡ false) (sym q) d.0) in let o = own_same x y q in omega arith
    by false g h = let o : own x y ≡ 0 = ap (λ t. cond t 1 0) g in omega arith

pub weighs_distinct : (xs : List ℕ) → ((x : ℕ) → names_weigh (of_name x) xs ≤ 1) → IsDistinct xs
weighs_distinct [] h = tt
weighs_distinct (y ∷ xs) h = (by (has xs y) refl, weighs_distinct xs (λ x. let k = h x in omega arith))
  where
    by : (a : Bool) → has xs y ≡ a → a ≡ false
    by false e = refl
    by true e = let k = h y in let m = among_weighs y xs (in_among y xs e) in let o = own_same y y refl in absurd (omega arith)

-- ---- Points

-- where no other than these stands, the points that are gone aren't labels
pub hidden_all : (L : List Point) (g : Gone) → Fine g → ((p : Point) → p.kind ≢ Eq → times p L + gone_weigh (of_point p) g ≤ 1) → Hidden L g
hidden_all L nobody f h = tt
hidden_all L (one p) f h = by (is_label L p) refl
  where
    by : (a : Bool) → is_label L p ≡ a → a ≡ false
    by false e = refl
    by true e = let k = h p f in let m = label_times p L e in let o : gone_weigh (of_point p) (one p) ≡ 1 = ap (λ (t : Bool). cond {A = ℕ} t 1 0) (point_is_one p) in absurd (omega arith)
hidden_all L (both g k) f h = (hidden_all L g f.0 (λ p n. let m = h p n in omega arith), hidden_all L k f.1 (λ p n. let m = h p n in omega arith))

mutual
  pub no_eq : (c : Code) → ((l : Layout) → IsAmong l (layouts c) → l.point.kind ≢ Eq) → NoEq c
  no_eq (Make y shape atoms c) h = no_eq c h
  no_eq (Pick y i a c) h = no_eq c h
  no_eq (Prim y f atoms c) h = no_eq c h
  no_eq (Equal a b t k) h = tt
  no_eq (Fix fs c) h = (no_eq_in fs (λ l i. h l (among_left l (layouts_functions fs) (layouts c) i)), no_eq c (λ l i. h l (among_right l (layouts_functions fs) (layouts c) i)))
  no_eq (Call a atoms) h = tt
  no_eq (Match a rules) h = no_eq_rules rules h
  no_eq (Handler y c) h = no_eq c h
  no_eq (SetHandler a c) h = no_eq c h
  no_eq (Throw a) h = tt
  no_eq Halt h = tt

  no_eq_in : (fs : Functions) → ((l : Layout) → IsAmong l (layouts_functions fs) → l.point.kind ≢ Eq) → NoEqIn fs
  no_eq_in NoFunction h = tt
  no_eq_in (Function f p params b fs) h =
      (h _ (inl refl), no_eq b (λ l i. h l (inr (among_left l (layouts b) (layouts_functions fs) i))), no_eq_in fs (λ l i. h l (inr (among_right l (layouts b) (layouts_functions fs) i))))

  no_eq_rules : (rs : Rules) → ((l : Layout) → IsAmong l (layouts_rules rs) → l.point.kind ≢ Eq) → NoEqRules rs
  no_eq_rules (Otherwise c) h = no_eq c h
  no_eq_rules (Rule ts c rs) h = (no_eq c (λ l i. h l (among_left l (layouts c) (layouts_rules rs) i)), no_eq_rules rs (λ l i. h l (among_right l (layouts c) (layouts_rules rs) i)))

mutual
  pub eq_none : (c : Code) → NoEq c → (l : Layout) → IsAmong l (layouts c) → l.point.kind ≢ Eq
  eq_none (Make y shape atoms c) n l i = eq_none c n l i
  eq_none (Pick y k a c) n l i = eq_none c n l i
  eq_none (Prim y f atoms c) n l i = eq_none c n l i
  eq_none (Equal a b t k) n l i = absurd i
  eq_none (Fix fs c) n l i = ⊎_elim (λ (j : IsAmong l (layouts_functions fs)). eq_none_in fs n.0 l j) (λ (j : IsAmong l (layouts c)). eq_none c n.1 l j) (among_append l (layouts_functions fs) (layouts c) i)
  eq_none (Call a atoms) n l i = absurd i
  eq_none (Match a rules) n l i = eq_none_rules rules n l i
  eq_none (Handler y c) n l i = eq_none c n l i
  eq_none (SetHandler a c) n l i = eq_none c n l i
  eq_none (Throw a) n l i = absurd i
  eq_none Halt n l i = absurd i

  eq_none_in : (fs : Functions) → NoEqIn fs → (l : Layout) → IsAmong l (layouts_functions fs) → l.point.kind ≢ Eq
  eq_none_in NoFunction n l i = absurd i
  eq_none_in (Function f p params b fs) n l (inl e) = λ k. n.0 (ap (λ t. t.point.kind) (sym e) ∙ k)
  eq_none_in (Function f p params b fs) n l (inr i) = ⊎_elim (λ (j : IsAmong l (layouts b)). eq_none b n.1 l j) (λ (j : IsAmong l (layouts_functions fs)). eq_none_in fs n.2 l j) (among_append l (layouts b) (layouts_functions fs) i)

  eq_none_rules : (rs : Rules) → NoEqRules rs → (l : Layout) → IsAmong l (layouts_rules rs) → l.point.kind ≢ Eq
  eq_none_rules (Otherwise c) n l i = eq_none c n l i
  eq_none_rules (Rule ts c rs) n l i = ⊎_elim (λ (j : IsAmong l (layouts c)). eq_none c n.0 l j) (λ (j : IsAmong l (layouts_rules rs)). eq_none_rules rs n.1 l j) (among_append l (layouts c) (layouts_rules rs) i)

-- ---- The walk makes no point

abbrev Makes : (ℕ → Option Inlined) → Type 0
Makes ι = (f : ℕ) (i : Inlined) → ι f ≡ Some i → (bs : List Atom) (τ : ℕ → Option Made) → NoEq (i.code bs τ)

makes_bind : (ι : ℕ → Option Inlined) (x : ℕ) (o : Option Inlined) → Makes ι → ((i : Inlined) → o ≡ Some i → (bs : List Atom) (τ : ℕ → Option Made) → NoEq (i.code bs τ)) → Makes (bind ι x o)
makes_bind ι x o h g f i e bs τ = ⊎_elim (λ (k : (f ≡ x) × (o ≡ Some i)). g i k.1 bs τ) (λ (k : (f ≢ x) × (ι f ≡ Some i)). h f i k.1 bs τ) (bind_cases ι x o f i e)

makes_none : (ι : ℕ → Option Inlined) (x : ℕ) → Makes ι → Makes (bind ι x None)
makes_none ι x h = makes_bind ι x None h (λ i e. absurd (cc))

either : (u : Bool) (c d : Code) → NoEq c → NoEq d → NoEq (cond u c d)
either true c d m n = m
either false c d m n = n

pick_no_eq : (o : Option Atom) (r : Atom → Code) (e : Code) → ((q : Atom) → NoEq (r q)) → NoEq e → NoEq (pick_left o r e)
pick_no_eq None r e m n = n
pick_no_eq (Some q) r e m n = m q

fix_no_eq : (gs : Functions) (d : Code) → NoEqIn gs → NoEq d → NoEq (fix_left gs d)
fix_no_eq NoFunction d m n = n
fix_no_eq (Function f p params b gs) d m n = (m, n)

match_no_eq : (a : Atom) (rs : Rules) → NoEqRules rs → NoEq (match_left a rs)
match_no_eq a (Otherwise c) n = n
match_no_eq a (Rule ts c rs) n = n

rule_no_eq : (o : Option (List Test)) (c : Code) (rs : Rules) → NoEq c → NoEqRules rs → NoEqRules (rule_left o c rs)
rule_no_eq None c rs m n = n
rule_no_eq (Some []) c rs m n = m
rule_no_eq (Some (t ∷ ts)) c rs m n = (m, n)

call_no_eq : (o : Option Inlined) (τ : ℕ → Option Made) (a : Atom) (us : List Atom) → ((i : Inlined) → o ≡ Some i → (bs : List Atom) (τ : ℕ → Option Made) → NoEq (i.code bs τ)) → NoEq (call_left o τ a us)
call_no_eq None τ a us h = tt
call_no_eq (Some i) τ a us h = either (nat_eq (length us) (length i.params)) (i.code us τ) (Call a us) (h i refl us τ) (tt {0})

inlined_makes : (ι : ℕ → Option Inlined) (a : Atom) → Makes ι → (i : Inlined) → inlined_of ι a ≡ Some i → (bs : List Atom) (τ : ℕ → Option Made) → NoEq (i.code bs τ)
inlined_makes ι (atom.Var f) h i e = h f i e
inlined_makes ι (atom.Constant k) h i e = absurd (cc)

function_no_eq : (r : Role) (f : ℕ) (p : Point) (params : List ℕ) (b : Code) (gs : Functions) → p.kind ≢ Eq → NoEq b → NoEqIn gs → NoEqIn (function_left r f p params b gs)
function_no_eq Stays f p params b gs k m n = (k, m, n)
function_no_eq Dropped f p params b gs k m n = n
function_no_eq (Replaced x) f p params b gs k m n = n
function_no_eq Placed f p params b gs k m n = n

placed_makes : (r : Role) (f : ℕ) (i : Inlined) (ι : ℕ → Option Inlined) → Makes ι → ((bs : List Atom) (τ : ℕ → Option Made) → NoEq (i.code bs τ)) → Makes (placed r f i ι)
placed_makes Placed f i ι h g = makes_bind ι f (Some i) h (λ j e. some_eq (λ t. (bs : List Atom) (τ : ℕ → Option Made) → NoEq (t.code bs τ)) i j e g)
placed_makes Stays f i ι h g = makes_none ι f h
placed_makes Dropped f i ι h g = makes_none ι f h
placed_makes (Replaced x) f i ι h g = makes_none ι f h

module _ (texts : List (List ℕ)) where
  mutual
    pub walk_no_eq : (c : Code) (K : Known) → NoEq c → Makes K.ι → NoEq (walk texts K c)
    walk_no_eq (Make x shape us c) K n h = either (is_unused x c) (walk texts K c) (Make x shape (atoms_in K.σ us) (walk texts (binding K x (known_as shape (atoms_in K.σ us))) c)) (walk_no_eq c K n h) (walk_no_eq c (binding K x (known_as shape (atoms_in K.σ us))) n (makes_none K.ι x h))
    walk_no_eq (Pick x i b c) K n h =
        either (is_unused x c) (walk texts K c) (pick_left (known_field K.τ (atom_in K.σ b) i) (λ q. walk texts (replacing K x q) c) (Pick x i (atom_in K.σ b) (walk texts (binding K x None) c))) (walk_no_eq c K n h)
        (pick_no_eq (known_field K.τ (atom_in K.σ b) i) (λ q. walk texts (replacing K x q) c) (Pick x i (atom_in K.σ b) (walk texts (binding K x None) c)) (λ q. walk_no_eq c (replacing K x q) n (makes_none K.ι x h)) (walk_no_eq c (binding K x None) n (makes_none K.ι x h)))
    walk_no_eq (Prim x p us c) K n h = either (is_pure p && is_unused x c) (walk texts K c) (Prim x p (atoms_in K.σ us) (walk texts (binding K x None) c)) (walk_no_eq c K n h) (walk_no_eq c (binding K x None) n (makes_none K.ι x h))
    walk_no_eq (Equal a b t k) K n h = tt
    walk_no_eq (Fix fs c) K n h =
        fix_no_eq (functions_walk texts (role_in fs c) (names_in (role_in fs c) fs K.σ) fs) (walk texts (known (names_in (role_in fs c) fs K.σ) K.τ (bodies_walk texts (role_in fs c) (names_in (role_in fs c) fs K.σ) fs K.ι)) c) (functions_no_eq fs (role_in fs c) (names_in (role_in fs c) fs K.σ) n.0)
        (walk_no_eq c (known (names_in (role_in fs c) fs K.σ) K.τ (bodies_walk texts (role_in fs c) (names_in (role_in fs c) fs K.σ) fs K.ι)) n.1 (bodies_make fs (role_in fs c) (names_in (role_in fs c) fs K.σ) K.ι n.0 h))
    walk_no_eq (Call b us) K n h = call_no_eq (inlined_of K.ι b) K.τ (atom_in K.σ b) (atoms_in K.σ us) (inlined_makes K.ι b h)
    walk_no_eq (Match b rs) K n h = match_no_eq (atom_in K.σ b) (rules_walk texts K (atom_in K.σ b) rs) (rules_no_eq rs K (atom_in K.σ b) n h)
    walk_no_eq (Handler x c) K n h = walk_no_eq c (binding K x None) n (makes_none K.ι x h)
    walk_no_eq (SetHandler b c) K n h = walk_no_eq c K n h
    walk_no_eq (Throw b) K n h = tt
    walk_no_eq Halt K n h = tt

    functions_no_eq : (fs : Functions) (role : Roles) (σ : ℕ → Atom) → NoEqIn fs → NoEqIn (functions_walk texts role σ fs)
    functions_no_eq NoFunction role σ n = tt
    functions_no_eq (Function f p params b fs) role σ n = function_no_eq (role f params b) f p params (walk texts (within σ params) b) (functions_walk texts role σ fs) n.0 (walk_no_eq b (within σ params) n.1 (λ g i e. absurd (cc))) (functions_no_eq fs role σ n.2)

    bodies_make : (fs : Functions) (role : Roles) (σ : ℕ → Atom) (ι : ℕ → Option Inlined) → NoEqIn fs → Makes ι → Makes (bodies_walk texts role σ fs ι)
    bodies_make NoFunction role σ ι n h = h
    bodies_make (Function f p params b fs) role σ ι n h =
        bodies_make fs role σ (placed (role f params b) f (record { params = params; code = λ bs τ. walk texts (known (with_arguments σ params bs) τ nothing) b }) ι) n.2
        (placed_makes (role f params b) f (record { params = params; code = λ bs τ. walk texts (known (with_arguments σ params bs) τ nothing) b }) ι h (λ bs τ. walk_no_eq b (known (with_arguments σ params bs) τ nothing) n.1 (λ g i e. absurd (cc))))

    rules_no_eq : (rs : Rules) (K : Known) (b : Atom) → NoEqRules rs → Makes K.ι → NoEqRules (rules_walk texts K b rs)
    rules_no_eq (Otherwise c) K b n h = walk_no_eq c K n h
    rules_no_eq (Rule ts c rs) K b n h = rule_no_eq (tests_left texts K b ts) (walk texts K c) (rules_walk texts K b rs) (walk_no_eq c K n.0 h) (rules_no_eq rs K b n.1 h)
