-- What a context leaves open.
use Rattle.std.proofs.Common.{◌≡◌, ℕ, ◌<◌, Bool, true, false, List, [], ◌∷◌, length, Option, Some, None, refl, sym, ap, ◌∙◌, ◌⊎◌, inl, inr, cond, subst, nat_eq}
use Rattle.std.specs.Prelude.{◌||◌, ◌++◌, slice_get}
use Rattle.std.specs.List.{AllByRecursion}
use Rattle.std.proofs.lemmas.Bool.{eq-eqb, eqb-true}
use Rattle.sml_tree.specs.declared.bare.Bare.{Bare}
use Rattle.sml_types.specs.declared.types.Ty.{Ty}
use Rattle.sml_types.specs.declared.types.TyVar.{TyVar}
use Rattle.sml_types.specs.declared.types.TyForm.{TyForm}
use Rattle.sml_types.specs.declared.types.TyForm.TheVariants.{Var}
use Rattle.sml_types.specs.Tree.{Tree, Variable}
use Rattle.sml_types.specs.Forms.{tree}
use Rattle.sml_types.specs.Poly.{Poly, Context, is_in, has_num}
use Rattle.sml_types.specs.Typing.{IsAmong}
use Rattle.sml_types.specs.TypeExps.{explicit, all_explicit}
use Rattle.sml_types.proofs.TreeFacts.{inst_same, inst_id, either, or_left, or_right}
use Rattle.sml_unify.specs.Solved.{Substitution, bound_at, AreBindings, meant, under}
use Rattle.sml_unify.specs.Variables.{Stands, AreVariables}
use Rattle.sml_unify.proofs.Meant.{meant_bound, meant_free}
use Rattle.infer_state.specs.Variables.{name_var}
use Rattle.infer_closing.specs.declared.group.Group.{Group}
use Rattle.infer_closing.specs.Open.{IsLeftBy, IsExplicit, IsLeftOpen, closed_at, is_closed}
use Rattle.infer_closing.specs.Found.{left_of}
use Rattle.infer_closing.specs.Left.{Gets, IsLeftIn, IsLeftByOne, AreLeftOpen, StandsInOne, AreOpen, AreWaiting}
use Rattle.infer_closing.proofs.Trees.{among_front, among_back, among_either, variables_all, variables_stand, all_stand}
use Rattle.infer_closing.proofs.Laws.{at_in}

pub gets_none : (Q : TyVar → Type 0) (vs : List TyVar) → ((v : TyVar) → Q v → ⊥) → Gets Q vs vs
gets_none Q vs none = record { kept = λ v m. m; all = λ v q. absurd (none v q); only = λ v m. inl m }

pub gets_then : (Q R S : TyVar → Type 0) (a b c : List TyVar) → Gets Q a b → Gets R b c → ((v : TyVar) → S v → Q v ⊎ R v) → ((v : TyVar) → Q v → S v) → ((v : TyVar) → R v → S v) → Gets S a c
gets_then Q R S a b c g h split left right =
    record { kept = λ v m. h.kept v (g.kept v m); all = λ v s. found v (split v s); only = λ v m. came v (h.only v m) }
  where
    found : (v : TyVar) → Q v ⊎ R v → IsAmong v c
    found v (inl q) = h.kept v (g.all v q)
    found v (inr r) = h.all v r

    before : (v : TyVar) → IsAmong v a ⊎ Q v → IsAmong v a ⊎ S v
    before v (inl m) = inl m
    before v (inr q) = inr (left v q)

    came : (v : TyVar) → IsAmong v b ⊎ R v → IsAmong v a ⊎ S v
    came v (inl m) = before v (g.only v m)
    came v (inr r) = inr (right v r)

-- what is put last
pub gets_last : (Q : TyVar → Type 0) (old more new : List TyVar) → new ≡ old ++ more → ((v : TyVar) → Q v → IsAmong v more) → ((v : TyVar) → IsAmong v more → Q v) → Gets Q old new
gets_last Q old more new e all only =
    subst
    (λ (vs : List TyVar). Gets Q old vs)
    (sym e)
    (record { kept = λ v m. among_front old more v m; all = λ v q. among_back old more v (all v q); only = λ v m. came v (among_either old more v m) })
  where
    came : (v : TyVar) → IsAmong v old ⊎ IsAmong v more → IsAmong v old ⊎ Q v
    came v (inl m) = inl m
    came v (inr m) = inr (only v m)

-- ---- A scheme

left_there : (vars vs : List TyVar) (v : TyVar) → IsAmong v vs → has_num vars v.num ≡ false → IsAmong v (left_of vars vs)
left_there vars [] v m n = absurd m
left_there vars (w ∷ vs) v m n = go (has_num vars w.num) refl m (λ k. left_there vars vs v k n)
  where
    go : (b : Bool) → has_num vars w.num ≡ b → IsAmong v (w ∷ vs) → (IsAmong v vs → IsAmong v (left_of vars vs)) → IsAmong v (cond b (left_of vars vs) (w ∷ left_of vars vs))
    go true e (inl q) k = let clash : false ≡ true = sym n ∙ ap (λ (u : TyVar). has_num vars u.num) q ∙ e in cc
    go true e (inr l) k = k l
    go false e (inl q) k = inl q
    go false e (inr l) k = inr (k l)

left_only : (vars vs : List TyVar) (v : TyVar) → IsAmong v (left_of vars vs) → IsAmong v vs × (has_num vars v.num ≡ false)
left_only vars [] v m = absurd m
left_only vars (w ∷ vs) v m = go (has_num vars w.num) refl m (λ k. left_only vars vs v k)
  where
    go : (b : Bool) → has_num vars w.num ≡ b → IsAmong v (cond b (left_of vars vs) (w ∷ left_of vars vs)) → (IsAmong v (left_of vars vs) → IsAmong v vs × (has_num vars v.num ≡ false)) → IsAmong v (w ∷ vs) × (has_num vars v.num ≡ false)
    go true e l k = let r = k l in (inr r.0, r.1)
    go false e (inl q) k = (inl q, ap (λ (u : TyVar). has_num vars u.num) q ∙ e)
    go false e (inr l) k = let r = k l in (inr r.0, r.1)

unbound_under : (forms : List TyForm) (i : ℕ) → under forms (meant forms []) i ≡ tree forms i
unbound_under forms i = inst_same (meant forms []) Variable (tree forms i) (λ v o. meant_free forms [] v refl) ∙ inst_id (tree forms i)

pub scheme_gets : (forms : List TyForm) (bound : List (Option Ty)) (i : ℕ) (vars vs old new : List TyVar) → bound ≡ [] → AreVariables vs (under forms (meant forms bound) i) → new ≡ old ++ left_of vars vs → Gets (IsLeftIn vars (tree forms i)) old new
scheme_gets forms bound i vars vs old new b h e =
    let are : AreVariables vs (tree forms i) = subst (λ (t : Tree). AreVariables vs t) (ap (λ (k : List (Option Ty)). under forms (meant forms k) i) b ∙ unbound_under forms i) h in
    gets_last (IsLeftIn vars (tree forms i)) old (left_of vars vs) new e (λ v q. left_there vars vs v (variables_all vs (tree forms i) are v q.0) q.1) (λ v m. let r = left_only vars vs v m in (variables_stand vs (tree forms i) are v r.0, r.1))

pub one_gets : (Q : TyVar → Type 0) (old new : List TyVar) (w : TyVar) → new ≡ old ++ w ∷ [] → ((v : TyVar) → Q v → v ≡ w) → Q w → Gets Q old new
one_gets Q old new w e all here = gets_last Q old (w ∷ []) new e (λ v q. inl (all v q)) only
  where
    only : (v : TyVar) → IsAmong v (w ∷ []) → Q v
    only v (inl q) = subst Q (sym q) here
    only v (inr m) = absurd m

-- ---- Names

in_append : (xs : List ℕ) (y x : ℕ) → is_in (xs ++ y ∷ []) x ≡ true → (is_in xs x ≡ true) ⊎ (x ≡ y)
in_append [] y x e = either (nat_eq x y) false ((is_in [] x ≡ true) ⊎ (x ≡ y)) e (λ q. inr (eqb-true x y q)) (λ q. cc)
in_append (z ∷ xs) y x e = either (nat_eq x z) (is_in (xs ++ y ∷ []) x) ((is_in (z ∷ xs) x ≡ true) ⊎ (x ≡ y)) e (λ q. inl (or_left (nat_eq x z) (is_in xs x) q)) (λ q. go (in_append xs y x q))
  where
    go : (is_in xs x ≡ true) ⊎ (x ≡ y) → (is_in (z ∷ xs) x ≡ true) ⊎ (x ≡ y)
    go (inl k) = inl (or_right (nat_eq x z) (is_in xs x) k)
    go (inr k) = inr k

pub in_front : (xs ys : List ℕ) (x : ℕ) → is_in xs x ≡ true → is_in (xs ++ ys) x ≡ true
in_front [] ys x e = cc
in_front (z ∷ xs) ys x e = either (nat_eq x z) (is_in xs x) (is_in (z ∷ xs ++ ys) x ≡ true) e (λ q. or_left (nat_eq x z) (is_in (xs ++ ys) x) q) (λ q. or_right (nat_eq x z) (is_in (xs ++ ys) x) (in_front xs ys x q))

pub in_last : (xs : List ℕ) (x : ℕ) → is_in (xs ++ x ∷ []) x ≡ true
in_last [] x = or_left (nat_eq x x) false (eq-eqb x x refl)
in_last (z ∷ xs) x = or_right (nat_eq x z) (is_in (xs ++ x ∷ []) x) (in_last xs x)

pub in_back : (xs ys : List ℕ) (x : ℕ) → is_in ys x ≡ true → is_in (xs ++ ys) x ≡ true
in_back [] ys x e = e
in_back (z ∷ xs) ys x e = or_right (nat_eq x z) (is_in (xs ++ ys) x) (in_back xs ys x e)

pub in_either : (xs ys : List ℕ) (x : ℕ) → is_in (xs ++ ys) x ≡ true → (is_in xs x ≡ true) ⊎ (is_in ys x ≡ true)
in_either [] ys x e = inr e
in_either (z ∷ xs) ys x e = either (nat_eq x z) (is_in (xs ++ ys) x) ((is_in (z ∷ xs) x ≡ true) ⊎ (is_in ys x ≡ true)) e (λ q. inl (or_left (nat_eq x z) (is_in xs x) q)) (λ q. go (in_either xs ys x q))
  where
    go : (is_in xs x ≡ true) ⊎ (is_in ys x ≡ true) → (is_in (z ∷ xs) x ≡ true) ⊎ (is_in ys x ≡ true)
    go (inl k) = inl (or_right (nat_eq x z) (is_in xs x) k)
    go (inr k) = inr k

pub names_get : (p : Bare) (settled : ℕ → Option Poly) (c : Context) (xs ys : List ℕ) (x : ℕ) (a b d : List TyVar) → ys ≡ xs ++ x ∷ [] → Gets (IsLeftByOne p settled c xs) a b → Gets (λ w. IsLeftBy p c w x (settled x)) b d → Gets (IsLeftByOne p settled c ys) a d
names_get p settled c xs ys x a b d e g h =
    subst
    (λ (zs : List ℕ). Gets (IsLeftByOne p settled c zs) a d)
    (sym e)
    (gets_then (IsLeftByOne p settled c xs) (λ w. IsLeftBy p c w x (settled x)) (IsLeftByOne p settled c (xs ++ x ∷ [])) a b d g h (λ v s. split v s.0 s.2 (in_append xs x s.0 s.1)) (λ v q. (q.0, in_front xs (x ∷ []) q.0 q.1, q.2)) (λ v r. (x, in_last xs x, r)))
  where
    split : (v : TyVar) (y : ℕ) → IsLeftBy p c v y (settled y) → (is_in xs y ≡ true) ⊎ (y ≡ x) → IsLeftByOne p settled c xs v ⊎ IsLeftBy p c v x (settled x)
    split v y l (inl k) = inl (y, k, l)
    split v y l (inr k) = inr (subst (λ z. IsLeftBy p c v z (settled z)) k l)

-- ---- A context

explicit_in : (marks : List Bool) (us : List ℕ) (u : ℕ) → is_in us u ≡ true → IsAmong (explicit marks u) (all_explicit marks us)
explicit_in marks [] u e = cc
explicit_in marks (z ∷ us) u e = either (nat_eq u z) (is_in us u) (IsAmong (explicit marks u) (all_explicit marks (z ∷ us))) e (λ q. inl (ap (explicit marks) (eqb-true u z q))) (λ q. inr (explicit_in marks us u q))

explicit_of : (marks : List Bool) (us : List ℕ) (w : TyVar) → IsAmong w (all_explicit marks us) → (u : ℕ) × (is_in us u ≡ true) × (w ≡ explicit marks u)
explicit_of marks [] w m = absurd m
explicit_of marks (z ∷ us) w (inl e) = (z, or_left (nat_eq z z) (is_in us z) (eq-eqb z z refl), e)
explicit_of marks (z ∷ us) w (inr m) = let r = explicit_of marks us w m in (r.0, or_right (nat_eq r.0 z) (is_in us r.0) r.1, r.2)

closed_leaves : (p : Bare) (c : Context) (w : TyVar) (x : ℕ) (s : Option Poly) → is_closed s ≡ true → IsLeftBy p c w x s → ⊥
closed_leaves p c w x (Some s) e l = let yes = all_stand s.vars s.body w e l.0 in let clash : false ≡ true = sym l.1 ∙ yes in cc
closed_leaves p c w x None e l = cc

pub context_leaves : (p : Bare) (settled : ℕ → Option Poly) (c : Context) (Closed : Type 0) (us ys : List ℕ) (first left : List TyVar) → us ≡ c.tyvars → first ≡ all_explicit p.tyvars us → AllByRecursion (λ u. u < length p.tyvars) us → AllByRecursion (λ x. is_in c.names x ≡ true) ys → (Closed → (x : ℕ) → is_in c.names x ≡ true → (is_in ys x || closed_at settled x) ≡ true) → Gets (IsLeftByOne p settled c ys) first left → AreLeftOpen p settled c Closed left
context_leaves p settled c Closed us ys first left e f few bound others g = record { each = λ w m. came w (g.only w m); all = found }
  where
    explicit_one : (w : TyVar) → IsAmong w first → IsExplicit p c w
    explicit_one w m =
        let r = explicit_of p.tyvars us w (subst (λ (vs : List TyVar). IsAmong w vs) f m) in
        (r.0, subst (λ (zs : List ℕ). is_in zs r.0 ≡ true) e r.1, at_in (λ u. u < length p.tyvars) us r.0 few r.1, r.2)

    came : (w : TyVar) → IsAmong w first ⊎ IsLeftByOne p settled c ys w → IsLeftOpen p settled c w
    came w (inl m) = inl (explicit_one w m)
    came w (inr (x, i, l)) = inr (x, at_in (λ y. is_in c.names y ≡ true) ys x bound i, l)

    found : Closed → (w : TyVar) → IsLeftOpen p settled c w → IsAmong w left
    found k w (inl (u, i, few, q)) =
        g.kept w (subst (λ (vs : List TyVar). IsAmong w vs) (sym f) (subst (λ (v : TyVar). IsAmong v (all_explicit p.tyvars us)) (sym q) (explicit_in p.tyvars us u (subst (λ (zs : List ℕ). is_in zs u ≡ true) (sym e) i))))
    found k w (inr (x, i, l)) =
        either (is_in ys x) (closed_at settled x) (IsAmong w left) (others k x i) (λ q. g.all w (x, q, l)) (λ q. absurd (closed_leaves p c w x (settled x) q l))

-- ---- What stands in them

pub bound_gets : (forms : List TyForm) (bound : List (Option Ty)) (b : AreBindings forms bound) (v : TyVar) (t : Ty) (more old new : List TyVar) → bound_at bound v.num ≡ Some t → AreVariables more (under forms (meant forms bound) t.0) → new ≡ old ++ more → Gets (λ w. Stands w (meant forms bound v)) old new
bound_gets forms bound b v t more old new q h e =
    let is : meant forms bound v ≡ under forms (meant forms bound) t.0 = meant_bound forms bound b.acyclic v t q in
    gets_last
    (λ w. Stands w (meant forms bound v))
    old
    more
    new
    e
    (λ w s. variables_all more (under forms (meant forms bound) t.0) h w (subst (λ (u : Tree). Stands w u) is s))
    (λ w m. subst (λ (u : Tree). Stands w u) (sym is) (variables_stand more (under forms (meant forms bound) t.0) h w m))

pub free_gets : (forms : List TyForm) (bound : List (Option Ty)) (v : TyVar) (old new : List TyVar) → bound_at bound v.num ≡ None → new ≡ old ++ v ∷ [] → Gets (λ w. Stands w (meant forms bound v)) old new
free_gets forms bound v old new q e =
    let is : meant forms bound v ≡ Variable v = meant_free forms bound v q in
    one_gets (λ w. Stands w (meant forms bound v)) old new v e (λ w s. subst (λ (u : Tree). Stands w u) is s) (subst (λ (u : Tree). Stands v u) (sym is) refl)

pub all_get : (m : Substitution) (xs ys : List TyVar) (x : TyVar) (a b : List TyVar) → ys ≡ xs ++ x ∷ [] → Gets (StandsInOne m xs) [] a → Gets (λ v. Stands v (m x)) a b → Gets (StandsInOne m ys) [] b
all_get m xs ys x a b e g h =
    subst
    (λ (zs : List TyVar). Gets (StandsInOne m zs) [] b)
    (sym e)
    (gets_then (StandsInOne m xs) (λ v. Stands v (m x)) (StandsInOne m (xs ++ x ∷ [])) [] a b g h (λ v s. split v s.0 s.2 (among_either xs (x ∷ []) s.0 s.1)) (λ v q. (q.0, among_front xs (x ∷ []) q.0 q.1, q.2)) (λ v r. (x, among_back xs (x ∷ []) x (inl refl), r)))
  where
    split : (v w : TyVar) → Stands v (m w) → IsAmong w xs ⊎ IsAmong w (x ∷ []) → StandsInOne m xs v ⊎ Stands v (m x)
    split v w s (inl k) = inl (w, k, s)
    split v w s (inr (inl q)) = inr (subst (λ (u : TyVar). Stands v (m u)) q s)
    split v w s (inr (inr k)) = absurd k

pub context_opens : (p : Bare) (settled : ℕ → Option Poly) (c : Context) (m : Substitution) (Closed Waiting : Type 0) (left found : List TyVar) → AreLeftOpen p settled c Closed left → Gets (StandsInOne m left) [] found → AreOpen p settled c m (Closed × Waiting) found
context_opens p settled c m Closed Waiting left found h g = record { each = λ v a. came v (g.only v a); all = λ k v w l s. g.all v (w, h.all k.0 w l, s) }
  where
    came : (v : TyVar) → IsAmong v [] ⊎ StandsInOne m left v → (w : TyVar) × IsLeftOpen p settled c w × Stands v (m w)
    came v (inl n) = absurd n
    came v (inr (w, k, s)) = (w, h.each w k, s)

pub nothing_waits : (p : Bare) (settled : ℕ → Option Poly) (c : Context) (m : Substitution) (Closed : Type 0) (groups : List Group) (found : List TyVar) → AllByRecursion (λ g. g.vars ≡ []) groups → found ≡ [] → AreOpen p settled c m (Closed × AreWaiting groups) found
nothing_waits p settled c m Closed groups found none e =
    subst
    (λ (vs : List TyVar). AreOpen p settled c m (Closed × AreWaiting groups) vs)
    (sym e)
    (record { each = λ v a. absurd a; all = λ k v w l s. absurd (k.1 none) })

-- ---- From the code

explicit_end : (marks : List Bool) (us : List ℕ) (u : ℕ) → all_explicit marks (us ++ u ∷ []) ≡ all_explicit marks us ++ explicit marks u ∷ []
explicit_end marks [] u = refl
explicit_end marks (z ∷ us) u = ap (λ vs. explicit marks z ∷ vs) (explicit_end marks us u)

pub explicit_more : (marks : List Bool) (us zs : List ℕ) (u : ℕ) (old new : List TyVar) (v : TyVar) → zs ≡ us ++ u ∷ [] → old ≡ all_explicit marks us → v ≡ explicit marks u → new ≡ old ++ v ∷ [] → new ≡ all_explicit marks zs
explicit_more marks us zs u old new v e f g h = h ∙ ap (λ (w : TyVar). old ++ w ∷ []) g ∙ ap (λ vs. vs ++ explicit marks u ∷ []) f ∙ sym (explicit_end marks us u) ∙ ap (all_explicit marks) (sym e)

pub own_gets : (p : Bare) (c : Context) (forms : List TyForm) (x i j : ℕ) (old new : List TyVar) (v : TyVar) (form : TyForm) → is_in c.own x ≡ true → x < length p.names → i ≡ j → slice_get forms j ≡ Some (Var (name_var p x)) → slice_get forms i ≡ Some form → form ≡ Var v → new ≡ old ++ v ∷ [] → Gets (λ w. IsLeftBy p c w x None) old new
own_gets p c forms x i j old new v form own few e q r f h =
    let same : Some (Var v) ≡ Some (Var (name_var p x)) = ap Some (sym f) ∙ sym r ∙ ap (slice_get forms) e ∙ q in
    let is : v ≡ name_var p x = cc in
    one_gets (λ w. IsLeftBy p c w x None) old new v h (λ w l. l.2 ∙ sym is) (own, few, is)
