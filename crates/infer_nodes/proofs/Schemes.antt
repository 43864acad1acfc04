-- Settled names, constructors and primitives with new variables.
use Rattle.std.proofs.Common.{◌≡◌, ℕ, zero, suc, ◌+◌, ◌<◌, ◌≤◌, Bool, true, false, List, [], ◌∷◌, ◌++◌, length, Option, Some, None, refl, sym, ap, ◌∙◌, arith, subst, map, cond, nat_eq, Result, Ok, Err, IfOk, inl, inr, drop, get_or, take, take_all, ◌-◌}
use Rattle.std.specs.Prelude.{slice_get, ◌||◌, ◌⊎◌}
use Rattle.std.specs.List.{AllByRecursion, find}
use Rattle.std.proofs.lemmas.Bool.{eqb-true, eq-eqb}
use Rattle.std.proofs.lemmas.Option.{slice_get-get_or}
use Rattle.smlc_base.specs.declared.memory.NoMemory.{NoMemory}
use Rattle.smlc_base.specs.declared.primitive.Primitive.{Primitive}
use Rattle.smlc_base.specs.declared.primitive.Primitive.TheVariants as prim
use Rattle.infer_parts.proofs.Lists.{drop_here}
use Rattle.sml_types.specs.declared.types.Ty.{Ty}
use Rattle.sml_types.specs.declared.types.TyVar.{TyVar}
use Rattle.sml_types.specs.declared.types.TyForm.{TyForm}
use Rattle.sml_types.specs.declared.types.TyForm.TheVariants.{Var, Fields, Arrow, Named}
use Rattle.sml_types.specs.declared.tables.ConRow.{ConRow}
use Rattle.sml_types.specs.declared.tables.TypeName.{TypeName}
use Rattle.sml_types.specs.Tree.{Tree, Variable, App, NoParts, Part, NameHead, inst, admits, AllVars}
use Rattle.sml_types.specs.Forms.{tree, form_tree, listed, parts_of, AreForms}
use Rattle.sml_types.specs.Poly.{Poly, poly, has_num, IsInstance}
use Rattle.sml_types.specs.Library.{parts, name_ty, arrow, tuple, primitive_poly, arg_of, name_types, name_type, cons_of, NameType, ConType}
use Rattle.sml_types.specs.Schemes.{scheme_poly}
use Rattle.sml_types.specs.Typing.{con_ty, variables, IsAmong, Covers}
use Rattle.sml_types.proofs.TreeFacts.{inst_inst, inst_id}
use Rattle.sml_types.proofs.FormFacts.{tree_form}
use Rattle.sml_unify.specs.Solved.{Substitution, Respects, Agrees, under}
use Rattle.sml_unify.specs.Steps.{IsLonger, AreBelow}
use Rattle.sml_unify.specs.Variables.{AreOnce}
use Rattle.infer_parts.specs.Copies.{given_types, given_tree, AreOldVars}
use Rattle.infer_parts.specs.Rounds.{AreArgumentsThere}
use Rattle.infer_parts.specs.Written.{paired, AreThere}
use Rattle.infer_state.specs.declared.settled.Settled.{Settled}
use Rattle.infer_state.specs.Rules.{IsCopy, IsDataAt, Takes}
use Rattle.infer_state.specs.Fits.{IsThere, IsFormVar}
use Rattle.infer_nodes.specs.Posed.{StandsFor, AreAdded, IsMade}
use Rattle.infer_nodes.specs.Made.{IsFixed, new_var, AreNew, AreArgumentsCovered, arg_tree, has_argument, IsConMade, IsMono}
use Rattle.infer_nodes.proofs.Added.{longer_both, added_none, added_old, respects_old}
use Rattle.infer_nodes.proofs.Instanced.{IsKnownVar, instanced, inst_under, both_vars, copy_instance, instance_copy, among_has, eq_sym}

-- ---- The variables of a type stand in the forms

listed_vars : (P : TyVar → Type 0) (t : ℕ → Tree) (is : List ℕ) → AllByRecursion (λ i. AllVars P (t i)) is → AllVars P (listed t is)
listed_vars P t [] h = tt
listed_vars P t (i ∷ is) h = (h.0, listed_vars P t is h.1)

all_below : (P : ℕ → Type 0) (n : ℕ) (is : List ℕ) → ((i : ℕ) → i < n → P i) → AllByRecursion (λ i. i < n) is → AllByRecursion P is
all_below P n [] f h = tt
all_below P n (i ∷ is) f h = (f i h.0, all_below P n is f h.1)

one_form : (P : TyVar → Type 0) (t : ℕ → Tree) (form : TyForm) → ((v : TyVar) → form ≡ Var v → P v) → AllByRecursion (λ i. AllVars P (t i)) (parts_of form) → AllVars P (form_tree t form)
one_form P t (Var v) h k = h v refl
one_form P t (Fields fields) h k = listed_vars P t (map (λ f. f.ty.0) fields) k
one_form P t (Arrow a b) h k = listed_vars P t (a.0 ∷ b.0 ∷ []) k
one_form P t (Named n args) h k = listed_vars P t (map (λ a. a.0) args) k

vars_upto : (forms : List TyForm) → AreForms forms → (n i : ℕ) → i < n → i < length forms → AllVars (IsFormVar forms) (tree forms i)
vars_upto forms fs zero i lt w = absurd (omega arith)
vars_upto forms fs (suc n) i lt w = go (slice_get forms i) refl (λ j l. vars_upto forms fs n j l)
  where
    go : (o : Option TyForm) → slice_get forms i ≡ o → ((j : ℕ) → j < n → j < length forms → AllVars (IsFormVar forms) (tree forms j)) → AllVars (IsFormVar forms) (tree forms i)
    go None q k = let d : TyForm = Arrow (record { 0 = 0 }) (record { 0 = 0 }) in let z = slice_get-get_or forms i d w in cc
    go (Some f) q k =
        subst
        (AllVars (IsFormVar forms))
        (sym (tree_form forms i f fs.numbered q))
        (one_form (IsFormVar forms) (tree forms) f (λ v e. (i, q ∙ ap Some e)) (all_below (λ j. AllVars (IsFormVar forms) (tree forms j)) i (parts_of f) (λ j l. k j (omega arith) (omega arith)) (fs.numbered i f q)))

pub form_vars : (forms : List TyForm) (i : ℕ) → AreForms forms → i < length forms → AllVars (IsFormVar forms) (tree forms i)
form_vars forms i fs w = vars_upto forms fs (suc i) i (omega arith) w

pub vars_mono : (P Q : TyVar → Type 0) (t : Tree) → ((v : TyVar) → P v → Q v) → AllVars P t → AllVars Q t
vars_mono P Q t h a = both_vars P P Q t (λ v x y. h v x) a a

-- a variable with the number of one of these is that one, where all are variables of the forms
same_among : (forms : List TyForm) (vs : List TyVar) (v : TyVar) → AreForms forms → AllByRecursion (IsFormVar forms) vs → IsFormVar forms v → has_num vs v.num ≡ true → IsAmong v vs
same_among forms [] v fs all f h = cc
same_among forms (w ∷ vs) v fs all f h = go (nat_eq v.num w.num) refl (λ k. same_among forms vs v fs all.1 f k)
  where
    go : (b : Bool) → nat_eq v.num w.num ≡ b → (has_num vs v.num ≡ true → IsAmong v vs) → IsAmong v (w ∷ vs)
    go true q k = inl (fs.named f.0 all.0.0 v w f.1 all.0.1 (eqb-true v.num w.num q))
    go false q k = inr (k (sym (ap (λ (b : Bool). b || has_num vs v.num) q) ∙ h))

-- ---- Settled names

pub new_there : (next : ℕ) (vs : List TyVar) (forms : List TyForm) (ts : List Ty) → AreNew next vs forms ts → AreThere forms ts
new_there next [] forms [] n = tt
new_there next [] forms (t ∷ ts) n = absurd n
new_there next (v ∷ vs) forms [] n = absurd n
new_there next (v ∷ vs) forms (t ∷ ts) n = (n.0.there, new_there (suc next) vs forms ts n.1)

pub settled_plain : (names : List TypeName) (next : ℕ) (forms : List TyForm) (s : Settled) → AreBelow forms next → IsThere forms s → s.scheme.vars ≡ [] → IsMade names (λ f u. IsCopy names f (scheme_poly forms s.scheme) u) next forms next forms s.scheme.body
settled_plain names next forms s b th e =
    subst
    (λ (vs : List TyVar). IsMade names (λ f u. IsCopy names f (poly vs (tree forms s.scheme.body.0)) u) next forms next forms s.scheme.body)
    (sym e)
    (record {
      added = added_none next forms b;
      there = th.there;
      gets = λ f r. record { at = Variable; marks = λ v h m. cc; is = refl };
      general = λ f r u c. (f, (λ v l. refl), r, sym c.is);
    })

pub settled_copy : (next : ℕ) (forms : List TyForm) (s : Settled) (next1 : ℕ) (forms1 forms2 : List TyForm) (vs : List TyVar) (ts : List Ty) (r : Result Ty NoMemory) → AreForms forms → AreBelow forms next → IsThere forms s → vs ≡ s.scheme.vars → AreAdded next forms next1 forms1 → AreNew next vs forms1 ts → IfOk r (λ t. (t.0 < length forms2) × (tree forms2 t.0 ≡ inst (given_types forms1 (paired vs ts)) (tree forms1 s.scheme.body.0))) → IsLonger forms1 forms2 → AreOldVars forms1 forms2 → IfOk r (λ t. (names : List TypeName) → IsMade names (λ f u. IsCopy names f (scheme_poly forms s.scheme) u) next forms next1 forms2 t)
settled_copy next forms s next1 forms1 forms2 vs ts (Err x) fs b th e a n h l o = tt
settled_copy next forms s next1 forms1 forms2 vs ts (Ok t) fs b th e a n h l o = λ names.
    instanced
    names
    next
    next1
    forms
    forms1
    forms2
    s.scheme.vars
    ts
    t
    (tree forms s.scheme.body.0)
    a
    (subst (λ (ws : List TyVar). AreNew next ws forms1 ts) e n)
    th.once
    (vars_mono (IsFormVar forms) (IsKnownVar next s.scheme.vars) (tree forms s.scheme.body.0) (λ v f. record { marked = same_among forms s.scheme.vars v fs th.vars f; low = λ q. b f.0 v f.1 }) (form_vars forms s.scheme.body.0 fs th.there))
    l
    o
    h.0
    (h.1
    ∙ ap (λ (ws : List TyVar). inst (given_types forms1 (paired ws ts)) (tree forms1 s.scheme.body.0)) e
    ∙ ap (inst (given_types forms1 (paired s.scheme.vars ts))) (a.longer.trees s.scheme.body.0 th.there))

-- ---- Constructors

map_trees : (forms after : List TyForm) (ts : List Ty) → IsLonger forms after → AreThere forms ts → map (λ t. tree after t.0) ts ≡ map (λ t. tree forms t.0) ts
map_trees forms after [] l h = refl
map_trees forms after (t ∷ ts) l h = let a = l.trees t.0 h.0 in let b = map_trees forms after ts l h.1 in cc

pub con_some : (number : ℕ) (params : List TyVar) (args whole : List Ty) (con : ConRow) (arg : Ty) (f1 f2 f3 f4 : List TyForm) (from to : Ty) (r : Result Ty NoMemory) → whole ≡ args → con.arg ≡ Some arg → AreThere f1 args → (from.0 < length f2) × (tree f2 from.0 ≡ inst (given_types f1 (paired params args)) (tree f1 arg.0)) → IsLonger f1 f2 → AreOldVars f1 f2 → IsFixed (name_ty number (map (λ a. tree f2 a.0) whole)) f2 f3 to → IfOk r (λ t. IsFixed (arrow (tree f3 from.0) (tree f3 to.0)) f3 f4 t) → IfOk r (λ t. IsConMade number params args con f1 f4 t)
con_some number params args whole con arg f1 f2 f3 f4 from to (Err x) e q there h l o w m = tt
con_some number params args whole con arg f1 f2 f3 f4 from to (Ok t) e q there h l o w m =
    let g : Ty → Tree = λ a. inst (given_types f1 (paired params args)) (tree f1 a.0) in
    let last = name_ty number (map (λ a. tree f1 a.0) args) in
    let first = w.longer.trees from.0 h.0 ∙ h.1 in
    let second = w.is ∙ ap (λ (ts : List Ty). name_ty number (map (λ a. tree f2 a.0) ts)) e ∙ ap (name_ty number) (map_trees f1 f2 args l there) in
    subst
    (λ (o : Option Ty). IsFixed (con_ty (arg_tree g o) last) f1 f4 t)
    (sym q)
    (record {
      there = m.there;
      is = m.is ∙ ap (λ u. arrow u (tree f3 to.0)) first ∙ ap (arrow (g arg)) second;
      longer = longer_both f1 f3 f4 (longer_both f1 f2 f3 l w.longer) m.longer;
      vars = λ i v x. o i v (w.vars i v (m.vars i v x));
    })

-- what is given for the parameters
each_new : (next : ℕ) (vs : List TyVar) (forms : List TyForm) (ts : List Ty) → AreNew next vs forms ts → AreOnce vs → parts (map (λ t. tree forms t.0) ts) ≡ inst (given_types forms (paired vs ts)) (parts (variables vs))
each_new next [] forms [] n once = refl
each_new next [] forms (t ∷ ts) n once = absurd n
each_new next (w ∷ vs) forms [] n once = absurd n
each_new next (w ∷ vs) forms (t ∷ ts) n once =
    let rest = each_new (suc next) vs forms ts n.1 once.1 in
    let head : tree forms t.0 ≡ given_types forms (paired (w ∷ vs) (t ∷ ts)) w = sym (ap (λ (b : Bool). given_tree forms w (cond b (Some (record { num = w.num; ty = t })) (find (λ g. nat_eq g.num w.num) (paired vs ts)))) (eq-eqb w.num w.num refl)) in
    let tail = inst_under (λ v. has_num vs v.num ≡ true) (given_types forms (paired vs ts)) (given_types forms (paired (w ∷ vs) (t ∷ ts))) (parts (variables vs)) (λ v k. sym (ap (λ (b : Bool). given_tree forms v (cond b (Some (record { num = w.num; ty = t })) (find (λ g. nat_eq g.num v.num) (paired vs ts)))) (apart v k (nat_eq w.num v.num) refl))) (all_among vs vs (λ v k. k)) in
    ap (λ u. Part u (parts (map (λ t. tree forms t.0) ts))) head
    ∙ ap (Part (given_types forms (paired (w ∷ vs) (t ∷ ts)) w)) (rest ∙ tail)
  where
    apart : (v : TyVar) → has_num vs v.num ≡ true → (b : Bool) → nat_eq w.num v.num ≡ b → nat_eq w.num v.num ≡ false
    apart v k true q = let m = eqb-true w.num v.num q in let o = ap (has_num vs) m ∙ k in let p = once.0 in cc
    apart v k false q = q

    all_among : (us ws : List TyVar) → ((v : TyVar) → IsAmong v us → IsAmong v ws) → AllVars (λ v. has_num ws v.num ≡ true) (parts (variables us))
    all_among [] ws h = tt
    all_among (u ∷ us) ws h = (among_has u ws (h u (inl refl)), all_among us ws (λ v k. h v (inr k)))

covered_vars : (vs : List TyVar) (t : Tree) → Covers vs t → AllVars (λ v. IsAmong v vs) t
covered_vars vs (Variable v) c = c
covered_vars vs (App h ts) c = covered_vars vs ts c
covered_vars vs NoParts c = tt
covered_vars vs (Part t ts) c = (covered_vars vs t c.0, covered_vars vs ts c.1)

param_vars : (us ws : List TyVar) → ((v : TyVar) → IsAmong v us → IsAmong v ws) → AllVars (λ v. IsAmong v ws) (parts (variables us))
param_vars [] ws h = tt
param_vars (u ∷ us) ws h = (h u (inl refl), param_vars us ws (λ v k. h v (inr k)))

con_vars : (P : TyVar → Type 0) (o : Option Tree) (t : Tree) → ((u : Tree) → o ≡ Some u → AllVars P u) → AllVars P t → AllVars P (con_ty o t)
con_vars P None t h k = k
con_vars P (Some u) t h k = (h u refl, (k, tt))

con_inst : (put : Substitution) (forms : List TyForm) (o : Option Ty) (W t : Tree) (g : Ty → Tree) → ((a : Ty) → o ≡ Some a → g a ≡ inst put (tree forms a.0)) → W ≡ inst put t → con_ty (arg_tree g o) W ≡ inst put (con_ty (arg_of forms o) t)
con_inst put forms None W t g h e = e
con_inst put forms (Some a) W t g h e = ap (λ u. arrow u W) (h a refl) ∙ ap (arrow (inst put (tree forms a.0))) e

arg_some : (forms : List TyForm) (o : Option Ty) (u : Tree) → arg_of forms o ≡ Some u → (a : Ty) × (o ≡ Some a) × (tree forms a.0 ≡ u)
arg_some forms None u e = cc
arg_some forms (Some a) u e = (a, refl, cc)

-- the scheme of a constructor, by its row
pub data_copy : (names : List TypeName) (next : ℕ) (forms : List TyForm) (next1 : ℕ) (forms1 forms2 : List TyForm) (number : ℕ) (params : List TyVar) (args : List Ty) (con : ConRow) (r : Result Ty NoMemory) → AreAdded next forms next1 forms1 → AreNew next params forms1 args → AreOnce params → ((a : Ty) → con.arg ≡ Some a → (a.0 < length forms) × Covers params (tree forms a.0)) → IfOk r (λ t. IsConMade number params args con forms1 forms2 t) → IfOk r (λ t. IsMade names (λ f u. IsInstance names (poly params (con_ty (arg_of forms con.arg) (name_ty number (variables params)))) u) next forms next1 forms2 t)
data_copy names next forms next1 forms1 forms2 number params args con (Err x) a n once cov m = tt
data_copy names next forms next1 forms1 forms2 number params args con (Ok t) a n once cov m =
    let body = con_ty (arg_of forms con.arg) (name_ty number (variables params)) in
    let among : AllVars (λ v. IsAmong v params) body = con_vars (λ v. IsAmong v params) (arg_of forms con.arg) (name_ty number (variables params)) (λ u e. let s = arg_some forms con.arg u e in subst (AllVars (λ v. IsAmong v params)) s.2 (covered_vars params (tree forms s.0.0) (cov s.0 s.1).1)) (param_vars params params (λ v k. k)) in
    let closed : AllVars (λ v. has_num params v.num ≡ true) body = vars_mono (λ v. IsAmong v params) (λ v. has_num params v.num ≡ true) body (λ v k. among_has v params k) among in
    let known : AllVars (IsKnownVar next params) body = vars_mono (λ v. IsAmong v params) (IsKnownVar next params) body (λ v k. record { marked = λ q. k; low = λ q. let w = among_has v params k in cc }) among in
    let put = given_types forms1 (paired params args) in
    let made = instanced names next next1 forms forms1 forms2 params args t body a n once known m.longer m.vars m.there (m.is ∙ con_inst put forms con.arg (name_ty number (map (λ a. tree forms1 a.0) args)) (name_ty number (variables params)) (λ a. inst put (tree forms1 a.0)) (λ x e. ap (inst put) (a.longer.trees x.0 (cov x e).0)) (ap (App (NameHead number)) (each_new next params forms1 args n once))) in
    record {
      added = made.added;
      there = made.there;
      gets = λ f r. copy_instance names f params body (under forms2 f t.0) closed (made.gets f r);
      general = λ f r u i. made.general f r u (instance_copy names f params body u closed i);
    }

row_at : (forms : List TyForm) (names : List TypeName) (n : ℕ) (row : TypeName) → slice_get names n ≡ Some row → slice_get (name_types forms names) n ≡ Some (name_type forms row)
row_at forms [] n row e = cc
row_at forms (x ∷ names) zero row e = let same : x ≡ row = cc in ap (λ q. Some (name_type forms q)) same
row_at forms (x ∷ names) (suc n) row e = row_at forms names n row e

con_at : (forms : List TyForm) (cons : List ConRow) (k : ℕ) (con : ConRow) → slice_get cons k ≡ Some con → slice_get (cons_of forms cons) k ≡ Some (record { text = con.text; arg = arg_of forms con.arg })
con_at forms [] k con e = cc
con_at forms (x ∷ cons) zero con e = let same : x ≡ con = cc in ap (λ (q : ConRow). Some (record { text = q.text; arg = arg_of forms q.arg })) same
con_at forms (x ∷ cons) (suc k) con e = con_at forms cons k con e

some_eq : {A : Type 0} (x y : A) → Some x ≡ Some y → x ≡ y
some_eq x y e = cc

takes_of : (forms : List TyForm) (o : Option Ty) (takes : Bool) → has_argument o ≡ takes → Takes (arg_of forms o) takes
takes_of forms None takes e = sym e
takes_of forms (Some a) takes e = sym e

pub data_made : (names : List TypeName) (next : ℕ) (forms : List TyForm) (next1 : ℕ) (forms2 : List TyForm) (number k : ℕ) (takes : Bool) (row : TypeName) (con : ConRow) (r : Result Ty NoMemory) → slice_get names number ≡ Some row → slice_get row.cons k ≡ Some con → has_argument con.arg ≡ takes → IfOk r (λ t. IsMade names (λ f u. IsInstance names (poly row.params (con_ty (arg_of forms con.arg) (name_ty number (variables row.params)))) u) next forms next1 forms2 t) → IfOk r (λ t. IsMade names (λ f u. IsDataAt (name_types forms names) names number k takes u) next forms next1 forms2 t)
data_made names next forms next1 forms2 number k takes row con (Err x) e q s m = tt
data_made names next forms next1 forms2 number k takes row con (Ok t) e q s m =
    let here = row_at forms names number row e in
    let there = con_at forms row.cons k con q in
    record {
      added = m.added;
      there = m.there;
      gets = λ f r. record { row = name_type forms row; con = record { text = con.text; arg = arg_of forms con.arg }; named = here; numbered = there; takes_as = takes_of forms con.arg takes s; is = m.gets f r };
      general = λ f r u d. m.general f r u (unrow f u d);
    }
  where
    unrow : (f : Substitution) (u : Tree) → IsDataAt (name_types forms names) names number k takes u → IsInstance names (poly row.params (con_ty (arg_of forms con.arg) (name_ty number (variables row.params)))) u
    unrow f u d =
        let one : d.row ≡ name_type forms row = some_eq d.row (name_type forms row) (sym d.named ∙ row_at forms names number row e) in
        let cons : slice_get (cons_of forms row.cons) k ≡ Some d.con = sym (ap (λ (w : NameType). slice_get w.cons k) one) ∙ d.numbered in
        let two : d.con ≡ record { text = con.text; arg = arg_of forms con.arg } = some_eq d.con (record { text = con.text; arg = arg_of forms con.arg }) (sym cons ∙ con_at forms row.cons k con q) in
        subst
        (λ (w : ConType). IsInstance names (poly row.params (con_ty w.arg (name_ty number (variables row.params)))) u)
        two
        (subst (λ (w : NameType). IsInstance names (poly w.params (con_ty d.con.arg (name_ty number (variables w.params)))) u) one d.is)

-- ---- Primitives

pub mono_made : (s : Poly) (next : ℕ) (forms forms2 : List TyForm) (r : Result Ty NoMemory) → AreBelow forms next → (s.vars ≡ [] → (f : Substitution) → inst f s.body ≡ s.body) → IfOk r (λ t. IsMono s forms forms2 t) → IfOk r (λ t. (ns : List TypeName) → IsMade ns (λ f u. IsInstance ns s u) next forms next forms2 t)
mono_made s next forms forms2 (Err x) b c m = tt
mono_made s next forms forms2 (Ok t) b c m = λ ns.
    record {
      added = added_old next forms forms2 b m.1.longer m.1.vars;
      there = m.1.there;
      gets = λ f r.
          record {
            at = Variable;
            others = λ v e. refl;
            marks = λ v h k. let none : has_num s.vars v.num ≡ false = ap (λ (vs : List TyVar). has_num vs v.num) m.0 in cc;
            is = ap (inst f) m.1.is ∙ c m.0 f ∙ sym (inst_id s.body);
          };
      general = λ f r u i. (f, (λ v l. refl), respects_old ns forms forms2 f m.1.vars r, ap (inst f) m.1.is ∙ c m.0 f ∙ sym (c m.0 i.at) ∙ sym i.is);
    }

-- a scheme with one variable
pub open_made : (w : TyVar) (body : Tree) (next : ℕ) (forms : List TyForm) (next1 : ℕ) (forms1 forms2 : List TyForm) (var t : Ty) → AreAdded next forms next1 forms1 → AreNew next (w ∷ []) forms1 (var ∷ []) → AllVars (λ v. v ≡ w) body → IsLonger forms1 forms2 → AreOldVars forms1 forms2 → t.0 < length forms2 → tree forms2 t.0 ≡ inst (λ v. tree forms1 var.0) body → (names : List TypeName) → IsMade names (λ f u. IsInstance names (poly (w ∷ []) body) u) next forms next1 forms2 t
open_made w body next forms next1 forms1 forms2 var t a n all l o there is names =
    let vs : List TyVar = w ∷ [] in
    let closed : AllVars (λ v. has_num vs v.num ≡ true) body = vars_mono (λ v. v ≡ w) (λ v. has_num vs v.num ≡ true) body (λ v e. among_has v vs (inl e)) all in
    let known : AllVars (IsKnownVar next vs) body = vars_mono (λ v. v ≡ w) (IsKnownVar next vs) body (λ v e. record { marked = λ q. inl e; low = λ q. let z = among_has v vs (inl e) in cc }) all in
    let put = given_types forms1 (paired vs (var ∷ [])) in
    let given : (v : TyVar) → v ≡ w → tree forms1 var.0 ≡ put v = λ v e. sym (ap (λ (b : Bool). given_tree forms1 v (cond b (Some (record { num = w.num; ty = var })) None)) (eq-eqb w.num v.num (sym (ap (λ (x : TyVar). x.num) e)))) in
    let made = instanced names next next1 forms forms1 forms2 vs (var ∷ []) t body a n (refl, tt) known l o there (is ∙ inst_under (λ v. v ≡ w) (λ v. tree forms1 var.0) put body given all) in
    record {
      added = made.added;
      there = made.there;
      gets = λ f r. copy_instance names f vs body (under forms2 f t.0) closed (made.gets f r);
      general = λ f r u i. made.general f r u (instance_copy names f vs body u closed i);
    }

pub prim_closed : (p : Primitive) → (primitive_poly p).vars ≡ [] → (f : Substitution) → inst f (primitive_poly p).body ≡ (primitive_poly p).body
prim_closed prim.Equal e f = cc
prim_closed prim.Unequal e f = cc
prim_closed prim.Deref e f = cc
prim_closed prim.Assign e f = cc
prim_closed _ e f = refl

abbrev any : Bool → TyVar
any b = record { num = 0; eq = b }

pub equal_made : (next : ℕ) (forms : List TyForm) (next1 : ℕ) (f1 f2 f3 f4 : List TyForm) (var from to : Ty) (r : Result Ty NoMemory) → AreAdded next forms next1 f1 → AreNew next (any true ∷ []) f1 (var ∷ []) → IsFixed (tuple (tree f1 var.0 ∷ tree f1 var.0 ∷ [])) f1 f2 from → IsFixed (name_ty 4 []) f2 f3 to → IfOk r (λ t. IsFixed (arrow (tree f3 from.0) (tree f3 to.0)) f3 f4 t) → IfOk r (λ t. (names : List TypeName) → IsMade names (λ f u. IsInstance names (primitive_poly prim.Equal) u) next forms next1 f4 t)
equal_made next forms next1 f1 f2 f3 f4 var from to (Err x) a n h k m = tt
equal_made next forms next1 f1 f2 f3 f4 var from to (Ok t) a n h k m =
    open_made (any true) (primitive_poly prim.Equal).body next forms next1 f1 f4 var t a n ((refl, (refl, tt)), (tt, tt)) (longer_both f1 f3 f4 (longer_both f1 f2 f3 h.longer k.longer) m.longer) (λ i v x. h.vars i v (k.vars i v (m.vars i v x))) m.there (m.is ∙ ap (λ u. arrow u (tree f3 to.0)) (k.longer.trees from.0 h.there ∙ h.is) ∙ ap (arrow (tuple (tree f1 var.0 ∷ tree f1 var.0 ∷ []))) k.is)

pub deref_made : (next : ℕ) (forms : List TyForm) (next1 : ℕ) (f1 f2 f3 : List TyForm) (var from : Ty) (r : Result Ty NoMemory) → AreAdded next forms next1 f1 → AreNew next (any false ∷ []) f1 (var ∷ []) → IsFixed (name_ty 8 (tree f1 var.0 ∷ [])) f1 f2 from → IfOk r (λ t. IsFixed (arrow (tree f2 from.0) (tree f2 var.0)) f2 f3 t) → IfOk r (λ t. (names : List TypeName) → IsMade names (λ f u. IsInstance names (primitive_poly prim.Deref) u) next forms next1 f3 t)
deref_made next forms next1 f1 f2 f3 var from (Err x) a n h m = tt
deref_made next forms next1 f1 f2 f3 var from (Ok t) a n h m =
    open_made (any false) (primitive_poly prim.Deref).body next forms next1 f1 f3 var t a n ((refl, tt), (refl, tt)) (longer_both f1 f2 f3 h.longer m.longer) (λ i v x. h.vars i v (m.vars i v x)) m.there (m.is ∙ ap (λ u. arrow u (tree f2 var.0)) h.is ∙ ap (arrow (name_ty 8 (tree f1 var.0 ∷ []))) (h.longer.trees var.0 n.0.there))

pub assign_made : (next : ℕ) (forms : List TyForm) (next1 : ℕ) (f1 f2 f3 f4 f5 : List TyForm) (var cell from to : Ty) (r : Result Ty NoMemory) → AreAdded next forms next1 f1 → AreNew next (any false ∷ []) f1 (var ∷ []) → IsFixed (name_ty 8 (tree f1 var.0 ∷ [])) f1 f2 cell → IsFixed (tuple (tree f2 cell.0 ∷ tree f2 var.0 ∷ [])) f2 f3 from → IsFixed (tuple []) f3 f4 to → IfOk r (λ t. IsFixed (arrow (tree f4 from.0) (tree f4 to.0)) f4 f5 t) → IfOk r (λ t. (names : List TypeName) → IsMade names (λ f u. IsInstance names (primitive_poly prim.Assign) u) next forms next1 f5 t)
assign_made next forms next1 f1 f2 f3 f4 f5 var cell from to (Err x) a n h k j m = tt
assign_made next forms next1 f1 f2 f3 f4 f5 var cell from to (Ok t) a n h k j m =
    open_made
    (any false)
    (primitive_poly prim.Assign).body
    next
    forms
    next1
    f1
    f5
    var
    t
    a
    n
    (((refl, tt), (refl, tt)), (tt, tt))
    (longer_both f1 f4 f5 (longer_both f1 f3 f4 (longer_both f1 f2 f3 h.longer k.longer) j.longer) m.longer)
    (λ i v x. h.vars i v (k.vars i v (j.vars i v (m.vars i v x))))
    m.there
    (m.is
    ∙ ap (λ u. arrow u (tree f4 to.0)) (j.longer.trees from.0 k.there ∙ k.is ∙ ap (λ u. tuple (u ∷ tree f2 var.0 ∷ [])) h.is ∙ ap (λ u. tuple (name_ty 8 (tree f1 var.0 ∷ []) ∷ u ∷ [])) (h.longer.trees var.0 n.0.there))
    ∙ ap (arrow (tuple (name_ty 8 (tree f1 var.0 ∷ []) ∷ tree f1 var.0 ∷ []))) j.is)

-- ---- Variables with numbers of their own

drop_count : {A : Type 0} (k : ℕ) (xs : List A) → length (drop k xs) ≤ length xs - k
drop_count zero xs = omega arith
drop_count (suc k) [] = omega arith
drop_count (suc k) (x ∷ xs) = let h = drop_count k xs in omega arith

pub once_more : (vs : List TyVar) (i : ℕ) (d : TyVar) → i < length vs → AreOnce (drop (i + 1) vs) → has_num (take (length vs - (i + 1)) (drop (i + 1) vs)) (get_or vs i d).num ≡ false → AreOnce (drop i vs)
once_more vs i d l o e =
    let all = take_all (length vs - (i + 1)) (drop (i + 1) vs) (drop_count (i + 1) vs) in
    subst AreOnce (sym (drop_here vs i (get_or vs i d) (slice_get-get_or vs i d l))) (sym (ap (λ (ws : List TyVar). has_num ws (get_or vs i d).num) all) ∙ e, o)

pub none_of : {A : Type 0} (xs : List A) → length xs ≡ 0 → xs ≡ []
none_of [] e = refl
none_of (x ∷ xs) e = absurd (omega arith)
