-- The substitution at the end, from what the explicit type variables stand for.
use Rattle.std.proofs.Common.{◌≡◌, ℕ, zero, suc, ◌+◌, ◌<◌, Bool, true, false, List, [], ◌∷◌, length, Option, Some, None, refl, sym, ap, ◌∙◌, subst, nat_eq, arith, cond}
use Rattle.std.specs.Prelude.{slice_get, ◌&&◌}
use Rattle.std.specs.List.{AllByRecursion, find}
use Rattle.std.proofs.lemmas.Bool.{eq-eqb, eqb-true}
use Rattle.sml_tree.specs.declared.bare.Bare.{Bare}
use Rattle.sml_types.specs.declared.types.TyVar.{TyVar}
use Rattle.sml_types.specs.declared.types.TyForm.TheVariants.{Var}
use Rattle.sml_types.specs.declared.tables.TypeName.{TypeName}
use Rattle.sml_types.specs.Tree.{Tree, Variable, App, NoParts, Part, inst, occurs, admits, AllVars, head_equality}
use Rattle.sml_types.specs.Forms.{tree, AreForms}
use Rattle.sml_types.specs.TypeExps.{explicit}
use Rattle.sml_types.proofs.TreeFacts.{inst_inst, by_mono, and_both}
use Rattle.sml_unify.specs.declared.resolve.Rename.{Rename}
use Rattle.sml_unify.specs.Solved.{Substitution, Solves, AreBindings, IsSolved, meant}
use Rattle.sml_unify.specs.Resolve.{renamed, renamed_as, led_to, AreRenames}
use Rattle.sml_unify.proofs.Meant.{meant_solves}
use Rattle.sml_unify.proofs.Known.{meant_known, meant_through}
use Rattle.infer_state.specs.declared.unknowns.Unknowns.{Unknowns}
use Rattle.infer_state.specs.declared.declared.Starts.{Starts}
use Rattle.infer_state.specs.Variables.{AreLaidOut}
use Rattle.infer_state.specs.Steps.{IsState, IsSolution}
use Rattle.infer_state.specs.Fits.{IsFormVar}
use Rattle.infer_laws.specs.Final.{final, IsForExplicit}
use Rattle.infer_closing.proofs.Trees.{occurs_through, standing_in, at_standing}
use Rattle.infer_checks.specs.Ending.{AreFound, AreOwn}

-- ---- Lists

pub all_from_get : {A : Type 0} (P : A → Type 0) (xs : List A) → ((i : ℕ) (x : A) → slice_get xs i ≡ Some x → P x) → AllByRecursion P xs
all_from_get P [] h = tt
all_from_get P (x ∷ xs) h = (h zero x refl, all_from_get P xs (λ i y e. h (suc i) y e))

pub at_get : {A : Type 0} (P : A → Type 0) (xs : List A) (i : ℕ) (x : A) → AllByRecursion P xs → slice_get xs i ≡ Some x → P x
at_get P [] i x h e = cc
at_get P (y ∷ xs) zero x h e = let same : y ≡ x = cc in subst P same h.0
at_get P (y ∷ xs) (suc i) x h e = at_get P xs i x h.1 e

pub record IsAt {A : Type 0} (xs : List A) (i : ℕ) : Type 0 where
  pub item : A
  pub is : slice_get xs i ≡ Some item

pub item_at : {A : Type 0} (xs : List A) (i : ℕ) → i < length xs → IsAt xs i
item_at [] i l = absurd (omega arith)
item_at (x ∷ xs) zero l = record { item = x; is = refl }
item_at (x ∷ xs) (suc i) l = let r = item_at xs i (omega arith) in record { item = r.item; is = r.is }

pub get_within : {A : Type 0} (xs : List A) (i : ℕ) (x : A) → slice_get xs i ≡ Some x → i < length xs
get_within [] i x e = cc
get_within (y ∷ xs) zero x e = omega arith
get_within (y ∷ xs) (suc i) x e = let r = get_within xs i x e in omega arith

-- ---- Marks

-- a substitution that keeps the marks of the variables in a type keeps that the type admits equality
pub admits_vars : (names : List TypeName) (f : Substitution) (t : Tree) → AllVars (λ v. v.eq ≡ true → admits names (f v) ≡ true) t → admits names t ≡ true → admits names (inst f t) ≡ true
admits_vars names f (Variable v) h e = h e
admits_vars names f (App c ts) h e =
    by_mono (head_equality names c) (admits names ts) (admits names (inst f ts)) (admits_vars names f ts h) e
admits_vars names f NoParts h e = refl
admits_vars names f (Part t ts) h e =
    let b = and_both (admits names t) (admits names ts) e in
    ap (λ w. w && admits names (inst f ts)) (admits_vars names f t h.0 b.0) ∙ admits_vars names f ts h.1 b.1

abbrev pub hit : List Rename → ℕ → Option Rename
hit renames n = find (λ q. nat_eq q.from n) renames

-- what a search finds is one of the list, with this number
pub record IsOneFound (renames : List Rename) (n : ℕ) (r : Rename) : Type 0 where
  pub at : ℕ
  pub is : slice_get renames at ≡ Some r
  pub number : r.from ≡ n

pub one_found : (renames : List Rename) (n : ℕ) (r : Rename) → hit renames n ≡ Some r → IsOneFound renames n r
one_found [] n r e = cc
one_found (q ∷ renames) n r e = by (nat_eq q.from n) refl e (λ k. one_found renames n r k)
  where
    by : (b : Bool) → nat_eq q.from n ≡ b → cond b (Some q) (hit renames n) ≡ Some r → (hit renames n ≡ Some r → IsOneFound renames n r) → IsOneFound (q ∷ renames) n r
    by true z k rest =
        let same : q ≡ r = cc in
        record { at = zero; is = ap Some same; number = ap (λ (x : Rename). x.from) (sym same) ∙ eqb-true q.from n z }
    by false z k rest = let o = rest k in record { at = suc o.at; is = o.is; number = o.number }

module _ (p : Bare) (s : Unknowns) (starts : Starts) (renames : List Rename) (forms : AreForms s.types) (bindings : AreBindings s.types s.subst.bound) (laid : AreLaidOut p s.types starts) where
  abbrev m : Substitution
  m = meant s.types s.subst.bound

  abbrev f : Substitution
  f = final s.types s.subst.bound renames

  abbrev ren : Substitution
  ren = renamed renames

  pub solved : IsSolved s.types s.subst.bound
  solved =
      record { numbered = forms.numbered; named = forms.named; within = bindings.within; acyclic = bindings.acyclic }

  pub explicit_known : (u : ℕ) → u < length p.tyvars → IsFormVar s.types (explicit p.tyvars u)
  explicit_known u l = (starts.explicit + u, laid.explicit_ones u l)

  -- a variable of a number is the one variable of that number
  pub one_var : (v w : TyVar) → IsFormVar s.types v → IsFormVar s.types w → v.num ≡ w.num → v ≡ w
  one_var v w k l e = forms.named k.0 l.0 v w k.1 l.1 e

  -- the variable that an explicit one stands for is one of the forms
  pub var_known : (u : ℕ) (w : TyVar) → u < length p.tyvars → m (explicit p.tyvars u) ≡ Variable w → IsFormVar s.types w
  var_known u w l e =
      subst (λ (t : Tree). AllVars (IsFormVar s.types) t) e (meant_known s.types s.subst.bound solved (explicit p.tyvars u) (explicit_known u l))

  module _ (found : AreFound p m renames) (count : length renames ≡ length p.tyvars) where
    there : (u : ℕ) (r : Rename) → slice_get renames u ≡ Some r → u < length p.tyvars
    there u r e = subst (λ n. u < n) count (get_within renames u r e)

    pub explicit_stay : (u : ℕ) → u < length p.tyvars → f (explicit p.tyvars u) ≡ Variable (explicit p.tyvars u)
    explicit_stay u l =
        let i = item_at renames u (subst (λ n. u < n) (sym count) l) in
        let q = found.each u i.item i.is in
        ap (inst ren) q.stands
        ∙ ap (λ n. Variable (renamed_as q.var (led_to (hit renames n)))) q.number
        ∙ ap (λ o. Variable (renamed_as q.var (led_to o))) (found.first u i.item i.is)
        ∙ ap Variable q.to

    pub all_for_explicit : AllByRecursion (IsForExplicit p s.types s.subst.bound) renames
    all_for_explicit =
        all_from_get (IsForExplicit p s.types s.subst.bound) renames (λ u r e. let q = found.each u r e in record { number = u; there = there u r e; to = q.to; from = q.var; stands = q.stands; is = q.number })

    to_known : (u : ℕ) (r : Rename) → slice_get renames u ≡ Some r → IsFormVar s.types r.to
    to_known u r e =
        subst (λ v. IsFormVar s.types v) (sym (found.each u r e).to) (explicit_known u (there u r e))

    pub are_renames : AreRenames s.types renames
    are_renames =
        record {
          named = all_from_get (λ r. (i : ℕ) (v : TyVar) → slice_get s.types i ≡ Some (Var v) → v.num ≡ r.to.num → v ≡ r.to) renames (λ u r e i v q n. one_var v r.to (i, q) (to_known u r e) n);
          agree = all_from_get (λ r. AllByRecursion (λ q. q.to.num ≡ r.to.num → q.to ≡ r.to) renames) renames (λ u r e. all_from_get (λ q. q.to.num ≡ r.to.num → q.to ≡ r.to) renames (λ k q z n. one_var q.to r.to (to_known k q z) (to_known u r e) n));
        }

    -- a rename keeps the mark
    rename_keeps : (names : List TypeName) (w : TyVar) → IsFormVar s.types w → w.eq ≡ true → admits names (ren w) ≡ true
    rename_keeps names w k e = by (hit renames w.num) refl
      where
        by : (o : Option Rename) → hit renames w.num ≡ o → (renamed_as w (led_to o)).eq ≡ true
        by None z = e
        by (Some r) z =
            let h = one_found renames w.num r z in
            let q = found.each h.at r h.is in
            let same = one_var q.var w (var_known h.at q.var (there h.at r h.is) q.stands) k (q.number ∙ h.number) in
            sym q.mark ∙ ap (λ (v : TyVar). v.eq) same ∙ e

    pub ending_solves : (names : List TypeName) → IsState names s → IsSolution names s f
    ending_solves names state =
        record {
          marks = λ i v q e. admits_vars names ren (m v) (vars_keep names (m v) (meant_known s.types s.subst.bound solved v (i, q))) (state.marks i v q e);
          solves = λ i v t q e. ap (inst ren) (meant_solves s.types s.subst.bound bindings.acyclic i v t q e) ∙ inst_inst ren m (tree s.types t.0);
        }
      where
        vars_keep : (names : List TypeName) (t : Tree) → AllVars (IsFormVar s.types) t → AllVars (λ v. v.eq ≡ true → admits names (ren v) ≡ true) t
        vars_keep names (Variable v) h = rename_keeps names v h
        vars_keep names (App c ts) h = vars_keep names ts h
        vars_keep names NoParts h = tt
        vars_keep names (Part t ts) h = (vars_keep names t h.0, vars_keep names ts h.1)

  -- ---- What other solutions make of what comes in the place of explicit type variables

  module _ (all : AllByRecursion (IsForExplicit p s.types s.subst.bound) renames) (g : Substitution) (solves : Solves s.types s.subst.bound g) (stay : (u : ℕ) → u < length p.tyvars → g (explicit p.tyvars u) ≡ Variable (explicit p.tyvars u)) where
    led_back : (w : TyVar) → IsFormVar s.types w → (u : ℕ) → u < length p.tyvars → occurs u (ren w) ≡ true → g w ≡ Variable (explicit p.tyvars u)
    led_back w k u l e = by (hit renames w.num) refl (eqb-true u (renamed_as w (led_to (hit renames w.num))).num e)
      where
        by : (o : Option Rename) → hit renames w.num ≡ o → u ≡ (renamed_as w (led_to o)).num → g w ≡ Variable (explicit p.tyvars u)
        by None z n = ap g (one_var w (explicit p.tyvars u) k (explicit_known u l) (sym n)) ∙ stay u l
        by (Some r) z n =
            let h = one_found renames w.num r z in
            let q = at_get (IsForExplicit p s.types s.subst.bound) renames h.at r all h.is in
            let number : u ≡ q.number = n ∙ ap (λ (v : TyVar). v.num) q.to in
            let same = one_var q.from w (var_known q.number q.from q.there q.stands) k (q.is ∙ h.number) in
            ap g (sym same)
            ∙ sym (meant_through s.types s.subst.bound solved g solves (explicit p.tyvars q.number) (explicit_known q.number q.there) ∙ ap (inst g) q.stands)
            ∙ stay q.number q.there
            ∙ ap (λ k. Variable (explicit p.tyvars k)) (sym number)

    -- where an explicit type variable stands in the end, it stands in each solution that leaves these variables
    pub stands_still : (v : TyVar) → IsFormVar s.types v → (u : ℕ) → u < length p.tyvars → occurs u (f v) ≡ true → occurs u (g v) ≡ true
    stands_still v k u l e =
        let r = standing_in ren u (m v) e in
        let known = at_standing (IsFormVar s.types) (m v) r.0 (meant_known s.types s.subst.bound solved v k) r.1 in
        let is = led_back r.0 known u l r.2 in
        ap (occurs u) (meant_through s.types s.subst.bound solved g solves v k)
        ∙ occurs_through g u r.0 (m v) r.1 (ap (occurs u) is ∙ eq-eqb u u refl)

  -- a typing's solution leaves each explicit type variable one variable of its own
  pub solution_owns : (names : List TypeName) (g : Substitution) → IsState names s → IsSolution names s g → ((u : ℕ) → u < length p.tyvars → g (explicit p.tyvars u) ≡ Variable (explicit p.tyvars u)) → AreOwn p m
  solution_owns names g state solution stay =
      record {
        var = λ u. variable_of (m (explicit p.tyvars u));
        stands = λ u l. is_variable (m (explicit p.tyvars u)) (explicit p.tyvars u) (through u l);
        marks = λ u l. marks_of u l (is_variable (m (explicit p.tyvars u)) (explicit p.tyvars u) (through u l));
        apart = λ u v l k e. apart_of u v l k e (is_variable (m (explicit p.tyvars u)) (explicit p.tyvars u) (through u l)) (is_variable (m (explicit p.tyvars v)) (explicit p.tyvars v) (through v k));
      }
    where
      variable_of : Tree → TyVar
      variable_of (Variable v) = v
      variable_of (App c ts) = explicit p.tyvars 0
      variable_of NoParts = explicit p.tyvars 0
      variable_of (Part t ts) = explicit p.tyvars 0

      through : (u : ℕ) → u < length p.tyvars → inst g (m (explicit p.tyvars u)) ≡ Variable (explicit p.tyvars u)
      through u l =
          sym (meant_through s.types s.subst.bound solved g solution.solves (explicit p.tyvars u) (explicit_known u l)) ∙ stay u l

      is_variable : (t : Tree) (v : TyVar) → inst g t ≡ Variable v → t ≡ Variable (variable_of t)
      is_variable (Variable w) v e = refl
      is_variable (App c ts) v e = cc
      is_variable NoParts v e = cc
      is_variable (Part t ts) v e = cc

      goes : (u : ℕ) (w : TyVar) → u < length p.tyvars → m (explicit p.tyvars u) ≡ Variable w → g w ≡ Variable (explicit p.tyvars u)
      goes u w l e = sym (ap (inst g) e) ∙ through u l

      bools : (a b : Bool) → (a ≡ true → b ≡ true) → (b ≡ true → a ≡ true) → a ≡ b
      bools true b h k = sym (h refl)
      bools false true h k = k refl
      bools false false h k = refl

      marks_of : (u : ℕ) → u < length p.tyvars → {w : TyVar} → m (explicit p.tyvars u) ≡ Variable w → w.eq ≡ (explicit p.tyvars u).eq
      marks_of u l {w} e =
          bools
          w.eq
          (explicit p.tyvars u).eq
          (λ k. let known = var_known u w l e in sym (ap (admits names) (goes u w l e)) ∙ solution.marks known.0 w known.1 k)
          (λ k. sym (ap (admits names) e) ∙ state.marks (starts.explicit + u) (explicit p.tyvars u) (laid.explicit_ones u l) k)

      apart_of : (u v : ℕ) → u < length p.tyvars → v < length p.tyvars → {w x : TyVar} → w.num ≡ x.num → m (explicit p.tyvars u) ≡ Variable w → m (explicit p.tyvars v) ≡ Variable x → u ≡ v
      apart_of u v l k {w} {x} e a b =
          let same = one_var w x (var_known u w l a) (var_known v x k b) e in
          let both : Variable (explicit p.tyvars u) ≡ Variable (explicit p.tyvars v) = sym (goes u w l a) ∙ ap g same ∙ goes v x k b in
          let vars : explicit p.tyvars u ≡ explicit p.tyvars v = cc in
          ap (λ (y : TyVar). y.num) vars
