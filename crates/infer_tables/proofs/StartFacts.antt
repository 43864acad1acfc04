-- One more variable at the end of the forms.
use Rattle.std.proofs.Common.{◌≡◌, ℕ, ◌+◌, ◌<◌, ◌≤◌, true, false, List, [], ◌∷◌, ◌++◌, length, Some, refl, sym, ap, ◌∙◌, arith, subst, ◌^◌, length-append, ◌⊎◌, inl, inr}
use Rattle.std.specs.Prelude.{slice_get}
use Rattle.std.proofs.lemmas.Bool.{cases_lt}
use Rattle.sml_tree.specs.declared.bare.Bare.{Bare}
use Rattle.sml_types.specs.declared.types.Ty.{Ty}
use Rattle.sml_types.specs.declared.types.TyVar.{TyVar}
use Rattle.sml_types.specs.declared.types.TyForm.{TyForm}
use Rattle.sml_types.specs.declared.types.TyForm.TheVariants.{Var}
use Rattle.sml_types.specs.declared.scheme.Scheme.{Scheme}
use Rattle.sml_types.specs.declared.tables.Tables.{Tables}
use Rattle.sml_types.specs.TypeExps.{explicit}
use Rattle.sml_types.specs.Typing.{library_param}
use Rattle.infer_parts.specs.LibraryRows.{library_forms, library_rows}
use Rattle.infer_state.specs.Variables.{first_node, first_name, node_var}
use Rattle.sml_unify.specs.Steps.{IsLonger, AreBelow}
use Rattle.infer_tables.specs.Starts.{AreAdded, AreMarked, AreInRow, AreExplicitForms, IsStarted}
use Rattle.infer_tables.proofs.Lists.{get_more, get_last, get_either, longer_same, longer_then, longer_by_one}

var_eq : (v w : TyVar) → Var v ≡ Var w → v ≡ w
var_eq v w e = cc

up_to : (i count : ℕ) → i < count + 1 → (i < count) ⊎ (i ≡ count)
up_to i count l = choose (cases_lt i count)
  where
    choose : (i < count) ⊎ (count ≤ i) → (i < count) ⊎ (i ≡ count)
    choose (inl k) = inl k
    choose (inr k) = inr (omega arith)

-- ---- Unmarked variables

pub none_added : (old : List TyForm) (first start : ℕ) → AreBelow old first → AreAdded old first 0 start old
none_added old first start h = record { longer = longer_same old; added = λ i l. absurd (omega arith); below = λ i v e. let l = h i v e in omega arith; marked = λ i v e q. e }

pub one_added : (old forms after : List TyForm) (first count start : ℕ) → AreAdded old first count start forms → length forms ≡ start + count → after ≡ forms ++ Var (record { num = first + count; eq = false }) ∷ [] → AreAdded old first (count + 1) start after
one_added old forms after first count start h c e =
    subst
    (λ fs. AreAdded old first (count + 1) start fs)
    (sym e)
    (record {
      longer = longer_then old forms (forms ++ Var new ∷ []) h.longer (longer_by_one forms (Var new));
      added = λ i l. here i (up_to i count l);
      below = λ i v q. under i v (get_either forms (Var new) i (Var v) q);
      marked = λ i v q m. old_one i v m (get_either forms (Var new) i (Var v) q);
    })
  where
    new : TyVar
    new = record { num = first + count; eq = false }

    here : (i : ℕ) → (i < count) ⊎ (i ≡ count) → slice_get (forms ++ Var new ∷ []) (start + i) ≡ Some (Var (record { num = first + i; eq = false }))
    here i (inl l) = get_more forms (Var new ∷ []) (start + i) (Var (record { num = first + i; eq = false })) (h.added i l)
    here i (inr s) =
        let place : start + i ≡ length forms = omega arith in
        ap (slice_get (forms ++ Var new ∷ [])) place ∙ get_last forms (Var new) ∙ ap (λ k. Some (Var (record { num = first + k; eq = false }))) (sym s)

    under : (i : ℕ) (v : TyVar) → (slice_get forms i ≡ Some (Var v)) ⊎ ((i ≡ length forms) × (Var v ≡ Var new)) → v.num < first + (count + 1)
    under i v (inl q) = let l = h.below i v q in omega arith
    under i v (inr q) = let n : v.num ≡ first + count = ap (λ w. w.num) (var_eq v new q.1) in omega arith

    old_one : (i : ℕ) (v : TyVar) → v.eq ≡ true → (slice_get forms i ≡ Some (Var v)) ⊎ ((i ≡ length forms) × (Var v ≡ Var new)) → slice_get old i ≡ Some (Var v)
    old_one i v m (inl q) = h.marked i v q m
    old_one i v m (inr q) = let n : v.eq ≡ false = ap (λ w. w.eq) (var_eq v new q.1) in let z : true ≡ false = sym m ∙ n in cc

-- ---- Explicit type variables

pub record AreExplicitSoFar (p : Bare) (old : List TyForm) (count : ℕ) (forms : List TyForm) (stands : List Ty) : Type 0 where
  pub longer : IsLonger old forms
  pub size : length forms ≡ length old + count
  pub row : AreInRow (length old) stands
  pub count_is : length stands ≡ count
  pub each : AreExplicitForms p (length old) count forms
  pub vars : (i : ℕ) (v : TyVar) → slice_get forms i ≡ Some (Var v) → (v ≡ record { num = length p.tyvars; eq = false }) ⊎ (v.num < count)

pub none_explicit : (p : Bare) (old : List TyForm) → ((i : ℕ) (v : TyVar) → slice_get old i ≡ Some (Var v) → v ≡ record { num = length p.tyvars; eq = false }) → AreExplicitSoFar p old 0 old []
none_explicit p old h = record { longer = longer_same old; size = omega arith; row = λ u t e. cc; count_is = refl; each = λ u l. absurd (omega arith); vars = λ i v e. inl (h i v e) }

pub one_explicit : (p : Bare) (old forms after : List TyForm) (count : ℕ) (stands stands2 : List Ty) (t : Ty) → AreExplicitSoFar p old count forms stands → t.0 ≡ length forms → after ≡ forms ++ Var (explicit p.tyvars count) ∷ [] → stands2 ≡ stands ++ t ∷ [] → AreExplicitSoFar p old (count + 1) after stands2
one_explicit p old forms after count stands stands2 t h e q r =
    subst
    (λ fs. AreExplicitSoFar p old (count + 1) fs stands2)
    (sym q)
    (subst
    (λ ss. AreExplicitSoFar p old (count + 1) (forms ++ Var new ∷ []) ss)
    (sym r)
    (record {
      longer = longer_then old forms (forms ++ Var new ∷ []) h.longer (longer_by_one forms (Var new));
      size = let s = h.size in omega (arith, length-append forms (Var new ∷ []));
      row = λ u x k. in_row u x (get_either stands t u x k);
      count_is = let s = h.count_is in omega (arith, length-append stands (t ∷ []));
      each = λ u l. here u (up_to u count l);
      vars = λ i v k. either_var i v (get_either forms (Var new) i (Var v) k);
    }))
  where
    new : TyVar
    new = explicit p.tyvars count

    in_row : (u : ℕ) (x : Ty) → (slice_get stands u ≡ Some x) ⊎ ((u ≡ length stands) × (x ≡ t)) → x.0 ≡ length old + u
    in_row u x (inl k) = h.row u x k
    in_row u x (inr k) = let s = h.size in let c = h.count_is in ap (λ y. y.0) k.1 ∙ e ∙ omega (arith, k.0)

    here : (u : ℕ) → (u < count) ⊎ (u ≡ count) → slice_get (forms ++ Var new ∷ []) (length old + u) ≡ Some (Var (explicit p.tyvars u))
    here u (inl l) = get_more forms (Var new ∷ []) (length old + u) (Var (explicit p.tyvars u)) (h.each u l)
    here u (inr s) =
        let k = h.size in
        let place : length old + u ≡ length forms = omega arith in
        ap (slice_get (forms ++ Var new ∷ [])) place ∙ get_last forms (Var new) ∙ ap (λ w. Some (Var (explicit p.tyvars w))) (sym s)

    either_var : (i : ℕ) (v : TyVar) → (slice_get forms i ≡ Some (Var v)) ⊎ ((i ≡ length forms) × (Var v ≡ Var new)) → (v ≡ record { num = length p.tyvars; eq = false }) ⊎ (v.num < count + 1)
    either_var i v (inl k) = widen (h.vars i v k)
      where
        widen : (v ≡ record { num = length p.tyvars; eq = false }) ⊎ (v.num < count) → (v ≡ record { num = length p.tyvars; eq = false }) ⊎ (v.num < count + 1)
        widen (inl s) = inl s
        widen (inr l) = inr (omega arith)
    either_var i v (inr k) = let n : v.num ≡ count = ap (λ w. w.num) (var_eq v new k.1) in inr (omega arith)

-- ---- The whole start

pub started : (p : Bare) (param nodes names first_n first_x next explicit_at n x : ℕ) (f0 f1 f2 f3 : List TyForm) (tables : Tables) (schemes : List Scheme) (stands : List Ty) → param ≡ length p.tyvars → nodes ≡ length p.nodes → names ≡ length p.names → first_n ≡ param + 1 → first_x ≡ first_n + nodes → next ≡ first_x + names → f0 ≡ library_forms (record { num = param; eq = false }) → tables.names ≡ library_rows (record { num = param; eq = false }) → schemes ≡ [] → explicit_at ≡ length f0 → explicit_at + param < 2 ^ 32 → AreInRow (length f0) stands → length stands ≡ length p.tyvars → AreExplicitForms p (length f0) (length p.tyvars) f1 → IsLonger f0 f1 → AreMarked p f1 → AreAdded f1 first_n nodes n f2 → n + nodes < 2 ^ 32 → AreAdded f2 first_x names x f3 → x + names < 2 ^ 32 → IsStarted p f3 (record { tables = tables; abbreviations = schemes; stands = stands }) (record { explicit = explicit_at; nodes = n; names = x }) next
started p param nodes names first_n first_x next explicit_at n x f0 f1 f2 f3 tables schemes stands hp hn hx ef ex en lib rows none at few row count forms longer marked a1 few_n a2 few_x =
    let param_is : record { num = param; eq = false } ≡ library_param p = ap (λ k. record { num = k; eq = false }) hp in
    record {
      library = subst (λ fs. IsLonger fs f3) (lib ∙ ap library_forms param_is) (longer_then f0 f1 f3 longer (longer_then f1 f2 f3 a1.longer a2.longer));
      names = rows ∙ ap library_rows param_is;
      none = none;
      stands = count;
      row = subst (λ k. AreInRow k stands) (sym at) row;
      laid =
          record {
            explicit_ones = λ u l. ap (λ k. slice_get f3 (k + u)) at ∙ a2.longer.keeps (length f0 + u) (Var (explicit p.tyvars u)) (a1.longer.keeps (length f0 + u) (Var (explicit p.tyvars u)) (forms u l));
            of_nodes = λ i l.
                let num : first_n + i ≡ first_node p + i = omega arith in
                a2.longer.keeps (n + i) (Var (node_var p i)) (a1.added i (omega arith) ∙ ap (λ k. Some (Var (record { num = k; eq = false }))) num);
            of_names = λ i l.
                let num : first_x + i ≡ first_name p + i = omega arith in
                a2.added i (omega arith) ∙ ap (λ k. Some (Var (record { num = k; eq = false }))) num;
            few = omega arith;
            few_nodes = omega arith;
            few_names = omega arith;
          };
      below = λ i v e. let l = a2.below i v e in omega arith;
      marked = λ i v e m. marked i v (a1.marked i v (a2.marked i v e m) m) m;
      counter = omega arith;
    }
