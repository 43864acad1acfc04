-- Copies of forms mean what the forms mean, with renamed variables.
use Rattle.std.proofs.Common.{◌≡◌, ℕ, zero, suc, ◌+◌, ◌<◌, ◌≤◌, Bool, true, false, List, [], ◌∷◌, ◌++◌, length, Option, Some, None, refl, sym, ap, ◌∙◌, subst, arith, map, nat_eq, inl, inr, length-append, Result, Ok, Err, IfOk, OnOk, drop, get_or}
use Rattle.std.specs.Prelude.{slice_get, ◌⊎◌}
use Rattle.std.specs.List.{AllByRecursion, find, position_or_len}
use Rattle.std.proofs.lemmas.List.Folds.{find_at}
use Rattle.std.proofs.lemmas.List.{length-map}
use Rattle.std.proofs.lemmas.Bool.{eqb-true, eq-eqb}
use Rattle.std.proofs.Math.Seq.{drop-cons}
use Rattle.smlc_base.specs.declared.memory.NoMemory.{NoMemory}
use Rattle.sml_types.specs.declared.types.Ty.{Ty}
use Rattle.sml_types.specs.declared.types.TyVar.{TyVar}
use Rattle.sml_types.specs.declared.types.Field.{Field}
use Rattle.sml_types.specs.declared.types.TyForm.{TyForm}
use Rattle.sml_types.specs.declared.types.TyForm.TheVariants.{Var, Fields, Arrow, Named}
use Rattle.sml_types.specs.declared.tables.TypeName.{TypeName}
use Rattle.sml_types.specs.Tree.{Tree, App, FieldsHead, NameHead, ArrowHead, inst}
use Rattle.sml_types.specs.Forms.{tree, parts_of, listed, form_tree, IsNumbered, IsNamedOnce, IsNamedAs, IsApplied}
use Rattle.sml_types.proofs.FormFacts.{all_mono, tree_more, tree_new}
use Rattle.sml_unify.specs.declared.resolve.Rename.{Rename}
use Rattle.sml_unify.specs.declared.order.Headed.{Headed}
use Rattle.sml_unify.specs.Links.{IsLinked}
use Rattle.sml_unify.specs.Steps.{logged}
use Rattle.sml_unify.specs.Orders.{reached, AreReady}
use Rattle.sml_unify.specs.Resolve.{led_to, renamed_as, renamed, AreRenames, IsRenamedTo, AreVarsOf}
use Rattle.sml_unify.specs.Copies.{copied_as, copied_ty, copied_fields, copied_form, AreThere, HasCopy, HavePartsCopies, IsMade, IsCopyOf, found, made, IsGrown, AreFrom, IsClosedFrom, IsMeantAs, AreMeant, IsAdded, AreCopied}
use Rattle.sml_unify.proofs.Extends.{more_cases, more_keeps}
use Rattle.sml_unify.proofs.Visits.{logged_cases}

some_eq : {A : Type 0} (x y : A) → Some x ≡ Some y → x ≡ y
some_eq x y e = cc

all_at : {A : Type 0} (P : A → Type 0) (xs : List A) (i : ℕ) (x : A) → AllByRecursion P xs → slice_get xs i ≡ Some x → P x
all_at P [] i x h e = cc
all_at P (y ∷ xs) zero x h e = let same : y ≡ x = cc in subst P same h.0
all_at P (y ∷ xs) (suc i) x h e = all_at P xs i x h.1 e

all_mapped : (P : ℕ → Type 0) (g : ℕ → ℕ) (is : List ℕ) → AllByRecursion (λ c. P (g c)) is → AllByRecursion P (map g is)
all_mapped P g [] h = tt
all_mapped P g (i ∷ is) h = (h.0, all_mapped P g is h.1)

both_all : {A : Type 0} (P Q R : A → Type 0) (is : List A) → ((i : A) → P i → Q i → R i) → AllByRecursion P is → AllByRecursion Q is → AllByRecursion R is
both_all P Q R [] f p q = tt
both_all P Q R (i ∷ is) f p q = (f i p.0 q.0, both_all P Q R is f p.1 q.1)

found_in : (P : Rename → Type 0) (test : Rename → Bool) (renames : List Rename) (r : Rename) → AllByRecursion P renames → find test renames ≡ Some r → P r
found_in P test renames r h e = all_at P renames (position_or_len test renames) r h (sym (find_at test renames) ∙ e)

-- ---- The form of the copies of a form's parts

abbrev place : ℕ → Ty
place i = record { 0 = i }

abbrev copied : (ℕ → Option Ty) → ℕ → ℕ
copied copies i = (copied_ty copies (place i)).0

copied_at : (copies : ℕ → Option Ty) (c : ℕ) (t : Ty) → copies c ≡ Some t → copied copies c ≡ t.0
copied_at copies c t e = ap (λ o. (copied_as (place c) o).0) e

field_parts : (copies : ℕ → Option Ty) (fields : List Field) → map (λ f. f.ty.0) (copied_fields copies fields) ≡ map (copied copies) (map (λ f. f.ty.0) fields)
field_parts copies [] = refl
field_parts copies (f ∷ fields) = ap (λ is. copied copies f.ty.0 ∷ is) (field_parts copies fields)

field_labs : (copies : ℕ → Option Ty) (fields : List Field) → map (λ f. f.lab) (copied_fields copies fields) ≡ map (λ f. f.lab) fields
field_labs copies [] = refl
field_labs copies (f ∷ fields) = ap (λ ls. f.lab ∷ ls) (field_labs copies fields)

arg_parts : (copies : ℕ → Option Ty) (args : List Ty) → map (λ a. a.0) (map (λ a. copied_ty copies a) args) ≡ map (copied copies) (map (λ a. a.0) args)
arg_parts copies [] = refl
arg_parts copies (a ∷ args) = ap (λ is. copied copies a.0 ∷ is) (arg_parts copies args)

copied_parts : (copies : ℕ → Option Ty) (renames : List Rename) (form : TyForm) → parts_of (copied_form copies renames form) ≡ map (copied copies) (parts_of form)
copied_parts copies renames (Var v) = refl
copied_parts copies renames (Fields fields) = field_parts copies fields
copied_parts copies renames (Arrow a b) = refl
copied_parts copies renames (Named n args) = arg_parts copies args

listed_copied : (f : TyVar → Tree) (g : ℕ → ℕ) (p q : ℕ → Tree) (is : List ℕ) → AllByRecursion (λ c. q (g c) ≡ inst f (p c)) is → listed q (map g is) ≡ inst f (listed p is)
listed_copied f g p q [] h = refl
listed_copied f g p q (i ∷ is) h = let l = h.0 in let r = listed_copied f g p q is h.1 in cc

copied_tree : (copies : ℕ → Option Ty) (renames : List Rename) (p q : ℕ → Tree) (form : TyForm) → AllByRecursion (λ c. q (copied copies c) ≡ inst (renamed renames) (p c)) (parts_of form) → form_tree q (copied_form copies renames form) ≡ inst (renamed renames) (form_tree p form)
copied_tree copies renames p q (Var v) h = refl
copied_tree copies renames p q (Fields fields) h =
    ap (λ ls. App (FieldsHead ls) (listed q (map (λ g. g.ty.0) (copied_fields copies fields)))) (field_labs copies fields)
    ∙ ap (λ is. App (FieldsHead (map (λ g. g.lab) fields)) (listed q is)) (field_parts copies fields)
    ∙ ap (App (FieldsHead (map (λ g. g.lab) fields))) (listed_copied (renamed renames) (copied copies) p q (map (λ g. g.ty.0) fields) h)
copied_tree copies renames p q (Arrow a b) h = ap (App ArrowHead) (listed_copied (renamed renames) (copied copies) p q (a.0 ∷ b.0 ∷ []) h)
copied_tree copies renames p q (Named m args) h =
    ap (λ is. App (NameHead m) (listed q is)) (arg_parts copies args)
    ∙ ap (App (NameHead m)) (listed_copied (renamed renames) (copied copies) p q (map (λ a. a.0) args) h)

-- ---- It may be put last

pub parts_within : (forms : List TyForm) (copies : ℕ → Option Ty) (renames : List Rename) (at : ℕ) (form : TyForm) → IsNumbered forms → at < length forms → slice_get forms at ≡ Some form → AreThere forms copies → AllByRecursion (λ c. c < length forms) (parts_of (copied_form copies renames form))
parts_within forms copies renames at form n w e h =
    subst
    (AllByRecursion (λ c. c < length forms))
    (sym (copied_parts copies renames form))
    (all_mapped (λ c. c < length forms) (copied copies) (parts_of form) (all_mono (λ c. c < at) (λ c. copied copies c < length forms) (parts_of form) (λ c l. one c l (copies c) refl) (n at form e)))
  where
    one : (c : ℕ) → c < at → (o : Option Ty) → copies c ≡ o → (copied_as (place c) o).0 < length forms
    one c l None q = omega arith
    one c l (Some t) q = h c t q

pub named_as : (forms : List TyForm) (copies : ℕ → Option Ty) (renames : List Rename) (at : ℕ) (form : TyForm) → IsNamedOnce forms → AreRenames forms renames → slice_get forms at ≡ Some form → IsNamedAs forms (copied_form copies renames form)
named_as forms copies renames at (Var x) o h e i v w q m n = go (find (λ r. nat_eq r.from x.num) renames) refl
  where
    go : (f : Option Rename) → find (λ r. nat_eq r.from x.num) renames ≡ f → v ≡ w
    go None k =
        let same : x ≡ w = sym (ap (λ f. renamed_as x (led_to f)) k) ∙ cc in
        o i at v w q (e ∙ ap (λ (u : TyVar). Some (Var u)) same) n
    go (Some r) k =
        let same : r.to ≡ w = sym (ap (λ f. renamed_as x (led_to f)) k) ∙ cc in
        found_in (λ s. (j : ℕ) (u : TyVar) → slice_get forms j ≡ Some (Var u) → u.num ≡ s.to.num → u ≡ s.to) (λ s. nat_eq s.from x.num) renames r h.named k i v q (n ∙ ap (λ (u : TyVar). u.num) (sym same)) ∙ same
named_as forms copies renames at (Fields fields) o h e i v w q m n = cc
named_as forms copies renames at (Arrow a b) o h e i v w q m n = cc
named_as forms copies renames at (Named k args) o h e i v w q m n = cc

pub made_of : (forms after : List TyForm) (copies : ℕ → Option Ty) (renames : List Rename) (at : ℕ) (form new : TyForm) (r : Result Ty NoMemory) → slice_get forms at ≡ Some form → new ≡ copied_form copies renames form → IfOk r (λ t. (t.0 ≡ length forms) × (after ≡ forms ++ new ∷ [])) → IfOk r (λ t. IsMade forms copies renames at after t)
made_of forms after copies renames at form new (Ok t) e n h =
    record { form = form; here = e; last = h.0; is = h.1 ∙ ap (λ f. forms ++ f ∷ []) n }
made_of forms after copies renames at form new (Err x) e n h = tt

pub on_ok : {E : Type 0} (r : Result Unit E) (P Q : Type 0) → (P → Q) → OnOk r P → OnOk r Q
on_ok (Ok u) P Q f h = f h
on_ok (Err e) P Q f h = h

-- ---- Forms that go on

renamed_all : (renames : List Rename) → AllByRecursion (λ r. IsRenamedTo r.to renames) renames
renamed_all renames = go renames (λ v h. h)
  where
    go : (rs : List Rename) → ((v : TyVar) → IsRenamedTo v rs → IsRenamedTo v renames) → AllByRecursion (λ r. IsRenamedTo r.to renames) rs
    go [] f = tt
    go (r ∷ rs) f = (f r.to (inl refl), go rs (λ v h. f v (inr h)))

pub grown_same : (renames : List Rename) (forms after : List TyForm) → after ≡ forms → IsGrown renames forms after
grown_same renames forms after e =
    subst
    (IsGrown renames forms)
    (sym e)
    (record {
      longer = record { count = omega arith; keeps = λ i f q. q; trees = λ i l. refl };
      vars = λ i v q. inl (i, q);
      applied = λ names h. h;
    })

pub grown_then : (renames : List Rename) (a b c : List TyForm) → IsGrown renames a b → IsGrown renames b c → IsGrown renames a c
grown_then renames a b c g h =
    record {
      longer =
          record {
            count = let x = g.longer.count in let y = h.longer.count in omega arith;
            keeps = λ i f e. h.longer.keeps i f (g.longer.keeps i f e);
            trees = λ i e. h.longer.trees i (let x = g.longer.count in omega arith) ∙ g.longer.trees i e;
          };
      vars = λ i v q. from v (h.vars i v q);
      applied = λ names k. h.applied names (g.applied names k);
    }
  where
    from : (v : TyVar) → ((j : ℕ) × (slice_get b j ≡ Some (Var v))) ⊎ IsRenamedTo v renames → ((j : ℕ) × (slice_get a j ≡ Some (Var v))) ⊎ IsRenamedTo v renames
    from v (inl o) = g.vars o.0 v o.1
    from v (inr r) = inr r

-- what the renames lead to is named as the new forms are
pub renames_kept : (renames : List Rename) (forms after : List TyForm) → AreVarsOf forms renames after → AreRenames forms renames → AreRenames after renames
renames_kept renames forms after vars h =
    record {
      named = both_all (λ r. (i : ℕ) (v : TyVar) → slice_get forms i ≡ Some (Var v) → v.num ≡ r.to.num → v ≡ r.to) (λ r. AllByRecursion (λ q. q.to.num ≡ r.to.num → q.to ≡ r.to) renames) (λ r. (i : ℕ) (v : TyVar) → slice_get after i ≡ Some (Var v) → v.num ≡ r.to.num → v ≡ r.to) renames (λ r n a i v e m. from r n a v m (vars i v e)) h.named h.agree;
      agree = h.agree;
    }
  where
    other : (r : Rename) (v : TyVar) (qs : List Rename) → IsRenamedTo v qs → AllByRecursion (λ q. q.to.num ≡ r.to.num → q.to ≡ r.to) qs → v.num ≡ r.to.num → v ≡ r.to
    other r v [] k a m = absurd k
    other r v (q ∷ qs) (inl e) a m = e ∙ a.0 (sym (ap (λ (u : TyVar). u.num) e) ∙ m)
    other r v (q ∷ qs) (inr k) a m = other r v qs k a.1 m

    from : (r : Rename) → ((i : ℕ) (v : TyVar) → slice_get forms i ≡ Some (Var v) → v.num ≡ r.to.num → v ≡ r.to) → AllByRecursion (λ q. q.to.num ≡ r.to.num → q.to ≡ r.to) renames → (v : TyVar) → v.num ≡ r.to.num → ((j : ℕ) × (slice_get forms j ≡ Some (Var v))) ⊎ IsRenamedTo v renames → v ≡ r.to
    from r n a v m (inl o) = n o.0 v o.1 m
    from r n a v m (inr k) = other r v renames k a m

copied_applied : (copies : ℕ → Option Ty) (renames : List Rename) (names : List TypeName) (form : TyForm) → IsApplied names form → IsApplied names (copied_form copies renames form)
copied_applied copies renames names (Var v) h = tt
copied_applied copies renames names (Fields fields) h = tt
copied_applied copies renames names (Arrow a b) h = tt
copied_applied copies renames names (Named n args) h = (h.0, h.1, length-map args (λ a. copied_ty copies a) ∙ h.2)

copied_var : (copies : ℕ → Option Ty) (renames : List Rename) (forms : List TyForm) (at : ℕ) (form : TyForm) (v : TyVar) → slice_get forms at ≡ Some form → copied_form copies renames form ≡ Var v → ((j : ℕ) × (slice_get forms j ≡ Some (Var v))) ⊎ IsRenamedTo v renames
copied_var copies renames forms at (Var x) v e m = go (find (λ r. nat_eq r.from x.num) renames) refl
  where
    go : (f : Option Rename) → find (λ r. nat_eq r.from x.num) renames ≡ f → ((j : ℕ) × (slice_get forms j ≡ Some (Var v))) ⊎ IsRenamedTo v renames
    go None k =
        let same : x ≡ v = sym (ap (λ f. renamed_as x (led_to f)) k) ∙ cc in
        inl (at, e ∙ ap (λ (u : TyVar). Some (Var u)) same)
    go (Some r) k =
        let same : r.to ≡ v = sym (ap (λ f. renamed_as x (led_to f)) k) ∙ cc in
        inr (subst (λ (u : TyVar). IsRenamedTo u renames) same (found_in (λ s. IsRenamedTo s.to renames) (λ s. nat_eq s.from x.num) renames r (renamed_all renames) k))
copied_var copies renames forms at (Fields fields) v e m = cc
copied_var copies renames forms at (Arrow a b) v e m = cc
copied_var copies renames forms at (Named k args) v e m = cc

grown_made : (renames : List Rename) (forms : List TyForm) (copies : ℕ → Option Ty) (at : ℕ) (form : TyForm) → slice_get forms at ≡ Some form → IsGrown renames forms (forms ++ copied_form copies renames form ∷ [])
grown_made renames forms copies at form e =
    record {
      longer =
          record {
            count = omega (arith, length-append forms (copied_form copies renames form ∷ []));
            keeps = more_keeps forms (copied_form copies renames form);
            trees = tree_more forms (copied_form copies renames form);
          };
      vars = λ i v q. more_cases forms (copied_form copies renames form) i (Var v) (((j : ℕ) × (slice_get forms j ≡ Some (Var v))) ⊎ IsRenamedTo v renames) q (λ o. inl (i, o)) (λ l m. copied_var copies renames forms at form v e m);
      applied = λ names h i f q. more_cases forms (copied_form copies renames form) i f (IsApplied names f) q (λ o. h i f o) (λ l m. subst (IsApplied names) m (copied_applied copies renames names form (h at form e)));
    }

pub grown_copy : (renames : List Rename) (forms : List TyForm) (copies : ℕ → Option Ty) (at : ℕ) (after : List TyForm) (t : Ty) → IsCopyOf forms copies renames at after t → IsGrown renames forms after
grown_copy renames forms copies at after t (found q e) = grown_same renames forms after e
grown_copy renames forms copies at after t (made m) = subst (IsGrown renames forms) (sym m.is) (grown_made renames forms copies at m.form m.here)

-- ---- One more copy

copy_from : (renames : List Rename) (forms : List TyForm) (copies : ℕ → Option Ty) (at : ℕ) (after : List TyForm) (t : Ty) → IsCopyOf forms copies renames at after t → (from : ℕ) → from ≤ length forms → AreFrom from forms copies → (from ≤ t.0) × (t.0 < length after)
copy_from renames forms copies at after t (found q e) from l h =
    let w = h at t q in (w.0, subst (λ (fs : List TyForm). t.0 < length fs) (sym e) w.1)
copy_from renames forms copies at after t (made m) from l h =
    let n = m.last in
    let k : length after ≡ length forms + 1 = ap length m.is ∙ length-append forms (copied_form copies renames m.form ∷ []) in
    (omega arith, omega arith)

copy_closed : (renames : List Rename) (forms : List TyForm) (copies : ℕ → Option Ty) (at : ℕ) (after : List TyForm) (t : Ty) → IsCopyOf forms copies renames at after t → HavePartsCopies forms copies at → (from : ℕ) → AreFrom from forms copies → IsClosedFrom from forms → IsClosedFrom from after
copy_closed renames forms copies at after t (found q e) p from h c = subst (IsClosedFrom from) (sym e) c
copy_closed renames forms copies at after t (made m) p from h c =
    subst
    (IsClosedFrom from)
    (sym m.is)
    (λ i f l q.
    more_cases
    forms
    (copied_form copies renames m.form)
    i
    f
    (AllByRecursion (λ k. from ≤ k) (parts_of f))
    q
    (λ o. c i f l o)
    (λ n e.
    subst
    (λ (g : TyForm). AllByRecursion (λ k. from ≤ k) (parts_of g))
    e
    (subst
    (AllByRecursion (λ k. from ≤ k))
    (sym (copied_parts copies renames m.form))
    (all_mapped (λ k. from ≤ k) (copied copies) (parts_of m.form) (all_mono (HasCopy copies) (λ k. from ≤ copied copies k) (parts_of m.form) (λ k o. subst (λ j. from ≤ j) (sym (copied_at copies k o.0 o.1)) (h k o.0 o.1).0) (p m.form m.here))))))

copy_means : (renames : List Rename) (forms : List TyForm) (copies : ℕ → Option Ty) (at : ℕ) (after : List TyForm) (t : Ty) → IsCopyOf forms copies renames at after t → HavePartsCopies forms copies at → (m : ℕ → Tree) → ((form : TyForm) → slice_get forms at ≡ Some form → m at ≡ form_tree m form) → AreMeant m renames forms copies → tree after t.0 ≡ inst (renamed renames) (m at)
copy_means renames forms copies at after t (found q e) p m h k = ap (λ (fs : List TyForm). tree fs t.0) e ∙ k at t q
copy_means renames forms copies at after t (made o) p m h k =
    ap (λ (fs : List TyForm). tree fs t.0) o.is
    ∙ ap (tree (forms ++ copied_form copies renames o.form ∷ [])) o.last
    ∙ tree_new forms (copied_form copies renames o.form)
    ∙ copied_tree copies renames m (tree forms) o.form (all_mono (HasCopy copies) (λ c. tree forms (copied copies c) ≡ inst (renamed renames) (m c)) (parts_of o.form) (λ c i. ap (tree forms) (copied_at copies c i.0 i.1) ∙ k c i.0 i.1) (p o.form o.here))
    ∙ ap (inst (renamed renames)) (sym (h o.form o.here))

-- what has a copy afterwards
link_cases : (link : ℕ → Option Ty) (i : ℕ) (t : Ty) (after : ℕ → Option Ty) (c : ℕ) (u : Ty) (P : Type 0) → IsLinked link i t after → after c ≡ Some u → (c ≡ i → u ≡ t → P) → (link c ≡ Some u → P) → P
link_cases link i t after c u P k e f g = go (nat_eq c i) refl
  where
    go : (b : Bool) → nat_eq c i ≡ b → P
    go true q =
        let n : c ≡ i = eqb-true c i q in
        f n (some_eq u t (sym e ∙ ap after n ∙ k.here))
    go false q = g (sym (k.others c (λ n. let w = eq-eqb c i n in cc)) ∙ e)

link_kept : (link : ℕ → Option Ty) (i : ℕ) (t : Ty) (after : ℕ → Option Ty) (c : ℕ) → IsLinked link i t after → HasCopy link c → HasCopy after c
link_kept link i t after c k h = go (nat_eq c i) refl
  where
    go : (b : Bool) → nat_eq c i ≡ b → HasCopy after c
    go true q = (t, ap after (eqb-true c i q) ∙ k.here)
    go false q = (h.0, k.others c (λ n. let w = eq-eqb c i n in cc) ∙ h.1)

pub added : (renames : List Rename) (forms : List TyForm) (copies : ℕ → Option Ty) (e : Headed) (after : List TyForm) (t : Ty) (mid copies2 : ℕ → Option Ty) → HavePartsCopies forms copies e.head.0 → IsCopyOf forms copies renames e.head.0 after t → IsLinked copies e.head.0 t mid → IsLinked mid e.ty.0 t copies2 → IsAdded renames forms copies e after copies2
added renames forms copies e after t mid copies2 p o k l =
    record {
      here = (t, l.here);
      kept = λ c h. link_kept mid e.ty.0 t copies2 c l (link_kept copies e.head.0 t mid c k h);
      from = λ from w h c u q. cases c u ((from ≤ u.0) × (u.0 < length after)) q (λ n m. subst (λ (x : Ty). (from ≤ x.0) × (x.0 < length after)) (sym m) (copy_from renames forms copies e.head.0 after t o from w h)) (λ n m. subst (λ (x : Ty). (from ≤ x.0) × (x.0 < length after)) (sym m) (copy_from renames forms copies e.head.0 after t o from w h)) (λ n. let z = h c u n in let g = grown.longer.count in (z.0, let y = z.1 in omega arith));
      closed = λ from w h c. copy_closed renames forms copies e.head.0 after t o p from h c;
      means = λ m h there k c u q. cases c u (tree after u.0 ≡ inst (renamed renames) (m c)) q (λ n r. ap (λ (x : Ty). tree after x.0) r ∙ copy_means renames forms copies e.head.0 after t o p m h.1 k ∙ ap (inst (renamed renames)) (sym h.0 ∙ ap m (sym n))) (λ n r. ap (λ (x : Ty). tree after x.0) r ∙ copy_means renames forms copies e.head.0 after t o p m h.1 k ∙ ap (inst (renamed renames)) (ap m (sym n))) (λ n. grown.longer.trees u.0 (there c u n) ∙ k c u n);
    }
  where
    grown : IsGrown renames forms after
    grown = grown_copy renames forms copies e.head.0 after t o

    cases : (c : ℕ) (u : Ty) (P : Type 0) → copies2 c ≡ Some u → (c ≡ e.ty.0 → u ≡ t → P) → (c ≡ e.head.0 → u ≡ t → P) → (copies c ≡ Some u → P) → P
    cases c u P q f g h = link_cases mid e.ty.0 t copies2 c u P l q f (λ r. link_cases copies e.head.0 t mid c u P k r g h)

-- ---- All copies of an order

pub record IsCopying (renames : List Rename) (old : List TyForm) (order : List Headed) (index : ℕ) (forms : List TyForm) (copies : ℕ → Option Ty) : Type 0 where
  pub before : List ℕ
  pub whole : reached order ≡ before ++ reached (drop index order)
  pub ready : AreReady old before (drop index order)
  pub all : (c : ℕ) → logged before c ≡ true → HasCopy copies c
  pub grown : IsGrown renames old forms
  pub from : AreFrom (length old) forms copies
  pub closed : IsClosedFrom (length old) forms
  pub means : (m : ℕ → Tree) → AllByRecursion (IsMeantAs m old) order → AreMeant m renames forms copies

slice_within : {A : Type 0} (xs : List A) (i : ℕ) (x : A) → slice_get xs i ≡ Some x → i < length xs
slice_within [] i x e = cc
slice_within (y ∷ xs) zero x e = omega arith
slice_within (y ∷ xs) (suc i) x e = let w = slice_within xs i x e in omega arith

pub copying_first : (renames : List Rename) (old : List TyForm) (order : List Headed) (copies : ℕ → Option Ty) → AreReady old [] order → ((c : ℕ) → copies c ≡ None) → IsCopying renames old order 0 old copies
copying_first renames old order copies r n =
    record {
      before = [];
      whole = refl;
      ready = r;
      all = λ c h. cc;
      grown = grown_same renames old old refl;
      from = λ c t e. absurd (none c t e);
      closed = λ i f l e. let w = slice_within old i f e in absurd (omega arith);
      means = λ m h c t e. absurd (none c t e);
    }
  where
    none : (c : ℕ) (t : Ty) → copies c ≡ Some t → ⊥
    none c t e = let w : None ≡ Some t = sym (n c) ∙ e in cc

get_at : {A : Type 0} (xs : List A) (i : ℕ) (d : A) → i < length xs → slice_get xs i ≡ Some (get_or xs i d)
get_at [] i d l = absurd (omega arith)
get_at (x ∷ xs) zero d l = refl
get_at (x ∷ xs) (suc i) d l = get_at xs i d (omega arith)

module _ (renames : List Rename) (old : List TyForm) (order : List Headed) (index : ℕ) (forms : List TyForm) (copies : ℕ → Option Ty) (k : IsCopying renames old order index forms copies) where
  pub copying_end : length order ≤ index → AreCopied renames old order forms copies
  copying_end l =
      record {
        from = k.from;
        closed = k.closed;
        all = λ c h. k.all c (subst (λ (is : List ℕ). logged is c ≡ true) (k.whole ∙ ap (λ es. k.before ++ reached es) (past order index l) ∙ nothing k.before) h);
        means = k.means;
      }
    where
      past : (es : List Headed) (i : ℕ) → length es ≤ i → drop i es ≡ []
      past [] zero w = refl
      past [] (suc i) w = refl
      past (x ∷ es) zero w = absurd (omega arith)
      past (x ∷ es) (suc i) w = past es i (omega arith)

      nothing : (is : List ℕ) → is ++ [] ≡ is
      nothing [] = refl
      nothing (i ∷ is) = ap (λ js. i ∷ js) (nothing is)

  module _ (d : Headed) (w : index < length order) where
    abbrev entry : Headed
    entry = get_or order index d

    next : drop index order ≡ entry ∷ drop (suc index) order
    next = drop-cons order index d w

    ready : AreReady old k.before (entry ∷ drop (suc index) order)
    ready = subst (AreReady old k.before) next k.ready

    pub entry_there : entry.head.0 < length forms
    entry_there = slice_within forms entry.head.0 ready.0.form (k.grown.longer.keeps entry.head.0 ready.0.form ready.0.here)

    pub copies_there : AreThere forms copies
    copies_there c t e = (k.from c t e).1

    pub entry_parts : HavePartsCopies forms copies entry.head.0
    entry_parts form e =
        let same : ready.0.form ≡ form = some_eq ready.0.form form (sym (k.grown.longer.keeps entry.head.0 ready.0.form ready.0.here) ∙ e) in
        subst (λ (f : TyForm). AllByRecursion (HasCopy copies) (parts_of f)) same (all_mono (λ c. logged k.before c ≡ true) (HasCopy copies) (parts_of ready.0.form) k.all ready.0.parts)

    pub entry_renames : AreRenames old renames → AreRenames forms renames
    entry_renames h = renames_kept renames old forms k.grown.vars h

    pub copying_next : (after : List TyForm) (copies2 : ℕ → Option Ty) → IsAdded renames forms copies entry after copies2 → IsGrown renames forms after → IsCopying renames old order (index + 1) after copies2
    copying_next after copies2 a g =
        let step : suc index ≡ index + 1 = omega arith in
        subst
        (λ j. IsCopying renames old order j after copies2)
        step
        (record {
          before = k.before ++ entry.ty.0 ∷ [];
          whole = k.whole ∙ ap (λ es. k.before ++ reached es) next ∙ sym (joined k.before (reached (drop (suc index) order)));
          ready = ready.1;
          all = λ c h. logged_cases k.before entry.ty.0 c (HasCopy copies2 c) h (λ o. a.kept c (k.all c o)) (λ n. subst (HasCopy copies2) (sym n) a.here);
          grown = grown_then renames old forms after k.grown g;
          from = a.from (length old) k.grown.longer.count k.from;
          closed = a.closed (length old) k.grown.longer.count k.from k.closed;
          means = λ m h. a.means m (meant m (all_at (IsMeantAs m old) order index entry h (get_at order index d w))) copies_there (k.means m h);
        })
      where
        joined : (is js : List ℕ) → (is ++ entry.ty.0 ∷ []) ++ js ≡ is ++ entry.ty.0 ∷ js
        joined [] js = refl
        joined (i ∷ is) js = ap (λ ks. i ∷ ks) (joined is js)

        meant : (m : ℕ → Tree) → IsMeantAs m old entry → IsMeantAs m forms entry
        meant m h = (
          h.0,
          (λ form e.
              let same : ready.0.form ≡ form = some_eq ready.0.form form (sym (k.grown.longer.keeps entry.head.0 ready.0.form ready.0.here) ∙ e) in
              h.1 form (ready.0.here ∙ ap Some same)),
        )
