-- One written type, from the types of its parts.
use Rattle.std.proofs.Common.{◌≡◌, ℕ, zero, suc, ◌<◌, ◌≤◌, Bool, true, false, cond, List, [], ◌∷◌, length, Option, Some, None, refl, sym, ap, ◌∙◌, arith, subst, map, nat_eq, inl, inr, ◌⊎◌, Result, Ok, Err, IfOk}
use Rattle.std.specs.Prelude.{slice_get, slice_set, slice_index_or, ◌-◌}
use Rattle.std.specs.List.{AllByRecursion, find}
use Rattle.std.proofs.lemmas.Bool.{eq-eqb, eqb-true}
use Rattle.smlc_base.specs.declared.memory.NoMemory.{NoMemory}
use Rattle.sml_tree.specs.declared.bare.TypeField.{TypeField}
use Rattle.sml_tree.specs.declared.bare.TypeExp.{TypeExp}
use Rattle.sml_tree.specs.declared.bare.TypeExp.TheVariants as exp
use Rattle.sml_types.specs.declared.types.Ty.{Ty}
use Rattle.sml_types.specs.declared.types.TyVar.{TyVar}
use Rattle.sml_types.specs.declared.types.TyForm.{TyForm}
use Rattle.sml_types.specs.declared.types.TyForm.TheVariants.{Var, Fields, Arrow, Named}
use Rattle.sml_types.specs.declared.types.Field.{Field}
use Rattle.sml_types.specs.declared.tables.TypeName.{TypeName}
use Rattle.sml_types.specs.declared.scheme.Scheme.{Scheme}
use Rattle.sml_types.specs.Tree.{ArrowHead, NameHead, Tree, Variable, App, NoParts, Part, inst}
use Rattle.sml_types.specs.Forms.{tree, form_tree, parts_of, var_of}
use Rattle.sml_types.specs.Poly.{Poly}
use Rattle.sml_types.specs.Library.{parts, name_ty, arrow}
use Rattle.sml_types.specs.TypeExps.{IsRecord, labelled, given, explicit}
use Rattle.sml_types.specs.Typing.{IsAmong, Covers}
use Rattle.sml_types.proofs.TreeFacts.{inst_inst}
use Rattle.infer_parts.specs.declared.given.Given.{Given}
use Rattle.infer_parts.specs.Copies.{given_tree, given_types, AreGiven}
use Rattle.infer_parts.specs.Written.{standing, stood, AreThere, IsClosedScheme, IsTypeRow, counts, has_params, field_of, in_order, put_in, paired, AreTrees, IsMadeOf, both_taken, entry_at, all_taken, IsThere, AreMadeThere}
use Rattle.sml_unify.specs.Solved.{bound_at}
use Rattle.infer_parts.proofs.Placed.{listed_parts, inst_parts, record_there}

pub no_var : (form : TyForm) (w : TyVar) → var_of form ≡ None → form ≡ Var w → ⊥
no_var (Var v) w e q = cc
no_var (Fields fields) w e q = cc
no_var (Arrow a b) w e q = cc
no_var (Named n args) w e q = cc

-- ---- Records

set_all : {A : Type 0} (P : A → Type 0) (xs : List A) (i : ℕ) (x : A) → AllByRecursion P xs → P x → AllByRecursion P (slice_set xs i x)
set_all P [] i x h p = tt
set_all P (y ∷ xs) zero x h p = (p, h.1)
set_all P (y ∷ xs) (suc i) x h p = (h.0, set_all P xs i x h.1 p)

put_all : (P : Ty → Type 0) (fields : List TypeField) (tys : List Ty) (made : List Field) → AllByRecursion P tys → AllByRecursion (λ f. P f.ty) made → AllByRecursion (λ f. P f.ty) (put_in fields tys made)
put_all P [] tys made h m = m
put_all P (f ∷ fields) [] made h m = m
put_all P (f ∷ fields) (t ∷ tys) made h m = put_all P fields tys (slice_set made f.slot (field_of f t)) h.1 (set_all (λ g. P g.ty) made f.slot (field_of f t) m h.0)

order_all : (P : Ty → Type 0) (fields : List TypeField) (tys : List Ty) → AllByRecursion P tys → AllByRecursion (λ f. P f.ty) (in_order fields tys)
order_all P [] tys h = tt
order_all P (f ∷ fields) [] h = tt
order_all P (f ∷ fields) (t ∷ tys) h = (h.0, order_all P fields tys h.1)

all_numbers : {A : Type 0} (P : ℕ → Type 0) (g : A → ℕ) (xs : List A) → AllByRecursion (λ x. P (g x)) xs → AllByRecursion P (map g xs)
all_numbers P g [] h = tt
all_numbers P g (x ∷ xs) h = (h.0, all_numbers P g xs h.1)

pub fields_there : (n : ℕ) (fields : List TypeField) (tys : List Ty) (made : List Field) → made ≡ put_in fields tys (in_order fields tys) → AllByRecursion (λ t. t.0 < n) tys → AllByRecursion (λ c. c < n) (parts_of (Fields made))
fields_there n fields tys made e h =
    all_numbers (λ c. c < n) (λ f. f.ty.0) made (subst (AllByRecursion (λ f. f.ty.0 < n)) (sym e) (put_all (λ t. t.0 < n) fields tys (in_order fields tys) h (order_all (λ t. t.0 < n) fields tys h)))

pub args_there : (n : ℕ) (number : ℕ) (tys : List Ty) → AllByRecursion (λ t. t.0 < n) tys → AllByRecursion (λ c. c < n) (parts_of (Named number tys))
args_there n number tys h = all_numbers (λ c. c < n) (λ t. t.0) tys h

pub record_made : (old new : List TyForm) (fields : List TypeField) (tys : List Ty) (made : List Field) (r : Result Ty NoMemory) → made ≡ put_in fields tys (in_order fields tys) → IsTypeRow fields → length tys ≡ length fields → IfOk r (λ t. (t.0 < length new) × (tree new t.0 ≡ form_tree (tree old) (Fields made))) → IfOk r (λ t. (f : TyVar → Tree) (ts : List Tree) → AreTrees old f tys ts → (t.0 < length new) × (x : Tree) × IsRecord (labelled fields ts) x × (tree new t.0 ≡ inst f x))
record_made old new fields tys made (Ok t) e row count h = λ f ts same.
    let r = record_there old f fields tys ts row count same in
    (h.0, r.0, r.1, h.1 ∙ ap (λ m. form_tree (tree old) (Fields m)) e ∙ r.2)
record_made old new fields tys made (Err x) e row count h = tt

-- ---- Type bindings

pub paired_there : (forms : List TyForm) (vars : List TyVar) (args : List Ty) → AreThere forms args → AreGiven forms (paired vars args)
paired_there forms [] args h = tt
paired_there forms (v ∷ vars) [] h = tt
paired_there forms (v ∷ vars) (t ∷ args) h = (h.0, paired_there forms vars args h.1)

pub none_before : (first : ℕ) (P : ℕ → Type 0) (cs : List ℕ) → AllByRecursion (λ c. first ≤ c) cs → AllByRecursion (λ c. c < first → P c) cs
none_before first P [] h = tt
none_before first P (c ∷ cs) h = (λ l. let g = h.0 in absurd (omega arith), none_before first P cs h.1)

eq_sym : (a b : ℕ) (w : Bool) → nat_eq a b ≡ w → nat_eq b a ≡ w
eq_sym a b true e = eq-eqb b a (sym (eqb-true a b e))
eq_sym a b false e = by (nat_eq b a) refl
  where
    by : (w : Bool) → nat_eq b a ≡ w → nat_eq b a ≡ false
    by true q = let z : true ≡ false = sym (eq-eqb a b (sym (eqb-true b a q))) ∙ e in cc
    by false q = q

module _ (forms : List TyForm) (at : TyVar → Tree) where
  test : TyVar → Given → Bool
  test v g = nat_eq g.num v.num

  one_given : (v w : TyVar) (t : Ty) (u : Tree) (gs : List Given) (rest : Tree) (b : Bool) → nat_eq w.num v.num ≡ b → tree forms t.0 ≡ inst at u → (b ≡ false → given_types forms gs v ≡ inst at rest) → given_types forms (record { num = w.num; ty = t } ∷ gs) v ≡ inst at (cond (nat_eq v.num w.num) u rest)
  one_given v w t u gs rest true e h r =
      ap (λ b. given_tree forms v (cond b (Some (record { num = w.num; ty = t })) (find (λ g. nat_eq g.num v.num) gs))) e ∙ h ∙ ap (λ b. inst at (cond b u rest)) (sym (eq_sym w.num v.num true e))
  one_given v w t u gs rest false e h r =
      ap (λ b. given_tree forms v (cond b (Some (record { num = w.num; ty = t })) (find (λ g. nat_eq g.num v.num) gs))) e ∙ r refl ∙ ap (λ b. inst at (cond b u rest)) (sym (eq_sym w.num v.num false e))

  later_among : (v w : TyVar) (ws : List TyVar) → nat_eq w.num v.num ≡ false → (v ≡ w) ⊎ IsAmong v ws → IsAmong v ws
  later_among v w ws e (inl same) = let z : true ≡ false = sym (eq-eqb w.num v.num (ap (λ (x : TyVar). x.num) (sym same))) ∙ e in cc
  later_among v w ws e (inr a) = a

  given_same : (vars : List TyVar) (tys : List Ty) (ts : List Tree) (v : TyVar) → IsAmong v vars → length tys ≡ length vars → AreTrees forms at tys ts → given_types forms (paired vars tys) v ≡ inst at (given vars ts v)
  given_same [] tys ts v a c h = absurd a
  given_same (w ∷ vars) [] ts v a c h = absurd (omega arith)
  given_same (w ∷ vars) (t ∷ tys) [] v a c h = cc
  given_same (w ∷ vars) (t ∷ tys) (u ∷ ts) v a c h =
      let head : tree forms t.0 ≡ inst at u = cc in
      let tail : AreTrees forms at tys ts = cc in
      one_given v w t u (paired vars tys) (given vars ts v) (nat_eq w.num v.num) refl head (λ e. given_same vars tys ts v (later_among v w vars e a) (omega arith) tail)

  covered : (f g : TyVar → Tree) (vs : List TyVar) (t : Tree) → Covers vs t → ((v : TyVar) → IsAmong v vs → f v ≡ g v) → inst f t ≡ inst g t
  covered f g vs (Variable v) h same = same v h
  covered f g vs (App c ts) h same = ap (App c) (covered f g vs ts h same)
  covered f g vs NoParts h same = refl
  covered f g vs (Part t ts) h same = let l = covered f g vs t h.0 same in let r = covered f g vs ts h.1 same in cc

  pub body_given : (vars : List TyVar) (tys : List Ty) (ts : List Tree) (body : Tree) → Covers vars body → length tys ≡ length vars → AreTrees forms at tys ts → inst (given_types forms (paired vars tys)) body ≡ inst at (inst (given vars ts) body)
  body_given vars tys ts body c n h =
      covered (given_types forms (paired vars tys)) (λ v. inst at (given vars ts v)) vars body c (λ v a. given_same vars tys ts v a n h) ∙ sym (inst_inst at (given vars ts) body)

-- ---- What is made of a written type

pub at_all : {A : Type 0} (P : A → Type 0) (xs : List A) (i : ℕ) (x : A) → AllByRecursion P xs → slice_get xs i ≡ Some x → P x
at_all P [] i x h e = cc
at_all P (y ∷ xs) zero x h e = let same : y ≡ x = cc in subst P same h.0
at_all P (y ∷ xs) (suc i) x h e = at_all P xs i x h.1 e

two_trees : (old : List TyForm) (f : TyVar → Tree) (tys : List Ty) (ts : List Tree) (d : Ty) → length tys ≡ 2 → AreTrees old f tys ts → (x y : Tree) × (ts ≡ x ∷ y ∷ []) × (tree old (slice_index_or tys 0 d).0 ≡ inst f x) × (tree old (slice_index_or tys 1 d).0 ≡ inst f y)
two_trees old f [] ts d c h = absurd (omega arith)
two_trees old f (a ∷ []) ts d c h = absurd (omega arith)
two_trees old f (a ∷ b ∷ c ∷ tys) ts d n h = absurd (omega arith)
two_trees old f (a ∷ b ∷ []) [] d c h = cc
two_trees old f (a ∷ b ∷ []) (x ∷ []) d c h = cc
two_trees old f (a ∷ b ∷ []) (x ∷ y ∷ z ∷ ts) d c h = cc
two_trees old f (a ∷ b ∷ []) (x ∷ y ∷ []) d c h =
    let first : tree old a.0 ≡ inst f x = cc in let second : tree old b.0 ≡ inst f y = cc in (x, y, refl, first, second)

counted : (count : ℕ) (o : Option TypeName) → counts count o ≡ true → (row : TypeName) × (o ≡ Some row) × (count ≡ length row.params)
counted count None e = cc
counted count (Some row) e = (row, refl, sym (eqb-true (length row.params) count e))

module _ (marks : List Bool) (names : List TypeName) (schemes : List Scheme) (stands : List Ty) (old new : List TyForm) (e : TypeExp) (tys : List Ty) (t : Ty) where
  abbrev Made : Type 0
  Made = IsMadeOf marks names schemes stands old e tys new (Some t)

  pub made_record : (fields fields2 : List TypeField) (tys2 : List Ty) → e ≡ exp.Record fields → fields2 ≡ fields → tys2 ≡ tys → ((f : TyVar → Tree) (ts : List Tree) → AreTrees old f tys2 ts → (t.0 < length new) × (r : Tree) × IsRecord (labelled fields2 ts) r × (tree new t.0 ≡ inst f r)) → Made
  made_record fields fields2 tys2 is e1 e2 h =
      subst (λ x. IsMadeOf marks names schemes stands old x tys new (Some t)) (sym is) (λ abbreviations ts agree same.
      let r = h (standing old stands) ts (subst (λ (us : List Ty). AreTrees old (standing old stands) us ts) (sym e2) same) in
      (r.0, r.1, subst (λ fs. IsRecord (labelled fs ts) r.1) e1 r.2, r.3))

  pub made_arrow : (a b : ℕ) (d : Ty) (xs ys : List Ty) → e ≡ exp.Arrow a b → xs ≡ tys → ys ≡ tys → length tys ≡ 2 → (t.0 < length new) × (tree new t.0 ≡ form_tree (tree old) (Arrow (slice_index_or xs 0 d) (slice_index_or ys 1 d))) → Made
  made_arrow a b d xs ys is e1 e2 count h =
      subst (λ x. IsMadeOf marks names schemes stands old x tys new (Some t)) (sym is) (λ abbreviations ts agree same.
      let r = two_trees old (standing old stands) tys ts d count same in (
        h.0,
        arrow r.0 r.1,
        (r.0, r.1, r.2, refl),
        h.1
            ∙ ap (λ us. App ArrowHead (Part (tree old (slice_index_or us 0 d).0) (Part (tree old (slice_index_or ys 1 d).0) NoParts))) e1
            ∙ ap (λ us. App ArrowHead (Part (tree old (slice_index_or tys 0 d).0) (Part (tree old (slice_index_or us 1 d).0) NoParts))) e2
            ∙ ap (λ u. App ArrowHead (Part u (Part (tree old (slice_index_or tys 1 d).0) NoParts))) r.3
            ∙ ap (λ u. App ArrowHead (Part (inst (standing old stands) r.0) (Part u NoParts))) r.4,
      ))

  pub made_named : (n : ℕ) (args : List ℕ) → e ≡ exp.Named n args → has_params names n (length args) ≡ true → (t.0 < length new) × (tree new t.0 ≡ form_tree (tree old) (Named n tys)) → Made
  made_named n args is known h =
      subst (λ x. IsMadeOf marks names schemes stands old x tys new (Some t)) (sym is) (λ abbreviations ts agree same.
      let r = counted (length args) (slice_get names n) known in
      (h.0, name_ty n ts, (r.0, r.1, r.2, refl), h.1 ∙ ap (App (NameHead n)) (listed_parts (tree old) (λ a. a.0) tys ∙ ap parts same ∙ sym (inst_parts (standing old stands) ts))))

  pub made_abbreviation : (k : ℕ) (args : List ℕ) (s : Scheme) (tys2 : List Ty) → e ≡ exp.Abbreviation k args → tys2 ≡ tys → slice_get schemes k ≡ Some s → IsClosedScheme old s → length tys ≡ length s.vars → length s.vars ≡ length args → (t.0 < length new) × (tree new t.0 ≡ inst (given_types old (paired s.vars tys2)) (tree old s.body.0)) → Made
  made_abbreviation k args s tys2 is e2 here closed many count h =
      subst (λ x. IsMadeOf marks names schemes stands old x tys new (Some t)) (sym is) (λ abbreviations ts agree same. (
        h.0,
        inst (given s.vars ts) (tree old s.body.0),
        subst (λ (p : Poly). (length args ≡ length p.vars) × (inst (given s.vars ts) (tree old s.body.0) ≡ inst (given p.vars ts) p.body)) (sym (agree k s here)) (sym count, refl),
        h.1
            ∙ ap (λ us. inst (given_types old (paired s.vars us)) (tree old s.body.0)) e2
            ∙ body_given old (standing old stands) s.vars tys ts (tree old s.body.0) closed.1 many same,
      ))

pub made_var : (marks : List Bool) (names : List TypeName) (schemes : List Scheme) (stands : List Ty) (old : List TyForm) (e : TypeExp) (tys : List Ty) (t : Ty) (u : ℕ) → e ≡ exp.Var u → slice_get stands u ≡ Some t → AreThere old stands → IsMadeOf marks names schemes stands old e tys old (Some t)
made_var marks names schemes stands old e tys t u is here there =
    subst (λ x. IsMadeOf marks names schemes stands old x tys old (Some t)) (sym is) (λ abbreviations ts agree same.
    (at_all (λ (w : Ty). w.0 < length old) stands u t there here, Variable (explicit marks u), refl, sym (ap (stood old (explicit marks u)) here)))

-- a type constructor with another number of arguments has no type
pub other_count : (marks : List Bool) (names : List TypeName) (schemes : List Scheme) (stands : List Ty) (old new : List TyForm) (e : TypeExp) (tys : List Ty) (k : ℕ) (args : List ℕ) (s : Scheme) → e ≡ exp.Abbreviation k args → slice_get schemes k ≡ Some s → (length s.vars ≡ length args → ⊥) → IsMadeOf marks names schemes stands old e tys new None
other_count marks names schemes stands old new e tys k args s is here n =
    subst (λ x. IsMadeOf marks names schemes stands old x tys new None) (sym is) (λ abbreviations ts agree same t one. n (sym (one.0 ∙ ap (λ (p : Poly). length p.vars) (agree k s here))))

pub closed_at : (old : List TyForm) (schemes : List Scheme) (k : ℕ) (s : Scheme) → AllByRecursion (IsClosedScheme old) schemes → slice_get schemes k ≡ Some s → IsClosedScheme old s
closed_at old schemes k s h e = at_all (IsClosedScheme old) schemes k s h e

-- ---- The types of the parts

pub both_some : (o : Option Ty) (p : Option (List Ty)) (tys : List Ty) → both_taken o p ≡ Some tys → (t : Ty) × (ts : List Ty) × (o ≡ Some t) × (p ≡ Some ts) × (tys ≡ t ∷ ts)
both_some None p tys e = cc
both_some (Some t) None tys e = cc
both_some (Some t) (Some ts) tys e = let same : t ∷ ts ≡ tys = cc in (t, ts, refl, refl, sym same)

pub taken_count : (first : ℕ) (made : List (Option Ty)) (cs : List ℕ) (tys : List Ty) → all_taken first made cs ≡ Some tys → length tys ≡ length cs
taken_count first made [] tys e = let same : [] ≡ tys = cc in ap length (sym same)
taken_count first made (c ∷ cs) tys e =
    let b = both_some (entry_at first made c) (all_taken first made cs) tys e in ap length b.4 ∙ ap suc (taken_count first made cs b.1 b.3)

entry_there : (forms : List TyForm) (made : List (Option Ty)) (i : ℕ) (t : Ty) → AreMadeThere forms made → bound_at made i ≡ Some t → t.0 < length forms
entry_there forms [] i t h e = cc
entry_there forms (o ∷ made) zero t h e = subst (IsThere forms) e h.0
entry_there forms (o ∷ made) (suc i) t h e = entry_there forms made i t h.1 e

pub taken_there : (forms : List TyForm) (first : ℕ) (made : List (Option Ty)) (cs : List ℕ) (tys : List Ty) → AreMadeThere forms made → all_taken first made cs ≡ Some tys → AreThere forms tys
taken_there forms first made [] tys h e = let same : [] ≡ tys = cc in subst (AreThere forms) same tt
taken_there forms first made (c ∷ cs) tys h e =
    let b = both_some (entry_at first made c) (all_taken first made cs) tys e in
    subst (AreThere forms) (sym b.4) (entry_there forms made (c - first) b.0 h b.2, taken_there forms first made cs b.1 h b.3)
