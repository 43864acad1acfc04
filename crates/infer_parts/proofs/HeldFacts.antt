-- What a table holds of a type is what holds of its parts.
use Rattle.std.proofs.Common.{◌≡◌, ℕ, ◌+◌, ◌-◌, ◌<◌, ◌≤◌, Bool, true, false, cond, not, List, [], ◌∷◌, ◌++◌, length, Some, refl, sym, ap, ◌∙◌, arith, subst, map, nat_eq, inl, inr, length-append}
use Rattle.std.specs.Prelude.{slice_get, get_or, ◌&&◌, IsTrue}
use Rattle.std.specs.List.{AllByRecursion, list_all}
use Rattle.std.proofs.lemmas.Bool.{eq-eqb, eqb-true}
use Rattle.std.proofs.lemmas.List.{get_or_append_left}
use Rattle.sml_types.specs.declared.types.Ty.{Ty}
use Rattle.sml_types.specs.declared.types.TyVar.{TyVar}
use Rattle.sml_types.specs.declared.types.Field.{Field}
use Rattle.sml_types.specs.declared.types.TyForm.{TyForm}
use Rattle.sml_types.specs.declared.types.TyForm.TheVariants.{Var, Fields, Arrow, Named}
use Rattle.sml_types.specs.declared.tables.TypeName.{TypeName}
use Rattle.sml_types.specs.Tree.{Tree, Variable, App, NoParts, Part, inst, admits, by_equality, head_equality}
use Rattle.sml_types.specs.Forms.{tree, listed, form_tree, parts_of, IsNumbered}
use Rattle.sml_types.specs.Typing.{IsAmong, Covers}
use Rattle.sml_types.specs.Equality.{admitting}
use Rattle.sml_types.proofs.TreeFacts.{and_both, either, or_left, or_right}
use Rattle.sml_types.proofs.FormFacts.{tree_form}
use Rattle.infer_parts.specs.Held.{Leaf, By, holds, held_at, AreHeld, is_var, among, in_any, any_var, by_names, covers_form, admits_form, equality_at}

-- ---- Tables

get_last : (xs : List Bool) (y d : Bool) → get_or (xs ++ y ∷ []) (length xs) d ≡ y
get_last [] y d = refl
get_last (x ∷ xs) y d = get_last xs y d

pub next_held : (leaf : Leaf) (by : By) (forms : List TyForm) (first at : ℕ) (table : List Bool) (now : Bool) → AreHeld leaf by forms first at table → now ≡ holds leaf by (tree forms at) → AreHeld leaf by forms first (at + 1) (table ++ now ∷ [])
next_held leaf by forms first at table now h e =
    record {
      count = let c = h.count in omega (arith, length-append table (now ∷ []));
      each = λ k lo hi. one k lo hi (nat_eq k at) refl;
    }
  where
    one : (k : ℕ) → first ≤ k → k < at + 1 → (b : Bool) → nat_eq k at ≡ b → held_at first (table ++ now ∷ []) k ≡ holds leaf by (tree forms k)
    one k lo hi true w =
        let same : k ≡ at = eqb-true k at w in
        let c = h.count in
        let place : k - first ≡ length table = omega arith in
        ap (λ j. get_or (table ++ now ∷ []) j false) place ∙ get_last table now false ∙ e ∙ ap (λ j. holds leaf by (tree forms j)) (sym same)
    one k lo hi false w =
        let other : k ≡ at → ⊥ = λ s. let z : true ≡ false = sym (eq-eqb k at s) ∙ w in cc in
        let c = h.count in
        get_or_append_left table (now ∷ []) false (k - first) (omega (arith, other)) ∙ h.each k lo (omega (arith, other))

-- ---- Forms

module _ (leaf : Leaf) (by : By) (entry : ℕ → Bool) (p : ℕ → Tree) where
  abbrev Known : ℕ → Type 0
  Known c = entry c ≡ holds leaf by (p c)

  args_hold : (tys : List Ty) → AllByRecursion Known (map (λ t. t.0) tys) → list_all (λ t. entry t.0) tys ≡ holds leaf by (listed p (map (λ t. t.0) tys))
  args_hold [] h = refl
  args_hold (t ∷ tys) h = ap (λ b. b && list_all (λ u. entry u.0) tys) h.0 ∙ ap (λ b. holds leaf by (p t.0) && b) (args_hold tys h.1)

  fields_hold : (fields : List Field) → AllByRecursion Known (map (λ f. f.ty.0) fields) → list_all (λ f. entry f.ty.0) fields ≡ holds leaf by (listed p (map (λ f. f.ty.0) fields))
  fields_hold [] h = refl
  fields_hold (f ∷ fields) h = ap (λ b. b && list_all (λ g. entry g.ty.0) fields) h.0 ∙ ap (λ b. holds leaf by (p f.ty.0) && b) (fields_hold fields h.1)

and_true : (a b : Bool) → (a && b) ≡ (a && (b && true))
and_true false b = refl
and_true true false = refl
and_true true true = refl

covers_is : (vars : List TyVar) (first : ℕ) (table : List Bool) (p : ℕ → Tree) (form : TyForm) → AllByRecursion (λ c. held_at first table c ≡ holds (among vars) in_any (p c)) (parts_of form) → covers_form first table vars form ≡ holds (among vars) in_any (form_tree p form)
covers_is vars first table p (Var v) h = refl
covers_is vars first table p (Fields fields) h = fields_hold (among vars) in_any (held_at first table) p fields h
covers_is vars first table p (Arrow a b) h =
    and_true (held_at first table a.0) (held_at first table b.0)
    ∙ ap (λ w. w && (held_at first table b.0 && true)) h.0
    ∙ ap (λ w. holds (among vars) in_any (p a.0) && (w && true)) h.1.0
covers_is vars first table p (Named n args) h = args_hold (among vars) in_any (held_at first table) p args h

admits_is : (names : List TypeName) (first : ℕ) (table : List Bool) (p : ℕ → Tree) (form : TyForm) → AllByRecursion (λ c. held_at first table c ≡ holds any_var (by_names names) (p c)) (parts_of form) → admits_form first table names form ≡ holds any_var (by_names names) (form_tree p form)
admits_is names first table p (Var v) h = refl
admits_is names first table p (Fields fields) h = fields_hold any_var (by_names names) (held_at first table) p fields h
admits_is names first table p (Arrow a b) h = refl
admits_is names first table p (Named n args) h = ap (by_equality (equality_at names n)) (args_hold any_var (by_names names) (held_at first table) p args h)

known_parts : (leaf : Leaf) (by : By) (forms : List TyForm) (first at : ℕ) (table : List Bool) (cs : List ℕ) → AreHeld leaf by forms first at table → AllByRecursion (λ c. first ≤ c) cs → AllByRecursion (λ c. c < at) cs → AllByRecursion (λ c. held_at first table c ≡ holds leaf by (tree forms c)) cs
known_parts leaf by forms first at table [] h lo hi = tt
known_parts leaf by forms first at table (c ∷ cs) h lo hi = (h.each c lo.0 hi.0, known_parts leaf by forms first at table cs h lo.1 hi.1)

pub covers_next : (vars : List TyVar) (forms : List TyForm) (first at : ℕ) (table : List Bool) (form : TyForm) → IsNumbered forms → AreHeld (among vars) in_any forms first at table → slice_get forms at ≡ Some form → AllByRecursion (λ c. first ≤ c) (parts_of form) → covers_form first table vars form ≡ holds (among vars) in_any (tree forms at)
covers_next vars forms first at table form n h e lo =
    covers_is vars first table (tree forms) form (known_parts (among vars) in_any forms first at table (parts_of form) h lo (n at form e)) ∙ ap (holds (among vars) in_any) (sym (tree_form forms at form n e))

pub admits_next : (names : List TypeName) (forms : List TyForm) (first at : ℕ) (table : List Bool) (form : TyForm) → IsNumbered forms → AreHeld any_var (by_names names) forms first at table → slice_get forms at ≡ Some form → AllByRecursion (λ c. first ≤ c) (parts_of form) → admits_form first table names form ≡ holds any_var (by_names names) (tree forms at)
admits_next names forms first at table form n h e lo =
    admits_is names first table (tree forms) form (known_parts any_var (by_names names) forms first at table (parts_of form) h lo (n at form e)) ∙ ap (holds any_var (by_names names)) (sym (tree_form forms at form n e))

-- ---- What they mean

eq_bool : (a b : Bool) → cond a b (not b) ≡ true → a ≡ b
eq_bool true b e = sym e
eq_bool false true e = cc
eq_bool false false e = refl

var_is : (v w : TyVar) → is_var v w ≡ true → v ≡ w
var_is v w e =
    let p = and_both (nat_eq v.num w.num) (cond v.eq w.eq (not w.eq)) e in
    let num = eqb-true v.num w.num p.0 in
    let eq = eq_bool v.eq w.eq p.1 in
    ap (λ n. record { num = n; eq = v.eq }) num ∙ ap (λ b. record { num = w.num; eq = b }) eq

bool_itself : (b : Bool) → cond b b (not b) ≡ true
bool_itself true = refl
bool_itself false = refl

var_itself : (v : TyVar) → is_var v v ≡ true
var_itself v = ap (λ b. b && cond v.eq v.eq (not v.eq)) (eq-eqb v.num v.num refl) ∙ bool_itself v.eq

among_means : (vs : List TyVar) (v : TyVar) → among vs v ≡ true → IsAmong v vs
among_means [] v e = cc
among_means (w ∷ vs) v e = either (is_var v w) (among vs v) (IsAmong v (w ∷ vs)) e (λ q. inl (var_is v w q)) (λ q. inr (among_means vs v q))

among_from : (vs : List TyVar) (v : TyVar) → IsAmong v vs → among vs v ≡ true
among_from [] v h = absurd h
among_from (w ∷ vs) v (inl e) = or_left (is_var v w) (among vs v) (subst (λ u. is_var v u ≡ true) e (var_itself v))
among_from (w ∷ vs) v (inr h) = or_right (is_var v w) (among vs v) (among_from vs v h)

pub covers_means : (vs : List TyVar) (t : Tree) → holds (among vs) in_any t ≡ true → Covers vs t
covers_means vs (Variable v) e = among_means vs v e
covers_means vs (App h ts) e = covers_means vs ts e
covers_means vs NoParts e = tt
covers_means vs (Part t ts) e = let p = and_both (holds (among vs) in_any t) (holds (among vs) in_any ts) e in (covers_means vs t p.0, covers_means vs ts p.1)

pub covers_from : (vs : List TyVar) (t : Tree) → Covers vs t → holds (among vs) in_any t ≡ true
covers_from vs (Variable v) h = among_from vs v h
covers_from vs (App c ts) h = covers_from vs ts h
covers_from vs NoParts h = refl
covers_from vs (Part t ts) h = ap (λ b. b && holds (among vs) in_any ts) (covers_from vs t h.0) ∙ covers_from vs ts h.1

pub admits_is_held : (names : List TypeName) (t : Tree) → admits names (inst admitting t) ≡ holds any_var (by_names names) t
admits_is_held names (Variable v) = refl
admits_is_held names (App h ts) = ap (by_equality (head_equality names h)) (admits_is_held names ts)
admits_is_held names NoParts = refl
admits_is_held names (Part t ts) =
    ap (λ b. b && admits names (inst admitting ts)) (admits_is_held names t) ∙ ap (λ b. holds any_var (by_names names) t && b) (admits_is_held names ts)

pub unmapped : {A : Type 0} (P : ℕ → Type 0) (g : A → ℕ) (xs : List A) → AllByRecursion P (map g xs) → AllByRecursion (λ x. P (g x)) xs
unmapped P g [] h = tt
unmapped P g (x ∷ xs) h = (h.0, unmapped P g xs h.1)

-- a test of a type's variables decides
pub decided : (b : Bool) (vs : List TyVar) (t : Tree) → b ≡ holds (among vs) in_any t → (IsTrue b → Covers vs t) × (Covers vs t → IsTrue b)
decided b vs t e = (λ h. covers_means vs t (sym e ∙ h), λ h. e ∙ covers_from vs t h)
