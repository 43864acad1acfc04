-- Copies of forms mean their types with types in the place of variables.
use Rattle.std.proofs.Common.{◌≡◌, ℕ, zero, suc, ◌+◌, ◌-◌, ◌<◌, ◌≤◌, Bool, true, false, cond, List, [], ◌∷◌, ◌++◌, length, Option, Some, None, refl, sym, ap, ◌∙◌, arith, subst, map, nat_eq, nat_lt, Result, Ok, Err, IfOk, OnErr, length-append}
use Rattle.std.specs.Prelude.{slice_get, get_or}
use Rattle.std.specs.List.{AllByRecursion, find, position_or_len}
use Rattle.std.proofs.lemmas.List.Folds.{find_at}
use Rattle.std.proofs.lemmas.Bool.{ltb-true, lt-ltb}
use Rattle.std.proofs.lemmas.List.{get_or_append_left}
use Rattle.smlc_base.specs.declared.memory.NoMemory.{NoMemory}
use Rattle.sml_types.specs.declared.types.Ty.{Ty}
use Rattle.sml_types.specs.declared.types.TyVar.{TyVar}
use Rattle.sml_types.specs.declared.types.Field.{Field}
use Rattle.sml_types.specs.declared.types.TyForm.{TyForm}
use Rattle.sml_types.specs.declared.types.TyForm.TheVariants.{Var, Fields, Arrow, Named}
use Rattle.sml_types.specs.Tree.{Tree, App, FieldsHead, NameHead, ArrowHead, inst}
use Rattle.sml_types.specs.Forms.{tree, parts_of, listed, form_tree, IsNumbered}
use Rattle.sml_types.proofs.TreeFacts.{inst_same}
use Rattle.sml_types.proofs.FormFacts.{all_mono, tree_more}
use Rattle.sml_unify.specs.Steps.{IsLonger}
use Rattle.infer_parts.specs.declared.given.Given.{Given}
use Rattle.infer_parts.specs.Copies.{moved_ty, moved_fields, moved_form, place, moved, given_ty, given_tree, given_types, AreGiven, ArePartsCopied, IsClosed, AreCopied, AreOldVars}

pub some_eq : {A : Type 0} (x y : A) → Some x ≡ Some y → x ≡ y
some_eq x y e = cc

-- ---- The form of the copies of a form's parts

field_parts : (first : ℕ) (copies : List Ty) (fields : List Field) → map (λ f. f.ty.0) (moved_fields first copies fields) ≡ map (moved first copies) (map (λ f. f.ty.0) fields)
field_parts first copies [] = refl
field_parts first copies (f ∷ fields) = ap (λ is. moved first copies f.ty.0 ∷ is) (field_parts first copies fields)

field_labs : (first : ℕ) (copies : List Ty) (fields : List Field) → map (λ f. f.lab) (moved_fields first copies fields) ≡ map (λ f. f.lab) fields
field_labs first copies [] = refl
field_labs first copies (f ∷ fields) = ap (λ ls. f.lab ∷ ls) (field_labs first copies fields)

arg_parts : (first : ℕ) (copies : List Ty) (args : List Ty) → map (λ a. a.0) (map (λ a. moved_ty first copies a) args) ≡ map (moved first copies) (map (λ a. a.0) args)
arg_parts first copies [] = refl
arg_parts first copies (a ∷ args) = ap (λ is. moved first copies a.0 ∷ is) (arg_parts first copies args)

-- the parts of the new form are the copies of the old one's
moved_parts : (first : ℕ) (copies : List Ty) (form : TyForm) → parts_of (moved_form first copies form) ≡ map (moved first copies) (parts_of form)
moved_parts first copies (Var v) = refl
moved_parts first copies (Fields fields) = field_parts first copies fields
moved_parts first copies (Arrow a b) = refl
moved_parts first copies (Named n args) = arg_parts first copies args

listed_moved : (f : TyVar → Tree) (g : ℕ → ℕ) (p q : ℕ → Tree) (is : List ℕ) → AllByRecursion (λ c. q (g c) ≡ inst f (p c)) is → listed q (map g is) ≡ inst f (listed p is)
listed_moved f g p q [] h = refl
listed_moved f g p q (i ∷ is) h = let l = h.0 in let r = listed_moved f g p q is h.1 in cc

moved_tree : (f : TyVar → Tree) (first : ℕ) (copies : List Ty) (p q : ℕ → Tree) (form : TyForm) → ((v : TyVar) → form ≡ Var v → ⊥) → AllByRecursion (λ c. q (moved first copies c) ≡ inst f (p c)) (parts_of form) → form_tree q (moved_form first copies form) ≡ inst f (form_tree p form)
moved_tree f first copies p q (Var v) n h = absurd (n v refl)
moved_tree f first copies p q (Fields fields) n h =
    ap (λ ls. App (FieldsHead ls) (listed q (map (λ g. g.ty.0) (moved_fields first copies fields)))) (field_labs first copies fields)
    ∙ ap (λ is. App (FieldsHead (map (λ g. g.lab) fields)) (listed q is)) (field_parts first copies fields)
    ∙ ap (App (FieldsHead (map (λ g. g.lab) fields))) (listed_moved f (moved first copies) p q (map (λ g. g.ty.0) fields) h)
moved_tree f first copies p q (Arrow a b) n h = ap (App ArrowHead) (listed_moved f (moved first copies) p q (a.0 ∷ b.0 ∷ []) h)
moved_tree f first copies p q (Named m args) n h =
    ap (λ is. App (NameHead m) (listed q is)) (arg_parts first copies args)
    ∙ ap (App (NameHead m)) (listed_moved f (moved first copies) p q (map (λ a. a.0) args) h)

all_mapped : (P : ℕ → Type 0) (g : ℕ → ℕ) (is : List ℕ) → AllByRecursion (λ c. P (g c)) is → AllByRecursion P (map g is)
all_mapped P g [] h = tt
all_mapped P g (i ∷ is) h = (h.0, all_mapped P g is h.1)

-- the parts of the new form stand there
pub parts_there : (forms : List TyForm) (given : List Given) (first : ℕ) (copies : List Ty) (form : TyForm) → ArePartsCopied forms given first copies form → AllByRecursion (λ c. c < length forms) (parts_of (moved_form first copies form))
parts_there forms given first copies form h =
    subst
    (AllByRecursion (λ c. c < length forms))
    (sym (moved_parts first copies form))
    (all_mapped (λ c. c < length forms) (moved first copies) (parts_of form) (all_mono (λ c. (moved first copies c < length forms) × (tree forms (moved first copies c) ≡ inst (given_types forms given) (tree forms c))) (λ c. moved first copies c < length forms) (parts_of form) (λ c b. b.0) h))

-- the new form means the old one's type, with types in the place of variables
pub form_copied : (forms : List TyForm) (given : List Given) (first : ℕ) (copies : List Ty) (form : TyForm) → ((v : TyVar) → form ≡ Var v → ⊥) → ArePartsCopied forms given first copies form → form_tree (tree forms) (moved_form first copies form) ≡ inst (given_types forms given) (form_tree (tree forms) form)
form_copied forms given first copies form n h =
    moved_tree (given_types forms given) first copies (tree forms) (tree forms) form n (all_mono (λ c. (moved first copies c < length forms) × (tree forms (moved first copies c) ≡ inst (given_types forms given) (tree forms c))) (λ c. tree forms (moved first copies c) ≡ inst (given_types forms given) (tree forms c)) (parts_of form) (λ c b. b.1) h)

pub not_var : (first : ℕ) (copies : List Ty) (form : TyForm) (w : TyVar) → ((v : TyVar) → form ≡ Var v → ⊥) → moved_form first copies form ≡ Var w → ⊥
not_var first copies (Var v) w n e = n v refl
not_var first copies (Fields fields) w n e = cc
not_var first copies (Arrow a b) w n e = cc
not_var first copies (Named m args) w n e = cc

-- ---- Variables

all_at : {A : Type 0} (P : A → Type 0) (xs : List A) (i : ℕ) (x : A) → AllByRecursion P xs → slice_get xs i ≡ Some x → P x
all_at P [] i x h e = cc
all_at P (y ∷ xs) zero x h e = let same : y ≡ x = cc in subst P same h.0
all_at P (y ∷ xs) (suc i) x h e = all_at P xs i x h.1 e

pub found_there : (P : Given → Type 0) (test : Given → Bool) (given : List Given) (g : Given) → AllByRecursion P given → find test given ≡ Some g → P g
found_there P test given g h e = all_at P given (position_or_len test given) g h (sym (find_at test given) ∙ e)

pub given_there : (forms : List TyForm) (given : List Given) (v : TyVar) (t : Ty) (o : Option Given) → ((g : Given) → o ≡ Some g → g.ty.0 < length forms) → Some t ≡ given_ty o → (t.0 < length forms) × (tree forms t.0 ≡ given_tree forms v o)
given_there forms given v t None h e = cc
given_there forms given v t (Some g) h e = let same : t ≡ g.ty = cc in (subst (λ u. u.0 < length forms) (sym same) (h g refl), ap (λ u. tree forms u.0) same)

-- ---- Forms that go on

pub longer_then : (a b c : List TyForm) → IsLonger a b → IsLonger b c → IsLonger a c
longer_then a b c l m =
    record {
      count = let x = l.count in let y = m.count in omega arith;
      keeps = λ i f e. m.keeps i f (l.keeps i f e);
      trees = λ i e. m.trees i (let x = l.count in omega arith) ∙ l.trees i e;
    }

get_more : {A : Type 0} (xs : List A) (y : A) (i : ℕ) (x : A) → slice_get xs i ≡ Some x → slice_get (xs ++ y ∷ []) i ≡ Some x
get_more [] y i x e = cc
get_more (z ∷ xs) y zero x e = e
get_more (z ∷ xs) y (suc i) x e = get_more xs y i x e

pub longer_by_one : (forms : List TyForm) (f : TyForm) → IsLonger forms (forms ++ f ∷ [])
longer_by_one forms f =
    record {
      count = omega (arith, length-append forms (f ∷ []));
      keeps = λ i g e. get_more forms f i g e;
      trees = λ i l. tree_more forms f i l;
    }

-- a form is put last, or none is
pub pushed : (old new : List TyForm) (form : TyForm) (r : Result Ty NoMemory) → IfOk r (λ t. (t.0 ≡ length old) × (new ≡ old ++ form ∷ [])) → OnErr r (new ≡ old) → IsLonger old new
pushed old new form (Ok t) h e = subst (IsLonger old) (sym h.1) (longer_by_one old form)
pushed old new form (Err x) h e = subst (IsLonger old) (sym e) (record { count = omega arith; keeps = λ i f q. q; trees = λ i l. refl })

last_var : (old : List TyForm) (form : TyForm) (i : ℕ) (v : TyVar) → ((w : TyVar) → form ≡ Var w → ⊥) → slice_get (old ++ form ∷ []) i ≡ Some (Var v) → slice_get old i ≡ Some (Var v)
last_var [] form zero v n e = absurd (n v (some_eq form (Var v) e))
last_var [] form (suc i) v n e = cc
last_var (f ∷ old) form zero v n e = e
last_var (f ∷ old) form (suc i) v n e = last_var old form i v n e

-- a form that is no variable brings none
pub pushed_vars : (old new : List TyForm) (form : TyForm) (r : Result Ty NoMemory) → ((w : TyVar) → form ≡ Var w → ⊥) → IfOk r (λ t. (t.0 ≡ length old) × (new ≡ old ++ form ∷ [])) → OnErr r (new ≡ old) → AreOldVars old new
pushed_vars old new form (Ok t) n h e i v q = last_var old form i v n (ap (λ fs. slice_get fs i) (sym h.1) ∙ q)
pushed_vars old new form (Err x) n h e i v q = ap (λ fs. slice_get fs i) (sym e) ∙ q

-- the form that is put last means this type
pub pushed_means : (old new : List TyForm) (form : TyForm) (u : Tree) (r : Result Ty NoMemory) → IfOk r (λ t. (t.0 ≡ length old) × (new ≡ old ++ form ∷ [])) → IfOk r (λ t. tree new t.0 ≡ form_tree (tree old) form) → form_tree (tree old) form ≡ u → IfOk r (λ t. (t.0 < length new) × (tree new t.0 ≡ u))
pushed_means old new form u (Ok t) h m e =
    let there : length new ≡ length old + 1 = ap length h.1 ∙ length-append old (form ∷ []) in let same = h.0 in (omega arith, m ∙ e)
pushed_means old new form u (Err x) h m e = tt

-- ---- One more copy

given_later : (old forms : List TyForm) (given : List Given) (v : TyVar) (o : Option Given) → IsLonger old forms → ((g : Given) → o ≡ Some g → g.ty.0 < length old) → given_tree forms v o ≡ given_tree old v o
given_later old forms given v None l h = refl
given_later old forms given v (Some g) l h = l.trees g.ty.0 (h g refl)

-- what is given keeps its type
pub same_given : (old forms : List TyForm) (given : List Given) (t : Tree) → IsLonger old forms → AreGiven old given → inst (given_types forms given) t ≡ inst (given_types old given) t
same_given old forms given t l h =
    inst_same (given_types forms given) (given_types old given) t (λ v o. given_later old forms given v (find (λ g. nat_eq g.num v.num) given) l (λ g e. found_there (λ x. x.ty.0 < length old) (λ x. nat_eq x.num v.num) given g h e))

not_true : (b : Bool) → (b ≡ true → ⊥) → b ≡ false
not_true true h = absurd (h refl)
not_true false h = refl

before : (first : ℕ) (copies : List Ty) (c : ℕ) → c < first → moved first copies c ≡ c
before first copies c l = ap (λ b. (cond b (place c) (get_or copies (c - first) (place c))).0) (lt-ltb c first l)

pub at_place : (first : ℕ) (copies : List Ty) (c : ℕ) → first ≤ c → moved first copies c ≡ (get_or copies (c - first) (place c)).0
at_place first copies c l = ap (λ b. (cond b (place c) (get_or copies (c - first) (place c))).0) (not_true (nat_lt c first) (λ t. let m = ltb-true c first t in omega arith))

get_last : (xs : List Ty) (y d : Ty) → get_or (xs ++ y ∷ []) (length xs) d ≡ y
get_last [] y d = refl
get_last (x ∷ xs) y d = get_last xs y d

pub known_at : {A : Type 0} (xs : List A) (i : ℕ) → i < length xs → (x : A) × (slice_get xs i ≡ Some x)
known_at [] i l = absurd (omega arith)
known_at (x ∷ xs) zero l = (x, refl)
known_at (x ∷ xs) (suc i) l = known_at xs i (omega arith)

both_all : (P Q R : ℕ → Type 0) (is : List ℕ) → ((i : ℕ) → P i → Q i → R i) → AllByRecursion P is → AllByRecursion Q is → AllByRecursion R is
both_all P Q R [] f p q = tt
both_all P Q R (i ∷ is) f p q = (f i p.0 q.0, both_all P Q R is f p.1 q.1)

ge_at : (a b : ℕ) → nat_lt a b ≡ false → b ≤ a
ge_at a b e = let n : a < b → ⊥ = λ m. let t : false ≡ true = sym e ∙ lt-ltb a b m in cc in omega (arith, n)

-- what is copied, or stands before the first copy
moved_there : (old : List TyForm) (given : List Given) (first at : ℕ) (forms : List TyForm) (copies : List Ty) (k : ℕ) → AreGiven old given → AreCopied old given first at forms copies → at ≤ length old → k < at → (k < first → inst (given_types old given) (tree old k) ≡ tree old k) → (b : Bool) → nat_lt k first ≡ b → (moved first copies k < length forms) × (tree forms (moved first copies k) ≡ inst (given_types old given) (tree old k))
moved_there old given first at forms copies k g h there l fixed true q =
    let low = ltb-true k first q in
    let same = before first copies k low in
    let count = h.longer.count in
    (subst (λ j. j < length forms) (sym same) (omega arith), ap (tree forms) same ∙ h.longer.trees k (omega arith) ∙ sym (fixed low))
moved_there old given first at forms copies k g h there l fixed false q = h.copied k (ge_at k first q) l

-- the parts of the next form have their copies
pub parts_ready : (old : List TyForm) (given : List Given) (first end at : ℕ) (forms : List TyForm) (copies : List Ty) (form : TyForm) → IsNumbered old → AreGiven old given → IsClosed old given first end → AreCopied old given first at forms copies → first ≤ at → at < end → end ≤ length old → slice_get forms at ≡ Some form → ArePartsCopied forms given first copies form
parts_ready old given first end at forms copies form n g c h lo hi there e =
    both_all
    (λ k. k < at)
    (λ k. k < first → inst (given_types old given) (tree old k) ≡ tree old k)
    (λ k. (moved first copies k < length forms) × (tree forms (moved first copies k) ≡ inst (given_types forms given) (tree forms k)))
    (parts_of form)
    (λ k l fixed.
    let m = moved_there old given first at forms copies k g h (omega arith) l fixed (nat_lt k first) refl in
    let now : inst (given_types forms given) (tree forms k) ≡ inst (given_types old given) (tree old k) = same_given old forms given (tree forms k) h.longer g ∙ ap (inst (given_types old given)) (h.longer.trees k (omega arith)) in
    (m.0, m.1 ∙ sym now))
    (n at form was)
    (c at form lo hi was)
  where
    was : slice_get old at ≡ Some form
    was = let o = known_at old at (omega arith) in o.1 ∙ ap Some (some_eq o.0 form (sym (h.longer.keeps at o.0 o.1) ∙ e))

-- one more copy
pub next_copied : (old : List TyForm) (given : List Given) (first at : ℕ) (forms forms2 : List TyForm) (copies : List Ty) (copy : Ty) → AreCopied old given first at forms copies → IsLonger forms forms2 → AreGiven old given → at < length old → (copy.0 < length forms2) × (tree forms2 copy.0 ≡ inst (given_types forms given) (tree forms at)) → AreCopied old given first (at + 1) forms2 (copies ++ copy ∷ [])
next_copied old given first at forms forms2 copies copy h l g there new =
    record {
      longer = longer_then old forms forms2 h.longer l;
      count = let c = h.count in omega (arith, length-append copies (copy ∷ []));
      copied = λ k lo hi. kind k lo (nat_lt k at) refl hi;
    }
  where
    kind : (k : ℕ) → first ≤ k → (b : Bool) → nat_lt k at ≡ b → k < at + 1 → (moved first (copies ++ copy ∷ []) k < length forms2) × (tree forms2 (moved first (copies ++ copy ∷ []) k) ≡ inst (given_types old given) (tree old k))
    kind k lo true q hi =
        let low = ltb-true k at q in
        let was = h.copied k lo low in
        let c = h.count in
        let inside : k - first < length copies = omega arith in
        let same : moved first (copies ++ copy ∷ []) k ≡ moved first copies k = at_place first (copies ++ copy ∷ []) k lo ∙ ap (λ t. t.0) (get_or_append_left copies (copy ∷ []) (place k) (k - first) inside) ∙ sym (at_place first copies k lo) in
        let more = l.count in
        (subst (λ j. j < length forms2) (sym same) (let w = was.0 in omega arith), ap (tree forms2) same ∙ l.trees (moved first copies k) was.0 ∙ was.1)
    kind k lo false q hi =
        let high : at ≤ k = ge_at k at q in
        let same_k : k ≡ at = omega arith in
        let c = h.count in
        let last : k - first ≡ length copies = omega arith in
        let same : moved first (copies ++ copy ∷ []) k ≡ copy.0 = at_place first (copies ++ copy ∷ []) k lo ∙ ap (λ j. (get_or (copies ++ copy ∷ []) j (place k)).0) last ∙ ap (λ t. t.0) (get_last copies copy (place k)) in (
          subst (λ j. j < length forms2) (sym same) new.0,
          ap (tree forms2) same
              ∙ new.1
              ∙ same_given old forms given (tree forms at) h.longer g
              ∙ ap (inst (given_types old given)) (h.longer.trees at there ∙ ap (tree old) (sym same_k)),
        )
