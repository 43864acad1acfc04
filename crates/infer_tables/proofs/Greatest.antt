-- The greatest choice depends on what the rows say alone, so that it is the same in tables that say the same.
use Rattle.std.proofs.Common.{◌≡◌, ℕ, zero, suc, ◌+◌, ◌<◌, Bool, true, false, cond, List, [], ◌∷◌, length, Option, Some, None, refl, sym, ap, ◌∙◌, arith, subst, nat_eq}
use Rattle.std.specs.Prelude.{slice_get, ◌&&◌, ◌||◌}
use Rattle.std.specs.List.{AllByRecursion}
use Rattle.std.proofs.lemmas.Bool.{eq-eqb, eqb-true}
use Rattle.sml_types.specs.declared.types.Ty.{Ty}
use Rattle.sml_types.specs.declared.types.TyForm.{TyForm}
use Rattle.sml_types.specs.declared.tables.Equality.{Equality}
use Rattle.sml_types.specs.declared.tables.Equality.TheVariants.{Never, Parts}
use Rattle.sml_types.specs.declared.tables.ConRow.{ConRow}
use Rattle.sml_types.specs.declared.tables.TypeName.{TypeName}
use Rattle.sml_types.specs.Tree.{Head, ArrowHead, FieldsHead, NameHead, Tree, Variable, App, NoParts, Part, inst, admits, by_equality, head_equality, name_equality}
use Rattle.sml_types.specs.Forms.{tree}
use Rattle.sml_types.specs.Poly.{is_in}
use Rattle.sml_types.specs.Library.{ConType, arg_of, cons_of}
use Rattle.sml_types.specs.Equality.{choose, admitting, ArgumentsAdmit, IsAllowed, IsGreatest}
use Rattle.sml_types.proofs.TreeFacts.{or_right}
use Rattle.infer_tables.specs.Known.{IsMadeHead, IsMade}
use Rattle.infer_tables.proofs.Lists.{some_eq}
use Rattle.infer_tables.proofs.MeaningFacts.{there_is}

-- ---- Rows that are chosen

pub chosen : List ℕ → (ℕ → Bool) → ℕ → TypeName → TypeName
chosen group c n row = cond (is_in group n) (record { text = row.text; params = row.params; eq = cond (c n) Parts Never; cons = row.cons }) row

pub get_chosen : (group : List ℕ) (c : ℕ → Bool) (j : ℕ) (names : List TypeName) (i : ℕ) (row : TypeName) → slice_get names i ≡ Some row → slice_get (choose group c j names) i ≡ Some (chosen group c (j + i) row)
unfolding chosen
get_chosen group c j [] i row e = cc
get_chosen group c j (n ∷ names) zero row e =
    ap (λ r. Some (chosen group c j r)) (some_eq n row e) ∙ ap (λ k. Some (chosen group c k row)) (let z : j ≡ j + 0 = omega arith in z)
get_chosen group c j (n ∷ names) (suc i) row e = get_chosen group c (suc j) names i row e ∙ ap (λ k. Some (chosen group c k row)) (let z : suc j + i ≡ j + suc i = omega arith in z)

chosen_cons_if : (b : Bool) (q : Equality) (row : TypeName) → (cond b (record { text = row.text; params = row.params; eq = q; cons = row.cons }) row).cons ≡ row.cons
chosen_cons_if true q row = refl
chosen_cons_if false q row = refl

pub chosen_cons : (group : List ℕ) (c : ℕ → Bool) (n : ℕ) (row : TypeName) → (chosen group c n row).cons ≡ row.cons
unfolding chosen
chosen_cons group c n row = chosen_cons_if (is_in group n) (cond (c n) Parts Never) row

chosen_params_if : (b : Bool) (q : Equality) (row : TypeName) → (cond b (record { text = row.text; params = row.params; eq = q; cons = row.cons }) row).params ≡ row.params
chosen_params_if true q row = refl
chosen_params_if false q row = refl

pub chosen_params : (group : List ℕ) (c : ℕ → Bool) (n : ℕ) (row : TypeName) → (chosen group c n row).params ≡ row.params
unfolding chosen
chosen_params group c n row = chosen_params_if (is_in group n) (cond (c n) Parts Never) row

chosen_text_if : (b : Bool) (q : Equality) (row : TypeName) → (cond b (record { text = row.text; params = row.params; eq = q; cons = row.cons }) row).text ≡ row.text
chosen_text_if true q row = refl
chosen_text_if false q row = refl

pub chosen_text : (group : List ℕ) (c : ℕ → Bool) (n : ℕ) (row : TypeName) → (chosen group c n row).text ≡ row.text
unfolding chosen
chosen_text group c n row = chosen_text_if (is_in group n) (cond (c n) Parts Never) row

pub chosen_other : (group : List ℕ) (c : ℕ → Bool) (n : ℕ) (row : TypeName) → is_in group n ≡ false → chosen group c n row ≡ row
unfolding chosen
chosen_other group c n row e = ap (λ b. cond b (record { text = row.text; params = row.params; eq = cond (c n) Parts Never; cons = row.cons }) row) e

chosen_eq : (group : List ℕ) (c : ℕ → Bool) (n : ℕ) (row : TypeName) → is_in group n ≡ true → (chosen group c n row).eq ≡ cond (c n) Parts Never
unfolding chosen
chosen_eq group c n row e = ap (λ b. (cond b (record { text = row.text; params = row.params; eq = cond (c n) Parts Never; cons = row.cons }) row).eq) e

-- a row that is as it is chosen
pub eq_chosen : (group : List ℕ) (c : ℕ → Bool) (names : List TypeName) (n : ℕ) (row : TypeName) → choose group c 0 names ≡ names → slice_get names n ≡ Some row → is_in group n ≡ true → row.eq ≡ cond (c n) Parts Never
eq_chosen group c names n row e q m =
    let same : chosen group c n row ≡ row = some_eq (chosen group c n row) row (sym (get_chosen group c 0 names n row q ∙ ap (λ k. Some (chosen group c k row)) (let z : 0 + n ≡ n = omega arith in z)) ∙ ap (λ rs. slice_get rs n) e ∙ q) in
    ap (λ (r : TypeName). r.eq) (sym same) ∙ chosen_eq group c n row m

row_is_chosen : (b : Bool) (q : Equality) (row : TypeName) → (b ≡ true → row.eq ≡ q) → cond b (record { text = row.text; params = row.params; eq = q; cons = row.cons }) row ≡ row
row_is_chosen true q row h = ap (λ e. record { text = row.text; params = row.params; eq = e; cons = row.cons }) (sym (h refl))
row_is_chosen false q row h = refl

pub all_chosen : (group : List ℕ) (c : ℕ → Bool) (j : ℕ) (names : List TypeName) → ((n : ℕ) (row : TypeName) → slice_get names n ≡ Some row → is_in group (j + n) ≡ true → row.eq ≡ cond (c (j + n)) Parts Never) → choose group c j names ≡ names
all_chosen group c j [] h = refl
all_chosen group c j (row ∷ names) h =
    let z : j + 0 ≡ j = omega arith in
    let first = row_is_chosen (is_in group j) (cond (c j) Parts Never) row (subst (λ k. is_in group k ≡ true → row.eq ≡ cond (c k) Parts Never) z (h 0 row refl)) in
    let rest = all_chosen group c (suc j) names (λ n r e. let y : j + suc n ≡ suc j + n = omega arith in subst (λ k. is_in group k ≡ true → r.eq ≡ cond (c k) Parts Never) y (h (suc n) r e)) in
    ap (λ r. r ∷ choose group c (suc j) names) first ∙ ap (λ rs. row ∷ rs) rest

-- ---- Members

first_or_rest : (P : ℕ → Type 0) (n m : ℕ) (b rest : Bool) → nat_eq n m ≡ b → P m → (rest ≡ true → P n) → (b || rest) ≡ true → P n
first_or_rest P n m true rest q h later e = subst P (sym (eqb-true n m q)) h
first_or_rest P n m false rest q h later e = later e

pub in_group : (P : ℕ → Type 0) (group : List ℕ) (n : ℕ) → AllByRecursion P group → is_in group n ≡ true → P n
in_group P [] n h e = cc
in_group P (m ∷ group) n h e = first_or_rest P n m (nat_eq n m) (is_in group n) refl h.0 (λ r. in_group P group n h.1 r) e

pub all_members : (Q : ℕ → Type 0) (group : List ℕ) → ((n : ℕ) → is_in group n ≡ true → Q n) → AllByRecursion Q group
all_members Q [] h = tt
all_members Q (m ∷ group) h = (
  h m (ap (λ b. b || is_in group m) (eq-eqb m m refl)),
  all_members Q group (λ n e. h n (or_right (nat_eq n m) (is_in group n) e)),
)

-- ---- Constructors that say the same

arg_at : (fa fb : List TyForm) (a b : Option Ty) (x : Ty) → arg_of fa a ≡ arg_of fb b → b ≡ Some x → (y : Ty) × (a ≡ Some y) × (tree fa y.0 ≡ tree fb x.0)
arg_at fa fb None b x e q = let z : None ≡ Some (tree fb x.0) = e ∙ ap (arg_of fb) q in cc
arg_at fa fb (Some y) b x e q = (y, refl, some_eq (tree fa y.0) (tree fb x.0) (e ∙ ap (arg_of fb) q))

cons_at : (fa fb : List TyForm) (xs bs : List ConRow) (k : ℕ) (b : ConRow) (x : Ty) → cons_of fa xs ≡ cons_of fb bs → slice_get bs k ≡ Some b → b.arg ≡ Some x → (a : ConRow) × (y : Ty) × (slice_get xs k ≡ Some a) × (a.arg ≡ Some y) × (tree fa y.0 ≡ tree fb x.0)
cons_at fa fb xs [] k b x e q w = cc
cons_at fa fb [] (b ∷ bs) k b2 x e q w = cc
cons_at fa fb (a ∷ xs) (b ∷ bs) zero b2 x e q w =
    let one : record { text = a.text; arg = arg_of fa a.arg } ≡ record { text = b.text; arg = arg_of fb b.arg } = cc in
    let same : b ≡ b2 = some_eq b b2 q in
    let r = arg_at fa fb a.arg b.arg x (ap (λ (c : ConType). c.arg) one) (ap (λ (c : ConRow). c.arg) same ∙ w) in
    (a, r.0, refl, r.1, r.2)
cons_at fa fb (a ∷ xs) (b ∷ bs) (suc k) b2 x e q w = let rest : cons_of fa xs ≡ cons_of fb bs = cc in cons_at fa fb xs bs k b2 x rest q w

-- ---- Two tables

-- the rows of the one table are in the other, but for how those of the group admit equality
abbrev pub AgreesOn : List TyForm → List TypeName → List TyForm → List TypeName → List ℕ → Type 0
AgreesOn fa A fb B group = (n : ℕ) (a : TypeName) → slice_get A n ≡ Some a → (b : TypeName) × (slice_get B n ≡ Some b) × (cons_of fa a.cons ≡ cons_of fb b.cons) × (is_in group n ≡ false → a.eq ≡ b.eq)

module _ (marks : List Bool) (fa : List TyForm) (A : List TypeName) (fb : List TyForm) (B : List TypeName) (group : List ℕ) (agrees : AgreesOn fa A fb B group) where
  at_zero : (c : ℕ → Bool) (names : List TypeName) (n : ℕ) (row : TypeName) → slice_get names n ≡ Some row → slice_get (choose group c 0 names) n ≡ Some (chosen group c n row)
  at_zero c names n row q = get_chosen group c 0 names n row q ∙ ap (λ k. Some (chosen group c k row)) (let z : 0 + n ≡ n = omega arith in z)

  eq_same : (c : ℕ → Bool) (n : ℕ) (a b : TypeName) (m : Bool) → is_in group n ≡ m → (is_in group n ≡ false → a.eq ≡ b.eq) → (chosen group c n a).eq ≡ (chosen group c n b).eq
  eq_same c n a b true e h = chosen_eq group c n a e ∙ sym (chosen_eq group c n b e)
  eq_same c n a b false e h = ap (λ (r : TypeName). r.eq) (chosen_other group c n a e) ∙ h e ∙ sym (ap (λ (r : TypeName). r.eq) (chosen_other group c n b e))

  head_same : (c : ℕ → Bool) (h : Head) → IsMadeHead (length A) h → head_equality (choose group c 0 A) h ≡ head_equality (choose group c 0 B) h
  head_same c ArrowHead l = refl
  head_same c (FieldsHead labs) l = refl
  head_same c (NameHead n) l =
      let a = there_is A n l in
      let b = agrees n a.0 a.1 in
      ap name_equality (at_zero c A n a.0 a.1) ∙ eq_same c n a.0 b.0 (is_in group n) refl b.3 ∙ sym (ap name_equality (at_zero c B n b.0 b.1))

  admits_same : (c : ℕ → Bool) (t : Tree) → IsMade marks (length A) t → admits (choose group c 0 A) (inst admitting t) ≡ admits (choose group c 0 B) (inst admitting t)
  admits_same c (Variable v) m = refl
  admits_same c (App h ts) m =
      ap (λ q. by_equality q (admits (choose group c 0 A) (inst admitting ts))) (head_same c h m.0) ∙ ap (by_equality (head_equality (choose group c 0 B) h)) (admits_same c ts m.1)
  admits_same c NoParts m = refl
  admits_same c (Part t ts) m =
      ap (λ w. w && admits (choose group c 0 A) (inst admitting ts)) (admits_same c t m.0) ∙ ap (λ w. admits (choose group c 0 B) (inst admitting t) && w) (admits_same c ts m.1)

  abbrev AreGroup : Type 0
  AreGroup = AllByRecursion (λ n. (n < length A) × ((a : TypeName) (k : ℕ) (con : ConRow) (x : Ty) → slice_get A n ≡ Some a → slice_get a.cons k ≡ Some con → con.arg ≡ Some x → IsMade marks (length A) (tree fa x.0))) group

  module _ (are : AreGroup) where
    there : (c : ℕ → Bool) (n : ℕ) → is_in group n ≡ true → ArgumentsAdmit fa (choose group c 0 A) n → ArgumentsAdmit fb (choose group c 0 B) n
    there c n m h row k con x e q w =
        let g = in_group (λ i. (i < length A) × ((a : TypeName) (l : ℕ) (d : ConRow) (y : Ty) → slice_get A i ≡ Some a → slice_get a.cons l ≡ Some d → d.arg ≡ Some y → IsMade marks (length A) (tree fa y.0))) group n are m in
        let a = there_is A n g.0 in
        let b = agrees n a.0 a.1 in
        let is : chosen group c n b.0 ≡ row = some_eq (chosen group c n b.0) row (sym (at_zero c B n b.0 b.1) ∙ e) in
        let cons : row.cons ≡ b.0.cons = ap (λ (r : TypeName). r.cons) (sym is) ∙ chosen_cons group c n b.0 in
        let o = cons_at fa fb a.0.cons b.0.cons k con x b.2 (ap (λ cs. slice_get cs k) (sym cons) ∙ q) w in
        let mine = h (chosen group c n a.0) k o.0 o.1 (at_zero c A n a.0 a.1) (ap (λ cs. slice_get cs k) (chosen_cons group c n a.0) ∙ o.2) o.3 in
        ap (λ t. admits (choose group c 0 B) (inst admitting t)) (sym o.4) ∙ sym (admits_same c (tree fa o.1.0) (g.1 a.0 k o.0 o.1 a.1 o.2 o.3)) ∙ mine

    back : (c : ℕ → Bool) (n : ℕ) → is_in group n ≡ true → ArgumentsAdmit fb (choose group c 0 B) n → ArgumentsAdmit fa (choose group c 0 A) n
    back c n m h row k con x e q w =
        let g = in_group (λ i. (i < length A) × ((a : TypeName) (l : ℕ) (d : ConRow) (y : Ty) → slice_get A i ≡ Some a → slice_get a.cons l ≡ Some d → d.arg ≡ Some y → IsMade marks (length A) (tree fa y.0))) group n are m in
        let a = there_is A n g.0 in
        let b = agrees n a.0 a.1 in
        let is : chosen group c n a.0 ≡ row = some_eq (chosen group c n a.0) row (sym (at_zero c A n a.0 a.1) ∙ e) in
        let cons : row.cons ≡ a.0.cons = ap (λ (r : TypeName). r.cons) (sym is) ∙ chosen_cons group c n a.0 in
        let here = ap (λ cs. slice_get cs k) (sym cons) ∙ q in
        let o = cons_at fb fa b.0.cons a.0.cons k con x (sym b.2) here w in
        let theirs = h (chosen group c n b.0) k o.0 o.1 (at_zero c B n b.0 b.1) (ap (λ cs. slice_get cs k) (chosen_cons group c n b.0) ∙ o.2) o.3 in
        admits_same c (tree fa x.0) (g.1 a.0 k con x a.1 here w) ∙ ap (λ t. admits (choose group c 0 B) (inst admitting t)) (sym o.4) ∙ theirs

    allowed_there : (c : ℕ → Bool) → IsAllowed fa A group c → IsAllowed fb B group c
    allowed_there c h = all_members (λ n. c n ≡ true → ArgumentsAdmit fb (choose group c 0 B) n) group (λ n m e. there c n m (in_group (λ i. c i ≡ true → ArgumentsAdmit fa (choose group c 0 A) i) group n h m e))

    allowed_back : (c : ℕ → Bool) → IsAllowed fb B group c → IsAllowed fa A group c
    allowed_back c h = all_members (λ n. c n ≡ true → ArgumentsAdmit fa (choose group c 0 A) n) group (λ n m e. back c n m (in_group (λ i. c i ≡ true → ArgumentsAdmit fb (choose group c 0 B) i) group n h m e))

    -- the greatest choice goes over to tables that go on these
    pub greatest_there : ((n : ℕ) (a : TypeName) → slice_get A n ≡ Some a → slice_get B n ≡ Some a) → IsGreatest fa A group → IsGreatest fb B group
    greatest_there same g =
        record {
          choice = g.choice;
          chosen = all_chosen group g.choice 0 B as_chosen;
          allowed = allowed_there g.choice g.allowed;
          greatest = λ other h. g.greatest other (allowed_back other h);
        }
      where
        as_chosen : (n : ℕ) (row : TypeName) → slice_get B n ≡ Some row → is_in group (0 + n) ≡ true → row.eq ≡ cond (g.choice (0 + n)) Parts Never
        as_chosen n row q m =
            let z : 0 + n ≡ n = omega arith in
            let m2 : is_in group n ≡ true = ap (is_in group) (sym z) ∙ m in
            let k = in_group (λ i. (i < length A) × ((a : TypeName) (l : ℕ) (d : ConRow) (y : Ty) → slice_get A i ≡ Some a → slice_get a.cons l ≡ Some d → d.arg ≡ Some y → IsMade marks (length A) (tree fa y.0))) group n are m2 in
            let a = there_is A n k.0 in
            let is : a.0 ≡ row = some_eq a.0 row (sym (same n a.0 a.1) ∙ q) in
            ap (λ (r : TypeName). r.eq) (sym is) ∙ eq_chosen group g.choice A n a.0 g.chosen a.1 m2 ∙ ap (λ i. cond (g.choice i) Parts Never) (sym z)

    both_ways : (a b : Bool) → (a ≡ true → b ≡ true) → (b ≡ true → a ≡ true) → a ≡ b
    both_ways true b f g = sym (f refl)
    both_ways false true f g = g refl
    both_ways false false f g = refl

    -- the rows of the group admit equality in both alike
    pub greatest_same : IsGreatest fa A group → IsGreatest fb B group → (n : ℕ) (a b : TypeName) → is_in group n ≡ true → slice_get A n ≡ Some a → slice_get B n ≡ Some b → a.eq ≡ b.eq
    greatest_same g h n a b m q r =
        let mine = in_group (λ i. h.choice i ≡ true → g.choice i ≡ true) group n (g.greatest h.choice (allowed_back h.choice h.allowed)) m in
        let theirs = in_group (λ i. g.choice i ≡ true → h.choice i ≡ true) group n (h.greatest g.choice (allowed_there g.choice g.allowed)) m in
        eq_chosen group g.choice A n a g.chosen q m ∙ ap (λ c. cond c Parts Never) (both_ways (g.choice n) (h.choice n) theirs mine) ∙ sym (eq_chosen group h.choice B n b h.chosen r m)
