-- The greatest choice of the datatypes that admit equality: a larger choice admits more, so what is struck out of all is in no choice that is allowed.
use Rattle.std.proofs.Common.{◌≡◌, ℕ, zero, suc, Bool, true, false, cond, List, [], ◌∷◌, Some, refl, sym, ap, ◌∙◌, subst, nat_eq, ◌⊎◌, inl, inr}
use Rattle.std.specs.Prelude.{slice_get, ◌&&◌, ◌||◌}
use Rattle.std.specs.List.{AllByRecursion}
use Rattle.std.proofs.lemmas.Bool.{eq-eqb, eqb-true}
use Rattle.sml_types.specs.declared.types.TyForm.{TyForm}
use Rattle.sml_types.specs.declared.tables.Equality.{Equality}
use Rattle.sml_types.specs.declared.tables.Equality.TheVariants.{Never, Parts}
use Rattle.sml_types.specs.declared.tables.TypeName.{TypeName}
use Rattle.sml_types.specs.Tree.{Head, ArrowHead, FieldsHead, NameHead, Tree, Variable, App, NoParts, Part, inst, admits, by_equality, head_equality, name_equality}
use Rattle.sml_types.specs.Forms.{tree}
use Rattle.sml_types.specs.Poly.{is_in}
use Rattle.sml_types.specs.Equality.{choose, admitting, ArgumentsAdmit, IsAllowed, IsGreatest}
use Rattle.sml_types.proofs.TreeFacts.{and_both, by_mono, or_right}

-- what the one choice has, the other has too
abbrev pub IsLess : List ℕ → (ℕ → Bool) → (ℕ → Bool) → Type 0
IsLess group a b = (n : ℕ) → is_in group n ≡ true → a n ≡ true → b n ≡ true

-- equality is given up, or is the same
abbrev Rises : Equality → Equality → Type 0
Rises p q = (p ≡ Never) ⊎ (p ≡ q)

choice_rises : (a b : Bool) → (a ≡ true → b ≡ true) → Rises (cond a Parts Never) (cond b Parts Never)
choice_rises true b h = inr (ap (λ c. cond c Parts Never) (sym (h refl)))
choice_rises false b h = inl refl

row_rises : (member : Bool) (n : TypeName) (a b : Bool) → (member ≡ true → a ≡ true → b ≡ true) → Rises (name_equality (Some (cond member (record { text = n.text; params = n.params; eq = cond a Parts Never; cons = n.cons }) n))) (name_equality (Some (cond member (record { text = n.text; params = n.params; eq = cond b Parts Never; cons = n.cons }) n)))
row_rises true n a b h = choice_rises a b (h refl)
row_rises false n a b h = inr refl

rises_at : (group : List ℕ) (a b : ℕ → Bool) (k : ℕ) (names : List TypeName) (i : ℕ) → IsLess group a b → Rises (name_equality (slice_get (choose group a k names) i)) (name_equality (slice_get (choose group b k names) i))
rises_at group a b k [] i h = inr refl
rises_at group a b k (n ∷ names) zero h = row_rises (is_in group k) n (a k) (b k) (h k)
rises_at group a b k (n ∷ names) (suc i) h = rises_at group a b (suc k) names i h

head_rises : (group : List ℕ) (a b : ℕ → Bool) (names : List TypeName) (h : Head) → IsLess group a b → Rises (head_equality (choose group a 0 names) h) (head_equality (choose group b 0 names) h)
head_rises group a b names ArrowHead l = inr refl
head_rises group a b names (FieldsHead labs) l = inr refl
head_rises group a b names (NameHead n) l = rises_at group a b 0 names n l

by_rises : (p q : Equality) (x y : Bool) → Rises p q → (x ≡ true → y ≡ true) → by_equality p x ≡ true → by_equality q y ≡ true
by_rises p q x y (inl e) f h = let clash : false ≡ true = sym (ap (λ r. by_equality r x) e) ∙ h in cc
by_rises p q x y (inr e) f h = by_mono q x y f (ap (λ r. by_equality r x) (sym e) ∙ h)

-- a larger choice admits more
pub admits_more : (group : List ℕ) (a b : ℕ → Bool) (names : List TypeName) (t : Tree) → IsLess group a b → admits (choose group a 0 names) t ≡ true → admits (choose group b 0 names) t ≡ true
admits_more group a b names (Variable v) l h = h
admits_more group a b names (App c ts) l h =
    by_rises (head_equality (choose group a 0 names) c) (head_equality (choose group b 0 names) c) (admits (choose group a 0 names) ts) (admits (choose group b 0 names) ts) (head_rises group a b names c l) (λ e. admits_more group a b names ts l e) h
admits_more group a b names NoParts l h = refl
admits_more group a b names (Part t ts) l h =
    let w = and_both (admits (choose group a 0 names) t) (admits (choose group a 0 names) ts) h in
    ap (λ x. x && admits (choose group b 0 names) ts) (admits_more group a b names t l w.0) ∙ admits_more group a b names ts l w.1

-- ---- Rows are the same in each choice, but for equality

cons_same : (member : Bool) (n : TypeName) (p : Equality) → (cond member (record { text = n.text; params = n.params; eq = p; cons = n.cons }) n).cons ≡ n.cons
cons_same true n p = refl
cons_same false n p = refl

-- the row of a choice, from that of another
pub row_in : (group : List ℕ) (a b : ℕ → Bool) (k : ℕ) (names : List TypeName) (i : ℕ) (row : TypeName) → slice_get (choose group b k names) i ≡ Some row → (other : TypeName) × (slice_get (choose group a k names) i ≡ Some other) × (other.cons ≡ row.cons)
row_in group a b k [] i row e = cc
row_in group a b k (n ∷ names) zero row e =
    let same : cond (is_in group k) (record { text = n.text; params = n.params; eq = cond (b k) Parts Never; cons = n.cons }) n ≡ row = cc in
    (cond (is_in group k) (record { text = n.text; params = n.params; eq = cond (a k) Parts Never; cons = n.cons }) n, refl, cons_same (is_in group k) n (cond (a k) Parts Never) ∙ sym (cons_same (is_in group k) n (cond (b k) Parts Never)) ∙ ap (λ r. r.cons) same)
row_in group a b k (n ∷ names) (suc i) row e = row_in group a b (suc k) names i row e

-- what the arguments of a datatype admit under a choice, they admit under a larger one
pub arguments_more : (forms : List TyForm) (group : List ℕ) (a b : ℕ → Bool) (names : List TypeName) (n : ℕ) → IsLess group a b → ArgumentsAdmit forms (choose group a 0 names) n → ArgumentsAdmit forms (choose group b 0 names) n
arguments_more forms group a b names n l h row k c t e q w =
    let r = row_in group a b 0 names n row e in
    admits_more group a b names (inst admitting (tree forms t.0)) l (h r.0 k c t r.1 (ap (λ cons. slice_get cons k) r.2 ∙ q) w)

first_or_rest : (P : ℕ → Type 0) (n m : ℕ) (b rest : Bool) → nat_eq n m ≡ b → P m → (rest ≡ true → P n) → (b || rest) ≡ true → P n
first_or_rest P n m true rest q h later e = subst P (sym (eqb-true n m q)) h
first_or_rest P n m false rest q h later e = later e

pub in_group : (P : ℕ → Type 0) (group : List ℕ) (n : ℕ) → AllByRecursion P group → is_in group n ≡ true → P n
in_group P [] n h e = cc
in_group P (m ∷ group) n h e = first_or_rest P n m (nat_eq n m) (is_in group n) refl h.0 (λ r. in_group P group n h.1 r) e

pub all_members : (Q : ℕ → Type 0) (group : List ℕ) → ((n : ℕ) → is_in group n ≡ true → Q n) → AllByRecursion Q group
all_members Q [] h = tt
all_members Q (m ∷ group) h = (
  h m (ap (λ b. b || is_in group m) (eq-eqb m m refl)),
  all_members Q group (λ n e. h n (or_right (nat_eq n m) (is_in group n) e)),
)

row_twice : (member : Bool) (n : TypeName) (p q : Equality) → cond member (record { text = (cond member (record { text = n.text; params = n.params; eq = q; cons = n.cons }) n).text; params = (cond member (record { text = n.text; params = n.params; eq = q; cons = n.cons }) n).params; eq = p; cons = (cond member (record { text = n.text; params = n.params; eq = q; cons = n.cons }) n).cons }) (cond member (record { text = n.text; params = n.params; eq = q; cons = n.cons }) n) ≡ cond member (record { text = n.text; params = n.params; eq = p; cons = n.cons }) n
row_twice true n p q = refl
row_twice false n p q = refl

-- the last choice counts
choose_twice : (group : List ℕ) (a b : ℕ → Bool) (k : ℕ) (names : List TypeName) → choose group a k (choose group b k names) ≡ choose group a k names
choose_twice group a b k [] = refl
choose_twice group a b k (n ∷ names) = let l = row_twice (is_in group k) n (cond (a k) Parts Never) (cond (b k) Parts Never) in let r = choose_twice group a b (suc k) names in cc

-- a datatype with an argument that admits no equality under a choice is in no smaller choice that is allowed
pub struck : (forms : List TyForm) (names : List TypeName) (group : List ℕ) (a b : ℕ → Bool) (n : ℕ) → IsAllowed forms names group a → IsLess group a b → is_in group n ≡ true → (ArgumentsAdmit forms (choose group b 0 names) n → ⊥) → a n ≡ false
struck forms names group a b n allowed l member fails = by (a n) refl
  where
    by : (c : Bool) → a n ≡ c → c ≡ false
    by true e = absurd (fails (arguments_more forms group a b names n l (in_group (λ m. a m ≡ true → ArgumentsAdmit forms (choose group a 0 names) m) group n allowed member e)))
    by false e = refl

-- a choice that is allowed and has all that any such choice has is the greatest
pub is_greatest : (forms : List TyForm) (names : List TypeName) (group : List ℕ) (c : ℕ → Bool) → IsAllowed forms names group c → ((other : ℕ → Bool) → IsAllowed forms names group other → IsLess group other c) → IsGreatest forms (choose group c 0 names) group
is_greatest forms names group c allowed most =
    record {
      choice = c;
      chosen = choose_twice group c c 0 names;
      allowed = subst (λ rows. AllByRecursion (λ n. c n ≡ true → ArgumentsAdmit forms rows n) group) (sym (choose_twice group c c 0 names)) allowed;
      greatest = λ other h. all_members (λ n. other n ≡ true → c n ≡ true) group (most other (subst (λ rows. AllByRecursion (λ n. other n ≡ true → ArgumentsAdmit forms rows n) group) (choose_twice group other c 0 names) h));
    }
