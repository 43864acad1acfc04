-- Rounds strike out only what is in no choice that is allowed, and the last one leaves a choice that is.
use Rattle.std.proofs.Common.{◌≡◌, ℕ, zero, suc, ◌+◌, ◌<◌, ◌≤◌, Bool, true, false, cond, not, List, [], ◌∷◌, length, Option, Some, None, refl, sym, ap, ◌∙◌, arith, subst, nat_eq, ◌++◌, take}
use Rattle.std.specs.Prelude.{slice_get, slice_set, ◌&&◌, ◌||◌}
use Rattle.std.specs.List.{AllByRecursion, list_all}
use Rattle.std.proofs.lemmas.Bool.{eq-eqb, eqb-true}
use Rattle.sml_types.specs.declared.types.Ty.{Ty}
use Rattle.sml_types.specs.declared.types.TyForm.{TyForm}
use Rattle.sml_types.specs.declared.tables.Equality.{Equality}
use Rattle.sml_types.specs.declared.tables.Equality.TheVariants.{Never, Always, Parts}
use Rattle.sml_types.specs.declared.tables.ConRow.{ConRow}
use Rattle.sml_types.specs.declared.tables.TypeName.{TypeName}
use Rattle.sml_types.specs.Tree.{inst, admits}
use Rattle.sml_types.specs.Forms.{tree}
use Rattle.sml_types.specs.Poly.{is_in}
use Rattle.sml_types.specs.Equality.{choose, admitting, ArgumentsAdmit, IsAllowed, IsGreatest}
use Rattle.infer_parts.specs.Held.{held_at, AreHeld, any_var, by_names}
use Rattle.infer_parts.specs.Rounds.{with_eq, eq_set, option_held, argument_held, if_parts, row_fails, fails, struck_one, struck_all, any_struck, all_chosen, AreArgumentsThere}
use Rattle.sml_types.proofs.TreeFacts.{or_none}
use Rattle.infer_parts.proofs.HeldFacts.{admits_is_held}
use Rattle.infer_parts.proofs.EqualityFacts.{IsLess, row_in, struck, is_greatest, in_group, all_members}

-- ---- Rows

pub set_is : (names : List TypeName) (n : ℕ) (row : TypeName) (q : Equality) → slice_get names n ≡ Some row → slice_set names n (with_eq q row) ≡ eq_set names n q
set_is [] n row q e = cc
set_is (r ∷ names) zero row q e = let same : r ≡ row = cc in ap (λ x. with_eq q x ∷ names) (sym same)
set_is (r ∷ names) (suc n) row q e = ap (λ rs. r ∷ rs) (set_is names n row q e)

pub set_past : (names : List TypeName) (n : ℕ) (q : Equality) → length names ≤ n → eq_set names n q ≡ names
set_past [] n q l = refl
set_past (r ∷ names) zero q l = absurd (omega arith)
set_past (r ∷ names) (suc n) q l = ap (λ rs. r ∷ rs) (set_past names n q (omega arith))

choose_same : (group : List ℕ) (a b : ℕ → Bool) (k : ℕ) (names : List TypeName) → ((m : ℕ) → k ≤ m → a m ≡ b m) → choose group a k names ≡ choose group b k names
choose_same group a b k [] h = refl
choose_same group a b k (n ∷ names) h =
    let l = ap (λ w. cond (is_in group k) (record { text = n.text; params = n.params; eq = cond w Parts Never; cons = n.cons }) n) (h k (omega arith)) in
    let r = choose_same group a b (suc k) names (λ m lo. h m (omega arith)) in cc

-- a choice, but for one number
but : ℕ → Bool → (ℕ → Bool) → ℕ → Bool
but x b c m = cond (nat_eq m x) b (c m)

but_here : (x : ℕ) (b : Bool) (c : ℕ → Bool) → but x b c x ≡ b
unfolding but
but_here x b c = ap (λ w. cond w b (c x)) (eq-eqb x x refl)

not_eq : (m x : ℕ) → (m ≡ x → ⊥) → nat_eq m x ≡ false
not_eq m x n = by (nat_eq m x) refl
  where
    by : (w : Bool) → nat_eq m x ≡ w → nat_eq m x ≡ false
    by true e = absurd (n (eqb-true m x e))
    by false e = e

but_other : (x : ℕ) (b : Bool) (c : ℕ → Bool) (m : ℕ) → (m ≡ x → ⊥) → but x b c m ≡ c m
unfolding but
but_other x b c m n = ap (λ w. cond w b (c m)) (not_eq m x n)

row_set : (member w b : Bool) (n : TypeName) → member ≡ true → with_eq (cond b Parts Never) (cond member (record { text = n.text; params = n.params; eq = cond w Parts Never; cons = n.cons }) n) ≡ cond member (record { text = n.text; params = n.params; eq = cond b Parts Never; cons = n.cons }) n
row_set true w b n e = refl
row_set false w b n e = cc

-- to set the equality of a member is to choose otherwise
choose_set : (group : List ℕ) (c : ℕ → Bool) (k : ℕ) (names : List TypeName) (n x : ℕ) (b : Bool) → x ≡ k + n → is_in group x ≡ true → eq_set (choose group c k names) n (cond b Parts Never) ≡ choose group (but x b c) k names
choose_set group c k [] n x b e g = refl
choose_set group c k (row ∷ names) zero x b e g =
    let here : x ≡ k = omega arith in
    let head = row_set (is_in group k) (c k) b row (subst (λ j. is_in group j ≡ true) here g) ∙ ap (λ w. cond (is_in group k) (record { text = row.text; params = row.params; eq = cond w Parts Never; cons = row.cons }) row) (sym (ap (λ j. but j b c k) here ∙ but_here k b c)) in
    let tail = choose_same group c (but x b c) (suc k) names (λ m lo. sym (but_other x b c m (λ s. absurd (omega arith)))) in cc
choose_set group c k (row ∷ names) (suc n) x b e g =
    let head = ap (λ w. cond (is_in group k) (record { text = row.text; params = row.params; eq = cond w Parts Never; cons = row.cons }) row) (sym (but_other x b c k (λ s. absurd (omega arith)))) in
    let tail = choose_set group c (suc k) names n x b (omega arith) g in cc

-- ---- Arguments

and_split : (a b : Bool) → (a && b) ≡ true → (a ≡ true) × (b ≡ true)
and_split true b e = (refl, e)
and_split false b e = cc

module _ (forms : List TyForm) (names : List TypeName) (table : List Bool) (h : AreHeld any_var (by_names names) forms 0 (length forms) table) where
  held_is : (a : Ty) → a.0 < length forms → held_at 0 table a.0 ≡ admits names (inst admitting (tree forms a.0))
  held_is a l = h.each a.0 (omega arith) l ∙ sym (admits_is_held names (tree forms a.0))

  one_held : (c : ConRow) (o : Option Ty) → c.arg ≡ o → ((a : Ty) → c.arg ≡ Some a → held_at 0 table a.0 ≡ true) → argument_held table c ≡ true
  one_held c None e f = ap (option_held table) e
  one_held c (Some a) e f = ap (option_held table) e ∙ f a e

  all_held_from : (cons : List ConRow) → ((k : ℕ) (c : ConRow) (a : Ty) → slice_get cons k ≡ Some c → c.arg ≡ Some a → held_at 0 table a.0 ≡ true) → list_all (λ c. argument_held table c) cons ≡ true
  all_held_from [] f = refl
  all_held_from (c ∷ cons) f =
      ap (λ w. w && list_all (λ d. argument_held table d) cons) (one_held c c.arg refl (λ a e. f 0 c a refl e)) ∙ all_held_from cons (λ k d a e q. f (suc k) d a e q)

  held_from_all : (cons : List ConRow) (k : ℕ) (c : ConRow) (a : Ty) → list_all (λ d. argument_held table d) cons ≡ true → slice_get cons k ≡ Some c → c.arg ≡ Some a → held_at 0 table a.0 ≡ true
  held_from_all [] k c a e q r = cc
  held_from_all (d ∷ cons) zero c a e q r =
      let same : d ≡ c = cc in
      let p = and_split (argument_held table d) (list_all (λ x. argument_held table x) cons) e in
      sym (ap (option_held table) r) ∙ sym (ap (argument_held table) same) ∙ p.0
  held_from_all (d ∷ cons) (suc k) c a e q r =
      let p = and_split (argument_held table d) (list_all (λ x. argument_held table x) cons) e in held_from_all cons k c a p.1 q r

-- ---- The first choice

choose_skip : (group : List ℕ) (c : ℕ → Bool) (n k : ℕ) (names : List TypeName) → n < k → choose (n ∷ group) c k names ≡ choose group c k names
choose_skip group c n k [] l = refl
choose_skip group c n k (row ∷ names) l =
    let head = ap (λ w. cond (w || is_in group k) (record { text = row.text; params = row.params; eq = cond (c k) Parts Never; cons = row.cons }) row) (not_eq k n (λ e. absurd (omega arith))) in
    let tail = choose_skip group c n (suc k) names (omega arith) in cc

twice_parts : (member : Bool) (row : TypeName) → with_eq Parts row ≡ cond member (record { text = row.text; params = row.params; eq = Parts; cons = row.cons }) (with_eq Parts row)
twice_parts true row = refl
twice_parts false row = refl

choose_first : (group : List ℕ) (n j k : ℕ) (names : List TypeName) → n ≡ k + j → choose group (λ m. true) k (eq_set names j Parts) ≡ choose (n ∷ group) (λ m. true) k names
choose_first group n j k [] e = refl
choose_first group n zero k (row ∷ names) e =
    let here : k ≡ n = omega arith in
    let head = sym (twice_parts (is_in group k) row) ∙ sym (ap (λ w. cond (w || is_in group k) (with_eq Parts row) row) (eq-eqb k n here)) in
    let tail = sym (choose_skip group (λ m. true) n (suc k) names (omega arith)) in cc
choose_first group n (suc j) k (row ∷ names) e =
    let head = sym (ap (λ w. cond (w || is_in group k) (with_eq Parts row) row) (not_eq k n (λ s. absurd (omega arith)))) in
    let tail = choose_first group n j (suc k) names (omega arith) in cc

choose_none : (c : ℕ → Bool) (k : ℕ) (names : List TypeName) → choose [] c k names ≡ names
choose_none c k [] = refl
choose_none c k (row ∷ names) = ap (λ rs. row ∷ rs) (choose_none c (suc k) names)

all_are_chosen : (group : List ℕ) (names : List TypeName) → all_chosen group names ≡ choose group (λ m. true) 0 names
all_are_chosen [] names = sym (choose_none (λ m. true) 0 names)
all_are_chosen (n ∷ group) names = all_are_chosen group (eq_set names n Parts) ∙ choose_first group n n 0 names (omega arith)

-- ---- Rows of a choice

row_of : (group : List ℕ) (c : ℕ → Bool) (k : ℕ) (names : List TypeName) (i : ℕ) (row : TypeName) → slice_get (choose group c k names) i ≡ Some row → (other : TypeName) × (slice_get names i ≡ Some other) × (other.cons ≡ row.cons)
row_of group c k [] i row e = cc
row_of group c k (n ∷ names) zero row e = by (is_in group k) (let same : cond (is_in group k) (record { text = n.text; params = n.params; eq = cond (c k) Parts Never; cons = n.cons }) n ≡ row = cc in same)
  where
    by : (member : Bool) → cond member (record { text = n.text; params = n.params; eq = cond (c k) Parts Never; cons = n.cons }) n ≡ row → (other : TypeName) × (Some n ≡ Some other) × (other.cons ≡ row.cons)
    by true q = (n, refl, ap (λ (r : TypeName). r.cons) q)
    by false q = (n, refl, ap (λ (r : TypeName). r.cons) q)
row_of group c k (n ∷ names) (suc i) row e = row_of group c (suc k) names i row e

pub there_chosen : (forms : List TyForm) (group : List ℕ) (c : ℕ → Bool) (names : List TypeName) → AreArgumentsThere forms names → AreArgumentsThere forms (choose group c 0 names)
there_chosen forms group c names h n k row d a e q r =
    let o = row_of group c 0 names n row e in h n k o.0 d a o.1 (ap (λ cons. slice_get cons k) o.2 ∙ q) r

failed : (table : List Bool) (o : Option TypeName) → row_fails table o ≡ true → (row : TypeName) × (o ≡ Some row) × (row.eq ≡ Parts) × (list_all (λ c. argument_held table c) row.cons ≡ false)
failed table None e = cc
failed table (Some row) e = by row.eq refl (list_all (λ c. argument_held table c) row.cons) refl
  where
    by : (q : Equality) → row.eq ≡ q → (b : Bool) → list_all (λ c. argument_held table c) row.cons ≡ b → (other : TypeName) × (Some row ≡ Some other) × (other.eq ≡ Parts) × (list_all (λ c. argument_held table c) other.cons ≡ false)
    by Never q b w = let z : false ≡ true = sym (ap (λ x. if_parts x (not (list_all (λ c. argument_held table c) row.cons))) q) ∙ e in cc
    by Always q b w = let z : false ≡ true = sym (ap (λ x. if_parts x (not (list_all (λ c. argument_held table c) row.cons))) q) ∙ e in cc
    by Parts q true w =
        let z : false ≡ true = sym (ap (λ x. if_parts x (not (list_all (λ c. argument_held table c) row.cons))) q ∙ ap not w) ∙ e in cc
    by Parts q false w = (row, refl, q, w)

not_failed : (table : List Bool) (row : TypeName) → row_fails table (Some row) ≡ false → row.eq ≡ Parts → list_all (λ c. argument_held table c) row.cons ≡ true
not_failed table row e q = by (list_all (λ c. argument_held table c) row.cons) refl
  where
    by : (b : Bool) → list_all (λ c. argument_held table c) row.cons ≡ b → list_all (λ c. argument_held table c) row.cons ≡ true
    by true w = w
    by false w =
        let z : true ≡ false = sym (ap (λ x. if_parts x (not (list_all (λ c. argument_held table c) row.cons))) q ∙ ap not w) ∙ e in cc

chosen_row : (member w : Bool) (n row : TypeName) → member ≡ true → w ≡ true → cond member (record { text = n.text; params = n.params; eq = cond w Parts Never; cons = n.cons }) n ≡ row → row.eq ≡ Parts
chosen_row true true n row g h e = ap (λ (r : TypeName). r.eq) (sym e)
chosen_row true false n row g h e = cc
chosen_row false w n row g h e = cc

chosen_eq : (group : List ℕ) (c : ℕ → Bool) (n k : ℕ) (rows : List TypeName) (i : ℕ) (row : TypeName) → n ≡ k + i → is_in group n ≡ true → c n ≡ true → slice_get (choose group c k rows) i ≡ Some row → row.eq ≡ Parts
chosen_eq group c n k [] i row e g w q = cc
chosen_eq group c n k (r ∷ rows) zero row e g w q =
    let here : n ≡ k = omega arith in
    chosen_row (is_in group k) (c k) r row (subst (λ j. is_in group j ≡ true) here g) (subst (λ j. c j ≡ true) here w) (let same : cond (is_in group k) (record { text = r.text; params = r.params; eq = cond (c k) Parts Never; cons = r.cons }) r ≡ row = cc in same)
chosen_eq group c n k (r ∷ rows) (suc i) row e g w q = chosen_eq group c n (suc k) rows i row (omega arith) g w q

-- ---- How many are taken to admit equality

count_eq : Equality → ℕ
count_eq Parts = 1
count_eq Never = 0
count_eq Always = 0

pub parts_count : List TypeName → ℕ
parts_count [] = 0
parts_count (row ∷ rows) = count_eq row.eq + parts_count rows

count_set : (names : List TypeName) (n : ℕ) (row : TypeName) → slice_get names n ≡ Some row → row.eq ≡ Parts → suc (parts_count (eq_set names n Never)) ≡ parts_count names
unfolding count_eq parts_count
count_set [] n row e q = cc
count_set (r ∷ names) zero row e q =
    let same : r ≡ row = cc in
    let one : count_eq r.eq ≡ 1 = ap (λ (x : TypeName). count_eq x.eq) same ∙ ap count_eq q in omega arith
count_set (r ∷ names) (suc n) row e q = let t = count_set names n row e q in omega arith

pub num : Bool → ℕ
num true = 1
num false = 0

one_count : (table : List Bool) (names : List TypeName) (n : ℕ) (b : Bool) → fails names table n ≡ b → parts_count (cond b (eq_set names n Never) names) + num b ≡ parts_count names
unfolding num
one_count table names n true e = let w = failed table (slice_get names n) e in let c = count_set names n w.0 w.1 w.2 in omega arith
one_count table names n false e = omega arith

pub fewer : (table : List Bool) (group : List ℕ) (names : List TypeName) → parts_count (struck_all table group names) + num (any_struck table group names) ≤ parts_count names
unfolding num
fewer table [] names = omega arith
fewer table (n ∷ group) names = by (fails names table n) refl (fewer table group (struck_one table n names))
  where
    by : (b : Bool) → fails names table n ≡ b → parts_count (struck_all table group (struck_one table n names)) + num (any_struck table group (struck_one table n names)) ≤ parts_count (struck_one table n names) → parts_count (struck_all table group (struck_one table n names)) + num (fails names table n || any_struck table group (struck_one table n names)) ≤ parts_count names
    by true e r =
        let c = one_count table names n true e in
        let s : parts_count (struck_one table n names) ≡ parts_count (eq_set names n Never) = ap (λ b. parts_count (cond b (eq_set names n Never) names)) e in
        let t = ap (λ b. num (b || any_struck table group (struck_one table n names))) e in
        omega arith
    by false e r =
        let s : parts_count (struck_one table n names) ≡ parts_count names = ap (λ b. parts_count (cond b (eq_set names n Never) names)) e in
        let t = ap (λ b. num (b || any_struck table group (struck_one table n names))) e in
        omega (arith, s, t)

-- where none was struck, all is as before, and none fails
pub none_struck : (table : List Bool) (group : List ℕ) (names : List TypeName) → any_struck table group names ≡ false → (struck_all table group names ≡ names) × AllByRecursion (λ n. fails names table n ≡ false) group
none_struck table [] names e = (refl, tt)
none_struck table (n ∷ group) names e =
    let p = or_none (fails names table n) (any_struck table group (struck_one table n names)) e in
    let same : struck_one table n names ≡ names = ap (λ b. cond b (eq_set names n Never) names) p.0 in
    let r = none_struck table group (struck_one table n names) p.1 in
    (r.0 ∙ same, (p.0, subst (λ rs. AllByRecursion (λ m. fails rs table m ≡ false) group) same r.1))

-- ---- Rounds

module _ (forms : List TyForm) (group : List ℕ) (names0 : List TypeName) where
  -- the tables by a choice that has all that any allowed choice has
  pub record IsRound (names : List TypeName) : Type 0 where
    pub choice : ℕ → Bool
    pub is : names ≡ choose group choice 0 names0
    pub most : (other : ℕ → Bool) → IsAllowed forms names0 group other → IsLess group other choice

  pub first_round : (names : List TypeName) → names ≡ all_chosen group names0 → IsRound names
  first_round names e = record { choice = λ m. true; is = e ∙ all_are_chosen group names0; most = λ other h n m o. refl }

module _ (forms : List TyForm) (group : List ℕ) (names0 : List TypeName) (args : AreArgumentsThere forms names0) where
  abbrev Round : List TypeName → Type 0
  Round names = IsRound forms group names0 names

  module _ (start : List TypeName) (r : Round start) (table : List Bool) (h : AreHeld any_var (by_names start) forms 0 (length forms) table) where
    fails_there : (names : List TypeName) (c : ℕ → Bool) (n : ℕ) → names ≡ choose group c 0 names0 → fails names table n ≡ true → ArgumentsAdmit forms (choose group r.choice 0 names0) n → ⊥
    fails_there names c n is f admit =
        let w = failed table (slice_get names n) f in
        let o = row_in group r.choice c 0 names0 n w.0 (ap (λ rs. slice_get rs n) (sym is) ∙ w.1) in
        let all = all_held_from forms start table h w.0.cons (λ k d a e q.
        let there : a.0 < length forms = there_chosen forms group r.choice names0 args n k o.0 d a o.1 (ap (λ cons. slice_get cons k) o.2 ∙ e) q in
        held_is forms start table h a there ∙ ap (λ rs. admits rs (inst admitting (tree forms a.0))) r.is ∙ admit o.0 k d a o.1 (ap (λ cons. slice_get cons k) o.2 ∙ e) q) in
        let z : false ≡ true = sym w.3 ∙ all in cc

    one_round : (names : List TypeName) (n : ℕ) → is_in group n ≡ true → Round names → (b : Bool) → fails names table n ≡ b → Round (cond b (eq_set names n Never) names)
    unfolding but
    one_round names n g s false f = s
    one_round names n g s true f =
        record {
          choice = but n false s.choice;
          is = ap (λ rs. eq_set rs n Never) s.is ∙ choose_set group s.choice 0 names0 n n false (omega arith) g;
          most = λ other allowed m member o. kept other allowed m member o (nat_eq m n) refl;
        }
      where
        kept : (other : ℕ → Bool) → IsAllowed forms names0 group other → (m : ℕ) → is_in group m ≡ true → other m ≡ true → (b : Bool) → nat_eq m n ≡ b → but n false s.choice m ≡ true
        kept other allowed m member o true e =
            let gone = struck forms names0 group other r.choice n allowed (r.most other allowed) g (fails_there names s.choice n s.is f) in
            let z : true ≡ false = sym o ∙ ap other (eqb-true m n e) ∙ gone in cc
        kept other allowed m member o false e = ap (λ w. cond w false (s.choice m)) e ∙ s.most other allowed m member o

    pub next_round : (left : List ℕ) (names : List TypeName) → AllByRecursion (λ n. is_in group n ≡ true) left → Round names → Round (struck_all table left names)
    next_round [] names g s = s
    next_round (n ∷ left) names g s = next_round left (struck_one table n names) g.1 (one_round names n g.0 s (fails names table n) refl)

  pub last_round : (names : List TypeName) (table : List Bool) → AreHeld any_var (by_names names) forms 0 (length forms) table → Round names → AllByRecursion (λ n. fails names table n ≡ false) group → IsGreatest forms names group
  last_round names table h s stable =
      subst (λ rs. IsGreatest forms rs group) (sym s.is) (is_greatest forms names0 group s.choice (all_members (λ n. s.choice n ≡ true → ArgumentsAdmit forms (choose group s.choice 0 names0) n) group allowed) s.most)
    where
      eq_here : (n k : ℕ) (rows : List TypeName) (i : ℕ) (row : TypeName) → n ≡ k + i → is_in group n ≡ true → s.choice n ≡ true → slice_get (choose group s.choice k rows) i ≡ Some row → row.eq ≡ Parts
      eq_here n k rows i row e g w q = chosen_eq group s.choice n k rows i row e g w q

      allowed : (n : ℕ) → is_in group n ≡ true → s.choice n ≡ true → ArgumentsAdmit forms (choose group s.choice 0 names0) n
      allowed n g w row k c a e q p =
          let here : slice_get names n ≡ Some row = ap (λ rs. slice_get rs n) s.is ∙ e in
          let fine = not_failed table row (sym (ap (row_fails table) here) ∙ in_group (λ m. fails names table m ≡ false) group n stable g) (eq_here n 0 names0 n row (omega arith) g w e) in
          let held = held_from_all forms names table h row.cons k c a fine q p in
          ap (λ rs. admits rs (inst admitting (tree forms a.0))) (sym s.is) ∙ sym (held_is forms names table h a (there_chosen forms group s.choice names0 args n k row c a e q p)) ∙ held

-- ---- Loops

pub taken : (n : ℕ) (xs zs : List TypeName) → length xs ≡ n → take n (xs ++ zs) ≡ xs
taken zero [] zs e = refl
taken (suc n) [] zs e = absurd (omega arith)
taken zero (x ∷ xs) zs e = absurd (omega arith)
taken (suc n) (x ∷ xs) zs e = ap (λ rs. x ∷ rs) (taken n xs zs (omega arith))

set_count : (names : List TypeName) (n : ℕ) (q : Equality) → length (eq_set names n q) ≡ length names
set_count [] n q = refl
set_count (r ∷ names) zero q = refl
set_count (r ∷ names) (suc n) q = ap suc (set_count names n q)

pub chosen_count : (group : List ℕ) (names : List TypeName) → length (all_chosen group names) ≡ length names
chosen_count [] names = refl
chosen_count (n ∷ group) names = chosen_count group (eq_set names n Parts) ∙ set_count names n Parts

one_struck_count : (table : List Bool) (n : ℕ) (names : List TypeName) (b : Bool) → length (cond b (eq_set names n Never) names) ≡ length names
one_struck_count table n names true = set_count names n Never
one_struck_count table n names false = refl

pub struck_count : (table : List Bool) (group : List ℕ) (names : List TypeName) → length (struck_all table group names) ≡ length names
struck_count table [] names = refl
struck_count table (n ∷ group) names = struck_count table group (struck_one table n names) ∙ one_struck_count table n names (fails names table n)

pub zero_above : (cs : List ℕ) → AllByRecursion (λ c. 0 ≤ c) cs
zero_above [] = tt
zero_above (c ∷ cs) = (omega arith, zero_above cs)

pub smaller : (table : List Bool) (group : List ℕ) (names after : List TypeName) (b going : Bool) → after ≡ struck_all table group names → b ≡ any_struck table group names → going ≡ true → parts_count after + num b < parts_count names + num going
unfolding num
smaller table group names after b going e f g =
    let x = ap parts_count e in let y = ap num f in let z = ap num g in let r = fewer table group names in omega arith

pub members : (group : List ℕ) → AllByRecursion (λ n. is_in group n ≡ true) group
members group = all_members (λ n. is_in group n ≡ true) group (λ n e. e)
