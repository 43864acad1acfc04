-- Names of a group, one after another, with sets of places.
use Rattle.std.proofs.Common.{◌≡◌, ℕ, zero, suc, ◌+◌, ◌<◌, ◌≤◌, ◌==◌, Bool, true, false, List, [], ◌∷◌, ◌++◌, cond, length, drop, refl, sym, ap, ◌∙◌, subst, arith, length-set}
use Rattle.std.specs.Prelude.{slice_set, slice_index_or, ◌||◌}
use Rattle.std.specs.List.{AllByRecursion}
use Rattle.std.proofs.Math.Seq.{drop-cons}
use Rattle.closure_ir.specs.declared.body.Maker.{Maker}
use Rattle.placed_ir.specs.declared.body.Step.{Step}
use Rattle.placed_ir.specs.declared.body.Step.TheVariants as step
use Rattle.place_laws.specs.Live.{is_in}
use Rattle.place_laws.specs.Place.{least_free, home_of, maker_length}
use Rattle.closed_live.specs.Same.{AreSame}
use Rattle.place_bodies.specs.Steps.{name_steps, group_table}
use Rattle.place_bodies.proofs.Least.{least_same}

more_same : (ts ss : List ℕ) → AreSame ts ss → AreSame (least_free ts ∷ ts) (least_free ss ∷ ss)
more_same ts ss g = subst (λ q. AreSame (least_free ts ∷ ts) (q ∷ ss)) (least_same ts ss g) (λ z. ap (λ b. (least_free ts == z) || b) (g z))

pub steps_same : (alive : List ℕ) (makers : List Maker) (offset : ℕ) (ts ss : List ℕ) → AreSame ts ss → name_steps alive makers offset ts ≡ name_steps alive makers offset ss
steps_same alive [] offset ts ss g = refl
steps_same alive (m ∷ makers) offset ts ss g =
    let on = offset + suc (maker_length m) in
    ap (λ q. cond (is_in m.var alive) (step.Name (home_of q) offset ∷ name_steps alive makers on (least_free ts ∷ ts)) (name_steps alive makers on ts)) (least_same ts ss g)
    ∙ ap (λ rest. cond (is_in m.var alive) (step.Name (home_of (least_free ss)) offset ∷ rest) (name_steps alive makers on ts)) (steps_same alive makers on (least_free ts ∷ ts) (least_free ss ∷ ss) (more_same ts ss g))
    ∙ ap (cond (is_in m.var alive) (step.Name (home_of (least_free ss)) offset ∷ name_steps alive makers on (least_free ss ∷ ss))) (steps_same alive makers on ts ss g)

pub table_same : (alive : List ℕ) (makers : List Maker) (ts ss t : List ℕ) → AreSame ts ss → group_table alive makers ts t ≡ group_table alive makers ss t
table_same alive [] ts ss t g = refl
table_same alive (m ∷ makers) ts ss t g =
    ap (λ q. cond (is_in m.var alive) (group_table alive makers (least_free ts ∷ ts) (slice_set t m.var q)) (group_table alive makers ts t)) (least_same ts ss g)
    ∙ ap (λ rest. cond (is_in m.var alive) rest (group_table alive makers ts t)) (table_same alive makers (least_free ts ∷ ts) (least_free ss ∷ ss) (slice_set t m.var (least_free ss)) (more_same ts ss g))
    ∙ ap (cond (is_in m.var alive) (group_table alive makers (least_free ss ∷ ss) (slice_set t m.var (least_free ss)))) (table_same alive makers ts ss t g)

-- ---- One more

front : (makers : List Maker) (i : ℕ) (d m : Maker) → i < length makers → m ≡ slice_index_or makers i d → drop i makers ≡ m ∷ drop (i + 1) makers
front makers i d m lt e =
    let up : suc i ≡ i + 1 = omega arith in
    drop-cons makers i d lt ∙ ap (λ k. k ∷ drop (suc i) makers) (sym e) ∙ ap (λ j. m ∷ drop j makers) up

pub append_assoc : (xs ys zs : List Step) → (xs ++ ys) ++ zs ≡ xs ++ (ys ++ zs)
append_assoc [] ys zs = refl
append_assoc (x ∷ xs) ys zs = ap (λ ws. x ∷ ws) (append_assoc xs ys zs)

pub append_none : (xs : List Step) → xs ++ [] ≡ xs
append_none [] = refl
append_none (x ∷ xs) = ap (λ ws. x ∷ ws) (append_none xs)

pub names_more : (alive : List ℕ) (makers : List Maker) (i : ℕ) (d m : Maker) (offset next : ℕ) (ts ss : List ℕ) (old new all : List Step) → i < length makers → m ≡ slice_index_or makers i d → next ≡ offset + suc (maker_length m) →
    AreSame ss (cond (is_in m.var alive) (least_free ts ∷ ts) ts) →
    new ≡ old ++ cond (is_in m.var alive) (step.Name (home_of (least_free ts)) offset ∷ []) [] →
    old ++ name_steps alive (drop i makers) offset ts ≡ all → new ++ name_steps alive (drop (i + 1) makers) next ss ≡ all
names_more alive makers i d m offset next ts ss old new all lt e f g n h =
    let rest = drop (i + 1) makers in
    let on = offset + suc (maker_length m) in
    let whole : old ++ name_steps alive (m ∷ rest) offset ts ≡ all = subst (λ ms. old ++ name_steps alive ms offset ts ≡ all) (front makers i d m lt e) h in
    ap (λ xs. xs ++ name_steps alive rest next ss) n ∙ ap (λ k. (old ++ cond (is_in m.var alive) (step.Name (home_of (least_free ts)) offset ∷ []) []) ++ name_steps alive rest k ss) f ∙ by rest on (is_in m.var alive) g ∙ whole
  where
    by : (rest : List Maker) (on : ℕ) (b : Bool) → AreSame ss (cond b (least_free ts ∷ ts) ts) → (old ++ cond b (step.Name (home_of (least_free ts)) offset ∷ []) []) ++ name_steps alive rest on ss ≡ old ++ cond b (step.Name (home_of (least_free ts)) offset ∷ name_steps alive rest on (least_free ts ∷ ts)) (name_steps alive rest on ts)
    by rest on true s =
        append_assoc old (step.Name (home_of (least_free ts)) offset ∷ []) (name_steps alive rest on ss) ∙ ap (λ xs. old ++ (step.Name (home_of (least_free ts)) offset ∷ xs)) (steps_same alive rest on ss (least_free ts ∷ ts) s)
    by rest on false s = ap (λ xs. xs ++ name_steps alive rest on ss) (append_none old) ∙ ap (λ xs. old ++ xs) (steps_same alive rest on ss ts s)

pub table_more : (alive : List ℕ) (makers : List Maker) (i : ℕ) (d m : Maker) (ts ss old new all : List ℕ) → i < length makers → m ≡ slice_index_or makers i d →
    AreSame ss (cond (is_in m.var alive) (least_free ts ∷ ts) ts) →
    new ≡ cond (is_in m.var alive) (slice_set old m.var (least_free ts)) old →
    group_table alive (drop i makers) ts old ≡ all → group_table alive (drop (i + 1) makers) ss new ≡ all
table_more alive makers i d m ts ss old new all lt e g n h =
    let rest = drop (i + 1) makers in
    let whole : group_table alive (m ∷ rest) ts old ≡ all = subst (λ ms. group_table alive ms ts old ≡ all) (front makers i d m lt e) h in
    ap (group_table alive rest ss) n ∙ by rest (is_in m.var alive) g ∙ whole
  where
    by : (rest : List Maker) (b : Bool) → AreSame ss (cond b (least_free ts ∷ ts) ts) → group_table alive rest ss (cond b (slice_set old m.var (least_free ts)) old) ≡ cond b (group_table alive rest (least_free ts ∷ ts) (slice_set old m.var (least_free ts))) (group_table alive rest ts old)
    by rest true s = table_same alive rest ss (least_free ts ∷ ts) (slice_set old m.var (least_free ts)) s
    by rest false s = table_same alive rest ss ts old s

pub length_more : (m : Maker) (alive ts old new : List ℕ) (n : ℕ) → new ≡ cond (is_in m.var alive) (slice_set old m.var (least_free ts)) old → length old ≡ n → length new ≡ n
length_more m alive ts old new n e h = ap length e ∙ by (is_in m.var alive) ∙ h
  where
    by : (b : Bool) → length (cond b (slice_set old m.var (least_free ts)) old) ≡ length old
    by true = length-set old m.var (least_free ts)
    by false = refl

pub all_at : {A : Type 0} (P : A → Type 0) (xs : List A) (i : ℕ) (d : A) → AllByRecursion P xs → i < length xs → P (slice_index_or xs i d)
all_at P [] i d h lt = absurd (omega arith)
all_at P (x ∷ xs) zero d h lt = h.0
all_at P (x ∷ xs) (suc i) d h lt = all_at P xs i d h.1 (omega arith)

pub past : {A : Type 0} (xs : List A) (i : ℕ) → length xs ≤ i → drop i xs ≡ []
past [] zero h = refl
past [] (suc i) h = refl
past (x ∷ xs) zero h = absurd (omega arith)
past (x ∷ xs) (suc i) h = past xs i (omega arith)

pub names_end : (alive : List ℕ) (makers : List Maker) (i offset : ℕ) (ts : List ℕ) (new all : List Step) → length makers ≤ i → new ++ name_steps alive (drop i makers) offset ts ≡ all → new ≡ all
names_end alive makers i offset ts new all le h =
    sym (append_none new) ∙ subst (λ ms. new ++ name_steps alive ms offset ts ≡ all) (past makers i le) h

pub table_end : (alive : List ℕ) (makers : List Maker) (i : ℕ) (ts new all : List ℕ) → length makers ≤ i → group_table alive (drop i makers) ts new ≡ all → new ≡ all
table_end alive makers i ts new all le h = subst (λ ms. group_table alive ms ts new ≡ all) (past makers i le) h
