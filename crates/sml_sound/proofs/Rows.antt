-- The fields of a record in the order of labels.
use Rattle.std.proofs.Common.{◌≡◌, ℕ, zero, suc, ◌+◌, ◌<◌, ◌≤◌, Bool, true, false, List, [], ◌∷◌, length, drop, Some, refl, sym, ap, ◌∙◌, subst, arith}
use Rattle.std.specs.Prelude.{slice_get, map, zip, nat_eq, cond, ◌||◌}
use Rattle.std.specs.Option.{option_map}
use Rattle.std.specs.List.{AllByRecursion, cons_option}
use Rattle.std.proofs.lemmas.Bool.{eqb-true, eq-eqb}
use Rattle.sml_tree.specs.declared.bare.Bare.{Bare}
use Rattle.sml_tree.specs.declared.bare.Lab.{Lab}
use Rattle.sml_tree.specs.declared.bare.Field.{Field}
use Rattle.sml_tree.specs.Sets.{has}
use Rattle.sml_tree.specs.IsBare.{IsDistinct}
use Rattle.sml_types.specs.declared.types.TyVar.{TyVar}
use Rattle.sml_types.specs.Tree.{Tree, inst}
use Rattle.sml_types.specs.TypeExps.{Labelled, IsRecord}
use Rattle.sml_types.specs.Typing.{Typing, fields_of}
use Rattle.sml_def.specs.State.{Value, Env, look, cut}
use Rattle.sml_def.specs.Step.{count_up, by_label}
use Rattle.sml_sound.proofs.Lists.{get_lt, get_map}
use Rattle.sml_sound.specs.TypedStates.{Entry, HasTy, HaveTys, BeforeTy}

-- ---- So many distinct numbers below a number are all of these

abbrev less : ℕ → List ℕ → List ℕ
less n [] = []
less n (x ∷ xs) = cond (nat_eq n x) (less n xs) (x ∷ less n xs)

less_same : (n : ℕ) (xs : List ℕ) → has xs n ≡ false → length (less n xs) ≡ length xs
less_same n [] h = refl
less_same n (x ∷ xs) h = go (nat_eq n x) h (less_same n xs)
  where
    go : (b : Bool) → (b || has xs n) ≡ false → (has xs n ≡ false → length (less n xs) ≡ length xs) → length (cond b (less n xs) (x ∷ less n xs)) ≡ suc (length xs)
    go true e rest = cc
    go false e rest = ap suc (rest e)

less_has : (n : ℕ) (xs : List ℕ) (y : ℕ) → has xs y ≡ false → has (less n xs) y ≡ false
less_has n [] y h = h
less_has n (x ∷ xs) y h = go (nat_eq n x) (nat_eq y x) refl h (less_has n xs y)
  where
    go : (b c : Bool) → nat_eq y x ≡ c → (c || has xs y) ≡ false → (has xs y ≡ false → has (less n xs) y ≡ false) → has (cond b (less n xs) (x ∷ less n xs)) y ≡ false
    go b true e h rest = cc
    go true false e h rest = rest h
    go false false e h rest = ap (λ c. c || has (less n xs) y) e ∙ rest h

less_distinct : (n : ℕ) (xs : List ℕ) → IsDistinct xs → IsDistinct (less n xs)
less_distinct n [] h = tt
less_distinct n (x ∷ xs) h = go (nat_eq n x) (less_distinct n xs h.1)
  where
    go : (b : Bool) → IsDistinct (less n xs) → IsDistinct (cond b (less n xs) (x ∷ less n xs))
    go true k = k
    go false k = (less_has n xs x h.0, k)

less_below : (n : ℕ) (xs : List ℕ) → AllByRecursion (λ x. x < suc n) xs → AllByRecursion (λ x. x < n) (less n xs)
less_below n [] h = tt
less_below n (x ∷ xs) h = go (nat_eq n x) refl (less_below n xs h.1)
  where
    differs : nat_eq n x ≡ false → n ≡ x → ⊥
    differs e d = let a = eq-eqb n x d in cc

    go : (b : Bool) → nat_eq n x ≡ b → AllByRecursion (λ x. x < n) (less n xs) → AllByRecursion (λ x. x < n) (cond b (less n xs) (x ∷ less n xs))
    go true e k = k
    go false e k = (omega (arith, h.0, differs e), k)

less_length : (n : ℕ) (xs : List ℕ) → IsDistinct xs → length xs ≤ suc (length (less n xs))
less_length n [] h = omega arith
less_length n (x ∷ xs) h = go (nat_eq n x) refl (less_length n xs h.1)
  where
    go : (b : Bool) → nat_eq n x ≡ b → length xs ≤ suc (length (less n xs)) → suc (length xs) ≤ suc (length (cond b (less n xs) (x ∷ less n xs)))
    go true e k =
        let same : n ≡ x = eqb-true n x e in
        let l : length (less n xs) ≡ length xs = less_same n xs (ap (has xs) same ∙ h.0) in omega arith
    go false e k = omega (arith, k)

few : (n : ℕ) (xs : List ℕ) → IsDistinct xs → AllByRecursion (λ x. x < n) xs → length xs ≤ n
few zero [] d h = omega arith
few zero (x ∷ xs) d h = absurd (omega (arith, h.0))
few (suc n) xs d h =
    let k = few n (less n xs) (less_distinct n xs d) (less_below n xs h) in
    let l = less_length n xs d in omega arith

all_there : (n k : ℕ) (xs : List ℕ) → IsDistinct xs → AllByRecursion (λ x. x < n) xs → length xs ≡ n → k < n → has xs k ≡ true
all_there n k xs d h l lt = go (has xs k) refl
  where
    go : (b : Bool) → has xs k ≡ b → b ≡ true
    go true e = refl
    go false e = let m = few n (k ∷ xs) (e, d) (lt, h) in absurd (omega arith)

-- ---- Values by their slots

module _ (p : Bare) (t : Typing) (sig : List Entry) (g : TyVar → Tree) where
  length_map : (us : List Tree) → length (map (inst g) us) ≡ length us
  length_map [] = refl
  length_map (u ∷ us) = ap suc (length_map us)

  abbrev pub Placed : List Tree → List Field → Type 0
  Placed us fields = AllByRecursion (λ f. slice_get us f.slot ≡ Some (inst g (t.types f.node))) fields

  pub placed_in : (labs : List Lab) (us : List Tree) (fields : List Field) → AllByRecursion (λ (f : Labelled). (slice_get labs f.slot ≡ Some f.lab) × (slice_get us f.slot ≡ Some f.ty)) (fields_of p t fields) → Placed (map (inst g) us) fields
  placed_in labs us [] h = tt
  placed_in labs us (f ∷ fields) h = (get_map (inst g) us f.slot (t.types f.node) h.0.1, placed_in labs us fields h.1)

  abbrev pub slots : List Field → List ℕ
  slots fields = map (λ f. f.slot) fields

  slots_below : (us : List Tree) (fields : List Field) → Placed us fields → AllByRecursion (λ x. x < length us) (slots fields)
  slots_below us [] h = tt
  slots_below us (f ∷ fields) h = (get_lt us f.slot (inst g (t.types f.node)) h.0, slots_below us fields h.1)

  slots_length : (fields : List Field) → length (slots fields) ≡ length fields
  slots_length [] = refl
  slots_length (f ∷ fields) = ap suc (slots_length fields)

  labelled_length : (fields : List Field) → length (fields_of p t fields) ≡ length fields
  labelled_length [] = refl
  labelled_length (f ∷ fields) = ap suc (labelled_length fields)

  -- a value stands at each slot, and has the type of that place
  slot_value : (us : List Tree) (fields : List Field) (vs : List Value) (k : ℕ) → Placed us fields → BeforeTy p t sig g vs fields [] → has (slots fields) k ≡ true → (v : Value) × (look (zip (slots fields) vs) k ≡ Some v) × ((u : Tree) → slice_get us k ≡ Some u → HasTy p t sig v u)
  slot_value us [] vs k q b m = cc
  slot_value us (f ∷ fields) [] k q b m = cc
  slot_value us (f ∷ fields) (v ∷ vs) k q b m =
      go (nat_eq k f.slot) refl m (λ n. slot_value us fields vs k q.1 b.1 n)
    where
      go : (c : Bool) → nat_eq k f.slot ≡ c → (c || has (slots fields) k) ≡ true → (has (slots fields) k ≡ true → (v : Value) × (look (zip (slots fields) vs) k ≡ Some v) × ((u : Tree) → slice_get us k ≡ Some u → HasTy p t sig v u)) → (w : Value) × (cond (nat_eq k f.slot) (Some v) (look (zip (slots fields) vs) k) ≡ Some w) × ((u : Tree) → slice_get us k ≡ Some u → HasTy p t sig w u)
      go true e m rest = (
        v,
        ap (λ c. cond c (Some v) (look (zip (slots fields) vs) k)) e,
        (λ u eu.
            let x : Some (inst g (t.types f.node)) ≡ Some u = sym q.0 ∙ ap (slice_get us) (sym (eqb-true k f.slot e)) ∙ eu in
            let same : inst g (t.types f.node) ≡ u = cc in subst (HasTy p t sig v) same b.0),
      )
      go false e m rest =
          let r = rest m in (r.0, ap (λ c. cond c (Some v) (look (zip (slots fields) vs) k)) e ∙ r.1, r.2)

  get_drop : (i : ℕ) (us : List Tree) → i < length us → (u : Tree) × (slice_get us i ≡ Some u) × (drop i us ≡ u ∷ drop (suc i) us)
  get_drop i [] h = absurd (omega arith)
  get_drop zero (u ∷ us) h = (u, refl, refl)
  get_drop (suc i) (u ∷ us) h = get_drop i us (omega arith)

  drop_all : (us : List Tree) (i : ℕ) → length us ≤ i → drop i us ≡ []
  drop_all [] zero h = refl
  drop_all [] (suc i) h = refl
  drop_all (u ∷ us) zero h = absurd (omega arith)
  drop_all (u ∷ us) (suc i) h = drop_all us i (omega arith)

  listed : (us : List Tree) (env : Env) (i n : ℕ) → ((k : ℕ) → k < length us → (v : Value) × (look env k ≡ Some v) × ((u : Tree) → slice_get us k ≡ Some u → HasTy p t sig v u)) → length us ≡ i + n → HaveTys p t sig (map (λ b. b.1) (cut (count_up i n) env)) (drop i us)
  listed us env i zero h l = subst (HaveTys p t sig []) (sym (drop_all us i (omega arith))) tt
  listed us env i (suc n) h l =
      let d = get_drop i us (omega arith) in
      let v = h i (omega arith) in
      let rest = listed us env (suc i) n h (omega arith) in
      subst (λ o. HaveTys p t sig (map (λ b. b.1) (cons_option (option_map (λ v. (i, v)) o) (cut (count_up (suc i) n) env))) (drop i us)) (sym v.1)
      (subst (HaveTys p t sig (v.0 ∷ map (λ b. b.1) (cut (count_up (suc i) n) env))) (sym d.2) (v.2 d.0 d.1, rest))

  -- the values of a record's fields have the types of the record's places
  pub row_ty : (fields : List Field) (vs : List Value) (u : Tree) → (r : IsRecord (fields_of p t fields) u) → IsDistinct (slots fields) → BeforeTy p t sig g vs fields [] → HaveTys p t sig (by_label fields vs) (map (inst g) r.types)
  row_ty fields vs u r d b =
      let us = map (inst g) r.types in
      let q = placed_in r.labs r.types fields r.placed in
      let len : length us ≡ length fields = length_map r.types ∙ r.types_count ∙ labelled_length fields in
      listed us (zip (slots fields) vs) 0 (length fields) (λ k lt. slot_value us fields vs k q b (all_there (length us) k (slots fields) d (slots_below us fields q) (slots_length fields ∙ sym len) lt)) (omega (arith, len))
