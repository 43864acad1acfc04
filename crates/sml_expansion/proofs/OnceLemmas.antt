-- Numbers that stand twice.
use Rattle.std.proofs.Common.{◌≡◌, ◌<◌, ◌+◌, Bool, true, false, ℕ, suc, List, [], ◌∷◌, ◌++◌, Option, length, get_or, drop, refl, sym, ap, ◌∙◌, add-one}
use Rattle.std.specs.Prelude.{nat_eq, not, ◌||◌, if◌then◌else◌, fold}
use Rattle.std.specs.List.{list_any}
use Rattle.std.proofs.lemmas.Bool.{eqb-true}
use Rattle.std.proofs.lemmas.List.Folds.{list_any-append}
use Rattle.std.proofs.Math.Seq.{drop-cons}
use Rattle.smlc_base.specs.declared.place.Place.{Place}
use Rattle.smlc_base.specs.declared.refusal.Refusal.{Refusal}
use Rattle.smlc_base.specs.declared.refusal.Refusal.TheVariants as refusal
use Rattle.sml_expansion.specs.declared.made.Made.{Made}
use Rattle.sml_expansion.specs.Labels.{doubles}
use Rattle.sml_expansion.specs.Refusals.{kept}
use Rattle.sml_expansion.specs.Makings.{Runs, breaks}

abbrev has : List ℕ → ℕ → Bool
has seen x = list_any (nat_eq x) seen

abbrev Same : List ℕ → List ℕ → Type 0
Same seen others = (x : ℕ) → has seen x ≡ has others x

same_more : (seen others : List ℕ) (x : ℕ) → Same seen others → Same (x ∷ seen) (x ∷ others)
same_more seen others x s y = ap (λ b. nat_eq y x || b) (s y)

-- only which numbers were seen matters
doubles_same : (seen others : List ℕ) (items : List (ℕ × Place)) → Same seen others → doubles nat_eq seen items ≡ doubles nat_eq others items
doubles_same seen others [] s = refl
doubles_same seen others ((x, p) ∷ items) s =
    ap (λ b. (if b then refusal.BadBinding p ∷ [] else []) ++ doubles nat_eq (x ∷ seen) items) (s x)
    ∙ ap (λ l. (if has others x then refusal.BadBinding p ∷ [] else []) ++ l) (doubles_same (x ∷ seen) (x ∷ others) items (same_more seen others x s))

turned : (a b : Bool) → (a || b) ≡ (b || (a || false))
turned true true = refl
turned true false = refl
turned false true = refl
turned false false = refl

same_new : (seen : List ℕ) (x : ℕ) → Same (x ∷ seen) (seen ++ x ∷ [])
same_new seen x y = turned (nat_eq y x) (has seen y) ∙ sym (list_any-append (nat_eq y) seen (x ∷ []))

same_old : (seen : List ℕ) (x : ℕ) → has seen x ≡ true → Same (x ∷ seen) seen
same_old seen x h y = step (nat_eq y x) refl
  where
    step : (b : Bool) → nat_eq y x ≡ b → (nat_eq y x || has seen y) ≡ has seen y
    step true e =
        let same : y ≡ x = eqb-true y x e in
        let old : has seen y ≡ true = ap (has seen) same ∙ h in
        ap (λ b. b || has seen y) e ∙ sym old
    step false e = ap (λ b. b || has seen y) e

-- what is refused from here on
abbrev pub left : List ℕ → List (ℕ × Place) → Option Refusal → Option Refusal
left seen items r = fold kept r (doubles nat_eq seen items)

left_new : (seen now : List ℕ) (items : List (ℕ × Place)) (i x : ℕ) (p : Place) (d : ℕ × Place) (r whole : Option Refusal) → i < length items → get_or items i d ≡ (x, p) → has seen x ≡ false → now ≡ seen ++ x ∷ []
    → left seen (drop i items) r ≡ whole → left now (drop (i + 1) items) r ≡ whole
left_new seen now items i x p d r whole h at new e w =
    ap (λ s. left s (drop (i + 1) items) r) e
    ∙ ap (λ k. left (seen ++ x ∷ []) (drop k items) r) (add-one i)
    ∙ ap (fold kept r) (sym (doubles_same (x ∷ seen) (seen ++ x ∷ []) (drop (suc i) items) (same_new seen x)))
    ∙ ap (λ b. fold kept r ((if b then refusal.BadBinding p ∷ [] else []) ++ doubles nat_eq (x ∷ seen) (drop (suc i) items))) (sym new)
    ∙ ap (λ y. left seen (y ∷ drop (suc i) items) r) (sym at)
    ∙ ap (λ l. left seen l r) (sym (drop-cons items i d h))
    ∙ w

left_old : (seen now : List ℕ) (items : List (ℕ × Place)) (i x : ℕ) (p : Place) (d : ℕ × Place) (r next whole : Option Refusal) → i < length items → get_or items i d ≡ (x, p) → has seen x ≡ true → now ≡ seen → next ≡ kept r (refusal.BadBinding p)
    → left seen (drop i items) r ≡ whole → left now (drop (i + 1) items) next ≡ whole
left_old seen now items i x p d r next whole h at old e n w =
    ap (λ s. left s (drop (i + 1) items) next) e
    ∙ ap (left seen (drop (i + 1) items)) n
    ∙ ap (λ k. left seen (drop k items) (kept r (refusal.BadBinding p))) (add-one i)
    ∙ ap (fold kept (kept r (refusal.BadBinding p))) (sym (doubles_same (x ∷ seen) seen (drop (suc i) items) (same_old seen x old)))
    ∙ ap (λ b. fold kept r ((if b then refusal.BadBinding p ∷ [] else []) ++ doubles nat_eq (x ∷ seen) (drop (suc i) items))) (sym old)
    ∙ ap (λ y. left seen (y ∷ drop (suc i) items) r) (sym at)
    ∙ ap (λ l. left seen l r) (sym (drop-cons items i d h))
    ∙ w

pub left_none : (seen : List ℕ) (items : List (ℕ × Place)) (i : ℕ) (r whole : Option Refusal) → drop i items ≡ [] → left seen (drop i items) r ≡ whole → r ≡ whole
left_none seen items i r whole z w = ap (λ l. left seen l r) (sym z) ∙ w

-- one more number is looked at
left_on : (seen now : List ℕ) (items : List (ℕ × Place)) (i x : ℕ) (p : Place) (d : ℕ × Place) (new : Bool) (r next whole : Option Refusal) → i < length items → get_or items i d ≡ (x, p) → new ≡ not (has seen x)
    → now ≡ (if has seen x then seen else seen ++ x ∷ []) → next ≡ fold kept r (if not new then refusal.BadBinding p ∷ [] else [])
    → left seen (drop i items) r ≡ whole → left now (drop (i + 1) items) next ≡ whole
left_on seen now items i x p d new r next whole h at n k f w = step (has seen x) refl
  where
    step : (b : Bool) → has seen x ≡ b → left now (drop (i + 1) items) next ≡ whole
    step true e =
        let old : new ≡ false = n ∙ ap not e in
        left_old seen now items i x p d r next whole h at e (k ∙ ap (λ b. if b then seen else seen ++ x ∷ []) e) (f ∙ ap (λ b. fold kept r (if not b then refusal.BadBinding p ∷ [] else [])) old) w
    step false e =
        let new_one : new ≡ true = n ∙ ap not e in
        let same : next ≡ r = f ∙ ap (λ b. fold kept r (if not b then refusal.BadBinding p ∷ [] else [])) new_one in
        ap (left now (drop (i + 1) items)) same ∙ left_new seen now items i x p d r whole h at e (k ∙ ap (λ b. if b then seen else seen ++ x ∷ []) e) w

pub left_at : (seen now : List ℕ) (items : List (ℕ × Place)) (i : ℕ) (d : ℕ × Place) (new : Bool) (r next whole : Option Refusal) → i < length items → new ≡ not (has seen (get_or items i d).0)
    → now ≡ (if has seen (get_or items i d).0 then seen else seen ++ (get_or items i d).0 ∷ []) → next ≡ fold kept r (if not new then refusal.BadBinding (get_or items i d).1 ∷ [] else [])
    → left seen (drop i items) r ≡ whole → left now (drop (i + 1) items) next ≡ whole
left_at seen now items i d new r next whole h n k f w = left_on seen now items i (get_or items i d).0 (get_or items i d).1 d new r next whole h refl n k f w

-- the least refusal alone has changed
abbrev pub refused : Made → Option Refusal → Made
refused m r = record m { refusal = r }

pub ran : (m k n : Made) (ds : List Refusal) (r : Option Refusal) → k ≡ refused m r → Runs (breaks ds) k tt n → (n.refusal ≡ fold kept k.refusal ds) × (n ≡ refused m n.refusal)
ran m k n ds r e run =
    let now : refused k (fold kept k.refusal ds) ≡ n = ap (λ s. s.1) run in
    let least : n.refusal ≡ fold kept k.refusal ds = sym (ap (λ (o : Made). o.refusal) now) in
    (least, sym now ∙ ap (λ (o : Made). refused o (fold kept k.refusal ds)) e ∙ ap (refused m) (sym least))
