-- Steps one behind another.
use Rattle.std.proofs.Common.{◌≡◌, ℕ, zero, suc, ◌+◌, ◌≤◌, List, [], ◌∷◌, ◌++◌, length, take, Option, Some, None, refl, sym, ap, ◌∙◌, arith, subst}
use Rattle.std.specs.Prelude.{slice_get}
use Rattle.std.specs.List.{AllByRecursion}
use Rattle.sml_tree.specs.declared.bare.Bare.{Bare}
use Rattle.sml_types.specs.declared.types.TyForm.{TyForm}
use Rattle.sml_types.specs.Typing.{Typing}
use Rattle.sml_unify.specs.Steps.{IsLonger}
use Rattle.infer_tables.specs.declared.known.Known.{Known}
use Rattle.infer_tables.specs.Known.{IsScope, HasSoFar, GoesOn, Allows, Extends, IsStep, IsAnswer}
use Rattle.infer_tables.proofs.Lists.{some_eq, at_all, longer_same, longer_then}
use Rattle.infer_tables.proofs.MeaningFacts.{abbreviations_before}

-- a typing that goes on what is known later goes on what was known before
pub goes_before : (p : Bare) (forms after : List TyForm) (k k2 : Known) (t : Typing) → IsScope p forms k → IsLonger forms after → Extends k k2 → GoesOn after k2 t → GoesOn forms k t
goes_before p forms after k k2 t scope l e g =
    record {
      longer = longer_then forms after t.forms l g.longer;
      rows = λ n row q. g.rows n row (e.names n row q);
      abbreviations = λ i s q. g.abbreviations i s (e.schemes i s q);
    }

-- a typing that goes on what is known allows it
pub goes_allows : (p : Bare) (forms : List TyForm) (k : Known) (t : Typing) → IsScope p forms k → GoesOn forms k t → Allows forms k t
goes_allows p forms k t scope g =
    record {
      params = λ n row q. (row, g.rows n row q, refl);
      abbreviations = abbreviations_before forms t.forms k.abbreviations t.abbreviations g.longer scope.closed g.abbreviations;
    }

-- a typing that has what is known allows it
pub has_allows : (forms : List TyForm) (k : Known) (t : Typing) → HasSoFar forms k t → Allows forms k t
has_allows forms k t h =
    record {
      params = λ n row q. let o = h.rows n row q in (o.0, o.1, ap (λ r. r.params) o.2);
      abbreviations = h.abbreviations;
    }

extends_same : (k : Known) → Extends k k
extends_same k = record { names = λ n row q. q; schemes = λ i s q. q }

extends_then : (a b c : Known) → Extends a b → Extends b c → Extends a c
extends_then a b c d e = record { names = λ n row q. e.names n row (d.names n row q); schemes = λ i s q. e.schemes i s (d.schemes i s q) }

-- ---- No step, and two

pub no_step : (p : Bare) (asks : Typing → Type 0) (forms : List TyForm) (k : Known) → IsScope p forms k → ((t : Typing) → asks t) → IsStep p asks 0 forms k forms k
no_step p asks forms k scope all =
    record {
      longer = longer_same forms;
      vars = λ i v q. (i, q);
      extends = extends_same k;
      count = omega arith;
      scope = scope;
      sound = λ t g. all t;
      complete = λ t h a. h;
    }

pub step_then : (p : Bare) (asks asks2 both : Typing → Type 0) (m n : ℕ) (fa fb fc : List TyForm) (a b c : Known) → ((t : Typing) → asks t → asks2 t → both t) → ((t : Typing) → both t → asks t × asks2 t) → IsStep p asks m fa a fb b → IsStep p asks2 n fb b fc c → IsStep p both (m + n) fa a fc c
step_then p asks asks2 both m n fa fb fc a b c join part s r =
    record {
      longer = longer_then fa fb fc s.longer r.longer;
      vars = λ i v q. let x = r.vars i v q in s.vars x.0 v x.1;
      extends = extends_then a b c s.extends r.extends;
      count = let x = s.count in let y = r.count in omega arith;
      scope = r.scope;
      sound = λ t g. join t (s.sound t (goes_before p fb fc b c t s.scope r.longer r.extends g)) (r.sound t g);
      complete = λ t h w. let v = part t w in r.complete t (s.complete t h v.0) v.1;
    }

pub step_as : (p : Bare) (asks asks2 : Typing → Type 0) (m n : ℕ) (fa fb : List TyForm) (a b : Known) → m ≡ n → ((t : Typing) → asks t → asks2 t) → ((t : Typing) → asks2 t → asks t) → IsStep p asks m fa a fb b → IsStep p asks2 n fa a fb b
step_as p asks asks2 m n fa fb a b e there back s =
    record {
      longer = s.longer;
      vars = s.vars;
      extends = s.extends;
      count = s.count ∙ ap (λ x. length a.tables.names + x) e;
      scope = s.scope;
      sound = λ t g. there t (s.sound t g);
      complete = λ t h w. s.complete t h (back t w);
    }

-- ---- Over lists

all_snoc : {A : Type 0} (P : A → Type 0) (xs : List A) (x : A) → AllByRecursion P xs → P x → AllByRecursion P (xs ++ x ∷ [])
all_snoc P [] x h q = (q, tt)
all_snoc P (y ∷ xs) x h q = (h.0, all_snoc P xs x h.1 q)

all_unsnoc : {A : Type 0} (P : A → Type 0) (xs : List A) (x : A) → AllByRecursion P (xs ++ x ∷ []) → AllByRecursion P xs × P x
all_unsnoc P [] x h = (tt, h.0)
all_unsnoc P (y ∷ xs) x h = let r = all_unsnoc P xs x h.1 in ((h.0, r.0), r.1)

pub step_snoc : {A : Type 0} (p : Bare) (P : Typing → A → Type 0) (xs : List A) (x : A) (m n : ℕ) (fa fb fc : List TyForm) (a b c : Known) → IsStep p (λ t. AllByRecursion (P t) xs) m fa a fb b → IsStep p (λ t. P t x) n fb b fc c → IsStep p (λ t. AllByRecursion (P t) (xs ++ x ∷ [])) (m + n) fa a fc c
step_snoc p P xs x m n fa fb fc a b c s r =
    step_then p (λ t. AllByRecursion (P t) xs) (λ t. P t x) (λ t. AllByRecursion (P t) (xs ++ x ∷ [])) m n fa fb fc a b c (λ t h q. all_snoc (P t) xs x h q) (λ t h. all_unsnoc (P t) xs x h) s r

-- what no typing has at one item, none has at all
all_take : {A : Type 0} (P : A → Type 0) (xs : List A) (i : ℕ) → AllByRecursion P xs → AllByRecursion P (take i xs)
all_take P [] zero h = tt
all_take P [] (suc i) h = tt
all_take P (x ∷ xs) zero h = tt
all_take P (x ∷ xs) (suc i) h = (h.0, all_take P xs i h.1)

pub refused_at : {A : Type 0} (p : Bare) (P : Typing → A → Type 0) (xs : List A) (i : ℕ) (x : A) (m n : ℕ) (fa fb fc : List TyForm) (a b : Known) → slice_get xs i ≡ Some x → IsStep p (λ t. AllByRecursion (P t) (take i xs)) m fa a fb b → IsAnswer p (λ t. P t x) n fb b fc None → IsAnswer p (λ t. AllByRecursion (P t) xs) n fa a fc None
refused_at p P xs i x m n fa fb fc a b q s r = λ t h w. r t (s.complete t h (all_take (P t) xs i w)) (at_all (P t) xs i x w q)

take_one : {A : Type 0} (xs : List A) (i : ℕ) (x : A) → slice_get xs i ≡ Some x → take (i + 1) xs ≡ take i xs ++ x ∷ []
take_one [] i x e = cc
take_one (y ∷ xs) zero x e = ap (λ z. z ∷ []) (some_eq y x e)
take_one (y ∷ xs) (suc i) x e = let n : suc i + 1 ≡ suc (i + 1) = omega arith in ap (λ k. take k (y ∷ xs)) n ∙ ap (λ zs. y ∷ zs) (take_one xs i x e)

pub step_more : {A : Type 0} (p : Bare) (P : Typing → A → Type 0) (xs : List A) (i : ℕ) (x : A) (m n : ℕ) (fa fb fc : List TyForm) (a b c : Known) → slice_get xs i ≡ Some x → IsStep p (λ t. AllByRecursion (P t) (take i xs)) m fa a fb b → IsStep p (λ t. P t x) n fb b fc c → IsStep p (λ t. AllByRecursion (P t) (take (i + 1) xs)) (m + n) fa a fc c
step_more p P xs i x m n fa fb fc a b c q s r =
    subst (λ ys. IsStep p (λ t. AllByRecursion (P t) ys) (m + n) fa a fc c) (sym (take_one xs i x q)) (step_snoc p P (take i xs) x m n fa fb fc a b c s r)

take_end : {A : Type 0} (xs : List A) (i : ℕ) → length xs ≤ i → take i xs ≡ xs
take_end [] zero l = refl
take_end [] (suc i) l = refl
take_end (x ∷ xs) zero l = absurd (omega arith)
take_end (x ∷ xs) (suc i) l = ap (λ ys. x ∷ ys) (take_end xs i (omega arith))

pub step_end : {A : Type 0} (p : Bare) (P : Typing → A → Type 0) (xs : List A) (i : ℕ) (m : ℕ) (fa fb : List TyForm) (a b : Known) → length xs ≤ i → IsStep p (λ t. AllByRecursion (P t) (take i xs)) m fa a fb b → IsStep p (λ t. AllByRecursion (P t) xs) m fa a fb b
step_end p P xs i m fa fb a b l s = subst (λ ys. IsStep p (λ t. AllByRecursion (P t) ys) m fa a fb b) (take_end xs i l) s

pub answer_is : (p : Bare) (asks : Typing → Type 0) (m : ℕ) (fa fb : List TyForm) (a : Known) (o o2 : Option Known) → o ≡ o2 → IsAnswer p asks m fa a fb o → IsAnswer p asks m fa a fb o2
answer_is p asks m fa fb a o o2 e h = subst (IsAnswer p asks m fa a fb) e h
