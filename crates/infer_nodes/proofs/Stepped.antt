-- Steps one after another.
use Rattle.std.proofs.Common.{◌≡◌, ℕ, zero, suc, ◌+◌, ◌<◌, ◌≤◌, List, [], ◌∷◌, ◌++◌, length, Some, refl, sym, ap, ◌∙◌, arith, subst, take, take_all, get_or}
use Rattle.std.proofs.Math.Seq.{take-suc}
use Rattle.std.proofs.lemmas.Option.{slice_get-get_or}
use Rattle.std.specs.Prelude.{slice_get, Result, Ok, Err}
use Rattle.std.specs.List.{AllByRecursion}
use Rattle.sml_types.specs.declared.types.TyForm.{TyForm}
use Rattle.sml_types.specs.declared.tables.TypeName.{TypeName}
use Rattle.sml_types.specs.Forms.{tree, AreForms}
use Rattle.sml_unify.specs.declared.pair.Pair.{Pair}
use Rattle.sml_unify.specs.declared.error.UnifyError.{UnifyError}
use Rattle.sml_unify.specs.declared.error.UnifyError.TheVariants as unify
use Rattle.sml_unify.specs.Solved.{Substitution, Solves, Respects, Agrees, AreEqual, IsEqualPair, IsPair, ArePairs, under, meant}
use Rattle.sml_unify.specs.Steps.{IsLonger, AreBelow, IsRefuted}
use Rattle.sml_unify.specs.Outcomes.{IsUnifiedFrom}
use Rattle.sml_unify.proofs.Fresh.{bindings_of, bindings_longer}
use Rattle.infer_state.specs.declared.unknowns.Unknowns.{Unknowns}
use Rattle.infer_state.specs.declared.failure.Failure.{Failure}
use Rattle.infer_state.specs.declared.failure.Failure.TheVariants.{Untypable, NoMemory}
use Rattle.infer_state.specs.Steps.{IsState, IsSolution, Reaches, IsRefused, IsStep}
use Rattle.infer_nodes.specs.Posed.{AreAdded, IsPosed, IsPosing}
use Rattle.infer_nodes.proofs.Added.{longer_none, longer_both, respects_back, under_kept, marks_added, solves_added, solves_back}

-- a later solution is an earlier one
pub solution_back : (names : List TypeName) (ask gets : Substitution → Type 0) (before after : Unknowns) (f : Substitution) → Reaches names ask gets before after → IsSolution names after f → IsSolution names before f
solution_back names ask gets before after f r s =
    record { marks = respects_back names before.types after.types f r.longer s.marks; solves = r.sound f s.solves }

pub reaches_none : (names : List TypeName) (s : Unknowns) → IsState names s → Reaches names (λ f. Unit {0}) (λ f. Unit {0}) s s
reaches_none names s st =
    record {
      state = st;
      longer = longer_none s.types;
      raised = omega arith;
      sound = λ f h. h;
      got = λ f h. tt;
      general = λ f h u. (f, (λ v l. refl), h);
    }

all_more : {A : Type 0} (P : A → Type 0) (xs : List A) (x : A) → AllByRecursion P xs → P x → AllByRecursion P (xs ++ x ∷ [])
all_more P [] x h p = (p, tt)
all_more P (y ∷ xs) x h p = (h.0, all_more P xs x h.1 p)

all_front : {A : Type 0} (P : A → Type 0) (xs : List A) (x : A) → AllByRecursion P (xs ++ x ∷ []) → AllByRecursion P xs × P x
all_front P [] x h = (tt, h.0)
all_front P (y ∷ xs) x h = let r = all_front P xs x h.1 in ((h.0, r.0), r.1)

all_equal : (forms : List TyForm) (f : Substitution) (pairs : List Pair) (P : Pair → Type 0) → AllByRecursion P pairs → AllByRecursion P pairs
all_equal forms f pairs P h = h

-- a pair is equal under substitutions that agree below the counter
pub equal_kept : (next : ℕ) (forms forms2 : List TyForm) (f g : Substitution) (p : Pair) → AreForms forms → AreBelow forms next → IsLonger forms forms2 → Agrees next f g → IsPair forms p → IsEqualPair forms f p → IsEqualPair forms2 g p
equal_kept next forms forms2 f g p fs b l a w e =
    under_kept next forms forms2 f g p.left.0 fs b l a w.0
    ∙ e
    ∙ sym (under_kept next forms forms2 f g p.right.0 fs b l a w.1)

pub equal_back : (forms forms2 : List TyForm) (f : Substitution) (p : Pair) → IsLonger forms forms2 → IsPair forms p → IsEqualPair forms2 f p → IsEqualPair forms f p
equal_back forms forms2 f p l w e = sym (ap (λ t. t) (ap (λ t. Rattle.sml_types.specs.Tree.inst f t) (l.trees p.left.0 w.0))) ∙ e ∙ ap (λ t. Rattle.sml_types.specs.Tree.inst f t) (l.trees p.right.0 w.1)

-- one pair more
pub one_more : (names : List TypeName) (old mid new : Unknowns) (ps : List Pair) (p : Pair) → AreForms old.types → IsState names old → IsPair old.types p → Reaches names (λ f. AreEqual old.types f ps) (λ f. AreEqual old.types f ps) old mid → Reaches names (λ f. IsEqualPair mid.types f p) (λ f. IsEqualPair mid.types f p) mid new → Reaches names (λ f. AreEqual old.types f (ps ++ p ∷ [])) (λ f. AreEqual old.types f (ps ++ p ∷ [])) old new
one_more names old mid new ps p fs st w a b =
    record {
      state = b.state;
      longer = longer_both old.types mid.types new.types a.longer b.longer;
      raised = let x = a.raised in let y = b.raised in omega arith;
      sound = λ f h. a.sound f (b.sound f h);
      got = λ f h. all_more (IsEqualPair old.types f) ps p (a.got f (solution_back names (λ g. IsEqualPair mid.types g p) (λ g. IsEqualPair mid.types g p) mid new f b h)) (equal_back old.types mid.types f p a.longer w (b.got f h));
      general = λ f h e.
          let both = all_front (IsEqualPair old.types f) ps p e in
          let g = a.general f h both.0 in
          let k = b.general g.0 g.2 (equal_kept old.next old.types mid.types f g.0 p fs st.below a.longer g.1 w both.1) in
          (k.0, (λ v l. k.1 v (let x = a.raised in omega arith) ∙ g.1 v l), k.2);
    }

all_take : {A : Type 0} (P : A → Type 0) (xs : List A) (i : ℕ) (x : A) → slice_get xs i ≡ Some x → AllByRecursion P xs → AllByRecursion P (take i xs) × P x
all_take P [] i x e h = cc
all_take P (y ∷ xs) zero x e h = let same : y ≡ x = cc in (tt, subst P same h.0)
all_take P (y ∷ xs) (suc i) x e h = let r = all_take P xs i x e h.1 in ((h.0, r.0), r.1)

-- where a pair can't be made equal behind others, all can't
pub one_refused : (names : List TypeName) (old mid : Unknowns) (ps : List Pair) (i : ℕ) (p : Pair) → AreForms old.types → IsState names old → IsPair old.types p → slice_get ps i ≡ Some p → Reaches names (λ f. AreEqual old.types f (take i ps)) (λ f. AreEqual old.types f (take i ps)) old mid → IsRefused names (λ f. IsEqualPair mid.types f p) mid → IsRefused names (λ f. AreEqual old.types f ps) old
one_refused names old mid ps i p fs st w e a none f h all =
    let both = all_take (IsEqualPair old.types f) ps i p e all in
    let g = a.general f h both.0 in
    none g.0 g.2 (equal_kept old.next old.types mid.types f g.0 p fs st.below a.longer g.1 w both.1)

-- the answer of one call of unification
pub from_unified : (names : List TypeName) (old new : Unknowns) (p : Pair) (u : Unit {0}) → IsState names old → IsUnifiedFrom names old.next old.types old.subst.bound (p ∷ []) new.types new.subst.bound (Ok u) → AreBelow new.types new.next → length new.subst.bound ≤ new.next → old.next ≤ new.next → Reaches names (λ f. IsEqualPair old.types f p) (λ f. IsEqualPair old.types f p) old new
from_unified names old new p u st x below short raised =
    record {
      state = record { bindings = bindings_of new.types new.subst.bound x.0.solved; below = below; short = short; marks = x.0.marks st.marks };
      longer = x.0.longer;
      raised = raised;
      sound = x.0.sound;
      got = λ f h. (x.1 f h.solves).0;
      general = λ f h e. let g = x.0.general f h.marks h.solves (e, tt) in (g.0, g.1, record { marks = g.2; solves = g.3 });
    }

pub from_refuted : (names : List TypeName) (old : Unknowns) (p : Pair) → IsRefuted names old.types old.subst.bound (p ∷ []) → IsRefused names (λ f. IsEqualPair old.types f p) old
from_refuted names old p none f h e = none f h.marks h.solves (e, tt)

-- ---- What is posed, and then made equal

pub state_added : (names : List TypeName) (old mid : Unknowns) → IsState names old → mid.subst ≡ old.subst → AreAdded old.next old.types mid.next mid.types → IsState names mid
state_added names old mid st same a =
    subst
    (λ s. IsState names (record { types = mid.types; subst = s; next = mid.next }))
    (sym same)
    (record {
      bindings = bindings_longer old.types mid.types old.subst.bound a.longer st.bindings;
      below = a.below;
      short = (let x = st.short in let y = a.raised in omega arith);
      marks = marks_added old.types mid.types old.subst.bound a.longer st.bindings names old.next mid.next st.short a st.marks;
    })

module _ (names : List TypeName) (ask : Substitution → Type 0) (old : Unknowns) (types : List TyForm) (next : ℕ) (pairs : List Pair) (fs : AreForms old.types) (st : IsState names old) (p : IsPosed names ask old.next old.types next types pairs) where
  abbrev mid : Unknowns
  mid = record { types = types; subst = old.subst; next = next }

  solution_over : (f : Substitution) → IsSolution names old f → ask f → (g : Substitution) × Agrees old.next f g × IsSolution names mid g × AreEqual types g pairs
  solution_over f h e =
      let g = p.general f h.marks e in
      (g.0, g.1, record { marks = g.2; solves = solves_added old.types types old.subst.bound p.added.longer st.bindings old.next next f g.0 fs st.below st.short p.added g.1 h.solves }, g.3)

  asked_ok : (new : Unknowns) → Reaches names (λ f. AreEqual types f pairs) (λ f. AreEqual types f pairs) mid new → Reaches names ask ask old new
  asked_ok new r =
      record {
        state = r.state;
        longer = longer_both old.types types new.types p.added.longer r.longer;
        raised = let x = p.added.raised in let y = r.raised in omega arith;
        sound = λ f h. solves_back old.types types old.subst.bound p.added.longer st.bindings f (r.sound f h);
        got = λ f h. p.gets f (respects_back names types new.types f r.longer h.marks) (r.got f h);
        general = λ f h e.
            let g = solution_over f h e in
            let k = r.general g.0 g.2 g.3 in
            (k.0, (λ v l. k.1 v (let x = p.added.raised in omega arith) ∙ g.1 v l), k.2);
      }

  asked_refused : IsRefused names (λ f. AreEqual types f pairs) mid → IsRefused names ask old
  asked_refused none f h e = let g = solution_over f h e in none g.0 g.2 g.3

  pub asked_step : (new : Unknowns) (r : Result Unit Failure) → IsStep names (λ f. AreEqual types f pairs) mid new r → IsStep names ask old new r
  asked_step new (Ok u) s = asked_ok new s
  asked_step new (Err Untypable) s = asked_refused s
  asked_step new (Err NoMemory) s = tt

-- ---- Pairs by their places

all_at : {A : Type 0} (P : A → Type 0) (xs : List A) (i : ℕ) (x : A) → slice_get xs i ≡ Some x → AllByRecursion P xs → P x
all_at P [] i x e h = cc
all_at P (y ∷ xs) zero x e h = let same : y ≡ x = cc in subst P same h.0
all_at P (y ∷ xs) (suc i) x e h = all_at P xs i x e h.1

pub next_equal : (names : List TypeName) (old mid new : Unknowns) (ps : List Pair) (i : ℕ) (d : Pair) → AreForms old.types → IsState names old → ArePairs old.types ps → i < length ps → Reaches names (λ f. AreEqual old.types f (take i ps)) (λ f. AreEqual old.types f (take i ps)) old mid → Reaches names (λ f. IsEqualPair mid.types f (get_or ps i d)) (λ f. IsEqualPair mid.types f (get_or ps i d)) mid new → Reaches names (λ f. AreEqual old.types f (take (i + 1) ps)) (λ f. AreEqual old.types f (take (i + 1) ps)) old new
next_equal names old mid new ps i d fs st there l a b =
    let p = get_or ps i d in
    let here = slice_get-get_or ps i d l in
    let next : i + 1 ≡ suc i = omega arith in
    let taken : take (i + 1) ps ≡ take i ps ++ p ∷ [] = ap (λ k. take k ps) next ∙ take-suc ps i d l in
    subst
    (λ qs. Reaches names (λ f. AreEqual old.types f qs) (λ f. AreEqual old.types f qs) old new)
    (sym taken)
    (one_more names old mid new (take i ps) p fs st (all_at (IsPair old.types) ps i p here there) a b)

pub next_step : (names : List TypeName) (old mid new : Unknowns) (ps : List Pair) (i : ℕ) (d : Pair) (r : Result Unit Failure) (e : Failure) → r ≡ Err e → AreForms old.types → IsState names old → ArePairs old.types ps → i < length ps → Reaches names (λ f. AreEqual old.types f (take i ps)) (λ f. AreEqual old.types f (take i ps)) old mid → IsStep names (λ f. IsEqualPair mid.types f (get_or ps i d)) mid new r → IsStep names (λ f. AreEqual old.types f ps) old new (Err e)
next_step names old mid new ps i d (Ok u) e q fs st there l a b = cc
next_step names old mid new ps i d (Err Untypable) Untypable q fs st there l a b =
    let here = slice_get-get_or ps i d l in
    one_refused names old mid ps i (get_or ps i d) fs st (all_at (IsPair old.types) ps i (get_or ps i d) here there) here a b
next_step names old mid new ps i d (Err NoMemory) Untypable q fs st there l a b = cc
next_step names old mid new ps i d (Err f) NoMemory q fs st there l a b = tt

pub all_taken : (names : List TypeName) (old new : Unknowns) (ps : List Pair) (i : ℕ) → length ps ≤ i → Reaches names (λ f. AreEqual old.types f (take i ps)) (λ f. AreEqual old.types f (take i ps)) old new → Reaches names (λ f. AreEqual old.types f ps) (λ f. AreEqual old.types f ps) old new
all_taken names old new ps i l r = subst (λ qs. Reaches names (λ f. AreEqual old.types f qs) (λ f. AreEqual old.types f qs) old new) (take_all i ps l) r

-- what can't be posed
pub refused_step : (names : List TypeName) (ask : Substitution → Type 0) (old : Unknowns) (next2 : ℕ) (forms2 : List TyForm) (new : Unknowns) (r : Result (List Pair) Failure) (e : Failure) → r ≡ Err e → IsPosing names ask old.next old.types next2 forms2 r → IsStep names ask old new (Err e)
refused_step names ask old next2 forms2 new (Ok ps) e q h = cc
refused_step names ask old next2 forms2 new (Err Untypable) Untypable q h = λ f s a. h f s.marks a
refused_step names ask old next2 forms2 new (Err NoMemory) Untypable q h = cc
refused_step names ask old next2 forms2 new (Err f) NoMemory q h = tt
