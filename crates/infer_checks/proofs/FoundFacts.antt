-- What explicit type variables are found to stand for.
use Rattle.std.proofs.Common.{◌≡◌, ℕ, zero, suc, ◌+◌, ◌<◌, Bool, true, false, List, [], ◌∷◌, ◌++◌, length, Option, Some, None, refl, sym, ap, ◌∙◌, subst, nat_eq, cond, arith}
use Rattle.std.specs.Prelude.{slice_get, ◌||◌}
use Rattle.std.specs.List.{list_any}
use Rattle.std.proofs.lemmas.Bool.{eq-eqb, eqb-true}
use Rattle.sml_tree.specs.declared.bare.Bare.{Bare}
use Rattle.sml_types.specs.declared.types.Ty.{Ty}
use Rattle.sml_types.specs.declared.types.TyVar.{TyVar}
use Rattle.sml_types.specs.declared.types.TyForm.{TyForm}
use Rattle.sml_types.specs.declared.types.TyForm.TheVariants.{Var}
use Rattle.sml_types.specs.Tree.{Variable, inst}
use Rattle.sml_types.specs.Forms.{tree, IsNumbered}
use Rattle.sml_types.specs.TypeExps.{explicit}
use Rattle.sml_types.proofs.FormFacts.{tree_form}
use Rattle.sml_unify.specs.declared.resolve.Rename.{Rename}
use Rattle.sml_unify.specs.Solved.{Substitution, AreBindings, bound_at, meant, under}
use Rattle.sml_unify.proofs.Meant.{meant_free, meant_bound}
use Rattle.infer_state.specs.declared.declared.Starts.{Starts}
use Rattle.infer_state.specs.Variables.{AreLaidOut}
use Rattle.infer_checks.specs.Ending.{IsFound, AreFound, AreOwn, IsVariableAt}
use Rattle.infer_checks.proofs.Renames.{hit, get_within}

module _ (forms : List TyForm) (bound : List (Option Ty)) (bindings : AreBindings forms bound) where
  -- a variable that is not bound stands for itself
  pub variable_end : (i : ℕ) (v : TyVar) → tree forms i ≡ Variable v → bound_at bound v.num ≡ None → under forms (meant forms bound) i ≡ Variable v
  variable_end i v e free = ap (inst (meant forms bound)) e ∙ meant_free forms bound v free

  -- one that is bound stands for what it is bound to
  pub variable_next : (i : ℕ) (v : TyVar) (t : Ty) → tree forms i ≡ Variable v → bound_at bound v.num ≡ Some t → under forms (meant forms bound) i ≡ under forms (meant forms bound) t.0
  variable_next i v t e is = ap (inst (meant forms bound)) e ∙ meant_bound forms bound bindings.acyclic v t is

-- the type of an explicit type variable
pub explicit_at : (p : Bare) (forms : List TyForm) (starts : Starts) (f : Substitution) (u : ℕ) → IsNumbered forms → AreLaidOut p forms starts → u < length p.tyvars → under forms f (starts.explicit + u) ≡ f (explicit p.tyvars u)
explicit_at p forms starts f u numbered laid l = ap (inst f) (tree_form forms (starts.explicit + u) (Var (explicit p.tyvars u)) numbered (laid.explicit_ones u l))

pub variable_eq : (v w : TyVar) → Variable v ≡ Variable w → v ≡ w
variable_eq v w e = cc

module _ (p : Bare) (m : Substitution) (u : ℕ) (l : u < length p.tyvars) (own : AreOwn p m) where
  pub not_marked : (v : TyVar) → m (explicit p.tyvars u) ≡ Variable v → (v.eq ≡ (explicit p.tyvars u).eq → ⊥) → ⊥
  not_marked v e h = h (ap (λ (w : TyVar). w.eq) (variable_eq v (own.var u) (sym e ∙ own.stands u l)) ∙ own.marks u l)

  pub no_variable : IsVariableAt (m (explicit p.tyvars u)) None → ⊥
  no_variable h = h (own.var u) (own.stands u l)

-- ---- Searches

record IsTaken (renames : List Rename) (n : ℕ) : Type 0 where
  pub at : ℕ
  pub item : Rename
  pub is : slice_get renames at ≡ Some item
  pub number : item.from ≡ n

abbrev taken : List Rename → ℕ → Bool
taken renames n = list_any (λ r. nat_eq r.from n) renames

taken_at : (renames : List Rename) (n : ℕ) → taken renames n ≡ true → IsTaken renames n
taken_at [] n e = cc
taken_at (r ∷ renames) n e = by (nat_eq r.from n) refl (taken_at renames n) e
  where
    by : (b : Bool) → nat_eq r.from n ≡ b → (taken renames n ≡ true → IsTaken renames n) → (b || taken renames n) ≡ true → IsTaken (r ∷ renames) n
    by true z rest k = record { at = zero; item = r; is = refl; number = eqb-true r.from n z }
    by false z rest k =
        let t = rest k in record { at = suc t.at; item = t.item; is = t.is; number = t.number }

-- two explicit type variables do not stand for one variable
pub not_taken : (p : Bare) (m : Substitution) (renames : List Rename) (r : Rename) → AreFound p m renames → length renames < length p.tyvars → IsFound p m (length renames) r → taken renames r.from ≡ true → AreOwn p m → ⊥
not_taken p m renames r found l here e own =
    let t = taken_at renames r.from e in
    let there = get_within renames t.at t.item t.is in
    let q = found.each t.at t.item t.is in
    let mine = variable_eq here.var (own.var (length renames)) (sym here.stands ∙ own.stands (length renames) l) in
    let other = variable_eq q.var (own.var t.at) (sym q.stands ∙ own.stands t.at (omega arith)) in
    let nums : (own.var t.at).num ≡ (own.var (length renames)).num = ap (λ (v : TyVar). v.num) (sym other) ∙ q.number ∙ t.number ∙ sym here.number ∙ ap (λ (v : TyVar). v.num) mine in
    let same = own.apart t.at (length renames) (omega arith) l nums in
    absurd (omega arith)

find_none : (renames : List Rename) (r : Rename) (n : ℕ) → taken renames n ≡ false → hit (renames ++ r ∷ []) n ≡ hit (r ∷ []) n
find_none [] r n e = refl
find_none (q ∷ renames) r n e = by (nat_eq q.from n) refl (find_none renames r n) e
  where
    by : (b : Bool) → nat_eq q.from n ≡ b → (taken renames n ≡ false → hit (renames ++ r ∷ []) n ≡ hit (r ∷ []) n) → (b || taken renames n) ≡ false → cond b (Some q) (hit (renames ++ r ∷ []) n) ≡ hit (r ∷ []) n
    by true z rest k = cc
    by false z rest k = rest k

find_more : (renames : List Rename) (r x : Rename) (n : ℕ) → hit renames n ≡ Some x → hit (renames ++ r ∷ []) n ≡ Some x
find_more [] r x n e = cc
find_more (q ∷ renames) r x n e = by (nat_eq q.from n) (find_more renames r x n) e
  where
    by : (b : Bool) → (hit renames n ≡ Some x → hit (renames ++ r ∷ []) n ≡ Some x) → cond b (Some q) (hit renames n) ≡ Some x → cond b (Some q) (hit (renames ++ r ∷ []) n) ≡ Some x
    by true rest k = k
    by false rest k = rest k

-- an item of a list with one more is one of the list or the last
get_last : (P : ℕ → Rename → Type 0) (renames : List Rename) (r x : Rename) (i : ℕ) → ((k : ℕ) (y : Rename) → slice_get renames k ≡ Some y → P k y) → P (length renames) r → slice_get (renames ++ r ∷ []) i ≡ Some x → P i x
get_last P [] r x zero h l e = let same : r ≡ x = cc in subst (P 0) same l
get_last P [] r x (suc i) h l e = cc
get_last P (q ∷ renames) r x zero h l e = h zero x e
get_last P (q ∷ renames) r x (suc i) h l e =
    get_last (λ k y. P (suc k) y) renames r x i (λ k y z. h (suc k) y z) l e

-- one more rename, from a variable from which none is
pub found_more : (p : Bare) (m : Substitution) (renames : List Rename) (r : Rename) → AreFound p m renames → IsFound p m (length renames) r → taken renames r.from ≡ false → AreFound p m (renames ++ r ∷ [])
found_more p m renames r found here e =
    record {
      each = λ i x q. get_last (λ k y. IsFound p m k y) renames r x i found.each here q;
      first = λ i x q. get_last (λ k y. hit (renames ++ r ∷ []) y.from ≡ Some y) renames r x i (λ k y z. find_more renames r y y.from (found.first k y z)) (find_none renames r r.from e ∙ ap (λ b. cond b (Some r) None) (eq-eqb r.from r.from refl)) q;
    }

pub found_none : (p : Bare) (m : Substitution) → AreFound p m []
found_none p m = record { each = λ u r e. cc; first = λ u r e. cc }
