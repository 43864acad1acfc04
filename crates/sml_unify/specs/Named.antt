-- The error that is named: that of the first pair that cannot be made equal.
use Rattle.std.specs.Prelude.{◌≡◌, ℕ, true, false, Option, Some, List, [], ◌∷◌, ◌++◌, length, slice_get}
use Rattle.sml_types.specs.declared.types.Ty.{Ty}
use Rattle.sml_types.specs.declared.types.TyVar.{TyVar}
use Rattle.sml_types.specs.declared.types.TyForm.{TyForm}
use Rattle.sml_types.specs.declared.types.TyForm.TheVariants.{Var}
use Rattle.sml_types.specs.declared.tables.TypeName.{TypeName}
use Rattle.sml_types.specs.Tree.{Variable, occurs}
use Rattle.sml_types.specs.Forms.{parts_of, head_of}
use Rattle.sml_unify.specs.declared.pair.Pair.{Pair}
use Rattle.sml_unify.specs.declared.error.UnifyError.{UnifyError}
use Rattle.sml_unify.specs.declared.error.UnifyError.TheVariants.{Clash, Cycle, NoEquality}
use Rattle.sml_unify.specs.Solved.{Substitution, Solves, IsEqualPair, AreEqual, IsSameType, meant, under}
use Rattle.sml_unify.specs.Steps.{IsExtension, IsRefuted}

abbrev pub first_last : List ℕ → List ℕ → List Pair
first_last [] ys = []
first_last (x ∷ xs) [] = []
first_last (x ∷ xs) (y ∷ ys) = record { left = record { 0 = x }; right = record { 0 = y } } ∷ first_last xs ys

-- a type is a form that is no variable, under what is bound
pub record IsApp (forms : List TyForm) (bound : List (Option Ty)) (i : ℕ) (a : TyForm) : Type 0 where
  pub at : ℕ
  pub same : IsSameType forms bound i at
  pub here : slice_get forms at ≡ Some a
  pub head : (v : TyVar) → a ≡ Var v → ⊥

-- pairs are taken in order, and a pair's parts in its place; the first that cannot be made equal, under what is bound so far, names the error
pub data Fails (names : List TypeName) : List TyForm → List (Option Ty) → List Pair → UnifyError → Type 0 where
  on : {forms forms2 : List TyForm} {bound bound2 : List (Option Ty)} {p : Pair} {rest : List Pair} {e : UnifyError} → IsExtension names forms bound (p ∷ []) forms2 bound2 → ((f : Substitution) → Solves forms2 bound2 f → IsEqualPair forms f p) → Fails names forms2 bound2 rest e → Fails names forms bound (p ∷ rest) e
  into : {forms : List TyForm} {bound : List (Option Ty)} {p : Pair} {rest : List Pair} {e : UnifyError} (a b : TyForm) → IsApp forms bound p.left.0 a → IsApp forms bound p.right.0 b → head_of a ≡ head_of b → length (parts_of a) ≡ length (parts_of b) → Fails names forms bound (first_last (parts_of a) (parts_of b) ++ rest) e → Fails names forms bound (p ∷ rest) e
  clash : {forms : List TyForm} {bound : List (Option Ty)} {p : Pair} {rest : List Pair} (a b : TyForm) → IsApp forms bound p.left.0 a → IsApp forms bound p.right.0 b → ((head_of a ≡ head_of b) × (length (parts_of a) ≡ length (parts_of b)) → ⊥) → Fails names forms bound (p ∷ rest) Clash
  cycle : {forms : List TyForm} {bound : List (Option Ty)} {p : Pair} {rest : List Pair} (v : TyVar) → under forms (meant forms bound) p.left.0 ≡ Variable v → occurs v.num (under forms (meant forms bound) p.right.0) ≡ true → (under forms (meant forms bound) p.right.0 ≡ Variable v → ⊥) → Fails names forms bound (p ∷ rest) Cycle
  cycle_right : {forms : List TyForm} {bound : List (Option Ty)} {p : Pair} {rest : List Pair} (v : TyVar) → under forms (meant forms bound) p.right.0 ≡ Variable v → occurs v.num (under forms (meant forms bound) p.left.0) ≡ true → (under forms (meant forms bound) p.left.0 ≡ Variable v → ⊥) → Fails names forms bound (p ∷ rest) Cycle
  no_equality : {forms : List TyForm} {bound : List (Option Ty)} {p : Pair} {rest : List Pair} (v : TyVar) → under forms (meant forms bound) p.left.0 ≡ Variable v → occurs v.num (under forms (meant forms bound) p.right.0) ≡ false → IsRefuted names forms bound (p ∷ []) → Fails names forms bound (p ∷ rest) NoEquality
  no_equality_right : {forms : List TyForm} {bound : List (Option Ty)} {p : Pair} {rest : List Pair} (v : TyVar) → under forms (meant forms bound) p.right.0 ≡ Variable v → occurs v.num (under forms (meant forms bound) p.left.0) ≡ false → IsRefuted names forms bound (p ∷ []) → Fails names forms bound (p ∷ rest) NoEquality

-- the work in order: its last pair comes first
abbrev pub turned : List Pair → List Pair
turned [] = []
turned (p ∷ ps) = turned ps ++ p ∷ []

-- both lists of pairs are made equal by the same solutions
pub record IsSame (forms : List TyForm) (bound : List (Option Ty)) (before : List Pair) (after : List Pair) : Type 0 where
  pub forth : (f : Substitution) → Solves forms bound f → AreEqual forms f before → AreEqual forms f after
  pub back : (f : Substitution) → Solves forms bound f → AreEqual forms f after → AreEqual forms f before
  pub fails : (names : List TypeName) (e : UnifyError) → Fails names forms bound (turned after) e → Fails names forms bound (turned before) e
