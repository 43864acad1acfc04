-- What one step answers, and many.
use Rattle.std.specs.Prelude.{ℕ, ◌<◌, Bool, true, false, Option, Result, Ok, Err, List, [], ◌∷◌}
use Rattle.sml_types.specs.declared.types.Ty.{Ty}
use Rattle.sml_types.specs.declared.types.TyForm.{TyForm}
use Rattle.sml_types.specs.declared.tables.TypeName.{TypeName}
use Rattle.sml_unify.specs.declared.pair.Pair.{Pair}
use Rattle.sml_unify.specs.declared.error.UnifyError.{UnifyError}
use Rattle.sml_unify.specs.declared.error.UnifyError.TheVariants.{Clash, Cycle, NoEquality, NoMemory}
use Rattle.sml_unify.specs.Solved.{Substitution, Solves, IsEqualPair, AreEqual, next_number, weight}
use Rattle.sml_unify.specs.Steps.{IsExtensionFrom, IsRefuted}
use Rattle.sml_unify.specs.Named.{Fails, turned}

-- the answer of one step: whether the pair is equal from now on
abbrev pub IsStep : List TypeName → ℕ → List TyForm → List (Option Ty) → Pair → List TyForm → List (Option Ty) → Result Bool UnifyError → Type 0
IsStep names next forms bound p forms2 bound2 (Ok true) = IsExtensionFrom names next forms bound (p ∷ []) forms2 bound2 × ((f : Substitution) → Solves forms2 bound2 f → IsEqualPair forms f p) × (weight forms2 bound2 < weight forms bound)
IsStep names next forms bound p forms2 bound2 (Ok false) = IsExtensionFrom names next forms bound (p ∷ []) forms2 bound2 × (weight forms2 bound2 < weight forms bound) × ((rest : List Pair) (e : UnifyError) → Fails names forms2 bound2 (p ∷ rest) e → Fails names forms bound (p ∷ rest) e)
IsStep names next forms bound p forms2 bound2 (Err Cycle) = IsRefuted names forms bound (p ∷ []) × ((rest : List Pair) → Fails names forms bound (p ∷ rest) Cycle)
IsStep names next forms bound p forms2 bound2 (Err NoEquality) = IsRefuted names forms bound (p ∷ []) × ((rest : List Pair) → Fails names forms bound (p ∷ rest) NoEquality)
IsStep names next forms bound p forms2 bound2 (Err NoMemory) = Unit {0}
IsStep names next forms bound p forms2 bound2 (Err Clash) = ⊥

-- the answer for a list of pairs, the last first
abbrev pub IsUnifiedFrom : List TypeName → ℕ → List TyForm → List (Option Ty) → List Pair → List TyForm → List (Option Ty) → Result Unit UnifyError → Type 0
IsUnifiedFrom names next forms bound pairs forms2 bound2 (Ok _) = IsExtensionFrom names next forms bound pairs forms2 bound2 × ((f : Substitution) → Solves forms2 bound2 f → AreEqual forms f pairs)
IsUnifiedFrom names next forms bound pairs forms2 bound2 (Err NoMemory) = Unit {0}
IsUnifiedFrom names next forms bound pairs forms2 bound2 (Err e) = IsRefuted names forms bound pairs × Fails names forms bound (turned pairs) e

-- the counter is at the first number above all
abbrev pub IsUnified : List TypeName → List TyForm → List (Option Ty) → List Pair → List TyForm → List (Option Ty) → Result Unit UnifyError → Type 0
IsUnified names forms bound pairs forms2 bound2 result = IsUnifiedFrom names (next_number forms bound) forms bound pairs forms2 bound2 result
