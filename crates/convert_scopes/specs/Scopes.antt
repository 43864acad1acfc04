-- Scopes by number.
use Rattle.std.specs.Prelude.{◌≡◌, ℕ, zero, suc, ◌≤◌, ◌<◌, List, [], ◌∷◌, Option, Some, None, length, slice_get, unwrap_or}
use Rattle.cps_ir.specs.declared.atom.Atom.{Atom}
use Rattle.cps_ir.specs.declared.atom.Atom.TheVariants as atom
use Rattle.cps_ir.specs.declared.atom.Constant.TheVariants as constant
use Rattle.cps_ir.specs.State.{bind}
use Rattle.convert_scopes.specs.declared.scopes.Bound.{Bound}

pub record Scopes : Type 0 where
  pub bounds : List Bound
  pub table : List Atom
  pub present : ℕ

abbrev pub nothing : Atom
nothing = atom.Constant constant.Nothing

abbrev pub atom_in : List Atom → ℕ → Atom
atom_in table x = unwrap_or (slice_get table x) nothing

-- the scope of a number
pub data IsScope (bounds : List Bound) : ℕ → (ℕ → Atom) → Type 0 where
  empty : IsScope bounds zero (λ x. nothing)
  more : (v : ℕ) (b : Bound) (σ : ℕ → Atom) → slice_get bounds v ≡ Some b → IsScope bounds b.inside σ → IsScope bounds (suc v) (bind σ b.name.0 b.atom)

-- the scope that one has a name more than was made before it
pub record IsBound (bounds : List Bound) (names v : ℕ) (b : Bound) : Type 0 where
  pub earlier : b.inside ≤ v
  pub within : b.name.0 < names
  pub before : (σ : ℕ → Atom) → IsScope bounds b.inside σ → b.before ≡ σ b.name.0

-- the table has the atoms of the present scope
pub record AreScopes (s : Scopes) : Type 0 where
  pub stands : s.present ≤ length s.bounds
  pub bound : (v : ℕ) (b : Bound) → slice_get s.bounds v ≡ Some b → IsBound s.bounds (length s.table) v b
  pub here : (σ : ℕ → Atom) → IsScope s.bounds s.present σ → (x : ℕ) → atom_in s.table x ≡ σ x

-- what a number stands for, which isn't the empty scope's
abbrev pub bound_of : List Bound → ℕ → Option Bound
bound_of bounds zero = None
bound_of bounds (suc v) = slice_get bounds v

-- a scope has one name more than another
pub record IsNext (bounds : List Bound) (inside next : ℕ) : Type 0 where
  pub bound : Bound
  pub is : bound_of bounds next ≡ Some bound
  pub on : bound.inside ≡ inside

-- from a scope on, each is the one inside that before it
abbrev pub Chain : List Bound → ℕ → List ℕ → ℕ → Type 0
Chain bounds scope [] to = scope ≡ to
Chain bounds scope (e ∷ es) to = (e ≡ scope) × ((b : Bound) × (bound_of bounds e ≡ Some b) × Chain bounds b.inside es to)
