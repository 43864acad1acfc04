-- What is bound to numbers: pairs of a number and what it stands for, the latest first.
use Rattle.std.specs.Prelude.{◌≡◌, ℕ, ◌-◌, if◌then◌else◌, nat_eq, List, [], ◌∷◌, Option, Some, None, get_or, map, reverse, drop, length}

-- what a number stands for
abbrev pub latest : {T : Type 0} → List (ℕ × T) → ℕ → Option T
latest [] k = None
latest (b ∷ env) k = if nat_eq b.0 k then Some b.1 else latest env k

-- the bindings that stood when there were n
abbrev pub oldest : {T : Type 0} → ℕ → List T → List T
oldest n env = drop (length env - n) env

-- A binding with what it hides.
abbrev pub bound : {T : Type 0} → List (ℕ × T × Option T) → List (ℕ × T)
bound log = map (λ b. (b.0, b.1)) (reverse log)

-- each binding, the latest first, hides what its number stood for before
abbrev pub Hide : {T : Type 0} → List (ℕ × T × Option T) → Type 0
Hide [] = Unit {0}
Hide (b ∷ log) = (b.2 ≡ latest (map (λ b. (b.0, b.1)) log) b.0) × Hide log

-- a table has what each number stands for by the bindings of a log, which has each behind those before it
pub record Stands {T : Type 0} (meanings : List (Option T)) (log : List (ℕ × T × Option T)) : Type 0 where
  pub now : (k : ℕ) → get_or meanings k None ≡ latest (bound log) k
  pub hide : Hide (reverse log)
