-- Bodies by number that are made one after another.
use Rattle.std.specs.Prelude.{◌≡◌, ℕ, zero, suc, ◌<◌, List, [], ◌∷◌, ◌++◌, length, flat_map, replicate, Some, slice_get, slice_set}
use Rattle.std.specs.List.{AllByRecursion}
use Rattle.sml_tree.specs.IsBare.{IsDistinct}
use Rattle.cps_ir.specs.declared.body.Body.{Body}
use Rattle.cps_ir.specs.declared.body.End.TheVariants as end
use Rattle.cps_ir.specs.Code.{Code}
use Rattle.cps_ir.specs.Kept.{body_parts}
use Rattle.cps_ir.specs.Program.{code_of_body, code_at}

-- one that is still to be made
abbrev pub empty : Body
empty = record { binds = []; end = end.Halt }

-- so many numbers from one on
abbrev pub numbers : ℕ → ℕ → List ℕ
numbers n zero = []
numbers n (suc k) = n ∷ numbers (suc n) k

-- what a program keeps of the numbers of its bodies
pub record IsOneTree (bodies : List Body) : Type 0 where
  pub numbered : (i : ℕ) (b : Body) → slice_get bodies i ≡ Some b → AllByRecursion (λ c. (i < c) × (c < length bodies)) (body_parts b)
  pub apart : IsDistinct (flat_map body_parts bodies)
  pub whole : suc (length (flat_map body_parts bodies)) ≡ length bodies

abbrev pub Begins : Type 0
Begins = IsOneTree (empty ∷ [])

abbrev pub Grows : Type 0
Grows = (bodies : List Body) (i k : ℕ) (old b : Body) → IsOneTree bodies → slice_get bodies i ≡ Some old → body_parts b ≡ body_parts old ++ numbers (length bodies) k → IsOneTree (slice_set (bodies ++ replicate k empty) i b)

abbrev pub PromisesHold : Type 0
PromisesHold = (bodies : List Body) (promised : ℕ → Code) → IsOneTree bodies → ((i : ℕ) (b : Body) → slice_get bodies i ≡ Some b → code_of_body promised (Some b) ≡ promised i) → (i : ℕ) → i < length bodies → code_at bodies i ≡ promised i
