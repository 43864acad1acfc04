-- What an expansion makes beside nodes, and the steps that make it.
use Rattle.std.specs.Prelude.{◌≡◌, ℕ, suc, zero, ◌==◌, ◌&&◌, None, List, [], ◌∷◌, ◌++◌, fold, length, slice_index}
use Rattle.smlc_base.specs.declared.refusal.Refusal.{Refusal}
use Rattle.sml_tree.specs.declared.bare.TypeExp.{TypeExp}
use Rattle.sml_expansion.specs.declared.made.Made.{Made}
use Rattle.sml_expansion.specs.Refusals.{kept}

-- nothing: the first ten type names are those of the library
abbrev pub nothing_made : Made
nothing_made = record { names = []; types = []; tyvars = []; type_names = 10; abbreviations = 0; refusal = None }

-- what gives an A and makes something
abbrev pub Makes : Type 0 → Type 0
Makes A = Made → A × Made

-- in the state m, f gives a and leaves n
abbrev pub Runs : {A : Type 0} → Makes A → Made → A → Made → Type 0
Runs f m a n = f m ≡ (a, n)

abbrev pub gives : {A : Type 0} → A → Makes A
gives a = λ m. (a, m)

abbrev pub ◌>>=◌ : {A B : Type 0} → Makes A → (A → Makes B) → Makes B
◌>>=◌ f g = λ m. let r = f m in g r.0 r.1

abbrev pub ◌>>◌ : {A B : Type 0} → Makes A → Makes B → Makes B
◌>>◌ f g = λ m. g (f m).1

-- rules are broken: the least of all is kept
abbrev pub breaks : List Refusal → Makes (Unit {0})
breaks refusals = λ m. (tt, record m { refusal = fold kept m.refusal refusals })

-- a new binding with this spelling
abbrev pub new_name : List ℕ → Makes ℕ
new_name text = λ m. (length m.names, record m { names = m.names ++ text ∷ [] })

-- so many with one spelling
abbrev pub new_names : List ℕ → ℕ → Makes (List ℕ)
new_names text zero = gives []
new_names text (suc n) = do
  x ← new_name text
  xs ← new_names text n
  gives (x ∷ xs)

abbrev pub new_type : TypeExp → Makes ℕ
new_type t = λ m. (length m.types, record m { types = m.types ++ t ∷ [] })

-- a new type variable; one that admits equality alone begins with two primes
abbrev pub new_tyvar : List ℕ → Makes ℕ
new_tyvar text = λ m. (length m.tyvars, record m { tyvars = m.tyvars ++ (slice_index text 0 == 39 && slice_index text 1 == 39) ∷ [] })

abbrev pub new_type_name : Makes ℕ
new_type_name = λ m. (m.type_names, record m { type_names = suc m.type_names })

abbrev pub new_abbreviation : Makes ℕ
new_abbreviation = λ m. (m.abbreviations, record m { abbreviations = suc m.abbreviations })
