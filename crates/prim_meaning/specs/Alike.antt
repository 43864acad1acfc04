-- Two machines see related values alike: the same scalars and bytes, addresses that are related one to one, and data field by field.
use Rattle.std.specs.List.{AllByRecursion}
use Rattle.std.specs.Prelude.{◌≡◌, ℕ, suc, ◌<◌, ◌≤◌, length, ℤ, Bool, List, [], ◌∷◌, Option, Some, None, nat_eq}
use Rattle.smlc_base.specs.declared.exception.LibraryExn.{LibraryExn}
use Rattle.prim_meaning.specs.Data.{Plain}
use Rattle.prim_meaning.specs.Meaning.{Seen, Scalar, Text, Tuple, Applied, Cell, Packet, Opaque, Outcome, Comes, Gives, Assigns, Compares, Verdict, Equal, Unequal, AsPairs, letters}
use Rattle.prim_meaning.specs.Tests.{Which, Declared, OfLibrary, Wanted, Num, Tag, Bytes, Exn, Never, Trial, Case, Scope}

-- item by item
abbrev pub AllAlike : {X Y : Type 0} → (X → Y → Type 0) → List X → List Y → Type 0
AllAlike R [] [] = Unit {0}
AllAlike R [] (y ∷ ys) = ⊥
AllAlike R (x ∷ xs) [] = ⊥
AllAlike R (x ∷ xs) (y ∷ ys) = R x y × AllAlike R xs ys

-- both or neither
abbrev pub BothAlike : {X Y : Type 0} → (X → Y → Type 0) → Option X → Option Y → Type 0
BothAlike R None None = Unit {0}
BothAlike R None (Some y) = ⊥
BothAlike R (Some x) None = ⊥
BothAlike R (Some x) (Some y) = R x y

-- where the first has an answer, so has the second
abbrev pub Answers : {X Y : Type 0} → (X → Y → Type 0) → Option X → Option Y → Type 0
Answers R None o = Unit {0}
Answers R (Some x) None = ⊥
Answers R (Some x) (Some y) = R x y

abbrev pub PairAlike : {V W : Type 0} → (V → W → Type 0) → V × V → W × W → Type 0
PairAlike R p q = R p.0 q.0 × R p.1 q.1

abbrev pub BoundAlike : {V W : Type 0} → (V → W → Type 0) → ℕ × V → ℕ × W → Type 0
BoundAlike R p q = (q.0 ≡ p.0) × R p.1 q.1

-- the same case, with related bindings
abbrev pub ChoiceAlike : {V W : Type 0} → (V → W → Type 0) → List (ℕ × V) × ℕ → List (ℕ × W) × ℕ → Type 0
ChoiceAlike R p q = AllAlike (BoundAlike R) p.0 q.0 × (q.1 ≡ p.1)

module _ (A : ℕ → ℕ → Type 0) where
  pub data SameWhich : Which → Which → Type 0 where
    same_declared : (a b : ℕ) → A a b → SameWhich (Declared a) (Declared b)
    same_library : (n : ℕ) → SameWhich (OfLibrary n) (OfLibrary n)

pub data SameSeen {V W : Type 0} (A : ℕ → ℕ → Type 0) (R : V → W → Type 0) : Seen V → Seen W → Type 0 where
  same_scalar : (z : ℤ) → SameSeen A R (Scalar z) (Scalar z)
  same_text : (bytes : List ℕ) → SameSeen A R (Text bytes) (Text bytes)
  same_tuple : (vs : List V) (ws : List W) → AllAlike R vs ws → SameSeen A R (Tuple vs) (Tuple ws)
  same_applied : (a b n : ℕ) (v : V) (w : W) → R v w → SameSeen A R (Applied a n v) (Applied b n w)
  same_cell : (a b : ℕ) (v : V) (w : W) → A a b → R v w → SameSeen A R (Cell a v) (Cell b w)
  same_packet : (x v : V) (y w : W) → R x y → R v w → SameSeen A R (Packet x v) (Packet y w)
  same_opaque : SameSeen A R Opaque Opaque

pub data SameOutcome {V W : Type 0} (A : ℕ → ℕ → Type 0) (R : V → W → Type 0) : Outcome V → Outcome W → Type 0 where
  same_comes : (r : Plain) → SameOutcome A R (Comes r) (Comes r)
  same_gives : (v : V) (w : W) → R v w → SameOutcome A R (Gives v) (Gives w)
  same_assigns : (a b : ℕ) (v : V) (w : W) → A a b → R v w → SameOutcome A R (Assigns a v) (Assigns b w)
  same_compares : (v x : V) (w y : W) (t : Bool) → R v w → R x y → SameOutcome A R (Compares v x t) (Compares w y t)

pub data SameVerdict {V W : Type 0} (R : V → W → Type 0) : Verdict V → Verdict W → Type 0 where
  both_equal : SameVerdict R Equal Equal
  both_unequal : SameVerdict R Unequal Unequal
  both_pairs : (ps : List (V × V)) (qs : List (W × W)) → AllAlike (PairAlike R) ps qs → SameVerdict R (AsPairs ps) (AsPairs qs)

pub data SameWanted {V W : Type 0} (R : V → W → Type 0) : Wanted V → Wanted W → Type 0 where
  same_num : (z : ℤ) → SameWanted R (Num z) (Num z)
  same_tag : (n : ℕ) → SameWanted R (Tag n) (Tag n)
  same_bytes : (bs : List ℕ) → SameWanted R (Bytes bs) (Bytes bs)
  same_exn : (v : V) (w : W) (applied : Bool) → R v w → SameWanted R (Exn v applied) (Exn w applied)
  same_never : SameWanted R Never Never

pub record SameTrial {V W : Type 0} (R : V → W → Type 0) (t : Trial V) (u : Trial W) : Type 0 where
  pub path : u.path ≡ t.path
  pub want : SameWanted R t.want u.want

pub record SameCase {V W : Type 0} (R : V → W → Type 0) (c : Case V) (d : Case W) : Type 0 where
  pub tests : AllAlike (SameTrial R) c.tests d.tests
  pub names : d.names ≡ c.names
  pub body : d.body ≡ c.body

-- Two views are alike. Nothing but this is asked of two machines.
pub record Views {V W : Type 0} (A : ℕ → ℕ → Type 0) (R : V → W → Type 0) (see : V → Seen V) (look : W → Seen W) : Type 0 where
  pub one_to_one : (a b c d : ℕ) → A a c → A b d → nat_eq c d ≡ nat_eq a b
  pub alike : (v : V) (w : W) → R v w → SameSeen A R (see v) (look w)

-- and they name exceptions alike
abbrev pub NamesAlike : {V W : Type 0} → (ℕ → ℕ → Type 0) → (V → W → Type 0) → (V → Option Which) → (W → Option Which) → Type 0
NamesAlike {V} {W} A R which whose = (v : V) (w : W) → R v w → BothAlike (SameWhich A) (which v) (whose w)

-- What they have at a match is alike. The tests of a program then want alike things in both.
pub record ScopesAlike {V W : Type 0} (R : V → W → Type 0) (scope : Scope V) (ground : Scope W) : Type 0 where
  pub texts : ground.texts ≡ scope.texts
  pub value_of : (x : ℕ) → BothAlike R (scope.value_of x) (ground.value_of x)
  pub library : (e : LibraryExn) → R (scope.library e) (ground.library e)

-- ---- How many blocks a machine counts for a list of characters

-- The applied constructors that are seen stand below `most`, and what stands at an address is one thing.
pub record HasBlocks {V : Type 0} (see : V → Seen V) (most : ℕ) : Type 0 where
  pub below : (v : V) (a n : ℕ) (x : V) → see v ≡ Applied a n x → a < most
  pub same : (v w : V) (a m n : ℕ) (x y : V) → see v ≡ Applied a m x → see w ≡ Applied a n y → y ≡ x

-- the second machine counts enough for each list that the first reads
abbrev pub HasRoom : {V W : Type 0} → (V → W → Type 0) → (V → Seen V) → ℕ → ℕ → Type 0
HasRoom {V} {W} R see most more = (v : V) (w : W) (bs : List ℕ) → R v w → letters see (suc most) v ≡ Some bs → length bs ≤ more

-- ---- What holds of the parts

abbrev pub SeenHas : {V : Type 0} → (V → Type 0) → Seen V → Type 0
SeenHas P (Tuple fields) = AllByRecursion P fields
SeenHas P (Applied a n v) = P v
SeenHas P (Cell a v) = P v
SeenHas P (Packet x v) = P x × P v
SeenHas P _ = Unit {0}

abbrev pub OutcomeHas : {V : Type 0} → (V → Type 0) → Outcome V → Type 0
OutcomeHas P (Comes r) = Unit {0}
OutcomeHas P (Gives v) = P v
OutcomeHas P (Assigns a v) = P v
OutcomeHas P (Compares v w t) = P v × P w

abbrev pub VerdictHas : {V : Type 0} → (V → Type 0) → Verdict V → Type 0
VerdictHas P (AsPairs pairs) = AllByRecursion (λ q. P q.0 × P q.1) pairs
VerdictHas P _ = Unit {0}
