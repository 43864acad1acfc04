-- A machine's memory as a list of blocks. An address is a place in the list.
use Rattle.std.specs.Prelude.{◌≡◌, ℕ, List, [], ◌∷◌, ◌++◌, Some, slice_get, ◌⊎◌}
use Rattle.smlc_base.specs.declared.point.Point.{Point}

-- What a block is. A frame has one point, and a frame of a handle has two: where it catches and where it is popped. A memory
-- that has an address for each word has a block at the first word of each, and says at the others that they lie inside one.
pub data Kind : Type 0 where
  Closure : (point : Point) → Kind
  Frame : (points : List Point) → Kind
  Datum : Kind
  ClassRecord : Kind
  SpillRecord : Kind
  Inside : Kind

-- a block: what it is, how long it is, and the addresses that its fields name
pub record Block : Type 0 where
  pub kind : Kind
  pub words : ℕ
  pub fields : List ℕ

-- x is an element of the list
abbrev pub IsAmong : {X : Type 0} → X → List X → Type 0
IsAmong x [] = ⊥
IsAmong x (y ∷ ys) = (x ≡ y) ⊎ IsAmong x ys

-- the second list goes on from the first
abbrev pub IsPrefix : {X : Type 0} → List X → List X → Type 0
IsPrefix {X} xs ys = (rest : List X) × (xs ++ rest ≡ ys)

-- the points that a block stands for
abbrev pub points_of : Kind → List Point
points_of (Closure p) = p ∷ []
points_of (Frame ps) = ps
points_of Datum = []
points_of ClassRecord = []
points_of SpillRecord = []
points_of Inside = []

abbrev pub StandsAt : List Block → ℕ → Block → Type 0
StandsAt memory a block = slice_get memory a ≡ Some block

-- the addresses that can be reached from the roots: the least set that has these and is closed under fields
pub data Reach (memory : List Block) (roots : List ℕ) : ℕ → Type 0 where
  root : (a : ℕ) → IsAmong a roots → Reach memory roots a
  field : (a b : ℕ) (block : Block) → Reach memory roots a → StandsAt memory a block → IsAmong b block.fields → Reach memory roots b

-- both are data, or both stand for one point
abbrev pub AreOfOneSort : Block → Block → Type 0
AreOfOneSort x y =
    ((x.kind ≡ Datum) × (y.kind ≡ Datum)) ⊎ ((p : Point) × IsAmong p (points_of x.kind) × IsAmong p (points_of y.kind))

-- it is a datum, or a closure or frame of some point: what the maps between memories speak of
abbrev pub IsCounted : Block → Type 0
IsCounted x = AreOfOneSort x x

-- y may stand for x: a datum of the same length, or a block that has the points of x
pub record IsLike (x y : Block) : Type 0 where
  pub datum : x.kind ≡ Datum → (y.kind ≡ Datum) × (y.words ≡ x.words)
  pub points : (p : Point) → IsAmong p (points_of x.kind) → IsAmong p (points_of y.kind)

-- f leads each counted block at an address in From to one like it at an address in Into, and no two of one sort to one
pub record Embeds (small : List Block) (From : ℕ → Type 0) (large : List Block) (Into : ℕ → Type 0) (f : ℕ → ℕ) : Type 0 where
  pub image : (a : ℕ) (x : Block) → From a → StandsAt small a x → IsCounted x → (y : Block) × StandsAt large (f a) y × Into (f a) × IsLike x y
  pub apart : (a b : ℕ) (x y : Block) → From a → From b → StandsAt small a x → StandsAt small b y → AreOfOneSort x y → f a ≡ f b → a ≡ b

-- no block goes, and each keeps its kind and its length; only fields may change
abbrev pub Grows : List Block → List Block → Type 0
Grows old new = (a : ℕ) (x : Block) → StandsAt old a x → (y : Block) × StandsAt new a y × (y.kind ≡ x.kind) × (y.words ≡ x.words)
