-- Wrong answers of a pass: what each shows that a right one can't.
use Rattle.std.specs.Prelude.{◌≡◌, ◌≢◌, ℕ, true}
use Rattle.smlc_base.specs.declared.point.Point.{Point}
use Rattle.simulation.specs.Blocks.{Block, Datum, ClassRecord, StandsAt, Reach, IsCounted, IsLike}
use Rattle.simulation.specs.Runs.{Run, Going}
use Rattle.smlc_base.specs.Points.{is_label}
use Rattle.simulation.specs.Keeps.{IsNthPass, IsNamedBy}

-- an output of a never comes in b
abbrev pub LosesOutput : Run → Run → Type 0
LosesOutput a b = (m : ℕ) × ((n : ℕ) → b.out n ≢ a.out m)

-- a ends, and b never does
abbrev pub NeverEnds : Run → Run → Type 0
NeverEnds a b = (m : ℕ) × (a.end m ≢ Going) × ((n : ℕ) → b.end n ≡ Going)

-- b enters a label for the i-th time, and a never passes it so often
abbrev pub EntersTooOften : Run → Run → Type 0
EntersTooOften a b = (p : Point) × (i n : ℕ) × (is_label b.labels p ≡ true) × IsNthPass b p i n × ((m : ℕ) → IsNthPass a p i m → ⊥)

-- where b enters a label it can reach a datum, and where a passes it a can reach none of its length
abbrev pub KeepsTooMuch : Run → Run → Type 0
KeepsTooMuch a b =
    (p : Point) × (i n c : ℕ) × (x : Block) × (is_label b.labels p ≡ true) × IsNthPass b p i n × Reach (b.memory n) (b.roots n) c × StandsAt (b.memory n) c x × (x.kind ≡ Datum) × ((m d : ℕ) (y : Block) → IsNthPass a p i m → Reach (a.memory m) (a.roots m) d → StandsAt (a.memory m) d y → y.kind ≡ Datum → y.words ≢ x.words)

-- b makes a block, and a never makes one like it
abbrev pub MakesAnother : Run → Run → Type 0
MakesAnother a b = (n c : ℕ) × (x : Block) × StandsAt (b.memory n) c x × IsCounted x × ((m d : ℕ) (y : Block) → StandsAt (a.memory m) d y → IsLike x y → ⊥)

-- b makes a class record that no closure ever names
abbrev pub LeavesUnnamed : Run → Type 0
LeavesUnnamed b = (n c : ℕ) × (x : Block) × StandsAt (b.memory n) c x × (x.kind ≡ ClassRecord) × ((k d : ℕ) → IsNamedBy (b.memory k) c d → ⊥)
