-- What a pass of the compiler keeps: b is the run of the program that it answers, and a the run of its argument.
use Rattle.std.specs.Prelude.{◌≡◌, ◌≢◌, ℕ, ◌<◌, ◌≤◌, List, [], ◌∷◌, Some, Bool, true, false, IsTrue, ◌⊎◌}
use Rattle.smlc_base.specs.declared.point.Point.{Point}
use Rattle.smlc_base.specs.declared.point.PointKind.TheVariants.{Eq}
use Rattle.simulation.specs.Blocks.{Block, Closure, ClassRecord, SpillRecord, IsAmong, IsPrefix, StandsAt, Reach, Embeds}
use Rattle.simulation.specs.Runs.{Run, Going, Arena, Stuck, times, visible, seen, passes_before}
use Rattle.smlc_base.specs.Points.{is_label}

-- what b can reach at its step n lies one to one in what a can reach at its step m
abbrev pub ReachesNoMore : Run → ℕ → Run → ℕ → Type 0
ReachesNoMore a m b n =
    (f : ℕ → ℕ) × Embeds (b.memory n) (Reach (b.memory n) (b.roots n)) (a.memory m) (Reach (a.memory m) (a.roots m)) f

-- what b has made in n steps lies one to one in what a has made in m
abbrev pub MakesNoMore : Run → ℕ → Run → ℕ → Type 0
MakesNoMore a m b n = (f : ℕ → ℕ) × Embeds (b.memory n) (λ _. Unit {0}) (a.memory m) (λ _. Unit {0}) f

-- where it may, the run ends for want of arena, and has written no more than this
abbrev pub EndsFull : Bool → Run → List ℕ → Type 0
EndsFull full b out = IsTrue full × ((n : ℕ) × (b.end n ≡ Arena) × IsPrefix (b.out n) out)

-- b does what a does, both ways. At full, b may end for want of arena in place of going on
pub record Follows (full : Bool) (a b : Run) : Type 0 where
  -- each point that stands in b stands in a
  pub fewer : (p : Point) → is_label b.labels p ≡ true → is_label a.labels p ≡ true
  -- outputs and ends
  pub told : (m : ℕ) → ((n : ℕ) × (b.out n ≡ a.out m)) ⊎ EndsFull full b (a.out m)
  pub told_only : (n : ℕ) → (m : ℕ) × IsPrefix (b.out n) (a.out m)
  pub ends : (m : ℕ) → a.end m ≢ Going → ((n : ℕ) × (b.end n ≡ a.end m) × (b.out n ≡ a.out m)) ⊎ EndsFull full b (a.out m)
  pub ends_only : (n : ℕ) → b.end n ≢ Going → ((m : ℕ) × (a.end m ≡ b.end n) × (a.out m ≡ b.out n)) ⊎ (IsTrue full × (b.end n ≡ Arena))
  -- each entry of b is a's pass of that point, with the same passes before it, and b can reach no more there
  pub entered : (n : ℕ) (p : Point) → visible b.labels (b.pass n) ≡ Some p → (m : ℕ) × (visible b.labels (a.pass m) ≡ Some p) × (seen b.labels a m ≡ seen b.labels b n) × ReachesNoMore a m b n
  -- each such pass of a is entered
  pub passed : (m : ℕ) (p : Point) → visible b.labels (a.pass m) ≡ Some p → ((n : ℕ) × (visible b.labels (b.pass n) ≡ Some p) × (seen b.labels b n ≡ seen b.labels a m)) ⊎ (IsTrue full × ((n : ℕ) × (b.end n ≡ Arena)))
  -- at each moment b has made no more than a has by some moment that isn't past a's next such pass
  pub made : (n : ℕ) → (m : ℕ) × IsPrefix (seen b.labels a m) (seen b.labels b n) × MakesNoMore a m b n

-- the run never stops without an end, and each point but that of comparisons stands at most once
pub record IsSound (r : Run) : Type 0 where
  pub never_stuck : (n : ℕ) → r.end n ≢ Stuck
  pub once : (p : Point) → p.kind ≢ Eq → times p r.labels ≤ 1

-- a closure that names the address stands here
pub record IsNamedBy (memory : List Block) (a c : ℕ) : Type 0 where
  pub block : Block
  pub point : Point
  pub stands : StandsAt memory c block
  pub closure : block.kind ≡ Closure point
  pub names : IsAmong a block.fields

-- each class record is named by a closure that was made after it, since blocks are made at a memory's end
abbrev pub AllNamed : List Block → Type 0
AllNamed memory = (a : ℕ) (x : Block) → StandsAt memory a x → x.kind ≡ ClassRecord → (c : ℕ) × (a < c) × IsNamedBy memory a c

-- It is so at each moment: a class record is made in one step with a closure that names it. A pass may owe this beside what it keeps.
abbrev pub NamesAtOnce : Run → Type 0
NamesAtOnce r = (n : ℕ) → AllNamed (r.memory n)

-- no spill record can be reached, and a class record only where a closure can that names it
pub record HasTidyReach (memory : List Block) (roots : List ℕ) : Type 0 where
  pub no_spill : (a : ℕ) (x : Block) → Reach memory roots a → StandsAt memory a x → x.kind ≢ SpillRecord
  pub by_closure : (a : ℕ) (x : Block) → Reach memory roots a → StandsAt memory a x → x.kind ≡ ClassRecord → (c : ℕ) × Reach memory roots c × IsNamedBy memory a c

-- what is so of class records and spill records, which stand outside the maps
pub record IsTidy (full : Bool) (r : Run) : Type 0 where
  pub reach : (n : ℕ) (p : Point) → visible r.labels (r.pass n) ≡ Some p → HasTidyReach (r.memory n) (r.roots n)
  -- A class record that stands at a moment is named by a closure that is made after it, by a moment with no more entries
  -- before it. At the moment at which the record is made this says that no entry lies between them.
  pub named : (n a : ℕ) (x : Block) → StandsAt (r.memory n) a x → x.kind ≡ ClassRecord → ((k c : ℕ) × (a < c) × IsNamedBy (r.memory k) a c × IsPrefix (seen r.labels r k) (seen r.labels r n)) ⊎ (IsTrue full × ((k : ℕ) × (r.end k ≡ Arena) × IsPrefix (seen r.labels r k) (seen r.labels r n)))

pub record IsKept (full : Bool) (a b : Run) : Type 0 where
  pub sound : IsSound b
  pub tidy : IsTidy full b
  pub follows : Follows full a b

-- b keeps a, where nothing ends for want of arena
abbrev pub Keeps : Run → Run → Type 0
Keeps a b = IsSound a → IsKept false a b

-- b keeps a, but may end for want of arena
abbrev pub KeepsUnlessFull : Run → Run → Type 0
KeepsUnlessFull a b = IsSound a → IsKept true a b

-- b keeps a, if the records of a are in order, as those of each answer of a pass are
abbrev pub KeepsTidy : Bool → Run → Run → Type 0
KeepsTidy full a b = IsSound a → IsTidy false a → IsKept full a b

-- each run keeps the one before it
abbrev pub EachKeeps : Run → List Run → Type 0
EachKeeps a [] = Unit {0}
EachKeeps a (b ∷ passes) = KeepsTidy false a b × EachKeeps b passes

abbrev pub last_of : Run → List Run → Run
last_of a [] = a
last_of a (b ∷ passes) = last_of b passes

-- step n of the run passes p, after i passes of it
pub record IsNthPass (r : Run) (p : Point) (i n : ℕ) : Type 0 where
  pub passes : r.pass n ≡ Some p
  pub after : passes_before p r n ≡ i

-- At the i-th entry of each label of b, a passes its point for the i-th time, where b can reach no more; the entries come in the
-- order of those passes; and each such pass of a is entered, unless b may end for want of arena and does.
pub record EntriesArePasses (full : Bool) (a b : Run) : Type 0 where
  pub entered : (p : Point) (i n : ℕ) → is_label b.labels p ≡ true → IsNthPass b p i n → (m : ℕ) × IsNthPass a p i m × ReachesNoMore a m b n
  pub passed : (p : Point) (i m : ℕ) → is_label b.labels p ≡ true → IsNthPass a p i m → ((n : ℕ) × IsNthPass b p i n) ⊎ (IsTrue full × ((n : ℕ) × (b.end n ≡ Arena)))
  pub in_order : (p q : Point) (i j n k m l : ℕ) → is_label b.labels p ≡ true → is_label b.labels q ≡ true → IsNthPass b p i n → IsNthPass b q j k → IsNthPass a p i m → IsNthPass a q j l → n < k → m < l
