-- When class records and spill records are in order.
use Rattle.std.proofs.Common.{◌≡◌, ◌≢◌, ℕ, List, Some, Bool, inl}
use Rattle.smlc_base.specs.declared.point.Point.{Point}
use Rattle.simulation.specs.Blocks.{Closure, ClassRecord, SpillRecord, Block, IsAmong, StandsAt, Reach, root, field}
use Rattle.simulation.specs.Keeps.{AllNamed, NamesAtOnce, IsNamedBy, HasTidyReach, IsTidy}
use Rattle.simulation.specs.Runs.{Run, visible, seen}
use Rattle.simulation.proofs.Blocks.{prefix_refl}

-- only closures name class records
abbrev pub ClosuresName : List Block → Type 0
ClosuresName memory = (a b : ℕ) (x y : Block) → StandsAt memory a x → IsAmong b x.fields → StandsAt memory b y → y.kind ≡ ClassRecord → (p : Point) × (x.kind ≡ Closure p)

-- no root is a class record
abbrev pub RootsNameNone : List Block → List ℕ → Type 0
RootsNameNone memory roots = (a : ℕ) (x : Block) → IsAmong a roots → StandsAt memory a x → x.kind ≢ ClassRecord

by_closure : (memory : List Block) (roots : List ℕ) → RootsNameNone memory roots → ClosuresName memory → (a : ℕ) (x : Block) → Reach memory roots a → StandsAt memory a x → x.kind ≡ ClassRecord → (c : ℕ) × Reach memory roots c × IsNamedBy memory a c
by_closure memory roots r n a x (root a' i) s e = absurd (r a x i s e)
by_closure memory roots r n a x (field c a' y t u i) s e =
    let p = n c a y x u i s e in
    (c, t, record { block = y; point = p.0; stands = u; closure = p.1; names = i })

pub tidy_reach : (memory : List Block) (roots : List ℕ) → RootsNameNone memory roots → ClosuresName memory → ((a : ℕ) (x : Block) → StandsAt memory a x → x.kind ≢ SpillRecord) → HasTidyReach memory roots
tidy_reach memory roots r n never = record { no_spill = λ a x _ s. never a x s; by_closure = by_closure memory roots r n }

-- a language without such records
pub tidy_none : (memory : List Block) (roots : List ℕ) → ((a : ℕ) (x : Block) → StandsAt memory a x → (x.kind ≢ ClassRecord) × (x.kind ≢ SpillRecord)) → HasTidyReach memory roots × AllNamed memory
tidy_none memory roots never =
    (record { no_spill = λ a x _ s. (never a x s).1; by_closure = λ a x _ s e. absurd ((never a x s).0 e) }, λ a x s e. absurd ((never a x s).0 e))

-- a run whose class records are named at each moment, and in order where it passes one of its points
pub tidy_run : (full : Bool) (r : Run) → NamesAtOnce r → ((n : ℕ) (p : Point) → visible r.labels (r.pass n) ≡ Some p → HasTidyReach (r.memory n) (r.roots n)) → IsTidy full r
tidy_run full r named reach = record {
  reach = reach;
  named = λ n a x s k. let c = named n a x s k in inl (n, c.0, c.1, c.2, prefix_refl (seen r.labels r n));
}
