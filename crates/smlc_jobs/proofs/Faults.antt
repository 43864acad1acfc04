-- counts of faults, and the parts of the top call put together
use Rattle.std.proofs.Common.{◌≡◌, inl, inr, ℕ, ◌≤◌, List, [], Option, Some, arith, refl}
use Rattle.smlc_edge.specs.Edge.{Rose, Fails}
use Rattle.smlc_edge.proofs.Gained.{gains_none}
use Rattle.rv_machine.specs.Run.{CountsAt}
use Rattle.rv_machine.specs.declared.hart.End.TheVariants as ended
use Rattle.smlc_jobs.specs.Runs.{Tally, tally, IsSame, Came}

pub same_counts : (store i i' o o' e e' : ℕ) → (i' ≡ i) × (o' ≡ o) × (e' ≡ e) → IsSame (tally store i o e) (tally store i' o' e')
same_counts store i i' o o' e e' h = record { store = refl; input = h.0; out = h.1; err = h.2 }

-- where a write failed and the count of out didn't rise, that of err did
pub err_failed : (i i' o o' e e' : ℕ) → CountsAt (Some ended.WriteFault) i i' o o' e e' → (Rose o o' → ⊥) → Fails e e'
err_failed i i' o o' e e' (same, inl f) never = absurd (never f.0.1)
err_failed i i' o o' e e' (same, inr f) never = f.1

-- where a write failed the count of err fell in no case
pub err_stands : (i i' o o' e e' : ℕ) → CountsAt (Some ended.WriteFault) i i' o o' e e' → e ≤ e'
err_stands i i' o o' e e' (same, inl f) = let h = f.1 in omega (arith, h)
err_stands i i' o o' e e' (same, inr f) = f.1.0

pub rose_same : (a b a' b' : ℕ) → a ≡ a' → b ≡ b' → Rose a b → Rose a' b'
rose_same a b a' b' p q h = omega (arith, h)

pub all_same : (t : Tally) → IsSame t t
all_same t = record { store = refl; input = refl; out = refl; err = refl }

-- nothing was written
pub came_none : (out err : Option (List ℕ)) (P : List ℕ → List ℕ → Type 0) → P [] [] → Came out out err err P
came_none out err P says = record { wrote = []; wrote_err = []; gains = gains_none out; gains_err = gains_none err; says = says }

pub came_so : (out out' err err' : Option (List ℕ)) (P Q : List ℕ → List ℕ → Type 0) → ((w e : List ℕ) → P w e → Q w e) → Came out out' err err' P → Came out out' err err' Q
came_so out out' err err' P Q f c = record { wrote = c.wrote; wrote_err = c.wrote_err; gains = c.gains; gains_err = c.gains_err; says = f c.wrote c.wrote_err c.says }
