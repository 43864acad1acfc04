-- runs of some instructions, and what they say of a behaviour
use Rattle.std.proofs.Common.{◌≡◌, ℕ, zero, suc, ◌+◌, ◌≤◌, List, [], ◌++◌, arith, refl, sym, ap, ◌∙◌, append_assoc}
use Rattle.std.proofs.lemmas.List.{append-nil}
use Rattle.std.specs.Prelude.{slice_range, if◌then◌else◌, ◌==◌, Bool, true, false}
use Rattle.rv_machine.specs.declared.hart.Next.{Next}
use Rattle.rv_machine.specs.declared.hart.Next.TheVariants.{Going, Exit, Trap, Read, Write}
use Rattle.rv_machine.specs.State.{State}
use Rattle.rv_machine.specs.Step.{step_of}
use Rattle.rv_machine.specs.Run.{World, Cut, Mend, Runs, Exited, Trapped, Turn, turn, turned, proceeds, behaviour, moved}
use Rattle.rv_machine.proofs.Behaviour.{behaviour-last}

pub data Reaches : ℕ → World → List Cut → World → List Cut → Type 0 where
  stay : (w : World) (c : List Cut) → Reaches 0 w c w c
  more : (n : ℕ) (w w' w'' : World) (c c' c'' : List Cut) → turn w c ≡ record { mend = Runs; world = w'; cuts = c' } → Reaches n w' c' w'' c'' → Reaches (suc n) w c w'' c''

pub reaches_on : (n m : ℕ) (w w' w'' : World) (c c' c'' : List Cut) → Reaches n w c w' c' → Reaches m w' c' w'' c'' → (k : ℕ) × (k ≡ n + m) × Reaches k w c w'' c''
reaches_on _ m _ _ w'' _ _ c'' (stay w c) second = (m, omega arith, second)
reaches_on _ m _ w' w'' _ c' c'' (more n w v x c d e t first) second =
    let q = reaches_on n m v w' w'' d c' c'' first second in (suc q.0, omega (arith, q.1), more q.0 w v w'' c d c'' t q.2)

-- within so many instructions
pub record Leads (bound : ℕ) (w : World) (c : List Cut) (w' : World) (c' : List Cut) : Type 0 where
  pub count : ℕ
  pub within : count ≤ bound
  pub reaches : Reaches count w c w' c'

pub leads_on : (a b k : ℕ) (w w' w'' : World) (c c' c'' : List Cut) → Leads a w c w' c' → Leads b w' c' w'' c'' → a + b ≤ k → Leads k w c w'' c''
leads_on a b k w w' w'' c c' c'' f g p =
    let q = reaches_on f.count g.count w w' w'' c c' c'' f.reaches g.reaches in
    record { count = q.0; within = omega (arith, f.within, g.within, q.1); reaches = q.2 }

pub leads_one : (w w' : World) (c c' : List Cut) → turn w c ≡ record { mend = Runs; world = w'; cuts = c' } → Leads 1 w c w' c'
leads_one w w' c c' t = record { count = 1; within = omega arith; reaches = more 0 w w' w' c c' c' t (stay w' c') }

pub leads_none : (w : World) (c : List Cut) → Leads 0 w c w c
leads_none w c = record { count = 0; within = omega arith; reaches = stay w c }

-- the behaviour after a last turn that ends
pub reaches_end : (n : ℕ) (w w' : World) (c c' : List Cut) (m : Mend) → Reaches n w c w' c' → turn w' c' ≡ record { mend = m; world = w'; cuts = c' } →
    behaviour (suc n) w c ≡ record { mend = m; world = w'; cuts = c' }
unfolding behaviour
reaches_end _ _ _ _ _ m (stay w c) t = rw t (ended m w c)
  where
    ended : (m : Mend) (w : World) (c : List Cut) → proceeds m (record { mend = m; world = w; cuts = c }) (record { mend = Runs; world = w; cuts = c }) ≡ record { mend = m; world = w; cuts = c }
    ended Runs w c = refl
    ended (Exited n) w c = refl
    ended (Trapped p q) w c = refl
reaches_end _ _ w' _ c' m (more n w v x c d e s r) t = rw s (reaches_end n v w' d c' m r t)

-- ---- a behaviour and a longer one

-- a world that has written as much as another, and more
pub record Wrote (w v : World) : Type 0 where
  pub more : List ℕ
  pub more_err : List ℕ
  pub out : v.out ≡ w.out ++ more
  pub err : v.err ≡ w.err ++ more_err

wrote_nothing : (w v : World) → v.out ≡ w.out → v.err ≡ w.err → Wrote w v
wrote_nothing w v p q = record { more = []; more_err = []; out = p ∙ sym (append-nil w.out); err = q ∙ sym (append-nil w.err) }

wrote_on : (w v u : World) → Wrote w v → Wrote v u → Wrote w u
wrote_on w v u f g = record {
  more = f.more ++ g.more;
  more_err = f.more_err ++ g.more_err;
  out = g.out ∙ ap (λ (z : List ℕ). z ++ g.more) f.out ∙ append_assoc w.out f.more g.more;
  err = g.err ∙ ap (λ (z : List ℕ). z ++ g.more_err) f.err ∙ append_assoc w.err f.more_err g.more_err;
}

-- what a turn wrote
wrote_piece : (b : Bool) (w : World) (piece : List ℕ) → Wrote w (if b then record w { out = w.out ++ piece } else record w { err = w.err ++ piece })
wrote_piece true w piece = record { more = piece; more_err = []; out = refl; err = sym (append-nil w.err) }
wrote_piece false w piece = record { more = []; more_err = piece; out = sym (append-nil w.out); err = refl }

turn_wrote : (a : Next) (s : State) (w : World) (c : List Cut) → Wrote w (turned a s w c).world
turn_wrote Going s w c = wrote_nothing w (record w { state = s }) refl refl
turn_wrote (Exit n) s w c = wrote_nothing w w refl refl
turn_wrote Trap s w c = wrote_nothing w w refl refl
turn_wrote (Read at size) s w c = wrote_nothing w (turned (Read at size) s w c).world refl refl
turn_wrote (Write to at size) s w c =
    let piece = slice_range w.state.bytes at (at + moved c size) in
    let f = wrote_piece (to == 1) w piece in
    record { more = f.more; more_err = f.more_err; out = f.out; err = f.err }

last_wrote : (t : Turn) → Wrote t.world (proceeds t.mend t (turn t.world t.cuts)).world
last_wrote t = by_mend t.mend t
  where
    by_mend : (m : Mend) (t : Turn) → Wrote t.world (proceeds m t (turn t.world t.cuts)).world
    by_mend Runs t = turn_wrote (step_of t.world.state).0 (step_of t.world.state).1 t.world t.cuts
    by_mend (Exited n) t = wrote_nothing t.world t.world refl refl
    by_mend (Trapped p q) t = wrote_nothing t.world t.world refl refl

-- a longer one has written more
pub behaviour-more : (n m : ℕ) (w : World) (c : List Cut) → (k : ℕ) × (k ≡ n + m) × Wrote (behaviour n w c).world (behaviour k w c).world
behaviour-more n zero w c = (n, omega arith, wrote_nothing (behaviour n w c).world (behaviour n w c).world refl refl)
behaviour-more n (suc m) w c =
    let q = behaviour-more n m w c in
    let l : Wrote (behaviour q.0 w c).world (behaviour (suc q.0) w c).world = rw (behaviour-last q.0 w c) (last_wrote (behaviour q.0 w c)) in
    (suc q.0, omega (arith, q.1), wrote_on (behaviour n w c).world (behaviour q.0 w c).world (behaviour (suc q.0) w c).world q.2 l)

-- and the same where the shorter one has ended
pub behaviour-ended : (n m : ℕ) (w : World) (c : List Cut) → ((behaviour n w c).mend ≡ Runs → ⊥) → (k : ℕ) × (k ≡ n + m) × (behaviour k w c ≡ behaviour n w c)
behaviour-ended n zero w c h = (n, omega arith, refl)
behaviour-ended n (suc m) w c h =
    let q = behaviour-ended n m w c h in
    let e : behaviour (suc q.0) w c ≡ behaviour n w c = behaviour-last q.0 w c ∙ rw q.2 (stays (behaviour n w c).mend (behaviour n w c) _ h) in
    (suc q.0, omega (arith, q.1), e)
  where
    stays : (m : Mend) (t r : Turn) → (m ≡ Runs → ⊥) → proceeds m t r ≡ t
    stays Runs t r h = absurd (h refl)
    stays (Exited n) t r h = refl
    stays (Trapped p q) t r h = refl
