-- The run of the machine is the behaviour.
use Rattle.std.proofs.Common.{◌≡◌, ◌≢◌, ℕ, zero, suc, List, None, refl, sym, ap, ◌∙◌, subst}
use Rattle.elf_static.specs.declared.image.Entries.{Entries}
use Rattle.rv_machine.specs.declared.hart.Next.{Next}
use Rattle.rv_machine.specs.declared.hart.Next.TheVariants.{Going, Exit, Trap, Read, Write}
use Rattle.rv_machine.specs.State.{State}
use Rattle.rv_machine.specs.Step.{step_of}
use Rattle.rv_machine.specs.Run.{World, Cut, Mend, Runs, Exited, Trapped, Turn, turn, turned, proceeds, behaviour}
use Rattle.rv_machine.proofs.Behaviour.{behaviour-last}
use Rattle.simulation.specs.Machines.{state_at, next_of}
use Rattle.rv_run.specs.Run.{Spot, risc, turned_from, spot_of, goes_to}
use Rattle.rv_run.specs.Laws.{IsBehaviour}

-- a turn after which nothing goes on changes nothing
ended_stays : (n : Next) (t : State) (w : World) (cuts : List Cut) → (turned n t w cuts).mend ≢ Runs → spot_of (turned n t w cuts) ≡ record { world = w; cuts = cuts }
ended_stays Going t w cuts h = absurd (h refl)
ended_stays (Exit n) t w cuts h = refl
ended_stays Trap t w cuts h = refl
ended_stays (Read at size) t w cuts h = absurd (h refl)
ended_stays (Write to at size) t w cuts h = absurd (h refl)

-- one more turn
abbrev last : Turn → Turn
last t = proceeds t.mend t (turn t.world t.cuts)

-- the behaviour stands, and where it has ended its next turn is the same
record Along (table : Entries) (world : World) (cuts : List Cut) (n : ℕ) : Type 0 where
  there : state_at (risc table) (record { world = world; cuts = cuts }) n ≡ spot_of (behaviour n world cuts)
  again : (behaviour n world cuts).mend ≢ Runs → turn (behaviour n world cuts).world (behaviour n world cuts).cuts ≡ behaviour n world cuts

-- what a turn leads to
record Went (table : Entries) (s : Spot) (u : Turn) : Type 0 where
  there : next_of s (goes_to u.mend (spot_of u)) ≡ spot_of u
  again : u.mend ≢ Runs → turn u.world u.cuts ≡ u

went : (table : Entries) (s : Spot) (m : Mend) → (turned_from s).mend ≡ m → Went table s (turned_from s)
went table s Runs e = record { there = ap (λ m. next_of s (goes_to m (spot_of (turned_from s)))) e; again = λ h. absurd (h e) }
went table s (Exited n) e =
    let stay : spot_of (turned_from s) ≡ s = ended_stays (step_of s.world.state).0 (step_of s.world.state).1 s.world s.cuts (λ f. clash n (sym e ∙ f)) in
    record { there = ap (λ m. next_of s (goes_to m (spot_of (turned_from s)))) e ∙ sym stay; again = λ h. ap turned_from stay }
  where
    clash : (n : ℕ) → Exited n ≡ Runs → ⊥
    clash n f = cc
went table s (Trapped pc word) e =
    let stay : spot_of (turned_from s) ≡ s = ended_stays (step_of s.world.state).0 (step_of s.world.state).1 s.world s.cuts (λ f. clash pc word (sym e ∙ f)) in
    record { there = ap (λ m. next_of s (goes_to m (spot_of (turned_from s)))) e ∙ sym stay; again = λ h. ap turned_from stay }
  where
    clash : (pc word : ℕ) → Trapped pc word ≡ Runs → ⊥
    clash pc word f = cc

ended : (table : Entries) (world : World) (cuts : List Cut) (n : ℕ) → behaviour (suc n) world cuts ≡ behaviour n world cuts → (behaviour n world cuts).mend ≢ Runs → Along table world cuts n → Along table world cuts (suc n)
ended table world cuts n b d h =
    let t = behaviour n world cuts in
    let a = h.again d in
    let stop : goes_to (turn t.world t.cuts).mend (spot_of (turn t.world t.cuts)) ≡ None = ap (λ (u : Turn). goes_to u.mend (spot_of u)) a ∙ none t.mend d in
    record {
      there = ap (λ s. next_of s ((risc table).step s)) h.there ∙ ap (next_of (spot_of t)) stop ∙ ap spot_of (sym b);
      again = subst (λ (u : Turn). u.mend ≢ Runs → turn u.world u.cuts ≡ u) (sym b) h.again;
    }
  where
    none : (m : Mend) → m ≢ Runs → goes_to m (spot_of (behaviour n world cuts)) ≡ None
    none Runs d = absurd (d refl)
    none (Exited k) d = refl
    none (Trapped pc word) d = refl

more : (table : Entries) (world : World) (cuts : List Cut) (n : ℕ) (m : Mend) → (behaviour n world cuts).mend ≡ m → Along table world cuts n → Along table world cuts (suc n)
more table world cuts n Runs e h =
    let t = behaviour n world cuts in
    let b : behaviour (suc n) world cuts ≡ turn t.world t.cuts = behaviour-last n world cuts ∙ ap (λ m. proceeds m t (turn t.world t.cuts)) e in
    let w = went table (spot_of t) (turn t.world t.cuts).mend refl in
    record {
      there = ap (λ s. next_of s ((risc table).step s)) h.there ∙ w.there ∙ ap spot_of (sym b);
      again = subst (λ (u : Turn). u.mend ≢ Runs → turn u.world u.cuts ≡ u) (sym b) w.again;
    }
more table world cuts n (Exited k) e h = ended table world cuts n (behaviour-last n world cuts ∙ ap (λ m. proceeds m (behaviour n world cuts) (turn (behaviour n world cuts).world (behaviour n world cuts).cuts)) e) (λ f. clash k (sym e ∙ f)) h
  where
    clash : (k : ℕ) → Exited k ≡ Runs → ⊥
    clash k f = cc
more table world cuts n (Trapped pc word) e h = ended table world cuts n (behaviour-last n world cuts ∙ ap (λ m. proceeds m (behaviour n world cuts) (turn (behaviour n world cuts).world (behaviour n world cuts).cuts)) e) (λ f. clash pc word (sym e ∙ f)) h
  where
    clash : (pc word : ℕ) → Trapped pc word ≡ Runs → ⊥
    clash pc word f = cc

along : (table : Entries) (world : World) (cuts : List Cut) (n : ℕ) → Along table world cuts n
unfolding behaviour
along table world cuts zero = record { there = refl; again = λ h. absurd (h refl) }
along table world cuts (suc n) = more table world cuts n (behaviour n world cuts).mend refl (along table world cuts n)

pub behaves : (table : Entries) (world : World) (cuts : List Cut) (n : ℕ) → IsBehaviour table world cuts n
behaves table world cuts n =
    let t = behaviour n world cuts in
    let a = along table world cuts n in
    record {
      there = ap (λ (s : Spot). s.world) a.there;
      goes = ap (λ s. (turned_from s).mend) a.there ∙ by t.mend refl a.again ∙ ap (λ (u : Turn). u.mend) (sym (behaviour-last n world cuts));
    }
  where
    by : (m : Mend) → (behaviour n world cuts).mend ≡ m → ((behaviour n world cuts).mend ≢ Runs → turn (behaviour n world cuts).world (behaviour n world cuts).cuts ≡ behaviour n world cuts) → (turn (behaviour n world cuts).world (behaviour n world cuts).cuts).mend ≡ (last (behaviour n world cuts)).mend
    by Runs e f = ap (λ m. (proceeds m (behaviour n world cuts) (turn (behaviour n world cuts).world (behaviour n world cuts).cuts)).mend) (sym e)
    by (Exited k) e f = ap (λ (u : Turn). u.mend) (f (λ g. clash (sym e ∙ g))) ∙ ap (λ m. (proceeds m (behaviour n world cuts) (turn (behaviour n world cuts).world (behaviour n world cuts).cuts)).mend) (sym e)
      where
        clash : Exited k ≡ Runs → ⊥
        clash f = cc
    by (Trapped pc word) e f = ap (λ (u : Turn). u.mend) (f (λ g. clash (sym e ∙ g))) ∙ ap (λ m. (proceeds m (behaviour n world cuts) (turn (behaviour n world cuts).world (behaviour n world cuts).cuts)).mend) (sym e)
      where
        clash : Trapped pc word ≡ Runs → ⊥
        clash f = cc
