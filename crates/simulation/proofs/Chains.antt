-- Any number of passes keep what each of them keeps.
use Rattle.std.proofs.Common.{◌≡◌, ℕ, ◌*◌, ◌≤◌, List, [], ◌∷◌, Bool, true, false, subst}
use Rattle.smlc_base.specs.declared.point.Point.{Point}
use Rattle.simulation.specs.Blocks.{IsPrefix, Reach}
use Rattle.simulation.specs.Runs.{Run, seen}
use Rattle.smlc_base.specs.Points.{is_label}
use Rattle.simulation.specs.Keeps.{Follows, IsSound, IsTidy, IsKept, AllNamed, KeepsTidy, EachKeeps, last_of, IsNthPass, ReachesNoMore}
use Rattle.simulation.specs.Words.{HasWords, HasMade, IsCharged, Affords, Any, ReachIsPaid, MakingIsPaid}
use Rattle.simulation.proofs.Seen.{visible_of}
use Rattle.simulation.proofs.Compose.{keeps_trans}
use Rattle.simulation.proofs.Nth.{nth_entry, nth_one}
use Rattle.simulation.proofs.Words.{reached_words, made_words}

pub chain_keeps : (full : Bool) (a : Run) (passes : List Run) (b : Run) → EachKeeps a passes → KeepsTidy full (last_of a passes) b → IsTidy false a → IsSound a → IsKept full a b
chain_keeps full a [] b each last tidy sound = last sound tidy
chain_keeps full a (c ∷ passes) b each last tidy sound =
    let k = each.0 sound tidy in
    keeps_trans full a c b (λ _. k) (λ s. chain_keeps full c passes b each.1 last k.tidy s) sound

-- at the i-th entry of a label the words that can be reached are at most k times those that pay for them
pub entry_words : (full : Bool) (a b : Run) → Follows full a b → IsTidy full b → (p : Point) → is_label b.labels p ≡ true → (i m n : ℕ) → IsNthPass a p i m → IsNthPass b p i n → (k : ℕ) (charge : Point → ℕ) (small large : ℕ) → HasWords (b.memory n) (b.roots n) small → IsCharged charge (b.memory n) (Reach (b.memory n) (b.roots n)) → Affords k charge (a.memory m) (Reach (a.memory m) (a.roots m)) large → small ≤ k * large
entry_words full a b f tidy p l i m n pa pb k charge small large hw ch af =
    let e = nth_entry full a b f p l i n pb in
    let one : e.0 ≡ m = nth_one p a i e.0 m e.1 pa in
    let r = subst (λ j. ReachesNoMore a j b n) one e.2 in
    reached_words (b.memory n) (a.memory m) (b.roots n) (a.roots m) r.0 charge k small large r.1 (tidy.reach n p (visible_of b.labels (b.pass n) p pb.passes l)) ch af hw

-- and so are the words that were made, of those of a moment that isn't past the next pass
pub moment_words : (full : Bool) (a b : Run) → Follows full a b → (n : ℕ) → AllNamed (b.memory n) → (m : ℕ) × IsPrefix (seen b.labels a m) (seen b.labels b n) × ((k : ℕ) (charge : Point → ℕ) (small large : ℕ) → HasMade (b.memory n) small → IsCharged charge (b.memory n) Any → Affords k charge (a.memory m) Any large → small ≤ k * large)
moment_words full a b f n named =
    let e = f.made n in
    (e.0, e.1, λ k charge small large hm ch af. made_words (b.memory n) (a.memory e.0) e.2.0 charge k small large e.2.1 named ch af hm)

pub reach_is_paid : (full : Bool) (a b : Run) → Follows full a b → IsTidy full b → ReachIsPaid a b
reach_is_paid full a b f tidy p i m n k small large charge l pa pb hw ch af = entry_words full a b f tidy p l i m n pa pb k charge small large hw ch af

pub making_is_paid : (full : Bool) (a b : Run) → Follows full a b → MakingIsPaid a b
making_is_paid full a b f n named =
    let e = moment_words full a b f n named in
    (e.0, e.1, λ k small large charge hm ch af. e.2 k charge small large hm ch af)
