-- The machine with closures keeps the machine with frames.
use Rattle.std.proofs.Common.{map, slice_get, ◌≡◌, ◌≢◌, ℕ, suc, ◌≤◌, List, [], ◌∷◌, ◌++◌, length, Some, None, Bool, true, false, cond, ◌||◌, refl, arith}
use Rattle.smlc_base.specs.declared.point.Point.{Point}
use Rattle.smlc_base.specs.declared.point.PointKind.TheVariants.{Eq}
use Rattle.simulation.specs.Runs.{times}
use Rattle.smlc_base.specs.Points.{is_label, is_point}
use Rattle.simulation.specs.Keeps.{Keeps}
use Rattle.simulation.specs.Machines.{Machine, IsLive}
use Rattle.simulation.specs.Stores.{Configuration, machine_of}
use Rattle.simulation.proofs.Heaps.{straight}
use Rattle.simulation.proofs.Items.{led, roots_reach}
use Rattle.simulation.proofs.Lists.{some_eq, get_last}
use Rattle.simulation.proofs.Machines.{stay, Unseen}
use Rattle.simulation.proofs.Forward.{Ends, now, Shows, Enters, Answer, silent, stays_on, goes_one, together, IsForward, live_known, forward_keeps}
use Rattle.simulation.proofs.Stores.{store_steady}
use Rattle.pass_example.specs.declared.Op.{Op}
use Rattle.pass_example.specs.declared.Op.TheVariants.{Say, Skip}
use Rattle.pass_example.specs.declared.Instr.TheVariants.{Emit}
use Rattle.pass_example.specs.Frames.{outer, inner, Held, held, held_block, Doing, Do, Pushed, Return, frames, run_ops}
use Rattle.pass_example.specs.Closures.{Thing, thing_block, Running, RunOn, Enter, closures, run_instrs}
use Rattle.pass_example.specs.Lower.{lowered}
use Rattle.pass_example.proofs.Relation.{StandFor, Heap, at_code, heap_map, heap_named, heap_tidy, heap_frames, more_frames, more_things, more_f, new_stands, heap_more}

abbrev A : Machine (Configuration Doing Held)
A = machine_of frames

abbrev B : Machine (Configuration Running Thing)
B = machine_of closures

abbrev at : {C X : Type 0} → C → List ℕ → List X → Configuration C X
at c out store = record { control = c; out = out; store = store }

-- Both have written the same, and the store of closures lies in that of frames. The number says how often closures may wait.
data Related : ℕ → Configuration Doing Held → Configuration Running Thing → Type 0 where
  doing : (left : List Op) (top last out : List ℕ) (xs : List Held) (ys : List Thing) (f : ℕ → ℕ) → Heap f xs ys → StandFor f ys last top → Related (suc (length left)) (at (Do left top) out xs) (at (RunOn (lowered left) last) out ys)
  pushed : (n o : ℕ) (left : List Op) (under last out : List ℕ) (xs : List Held) (ys : List Thing) (f : ℕ → ℕ) → Heap f xs ys → slice_get xs o ≡ Some (held outer under) → StandFor f ys last under → Related (suc (length left)) (at (Pushed n left (o ∷ [])) out xs) (at (RunOn (Emit n ∷ lowered left) last) out ys)
  returning : (n : ℕ) (left : List Op) (top last out : List ℕ) (xs : List Held) (ys : List Thing) (f : ℕ → ℕ) → Heap f xs ys → StandFor f ys last top → Related 0 (at (Return n left top) out xs) (at (Enter n (lowered left) last) out ys)

abbrev Quiet : Configuration Running Thing → Type 0
Quiet = Unseen B (inner ∷ [])

-- what is related shows the same
shows : (w : ℕ) (s : Configuration Doing Held) (t : Configuration Running Thing) → IsLive A s → Related w s t → Shows A B s t
shows w s t v (doing left top last out xs ys f h r) = record { out = refl; made = (f, (heap_map f xs ys h).embeds); named = heap_named f xs ys h }
shows w s t v (pushed n o left under last out xs ys f h e r) = record { out = refl; made = (f, (heap_map f xs ys h).embeds); named = heap_named f xs ys h }
shows w s t v (returning n left top last out xs ys f h r) = record { out = refl; made = (f, (heap_map f xs ys h).embeds); named = heap_named f xs ys h }

ended : (w : ℕ) (s : Configuration Doing Held) (t : Configuration Running Thing) → IsLive A s → Related w s t → A.step s ≡ None → Ends A B Quiet s t
ended w s t v (doing [] top last out xs ys f h r) e = now refl refl
ended w s t v (doing (Skip ∷ left) top last out xs ys f h r) e = absurd (cc)
ended w s t v (doing (Say n ∷ left) top last out xs ys f h r) e = absurd (cc)
ended w s t v (pushed n o left under last out xs ys f h g r) e = absurd (cc)
ended w s t v (returning n left top last out xs ys f h r) e = absurd (cc)

-- the closure that is entered stands for the frame that is taken off
enters : (n : ℕ) (left : List Op) (top last out : List ℕ) (xs : List Held) (ys : List Thing) (f : ℕ → ℕ) → Heap f xs ys → StandFor f ys last top → Enters A B (at (Return n left top) out xs) (at (Enter n (lowered left) last) out ys)
enters n left top last out xs ys f h r = record {
  reaches = (f, roots_reach (map thing_block ys) (map held_block xs) f last top (heap_map f xs ys h) (λ i m. let q = r i m in led i (at_code ys i q.0.0 q.0.1) (straight top (f i) q.1)));
  tidy = heap_tidy f xs ys last h (λ d m. (r d m).0);
}

step : (w : ℕ) (s s' : Configuration Doing Held) (t : Configuration Running Thing) → IsLive A s → Related w s t → A.step s ≡ Some s' → Answer false A B (inner ∷ []) Quiet (λ v u. Related v s' u) w s t
step w s s' t v (doing [] top last out xs ys f h r) e = absurd (cc)
step w s s' t v (doing (Skip ∷ left) top last out xs ys f h r) e =
    some_eq (λ z. Answer false A B (inner ∷ []) Quiet (λ v u. Related v z u) w s t) _ s' e
    (silent refl (stays_on B Quiet _ w (suc (length left)) t (omega arith) (doing left top last out xs ys f h r)))
step w s s' t v (doing (Say n ∷ left) top last out xs ys f h r) e =
    let new : List Held = held outer top ∷ [] in
    some_eq (λ z. Answer false A B (inner ∷ []) Quiet (λ v u. Related v z u) w s t) _ s' e
    (silent refl (stays_on B Quiet _ w (suc (length left)) t (omega arith) (pushed n (length xs) left top last out (xs ++ new) ys f (heap_frames f xs new ys h) (get_last xs (held outer top)) r)))
step w s s' t v (pushed n o left under last out xs ys f h g r) e =
    let b = suc (length ys) in
    some_eq (λ z. Answer false A B (inner ∷ []) Quiet (λ v u. Related v z u) w s t) _ s' e
    (silent refl (goes_one B Quiet _ w 0 t (at (Enter n (lowered left) (b ∷ [])) out (more_things f xs ys o last under h g r)) refl refl
    (returning n left (length xs ∷ []) (b ∷ []) out (more_frames f xs ys o last under h g r) (more_things f xs ys o last under h g r) (more_f f xs ys o last under h g r) (heap_more f xs ys o last under h g r) (new_stands f xs ys o last under h g r))))
step w s s' t v (returning n left top last out xs ys f h r) e =
    some_eq (λ z. Answer false A B (inner ∷ []) Quiet (λ v u. Related v z u) w s t) _ s' e
    (together (record {
      next = at (RunOn (lowered left) last) (out ++ n ∷ []) ys;
      passes = refl;
      step = refl;
      steady = store_steady closures t;
      enters = λ p q. enters n left top last out xs ys f h r;
      on = record { steps = 0; wait = suc (length left); to = _; walk = stay _; then = doing left top last (out ++ n ∷ []) xs ys f h r };
    }))

forward : IsForward false A B (inner ∷ []) (IsLive A) Quiet Related
forward = record { calm = λ t q. (q, store_steady closures t); shows = shows; ended = ended; step = step }

start : Heap (λ a. a) [] []
start = record { thing = λ b x e. absurd (cc); apart = λ a b c d e g q. q }

fewer : (p : Point) → is_label (inner ∷ []) p ≡ true → is_label (outer ∷ inner ∷ []) p ≡ true
fewer p e = or_right (is_point outer p) (is_label (inner ∷ []) p) e
  where
    or_right : (a b : Bool) → b ≡ true → (a || b) ≡ true
    or_right true b e = refl
    or_right false b e = e

once : (p : Point) → p.kind ≢ Eq → times p (inner ∷ []) ≤ 1
once p k = one (is_point inner p)
  where
    one : (b : Bool) → cond b 1 0 ≤ 1
    one true = omega arith
    one false = omega arith

pub lowered_keeps : (ops : List Op) → Keeps (run_ops ops) (run_instrs (lowered ops))
lowered_keeps ops sound =
    forward_keeps false A B (outer ∷ inner ∷ []) (inner ∷ []) (at (Do ops []) [] []) (at (RunOn (lowered ops) []) [] []) (IsLive A) Quiet Related
    (live_known A (outer ∷ inner ∷ []) (at (Do ops []) [] [])) forward (store_steady frames) fewer once (suc (length ops)) (doing ops [] [] [] [] [] (λ a. a) start (λ d m. absurd m)) sound
