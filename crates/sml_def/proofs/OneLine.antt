-- The frames of each state of a run are one chain from the control's frame, and nothing but the chain names them.
use Rattle.std.proofs.Common.{◌≡◌, ℕ, suc, ◌<◌, true, false, List, map, length, Option, Some, None, refl, sym, ap, ◌∙◌, subst, ⊎_elim, arith}
use Rattle.std.specs.Prelude.{slice_get}
use Rattle.smlc_base.specs.declared.point.Point.{Point}
use Rattle.sml_tree.specs.declared.bare.Bare.{Bare}
use Rattle.simulation.specs.Blocks.{IsAmong, StandsAt, Reach}
use Rattle.simulation.specs.Blocks as sim
use Rattle.simulation.specs.Machines.{state_at}
use Rattle.simulation.specs.Stores.{machine_of}
use Rattle.simulation.proofs.Heaps.{stands_map, stands_of}
use Rattle.sml_def.specs.State.{Address, Awaits, Control, Eval, Ret, Apply, Raise, Eq, End, Block, Tuple, Applied, Text, Cell, ExnName, Packet, Closure, Frame, Pending}
use Rattle.sml_def.specs.Closed as closed
use Rattle.sml_def.specs.Run.{State, view, frame_points, of_control, source, start}
use Rattle.sml_def.specs.Apart.{is_frame, shape, BlockIn}
use Rattle.sml_def.specs.Frames.{NameFrame, FrameAt, IsOneLine, FramesAreOneLine, FramesAreOneChain}
use Rattle.sml_def.proofs.Closed.{names_nothing_lost}
use Rattle.sml_def.proofs.Apart.{shape_get, values_name_no_frames}
use Rattle.sml_def.proofs.Older.{among_all, run_down}
use Rattle.sml_def.proofs.Chains.{frame_of, frame_next, block_flag, control_flag, Below, Chain, chain_of, chain_less, chain_once, reached_chain}

frame_closed : (m : ℕ) (c : Control) → closed.ControlIn m c → closed.NextIn m (frame_of c)
frame_closed m (Eval i env k) h = h.1
frame_closed m (Ret v k) h = h.1
frame_closed m (Apply f v k) h = h.2
frame_closed m (Raise x k) h = h.1
frame_closed m (Eq pairs t k) h = h.1
frame_closed m (End e) h = tt

kind_frame : (b : Block) (qs : List Point) → (view b).kind ≡ sim.Frame qs → is_frame b ≡ true
kind_frame (Frame w next) qs e = refl
kind_frame (Tuple vs) qs e = absurd cc
kind_frame (Applied n v) qs e = absurd cc
kind_frame (Text bytes) qs e = absurd cc
kind_frame (Cell v) qs e = absurd cc
kind_frame (ExnName x) qs e = absurd cc
kind_frame (Packet x v) qs e = absurd cc
kind_frame (Closure i rules env) qs e = absurd cc
kind_frame (Pending v w next) qs e = absurd cc

module _ (p : Bare) (input : List ℕ) (n : ℕ) where
  abbrev S : State
  S = state_at (machine_of (source p)) (start input) n

  abbrev Memory : List sim.Block
  Memory = map view S.store

  abbrev Roots : List ℕ
  Roots = of_control S.control.control

  abbrev Top : Option Address
  Top = frame_of S.control.control

  is_below : (m : ℕ) (k : Option Address) → closed.NextIn m k → Below S.store (run_down p input n) (values_name_no_frames p input n).store m k
  is_below m None h = tt
  is_below m (Some a) h = h

  pub the_chain : (xs : List Address) × Chain S.store Top xs
  the_chain =
      chain_of S.store (run_down p input n) (values_name_no_frames p input n).store (length S.store) Top (frame_next S.control.control (shape S.store) (values_name_no_frames p input n).control) (is_below (length S.store) Top (frame_closed (length S.store) S.control.control (names_nothing_lost p input n).control))

  flag : (a : ℕ) → FrameAt Memory a → slice_get (shape S.store) a ≡ Some true
  flag a h =
      let f = stands_map view S.store a h.0 h.1 in
      shape_get S.store a f.0 f.1 ∙ ap (λ t. Some t) (kind_frame f.0 h.2.0 (ap (λ (b : sim.Block). b.kind) f.2 ∙ h.2.1))

  stands : (a : ℕ) (w : Awaits) (next : Option Address) → slice_get S.store a ≡ Some (Frame w next) → FrameAt Memory a
  stands a w next is = (view (Frame w next), stands_of view S.store a (Frame w next) is, (frame_points w, refl))

  -- a frame is named by frames alone
  namer : (b c : ℕ) → FrameAt Memory b → NameFrame Memory c b → (w : Awaits) × (slice_get S.store c ≡ Some (Frame w (Some b)))
  namer b c h m =
      let f = stands_map view S.store c m.0 m.1 in
      let named = block_flag (shape S.store) b f.0 (among_all (BlockIn (shape S.store)) S.store c f.0 (values_name_no_frames p input n).store f.1) (subst (λ (x : sim.Block). IsAmong b x.fields) (sym f.2) m.2) in
      ⊎_elim
      (λ (e : slice_get (shape S.store) b ≡ Some false). absurd (let g : Some false ≡ Some true = sym e ∙ flag b h in cc))
      (λ (g : (w : Awaits) × (f.0 ≡ Frame w (Some b))). (g.0, f.1 ∙ ap (λ x. Some x) g.1))
      named

  top_is : (a : ℕ) → FrameAt Memory a → IsAmong a Roots → Top ≡ Some a
  top_is a h m =
      ⊎_elim
      (λ (e : slice_get (shape S.store) a ≡ Some false). absurd (let g : Some false ≡ Some true = sym e ∙ flag a h in cc))
      (λ (e : Top ≡ Some a). e)
      (control_flag (shape S.store) a S.control.control (values_name_no_frames p input n).control m)

  in_chain : (a : ℕ) → FrameAt Memory a → Reach Memory Roots a → IsAmong a the_chain.0
  in_chain a h r =
      reached_chain S.store (run_down p input n) (values_name_no_frames p input n).store S.control.control (values_name_no_frames p input n).control the_chain.0 the_chain.1 a r (flag a h)

  one_line : IsOneLine Memory Roots
  one_line = record {
    first = λ a b h g i j. let e : Some a ≡ Some b = sym (top_is a h i) ∙ top_is b g j in cc;
    free = λ a c h i r m.
        let g = namer a c h m in
        let low : c < suc a = chain_less S.store (run_down p input n) (values_name_no_frames p input n).store Top the_chain.0 the_chain.1 (suc a) (subst (Below S.store (run_down p input n) (values_name_no_frames p input n).store (suc a)) (sym (top_is a h i)) (omega arith)) c (in_chain c (stands c g.0 (Some a) g.1) r) in
        let up : a < c = run_down p input n c g.0 a g.1 in
        omega arith;
    by_frames = λ b c h m. let g = namer b c h m in (stands c g.0 (Some b) g.1, run_down p input n c g.0 b g.1);
    one = λ a b c h g i j.
        let u = namer a c h i in
        let v = namer b c g j in
        let e : Some (Frame u.0 (Some a)) ≡ Some (Frame v.0 (Some b)) = sym u.1 ∙ v.1 in
        cc;
    once = λ b c d h r q i j.
        let u = namer b c h i in
        let v = namer b d h j in
        chain_once S.store (run_down p input n) (values_name_no_frames p input n).store Top the_chain.0 the_chain.1 b c d u.0 v.0 (in_chain c (stands c u.0 (Some b) u.1) r) (in_chain d (stands d v.0 (Some b) v.1) q) u.1 v.1;
  }

pub frames_are_one_line : FramesAreOneLine
frames_are_one_line p input n = one_line p input n

pub frames_are_one_chain : FramesAreOneChain
frames_are_one_chain p bare input n b c d y s f r q i j = (one_line p input n).once b c d (y, s, f) r q i j
