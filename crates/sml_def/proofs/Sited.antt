-- Each point that a run passes is that of a site, and each closure and frame has the words of its site.
use Rattle.std.proofs.Common.{◌≡◌, ℕ, ◌+◌, List, [], ◌∷◌, length, Option, Some, None, inl, inr, refl, sym, ap, ◌∙◌, subst, arith}
use Rattle.std.proofs.lemmas.List.{length-map}
use Rattle.std.specs.Prelude.{IfSome, slice_get}
use Rattle.smlc_base.specs.declared.point.Point.{Point}
use Rattle.smlc_base.specs.declared.point.PointKind.TheVariants as kind
use Rattle.sml_tree.specs.declared.bare.Bare.{Bare}
use Rattle.sml_tree.specs.declared.bare.Node.TheVariants as node
use Rattle.sml_tree.specs.declared.points.Spot.{Spot}
use Rattle.sml_tree.specs.BareParts.{IsNumbered}
use Rattle.sml_tree.specs.Free.{free, binds, free_match, free_fields, free_rest}
use Rattle.sml_tree.specs.Points.{point, spot, spots}
use Rattle.sml_tree.proofs.FreeParts.{free_unfold}
use Rattle.simulation.specs.Blocks.{IsAmong, points_of, StandsAt}
use Rattle.simulation.specs.Blocks as sim
use Rattle.simulation.specs.Machines.{state_at, pass_of}
use Rattle.simulation.specs.Stores.{machine_of}
use Rattle.simulation.proofs.Heaps.{stands_map}
use Rattle.simulation.proofs.Lists.{among_left, among_right, among_one, map_among}
use Rattle.sml_def.proofs.Effects.{all_get}
use Rattle.sml_def.proofs.Options.{if_some}
use Rattle.sml_def.proofs.Cut.{environments_are_cut}
use Rattle.sml_def.proofs.Walked.{IsAwaited, ret_among, fn_among, caught_among, popped_among}
use Rattle.sml_def.proofs.Comes.{FrameComes, BlockComes, Comes, run_comes}
use Rattle.sml_def.specs.State.{At, Env, Awaits, FunctionPart, ArgumentPart, FieldPart, Subject, RightSide, RaisePart, Guarded, Block, Tuple, Applied, Text, Cell, ExnName, Packet, Closure, Frame, Pending, Control, Ret, Apply, Raise, Eq}
use Rattle.sml_def.specs.Run.{State, view, held, kind_of, words_of, frame_points, eq_point, entered, returned, returned_to, caught_at, passes, source, start}
use Rattle.sml_def.specs.Sites.{site_of, own_words, eq_site}
use Rattle.sml_def.specs.Cut.{names, needs, env_in, IsCutBlock}
use Rattle.sml_def.specs.Laws.{HasSite, PassesAreSites, HasSiteOf, BlocksHaveSites}

module _ (p : Bare) (numbered : IsNumbered p.nodes) where
  -- ---- The site of a point

  has_site : (q : Point) (n : ℕ) → HasSiteOf p q n → HasSite p q
  has_site q n h = (h.0, h.1, h.2)

  -- so many words
  has_words : (q : Point) (m n : ℕ) → m ≡ n → HasSiteOf p q m → HasSiteOf p q n
  has_words q m n e h = (h.0, h.1, h.2, h.3 ∙ e)

  spot_site : (s : Spot) → IsAmong s (spots p.nodes) → HasSiteOf p s.point (s.held + own_words s.point.kind)
  spot_site s h =
      (site_of p.places s, among_left (site_of p.places s) _ (eq_site ∷ []) (map_among (site_of p.places) s (spots p.nodes) h), refl, refl)

  ret_site : (j n : ℕ) → IsAwaited p.nodes j n → HasSiteOf p (point j kind.Ret) (n + 2)
  ret_site j n w = spot_site (spot j kind.Ret n w.0) (ret_among p.nodes numbered j n w)

  -- how many values an environment has
  env_length : (env : Env) (xs : List ℕ) → names env ≡ xs → length xs ≡ length env
  env_length env xs e = ap length (sym e) ∙ length-map env (λ b. b.0)

  -- ---- Blocks

  frame_site : (w : Awaits) → FrameComes p w → names (env_in p w) ≡ needs p w → (q : Point) → IsAmong q (frame_points w) → HasSiteOf p q (2 + held w)
  frame_site (FunctionPart f a env) h e q among =
      subst (λ r. HasSiteOf p r (2 + length env)) (sym (among_one q (point f kind.Ret) among))
      (has_words (point f kind.Ret) _ _ (let len = env_length env (free p.nodes a) e in omega arith) (ret_site f _ h.0))
  frame_site (ArgumentPart a f) h e q among =
      subst (λ r. HasSiteOf p r 3) (sym (among_one q (point a kind.Ret) among)) (ret_site a 1 h)
  frame_site (FieldPart x fields before later env) h e q among =
      subst (λ r. HasSiteOf p r (2 + (length before + length env))) (sym (among_one q (point x kind.Ret) among))
      (has_words (point x kind.Ret) _ _ (let len = env_length env (free_fields (free p.nodes) later) e in omega arith) (ret_site x _ h.0))
  frame_site (Subject x rules env) h e q among =
      subst (λ r. HasSiteOf p r (2 + length env)) (sym (among_one q (point x kind.Ret) among))
      (has_words (point x kind.Ret) _ _ (let len = env_length env (free_match (binds p.nodes) (free p.nodes) rules) e in omega arith) (ret_site x _ h.0))
  frame_site (RightSide b later body env) h e q among =
      subst (λ r. HasSiteOf p r (2 + length env)) (sym (among_one q (point b.right kind.Ret) among))
      (has_words (point b.right kind.Ret) _ _ (let len = env_length env (free_rest (binds p.nodes) (free p.nodes) b later body) e in omega arith) (ret_site b.right _ h.0))
  frame_site (RaisePart x) h e q among = subst (λ r. HasSiteOf p r 2) (sym (among_one q (point x kind.Ret) among)) (ret_site x 0 h)
  frame_site (Guarded i rules env) h e q (inl same) =
      subst (λ r. HasSiteOf p r (2 + length env)) (sym same)
      (has_words (point i kind.Caught) _ _ (let len = env_length env (free_match (binds p.nodes) (free p.nodes) rules) e in omega arith) (spot_site _ (caught_among p.nodes numbered i h.1 rules h.0 h.2 h.3)))
  frame_site (Guarded i rules env) h e q (inr among) =
      subst (λ r. HasSiteOf p r (2 + length env)) (sym (among_one q (point i kind.Popped) among))
      (has_words (point i kind.Popped) _ _ (let len = env_length env (free_match (binds p.nodes) (free p.nodes) rules) e in omega arith) (spot_site _ (popped_among p.nodes numbered i h.1 rules h.0 h.2 h.3)))

  block_site : (b : Block) → BlockComes p b → IsCutBlock p b → (q : Point) → IsAmong q (points_of (kind_of b)) → HasSiteOf p q (words_of b)
  block_site (Closure i rules env) h cut q among =
      subst (λ r. HasSiteOf p r (1 + length env)) (sym (among_one q (point i kind.Fn) among))
      (has_words (point i kind.Fn) _ _ (let len = env_length env (free_match (binds p.nodes) (free p.nodes) rules) (cut.1 ∙ free_unfold p.nodes numbered i (node.Fn rules) cut.0) in omega arith) (spot_site _ (fn_among p.nodes numbered i rules h.0 h.1 h.2)))
  block_site (Frame w next) h cut q among = frame_site w h cut q among
  block_site (Tuple vs) h cut q among = absurd among
  block_site (Applied m v) h cut q among = absurd among
  block_site (Text bytes) h cut q among = absurd among
  block_site (Cell v) h cut q among = absurd among
  block_site (ExnName x) h cut q among = absurd among
  block_site (Packet x v) h cut q among = absurd among
  block_site (Pending v w next) h cut q among = absurd among

  -- ---- Passes

  eq_has_site : HasSite p eq_point
  eq_has_site = (eq_site, among_right eq_site _ (eq_site ∷ []) (inl refl), refl)

  abbrev AllSites : Option Point → Type 0
  AllSites o = IfSome o (HasSite p)

  entered_site : (o : Option Block) → IfSome o (BlockComes p) → AllSites (entered o)
  entered_site (Some (Closure i rules env)) h =
      has_site (point i kind.Fn) _ (spot_site _ (fn_among p.nodes numbered i rules h.0 h.1 h.2))
  entered_site _ h = tt

  returned_site : (w : Awaits) → FrameComes p w → AllSites (returned w)
  returned_site (FunctionPart f a env) h = has_site (point f kind.Ret) _ (ret_site f _ h.0)
  returned_site (ArgumentPart a f) h = has_site (point a kind.Ret) _ (ret_site a _ h)
  returned_site (FieldPart x fields before later env) h = has_site (point x kind.Ret) _ (ret_site x _ h.0)
  returned_site (Subject x rules env) h = has_site (point x kind.Ret) _ (ret_site x _ h.0)
  returned_site (RightSide b later body env) h = has_site (point b.right kind.Ret) _ (ret_site b.right _ h.0)
  returned_site (RaisePart x) h = has_site (point x kind.Ret) _ (ret_site x _ h)
  returned_site (Guarded i rules env) h =
      has_site (point i kind.Popped) _ (spot_site _ (popped_among p.nodes numbered i h.1 rules h.0 h.2 h.3))

  returned_to_site : (o : Option Block) → IfSome o (BlockComes p) → AllSites (returned_to o)
  returned_to_site (Some (Frame w next)) h = returned_site w h
  returned_to_site _ h = tt

  caught_site : (o : Option Block) → IfSome o (BlockComes p) → AllSites (caught_at o)
  caught_site (Some (Frame (Guarded i rules env) next)) h =
      has_site (point i kind.Caught) _ (spot_site _ (caught_among p.nodes numbered i h.1 rules h.0 h.2 h.3))
  caught_site _ h = tt

  passes_site : (s : State) → Comes p s → AllSites (passes s.store s.control.control)
  passes_site s h = go s.control.control
    where
      at_block : (a : ℕ) → IfSome (slice_get s.store a) (BlockComes p)
      at_block a = all_get (BlockComes p) s.store a h.store

      go : (c : Control) → AllSites (passes s.store c)
      go (Apply (At a) v k) = entered_site (slice_get s.store a) (at_block a)
      go (Ret v (Some a)) = returned_to_site (slice_get s.store a) (at_block a)
      go (Raise x (Some a)) = caught_site (slice_get s.store a) (at_block a)
      go (Eq pairs t k) = eq_has_site
      go _ = tt

pass_some : {S : Type 0} (o : Option S) (r : Option Point) (q : Point) → pass_of o r ≡ Some q → r ≡ Some q
pass_some None r q e = absurd cc
pass_some (Some t) r q e = e

pub passes_are_sites : PassesAreSites
passes_are_sites p bare input n q e =
    let s = state_at (machine_of (source p)) (start input) n in
    if_some (HasSite p) (passes s.store s.control.control) q (pass_some ((machine_of (source p)).step s) (passes s.store s.control.control) q e) (passes_site p bare.numbered s (run_comes p input n))

pub blocks_have_sites : BlocksHaveSites
blocks_have_sites p bare input n a b q stands among =
    let s = state_at (machine_of (source p)) (start input) n in
    let found = stands_map view s.store a b stands in
    let come : BlockComes p found.0 = if_some (BlockComes p) (slice_get s.store a) found.0 found.1 (all_get (BlockComes p) s.store a (run_comes p input n).store) in
    let cut : IsCutBlock p found.0 = if_some (IsCutBlock p) (slice_get s.store a) found.0 found.1 (all_get (IsCutBlock p) s.store a (environments_are_cut p bare.numbered bare.bound input n).store) in
    subst (λ (x : sim.Block). IsAmong q (points_of x.kind) → HasSiteOf p q x.words) found.2 (block_site p bare.numbered found.0 come cut q) among
