-- What a chain of frames is charged for its sites is no more than its words.
use Rattle.std.proofs.Common.{◌≡◌, ℕ, zero, suc, ◌+◌, ◌≤◌, Bool, true, false, cond, List, [], ◌∷◌, length, map, Option, Some, None, ◌⊎◌, refl, sym, ap, ◌∙◌, subst, inl, inr, arith}
use Rattle.std.specs.Prelude.{slice_get}
use Rattle.smlc_base.specs.declared.point.Point.{Point}
use Rattle.sml_tree.specs.declared.bare.Bare.{Bare}
use Rattle.simulation.specs.Blocks.{IsAmong, StandsAt, Reach, root, field}
use Rattle.simulation.specs.Blocks as sim
use Rattle.simulation.specs.Words.{weight, words_at, block_words}
use Rattle.simulation.proofs.Heaps.{stands_of}
use Rattle.sml_def.specs.State.{Address, Awaits, FunctionPart, ArgumentPart, FieldPart, Subject, RightSide, RaisePart, Guarded, Block, Frame}
use Rattle.sml_def.specs.Run.{view, held, frame_points}
use Rattle.sml_def.specs.Sites.{sites}
use Rattle.sml_def.specs.Made.{frame_words}
use Rattle.smlc_base.specs.SiteWords.{find_site, is_left, outward, around, site_words}
use Rattle.sml_def.specs.Frames.{charged_at}
use Rattle.sml_def.proofs.Nests.{first, Under}
use Rattle.sml_def.proofs.OneSite.{IsSite}
use Rattle.sml_def.proofs.Chains.{Chain, ends, more}

module _ (p : Bare) (labels : List Point) (store : List Block) where
  abbrev Made : Address → ℕ
  Made a = charged_at labels (sites p) (slice_get (map view store) a)

  abbrev Words : Address → ℕ
  Words a = words_at (map view store) a

  abbrev Around : ℕ → Option Point → ℕ
  Around m outer = around m labels (sites p) outer

  around_found : (m : ℕ) (q : Point) (n : ℕ) (outer : Option Point) → IsSite p q n outer → outward (Around m) (find_site (sites p) q) ≡ n + Around m outer
  around_found m q n outer h =
      ap (outward (Around m)) h.found ∙ ap (λ k. k + Around m h.site.outer) h.words_are ∙ ap (λ o. n + Around m o) h.around_is

  around_none : (m : ℕ) → Around m None ≡ 0
  around_none zero = refl
  around_none (suc m) = refl

  around_left : (q : Point) → is_left labels q ≡ true → (m : ℕ) → Around m (Some q) ≡ 0
  around_left q e zero = refl
  around_left q e (suc m) = ap (λ b. cond b 0 (outward (Around m) (find_site (sites p) q))) e

  around_open : (q : Point) → is_left labels q ≡ false → (m : ℕ) → Around (suc m) (Some q) ≡ outward (Around m) (find_site (sites p) q)
  around_open q e m = ap (λ b. cond b 0 (outward (Around m) (find_site (sites p) q))) e

  frame_made : (w : Awaits) → frame_words labels (sites p) (frame_points w) ≡ cond (is_left labels (first w)) (site_words labels (sites p) (first w)) 0
  frame_made (FunctionPart f a env) = refl
  frame_made (ArgumentPart a f) = refl
  frame_made (FieldPart e fields before later env) = refl
  frame_made (Subject e rules env) = refl
  frame_made (RightSide b later body env) = refl
  frame_made (RaisePart e) = refl
  frame_made (Guarded i rules env) = refl

  -- under a frame's point, or under none
  which : (a : Address) (w : Awaits) (next : Option Address) (outer : Option Point) → slice_get store a ≡ Some (Frame w next) → Under p store outer (Some a) → (outer ≡ None) ⊎ (outer ≡ Some (first w))
  which a w next None is u = inl refl
  which a w next (Some q) is u =
      let here : a ≡ u.0 = let e : Some a ≡ Some u.0 = u.3 in cc in
      let f : Some (Frame w next) ≡ Some (Frame u.1 u.2) = sym is ∙ ap (slice_get store) here ∙ u.4 in
      let same : w ≡ u.1 = cc in
      inr (ap (λ r. Some r) (sym (ap first same ∙ u.5)))

  module _ (sited : (a : Address) (w : Awaits) (next : Option Address) → slice_get store a ≡ Some (Frame w next) → (outer : Option Point) × IsSite p (first w) (2 + held w) outer × Under p store outer next) where
    abbrev Paid : List Address → ℕ → Option Point → Type 0
    Paid xs m outer = weight Made xs + Around m outer ≤ weight Words xs

    ends_paid : (outer : Option Point) (m : ℕ) → Under p store outer None → Paid [] m outer
    ends_paid None m u = let e = around_none m in omega arith
    ends_paid (Some q) m u = absurd (let e : None ≡ Some u.0 = u.3 in cc)

    more_paid : (a : Address) (w : Awaits) (next : Option Address) (xs : List Address) → slice_get store a ≡ Some (Frame w next) → ((outer : Option Point) (m : ℕ) → Under p store outer next → Paid xs m outer) → (outer : Option Point) (m : ℕ) → Under p store outer (Some a) → Paid (a ∷ xs) m outer
    more_paid a w next xs is on outer m u =
        let h = sited a w next is in
        let stands : slice_get (map view store) a ≡ Some (view (Frame w next)) = stands_of view store a (Frame w next) is in
        let made : Made a ≡ cond (is_left labels (first w)) (site_words labels (sites p) (first w)) 0 = ap (charged_at labels (sites p)) stands ∙ frame_made w in
        let words : Words a ≡ 2 + held w = ap sim_words stands in
        by (is_left labels (first w)) refl h made words
      where
        sim_words : Option sim.Block → ℕ
        sim_words o = block_words o

        left : is_left labels (first w) ≡ true → (outer : Option Point) → (outer ≡ None) ⊎ (outer ≡ Some (first w)) → Around m outer ≡ 0
        left e o (inl f) = ap (Around m) f ∙ around_none m
        left e o (inr f) = ap (Around m) f ∙ around_left (first w) e m

        open_one : (o : Option Point) → is_left labels (first w) ≡ false → IsSite p (first w) (2 + held w) o → Under p store o next → (m : ℕ) → weight Made xs + Around m (Some (first w)) ≤ (2 + held w) + weight Words xs
        open_one o e site v zero = let r = on o zero v in omega arith
        open_one o e site v (suc m) = let r = on o m v in let f = around_open (first w) e m ∙ around_found m (first w) (2 + held w) o site in omega arith

        open_frame : (o : Option Point) → is_left labels (first w) ≡ false → IsSite p (first w) (2 + held w) o → Under p store o next → (outer ≡ None) ⊎ (outer ≡ Some (first w)) → weight Made xs + Around m outer ≤ (2 + held w) + weight Words xs
        open_frame o e site v (inl f) = let r = on o m v in let g = ap (Around m) f ∙ around_none m in omega arith
        open_frame o e site v (inr f) = subst (λ t. weight Made xs + Around m t ≤ (2 + held w) + weight Words xs) (sym f) (open_one o e site v m)

        by : (b : Bool) → is_left labels (first w) ≡ b → (o : Option Point) × IsSite p (first w) (2 + held w) o × Under p store o next → Made a ≡ cond (is_left labels (first w)) (site_words labels (sites p) (first w)) 0 → Words a ≡ 2 + held w → Paid (a ∷ xs) m outer
        by true e h made words =
            let r = on h.0 (length (sites p)) h.2 in
            let f = around_found (length (sites p)) (first w) (2 + held w) h.0 h.1 in
            let g : Made a ≡ site_words labels (sites p) (first w) = made ∙ ap (λ b. cond b (site_words labels (sites p) (first w)) 0) e in
            let z = left e outer (which a w next outer is u) in
            omega arith
        by false e h made words =
            let g : Made a ≡ 0 = made ∙ ap (λ b. cond b (site_words labels (sites p) (first w)) 0) e in
            let z = open_frame h.0 e h.1 h.2 (which a w next outer is u) in
            omega arith

    -- what is taken of a chain, and what a frame inside it may still take, is no more than its words
    pub chain_paid : (k : Option Address) (xs : List Address) → Chain store k xs → (outer : Option Point) (m : ℕ) → Under p store outer k → Paid xs m outer
    chain_paid k xs ends outer m u = ends_paid outer m u
    chain_paid k xs (more a w next ys is rest) outer m u = more_paid a w next ys is (λ o n v. chain_paid next ys rest o n v) outer m u
