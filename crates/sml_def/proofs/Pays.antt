-- What each state of a run reaches pays for its sites, and so for the charges of what is reached.
use Rattle.std.proofs.Common.{◌≡◌, ℕ, zero, suc, ◌+◌, ◌*◌, ◌≤◌, Bool, true, false, List, [], ◌∷◌, ◌++◌, length, map, Option, Some, None, ◌⊎◌, refl, sym, ap, ◌∙◌, subst, inl, inr, ⊎_elim, arith, le_refl}
use Rattle.std.specs.Prelude.{slice_get, sum_by}
use Rattle.smlc_base.specs.declared.point.Point.{Point}
use Rattle.smlc_base.specs.declared.point.PointKind.TheVariants as kind
use Rattle.sml_tree.specs.declared.bare.Bare.{Bare}
use Rattle.sml_tree.specs.IsBare.{IsBare}
use Rattle.sml_tree.specs.Points.{point}
use Rattle.simulation.specs.Blocks.{IsAmong, StandsAt, Reach, root, points_of}
use Rattle.simulation.specs.Blocks as sim
use Rattle.simulation.specs.Machines.{state_at}
use Rattle.simulation.specs.Stores.{machine_of}
use Rattle.simulation.specs.Words.{IsDistinct, weight, words_at, kind_words, block_words, HasWords, Affords}
use Rattle.simulation.proofs.Lists.{among_append}
use Rattle.simulation.proofs.Heaps.{stands_map, stands_of}
use Rattle.simulation.proofs.Weights.{weight_contained, weight-append, parted}
use Rattle.sml_def.proofs.Comes.{BlockComes, run_comes}
use Rattle.sml_def.proofs.Sited.{blocks_have_sites}
use Rattle.sml_def.proofs.Closed.{names_nothing_lost}
use Rattle.sml_def.proofs.Reaches.{whole, reach_is_least, words_are_reached}
use Rattle.sml_def.specs.State.{Address, Awaits, Block, Tuple, Applied, Text, Cell, ExnName, Packet, Closure, Frame, Pending}
use Rattle.sml_def.specs.Run.{State, view, held, words_of, kind_of, of_control, source, start}
use Rattle.sml_def.specs.Sites.{sites}
use Rattle.sml_def.specs.Made.{made_words}
use Rattle.smlc_base.specs.SiteWords.{outward, around, site_words}
use Rattle.sml_def.specs.Words.{reached, words}
use Rattle.sml_def.specs.Laws.{HasSiteOf}
use Rattle.sml_def.specs.Frames.{charged_at, SitesArePaid}
use Rattle.sml_def.specs.Factor.{IsFactor, ReachPays}
use Rattle.sml_def.specs.Apart.{is_frame, shape}
use Rattle.sml_def.proofs.Apart.{shape_get, values_name_no_frames}
use Rattle.sml_def.proofs.Factor.{block_paid, datum_paid, share_is}
use Rattle.sml_def.proofs.Nests.{first, first_among, Under, BlockNests, run_nests, frame_site, closure_site}
use Rattle.sml_def.proofs.Older.{among_all, run_down}
use Rattle.sml_def.proofs.OneSite.{IsSite, is_site}
use Rattle.sml_def.proofs.Paid.{chain_paid}
use Rattle.sml_def.proofs.Chains.{frame_of, frame_named, frame_at, chain_distinct, chain_frames, chain_reached, reached_chain}
use Rattle.sml_def.proofs.OneLine.{the_chain}
use Rattle.sml_def.proofs.Sums.{sum_weight}
use Rattle.sml_def.proofs.Least.{distinct_of, get_below, among_in, among_between, reached_ascending}

weight_less : (f g : ℕ → ℕ) (xs : List ℕ) → ((a : ℕ) → IsAmong a xs → f a ≤ g a) → weight f xs ≤ weight g xs
weight_less f g [] h = omega arith
weight_less f g (x ∷ xs) h = let a = h x (inl refl) in let b = weight_less f g xs (λ y m. h y (inr m)) in omega arith

distinct_append : (xs ys : List ℕ) → IsDistinct xs → IsDistinct ys → ((a : ℕ) → IsAmong a xs → IsAmong a ys → ⊥) → IsDistinct (xs ++ ys)
distinct_append [] ys d e h = e
distinct_append (x ∷ xs) ys d e h =
    (λ m. ⊎_elim (λ (i : IsAmong x xs). d.0 i) (λ (i : IsAmong x ys). h x (inl refl) i) (among_append x xs ys m), distinct_append xs ys d.1 e (λ a i j. h a (inr i) j))

flags : (t : Bool) → (t ≡ true) ⊎ (t ≡ false)
flags true = inl refl
flags false = inr refl

module _ (p : Bare) (bare : IsBare p) (labels : List Point) (input : List ℕ) (n : ℕ) where
  abbrev S : State
  S = state_at (machine_of (source p)) (start input) n

  abbrev Memory : List sim.Block
  Memory = map view S.store

  abbrev Roots : List ℕ
  Roots = of_control S.control.control

  abbrev Made : ℕ → ℕ
  Made a = charged_at labels (sites p) (slice_get Memory a)

  abbrev Words : ℕ → ℕ
  Words a = words_at Memory a

  site_at : (a : ℕ) (b : Block) (q : Point) → slice_get S.store a ≡ Some b → IsAmong q (points_of (view b).kind) → HasSiteOf p q (words_of b)
  site_at a b q is m = blocks_have_sites p bare input n a (view b) q (stands_of view S.store a b is) m

  sited : (a : Address) (w : Awaits) (next : Option Address) → slice_get S.store a ≡ Some (Frame w next) → (outer : Option Point) × IsSite p (first w) (2 + held w) outer × Under p S.store outer next
  sited a w next is =
      let h = among_all (BlockNests p S.store) S.store a (Frame w next) (run_nests p input n).store is in
      (h.0, is_site p bare (first w) (2 + held w) h.0 (site_at a (Frame w next) (first w) is (first_among w)) (frame_site p bare.numbered w h.0 h.1), h.2)

  -- what isn't a frame has at least its site words
  other_paid : (a : ℕ) (b : Block) → slice_get S.store a ≡ Some b → is_frame b ≡ false → made_words labels (sites p) (view b).kind (view b).words ≤ words_of b
  other_paid a (Frame w next) is f = absurd cc
  other_paid a (Tuple vs) is f = le_refl _
  other_paid a (Applied m v) is f = le_refl _
  other_paid a (Text bytes) is f = le_refl _
  other_paid a (Cell v) is f = le_refl _
  other_paid a (ExnName x) is f = le_refl _
  other_paid a (Packet x v) is f = le_refl _
  other_paid a (Pending v w next) is f = le_refl _
  other_paid a (Closure i rules env) is f =
      let come = among_all (BlockComes p) S.store a (Closure i rules env) (run_comes p input n).store is in
      let q = point i kind.Fn in
      let s = is_site p bare q (1 + length env) None (site_at a (Closure i rules env) q is (inl refl)) (closure_site p bare.numbered i rules come.0 come.1 come.2) in
      let e : site_words labels (sites p) q ≡ (1 + length env) + around (length (sites p)) labels (sites p) None =
      ap (outward (around (length (sites p)) labels (sites p))) s.found ∙ ap (λ k. k + around (length (sites p)) labels (sites p) s.site.outer) s.words_are ∙ ap (λ o. (1 + length env) + around (length (sites p)) labels (sites p) o) s.around_is in
      let z = none (length (sites p)) in
      omega arith
    where
      none : (m : ℕ) → around m labels (sites p) None ≡ 0
      none zero = refl
      none (suc m) = refl

  whole_words : (b : Block) → kind_words (kind_of b) (words_of b) ≡ words_of b
  whole_words (Frame w next) = refl
  whole_words (Tuple vs) = refl
  whole_words (Applied m v) = refl
  whole_words (Text bytes) = refl
  whole_words (Cell v) = refl
  whole_words (ExnName x) = refl
  whole_words (Packet x v) = refl
  whole_words (Closure i rules env) = refl
  whole_words (Pending v w next) = refl

  made_at : (a : ℕ) (b : Block) → slice_get S.store a ≡ Some b → Made a ≡ made_words labels (sites p) (view b).kind (view b).words
  made_at a b is = ap (charged_at labels (sites p)) (stands_of view S.store a b is)

  words_are : (a : ℕ) (b : Block) → slice_get S.store a ≡ Some b → Words a ≡ words_of b
  words_are a b is = ap block_words (stands_of view S.store a b is) ∙ whole_words b

  -- the site words of what is reached are no more than its words
  sites_paid : (hw : HasWords Memory Roots (words Memory Roots)) → weight Made hw.addresses ≤ words Memory Roots
  sites_paid hw =
      let down = run_down p input n in
      let apart = values_name_no_frames p input n in
      let c = S.control.control in
      let k = frame_of c in
      let chain = the_chain p input n in
      let xs = chain.0 in
      let found : (a : ℕ) → IsAmong a hw.addresses → (b : Block) × (slice_get S.store a ≡ Some b) = λ a m. let s = (hw.reached a m).1 in let f = stands_map view S.store a s.0 s.1 in (f.0, f.1) in
      let r = parted (λ a. slice_get (shape S.store) a ≡ Some true) (λ a. slice_get (shape S.store) a ≡ Some false) Made hw.addresses hw.distinct (λ a m.
      let f = found a m in
      let flag = shape_get S.store a f.0 f.1 in
      ⊎_elim (λ (e : is_frame f.0 ≡ true). inl (flag ∙ ap (λ t. Some t) e)) (λ (e : is_frame f.0 ≡ false). inr (flag ∙ ap (λ t. Some t) e)) (flags (is_frame f.0))) in
      let a1 = weight_contained Made r.left xs r.left_distinct (λ a m. let l = r.left_all a m in reached_chain S.store down apart.store c apart.control xs chain.1 a (hw.reached a l.1).0 l.0) in
      let a2 = chain_paid p labels S.store sited k xs chain.1 None 0 tt in
      let a3 = weight_less Made Words r.right (λ a m.
      let l = r.right_all a m in
      let f = found a l.1 in
      let plain : is_frame f.0 ≡ false = let e : Some (is_frame f.0) ≡ Some false = sym (shape_get S.store a f.0 f.1) ∙ l.0 in cc in
      let u = made_at a f.0 f.1 in
      let v = words_are a f.0 f.1 in
      let w = other_paid a f.0 f.1 plain in
      omega arith) in
      let inside : (a : ℕ) → IsAmong a (xs ++ r.right) → IsAmong a hw.addresses = λ a m. ⊎_elim
      (λ (i : IsAmong a xs).
      let f = frame_at S.store a (chain_frames S.store down apart.store k xs chain.1 a i) in
      hw.all a (view (Frame f.0 f.1)) (chain_reached S.store down apart.store Roots k xs (λ b e. root b (frame_named c b e)) chain.1 a i) (stands_of view S.store a (Frame f.0 f.1) f.2))
      (λ (i : IsAmong a r.right). (r.right_all a i).1)
      (among_append a xs r.right m) in
      let apart_lists : (a : ℕ) → IsAmong a xs → IsAmong a r.right → ⊥ = λ a i j. let e : Some true ≡ Some false = sym (chain_frames S.store down apart.store k xs chain.1 a i) ∙ (r.right_all a j).0 in cc in
      let a4 = weight_contained Words (xs ++ r.right) hw.addresses (distinct_append xs r.right (chain_distinct S.store down apart.store k xs chain.1) r.right_distinct apart_lists) inside in
      let a5 = weight-append Words xs r.right in
      let a6 = hw.sum in
      let a7 = r.sum in
      omega arith

  -- what is computed as reached is among all that is reached
  reached_paid : sum_by Made (reached Memory Roots) ≤ words Memory Roots
  reached_paid =
      let hw = words_are_reached p input n in
      let up = reached_ascending Memory Roots (whole S (names_nothing_lost p input n)) in
      let paid = sites_paid hw in
      let less = weight_contained Made (reached Memory Roots) hw.addresses (distinct_of 0 (length Memory) (reached Memory Roots) up) (λ a m.
      let stands = get_below Memory a (among_between 0 (length Memory) (reached Memory Roots) a up m).1 in
      hw.all a stands.0 ((reach_is_least p input n).found a (among_in (reached Memory Roots) a m)) stands.1) in
      let sum = sum_weight Made (reached Memory Roots) in
      omega arith

  reach_affords : (charge : Point → ℕ) (factor : ℕ) → IsFactor labels (sites p) charge factor → Affords factor charge Memory (Reach Memory Roots) (words Memory Roots)
  reach_affords charge factor is =
      let hw = words_are_reached p input n in
      record {
        share = Made;
        addresses = hw.addresses;
        all = hw.all;
        datum = λ a x m s e. subst (λ t. x.words ≤ factor * t) (sym (share_is labels (sites p) charge factor is Memory a x s)) (datum_paid labels (sites p) charge factor is x e);
        charges = λ a x m s.
            let f = stands_map view S.store a x s in
            subst (λ t. weight charge (points_of x.kind) ≤ factor * t) (sym (share_is labels (sites p) charge factor is Memory a x s)) (subst (λ (y : sim.Block). weight charge (points_of y.kind) ≤ factor * made_words labels (sites p) y.kind y.words) f.2 (block_paid labels (sites p) charge factor is f.0));
        sum = sites_paid hw;
      }

pub reach_pays : ReachPays
reach_pays p bare labels charge factor is input n = reach_affords p bare labels input n charge factor is

pub sites_are_paid : SitesArePaid
sites_are_paid p bare labels input n = reached_paid p bare labels input n
