-- What a run has made pays for the charges of all of it.
use Rattle.std.proofs.Common.{◌≡◌, ℕ, zero, suc, ◌+◌, ◌*◌, ◌≤◌, Bool, true, false, cond, List, [], ◌∷◌, map, Option, Some, refl, sym, ap, ◌∙◌, subst, inl, inr, arith, le_refl}
use Rattle.std.specs.Prelude.{slice_get, sum_by, ◌||◌}
use Rattle.std.proofs.lemmas.List.Sums.{sum_by-cons}
use Rattle.smlc_base.specs.declared.point.Point.{Point}
use Rattle.smlc_base.specs.declared.point.Site.{Site}
use Rattle.smlc_base.specs.declared.point.PointKind.TheVariants as kind
use Rattle.sml_tree.specs.Points.{point}
use Rattle.simulation.specs.Blocks as sim
use Rattle.simulation.specs.Blocks.{IsAmong, StandsAt, points_of}
use Rattle.simulation.specs.Machines.{state_at}
use Rattle.simulation.specs.Stores.{machine_of}
use Rattle.smlc_base.specs.Points.{is_label}
use Rattle.smlc_base.specs.SiteWords.{is_left, handle_left, site_words}
use Rattle.simulation.specs.Words.{weight, Affords, Any}
use Rattle.simulation.proofs.Heaps.{stands_map}
use Rattle.sml_def.specs.State.{Awaits, FunctionPart, ArgumentPart, FieldPart, Subject, RightSide, RaisePart, Guarded, Block, Tuple, Applied, Text, Cell, ExnName, Packet, Closure, Frame, Pending}
use Rattle.sml_def.specs.Run.{view, frame_points, source, start}
use Rattle.sml_def.specs.Sites.{sites}
use Rattle.sml_def.specs.Made.{frame_words, made_words, made_in}
use Rattle.sml_def.specs.Frames.{charged_at}
use Rattle.sml_def.specs.Factor.{IsFactor, CoversLabels, PlansGiveFactors, MadePays}

-- the places of a list, from i on
abbrev places : {X : Type 0} → ℕ → List X → List ℕ
places i [] = []
places i (x ∷ xs) = i ∷ places (suc i) xs

place_among : {X : Type 0} (xs : List X) (i a : ℕ) (x : X) → slice_get xs a ≡ Some x → IsAmong (i + a) (places i xs)
place_among [] i a x e = absurd cc
place_among (y ∷ xs) i zero x e = inl (omega arith)
place_among (y ∷ xs) i (suc a) x e = inr (subst (λ n. IsAmong n (places (suc i) xs)) (omega arith) (place_among xs (suc i) a x e))

shifted : {X : Type 0} (h : ℕ → ℕ) (xs : List X) (i : ℕ) → weight h (places (suc i) xs) ≡ weight (λ a. h (suc a)) (places i xs)
shifted h [] i = refl
shifted h (x ∷ xs) i = ap (λ n. h (suc i) + n) (shifted h xs (suc i))

module _ {X : Type 0} (g : Option X → ℕ) where
  place_weight : (xs : List X) → weight (λ a. g (slice_get xs a)) (places 0 xs) ≡ sum_by (λ x. g (Some x)) xs
  place_weight [] = refl
  place_weight (x ∷ xs) = ap (λ n. g (Some x) + n) (shifted (λ a. g (slice_get (x ∷ xs) a)) xs 0 ∙ place_weight xs) ∙ sym (sum_by-cons (λ y. g (Some y)) x xs)

more_times : (k n : ℕ) → 1 ≤ k → n ≤ k * n
more_times k n h = grind arith

module _ (labels : List Point) (ss : List Site) (charge : Point → ℕ) (factor : ℕ) (is : IsFactor labels ss charge factor) where
  frame_paid : (w : Awaits) → weight charge (frame_points w) ≤ factor * frame_words labels ss (frame_points w)
  frame_paid (FunctionPart f a env) = is.ret (point f kind.Ret)
  frame_paid (ArgumentPart a f) = is.ret (point a kind.Ret)
  frame_paid (FieldPart e fields before later env) = is.ret (point e kind.Ret)
  frame_paid (Subject e rules env) = is.ret (point e kind.Ret)
  frame_paid (RightSide b later body env) = is.ret (point b.right kind.Ret)
  frame_paid (RaisePart e) = is.ret (point e kind.Ret)
  frame_paid (Guarded i rules env) = is.handle i

  pub block_paid : (b : Block) → weight charge (points_of (view b).kind) ≤ factor * made_words labels ss (view b).kind (view b).words
  block_paid (Closure i rules env) = is.fn (point i kind.Fn)
  block_paid (Frame w next) = frame_paid w
  block_paid (Tuple vs) = omega arith
  block_paid (Applied n v) = omega arith
  block_paid (Text bytes) = omega arith
  block_paid (Cell v) = omega arith
  block_paid (ExnName x) = omega arith
  block_paid (Packet x v) = omega arith
  block_paid (Pending v w next) = omega arith

  pub share_is : (memory : List sim.Block) (a : ℕ) (x : sim.Block) → StandsAt memory a x → charged_at labels ss (slice_get memory a) ≡ made_words labels ss x.kind x.words
  share_is memory a x s = ap (charged_at labels ss) s

  pub datum_paid : (x : sim.Block) → x.kind ≡ sim.Datum → x.words ≤ factor * made_words labels ss x.kind x.words
  datum_paid x e = subst (λ k. x.words ≤ factor * made_words labels ss k x.words) (sym e) (more_times factor x.words is.one)

  store_paid : (store : List Block) → Affords factor charge (map view store) Any (made_in labels ss (map view store))
  store_paid store = record {
    share = λ a. charged_at labels ss (slice_get (map view store) a);
    addresses = places 0 (map view store);
    all = λ a x _ s. subst (λ n. IsAmong n (places 0 (map view store))) (omega arith) (place_among (map view store) 0 a x s);
    datum = λ a x _ s e. subst (λ n. x.words ≤ factor * n) (sym (share_is (map view store) a x s)) (datum_paid x e);
    charges = λ a x _ s.
        let found = stands_map view store a x s in
        subst (λ n. weight charge (points_of x.kind) ≤ factor * n) (sym (share_is (map view store) a x s)) (subst (λ (y : sim.Block). weight charge (points_of y.kind) ≤ factor * made_words labels ss y.kind y.words) found.2 (block_paid found.0));
    sum = subst (λ n. weight (λ a. charged_at labels ss (slice_get (map view store) a)) (places 0 (map view store)) ≤ n) (place_weight (charged_at labels ss) (map view store)) (le_refl _);
  }

pub made_pays : MadePays
made_pays p labels charge factor is input n = store_paid labels (sites p) charge factor is (state_at (machine_of (source p)) (start input) n).store

-- ---- The factor of a plan

alone : (a b : ℕ) → a ≤ b → a + 0 ≤ b
alone a b h = omega arith

together : (a b c : ℕ) → a + b ≤ c → a + (b + 0) ≤ c
together a b c h = omega arith

or_false : (s t : Bool) → (s || t) ≡ false → (s ≡ false) × (t ≡ false)
or_false true t e = absurd cc
or_false false t e = (refl, e)

module _ (labels : List Point) (ss : List Site) (charge : Point → ℕ) (factor : ℕ) (covers : CoversLabels labels ss charge factor) where
  none_charged : (q : Point) (n : ℕ) → is_label labels q ≡ false → charge q ≤ n
  none_charged q n e = let z = covers.others q e in omega arith

  fn_covered : (q : Point) → charge q ≤ factor * site_words labels ss q
  fn_covered q = by (is_label labels q) refl
    where
      by : (b : Bool) → is_label labels q ≡ b → charge q ≤ factor * site_words labels ss q
      by true e = covers.each q e
      by false e = none_charged q _ e

  ret_covered : (q : Point) → charge q ≤ factor * frame_words labels ss (q ∷ [])
  ret_covered q = by (is_label labels q) refl
    where
      by : (b : Bool) → is_label labels q ≡ b → charge q ≤ factor * frame_words labels ss (q ∷ [])
      by true e = subst (λ t. charge q ≤ factor * cond (t || handle_left labels q.node q.kind) (site_words labels ss q) 0) (sym e) (covers.each q e)
      by false e = none_charged q _ e

  handle_covered : (i : ℕ) → charge (point i kind.Caught) + charge (point i kind.Popped) ≤ factor * frame_words labels ss (point i kind.Caught ∷ point i kind.Popped ∷ [])
  handle_covered i = by (is_left labels (point i kind.Caught)) refl
    where
      by : (b : Bool) → is_left labels (point i kind.Caught) ≡ b → charge (point i kind.Caught) + charge (point i kind.Popped) ≤ factor * frame_words labels ss (point i kind.Caught ∷ point i kind.Popped ∷ [])
      by true e = subst (λ t. charge (point i kind.Caught) + charge (point i kind.Popped) ≤ factor * cond t (site_words labels ss (point i kind.Caught)) 0) (sym e) (covers.handle i e)
      by false e =
          let both = or_false (is_label labels (point i kind.Caught)) (is_label labels (point i kind.Popped)) e in
          let a = covers.others (point i kind.Caught) both.0 in
          let b = covers.others (point i kind.Popped) both.1 in
          omega arith

pub plans_give_factors : PlansGiveFactors
plans_give_factors labels ss charge factor covers = record {
  one = covers.one;
  fn = λ q. alone _ _ (fn_covered labels ss charge factor covers q);
  ret = λ q. alone _ _ (ret_covered labels ss charge factor covers q);
  handle = λ i. together _ _ _ (handle_covered labels ss charge factor covers i);
}
