-- The census counts what is reached, each closure and frame at its site, and nothing else.
use Rattle.std.proofs.Common.{◌≡◌, ℕ, suc, ◌+◌, ◌*◌, ◌<◌, ◌≤◌, Bool, true, false, cond, List, [], ◌∷◌, ◌++◌, length, map, filter, Option, Some, None, refl, sym, ap, ap₂, ◌∙◌, subst, arith, inl, inr}
use Rattle.std.specs.Prelude.{slice_get, ◌||◌}
use Rattle.std.proofs.lemmas.List.Sums.{length-filter}
use Rattle.smlc_base.specs.declared.point.Point.{Point}
use Rattle.smlc_base.specs.declared.point.PointKind.TheVariants as kind
use Rattle.smlc_base.specs.declared.point.Site.{Site}
use Rattle.smlc_base.specs.declared.place.Place.{Place}
use Rattle.sml_tree.specs.declared.bare.Bare.{Bare}
use Rattle.sml_tree.specs.declared.points.Spot.{Spot}
use Rattle.sml_tree.specs.IsBare.{IsBare}
use Rattle.sml_tree.specs.Order.{rank, AscendFrom}
use Rattle.sml_tree.specs.Points.{point, spots}
use Rattle.simulation.specs.Blocks.{IsAmong, points_of, StandsAt, Reach, Datum}
use Rattle.simulation.specs.Blocks as sim
use Rattle.simulation.specs.Machines.{state_at}
use Rattle.smlc_base.specs.Points.{is_point, is_label}
use Rattle.simulation.specs.Stores.{machine_of, is_datum}
use Rattle.simulation.specs.Words.{IsDistinct, weight, words_at, kind_words, block_words}
use Rattle.simulation.proofs.Heaps.{stands_map}
use Rattle.simulation.proofs.Lists.{get_below}
use Rattle.simulation.proofs.Nth.{point_eq, point_is_one}
use Rattle.sml_def.specs.State.{Awaits, FunctionPart, ArgumentPart, FieldPart, Subject, RightSide, RaisePart, Guarded, Block, Tuple, Applied, Text, Cell, ExnName, Packet, Closure, Frame, Pending}
use Rattle.sml_def.specs.Run.{eq_point, kind_of, words_of, view, run, source, start}
use Rattle.sml_def.specs.Sites.{site_of, eq_site, sites}
use Rattle.sml_def.specs.Words.{words, reached, stands_for, words_if_datum, census}
use Rattle.sml_def.specs.Laws.{HasSiteOf}
use Rattle.sml_def.specs.Census.{HasCount, HasDataWords, IsCensus, CensusCounts, is_popped, site_total, census_words, WordsAreCounted, ReachTheSame, CountTheSame, CensusIsOfReach}
use Rattle.sml_def.proofs.Ascends.{points_ascend}
use Rattle.sml_def.proofs.Closed.{names_nothing_lost}
use Rattle.sml_def.proofs.Least.{IsWhole, among_between, distinct_of, in_among, among_in, reached_ascending, least}
use Rattle.sml_def.proofs.Reaches.{whole}
use Rattle.sml_def.proofs.Sited.{blocks_have_sites}
use Rattle.sml_def.proofs.Sums.{sum_weight, weight_same, weight_none, weight_add, weight_swap, weight_count, filter_ascending, filter_among, among_filter, ascending_same}

-- ---- Points

not_point : (q r : Point) → (q ≡ r → ⊥) → is_point q r ≡ false
not_point q r n = go (is_point q r) refl
  where
    go : (b : Bool) → is_point q r ≡ b → b ≡ false
    go false e = refl
    go true e = absurd (n (point_eq q r e))

either_label : (b c : Bool) (P : Type 0) → (b || c) ≡ true → (b ≡ true → P) → (c ≡ true → P) → P
either_label true c P e f g = f refl
either_label false c P e f g = g e

label_among : (qs : List Point) (q : Point) → is_label qs q ≡ true → IsAmong q qs
label_among [] q e = cc
label_among (r ∷ qs) q e =
    either_label (is_point r q) (is_label qs q) (IsAmong q (r ∷ qs)) e (λ f. inl (sym (point_eq r q f))) (λ f. inr (label_among qs q f))

or_true : (b : Bool) → (b || true) ≡ true
or_true true = refl
or_true false = refl

among_label : (qs : List Point) (q : Point) → IsAmong q qs → is_label qs q ≡ true
among_label [] q h = absurd h
among_label (r ∷ qs) q (inl e) = ap (λ t. is_point t q || is_label qs q) (sym e) ∙ ap (λ b. b || is_label qs q) (point_is_one q)
among_label (r ∷ qs) q (inr h) = ap (λ b. is_point r q || b) (among_label qs q h) ∙ or_true (is_point r q)

-- ---- Of any memory

module _ (memory : List sim.Block) (roots : List ℕ) (is_whole : IsWhole memory roots) where
  stands_reached : (a : ℕ) → IsAmong a (reached memory roots) → (b : sim.Block) × StandsAt memory a b
  stands_reached a h = get_below memory a (among_between 0 (length memory) (reached memory roots) a (reached_ascending memory roots is_whole) h).1

  reach_among : (a : ℕ) → Reach memory roots a → IsAmong a (reached memory roots)
  reach_among a h = in_among (reached memory roots) a ((least memory roots is_whole).all a h)

  among_reach : (a : ℕ) → IsAmong a (reached memory roots) → Reach memory roots a
  among_reach a h = (least memory roots is_whole).found a (among_in (reached memory roots) a h)

  -- the reached addresses whose block passes a test
  module _ (t : Option sim.Block → Bool) where
    abbrev chosen : List ℕ
    chosen = filter (λ a. t (slice_get memory a)) (reached memory roots)

    chosen_distinct : IsDistinct chosen
    chosen_distinct =
        distinct_of 0 (length memory) chosen (filter_ascending (λ a. t (slice_get memory a)) 0 (length memory) (reached memory roots) (reached_ascending memory roots is_whole))

    chosen_reached : (a : ℕ) → IsAmong a chosen → Reach memory roots a × ((b : sim.Block) × StandsAt memory a b × (t (Some b) ≡ true))
    chosen_reached a h =
        let r = filter_among (λ a. t (slice_get memory a)) (reached memory roots) a h in
        let b = stands_reached a r.0 in
        (among_reach a r.0, (b.0, b.1, ap t (sym b.1) ∙ r.1))

    all_chosen : (a : ℕ) (b : sim.Block) → Reach memory roots a → StandsAt memory a b → t (Some b) ≡ true → IsAmong a chosen
    all_chosen a b h s e = among_filter (λ a. t (slice_get memory a)) (reached memory roots) a (reach_among a h) (ap t s ∙ e)

  has_count : (q : Point) → HasCount memory roots q ((census memory roots).at_point q)
  has_count q = record {
    addresses = chosen (stands_for q);
    distinct = chosen_distinct (stands_for q);
    reached = λ a h. let r = chosen_reached (stands_for q) a h in (r.0, (r.1.0, r.1.1, label_among (points_of r.1.0.kind) q r.1.2));
    all = λ a b h s among. all_chosen (stands_for q) a b h s (among_label (points_of b.kind) q among);
    count = length-filter (λ a. stands_for q (slice_get memory a)) (reached memory roots);
  }

abbrev is_data : Option sim.Block → Bool
is_data None = false
is_data (Some b) = is_datum b.kind

datum_true : (k : sim.Kind) → is_datum k ≡ true → k ≡ Datum
datum_true sim.Datum e = refl
datum_true _ e = cc

-- where a test holds, so many words
where_data : (o : Option sim.Block) → words_if_datum o ≡ cond (is_data o) (block_words o) 0
where_data None = refl
where_data (Some b) = go b.kind b.words
  where
    go : (k : sim.Kind) (n : ℕ) → cond (is_datum k) n 0 ≡ cond (is_datum k) (kind_words k n) 0
    go (sim.Closure q) n = refl
    go (sim.Frame qs) n = refl
    go sim.Datum n = refl
    go sim.ClassRecord n = refl
    go sim.SpillRecord n = refl
    go sim.Inside n = refl

filter_weight : (t : ℕ → Bool) (w : ℕ → ℕ) (xs : List ℕ) → weight w (filter t xs) ≡ weight (λ x. cond (t x) (w x) 0) xs
filter_weight t w [] = refl
filter_weight t w (x ∷ xs) = go (t x) (filter_weight t w xs)
  where
    go : (b : Bool) → weight w (filter t xs) ≡ weight (λ x. cond (t x) (w x) 0) xs → weight w (cond b (x ∷ filter t xs) (filter t xs)) ≡ cond b (w x) 0 + weight (λ x. cond (t x) (w x) 0) xs
    go true e = ap (λ n. w x + n) e
    go false e = omega (arith, e)

module _ (memory : List sim.Block) (roots : List ℕ) (is_whole : IsWhole memory roots) where
  has_data_words : HasDataWords memory roots (census memory roots).data_words
  has_data_words = record {
    addresses = chosen memory roots is_whole is_data;
    distinct = chosen_distinct memory roots is_whole is_data;
    reached = λ a h. let r = chosen_reached memory roots is_whole is_data a h in (r.0, (r.1.0, r.1.1, datum_true r.1.0.kind r.1.2));
    all = λ a b h s e. all_chosen memory roots is_whole is_data a b h s (ap is_datum e);
    sum =
        filter_weight (λ a. is_data (slice_get memory a)) (words_at memory) (reached memory roots)
        ∙ weight_same _ (λ a. words_if_datum (slice_get memory a)) (reached memory roots) (λ a h. sym (where_data (slice_get memory a)))
        ∙ sym (sum_weight (λ a. words_if_datum (slice_get memory a)) (reached memory roots));
  }

  is_census : IsCensus memory roots (census memory roots)
  is_census = record { counts = has_count memory roots is_whole; rest = has_data_words }

-- the state of a run after n steps is whole
run_whole : (p : Bare) (input : List ℕ) (n : ℕ) → IsWhole ((run p input).memory n) ((run p input).roots n)
run_whole p input n = whole (state_at (machine_of (source p)) (start input) n) (names_nothing_lost p input n)

pub census_counts : CensusCounts
census_counts p input n = is_census ((run p input).memory n) ((run p input).roots n) (run_whole p input n)

-- ---- The words of a census

-- what a block adds at a site
abbrev site_part : Site → Option sim.Block → ℕ
site_part s o = cond (is_popped s.point.kind) 0 (cond (stands_for s.point o) s.words 0)

-- what a block adds at the sites of one point
abbrev point_part : Point → Site → ℕ
point_part q s = cond (is_point q s.point) s.words 0

among_rank : (n : ℕ) (ss : List Site) (s : Site) → AscendFrom n (map (λ s. s.point) ss) → IsAmong s ss → n ≤ rank s.point
among_rank n [] s h g = absurd g
among_rank n (x ∷ ss) s h (inl e) = subst (λ y. n ≤ rank y.point) (sym e) h.0
among_rank n (x ∷ ss) s h (inr g) = let up : suc (rank x.point) ≤ rank s.point = among_rank (suc (rank x.point)) ss s h.1 g in let low : n ≤ rank x.point = h.0 in omega arith

-- of sites in ascending order one has the point
none_past : (n : ℕ) (ss : List Site) (q : Point) → AscendFrom n (map (λ s. s.point) ss) → rank q < n → weight (point_part q) ss ≡ 0
none_past n [] q h l = refl
none_past n (s ∷ ss) q h l =
    let low : n ≤ rank s.point = h.0 in
    let other : is_point q s.point ≡ false = not_point q s.point (λ e. let same : rank q ≡ rank s.point = ap rank e in omega arith) in
    let rest : weight (point_part q) ss ≡ 0 = none_past (suc (rank s.point)) ss q h.1 (omega arith) in
    ap (λ b. cond b s.words 0 + weight (point_part q) ss) other ∙ omega (arith, rest)

one_site : (n : ℕ) (ss : List Site) (s : Site) → AscendFrom n (map (λ s. s.point) ss) → IsAmong s ss → weight (point_part s.point) ss ≡ s.words
one_site n [] s h g = absurd g
one_site n (x ∷ ss) s h (inl e) =
    subst (λ y. weight (point_part y.point) (x ∷ ss) ≡ y.words) (sym e)
    (let rest : weight (point_part x.point) ss ≡ 0 = none_past (suc (rank x.point)) ss x.point h.1 (omega arith) in
    ap (λ b. cond b x.words 0 + weight (point_part x.point) ss) (point_is_one x.point) ∙ omega (arith, rest))
one_site n (x ∷ ss) s h (inr g) =
    let up : suc (rank x.point) ≤ rank s.point = among_rank (suc (rank x.point)) ss s h.1 g in
    let other : is_point s.point x.point ≡ false = not_point s.point x.point (λ e. let same : rank s.point ≡ rank x.point = ap rank e in omega arith) in
    let rest : weight (point_part s.point) ss ≡ s.words = one_site (suc (rank x.point)) ss s h.1 g in
    ap (λ b. cond b x.words 0 + weight (point_part s.point) ss) other ∙ omega (arith, rest)

or_none : (b : Bool) → (b || false) ≡ b
or_none true = refl
or_none false = refl

-- a block of one point, which isn't Popped
one_part : (q : Point) → is_popped q.kind ≡ false → (s : Site) → cond (is_popped s.point.kind) 0 (cond (is_point q s.point || false) s.words 0) ≡ point_part q s
one_part q e s = go (is_popped s.point.kind) refl
  where
    go : (b : Bool) → is_popped s.point.kind ≡ b → cond b 0 (cond (is_point q s.point || false) s.words 0) ≡ point_part q s
    go true f = ap (λ c. cond c s.words 0) (sym (not_point q s.point (λ same. let g : is_popped q.kind ≡ is_popped s.point.kind = ap (λ r. is_popped r.kind) same in cc)))
    go false f = ap (λ c. cond c s.words 0) (or_none (is_point q s.point))

-- the frame of a `handle` has its words at Caught
handle_part : (i : ℕ) (s : Site) → cond (is_popped s.point.kind) 0 (cond (is_point (point i kind.Caught) s.point || (is_point (point i kind.Popped) s.point || false)) s.words 0) ≡ point_part (point i kind.Caught) s
handle_part i s = go (is_popped s.point.kind) refl
  where
    go : (b : Bool) → is_popped s.point.kind ≡ b → cond b 0 (cond (is_point (point i kind.Caught) s.point || (is_point (point i kind.Popped) s.point || false)) s.words 0) ≡ point_part (point i kind.Caught) s
    go true f = ap (λ c. cond c s.words 0) (sym (not_point (point i kind.Caught) s.point (λ same. let g : false ≡ is_popped s.point.kind = ap (λ r. is_popped r.kind) same in cc)))
    go false f =
        let other : is_point (point i kind.Popped) s.point ≡ false = not_point (point i kind.Popped) s.point (λ same. let g : true ≡ is_popped s.point.kind = ap (λ r. is_popped r.kind) same in cc) in
        ap (λ c. cond (is_point (point i kind.Caught) s.point || (c || false)) s.words 0) other
        ∙ ap (λ c. cond c s.words 0) (or_none (is_point (point i kind.Caught) s.point))

no_part : (s : Site) → site_part s None ≡ 0
no_part s = none (is_popped s.point.kind)
  where
    none : (b : Bool) → ◌≡◌ {A = ℕ} (cond b 0 0) 0
    none true = refl
    none false = refl

points_of_sites : (places : List Place) (ss : List Spot) → map (λ s. s.point) (map (site_of places) ss ++ eq_site ∷ []) ≡ map (λ s. s.point) ss ++ eq_point ∷ []
points_of_sites places [] = refl
points_of_sites places (s ∷ ss) = ap (λ qs. s.point ∷ qs) (points_of_sites places ss)

module _ (p : Bare) (bare : IsBare p) where
  sites_ascend : AscendFrom 0 (map (λ s. s.point) (sites p))
  sites_ascend = subst (AscendFrom 0) (sym (points_of_sites p.places (spots p.nodes))) (points_ascend p bare)

  -- the sites of one point have its words
  point_words : (q : Point) (n : ℕ) → HasSiteOf p q n → weight (point_part q) (sites p) ≡ n
  point_words q n h =
      subst (λ r. weight (point_part r) (sites p) ≡ h.0.words) h.2 (one_site 0 (sites p) h.0 sites_ascend h.1) ∙ h.3

  abbrev AtSites : Block → Type 0
  AtSites b = (q : Point) → IsAmong q (points_of (kind_of b)) → HasSiteOf p q (words_of b)

  -- what a block adds at all sites, and as a datum
  abbrev Adds : Block → Type 0
  Adds b = weight (λ s. site_part s (Some (view b))) (sites p) + words_if_datum (Some (view b)) ≡ block_words (Some (view b))

  one_adds : (q : Point) (n : ℕ) → is_popped q.kind ≡ false → HasSiteOf p q n → weight (λ s. cond (is_popped s.point.kind) 0 (cond (is_point q s.point || false) s.words 0)) (sites p) + 0 ≡ n
  one_adds q n e h =
      let at : weight (λ s. cond (is_popped s.point.kind) 0 (cond (is_point q s.point || false) s.words 0)) (sites p) ≡ n = weight_same _ (point_part q) (sites p) (λ s g. one_part q e s) ∙ point_words q n h in
      omega (arith, at)

  handle_adds : (i n : ℕ) → HasSiteOf p (point i kind.Caught) n → weight (λ s. cond (is_popped s.point.kind) 0 (cond (is_point (point i kind.Caught) s.point || (is_point (point i kind.Popped) s.point || false)) s.words 0)) (sites p) + 0 ≡ n
  handle_adds i n h =
      let at : weight (λ s. cond (is_popped s.point.kind) 0 (cond (is_point (point i kind.Caught) s.point || (is_point (point i kind.Popped) s.point || false)) s.words 0)) (sites p) ≡ n = weight_same _ (point_part (point i kind.Caught)) (sites p) (λ s g. handle_part i s) ∙ point_words (point i kind.Caught) n h in
      omega (arith, at)

  none_adds : (n : ℕ) → weight (λ s. site_part s None) (sites p) + n ≡ n
  none_adds n =
      let at : weight (λ s. site_part s None) (sites p) ≡ 0 = weight_same _ (λ s. 0) (sites p) (λ s g. no_part s) ∙ weight_none (sites p) in
      omega (arith, at)

  frame_adds : (w : Awaits) (next : Option ℕ) → AtSites (Frame w next) → Adds (Frame w next)
  frame_adds (FunctionPart f a env) next h = one_adds (point f kind.Ret) _ refl (h (point f kind.Ret) (inl refl))
  frame_adds (ArgumentPart a f) next h = one_adds (point a kind.Ret) _ refl (h (point a kind.Ret) (inl refl))
  frame_adds (FieldPart e fields before later env) next h = one_adds (point e kind.Ret) _ refl (h (point e kind.Ret) (inl refl))
  frame_adds (Subject e rules env) next h = one_adds (point e kind.Ret) _ refl (h (point e kind.Ret) (inl refl))
  frame_adds (RightSide b later body env) next h = one_adds (point b.right kind.Ret) _ refl (h (point b.right kind.Ret) (inl refl))
  frame_adds (RaisePart e) next h = one_adds (point e kind.Ret) _ refl (h (point e kind.Ret) (inl refl))
  frame_adds (Guarded i rules env) next h = handle_adds i _ (h (point i kind.Caught) (inl refl))

  block_adds : (b : Block) → AtSites b → Adds b
  block_adds (Closure i rules env) h = one_adds (point i kind.Fn) _ refl (h (point i kind.Fn) (inl refl))
  block_adds (Frame w next) h = frame_adds w next h
  block_adds (Tuple vs) h = none_adds _
  block_adds (Applied m v) h = none_adds _
  block_adds (Text bytes) h = none_adds _
  block_adds (Cell v) h = none_adds _
  block_adds (ExnName x) h = none_adds _
  block_adds (Packet x v) h = none_adds _
  block_adds (Pending v w next) h = none_adds _

  module _ (input : List ℕ) (n : ℕ) where
    abbrev Memory : List sim.Block
    Memory = (run p input).memory n

    abbrev Found : List ℕ
    Found = reached ((run p input).memory n) ((run p input).roots n)

    -- each block that is reached
    address_adds : (a : ℕ) → IsAmong a Found → words_at Memory a ≡ weight (λ s. site_part s (slice_get Memory a)) (sites p) + words_if_datum (slice_get Memory a)
    address_adds a among =
        let b = stands_reached Memory ((run p input).roots n) (run_whole p input n) a among in
        let found = stands_map view (state_at (machine_of (source p)) (start input) n).store a b.0 b.1 in
        let here : slice_get Memory a ≡ Some (view found.0) = b.1 ∙ ap Some (sym found.2) in
        let adds : Adds found.0 = block_adds found.0 (λ q g. blocks_have_sites p bare input n a (view found.0) q here g) in
        subst (λ o. block_words o ≡ weight (λ s. site_part s o) (sites p) + words_if_datum o) (sym here) (sym adds)

    -- the blocks of a site
    site_adds : (s : Site) → weight (λ a. site_part s (slice_get Memory a)) Found ≡ site_total (census Memory ((run p input).roots n)) s
    site_adds s = go (is_popped s.point.kind)
      where
        go : (b : Bool) → weight (λ a. cond b 0 (cond (stands_for s.point (slice_get Memory a)) s.words 0)) Found ≡ cond b 0 ((census Memory ((run p input).roots n)).at_point s.point * s.words)
        go true = weight_none Found
        go false = weight_count (λ a. stands_for s.point (slice_get Memory a)) s.words Found

    run_counted : words Memory ((run p input).roots n) ≡ census_words (sites p) (census Memory ((run p input).roots n))
    run_counted =
        weight_same (words_at Memory) (λ a. weight (λ s. site_part s (slice_get Memory a)) (sites p) + words_if_datum (slice_get Memory a)) Found address_adds
        ∙ weight_add (λ a. weight (λ s. site_part s (slice_get Memory a)) (sites p)) (λ a. words_if_datum (slice_get Memory a)) Found
        ∙ ap₂ (λ x y. x + y)
        (weight_swap (λ a s. site_part s (slice_get Memory a)) Found (sites p) ∙ weight_same _ (site_total (census Memory ((run p input).roots n))) (sites p) (λ s g. site_adds s) ∙ sym (sum_weight (site_total (census Memory ((run p input).roots n))) (sites p)))
        (sym (sum_weight (λ a. words_if_datum (slice_get Memory a)) Found))

pub words_are_counted : WordsAreCounted
words_are_counted p bare input n = run_counted p bare input n

-- ---- Nothing else counts

module _ (memory : List sim.Block) (roots : List ℕ) (others : List sim.Block) (ends : List ℕ) (is_whole : IsWhole memory roots) (whole_too : IsWhole others ends) (same : ReachTheSame memory roots others ends) where
  reached_same : reached memory roots ≡ reached others ends
  reached_same =
      ascending_same 0 0 (length memory) (length others) (reached memory roots) (reached others ends) (reached_ascending memory roots is_whole) (reached_ascending others ends whole_too)
      (λ a h. reach_among others ends whole_too a (same.there a (among_reach memory roots is_whole a h)))
      (λ a h. reach_among memory roots is_whole a (same.back a (among_reach others ends whole_too a h)))

  -- what is seen of a block by its kind and words alone
  module _ {A : Type 0} (see : Option sim.Block → A) (by_kind : (x y : sim.Block) → x.kind ≡ y.kind → x.words ≡ y.words → see (Some x) ≡ see (Some y)) where
    seen_same : (a : ℕ) → IsAmong a (reached memory roots) → see (slice_get memory a) ≡ see (slice_get others a)
    seen_same a h =
        let x = stands_reached memory roots is_whole a h in
        let y = stands_reached others ends whole_too a (subst (IsAmong a) reached_same h) in
        let alike = same.alike a x.0 y.0 (among_reach memory roots is_whole a h) x.1 y.1 in
        ap see x.1 ∙ by_kind x.0 y.0 alike.0 alike.1 ∙ ap see (sym y.1)

  sums_same : (see : Option sim.Block → ℕ) → ((x y : sim.Block) → x.kind ≡ y.kind → x.words ≡ y.words → see (Some x) ≡ see (Some y)) → weight (λ a. see (slice_get memory a)) (reached memory roots) ≡ weight (λ a. see (slice_get others a)) (reached others ends)
  sums_same see by_kind =
      weight_same _ (λ a. see (slice_get others a)) (reached memory roots) (seen_same see by_kind) ∙ ap (weight (λ a. see (slice_get others a))) reached_same

  count_same : CountTheSame memory roots others ends
  count_same = record {
    words = sums_same block_words (λ x y k w. ap₂ kind_words k w);
    at_point = λ q.
        sum_weight _ (reached memory roots)
        ∙ sums_same (λ o. cond (stands_for q o) 1 0) (λ x y k w. ap (λ r. cond (is_label (points_of r) q) 1 0) k)
        ∙ sym (sum_weight _ (reached others ends));
    data_words =
        sum_weight _ (reached memory roots)
        ∙ sums_same words_if_datum (λ x y k w. ap₂ (λ r n. cond (is_datum r) n 0) k w)
        ∙ sym (sum_weight _ (reached others ends));
  }

pub census_is_of_reach : CensusIsOfReach
census_is_of_reach p r input rest m n same =
    count_same ((run p input).memory m) ((run p input).roots m) ((run r rest).memory n) ((run r rest).roots n) (run_whole p input m) (run_whole r rest n) same
