-- What a tree becomes is whole, and its points have sites.
use Rattle.std.proofs.Common.{◌≡◌, ℕ, ◌+◌, ◌≤◌, Bool, true, false, cond, List, [], ◌∷◌, ◌++◌, Some, map, refl, sym, ap, subst, arith, inl, inr, ◌⊎◌}
use Rattle.std.specs.Prelude.{◌≢◌}
use Rattle.std.specs.List.{AllByRecursion}
use Rattle.std.specs.Option.{is_some}
use Rattle.smlc_base.specs.declared.place.Place.{Place}
use Rattle.smlc_base.specs.declared.point.Point.{Point}
use Rattle.smlc_base.specs.declared.point.PointKind.{PointKind}
use Rattle.smlc_base.specs.declared.point.PointKind.TheVariants.{Fn, Ret, Caught, Popped, Eq}
use Rattle.smlc_base.specs.declared.point.Site.{Site}
use Rattle.smlc_base.specs.Points.{is_point}
use Rattle.smlc_base.specs.SiteWords.{find_site}
use Rattle.sml_tree.specs.declared.bare.Bare.{Bare}
use Rattle.sml_tree.specs.declared.points.Spot.{Spot}
use Rattle.sml_tree.specs.IsBare.{IsBare}
use Rattle.sml_tree.specs.Points.{spots}
use Rattle.sml_types.specs.declared.tables.TypeName.{TypeName}
use Rattle.sml_def.specs.Run.{eq_point}
use Rattle.sml_def.specs.Sites.{own_words, site_of, eq_site, sites}
use Rattle.sml_def.proofs.Sound.{points_stand_once as source_once}
use Rattle.simulation.specs.Blocks.{IsAmong}
use Rattle.simulation.specs.Runs.{times}
use Rattle.simulation.proofs.Lists.{times-append, among_append, among_map, among_one}
use Rattle.lambda_laws.specs.Make.{lambda_of, terms_of}
use Rattle.lambda_laws.proofs.Programs.{is_program}
use Rattle.lambda_ends.proofs.Ends.{program_ends_in_no_call}
use Rattle.cps_ir.specs.Slim.{least_words, IsOuter, SitesFit, Layout, layouts}
use Rattle.cps_ir.specs.Free.{labels}
use Rattle.convert_laws.specs.Decide.{own_by_16}
use Rattle.convert_laws.specs.Fit.{IsFit}
use Rattle.convert_laws.specs.Needs.{needs}
use Rattle.convert_laws.specs.Program.{cps_of}
use Rattle.convert_laws.proofs.Fits.{rule_of_16_fits}
use Rattle.convert_laws.proofs.Once.{conversion_binds_once}
use Rattle.convert_kept.proofs.Closed.{conversion_is_closed}
use Rattle.contract_round.specs.Law.{IsWhole}
use Rattle.convert_points.specs.Made.{one, count}
use Rattle.convert_points.specs.Law.{ConvertedPointsStandOnce, ConvertedIsWhole, SitesOfATreeFit}
use Rattle.convert_points.proofs.Counts.{times_first, apart, one_self, counted, found}
use Rattle.convert_points.proofs.Paid.{terms_are_paid}
use Rattle.convert_points.proofs.Sites.{Fits, StandsBelow, spots_fit}
use Rattle.convert_points.proofs.Spots.{tally}
use Rattle.convert_points.proofs.Terms.{conversion_is_paid}

-- ---- Spots

spot_times : (p : Point) (ss : List Spot) → times p (map (λ s. s.point) ss) ≡ tally p ss
spot_times p [] = refl
spot_times p (s ∷ ss) =
    let first = times_first p s.point (map (λ s. s.point) ss) in let rest = spot_times p ss in omega (arith, first, rest)

spot_found : (ss : List Spot) (s : Spot) → IsAmong s ss → 1 ≤ tally s.point ss
spot_found [] s m = absurd m
spot_found (x ∷ ss) s (inl e) =
    let here : one s.point x.point ≡ 1 = subst (λ (y : Spot). one s.point y.point ≡ 1) e (one_self s.point) in omega (arith, here)
spot_found (x ∷ ss) s (inr m) = let rest = spot_found ss s m in omega (arith, rest)

no_spot : (p : Point) → p.kind ≡ Eq → (ss : List Spot) → AllByRecursion (λ s. s.point.kind ≢ Eq) ss → tally p ss ≡ 0
no_spot p e [] h = refl
no_spot p e (s ∷ ss) h = let first = apart p s.point e h.0 in let rest = no_spot p e ss h.1 in omega (arith, first, rest)

-- ---- Sites

site_stands : (places : List Place) (p : Point) (ss : List Spot) (others : List Site) → 1 ≤ tally p ss → is_some (find_site (map (site_of places) ss ++ others) p) ≡ true
site_stands places p [] others h = absurd (omega (arith, h))
site_stands places p (s ∷ ss) others h = go (is_point s.point p) h (site_stands places p ss others)
  where
    go : (b : Bool) → 1 ≤ cond b 1 0 + tally p ss → (1 ≤ tally p ss → is_some (find_site (map (site_of places) ss ++ others) p) ≡ true) → is_some (cond b (Some (site_of places s)) (find_site (map (site_of places) ss ++ others) p)) ≡ true
    go true g later = refl
    go false g later = later (omega (arith, g))

points_of_sites : (places : List Place) (ss : List Spot) → map (λ s. s.point) (map (site_of places) ss ++ eq_site ∷ []) ≡ map (λ s. s.point) ss ++ eq_point ∷ []
points_of_sites places [] = refl
points_of_sites places (s ∷ ss) = ap (λ qs. s.point ∷ qs) (points_of_sites places ss)

own_least : (k : PointKind) (held : ℕ) → k ≢ Eq → least_words k ≤ held + own_words k
own_least Fn held h = omega arith
own_least Ret held h = omega arith
own_least Caught held h = omega arith
own_least Popped held h = omega arith
own_least Eq held h = absurd (h refl)

all_among : {A : Type 0} (P : A → Type 0) (xs : List A) (x : A) → AllByRecursion P xs → IsAmong x xs → P x
all_among P [] x h m = absurd m
all_among P (y ∷ xs) x h (inl e) = subst P (sym e) h.0
all_among P (y ∷ xs) x h (inr m) = all_among P xs x h.1 m

module _ (p : Bare) (bare : IsBare p) where
  spot_fits : (s : Spot) → IsAmong s (spots p.nodes) → Fits p.nodes bare.numbered s
  spot_fits s m = all_among (Fits p.nodes bare.numbered) (spots p.nodes) s (spots_fit p.nodes bare.numbered) m

  kinds : (ss : List Spot) → AllByRecursion (Fits p.nodes bare.numbered) ss → AllByRecursion (λ s. s.point.kind ≢ Eq) ss
  kinds [] h = tt
  kinds (s ∷ ss) h = (h.0.kind, kinds ss h.1)

  stands : (q : Point) → 1 ≤ tally q (spots p.nodes) → is_some (find_site (sites p) q) ≡ true
  stands q h = site_stands p.places q (spots p.nodes) (eq_site ∷ []) h

  from_spot : (P : Site → Type 0) → ((t : Spot) → IsAmong t (spots p.nodes) → P (site_of p.places t)) → P eq_site → (s : Site) → IsAmong s (sites p) → P s
  from_spot P f e s m = go (among_append s (map (site_of p.places) (spots p.nodes)) (eq_site ∷ []) m)
    where
      go : IsAmong s (map (site_of p.places) (spots p.nodes)) ⊎ IsAmong s (eq_site ∷ []) → P s
      go (inl m) = let t = among_map (site_of p.places) s (spots p.nodes) m in subst P (sym t.2) (f t.0 t.1)
      go (inr m) = subst P (sym (among_one s eq_site m)) e

  abbrev Enclosed : Site → Type 0
  Enclosed s = (q : Point) → s.outer ≡ Some q → IsOuter (sites p) s.point q

  enclosed : (t : Spot) → IsAmong t (spots p.nodes) → Enclosed (site_of p.places t)
  enclosed t m q e =
      let outer : StandsBelow p.nodes bare.numbered _ q = (spot_fits t m).outer q e in
      record { earlier = outer.below; stands = stands q (subst (λ r. 1 ≤ tally r (spots p.nodes)) outer.same (spot_found (spots p.nodes) outer.spot outer.among)) }

  fit : SitesFit (sites p)
  fit = record {
    once = λ q. subst (λ ps. times q ps ≤ 1) (sym (points_of_sites p.places (spots p.nodes))) (source_once p bare q);
    least = from_spot (λ s. least_words s.point.kind ≤ s.words) (λ t m. own_least t.point.kind t.held (spot_fits t m).kind) (omega arith);
    outer = λ s q m e. from_spot Enclosed enclosed (λ q e. cc) s m q e;
  }

  -- ---- The program

  module _ (ts : List TypeName) where
    decision : IsFit (terms_of ts p) (needs (terms_of ts p)) (own_by_16 (terms_of ts p) (sites p))
    decision = rule_of_16_fits (lambda_of ts p) (is_program ts p bare) (program_ends_in_no_call ts p bare)

    most : (q : Point) → count q (cps_of (lambda_of ts p)).code ≤ tally q (spots p.nodes)
    most q = conversion_is_paid (terms_of ts p) (needs (terms_of ts p)) (own_by_16 (terms_of ts p) (sites p)) decision q _ (terms_are_paid q ts p.nodes bare.numbered)

    at_most_once : (q : Point) → tally q (spots p.nodes) ≤ 1
    at_most_once q =
        let all : times q (map (λ s. s.point) (spots p.nodes) ++ eq_point ∷ []) ≤ 1 = source_once p bare q in
        let both = times-append q (map (λ s. s.point) (spots p.nodes)) (eq_point ∷ []) in
        let same = spot_times q (spots p.nodes) in
        omega (arith, all, both, same)

    once : (q : Point) → q.kind ≢ Eq → times q (labels (cps_of (lambda_of ts p)).code) ≤ 1
    once q h =
        let same = counted q h (cps_of (lambda_of ts p)).code in let few = most q in let one_place = at_most_once q in omega (arith, same, few, one_place)

    functions : (l : Layout) → IsAmong l (layouts (cps_of (lambda_of ts p)).code) → l.point.kind ≢ Eq
    functions l m e =
        let here = found l (cps_of (lambda_of ts p)).code m in
        let few = most l.point in
        let none = no_spot l.point e (spots p.nodes) (kinds (spots p.nodes) (spots_fit p.nodes bare.numbered)) in
        absurd (omega (arith, here, few, none))

    stand : (l : Layout) → IsAmong l (layouts (cps_of (lambda_of ts p)).code) → is_some (find_site (sites p) l.point) ≡ true
    stand l m =
        let here = found l (cps_of (lambda_of ts p)).code m in let few = most l.point in stands l.point (omega (arith, here, few))

    is_whole : IsWhole (cps_of (lambda_of ts p)).code
    is_whole = record {
      closed = conversion_is_closed (lambda_of ts p) (is_program ts p bare) (own_by_16 (terms_of ts p) (sites p));
      once = (conversion_binds_once (lambda_of ts p) (is_program ts p bare) (needs (terms_of ts p)) (own_by_16 (terms_of ts p) (sites p)) decision).once;
      points = once;
      functions = functions;
    }

pub converted_points_stand_once : ConvertedPointsStandOnce
converted_points_stand_once ts p bare = record { once = once p bare ts; functions = functions p bare ts; stand = stand p bare ts }

pub converted_is_whole : ConvertedIsWhole
converted_is_whole ts p bare = is_whole p bare ts

pub sites_of_a_tree_fit : SitesOfATreeFit
sites_of_a_tree_fit p bare = fit p bare
