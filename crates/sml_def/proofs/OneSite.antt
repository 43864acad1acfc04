-- A point has one site, so each frame names the frame that its site has around it.
use Rattle.std.proofs.Common.{◌≡◌, ℕ, suc, ◌≤◌, Bool, true, false, cond, List, [], ◌∷◌, ◌++◌, map, Option, Some, refl, sym, ap, ◌∙◌, subst, inl, inr, arith}
use Rattle.smlc_base.specs.declared.point.Point.{Point}
use Rattle.smlc_base.specs.declared.point.Site.{Site}
use Rattle.smlc_base.specs.declared.place.Place.{Place}
use Rattle.sml_tree.specs.declared.bare.Bare.{Bare}
use Rattle.sml_tree.specs.declared.points.Spot.{Spot}
use Rattle.sml_tree.specs.IsBare.{IsBare}
use Rattle.sml_tree.specs.Order.{AscendFrom, rank}
use Rattle.sml_tree.specs.Points.{spots}
use Rattle.simulation.specs.Blocks.{IsAmong, points_of}
use Rattle.smlc_base.specs.Points.{is_point}
use Rattle.smlc_base.specs.SiteWords.{find_site}
use Rattle.simulation.proofs.Nth.{point_eq, point_is_one}
use Rattle.sml_def.specs.Run.{run, eq_point}
use Rattle.sml_def.specs.Sites.{site_of, sites, eq_site}
use Rattle.sml_def.specs.Laws.{HasSiteOf}
use Rattle.sml_def.specs.Frames.{FramesNest}
use Rattle.sml_def.proofs.Ascends.{points_ascend}
use Rattle.sml_def.proofs.Nests.{SiteOf, NamesOuter, has_outer}

among_rank : (n : ℕ) (ss : List Site) (s : Site) → AscendFrom n (map (λ s. s.point) ss) → IsAmong s ss → n ≤ rank s.point
among_rank n [] s h g = absurd g
among_rank n (x ∷ ss) s h (inl e) = subst (λ y. n ≤ rank y.point) (sym e) h.0
among_rank n (x ∷ ss) s h (inr g) = let up : suc (rank x.point) ≤ rank s.point = among_rank (suc (rank x.point)) ss s h.1 g in let low : n ≤ rank x.point = h.0 in omega arith

pub not_point : (q r : Point) → (q ≡ r → ⊥) → is_point q r ≡ false
not_point q r h = go (is_point q r) refl
  where
    go : (b : Bool) → is_point q r ≡ b → is_point q r ≡ false
    go true e = absurd (h (point_eq q r e))
    go false e = e

one_found : (n : ℕ) (ss : List Site) (s : Site) → AscendFrom n (map (λ s. s.point) ss) → IsAmong s ss → find_site ss s.point ≡ Some s
one_found n [] s h g = absurd g
one_found n (x ∷ ss) s h (inl e) =
    subst (λ y. find_site (x ∷ ss) y.point ≡ Some y) (sym e) (ap (λ b. cond b (Some x) (find_site ss x.point)) (point_is_one x.point))
one_found n (x ∷ ss) s h (inr g) =
    let up : suc (rank x.point) ≤ rank s.point = among_rank (suc (rank x.point)) ss s h.1 g in
    let other : is_point x.point s.point ≡ false = not_point x.point s.point (λ e. let same : rank x.point ≡ rank s.point = ap rank e in omega arith) in
    ap (λ b. cond b (Some x) (find_site ss s.point)) other ∙ one_found (suc (rank x.point)) ss s h.1 g

points_of_sites : (places : List Place) (ss : List Spot) → map (λ s. s.point) (map (site_of places) ss ++ eq_site ∷ []) ≡ map (λ s. s.point) ss ++ eq_point ∷ []
points_of_sites places [] = refl
points_of_sites places (s ∷ ss) = ap (λ qs. s.point ∷ qs) (points_of_sites places ss)

found_site : (p : Bare) → IsBare p → (s : Site) (q : Point) → IsAmong s (sites p) → s.point ≡ q → find_site (sites p) q ≡ Some s
found_site p bare s q h e =
    subst (λ r. find_site (sites p) r ≡ Some s) e (one_found 0 (sites p) s (subst (AscendFrom 0) (sym (points_of_sites p.places (spots p.nodes))) (points_ascend p bare)) h)

-- the site of a point has these words and this frame around it
pub record IsSite (p : Bare) (q : Point) (words : ℕ) (outer : Option Point) : Type 0 where
  pub site : Site
  pub found : find_site (sites p) q ≡ Some site
  pub words_are : site.words ≡ words
  pub around_is : site.outer ≡ outer

pub is_site : (p : Bare) → IsBare p → (q : Point) (words : ℕ) (outer : Option Point) → HasSiteOf p q words → SiteOf p q outer → IsSite p q words outer
is_site p bare q words outer h g =
    let a = found_site p bare h.0 q h.1 h.2 in
    let b = found_site p bare g.0 q g.1 g.2 in
    let same : h.0 ≡ g.0 = let e : Some h.0 ≡ Some g.0 = sym a ∙ b in cc in
    record { site = h.0; found = a; words_are = h.3; around_is = ap (λ (s : Site). s.outer) same ∙ g.3 }

-- ---- The law

pub frames_nest : FramesNest
frames_nest p bare input n a x s q stands is among site outer =
    let in_frame : IsAmong s.point is.0 = subst (λ k. IsAmong s.point (points_of k)) is.1 site in
    let r = has_outer p bare input n a x is.0 s.point stands is.1 in_frame in
    let f = found_site p bare r.0 s.point r.1 r.2 in
    let g = found_site p bare s s.point among refl in
    let same : r.0 ≡ s = let e : Some r.0 ≡ Some s = sym f ∙ g in cc in
    subst (NamesOuter ((run p input).memory n) x) (ap (λ (t : Site). t.outer) same ∙ outer) r.3
