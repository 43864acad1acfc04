use Rattle.std.proofs.Common.{◌≡◌, ◌++◌, [], ◌∷◌, drop, map, sym, ap, ◌∙◌, append-nil, arith}
use Rattle.std.proofs.Math.ListN.{drop_of_length-le}
use Rattle.sml_tree.specs.Points.{spots}
use Rattle.sml_def.proofs.Few.{spot_fits}
use Rattle.sml_def.specs.Sites.{site_of}
use Rattle.sml_def.proofs.sites.points.Goals as goal

pub site-requires : goal.site-requires
site-requires c =
    spot_fits c.args.bare.now c.requires c.deref-spot-items.result.now c.loop-spot.spot-index _ (c.deref-spot-items.ensures.value ∙ c.in_ok-points_of.ensures ∙ ap spots c.items.ensures) c.loop-spot-test.true

pub returns : goal.returns
returns c =
    let places = c.items-places.result.now in
    let done : drop c.loop-spot.spot-index c.deref-spot-items.result.now ≡ [] = drop_of_length-le c.deref-spot-items.result.now (omega (arith, c.loop-spot-test.false)) in
    let all : c.loop-spot.found ≡ map (site_of places) c.deref-spot-items.result.now = sym (append-nil c.loop-spot.found) ∙ ap (λ xs. c.loop-spot.found ++ map (site_of places) xs) (sym done) ∙ c.loop-spot.invariant in
    c.in_ok-push-2.ensures.ok
    ∙ ap (λ xs. xs ++ c.comparison.result ∷ []) all
    ∙ ap (λ xs. map (site_of places) xs ++ c.comparison.result ∷ []) (c.deref-spot-items.ensures.value ∙ c.in_ok-points_of.ensures)
    ∙ ap (λ ns. map (site_of places) (spots ns) ++ c.comparison.result ∷ []) c.items.ensures
    ∙ ap (λ ps. map (site_of ps) (spots c.args.bare.now.nodes) ++ c.comparison.result ∷ []) c.items-places.ensures
    ∙ ap (λ s. map (site_of c.args.bare.now.places) (spots c.args.bare.now.nodes) ++ s ∷ []) c.comparison.ensures
