use Rattle.std.proofs.Common.{Option, sym, ap, subst}
use Rattle.sml_types.specs.Poly.{Poly}
use Rattle.infer_state.specs.Fits.{settled_poly}
use Rattle.infer_closing.specs.Open.{IsLeftBy}
use Rattle.infer_closing.specs.Left.{Gets}
use Rattle.infer_closing.proofs.left.add_name.Goals as goal

pub add_scheme-requires : goal.add_scheme-requires
add_scheme-requires c = (c.requires.there c.args.name c.in-Some.found.now c.in-Some.ensures.some).there

pub returns-in_ok-add_scheme-in-Some : goal.returns-in_ok-add_scheme-in-Some
returns-in_ok-add_scheme-in-Some c d q =
    subst
    (λ (s : Option Poly). Gets (λ w. IsLeftBy c.args.bare.now d w c.args.name s) c.args.left.now c.add_scheme.new.left)
    (sym (ap (settled_poly c.args.types.now) c.in-Some.ensures.some))
    c.in_ok-add_scheme-in-Some.ensures

pub returns-in_ok-add_own-in-None : goal.returns-in_ok-add_own-in-None
returns-in_ok-add_own-in-None c d q =
    subst
    (λ (s : Option Poly). Gets (λ w. IsLeftBy c.args.bare.now d w c.args.name s) c.args.left.now c.add_own.new.left)
    (sym (ap (settled_poly c.args.types.now) (c.settled_as.ensures.none c.in-None.is)))
    (c.in_ok-add_own-in-None.ensures d q)
