-- Scopes that are entered one after another.
use Rattle.std.proofs.Common.{◌≡◌, ℕ, List, [], ◌∷◌, ◌++◌, Some, refl, sym}
use Rattle.convert_scopes.specs.declared.scopes.Bound.{Bound}
use Rattle.convert_scopes.specs.Scopes.{bound_of, IsNext, Chain}

pub chain_down : (bounds : List Bound) (scope : ℕ) (es : List ℕ) (to : ℕ) (b : Bound) → bound_of bounds to ≡ Some b → Chain bounds scope es to → Chain bounds scope (es ++ to ∷ []) b.inside
chain_down bounds scope [] to b e h = (sym h, (b, e, refl))
chain_down bounds scope (x ∷ es) to b e h = (h.0, (h.1.0, h.1.1, chain_down bounds h.1.0.inside es to b e h.1.2))

pub chain_up : (bounds : List Bound) (scope : ℕ) (es : List ℕ) (last to : ℕ) → Chain bounds scope (es ++ last ∷ []) to → Chain bounds scope es last × IsNext bounds to last
chain_up bounds scope [] last to h = (sym h.0, record { bound = h.1.0; is = h.1.1; on = h.1.2 })
chain_up bounds scope (x ∷ es) last to h =
    let up = chain_up bounds h.1.0.inside es last to h.1.2 in ((h.0, (h.1.0, h.1.1, up.0)), up.1)
