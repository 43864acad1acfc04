-- What a run has made is never less afterwards.
use Rattle.std.proofs.Common.{◌≡◌, ℕ, suc, ◌≤◌, List, [], ◌∷◌, refl, sym, ap, subst, ◌∙◌, arith}
use Rattle.simulation.specs.Blocks.{Block, Kind, Grows}
use Rattle.simulation.specs.Words.{weight}
use Rattle.sml_def.specs.Run.{run}
use Rattle.sml_def.specs.Sites.{sites}
use Rattle.sml_def.specs.Made.{made_in, made_words}
use Rattle.sml_def.specs.Laws.{MadeOnlyGrows}
use Rattle.sml_def.proofs.Sums.{sum_weight}
use Rattle.sml_def.proofs.Grows.{runs_only_grow}

-- a weight that goes by kind and words alone is at most that of a memory that has grown
grown_weight : (f : Kind → ℕ → ℕ) (old new : List Block) → Grows old new → weight (λ b. f b.kind b.words) old ≤ weight (λ b. f b.kind b.words) new
grown_weight f [] new h = omega arith
grown_weight f (x ∷ old) [] h = let k = (h 0 x refl).1 in absurd cc
grown_weight f (x ∷ old) (y ∷ new) h =
    let k = h 0 x refl in
    let same : k.0 ≡ y = let e = k.1 in cc in
    let kinds : y.kind ≡ x.kind = ap (λ (b : Block). b.kind) (sym same) ∙ k.2 in
    let words : y.words ≡ x.words = ap (λ (b : Block). b.words) (sym same) ∙ k.3 in
    let equal : f y.kind y.words ≡ f x.kind x.words = cc in
    let rest = grown_weight f old new (λ a z e. h (suc a) z e) in
    omega (arith, equal, rest)

pub made_only_grows : MadeOnlyGrows
made_only_grows p labels input m n le =
    let f : Kind → ℕ → ℕ = made_words labels (sites p) in
    let old = (run p input).memory m in
    let new = (run p input).memory n in
    subst (λ (k : ℕ). k ≤ made_in labels (sites p) new) (sym (sum_weight (λ b. f b.kind b.words) old)) (subst (λ (k : ℕ). weight (λ b. f b.kind b.words) old ≤ k) (sym (sum_weight (λ b. f b.kind b.words) new)) (grown_weight f old new (runs_only_grow p input m n le).memory))
