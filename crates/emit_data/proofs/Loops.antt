-- Blocks put one behind the other, and labels bound one behind the other.
use Rattle.std.proofs.Common.{◌≡◌, ℕ, suc, ◌+◌, ◌-◌, ◌≤◌, ◌<◌, List, [], ◌∷◌, ◌++◌, None, length, get_or, take, drop, map, sym, ap, ◌∙◌, arith, drop-cons}
use Rattle.std.specs.Prelude.{slice_get}
use Rattle.std.proofs.lemmas.List.{append_assoc, map-append, take_more}
use Rattle.smlc_base.specs.declared.exception.LibraryExn.{LibraryExn}
use Rattle.smlc_base.specs.Exceptions.{exn_text}
use Rattle.rv_asm.specs.Program.{Program, with_place_at, IsFree}
use Rattle.emit_text.specs.Bound.{bound_from}
use Rattle.emit_text.proofs.Bounds.{long_enough, length_front, bound_more, bound_behind}
use Rattle.emit_data.specs.Blocks.{code_words, name_block, code_block, names_from, closures_from}
use Rattle.emit_data.specs.Program.{with_places}

pub codes_more : {X : Type 0} (xs : List X) (i : ℕ) (d : X) (old now next : List ℕ) → i < length xs → now ≡ old ++ map (λ x. code_words) (take i xs) → next ≡ now ++ code_words ∷ [] → next ≡ old ++ map (λ x. code_words) (take (i + 1) xs)
codes_more xs i d old now next h e f =
    f ∙ ap (λ ys. ys ++ code_words ∷ []) e ∙ append_assoc old (map (λ x. code_words) (take i xs)) (code_words ∷ [])
    ∙ ap (λ ys. old ++ ys) (sym (map-append (λ x. code_words) (take i xs) (get_or xs i d ∷ [])))
    ∙ ap (λ ys. old ++ map (λ x. code_words) ys) (sym (take_more xs i d h))

pub names_more : (at : ℕ → ℕ) (label next i : ℕ) (exns : List LibraryExn) (d : LibraryExn) (now then all : List ℕ) → i < length exns → next ≡ label + 1 → then ≡ now ++ name_block (at label) (exn_text (get_or exns i d)) →
    now ++ names_from at label (drop i exns) ≡ all → then ++ names_from at next (drop (i + 1) exns) ≡ all
names_more at label next i exns d now then all h e f w =
    let block = name_block (at label) (exn_text (get_or exns i d)) in
    let next_one : i + 1 ≡ suc i = omega arith in
    let step : drop (i + 1) exns ≡ drop (suc i) exns = ap (λ n. drop n exns) next_one in
    ap (λ ys. ys ++ names_from at next (drop (i + 1) exns)) f
    ∙ append_assoc now block (names_from at next (drop (i + 1) exns))
    ∙ ap (λ n. now ++ (block ++ names_from at n (drop (i + 1) exns))) e
    ∙ ap (λ ys. now ++ (block ++ names_from at (label + 1) ys)) step
    ∙ ap (λ ys. now ++ names_from at label ys) (sym (drop-cons exns i d h))
    ∙ w

pub closures_more : (at : ℕ → ℕ) (count label : ℕ) (now then all : List ℕ) → label < count → then ≡ now ++ code_block label (at label) → now ++ closures_from at (count - label) label ≡ all → then ++ closures_from at (count - (label + 1)) (label + 1) ≡ all
closures_more at count label now then all h f w =
    let left : count - label ≡ suc (count - (label + 1)) = omega (arith, h) in
    ap (λ ys. ys ++ closures_from at (count - (label + 1)) (label + 1)) f
    ∙ append_assoc now (code_block label (at label)) (closures_from at (count - (label + 1)) (label + 1))
    ∙ ap (λ n. now ++ closures_from at n label) (sym left)
    ∙ w

-- ---- Labels

pub free_next : (p now : Program) (first i label : ℕ) (places : List ℕ) → i < length places → label ≡ first + i → ((j : ℕ) → j < length places → IsFree p (first + j)) → now ≡ with_places p first (take i places) → IsFree now label
free_next p now first i label places h e free is =
    let n = length_front places i (omega arith) in
    let there = long_enough p.places (first + i) None (free i h) in
    let far : first + length (take i places) ≤ length p.places = omega (arith, there, n) in
    bound_free e is n far (free i h)
  where
    bound_free : label ≡ first + i → now ≡ with_places p first (take i places) → length (take i places) ≡ i → first + length (take i places) ≤ length p.places → IsFree p (first + i) → IsFree now label
    bound_free e is n far f = ap (λ x. slice_get x.places label) is ∙ ap (slice_get (bound_from first (take i places) p.places)) e ∙ bound_behind first i (take i places) p.places (omega (arith, n)) far ∙ f

pub places_more : (p now next : Program) (first i label : ℕ) (places : List ℕ) (d : ℕ) → i < length places → label ≡ first + i → ((j : ℕ) → j < length places → IsFree p (first + j)) → now ≡ with_places p first (take i places) →
    next ≡ with_place_at now label (get_or places i d) → next ≡ with_places p first (take (i + 1) places)
places_more p now next first i label places d h e free is step =
    let n = length_front places i (omega arith) in
    let x = get_or places i d in
    let more = bound_more first i x (take i places) p.places None n (free i h) in
    step ∙ ap (λ q. with_place_at q label x) is ∙ ap (λ k. with_place_at (with_places p first (take i places)) k x) e
    ∙ ap (λ ws. record { items = p.items; places = ws }) (more ∙ ap (λ ys. bound_from first ys p.places) (sym (take_more places i d h)))
