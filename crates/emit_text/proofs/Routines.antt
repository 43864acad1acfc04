-- The routines, with the places of their labels.
use Rattle.std.proofs.Common.{◌≡◌, ℕ, suc, ◌+◌, ◌<◌, List, [], ◌∷◌, ◌++◌, Option, Some, None, length, map, refl, sym, ap, ◌∙◌, arith, length-append}
use Rattle.std.specs.Prelude.{slice_set, replicate}
use Rattle.std.proofs.lemmas.List.{append_assoc, append-nil, map-append, length-map, length-replicate}
use Rattle.std.proofs.lemmas.List.Sums.{sum_by-append}
use Rattle.rv_asm.specs.declared.item.Item.{Item}
use Rattle.rv_asm.specs.declared.item.Item.TheVariants.{Jump}
use Rattle.rv_asm.specs.Item.{size, words}
use Rattle.rv_asm.specs.Program.{Program, empty, with_item}
use Rattle.rt_prims.specs.declared.line.Routine.{Routine}
use Rattle.rt_prims.specs.Lines.{number, labels, item_of}
use Rattle.rt_prims.specs.Text.{lines_of, with_routine, with_routines, order, with_labels, items_of}
use Rattle.placed_ir.specs.Program.{Placed}
use Rattle.emit_text.specs.Labels.{start_label, routines_label}
use Rattle.emit_text.specs.Text.{starts, datum_count}
use Rattle.emit_text.specs.Begun.{begun}
use Rattle.emit_text.proofs.Bounds.{set_seam}

abbrev AreFrom : ℕ → List Routine → Type 0
AreFrom k [] = Unit {0}
AreFrom k (r ∷ rs) = (number r ≡ k) × AreFrom (suc k) rs

in_order : AreFrom 0 order
in_order = (refl, (refl, (refl, (refl, (refl, (refl, (refl, (refl, (refl, (refl, (refl, (refl, (refl, (refl, (refl, (refl, (refl, (refl, tt))))))))))))))))))

pub routines_put : (first : ℕ) (p : Program) (rs : List Routine) → (with_routines first p rs).items ≡ p.items ++ items_of first rs
routines_put first p [] = sym (append-nil p.items)
routines_put first p (r ∷ rs) = routines_put first (with_routine first p r) rs ∙ append_assoc p.items (map (item_of first) (lines_of r)) (items_of first rs)

abbrev no_place : Option ℕ
no_place = None

-- the routines before have their places, those from here on get them, and others are behind
pub routines_bound : (first k : ℕ) (rs : List Routine) (p : Program) (front : List (Option ℕ)) (done : List ℕ) (rest : List (Option ℕ)) → AreFrom k rs → length front ≡ first → length done ≡ k →
    p.places ≡ front ++ (map Some done ++ (replicate (length rs) no_place ++ rest)) →
    (with_routines first p rs).places ≡ front ++ (map Some (done ++ starts (words p.items) (map (λ r. words (map (item_of first) (lines_of r))) rs)) ++ rest)
routines_bound first k [] p front done rest a e f is = is ∙ ap (λ ws. front ++ (map Some ws ++ rest)) (sym (append-nil done))
routines_bound first k (r ∷ rs) p front done rest a e f is =
    let w = words p.items in
    let more : List Item = map (item_of first) (lines_of r) in
    let q : Program = with_routine first p r in
    let left : List (Option ℕ) = replicate (length rs) no_place ++ rest in
    let all : List (Option ℕ) = map Some done in
    let last : map Some (done ++ w ∷ []) ≡ all ++ Some w ∷ [] = map-append Some done (w ∷ []) in
    let long : length (front ++ all) ≡ first + k = omega (arith, length-append front all, length-map done Some, e, f) in
    let set : q.places ≡ front ++ (map Some (done ++ w ∷ []) ++ left) =
    ap (λ n. slice_set p.places (first + n) (Some w)) a.0
    ∙ ap (λ ws. slice_set ws (first + k) (Some w)) (is ∙ sym (append_assoc front all (None ∷ left)))
    ∙ set_seam (front ++ all) None left (first + k) (Some w) long
    ∙ append_assoc front all (Some w ∷ left)
    ∙ ap (λ ws. front ++ ws) (sym (append_assoc all (Some w ∷ []) left))
    ∙ ap (λ ws. front ++ (ws ++ left)) (sym last) in
    let next : words q.items ≡ w + words more = sum_by-append size p.items more in
    let sizes = map (λ r. words (map (item_of first) (lines_of r))) rs in
    routines_bound first (suc k) rs q front (done ++ w ∷ []) rest a.1 e (omega (arith, length-append done (w ∷ []), f)) set
    ∙ ap (λ n. front ++ (map Some ((done ++ w ∷ []) ++ starts n sizes) ++ rest)) next
    ∙ ap (λ ws. front ++ (map Some ws ++ rest)) (append_assoc done (w ∷ []) (starts (w + words more) sizes))

-- ---- A jump to the start in front

pub jump_made : (p : Placed) (q : Program) (n l : ℕ) → n ≡ routines_label p → l ≡ start_label p → q ≡ with_labels n empty → l < length q.places
jump_made p q n l e f is = omega (arith, e, f, ap (λ x. length x.places) is, length-replicate n no_place)

pub all_begun : (p : Placed) (made jumped put : Program) (n l : ℕ) → n ≡ routines_label p → l ≡ start_label p →
    made ≡ with_labels n empty → jumped ≡ with_item made (Jump l) → put ≡ with_routines (length jumped.places) (with_labels labels jumped) order → put ≡ begun p
all_begun p made jumped put n l e f is then last =
    let first = routines_label p in
    let start : Program = record { items = Jump (start_label p) ∷ []; places = replicate first no_place } in
    let same : jumped ≡ start = then ∙ ap (λ x. with_item x (Jump l)) (is ∙ ap (λ k. with_labels k empty) e) ∙ ap (λ k. record { items = Jump k ∷ []; places = replicate first no_place }) f in
    let count : length start.places ≡ first = length-replicate first no_place in
    let q : Program = with_labels labels start in
    let now : put ≡ with_routines first q order = last ∙ ap (λ x. with_routines (length x.places) (with_labels labels x) order) same ∙ ap (λ k. with_routines k q order) count in
    let items = routines_put first q order in
    let places = routines_bound first 0 order q (replicate first no_place) [] (replicate datum_count no_place) in_order count refl refl in
    now ∙ together (with_routines first q order) (begun p) items places
  where
    together : (a b : Program) → a.items ≡ b.items → a.places ≡ b.places → a ≡ b
    together a b e f = ap (λ x. record { items = x; places = a.places }) e ∙ ap (λ x. record { items = b.items; places = x }) f
