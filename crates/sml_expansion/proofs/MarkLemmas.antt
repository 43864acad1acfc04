-- Marks of trees, and what they are linked to.
use Rattle.std.proofs.Common.{◌≡◌, ◌<◌, ℕ, suc, ◌+◌, List, [], ◌∷◌, ◌++◌, get_or, drop, length, refl, sym, ap, ◌∙◌, add-one, arith}
use Rattle.std.proofs.lemmas.List.{append_assoc, append-nil}
use Rattle.std.proofs.Math.Seq.{drop-cons}
use Rattle.smlc_base.specs.declared.place.Place.{Place}
use Rattle.sml_tree.specs.declared.bare.Node.{Node}
use Rattle.sml_expansion.specs.declared.mark.Mark.{Mark}
use Rattle.sml_expansion.specs.declared.mark.Mark.TheVariants.{Open, Close}
use Rattle.sml_expansion.specs.Forests.{Forest, none, tree, size, roots, numbered, places, with_parts, ◌&◌}
use Rattle.sml_expansion.specs.Marks.{marks}
use Rattle.sml_expansion.specs.Linking.{opened, Waiting, Links, nothing_linked, closed, opened_at, linked}

pub marks_beside : (f g : Forest) → marks (f & g) ≡ marks f ++ marks g
marks_beside none g = refl
marks_beside (tree n p parts rest) g =
    ap (λ l. Open ∷ (marks parts ++ Close n p ∷ l)) (marks_beside rest g)
    ∙ ap (λ l. Open ∷ l) (sym (append_assoc (marks parts) (Close n p ∷ marks rest) (marks g)))

-- trees on the left of what is linked
abbrev beside : ℕ → Forest → Links → Links
beside i f r = record { waiting = r.waiting; roots = roots i f ++ r.roots; nodes = numbered i f ++ r.nodes; places = places f ++ r.places }

abbrev links : List Waiting → List ℕ → List Node → List Place → Links
links a b c d = record { waiting = a; roots = b; nodes = c; places = d }

all_equal : {w : List Waiting} {a b : List ℕ} {c d : List Node} {e f : List Place} → a ≡ b → c ≡ d → e ≡ f → links w a c e ≡ links w b d f
all_equal h k l = cc

-- a node before its parts, with the trees behind it
grown_beside : (i j : ℕ) (n : Node) (p : Place) (parts rest : Forest) (r : Links) → j ≡ suc (i + size parts) → opened_at i (beside (suc i) parts (closed n p (beside j rest r))) ≡ beside i (tree n p parts rest) r
grown_beside i j n p parts rest r e =
    ap (λ k. opened_at i (beside (suc i) parts (closed n p (beside k rest r)))) e
    ∙ all_equal refl
    (ap (λ l. with_parts n l ∷ (numbered (suc i) parts ++ (numbered (suc (i + size parts)) rest ++ r.nodes))) (append-nil (roots (suc i) parts))
    ∙ ap (λ l. with_parts n (roots (suc i) parts) ∷ l) (sym (append_assoc (numbered (suc i) parts) (numbered (suc (i + size parts)) rest) r.nodes)))
    (ap (λ l. p ∷ l) (sym (append_assoc (places parts) (places rest) r.places)))

linked_marks : (i : ℕ) (f : Forest) (ms : List Mark) (r : Links) → linked i (marks f ++ ms) r ≡ beside i f (linked (i + size f) ms r)
linked_marks i none ms r = let e : i ≡ i + 0 = omega arith in ap (λ k. linked k ms r) e
linked_marks i (tree n p parts rest) ms r =
    let all : suc i + size parts + size rest ≡ i + suc (size parts + size rest) = omega arith in
    let here : suc i + size parts ≡ suc (i + size parts) = omega arith in
    ap (λ l. opened_at i (linked (suc i) l r)) (append_assoc (marks parts) (Close n p ∷ marks rest) ms)
    ∙ ap (opened_at i)
    (linked_marks (suc i) parts (Close n p ∷ (marks rest ++ ms)) r
    ∙ ap (λ l. beside (suc i) parts (closed n p l)) (linked_marks (suc i + size parts) rest ms r ∙ ap (λ k. beside (suc i + size parts) rest (linked k ms r)) all))
    ∙ grown_beside i (suc i + size parts) n p parts rest (linked (i + suc (size parts + size rest)) ms r) here

-- what the marks of trees are linked to
pub linked_forest : (f : Forest) → linked 0 (marks f) nothing_linked ≡ links [] (roots 0 f) (numbered 0 f) (places f)
linked_forest f =
    ap (λ l. linked 0 l nothing_linked) (sym (append-nil (marks f)))
    ∙ linked_marks 0 f [] nothing_linked
    ∙ all_equal (append-nil (roots 0 f)) (append-nil (numbered 0 f)) (append-nil (places f))

-- one more mark on the right
abbrev pub linked_one : ℕ → Mark → Links → Links
linked_one i Open r = opened_at i r
linked_one i (Close n p) r = closed n p r

linked_behind : (i : ℕ) (ms : List Mark) (m : Mark) (r : Links) → linked i (ms ++ m ∷ []) r ≡ linked i ms (linked_one (i + opened ms) m r)
linked_behind i [] Open r = let e : i ≡ i + 0 = omega arith in ap (λ k. opened_at k r) e
linked_behind i [] (Close n p) r = refl
linked_behind i (Open ∷ ms) m r =
    let e : suc i + opened ms ≡ i + suc (opened ms) = omega arith in
    ap (opened_at i) (linked_behind (suc i) ms m r ∙ ap (λ k. linked (suc i) ms (linked_one k m r)) e)
linked_behind i (Close n p ∷ ms) m r = ap (closed n p) (linked_behind i ms m r)

pub opened_behind : (ms : List Mark) → opened (ms ++ Open ∷ []) ≡ suc (opened ms)
opened_behind [] = refl
opened_behind (Open ∷ ms) = ap suc (opened_behind ms)
opened_behind (Close n p ∷ ms) = opened_behind ms

pub closed_behind : (ms : List Mark) (n : Node) (p : Place) → opened (ms ++ Close n p ∷ []) ≡ opened ms
closed_behind [] n p = refl
closed_behind (Open ∷ ms) n p = ap suc (closed_behind ms n p)
closed_behind (Close m q ∷ ms) n p = closed_behind ms n p

-- the last mark is linked
pub linked_on : (all ms : List Mark) (m : Mark) (r now whole : Links) → all ≡ ms ++ m ∷ [] → now ≡ linked_one (opened ms) m r → linked 0 all r ≡ whole → linked 0 ms now ≡ whole
linked_on all ms m r now whole cut e h =
    let z : opened ms ≡ 0 + opened ms = omega arith in
    ap (linked 0 ms) (e ∙ ap (λ k. linked_one k m r) z) ∙ sym (linked_behind 0 ms m r) ∙ ap (λ l. linked 0 l r) (sym cut) ∙ h

-- marks are counted
pub counted_open : (ms : List Mark) (i n : ℕ) (d : Mark) → i < length ms → get_or ms i d ≡ Open → n + opened (drop i ms) ≡ opened ms → n + 1 + opened (drop (i + 1) ms) ≡ opened ms
counted_open ms i n d h o e =
    let here : opened (drop i ms) ≡ suc (opened (drop (suc i) ms)) = ap opened (drop-cons ms i d h) ∙ ap (λ m. opened (m ∷ drop (suc i) ms)) o in
    let next : opened (drop (i + 1) ms) ≡ opened (drop (suc i) ms) = ap (λ k. opened (drop k ms)) (add-one i) in
    omega (arith, here, next, e)

pub counted_close : (ms : List Mark) (i n : ℕ) (d : Mark) (o : Node) (p : Place) → i < length ms → get_or ms i d ≡ Close o p → n + opened (drop i ms) ≡ opened ms → n + opened (drop (i + 1) ms) ≡ opened ms
counted_close ms i n d o p h w e =
    let here : opened (drop i ms) ≡ opened (drop (suc i) ms) = ap opened (drop-cons ms i d h) ∙ ap (λ m. opened (m ∷ drop (suc i) ms)) w in
    let next : opened (drop (i + 1) ms) ≡ opened (drop (suc i) ms) = ap (λ k. opened (drop k ms)) (add-one i) in
    omega (arith, here, next, e)
