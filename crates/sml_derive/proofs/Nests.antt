-- Loops, sequences of two parts, and declarations before an expression.
use Rattle.std.proofs.Common.{◌≡◌, ℕ, zero, suc, ◌+◌, ◌≤◌, List, [], ◌∷◌, ◌++◌, length, refl, sym, ap, subst, ◌∙◌, arith}
use Rattle.std.specs.Prelude.{codes}
use Rattle.std.proofs.lemmas.List.{append_assoc, append-nil}
use Rattle.smlc_base.specs.declared.place.Place.{Place}
use Rattle.sml_tree.specs.declared.bare.Node.TheVariants as bare
use Rattle.sml_tree.specs.declared.tree_node.TreeNode.TheVariants as node
use Rattle.sml_expansion.specs.declared.walk.Walk.{Walk}
use Rattle.sml_expansion.specs.declared.made.Made.{Made}
use Rattle.sml_expansion.specs.declared.mark.Mark.{Mark}
use Rattle.sml_expansion.specs.declared.mark.Mark.TheVariants.{Open, Close}
use Rattle.sml_expansion.specs.declared.scope.Bindings.{Bindings}
use Rattle.sml_expansion.specs.Terms.{Term, two}
use Rattle.sml_expansion.specs.Sources.{Source}
use Rattle.sml_expansion.specs.Scopes.{scope_of, within}
use Rattle.sml_expansion.specs.Scoped.{oldest}
use Rattle.sml_expansion.specs.Forests.{Forest, none, tree, grown, count, ◌&◌}
use Rattle.sml_expansion.specs.Bare.{sequence_node, wild_node, while_node, nest}
use Rattle.sml_expansion.specs.Marks.{marks}
use Rattle.sml_expansion.specs.Makings.{Makes, gives, new_name, ◌>>=◌}
use Rattle.sml_expansion.specs.Expressions.{Position, elsewhere, expressions, decs, both}
use Rattle.sml_expansion.proofs.MarkLemmas.{marks_beside}
use Rattle.sml_expansion.proofs.ScopedLemmas.{oldest_behind}
use Rattle.sml_derive.specs.Forms.{sequence_of, times, case_end, let_end, while_begins, turn_begins, while_ends}
use Rattle.sml_derive.specs.Steps.{scope, made, marked, behind, leads, led, forgotten, Writes}
use Rattle.sml_derive.proofs.Times.{times_last}
use Rattle.sml_derive.proofs.FormLemmas.{bind_writes}
use Rattle.sml_derive.proofs.Sequences.{nested, sequence_cons, sequence_single}
use Rattle.sml_derive.proofs.Schemas.{Is, same, is, marks_same, gathered, gathered_two}

-- two parts, of which the second is one tree
pub first_and_one : (F G : Bindings → Makes Forest) (H : Forest → Forest → Forest) (ms ns os : List Mark) (w0 w1 w2 w3 w4 w5 : Walk)
    → ((x y : Forest) → 1 ≡ count y → marks (H x y) ≡ ms ++ (marks x ++ (ns ++ (marks y ++ os)))) → ((x y : Forest) → 1 ≡ count (H x y))
    → Is (marked ms w0) w1 → Is (behind (F w1.bindings) w1) w2 → Is (marked ns w2) w3 → Writes (G w3.bindings) w3 w4 1 → Is (marked os w4) w5
    → Writes (◌>>=◌ (F w0.bindings) (λ x. ◌>>=◌ (G w0.bindings) (λ y. gives (H x y)))) w0 w5 1
first_and_one F G H ms ns os w0 w1 w2 w3 w4 w5 spells single a b d h e = step w1 w2 w3 w4 w5 a b d (is h.walk) h.written e
  where
    step : (w1 w2 w3 w4 w5 : Walk) → Is (marked ms w0) w1 → Is (behind (F w1.bindings) w1) w2 → Is (marked ns w2) w3 → Is (behind (G w3.bindings) w3) w4 → 1 ≡ count (G w3.bindings w3.made).0 → Is (marked os w4) w5
        → Writes (◌>>=◌ (F w0.bindings) (λ x. ◌>>=◌ (G w0.bindings) (λ y. gives (H x y)))) w0 w5 1
    step _ _ _ _ _ same same same same o same =
        let f = F w0.bindings w0.made in
        let g = G w0.bindings f.1 in
        record {
          walk = marks_same (record w0 { made = g.1 }) _ _ (gathered_two w0.marks ms (marks f.0) ns (marks g.0) os ∙ ap (λ (l : List Mark). w0.marks ++ l) (sym (spells f.0 g.0 o)));
          written = single f.0 g.0;
        }

while_spells : (p : Place) (v : ℕ) (x y : Forest) → 1 ≡ count y → marks (while_node p v x y) ≡ while_begins p ++ (marks x ++ (turn_begins p ++ (marks y ++ while_ends p v)))
while_spells p v x none e = absurd (omega (arith, e))
while_spells p v x (tree n q parts none) e = simp (marks_beside, append_assoc)
while_spells p v x (tree n q parts (tree m r ps rest)) e = absurd (omega (arith, e))

pub while_writes : (s : Source) (h : Position) (p : Place) (a b : Term) (w0 : Walk) (v : ℕ) (m : Made) (w1 w2 w3 w4 w5 : Walk)
    → Is (new_name (codes "v") w0.made).0 v → Is (new_name (codes "v") w0.made).1 m
    → Is (marked (while_begins p) (record w0 { made = m })) w1 → Is (behind (expressions elsewhere (scope s w1) a) w1) w2 → Is (marked (turn_begins p) w2) w3
    → Writes (expressions elsewhere (scope s w3) b) w3 w4 1 → Is (marked (while_ends p v) w4) w5
    → Writes (expressions h (scope s w0) (two node.While p a b)) w0 w5 1
while_writes s h p a b w0 _ _ w1 w2 w3 w4 w5 same same begin c d one e =
    let v = (new_name (codes "v") w0.made).0 in
    bind_writes (new_name (codes "v")) (λ v. ◌>>=◌ (expressions elsewhere (scope s w0) a) (λ x. ◌>>=◌ (expressions elsewhere (scope s w0) b) (λ y. gives (while_node p v x y)))) w0 w5 1
    (first_and_one (λ d. expressions elsewhere (scope_of s.names d) a) (λ d. expressions elsewhere (scope_of s.names d) b) (while_node p v) (while_begins p) (turn_begins p) (while_ends p v) (made (new_name (codes "v")) w0) w1 w2 w3 w4 w5 (while_spells p v) (λ x y. refl) begin c d one e)

-- an expression before the others of a sequence
sequence_some : (p : Place) (y : Forest) → 1 ≡ count (sequence_node p y) → 1 ≤ count y
sequence_some p none e = absurd (omega (arith, e))
sequence_some p (tree n q parts rest) e = omega arith

pub sequence_pair : (A B : Bindings → Makes Forest) (p : Place) (w0 w1 w2 w3 w4 w5 : Walk)
    → Is (marked (Open ∷ []) w0) w1 → Writes (A w1.bindings) w1 w2 1 → Is (marked (marks (wild_node p)) w2) w3 → Writes (sequence_of p (B w3.bindings)) w3 w4 1 → Is (marked (case_end p) w4) w5
    → Writes (sequence_of p (both (A w0.bindings) (B w0.bindings))) w0 w5 1
sequence_pair A B p w0 w1 w2 w3 w4 w5 a g b h e = step w1 w2 w3 w4 w5 a (is g.walk) g.written b (is h.walk) h.written e
  where
    step : (w1 w2 w3 w4 w5 : Walk) → Is (marked (Open ∷ []) w0) w1 → Is (behind (A w1.bindings) w1) w2 → 1 ≡ count (A w1.bindings w1.made).0 → Is (marked (marks (wild_node p)) w2) w3
        → Is (behind (sequence_of p (B w3.bindings)) w3) w4 → 1 ≡ count (sequence_of p (B w3.bindings) w3.made).0 → Is (marked (case_end p) w4) w5 → Writes (sequence_of p (both (A w0.bindings) (B w0.bindings))) w0 w5 1
    step _ _ _ _ _ same same o same same k same =
        let x = A w0.bindings w0.made in
        let y = B w0.bindings x.1 in
        let l : 1 ≤ count y.0 = sequence_some p y.0 k in
        record {
          walk = marks_same (record w0 { made = y.1 }) _ _ (gathered_two w0.marks (Open ∷ []) (marks x.0) (marks (wild_node p)) (marks (sequence_node p y.0)) (case_end p) ∙ ap (λ (z : List Mark). w0.marks ++ z) (sym (sequence_cons p x.0 y.0 o l)));
          written = both_single x.0 y.0 l;
        }
      where
        both_single : (x y : Forest) → 1 ≤ count y → 1 ≡ count (sequence_node p (x & y))
        both_single none y l = sequence_single p y l
        both_single (tree n q parts rest) y l = sequence_single p (tree n q parts (rest & y)) (omega arith)

-- declarations before an expression
pub nest_spells : (p : Place) (f e : Forest) → marks (nest p f e) ≡ leads f ++ (marks e ++ times (count f) (let_end p))
nest_spells p none e = sym (append-nil (marks e))
nest_spells p (tree n q parts rest) e =
    let i : marks (nest p rest e) ≡ leads rest ++ (marks e ++ times (count rest) (let_end p)) = nest_spells p rest e in
    ap (λ (l : List Mark). Open ∷ ((Open ∷ (marks parts ++ Close n q ∷ l)) ++ let_end p)) i
    ∙ simp append_assoc (ap (λ (l : List Mark). Open ∷ Open ∷ (marks parts ++ Close n q ∷ (leads rest ++ (marks e ++ l)))) (times_last (count rest) (let_end p)))

nest_single : (p : Place) (f e : Forest) → 1 ≡ count e → 1 ≡ count (nest p f e)
nest_single p none e h = h
nest_single p (tree n q parts rest) e h = refl

pub let_writes : (s : Source) (h : Position) (p : Place) (d a : Term) (w0 : Walk) (i j n : ℕ) (w1 w2 w3 w4 : Walk)
    → length w0.bindings.values ≡ i → length w0.bindings.types ≡ j
    → Is (led (decs (scope s w0) d) w0) w1 → Is (count (decs (scope s w0) d w0.made).0.forest) n
    → Writes (sequence_of p (expressions elsewhere (scope s w1) a)) w1 w2 1 → Is (marked (times n (let_end p)) w2) w3 → Is (forgotten i j w3) w4
    → Writes (expressions h (scope s w0) (two node.Let p d a)) w0 w4 1
let_writes s h p d a w0 i j n w1 w2 w3 w4 vs ts k o g e z = step n w1 w2 w3 w4 k o (is g.walk) g.written e z
  where
    step : (n : ℕ) (w1 w2 w3 w4 : Walk) → Is (led (decs (scope s w0) d) w0) w1 → Is (count (decs (scope s w0) d w0.made).0.forest) n
        → Is (behind (sequence_of p (expressions elsewhere (scope s w1) a)) w1) w2 → 1 ≡ count (sequence_of p (expressions elsewhere (scope s w1) a) w1.made).0 → Is (marked (times n (let_end p)) w2) w3 → Is (forgotten i j w3) w4
        → Writes (expressions h (scope s w0) (two node.Let p d a)) w0 w4 1
    step _ _ _ _ _ same same same l same same =
        let x = decs (scope s w0) d w0.made in
        let y = expressions elsewhere (within (scope s w0) x.0.env) a x.1 in
        let e = sequence_node p y.0 in
        record {
          walk =
              ap (λ (b : Bindings). record { made = y.1; bindings = b; marks = ((w0.marks ++ leads x.0.forest) ++ marks e) ++ times (count x.0.forest) (let_end p) }) (back x.0.env.values x.0.env.types)
              ∙ marks_same (record w0 { made = y.1 }) _ _ (gathered w0.marks (leads x.0.forest) (marks e) (times (count x.0.forest) (let_end p)) ∙ ap (λ (l : List Mark). w0.marks ++ l) (sym (nest_spells p x.0.forest e)));
          written = nest_single p x.0.forest e l;
        }
      where
        back : (newer : _) (types : _) → record { values = oldest i (newer ++ w0.bindings.values); types = oldest j (types ++ w0.bindings.types); tyvars = w0.bindings.tyvars } ≡ w0.bindings
        back newer types = ap (λ v. record { values = v; types = oldest j (types ++ w0.bindings.types); tyvars = w0.bindings.tyvars }) (oldest_behind i newer w0.bindings.values vs) ∙ ap (λ v. record w0.bindings { types = v }) (oldest_behind j types w0.bindings.types ts)
