-- Sequences and lists: their forests nest, and are closed behind.
use Rattle.std.proofs.Common.{◌≡◌, ℕ, zero, suc, ◌+◌, ◌≤◌, List, [], ◌∷◌, ◌++◌, refl, sym, ap, subst, ◌∙◌, arith}
use Rattle.std.proofs.lemmas.List.{append_assoc, append-nil}
use Rattle.smlc_base.specs.declared.place.Place.{Place}
use Rattle.sml_tree.specs.declared.bare.Node.TheVariants as bare
use Rattle.sml_expansion.specs.declared.walk.Walk.{Walk}
use Rattle.sml_expansion.specs.declared.mark.Mark.{Mark}
use Rattle.sml_expansion.specs.declared.mark.Mark.TheVariants.{Open, Close}
use Rattle.sml_expansion.specs.declared.scope.Bindings.{Bindings}
use Rattle.sml_expansion.specs.Terms.{Term}
use Rattle.sml_expansion.specs.Sources.{Source, IsAt}
use Rattle.sml_expansion.specs.Forests.{Forest, none, tree, grown, count, ◌&◌}
use Rattle.sml_expansion.specs.Labels.{numbers}
use Rattle.sml_expansion.specs.Bare.{fields, sequence_node, list_node, wild_node, con_node, con_nil, con_cons}
use Rattle.sml_expansion.specs.Marks.{marks}
use Rattle.sml_expansion.specs.Makings.{Makes, gives, ◌>>=◌}
use Rattle.sml_expansion.specs.declared.made.Made.{Made}
use Rattle.sml_expansion.specs.Expressions.{both}
use Rattle.sml_expansion.proofs.MarkLemmas.{marks_beside}
use Rattle.sml_derive.specs.Forms.{sequence_of, list_of, times, case_end, cons_begins, cons_end}
use Rattle.sml_derive.specs.Steps.{marked, behind, Writes}
use Rattle.sml_derive.proofs.Counting.{count_beside}
use Rattle.sml_derive.proofs.Times.{twice}
use Rattle.sml_derive.proofs.Schemas.{Is, same, is, marks_same, gathered, gathered_two}

pub list_single : (p : Place) (y : Forest) → 1 ≡ count (list_node p y)
list_single p none = refl
list_single p (tree n q parts rest) = refl

pub sequence_single : (p : Place) (y : Forest) → 1 ≤ count y → 1 ≡ count (sequence_node p y)
sequence_single p none h = absurd (omega (arith, h))
sequence_single p (tree n q parts none) h = refl
sequence_single p (tree n q parts (tree m r ps rest)) h = refl

-- one tree before the others
pub sequence_cons : (p : Place) (x y : Forest) → 1 ≡ count x → 1 ≤ count y → marks (sequence_node p (x & y)) ≡ (Open ∷ []) ++ (marks x ++ (marks (wild_node p) ++ (marks (sequence_node p y) ++ case_end p)))
sequence_cons p none y e h = absurd (omega (arith, e))
sequence_cons p (tree n q parts none) none e h = absurd (omega (arith, h))
sequence_cons p (tree n q parts none) (tree m r ps rest) e h = simp (marks_beside, append_assoc)
sequence_cons p (tree n q parts (tree m r ps rest)) y e h = absurd (omega (arith, e))

pub sequence_one : (p : Place) (x : Forest) → 1 ≡ count x → sequence_node p x ≡ x
sequence_one p none e = refl
sequence_one p (tree n q parts none) e = refl
sequence_one p (tree n q parts (tree m r ps rest)) e = absurd (omega (arith, e))

abbrev consed : Place → ℕ → Forest → Forest
consed p k f = grown (bare.App 0 0) p (con_node p con_cons & grown (bare.Record (fields (numbers 0 k))) p f)

pub list_cons : (p : Place) (x y : Forest) → 1 ≡ count x → marks (list_node p (x & y)) ≡ cons_begins p ++ (marks x ++ ([] ++ (marks (list_node p y) ++ cons_end p)))
list_cons p none y e = absurd (omega (arith, e))
list_cons p (tree n q parts none) y e = ap (λ k. marks (consed p (suc k) (tree n q parts (list_node p y)))) (sym (list_single p y)) ∙ simp (marks_beside, append_assoc)
list_cons p (tree n q parts (tree m r ps rest)) y e = absurd (omega (arith, e))

pub list_one : (p : Place) (x : Forest) → 1 ≡ count x → marks (list_node p x) ≡ cons_begins p ++ (marks x ++ (marks (con_node p con_nil) ++ cons_end p))
list_one p none e = absurd (omega (arith, e))
list_one p (tree n q parts none) e = simp (marks_beside, append_assoc)
list_one p (tree n q parts (tree m r ps rest)) e = absurd (omega (arith, e))

abbrev pub nested : (Forest → Forest) → Makes Forest → Makes Forest
nested H f = ◌>>=◌ f (λ x. gives (H x))

-- What is left of a list whose forest nests: once it is written, and what is open around it is closed, it is what all of it was.
pub record LeftNest (s : Source) (H : Forest → Forest) (ends : List Mark) (F : Bindings → Term → Makes Forest) (t : Term) (before now : Walk) (at n : ℕ) : Type 0 where
  pub term : Term
  pub stands : IsAt s at term
  pub some : 1 ≤ count (F now.bindings term now.made).0 → 1 ≤ count (F before.bindings t before.made).0
  pub goes : (w : Walk) → 1 ≤ count (F now.bindings term now.made).0 → w ≡ behind (nested H (F now.bindings term)) now → marked (times n ends) w ≡ behind (nested H (F before.bindings t)) before

pub begun_nest : (s : Source) (H : Forest → Forest) (ends : List Mark) (F : Bindings → Term → Makes Forest) (t : Term) (w : Walk) (at : ℕ) → IsAt s at t → LeftNest s H ends F t w w at 0
begun_nest s H ends F t w at k = record { term = t; stands = k; some = λ h. h; goes = λ v h e. marks_same v _ _ (append-nil v.marks) ∙ e }

-- one item less, with what is written before it and behind it
pub nest_less : (s : Source) (H : Forest → Forest) (begins between ends : List Mark) (F : Bindings → Term → Makes Forest) (t a b : Term) (before now w1 w2 next : Walk) (at rest n m : ℕ) (l : LeftNest s H ends F t before now at n) → IsAt s rest b
    → F now.bindings l.term ≡ both (F now.bindings a) (F now.bindings b) → Writes (F w1.bindings a) w1 w2 1 → m ≡ n + 1
    → ((x y : Forest) → 1 ≡ count x → 1 ≤ count y → marks (H (x & y)) ≡ begins ++ (marks x ++ (between ++ (marks (H y) ++ ends))))
    → Is (marked begins now) w1 → Is (marked between w2) next → LeftNest s H ends F t before next rest m
nest_less s H begins between ends F t a b before now w1 w2 next at rest n m l k split one sum spells begin middle = step w1 w2 next begin (is one.walk) one.written middle
  where
    x : Forest × Made
    x = F now.bindings a now.made

    y : Forest × Made
    y = F now.bindings b x.1

    step : (w1 w2 next : Walk) → Is (marked begins now) w1 → Is (behind (F w1.bindings a) w1) w2 → 1 ≡ count (F w1.bindings a w1.made).0 → Is (marked between w2) next → LeftNest s H ends F t before next rest m
    step _ _ _ same same o same = record {
      term = b;
      stands = k;
      some = λ h. l.some (more h);
      goes = λ w h e.
          let f : marked ends w ≡ behind (nested H (F now.bindings l.term)) now =
          ap (marked ends) e
          ∙ marks_same (record now { made = y.1 }) _ _ (gathered_two now.marks begins (marks x.0) between (marks (H y.0)) ends ∙ ap (λ (z : List Mark). now.marks ++ z) (sym (spells x.0 y.0 o h)))
          ∙ ap (λ (g : Makes Forest). behind (nested H g) now) (sym split) in
          let j : m ≡ suc n = omega (arith, sum) in
          ap (λ (i : ℕ). marked (times i ends) w) j ∙ sym (twice w ends (times n ends)) ∙ l.goes (marked ends w) (more h) f;
    }
      where
        more : 1 ≤ count y.0 → 1 ≤ count (F now.bindings l.term now.made).0
        more h =
            let c : count (x.0 & y.0) ≡ count x.0 + count y.0 = count_beside x.0 y.0 in
            let d : 1 ≤ count (x.0 & y.0) = omega (arith, c, h) in
            subst (λ (g : Makes Forest). 1 ≤ count (g now.made).0) (sym split) d

pub sequence_done : (s : Source) (p : Place) (F : Bindings → Term → Makes Forest) (t : Term) (before now w v : Walk) (at n : ℕ) (l : LeftNest s (sequence_node p) (case_end p) F t before now at n)
    → Writes (F now.bindings l.term) now w 1 → v ≡ marked (times n (case_end p)) w → Writes (nested (sequence_node p) (F before.bindings t)) before v 1
sequence_done s p F t before now w v at n l h e =
    let x = F now.bindings l.term now.made in
    let o : 1 ≡ count x.0 = h.written in
    let k : 1 ≤ count x.0 = omega (arith, o) in
    record {
      walk = e ∙ l.goes w k (h.walk ∙ marks_same (record now { made = x.1 }) _ _ (ap (λ (f : Forest). now.marks ++ marks f) (sym (sequence_one p x.0 o))));
      written = sequence_single p (F before.bindings t before.made).0 (l.some k);
    }

pub list_done : (s : Source) (p : Place) (F : Bindings → Term → Makes Forest) (t : Term) (before now w1 w2 w3 v : Walk) (at n : ℕ) (l : LeftNest s (list_node p) (cons_end p) F t before now at n)
    → Is (marked (cons_begins p) now) w1 → Writes (F w1.bindings l.term) w1 w2 1 → Is (marked (marks (con_node p con_nil) ++ cons_end p) w2) w3 → v ≡ marked (times n (cons_end p)) w3 → Writes (nested (list_node p) (F before.bindings t)) before v 1
list_done s p F t before now w1 w2 w3 v at n l begin h close e = step w1 w2 w3 begin (is h.walk) h.written close e
  where
    x : Forest × Made
    x = F now.bindings l.term now.made

    step : (w1 w2 w3 : Walk) → Is (marked (cons_begins p) now) w1 → Is (behind (F w1.bindings l.term) w1) w2 → 1 ≡ count (F w1.bindings l.term w1.made).0 → Is (marked (marks (con_node p con_nil) ++ cons_end p) w2) w3 → v ≡ marked (times n (cons_end p)) w3 → Writes (nested (list_node p) (F before.bindings t)) before v 1
    step _ _ w3 same same o same g =
        let k : 1 ≤ count x.0 = omega (arith, o) in
        record {
          walk = g ∙ l.goes w3 k (marks_same (record now { made = x.1 }) _ _ (gathered now.marks (cons_begins p) (marks x.0) (marks (con_node p con_nil) ++ cons_end p) ∙ ap (λ (z : List Mark). now.marks ++ z) (sym (list_one p x.0 o))));
          written = list_single p (F before.bindings t before.made).0;
        }
