-- A list of phrases, one behind the other: what is left of it.
use Rattle.std.proofs.Common.{◌≡◌, ℕ, suc, ◌+◌, List, [], ◌∷◌, ◌++◌, refl, sym, ap, subst, ◌∙◌, arith}
use Rattle.std.proofs.lemmas.List.{append_assoc}
use Rattle.sml_expansion.specs.declared.made.Made.{Made}
use Rattle.sml_expansion.specs.declared.walk.Walk.{Walk}
use Rattle.sml_expansion.specs.declared.scope.Bindings.{Bindings}
use Rattle.sml_expansion.specs.Forests.{Forest, count, ◌&◌}
use Rattle.sml_expansion.specs.Marks.{marks}
use Rattle.sml_expansion.specs.Makings.{Makes}
use Rattle.sml_expansion.specs.Terms.{Term}
use Rattle.sml_expansion.specs.Sources.{Source, IsAt}
use Rattle.sml_expansion.specs.Expressions.{both}
use Rattle.sml_expansion.proofs.MarkLemmas.{marks_beside}
use Rattle.sml_derive.specs.Steps.{marked, behind, Writes}
use Rattle.sml_derive.proofs.Counting.{count_beside}
use Rattle.sml_derive.proofs.Schemas.{Is, same, is, marks_same}

pub behind_both : (f : Makes Forest) (G : Bindings → Makes Forest) (w0 w1 w2 : Walk) → Is (behind f w0) w1 → Is (behind (G w1.bindings) w1) w2 → w2 ≡ behind (both f (G w0.bindings)) w0
behind_both f G w0 _ _ same same =
    let x = f w0.made in
    let y = G w0.bindings x.1 in
    marks_same (record w0 { made = y.1 }) _ _ (append_assoc w0.marks (marks x.0) (marks y.0) ∙ ap (λ l. w0.marks ++ l) (sym (marks_beside x.0 y.0)))

pub writes_both : (f : Makes Forest) (G : Bindings → Makes Forest) (w0 w1 w2 : Walk) (i j k : ℕ) → Writes f w0 w1 i → Writes (G w1.bindings) w1 w2 j → k ≡ i + j → Writes (both f (G w0.bindings)) w0 w2 k
writes_both f G w0 w1 w2 i j k h g e = record {
  walk = behind_both f G w0 w1 w2 (is h.walk) (is g.walk);
  written = written w1 (is h.walk) g.written;
}
  where
    written : (w1 : Walk) → Is (behind f w0) w1 → j ≡ count (G w1.bindings w1.made).0 → k ≡ count (both f (G w0.bindings) w0.made).0
    written _ same n =
        let m : i ≡ count (f w0.made).0 = h.written in
        let c : count ((f w0.made).0 & (G w0.bindings (f w0.made).1).0) ≡ count (f w0.made).0 + count (G w0.bindings (f w0.made).1).0 = count_beside (f w0.made).0 (G w0.bindings (f w0.made).1).0 in
        omega (arith, e, n, m, c)

-- What is left, once its trees are written, is what all of it was.
pub record Left (s : Source) (F : Bindings → Term → Makes Forest) (t : Term) (before now : Walk) (at : ℕ) : Type 0 where
  pub term : Term
  pub stands : IsAt s at term
  pub goes : (w : Walk) → w ≡ behind (F now.bindings term) now → w ≡ behind (F before.bindings t) before

pub record LeftCounted (s : Source) (F : Bindings → Term → Makes Forest) (t : Term) (before now : Walk) (at trees : ℕ) : Type 0 where
  pub term : Term
  pub stands : IsAt s at term
  pub goes : (w : Walk) (more : ℕ) → Writes (F now.bindings term) now w more → Writes (F before.bindings t) before w (trees + more)

pub begun : (s : Source) (F : Bindings → Term → Makes Forest) (t : Term) (w : Walk) (at : ℕ) → IsAt s at t → Left s F t w w at
begun s F t w at k = record { term = t; stands = k; goes = λ v e. e }

pub begun_counted : (s : Source) (F : Bindings → Term → Makes Forest) (t : Term) (w : Walk) (at : ℕ) → IsAt s at t → LeftCounted s F t w w at 0
begun_counted s F t w at k = record { term = t; stands = k; goes = λ v more h. record { walk = h.walk; written = let n : more ≡ count (F w.bindings t w.made).0 = h.written in omega (arith, n) } }

pub one_less : (s : Source) (F : Bindings → Term → Makes Forest) (t a b : Term) (before now next : Walk) (at rest : ℕ) (l : Left s F t before now at) → IsAt s rest b
    → F now.bindings l.term ≡ both (F now.bindings a) (F now.bindings b) → next ≡ behind (F now.bindings a) now → Left s F t before next rest
one_less s F t a b before now next at rest l k e h = record {
  term = b;
  stands = k;
  goes = λ w g. l.goes w (behind_both (F now.bindings a) (λ n. F n b) now next w (is h) (is g) ∙ ap (λ f. behind f now) (sym e));
}

pub one_less_counted : (s : Source) (F : Bindings → Term → Makes Forest) (t a b : Term) (before now next : Walk) (at rest trees more sum : ℕ) (l : LeftCounted s F t before now at trees) → IsAt s rest b
    → F now.bindings l.term ≡ both (F now.bindings a) (F now.bindings b) → Writes (F now.bindings a) now next more → sum ≡ trees + more → LeftCounted s F t before next rest sum
one_less_counted s F t a b before now next at rest trees more sum l k e h q = record {
  term = b;
  stands = k;
  goes = λ w n g.
      let r : Writes (F before.bindings t) before w (trees + (more + n)) = l.goes w (more + n) (subst (λ f. Writes f now w (more + n)) (sym e) (writes_both (F now.bindings a) (λ m. F m b) now next w more n (more + n) h g refl)) in
      let c : trees + (more + n) ≡ count (F before.bindings t before.made).0 = r.written in
      record { walk = r.walk; written = omega (arith, c, q) };
}
