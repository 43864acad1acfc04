-- Plain bindings, one behind the other.
use Rattle.std.proofs.Common.{◌≡◌, ℕ, List, [], ◌∷◌, ◌++◌, refl, sym, ap, subst, ◌∙◌}
use Rattle.std.proofs.lemmas.List.{append_assoc, append-nil}
use Rattle.sml_tree.specs.declared.tree_node.TreeNode.{TreeNode}
use Rattle.sml_tree.specs.declared.tree_node.TreeNode.TheVariants as node
use Rattle.sml_expansion.specs.declared.walk.Walk.{Walk}
use Rattle.sml_expansion.specs.declared.mark.Mark.{Mark}
use Rattle.sml_expansion.specs.declared.scope.Bindings.{Bindings}
use Rattle.sml_expansion.specs.declared.scope.Bound.{Bound}
use Rattle.sml_expansion.specs.Terms.{Term, leaf, one, two, three, four, node_of}
use Rattle.sml_expansion.specs.Sources.{Source, IsAt}
use Rattle.sml_expansion.specs.Scopes.{Scope}
use Rattle.sml_expansion.specs.Forests.{Forest, none, ◌&◌}
use Rattle.sml_expansion.specs.Marks.{marks}
use Rattle.sml_expansion.specs.Makings.{Makes, gives}
use Rattle.sml_expansion.specs.Patterns.{Pattern}
use Rattle.sml_expansion.specs.Expressions.{plain_bindings, both_bindings, binding}
use Rattle.sml_expansion.proofs.MarkLemmas.{marks_beside}
use Rattle.sml_derive.specs.Steps.{behind, writes_pattern, Binds, Writes}
use Rattle.sml_derive.proofs.Schemas.{Is, same, is, marks_same}

pub binds_both : (f : Makes Pattern) (G : Bindings → Makes Pattern) (w0 w1 w2 : Walk) (vs us xs : List Bound) → Binds f w0 w1 vs us → Binds (G w1.bindings) w1 w2 us xs → Binds (both_bindings f (G w0.bindings)) w0 w2 vs xs
binds_both f G w0 w1 w2 vs us xs h g = step w1 w2 us (is h.walk) h.bound (is g.walk) g.bound
  where
    step : (w1 w2 : Walk) (us : List Bound) → Is (writes_pattern f w0) w1 → us ≡ vs ++ (f w0.made).0.vars → Is (writes_pattern (G w1.bindings) w1) w2 → xs ≡ us ++ (G w1.bindings w1.made).0.vars → Binds (both_bindings f (G w0.bindings)) w0 w2 vs xs
    step _ _ us same e same k =
        let x = f w0.made in
        let y = G w0.bindings x.1 in
        record {
          walk = marks_same (record w0 { made = y.1 }) _ _ (append_assoc w0.marks (marks x.0.forest) (marks y.0.forest) ∙ ap (λ (l : List Mark). w0.marks ++ l) (sym (marks_beside x.0.forest y.0.forest)));
          bound = k ∙ ap (λ (l : List Bound). l ++ y.0.vars) e ∙ append_assoc vs x.0.vars y.0.vars;
        }

pub binds_one : (f : Makes Pattern) (G : Bindings → Makes Forest) (w0 w1 w2 : Walk) (vs us : List Bound) (n : ℕ) → Binds f w0 w1 vs us → Writes (G w1.bindings) w1 w2 n → Binds (binding f (G w0.bindings)) w0 w2 vs us
binds_one f G w0 w1 w2 vs us n h g = step w1 w2 (is h.walk) (is g.walk)
  where
    step : (w1 w2 : Walk) → Is (writes_pattern f w0) w1 → Is (behind (G w1.bindings) w1) w2 → Binds (binding f (G w0.bindings)) w0 w2 vs us
    step _ _ same same =
        let x = f w0.made in
        let y = G w0.bindings x.1 in
        record {
          walk = marks_same (record w0 { made = y.1 }) _ _ (append_assoc w0.marks (marks x.0.forest) (marks y.0) ∙ ap (λ (l : List Mark). w0.marks ++ l) (sym (marks_beside x.0.forest y.0)));
          bound = h.bound;
        }

pub no_binding : (s : Scope) (t : Term) (n : TreeNode) (w : Walk) (vs : List Bound) → n ≡ node_of t → (n ≡ node.ValBind → ⊥) → (n ≡ node.MoreValBinds → ⊥) → Binds (plain_bindings s t) w w vs vs
no_binding s t n w vs e f g = subst (λ (h : Makes Pattern). Binds h w w vs vs) (nothing t e) (record { walk = ap (λ (l : List Mark). record w { marks = l }) (sym (append-nil w.marks)); bound = sym (append-nil vs) })
  where
    nothing : (t : Term) → n ≡ node_of t → gives (record { forest = none; vars = [] }) ≡ plain_bindings s t
    nothing (leaf m p) e = refl
    nothing (one m p a) e = refl
    nothing (two node.ValBind p a b) e = absurd (f e)
    nothing (two node.MoreValBinds p a b) e = absurd (g e)
    nothing (two _ p a b) e = refl
    nothing (three m p a b c) e = refl
    nothing (four m p a b c d) e = refl

pub record LeftBinds (s : Source) (F : Bindings → Term → Makes Pattern) (t : Term) (before now : Walk) (vs us : List Bound) (at : ℕ) : Type 0 where
  pub term : Term
  pub stands : IsAt s at term
  pub goes : (w : Walk) (xs : List Bound) → Binds (F now.bindings term) now w us xs → Binds (F before.bindings t) before w vs xs

pub begun_binds : (s : Source) (F : Bindings → Term → Makes Pattern) (t : Term) (w : Walk) (vs : List Bound) (at : ℕ) → IsAt s at t → LeftBinds s F t w w vs vs at
begun_binds s F t w vs at k = record { term = t; stands = k; goes = λ v xs h. h }

pub one_binding_less : (s : Source) (F : Bindings → Term → Makes Pattern) (t a b : Term) (before now next : Walk) (vs us xs : List Bound) (at rest : ℕ) (l : LeftBinds s F t before now vs us at) → IsAt s rest b
    → F now.bindings l.term ≡ both_bindings (F now.bindings a) (F now.bindings b) → Binds (F now.bindings a) now next us xs → LeftBinds s F t before next vs xs rest
one_binding_less s F t a b before now next vs us xs at rest l k e h = record {
  term = b;
  stands = k;
  goes = λ w ys g. l.goes w ys (subst (λ (f : Makes Pattern). Binds f now w us ys) (sym e) (binds_both (F now.bindings a) (λ n. F n b) now next w us xs ys h g));
}
