-- Declarations one behind the other, and inside others.
use Rattle.std.proofs.Common.{◌≡◌, ℕ, zero, suc, ◌+◌, ◌≤◌, List, [], ◌∷◌, ◌++◌, length, refl, sym, ap, subst, ◌∙◌, arith}
use Rattle.std.proofs.lemmas.List.{append_assoc, append-nil, length-append}
use Rattle.smlc_base.specs.declared.place.Place.{Place}
use Rattle.sml_tree.specs.declared.tree_node.TreeNode.{TreeNode}
use Rattle.sml_tree.specs.declared.tree_node.TreeNode.TheVariants as node
use Rattle.sml_expansion.specs.declared.walk.Walk.{Walk}
use Rattle.sml_expansion.specs.declared.made.Made.{Made}
use Rattle.sml_expansion.specs.declared.meaning.Meaning.{Meaning}
use Rattle.sml_expansion.specs.declared.meaning.TypeMeaning.{TypeMeaning}
use Rattle.sml_expansion.specs.declared.mark.Mark.{Mark}
use Rattle.sml_expansion.specs.declared.mark.Mark.TheVariants.{Open, Close}
use Rattle.sml_expansion.specs.declared.scope.Bindings.{Bindings}
use Rattle.sml_expansion.specs.Terms.{Term, leaf, one, two, three, four, node_of}
use Rattle.sml_expansion.specs.Sources.{Source, IsAt}
use Rattle.sml_expansion.specs.Scopes.{Scope, Env, scope_of, within, followed}
use Rattle.sml_expansion.specs.Scoped.{oldest}
use Rattle.sml_expansion.specs.Forests.{Forest, none, tree, count, ◌&◌}
use Rattle.sml_expansion.specs.Marks.{marks}
use Rattle.sml_expansion.specs.Makings.{Makes, gives}
use Rattle.sml_expansion.specs.Bindings.{Decs, no_decs, type_dec, datatype_dec}
use Rattle.sml_expansion.specs.Expressions.{decs, decs_behind}
use Rattle.sml_expansion.proofs.ScopedLemmas.{oldest_behind, newest_before}
use Rattle.sml_derive.specs.Steps.{scope, marked, behind, bound_too, leads, led, declared, hidden, Declares}
use Rattle.sml_derive.proofs.Counting.{count_beside}
use Rattle.sml_derive.proofs.Schemas.{Is, same, is}

pub leads_beside : (f g : Forest) → leads (f & g) ≡ leads f ++ leads g
leads_beside none g = refl
leads_beside (tree n p parts rest) g =
    ap (λ (l : List Mark). Open ∷ Open ∷ (marks parts ++ Close n p ∷ l)) (leads_beside rest g)
    ∙ ap (λ (l : List Mark). Open ∷ Open ∷ l) (sym (append_assoc (marks parts) (Close n p ∷ leads rest) (leads g)))

-- a walk by its parts
abbrev walk_with : Made → List (ℕ × Meaning) → List (ℕ × TypeMeaning) → List (ℕ × ℕ) → List Mark → Walk
walk_with m v t y l = record { made = m; bindings = record { values = v; types = t; tyvars = y }; marks = l }

walk_by : (m : Made) (v w : List (ℕ × Meaning)) (t u : List (ℕ × TypeMeaning)) (y : List (ℕ × ℕ)) (l k : List Mark) → v ≡ w → t ≡ u → l ≡ k → walk_with m v t y l ≡ walk_with m w u y k
walk_by m v w t u y l k e f g = ap (λ x. walk_with m x t y l) e ∙ ap (λ x. walk_with m w x y l) f ∙ ap (λ x. walk_with m w u y x) g

pub declares_behind : (s : Source) (p : Place) (a b : Term) (w0 w1 w2 : Walk) (i j k : ℕ) → Declares (decs (scope s w0) a) w0 w1 i → Declares (decs (scope s w1) b) w1 w2 j → k ≡ i + j → Declares (decs (scope s w0) (two node.MoreDecs p a b)) w0 w2 k
declares_behind s p a b w0 w1 w2 i j k h g e = step w1 w2 (is h.walk) h.written (is g.walk) g.written
  where
    step : (w1 w2 : Walk) → Is (led (decs (scope s w0) a) w0) w1 → i ≡ count (decs (scope s w0) a w0.made).0.forest → Is (led (decs (scope s w1) b) w1) w2 → j ≡ count (decs (scope s w1) b w1.made).0.forest → Declares (decs (scope s w0) (two node.MoreDecs p a b)) w0 w2 k
    step _ _ same n same m =
        let x = decs (scope s w0) a w0.made in
        let y = decs (within (scope s w0) x.0.env) b x.1 in
        let c : count (x.0.forest & y.0.forest) ≡ count x.0.forest + count y.0.forest = count_beside x.0.forest y.0.forest in
        record {
          walk = walk_by y.1 _ _ _ _ w0.bindings.tyvars _ _ (sym (append_assoc y.0.env.values x.0.env.values w0.bindings.values)) (sym (append_assoc y.0.env.types x.0.env.types w0.bindings.types)) (append_assoc w0.marks (leads x.0.forest) (leads y.0.forest) ∙ ap (λ (l : List Mark). w0.marks ++ l) (sym (leads_beside x.0.forest y.0.forest)));
          written = omega (arith, e, n, m, c);
        }

-- without the middle
uncovered : {A : Type 0} (y x o : List A) (from to : ℕ) → length o ≡ from → length (x ++ o) ≡ to → hidden from to (y ++ (x ++ o)) ≡ y ++ o
uncovered y x o from to e f =
    ap (λ l. l ++ oldest from (y ++ (x ++ o))) (newest_before to y (x ++ o) f)
    ∙ ap (λ l. y ++ l) (ap (oldest from) (sym (append_assoc y x o)) ∙ oldest_behind from (y ++ x) o e)

pub declares_inside : (s : Source) (p : Place) (a b : Term) (w0 w1 w2 w3 : Walk) (i j k vs vi ts ti : ℕ) → Declares (decs (scope s w0) a) w0 w1 i → Declares (decs (scope s w1) b) w1 w2 j → k ≡ i + j
    → length w0.bindings.values ≡ vs → length w1.bindings.values ≡ vi → length w0.bindings.types ≡ ts → length w1.bindings.types ≡ ti
    → w3 ≡ record { made = w2.made; bindings = record { values = hidden vs vi w2.bindings.values; types = hidden ts ti w2.bindings.types; tyvars = w2.bindings.tyvars }; marks = w2.marks }
    → Declares (decs (scope s w0) (two node.Local p a b)) w0 w3 k
declares_inside s p a b w0 w1 w2 w3 i j k vs vi ts ti h g e lv lw lt lu z = step w1 w2 (is h.walk) h.written (is g.walk) g.written lw lu z
  where
    step : (w1 w2 : Walk) → Is (led (decs (scope s w0) a) w0) w1 → i ≡ count (decs (scope s w0) a w0.made).0.forest → Is (led (decs (scope s w1) b) w1) w2 → j ≡ count (decs (scope s w1) b w1.made).0.forest
        → length w1.bindings.values ≡ vi → length w1.bindings.types ≡ ti → w3 ≡ record { made = w2.made; bindings = record { values = hidden vs vi w2.bindings.values; types = hidden ts ti w2.bindings.types; tyvars = w2.bindings.tyvars }; marks = w2.marks }
        → Declares (decs (scope s w0) (two node.Local p a b)) w0 w3 k
    step _ _ same n same m lw lu z =
        let x = decs (scope s w0) a w0.made in
        let y = decs (within (scope s w0) x.0.env) b x.1 in
        let c : count (x.0.forest & y.0.forest) ≡ count x.0.forest + count y.0.forest = count_beside x.0.forest y.0.forest in
        record {
          walk = z ∙ walk_by y.1 _ _ _ _ w0.bindings.tyvars _ _ (uncovered y.0.env.values x.0.env.values w0.bindings.values vs vi lv lw) (uncovered y.0.env.types x.0.env.types w0.bindings.types ts ti lt lu) (append_assoc w0.marks (leads x.0.forest) (leads y.0.forest) ∙ ap (λ (l : List Mark). w0.marks ++ l) (sym (leads_beside x.0.forest y.0.forest)));
          written = omega (arith, e, n, m, c);
        }

-- declarations of one tree
pub type_declares : (s : Source) (p : Place) (t : Term) (w0 w1 w2 : Walk) → Is (marked (Open ∷ []) w0) w1 → Is (declared (type_dec (scope s w1) p t) w1) w2 → Declares (decs (scope s w0) (one node.Type p t)) w0 w2 1
type_declares s p t w0 _ _ same same = record { walk = ap (λ l. record { made = (type_dec (scope s w0) p t w0.made).1; bindings = bound_too (type_dec (scope s w0) p t w0.made).0.env w0.bindings; marks = l }) (append_assoc w0.marks (Open ∷ []) (marks (type_dec (scope s w0) p t w0.made).0.forest)); written = refl }

pub datatype_declares : (s : Source) (p : Place) (t : Term) (w0 w1 w2 : Walk) → Is (marked (Open ∷ []) w0) w1 → Is (declared (datatype_dec (scope s w1) p t) w1) w2 → Declares (decs (scope s w0) (one node.Datatype p t)) w0 w2 1
datatype_declares s p t w0 _ _ same same = record { walk = ap (λ l. record { made = (datatype_dec (scope s w0) p t w0.made).1; bindings = bound_too (datatype_dec (scope s w0) p t w0.made).0.env w0.bindings; marks = l }) (append_assoc w0.marks (Open ∷ []) (marks (datatype_dec (scope s w0) p t w0.made).0.forest)); written = refl }

-- what is left of a sequence of declarations
pub record LeftDecs (s : Source) (t : Term) (before now : Walk) (at trees : ℕ) : Type 0 where
  pub term : Term
  pub stands : IsAt s at term
  pub goes : (w : Walk) (more : ℕ) → Declares (decs (scope s now) term) now w more → Declares (decs (scope s before) t) before w (trees + more)

pub begun_decs : (s : Source) (t : Term) (w : Walk) (at : ℕ) → IsAt s at t → LeftDecs s t w w at 0
begun_decs s t w at k = record { term = t; stands = k; goes = λ v more h. record { walk = h.walk; written = let n : more ≡ count (decs (scope s w) t w.made).0.forest = h.written in omega (arith, n) } }

pub one_dec_less : (s : Source) (t a b : Term) (p : Place) (before now next : Walk) (at rest trees more sum : ℕ) (l : LeftDecs s t before now at trees) → IsAt s rest b → l.term ≡ two node.MoreDecs p a b
    → Declares (decs (scope s now) a) now next more → sum ≡ trees + more → LeftDecs s t before next rest sum
one_dec_less s t a b p before now next at rest trees more sum l k reads h q = record {
  term = b;
  stands = k;
  goes = λ w n g.
      let r : Declares (decs (scope s before) t) before w (trees + (more + n)) = l.goes w (more + n) (subst (λ (u : Term). Declares (decs (scope s now) u) now w (more + n)) (sym reads) (declares_behind s p a b now next w more n (more + n) h g refl)) in
      let c : trees + (more + n) ≡ count (decs (scope s before) t before.made).0.forest = r.written in
      record { walk = r.walk; written = omega (arith, c, q) };
}

pub no_dec : (s : Scope) (t : Term) (n : TreeNode) → n ≡ node_of t → (n ≡ node.MoreDecs → ⊥) → (n ≡ node.Local → ⊥) → (n ≡ node.Val → ⊥) → (n ≡ node.Fun → ⊥) → (n ≡ node.Type → ⊥) → (n ≡ node.Datatype → ⊥) → (n ≡ node.Exception → ⊥) → gives no_decs ≡ decs s t
no_dec s (leaf m p) n e a b c d f g h = refl
no_dec s (one node.Type p x) n e a b c d f g h = absurd (f e)
no_dec s (one node.Datatype p x) n e a b c d f g h = absurd (g e)
no_dec s (one node.Exception p x) n e a b c d f g h = absurd (h e)
no_dec s (one _ p x) n e a b c d f g h = refl
no_dec s (two node.MoreDecs p x y) n e a b c d f g h = absurd (a e)
no_dec s (two node.Local p x y) n e a b c d f g h = absurd (b e)
no_dec s (two node.Val p x y) n e a b c d f g h = absurd (c e)
no_dec s (two node.Fun p x y) n e a b c d f g h = absurd (d e)
no_dec s (two _ p x y) n e a b c d f g h = refl
no_dec s (three m p x y z) n e a b c d f g h = refl
no_dec s (four m p x y z v) n e a b c d f g h = refl

pub none_declared : (w : Walk) (f : Makes Decs) → gives no_decs ≡ f → Declares f w w 0
none_declared w f e = subst (λ (g : Makes Decs). Declares g w w 0) e (record { walk = ap (λ (l : List Mark). record w { marks = l }) (sym (append-nil w.marks)); written = refl })
