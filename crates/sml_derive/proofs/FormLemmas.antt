-- Each form of expression by its parts.
use Rattle.std.proofs.Common.{◌≡◌, ℕ, suc, ◌+◌, Bool, true, false, List, [], ◌∷◌, ◌++◌, length, refl, sym, ap, subst, ◌∙◌}
use Rattle.std.specs.Prelude.{Option, Some, None}
use Rattle.std.proofs.lemmas.List.{append_assoc}
use Rattle.smlc_base.specs.declared.place.Place.{Place}
use Rattle.sml_tree.specs.declared.tree_node.TreeNode.{TreeNode}
use Rattle.sml_tree.specs.declared.tree_node.TreeNode.TheVariants as node
use Rattle.sml_tree.specs.declared.bare.Node.TheVariants as bare
use Rattle.sml_tree.specs.Parts.{parts_of}
use Rattle.sml_expansion.specs.declared.walk.Walk.{Walk}
use Rattle.sml_expansion.specs.declared.mark.Mark.{Mark}
use Rattle.sml_expansion.specs.declared.mark.Mark.TheVariants.{Open, Close}
use Rattle.sml_expansion.specs.declared.scope.Bound.{Bound}
use Rattle.sml_expansion.specs.declared.scope.Bindings.{Bindings}
use Rattle.sml_expansion.specs.Terms.{Term, leaf, one, two, three, four, node_of}
use Rattle.sml_expansion.specs.Sources.{Source, IsAt, node_at}
use Rattle.sml_expansion.specs.Scopes.{Scope, scope_of, within}
use Rattle.sml_expansion.specs.Scoped.{oldest}
use Rattle.sml_expansion.specs.Forests.{Forest, none, tree, grown, count, ◌&◌}
use Rattle.sml_expansion.specs.Labels.{numbers}
use Rattle.sml_expansion.specs.Types.{labels, labels_once, labs_of, type_of}
use Rattle.sml_expansion.specs.declared.made.Made.{Made}
use Rattle.sml_tree.specs.declared.bare.Lab.{Lab}
use Rattle.sml_expansion.specs.Bare.{fields, record_node, typed_node, tuple_node, apply_node, case_node, fn_node, if_node, con_pattern, con_node, con_true, con_false}
use Rattle.sml_expansion.specs.Marks.{marks}
use Rattle.sml_expansion.specs.Makings.{Makes, gives, ◌>>=◌, ◌>>◌}
use Rattle.sml_expansion.specs.Patterns.{whole, patterns, env_of}
use Rattle.sml_expansion.specs.Expressions.{Position, function_part, elsewhere, expressions, rules, rule, both, is_fn, application}
use Rattle.sml_expansion.proofs.MarkLemmas.{marks_beside}
use Rattle.sml_expansion.proofs.ScopedLemmas.{oldest_behind}
use Rattle.sml_expansion.proofs.Shapes.{as_two}
use Rattle.sml_derive.specs.declared.pairs.Pair.{Pair}
use Rattle.sml_derive.specs.declared.pairs.Pair.TheVariants as pair
use Rattle.sml_derive.specs.declared.pairs.Matched.{Matched}
use Rattle.sml_derive.specs.declared.pairs.Matched.TheVariants as matched
use Rattle.sml_derive.specs.Pairs.{is_list, pair_node, between, behind_pair, match_node, behind_match}
use Rattle.sml_derive.specs.Functions.{match_in, Finds}
use Rattle.sml_derive.specs.Steps.{scope, made, marked, behind, writes_pattern, seen, unseen, Writes}
use Rattle.sml_derive.proofs.Schemas.{Is, same, is, marks_same, one_part, two_parts, unmarked}

-- lists
pub list_parts : (n : TreeNode) → is_list n ≡ true → parts_of n ≡ 2
list_parts node.MoreItems e = refl
list_parts node.MoreRows e = refl
list_parts node.MoreSeq e = refl
list_parts _ e = cc

-- what a list with such a test is
abbrev Lists : Bool → TreeNode → Type 0
Lists true n = (s : Scope) (p : Place) (a b : Term) → expressions elsewhere s (two n p a b) ≡ both (expressions elsewhere s a) (expressions elsewhere s b)
Lists false n = Unit {0}

lists : (n : TreeNode) → Lists (is_list n) n
lists node.MoreItems = λ s p a b. refl
lists node.MoreRows = λ s p a b. refl
lists node.MoreSeq = λ s p a b. refl
lists _ = tt

list_both : (n : TreeNode) (s : Scope) (p : Place) (a b : Term) → is_list n ≡ true → expressions elsewhere s (two n p a b) ≡ both (expressions elsewhere s a) (expressions elsewhere s b)
list_both n s p a b e = subst (λ o. Lists o n) e (lists n) s p a b

pub as_list : (s : Source) (i : ℕ) (t : Term) → IsAt s i t → is_list (node_at s i) ≡ true → (P : Term → Type 0)
    → ((n : TreeNode) (p : Place) (a b : Term) → IsAt s i (two n p a b) → ((c : Scope) → expressions elsewhere c (two n p a b) ≡ both (expressions elsewhere c a) (expressions elsewhere c b)) → P (two n p a b)) → P t
as_list s i t k e P f = as_two s i t (node_at s i) k refl (list_parts (node_at s i) e) P (λ p a b h. f (node_at s i) p a b h (λ c. list_both (node_at s i) c p a b e))

-- pairs
pub pair_spells : (f : Pair) (p : Place) (x y : Forest) → marks (pair_node f p x y) ≡ (Open ∷ []) ++ (marks x ++ (between f p ++ (marks y ++ behind_pair f p)))
pair_spells pair.Apply p x y = simp (marks_beside, append_assoc)
pair_spells pair.Andalso p x y = simp (marks_beside, append_assoc)
pair_spells pair.Orelse p x y = simp (marks_beside, append_assoc)

pub pair_single : (f : Pair) (p : Place) (x y : Forest) → 1 ≡ count (pair_node f p x y)
pair_single pair.Apply p x y = refl
pair_single pair.Andalso p x y = refl
pair_single pair.Orelse p x y = refl

pub match_spells : (f : Matched) (p : Place) (x y : Forest) → marks (match_node f p x y) ≡ (Open ∷ []) ++ (marks x ++ ([] ++ (marks y ++ behind_match f p)))
match_spells matched.Case p x y = simp (marks_beside, append_assoc)
match_spells matched.Handle p x y = simp (marks_beside, append_assoc)

pub match_single : (f : Matched) (p : Place) (x y : Forest) → 1 ≡ count (match_node f p x y)
match_single matched.Case p x y = refl
match_single matched.Handle p x y = refl

pub if_spells : (p : Place) (x y z : Forest) → marks (if_node p x y z) ≡ (Open ∷ []) ++ (marks x ++ (marks (con_pattern p con_true) ++ (marks y ++ (marks (con_pattern p con_false) ++ (marks z ++ Close (bare.Case 0 []) p ∷ [])))))
if_spells p x y z = simp (marks_beside, append_assoc)

-- tuples
pub tuple_writes : (F : Bindings → Makes Forest) (q : Place) (w0 w1 w2 w3 : Walk) (k : ℕ) → Is (marked (Open ∷ []) w0) w1 → Writes (F w1.bindings) w1 w2 k → Is (marked (Close (bare.Record (fields (numbers 0 k))) q ∷ []) w2) w3
    → Writes (◌>>=◌ (F w0.bindings) (λ x. gives (tuple_node q x))) w0 w3 1
tuple_writes F q w0 w1 w2 w3 k a h b = step w1 a (is h.walk) h.written
  where
    step : (w1 : Walk) → Is (marked (Open ∷ []) w0) w1 → Is (behind (F w1.bindings) w1) w2 → k ≡ count (F w1.bindings w1.made).0 → Writes (◌>>=◌ (F w0.bindings) (λ x. gives (tuple_node q x))) w0 w3 1
    step _ same g n = one_part F (λ x. tuple_node q x) (Open ∷ []) (λ x. Close (bare.Record (fields (numbers 0 (count x)))) q ∷ []) w0 _ w2 w3 (λ x. refl) (λ x. refl) same g (subst (λ m. Is (marked (Close (bare.Record (fields (numbers 0 m))) q ∷ []) w2) w3) n b)

-- rules
pub rule_writes : (s : Source) (q a : Term) (w0 : Walk) (n : ℕ) (w1 w2 w3 w4 : Walk) (vars : List Bound)
    → Is (writes_pattern (whole (patterns (scope s w0) q)) w0) w1 → Is (whole (patterns (scope s w0) q) w0.made).0.vars vars → Is (seen (env_of vars) w1) w2
    → Is (behind (expressions elsewhere (scope s w2) a) w2) w3 → length w0.bindings.values ≡ n → Is (unseen n w3) w4
    → w4 ≡ behind (rule (patterns (scope s w0) q) (λ e. expressions elsewhere (within (scope s w0) e) a)) w0
rule_writes s q a w0 n _ _ _ _ _ same same same same e same =
    let x = whole (patterns (scope s w0) q) w0.made in
    let y = expressions elsewhere (within (scope s w0) (env_of x.0.vars)) a x.1 in
    ap (λ b. record { made = y.1; bindings = record { values = b; types = w0.bindings.types; tyvars = w0.bindings.tyvars }; marks = (w0.marks ++ marks x.0.forest) ++ marks y.0 }) (oldest_behind n (env_of x.0.vars).values w0.bindings.values e)
    ∙ marks_same (record w0 { made = y.1 }) _ _ (append_assoc w0.marks (marks x.0.forest) (marks y.0) ∙ ap (λ l. w0.marks ++ l) (sym (marks_beside x.0.forest y.0)))

pub no_rules : (s : Scope) (t : Term) (n : TreeNode) → n ≡ node_of t → (n ≡ node.Rule → ⊥) → (n ≡ node.MoreRules → ⊥) → gives none ≡ rules s t
no_rules s (leaf m p) n e f g = refl
no_rules s (one m p a) n e f g = refl
no_rules s (two node.Rule p a b) n e f g = absurd (f e)
no_rules s (two node.MoreRules p a b) n e f g = absurd (g e)
no_rules s (two _ p a b) n e f g = refl
no_rules s (three m p a b c) n e f g = refl
no_rules s (four m p a b c d) n e f g = refl

-- functions that are applied
pub is_plain : (t : Term) → match_in t ≡ None → is_fn t ≡ false
is_plain (leaf n p) e = refl
is_plain (one node.Paren p a) e = is_plain a e
is_plain (one node.Fn p a) e = cc
is_plain (one _ p a) e = refl
is_plain (two n p a b) e = refl
is_plain (three n p a b c) e = refl
is_plain (four n p a b c d) e = refl

pub record IsFn (f m : Term) : Type 0 where
  pub place : Place
  pub is_fn : is_fn f ≡ true
  pub same : (h : Position) (s : Scope) → expressions h s f ≡ ◌>>=◌ (rules s m) (λ y. gives (fn_node place y))

pub is_applied : (t m : Term) → match_in t ≡ Some m → IsFn t m
is_applied (leaf n p) m e = cc
is_applied (one node.Paren p a) m e = let i = is_applied a m e in record { place = i.place; is_fn = i.is_fn; same = i.same }
is_applied (one node.Fn p a) m e = let k : a ≡ m = cc in record { place = p; is_fn = refl; same = λ h s. ap (λ (x : Term). ◌>>=◌ (rules s x) (λ y. gives (fn_node p y))) k }
is_applied (one _ p a) m e = cc
is_applied (two n p a b) m e = cc
is_applied (three n p a b c) m e = cc
is_applied (four n p a b c d) m e = cc

pub plain_pair : (h : Position) (s : Scope) (p : Place) (f a : Term) → match_in f ≡ None → expressions h s (two node.Apply p f a) ≡ application false p (expressions function_part s f) (expressions elsewhere s a)
plain_pair h s p f a e = ap (λ b. application b p (expressions function_part s f) (expressions elsewhere s a)) (is_plain f e)

pub applied_pair : (h : Position) (s : Scope) (p : Place) (f a m : Term) → match_in f ≡ Some m → expressions h s (two node.Apply p f a) ≡ ◌>>=◌ (expressions elsewhere s a) (λ x. ◌>>=◌ (rules s m) (λ y. gives (case_node p x y)))
applied_pair h s p f a m e =
    let i = is_applied f m e in
    ap (λ b. application b p (expressions function_part s f) (expressions elsewhere s a)) i.is_fn
    ∙ ap (λ g. application true p g (expressions elsewhere s a)) (i.same function_part s)

pub no_match : (t : Term) (n : TreeNode) → n ≡ node_of t → (n ≡ node.Fn → ⊥) → (n ≡ node.Paren → ⊥) → match_in t ≡ None
no_match (leaf m p) n e f g = refl
no_match (one node.Fn p a) n e f g = absurd (f e)
no_match (one node.Paren p a) n e f g = absurd (g e)
no_match (one _ p a) n e f g = refl
no_match (two m p a b) n e f g = refl
no_match (three m p a b c) n e f g = refl
no_match (four m p a b c d) n e f g = refl

pub record Found (s : Source) (o : Option Term) (i : ℕ) : Type 0 where
  pub tree : Term
  pub is : o ≡ Some tree
  pub stands : IsAt s i tree

pub found : (s : Source) (o : Option Term) (i : ℕ) → Finds s o (Some i) → Found s o i
found s (Some m) i h = record { tree = m; is = refl; stands = h }
found s None i h = absurd h

pub not_found : (s : Source) (o : Option Term) → Finds s o None → o ≡ None
not_found s (Some m) h = absurd h
not_found s None h = refl

-- something is made before a tree
pub then_writes : (k : Makes (Unit {0})) (f : Makes Forest) (w v : Walk) (n : ℕ) → Writes f (made k w) v n → Writes (◌>>◌ k f) w v n
then_writes k f w v n r = record { walk = r.walk; written = r.written }

pub bind_writes : {A : Type 0} (k : Makes A) (f : A → Makes Forest) (w v : Walk) (n : ℕ) → Writes (f (k w.made).0) (made k w) v n → Writes (◌>>=◌ k f) w v n
bind_writes k f w v n r = record { walk = r.walk; written = r.written }

pub record_writes : (s : Source) (h : Position) (q : Place) (a : Term) (w0 : Walk) (labs again : List (Lab × Place)) (m : Made) (w1 w2 w3 : Walk)
    → Is (labels s.names a) labs → Is labs again → Is (labels_once again w0.made).1 m → Is (marked (Open ∷ []) (record w0 { made = m })) w1
    → Is (behind (expressions elsewhere (scope s w1) a) w1) w2 → Is (marked (Close (bare.Record (fields (labs_of labs))) q ∷ []) w2) w3
    → Writes (expressions h (scope s w0) (one node.Record q a)) w0 w3 1
record_writes s h q a w0 _ _ _ w1 w2 w3 same same same b e g =
    let labs = labels s.names a in
    then_writes (labels_once labs) (◌>>=◌ (expressions elsewhere (scope s w0) a) (λ x. gives (record_node q (labs_of labs) x))) w0 w3 1
    (one_part (λ d. expressions elsewhere (scope_of s.names d) a) (λ x. record_node q (labs_of labs) x) (Open ∷ []) (λ x. Close (bare.Record (fields (labs_of labs))) q ∷ []) (made (labels_once labs) w0) w1 w2 w3 (λ x. refl) (λ x. refl) b e g)

pub typed_writes : (s : Source) (h : Position) (q : Place) (a t : Term) (w0 : Walk) (ty : ℕ) (w1 w2 w3 w4 : Walk)
    → Is (made (type_of (scope s w0) t) w0) w1 → Is (type_of (scope s w0) t w0.made).0 ty → Is (marked (Open ∷ []) w1) w2
    → Is (behind (expressions elsewhere (scope s w2) a) w2) w3 → Is (marked (Close (bare.Typed 0 ty) q ∷ []) w3) w4
    → Writes (expressions h (scope s w0) (two node.Typed q a t)) w0 w4 1
typed_writes s h q a t w0 _ _ w2 w3 w4 same same b e g =
    let ty = (type_of (scope s w0) t w0.made).0 in
    bind_writes (type_of (scope s w0) t) (λ ty. ◌>>=◌ (expressions elsewhere (scope s w0) a) (λ x. gives (typed_node q (ty ∷ []) x))) w0 w4 1
    (one_part (λ d. expressions elsewhere (scope_of s.names d) a) (λ x. grown (bare.Typed 0 ty) q x) (Open ∷ []) (λ x. Close (bare.Typed 0 ty) q ∷ []) (made (type_of (scope s w0) t) w0) w2 w3 w4 (λ x. refl) (λ x. refl) b e g)
