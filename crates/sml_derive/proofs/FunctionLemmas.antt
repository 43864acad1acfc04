-- Functions and their clauses.
use Rattle.std.proofs.Common.{◌≡◌, ℕ, zero, suc, ◌+◌, ◌≤◌, List, [], ◌∷◌, ◌++◌, length, codes, refl, sym, ap, subst, ◌∙◌, arith}
use Rattle.std.specs.Prelude.{if◌then◌else◌}
use Rattle.std.proofs.lemmas.Bool.{ne_eqb}
use Rattle.std.proofs.lemmas.List.{append_assoc, append-nil}
use Rattle.smlc_base.specs.declared.place.Place.{Place}
use Rattle.sml_tree.specs.declared.tree_node.TreeNode.{TreeNode}
use Rattle.sml_tree.specs.declared.tree_node.TreeNode.TheVariants as node
use Rattle.sml_tree.specs.declared.bare.Node.TheVariants as bare
use Rattle.sml_expansion.specs.declared.made.Made.{Made}
use Rattle.sml_expansion.specs.declared.mark.Mark.{Mark}
use Rattle.sml_expansion.specs.declared.mark.Mark.TheVariants.{Open, Close}
use Rattle.sml_expansion.specs.declared.scope.Bindings.{Bindings}
use Rattle.sml_expansion.specs.declared.scope.Bound.{Bound}
use Rattle.sml_expansion.specs.declared.walk.Walk.{Walk}
use Rattle.sml_expansion.specs.Terms.{Term, leaf, one, two, three, four, node_of, place_at}
use Rattle.sml_expansion.specs.Sources.{Source, IsAt}
use Rattle.sml_expansion.specs.Scopes.{Scope, scope_of, within}
use Rattle.sml_expansion.specs.Scoped.{oldest}
use Rattle.sml_expansion.specs.Forests.{Forest, none, tree, grown, count, ◌&◌}
use Rattle.sml_expansion.specs.Marks.{marks}
use Rattle.sml_expansion.specs.Makings.{Makes, gives, new_names, ◌>>=◌}
use Rattle.sml_expansion.specs.Labels.{numbers}
use Rattle.sml_expansion.specs.Bare.{fields, var_pattern, variable_node, variable_nodes, tuple_node, tuple_unless_one, curried, function_node}
use Rattle.sml_expansion.specs.Types.{type_of}
use Rattle.sml_expansion.specs.TypeVariables.{numbers_of, in_scope, tyvars, unguarded, opens}
use Rattle.sml_expansion.specs.Patterns.{env_of}
use Rattle.sml_expansion.specs.Clauses.{head, first_clause, arguments_in, function}
use Rattle.sml_expansion.specs.Expressions.{elsewhere, expressions, functions, both, rec_dec, rec_bindings, decs}
use Rattle.sml_expansion.proofs.MarkLemmas.{marks_beside}
use Rattle.sml_expansion.proofs.ScopedLemmas.{oldest_behind}
use Rattle.sml_derive.specs.Forms.{times, case_end}
use Rattle.sml_derive.specs.Values.{tyvars_seen, tyvars_unseen}
use Rattle.sml_derive.specs.FunctionDeclarations.{names_of, function_of, head_of, fns_begin, fn_end, function_begins, function_ends}
use Rattle.sml_derive.specs.Steps.{scope, made, marked, behind, writes_pattern, seen, unseen, bound_too, leads, Writes, Declares}
use Rattle.sml_derive.proofs.Counting.{count_beside}
use Rattle.sml_derive.proofs.Schemas.{Is, same, is, marks_same, one_part, gathered, unmarked}
use Rattle.sml_derive.proofs.FormLemmas.{tuple_writes}
use Rattle.sml_derive.proofs.Times.{times_last, twice}

-- variables that are written one by one
abbrev pub fns_written : Place → List ℕ → Walk → Walk
fns_written p [] w = w
fns_written p (v ∷ vs) w = fns_written p vs (marked (marks (var_pattern p v)) (marked (Open ∷ []) w))

pub fns_are : (p : Place) (vs : List ℕ) (w : Walk) → fns_written p vs w ≡ marked (fns_begin p vs) w
fns_are p [] w = unmarked w
fns_are p (v ∷ vs) w =
    fns_are p vs (marked (marks (var_pattern p v)) (marked (Open ∷ []) w))
    ∙ marks_same w _ _ (append_assoc (w.marks ++ Open ∷ []) (marks (var_pattern p v)) (fns_begin p vs) ∙ append_assoc w.marks (Open ∷ []) (marks (var_pattern p v) ++ fns_begin p vs))

abbrev pub variables_written : Place → List ℕ → Walk → Walk
variables_written p [] w = w
variables_written p (v ∷ vs) w = variables_written p vs (marked (marks (variable_node p v)) w)

pub variables_are : (p : Place) (vs : List ℕ) (w : Walk) → variables_written p vs w ≡ behind (gives (variable_nodes p vs)) w
variables_are p [] w = unmarked w
variables_are p (v ∷ vs) w = variables_are p vs (marked (marks (variable_node p v)) w) ∙ twice w (marks (variable_node p v)) (marks (variable_nodes p vs))

pub variables_count : (p : Place) (vs : List ℕ) → count (variable_nodes p vs) ≡ length vs
variables_count p [] = refl
variables_count p (v ∷ vs) = ap suc (variables_count p vs)

pub tuple_of_one : (p : Place) (vs : List ℕ) → length vs ≡ 1 → tuple_unless_one p (variable_nodes p vs) ≡ variable_nodes p vs
tuple_of_one p [] e = absurd (omega (arith, e))
tuple_of_one p (v ∷ []) e = refl
tuple_of_one p (v ∷ w ∷ vs) e = absurd (omega (arith, e))

pub tuple_of_more : (p : Place) (vs : List ℕ) → (length vs ≡ 1 → ⊥) → tuple_unless_one p (variable_nodes p vs) ≡ tuple_node p (variable_nodes p vs)
tuple_of_more p [] f = refl
tuple_of_more p (v ∷ []) f = absurd (f refl)
tuple_of_more p (v ∷ w ∷ vs) f =
    let x = variable_nodes p (v ∷ w ∷ vs) in
    let e : count x ≡ suc (suc (length vs)) = variables_count p (v ∷ w ∷ vs) in
    ap (λ b. if b then x else tuple_node p x) (ne_eqb (count x) 1 (λ k. omega (arith, e, k)))

pub tuple_closed : (p : Place) (vs : List ℕ) (w0 w1 w2 w3 : Walk) (n : ℕ) → (length vs ≡ 1 → ⊥) → Is (marked (Open ∷ []) w0) w1 → Writes (gives (variable_nodes p vs)) w1 w2 n → Is (marked (Close (bare.Record (fields (numbers 0 n))) p ∷ []) w2) w3
    → w3 ≡ marked (marks (tuple_unless_one p (variable_nodes p vs))) w0
tuple_closed p vs w0 w1 w2 w3 n f a h b =
    (tuple_writes (λ d. gives (variable_nodes p vs)) p w0 w1 w2 w3 n a h b).walk ∙ ap (λ x. marked (marks x) w0) (sym (tuple_of_more p vs f))

-- the marks of a function
curried_spells : (p : Place) (vs : List ℕ) (e : Forest) → marks (curried p vs e) ≡ fns_begin p vs ++ (marks e ++ times (length vs) (fn_end p))
curried_spells p [] e = sym (append-nil (marks e))
curried_spells p (v ∷ vs) e =
    let f = fns_begin p vs in
    let t = times (length vs) (fn_end p) in
    ap (λ (l : List Mark). Open ∷ (marks (var_pattern p v) ++ l))
    (ap (λ (l : List Mark). l ++ fn_end p) (curried_spells p vs e) ∙ append_assoc f (marks e ++ t) (fn_end p)
    ∙ ap (λ (l : List Mark). f ++ l) (append_assoc (marks e) t (fn_end p) ∙ ap (λ (l : List Mark). marks e ++ l) (times_last (length vs) (fn_end p))))

pub function_spells : (p : Place) (vs : List ℕ) (n : ℕ) (m : Forest) → length vs ≡ n → marks (function_node p vs m) ≡ function_begins p vs ++ (marks m ++ function_ends p n)
function_spells p vs n m e =
    let f = fns_begin p vs in
    let x = tuple_unless_one p (variable_nodes p vs) in
    let t = times (length vs) (fn_end p) in
    curried_spells p vs _
    ∙ ap (λ (l : List Mark). f ++ Open ∷ l)
    (append_assoc (marks (x & m)) (case_end p) t ∙ ap (λ (l : List Mark). l ++ (case_end p ++ t)) (marks_beside x m) ∙ append_assoc (marks x) (marks m) (case_end p ++ t))
    ∙ sym (append_assoc f (Open ∷ marks x) (marks m ++ (case_end p ++ t)))
    ∙ ap (λ (k : ℕ). function_begins p vs ++ (marks m ++ function_ends p k)) e

pub function_single : (p : Place) (vs : List ℕ) (m : Forest) → 1 ≡ count (function_node p vs m)
function_single p [] m = refl
function_single p (v ∷ vs) m = refl

pub named_length : (text : List ℕ) (n : ℕ) (m : Made) → length (new_names text n m).0 ≡ n
named_length text zero m = refl
named_length text (suc n) m = ap suc (named_length text n _)

-- a function by itself
pub plain_function : (s : Scope) (t : Term) → (node_of t ≡ node.MoreFunBinds → ⊥) → ◌>>=◌ (new_names (codes "v") (arguments_in (head (first_clause t)))) (λ vs. ◌>>=◌ (functions s t) (λ x. gives (function_node (place_at t) vs x))) ≡ function_of s t
plain_function s (leaf m p) f = refl
plain_function s (one m p a) f = refl
plain_function s (two node.MoreFunBinds p a b) f = absurd (f refl)
plain_function s (two _ p a b) f = refl
plain_function s (three m p a b c) f = refl
plain_function s (four m p a b c d) f = refl

pub function_writes : (s : Source) (t : Term) (w0 : Walk) (p : Place) (n : ℕ) (vs : List ℕ) (m : Made) (w1 w2 w3 : Walk)
    → (node_of t ≡ node.MoreFunBinds → ⊥) → Is (place_at t) p → Is (arguments_in (head (first_clause t))) n → Is (new_names (codes "v") n w0.made).0 vs → Is (new_names (codes "v") n w0.made).1 m
    → Is (marked (function_begins p vs) (record w0 { made = m })) w1 → Is (behind (functions (scope s w1) t) w1) w2 → Is (marked (function_ends p n) w2) w3
    → w3 ≡ behind (function_of (scope s w0) t) w0
function_writes s t w0 _ _ _ _ w1 w2 w3 f same same same same b r e =
    let p = place_at t in
    let n = arguments_in (head (first_clause t)) in
    let x = new_names (codes "v") n w0.made in
    (one_part (λ d. functions (scope_of s.names d) t) (function_node p x.0) (function_begins p x.0) (λ y. function_ends p n) (record w0 { made = x.1 }) w1 w2 w3 (λ y. function_spells p x.0 n y (named_length (codes "v") n w0.made)) (function_single p x.0) b r e).walk
    ∙ ap (λ (g : Makes Forest). behind g w0) (plain_function (scope s w0) t f)

-- clauses
pub clause_writes : (s : Source) (p : Place) (h a : Term) (w0 : Walk) (n : ℕ) (w1 w2 w3 w4 : Walk) (vars : List Bound)
    → Is (writes_pattern (head_of (scope s w0) p h) w0) w1 → Is (head_of (scope s w0) p h w0.made).0.vars vars → Is (seen (env_of vars) w1) w2
    → Is (behind (expressions elsewhere (scope s w2) a) w2) w3 → length w0.bindings.values ≡ n → Is (unseen n w3) w4
    → w4 ≡ behind (functions (scope s w0) (two node.Clause p h a)) w0
clause_writes s p h a w0 n _ _ _ _ _ same same same same e same =
    let x = head_of (scope s w0) p h w0.made in
    let y = expressions elsewhere (within (scope s w0) (env_of x.0.vars)) a x.1 in
    ap (λ b. record { made = y.1; bindings = record { values = b; types = w0.bindings.types; tyvars = w0.bindings.tyvars }; marks = (w0.marks ++ marks x.0.forest) ++ marks y.0 }) (oldest_behind n (env_of x.0.vars).values w0.bindings.values e)
    ∙ marks_same (record w0 { made = y.1 }) _ _ (append_assoc w0.marks (marks x.0.forest) (marks y.0) ∙ ap (λ l. w0.marks ++ l) (sym (marks_beside x.0.forest y.0)))

pub typed_clause_writes : (s : Source) (p q : Place) (h t a : Term) (w0 : Walk) (n ty : ℕ) (w1 w2 w3 w4 w5 w6 w7 : Walk) (vars : List Bound)
    → Is (writes_pattern (head_of (scope s w0) p h) w0) w1 → Is (head_of (scope s w0) p h w0.made).0.vars vars
    → Is (made (type_of (scope s w1) t) w1) w2 → Is (type_of (scope s w1) t w1.made).0 ty
    → Is (seen (env_of vars) w2) w3 → Is (marked (Open ∷ []) w3) w4 → Is (behind (expressions elsewhere (scope s w4) a) w4) w5
    → Is (place_at a) q → Is (marked (Close (bare.Typed 0 ty) q ∷ []) w5) w6 → length w0.bindings.values ≡ n → Is (unseen n w6) w7
    → w7 ≡ behind (functions (scope s w0) (three node.TypedClause p h t a)) w0
typed_clause_writes s p _ h t a w0 n _ _ _ _ _ _ _ _ _ same same same same same same same same same e same =
    let x = head_of (scope s w0) p h w0.made in
    let u = type_of (scope s w0) t x.1 in
    let y = expressions elsewhere (within (scope s w0) (env_of x.0.vars)) a u.1 in
    let z = grown (bare.Typed 0 u.0) (place_at a) y.0 in
    ap (λ b. record { made = y.1; bindings = record { values = b; types = w0.bindings.types; tyvars = w0.bindings.tyvars }; marks = (((w0.marks ++ marks x.0.forest) ++ Open ∷ []) ++ marks y.0) ++ Close (bare.Typed 0 u.0) (place_at a) ∷ [] }) (oldest_behind n (env_of x.0.vars).values w0.bindings.values e)
    ∙ marks_same (record w0 { made = y.1 }) _ _ (gathered (w0.marks ++ marks x.0.forest) (Open ∷ []) (marks y.0) (Close (bare.Typed 0 u.0) (place_at a) ∷ []) ∙ append_assoc w0.marks (marks x.0.forest) (marks z) ∙ ap (λ l. w0.marks ++ l) (sym (marks_beside x.0.forest z)))

pub no_clause : (s : Scope) (t : Term) (n : TreeNode) → n ≡ node_of t → (n ≡ node.Clause → ⊥) → (n ≡ node.TypedClause → ⊥) → (n ≡ node.MoreFunBinds → ⊥) → (n ≡ node.MoreClauses → ⊥) → gives none ≡ functions s t
no_clause s (leaf m p) n e f g h k = refl
no_clause s (one m p a) n e f g h k = refl
no_clause s (two node.Clause p a b) n e f g h k = absurd (f e)
no_clause s (two node.MoreFunBinds p a b) n e f g h k = absurd (h e)
no_clause s (two node.MoreClauses p a b) n e f g h k = absurd (k e)
no_clause s (two _ p a b) n e f g h k = refl
no_clause s (three node.TypedClause p a b c) n e f g h k = absurd (g e)
no_clause s (three _ p a b c) n e f g h k = refl
no_clause s (four m p a b c d) n e f g h k = refl

-- declarations
alone_some : (s : Scope) (p : Place) (t : Term) (n : ℕ) (m : Made) → 1 ≤ count (function_node p (new_names (codes "v") n m).0 (functions s t (new_names (codes "v") n m).1).0)
alone_some s p t n m =
    let x = new_names (codes "v") n m in
    let e : 1 ≡ count (function_node p x.0 (functions s t x.1).0) = function_single p x.0 (functions s t x.1).0 in
    omega (arith, e)

functions_some : (s : Scope) (t : Term) (m : Made) → 1 ≤ count (function_of s t m).0
functions_some s (two node.MoreFunBinds p a b) m =
    let x = function_of s a m in
    let y = function_of s b x.1 in
    let i : 1 ≤ count x.0 = functions_some s a m in
    let c : count (x.0 & y.0) ≡ count x.0 + count y.0 = count_beside x.0 y.0 in
    omega (arith, i, c)
functions_some s (leaf n p) m = alone_some s p (leaf n p) (arguments_in (head (first_clause (leaf n p)))) m
functions_some s (one n p a) m = alone_some s p (one n p a) (arguments_in (head (first_clause (one n p a)))) m
functions_some s (two n p a b) m = alone_some s p (two n p a b) (arguments_in (head (first_clause (two n p a b)))) m
functions_some s (three n p a b c) m = alone_some s p (three n p a b c) (arguments_in (head (first_clause (three n p a b c)))) m
functions_some s (four n p a b c d) m = alone_some s p (four n p a b c d) (arguments_in (head (first_clause (four n p a b c d)))) m

rec_leads : (p : Place) (vs : List ℕ) (names : List Bound) (f : Forest) → 1 ≤ count f → leads (rec_dec p vs names f) ≡ Open ∷ Open ∷ (marks f ++ Close (bare.ValRec vs (rec_bindings names)) p ∷ [])
rec_leads p vs names none h = absurd (omega (arith, h))
rec_leads p vs names (tree n q parts rest) h = refl

rec_single : (p : Place) (vs : List ℕ) (names : List Bound) (f : Forest) → 1 ≤ count f → 1 ≡ count (rec_dec p vs names f)
rec_single p vs names none h = absurd (omega (arith, h))
rec_single p vs names (tree n q parts rest) h = refl

pub fun_declares : (s : Source) (p : Place) (vs b : Term) (w0 : Walk) (n : ℕ) (tys : List (ℕ × ℕ)) (names again : List Bound) (w1 w2 w3 w4 w5 w6 w7 w8 : Walk)
    → Is (tyvars_seen (opens (scope s w0) (tyvars s.names vs) (unguarded b)) w0) w1 → Is (opens (scope s w0) (tyvars s.names vs) (unguarded b) w0.made).0 tys
    → Is (made (names_of s.names b) w1) w2 → Is (names_of s.names b w1.made).0 names → Is names again
    → Is (seen (env_of names) w2) w3 → Is (marked (Open ∷ []) w3) w4 → Is (marked (Open ∷ []) w4) w5
    → Is (behind (function_of (scope s w5) b) w5) w6 → Is (marked (Close (bare.ValRec (numbers_of tys) (rec_bindings again)) p ∷ []) w6) w7
    → length w0.bindings.tyvars ≡ n → w8 ≡ tyvars_unseen n w7
    → Declares (decs (scope s w0) (two node.Fun p vs b)) w0 w8 1
fun_declares s p vs b w0 n _ _ _ _ _ _ _ _ _ _ w8 same same same same same same same same same same e k =
    let o = opens (scope s w0) (tyvars s.names vs) (unguarded b) w0.made in
    let x = names_of s.names b o.1 in
    let y = function_of (within (in_scope (scope s w0) o.0) (env_of x.0)) b x.1 in
    let some = functions_some (within (in_scope (scope s w0) o.0) (env_of x.0)) b x.1 in
    let close = Close (bare.ValRec (numbers_of o.0) (rec_bindings x.0)) p ∷ [] in
    record {
      walk = k ∙ ap (λ l. record { made = y.1; bindings = record { values = (env_of x.0).values ++ w0.bindings.values; types = w0.bindings.types; tyvars = l }; marks = (((w0.marks ++ Open ∷ []) ++ Open ∷ []) ++ marks y.0) ++ close }) (oldest_behind n _ w0.bindings.tyvars e)
          ∙ ap (λ l. record { made = y.1; bindings = bound_too (env_of x.0) w0.bindings; marks = l }) (gathered (w0.marks ++ Open ∷ []) (Open ∷ []) (marks y.0) close ∙ append_assoc w0.marks (Open ∷ []) _ ∙ ap (λ (l : List Mark). w0.marks ++ l) (sym (rec_leads p (numbers_of o.0) x.0 y.0 some)));
      written = rec_single p (numbers_of o.0) x.0 y.0 some;
    }
