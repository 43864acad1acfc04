-- Value declarations by their parts.
use Rattle.std.proofs.Common.{◌≡◌, ℕ, suc, ◌+◌, Bool, true, false, List, [], ◌∷◌, ◌++◌, length, refl, sym, ap, subst, ◌∙◌, arith}
use Rattle.std.specs.Prelude.{Result, Ok, Err, OnOk, map, reverse}
use Rattle.std.proofs.lemmas.List.{append_assoc, append-nil}
use Rattle.smlc_base.specs.declared.place.Place.{Place}
use Rattle.sml_tree.specs.declared.bare.Node.{Node}
use Rattle.sml_tree.specs.declared.bare.Node.TheVariants as bare
use Rattle.sml_tree.specs.declared.tree_node.TreeNode.{TreeNode}
use Rattle.sml_tree.specs.declared.tree_node.TreeNode.TheVariants as node
use Rattle.sml_expansion.specs.declared.made.Made.{Made}
use Rattle.sml_expansion.specs.declared.walk.Walk.{Walk}
use Rattle.sml_expansion.specs.declared.mark.Mark.{Mark}
use Rattle.sml_expansion.specs.declared.mark.Mark.TheVariants.{Open, Close}
use Rattle.sml_expansion.specs.declared.scope.Bindings.{Bindings}
use Rattle.sml_expansion.specs.declared.scope.Bound.{Bound}
use Rattle.sml_expansion.specs.Terms.{Term, leaf, one, two, three, four, node_of, place_at}
use Rattle.sml_expansion.specs.Sources.{Source, IsAt}
use Rattle.sml_expansion.specs.Scoped.{oldest}
use Rattle.sml_expansion.specs.Scopes.{Scope, Env, scope_of, within}
use Rattle.sml_expansion.specs.Forests.{Forest, none, tree, grown, count, ◌&◌}
use Rattle.sml_expansion.specs.Marks.{marks}
use Rattle.sml_expansion.specs.Makings.{Makes, gives, breaks}
use Rattle.sml_expansion.specs.Bare.{typed_node}
use Rattle.sml_expansion.specs.Patterns.{env_of}
use Rattle.sml_expansion.specs.TypeVariables.{tyvars, unguarded, opens, numbers_of}
use Rattle.sml_expansion.specs.Bindings.{rec_names, annotations, fn_on_the_right}
use Rattle.sml_expansion.specs.Expressions.{expressions, elsewhere, plain_bindings, rec_rights, both, plain_dec, rec_dec, rec_bindings, decs}
use Rattle.sml_expansion.proofs.ScopedLemmas.{oldest_behind}
use Rattle.sml_derive.specs.Forms.{times}
use Rattle.sml_derive.specs.Steps.{scope, made, marked, behind, bound_too, writes_pattern, seen, unseen, leads, Binds, Declares}
use Rattle.sml_derive.specs.Values.{tyvars_seen, tyvars_unseen, unless_none, named, typed_ends, Leads, BindsLed}
use Rattle.sml_derive.proofs.Schemas.{Is, same, is, marks_same, gathered}
use Rattle.sml_derive.proofs.Times.{times_last}
use Rattle.sml_derive.proofs.Spines.{behind_both}
use Rattle.sml_derive.proofs.Counting.{count_beside}
use Rattle.sml_derive.proofs.Declaring.{leads_beside}

-- a walk by its parts
walk_is : (w : Walk) (m : Made) (b : Bindings) (l : List Mark) → w.made ≡ m → w.bindings ≡ b → w.marks ≡ l → w ≡ record { made = m; bindings = b; marks = l }
walk_is w m b l e f g = ap (λ (x : Made). record { made = x; bindings = w.bindings; marks = w.marks }) e ∙ ap (λ (x : Bindings). record { made = m; bindings = x; marks = w.marks }) f ∙ ap (λ (x : List Mark). record { made = m; bindings = b; marks = x }) g

bindings_are : (a b : Bindings) (e : Env) → scope_of [] b ≡ within (scope_of [] a) e → b ≡ bound_too e a
bindings_are a b e h = ap (λ (s : Scope). record { values = s.env.values; types = s.env.types; tyvars = s.tyvars }) h

seen_is : (a b : Walk) (e : Env) → ((names : List (List ℕ)) → scope_of names b.bindings ≡ within (scope_of names a.bindings) e) → b.made ≡ a.made → b.marks ≡ a.marks → b ≡ seen e a
seen_is a b e h f g = walk_is b a.made (bound_too e a.bindings) a.marks f (bindings_are a.bindings b.bindings e (h [])) g

pub on_seen : {E : Type 0} (r : Result (Unit {0}) E) (a b : Walk) (e : Env) → OnOk r ((names : List (List ℕ)) → scope_of names b.bindings ≡ within (scope_of names a.bindings) e) → OnOk r (b.made ≡ a.made) → OnOk r (b.marks ≡ a.marks) → OnOk r (b ≡ seen e a)
on_seen (Ok u) a b e h f g = seen_is a b e h f g
on_seen (Err x) a b e h f g = tt

-- the plain part
plain_unless : (p : Place) (vs : List ℕ) (f : Forest) → unless_none (bare.Val vs []) p f ≡ plain_dec p vs f
plain_unless p vs none = refl
plain_unless p vs (tree n q parts rest) = refl

rec_unless : (p : Place) (vs : List ℕ) (names : List Bound) (f : Forest) → unless_none (bare.ValRec vs (rec_bindings names)) p f ≡ rec_dec p vs names f
rec_unless p vs names none = refl
rec_unless p vs names (tree n q parts rest) = refl

-- what is written where a declaration ends
pub Finishes : Node → Place → Walk → Walk → ℕ → ℕ → Type 0
Finishes n p w v from trees = (f : Forest) (before : List Mark) → w.marks ≡ before ++ Open ∷ Open ∷ marks f → from ≡ length before → (v ≡ record w { marks = before ++ leads (unless_none n p f) }) × (trees ≡ count (unless_none n p f))

pub plain_led : (s : Source) (t : Term) (p : Place) (nums : List ℕ) (n : Node) (w0 w1 w2 w3 : Walk) (vs us : List Bound) (from trees : ℕ) → Is (bare.Val nums []) n → Is (marked (Open ∷ Open ∷ []) w0) w1 → from ≡ length w0.marks
    → Binds (plain_bindings (scope s w1) t) w1 w2 vs us
    → ((f : Forest) (before : List Mark) → w2.marks ≡ before ++ Open ∷ Open ∷ marks f → from ≡ length before → (w3 ≡ record w2 { marks = before ++ leads (unless_none n p f) }) × (trees ≡ count (unless_none n p f)))
    → BindsLed (plain_bindings (scope s w0) t) (plain_dec p nums) w0 w3 vs us trees
plain_led s t p nums _ w0 _ w2 w3 vs us from trees same same l h k = step w2 (is h.walk) k
  where
    step : (w2 : Walk) → Is (writes_pattern (plain_bindings (scope s w0) t) (marked (Open ∷ Open ∷ []) w0)) w2
        → ((f : Forest) (before : List Mark) → w2.marks ≡ before ++ Open ∷ Open ∷ marks f → from ≡ length before → (w3 ≡ record w2 { marks = before ++ leads (unless_none (bare.Val nums []) p f) }) × (trees ≡ count (unless_none (bare.Val nums []) p f)))
        → BindsLed (plain_bindings (scope s w0) t) (plain_dec p nums) w0 w3 vs us trees
    step _ same k =
        let x = plain_bindings (scope s w0) t w0.made in
        let z = k x.0.forest w0.marks (append_assoc w0.marks (Open ∷ Open ∷ []) (marks x.0.forest)) l in
        record {
          walk = z.0 ∙ marks_same (record w0 { made = x.1 }) _ _ (ap (λ (f : Forest). w0.marks ++ leads f) (plain_unless p nums x.0.forest));
          bound = h.bound;
          written = z.1 ∙ ap count (plain_unless p nums x.0.forest);
        }

-- the recursive part
pub rec_led : (s : Source) (t : Term) (p : Place) (nums : List ℕ) (names : List Bound) (n : Node) (around from trees : ℕ) (w0 w1 w2 w3 w4 w5 : Walk) → Is (bare.ValRec nums (rec_bindings names)) n → around ≡ length w0.bindings.values
    → Is (seen (env_of names) w0) w1 → Is (marked (Open ∷ Open ∷ []) w1) w2 → from ≡ length w1.marks → Is (behind (rec_rights false (scope s w2) t) w2) w3 → Is (unseen around w3) w4
    → ((f : Forest) (before : List Mark) → w4.marks ≡ before ++ Open ∷ Open ∷ marks f → from ≡ length before → (w5 ≡ record w4 { marks = before ++ leads (unless_none n p f) }) × (trees ≡ count (unless_none n p f)))
    → Leads (rec_rights false (within (scope s w0) (env_of names)) t) (rec_dec p nums names) w0 w5 trees
rec_led s t p nums names _ around from trees w0 _ _ _ _ w5 same a same same l same same k =
    let x = rec_rights false (within (scope s w0) (env_of names)) t w0.made in
    let z = k x.0 w0.marks (append_assoc w0.marks (Open ∷ Open ∷ []) (marks x.0)) l in
    record {
      walk = z.0
          ∙ ap (λ (v : List _). record { made = x.1; bindings = record { values = v; types = w0.bindings.types; tyvars = w0.bindings.tyvars }; marks = w0.marks ++ leads (unless_none (bare.ValRec nums (rec_bindings names)) p x.0) }) (oldest_behind around (env_of names).values w0.bindings.values (sym a))
          ∙ marks_same (record w0 { made = x.1 }) _ _ (ap (λ (f : Forest). w0.marks ++ leads f) (rec_unless p nums names x.0));
      written = z.1 ∙ ap count (rec_unless p nums names x.0);
    }

-- right sides
pub typed_spells : (p : Place) (types : List ℕ) (e : Forest) → marks (typed_node p types e) ≡ times (length types) (Open ∷ []) ++ (marks e ++ typed_ends p types)
typed_spells p [] e = sym (append-nil (marks e))
typed_spells p (t ∷ types) e =
    typed_spells p types (grown (bare.Typed 0 t) p e)
    ∙ ap (λ (l : List Mark). times (length types) (Open ∷ []) ++ (Open ∷ l)) (append_assoc (marks e) (Close (bare.Typed 0 t) p ∷ []) (typed_ends p types))
    ∙ sym (append_assoc (times (length types) (Open ∷ [])) (Open ∷ []) (marks e ++ typed_ends p (t ∷ types)))
    ∙ ap (λ (l : List Mark). l ++ (marks e ++ typed_ends p (t ∷ types))) (times_last (length types) (Open ∷ []))

pub right_writes : (s : Source) (p : Place) (q a : Term) (w0 : Walk) (m1 m2 : Made) (types first second : List ℕ) (place : Place) (w3 w4 w5 : Walk) → Is (breaks (fn_on_the_right a) w0.made).1 m1 → Is (annotations (scope s w0) q m1).1 m2 → Is (annotations (scope s w0) q m1).0 types → Is types first → Is types second
    → Is (place_at a) place → Is (marked (times (length first) (Open ∷ [])) (record w0 { made = m2 })) w3 → Is (behind (expressions elsewhere (scope s w3) a) w3) w4 → Is (marked (typed_ends place second) w4) w5
    → w5 ≡ behind (rec_rights true (scope s w0) (two node.ValBind p q a)) w0
right_writes s p q a w0 _ _ _ _ _ _ _ _ _ same same same same same same same same same =
    let x = annotations (scope s w0) q (breaks (fn_on_the_right a) w0.made).1 in
    let y = expressions elsewhere (scope s w0) a x.1 in
    marks_same (record w0 { made = y.1 }) _ _ (gathered w0.marks (times (length x.0) (Open ∷ [])) (marks y.0) (typed_ends (place_at a) x.0) ∙ ap (λ (l : List Mark). w0.marks ++ l) (sym (typed_spells (place_at a) x.0 y.0)))

pub no_rights : (s : Scope) (b : Bool) (t : Term) → (node_of t ≡ node.Rec → ⊥) → (node_of t ≡ node.MoreValBinds → ⊥) → (node_of t ≡ node.ValBind → ⊥) → gives none ≡ rec_rights b s t
no_rights s b (one node.Rec p a) x y z = absurd (x refl)
no_rights s b (two node.MoreValBinds p a c) x y z = absurd (y refl)
no_rights s b (two node.ValBind p a c) x y z = absurd (z refl)
no_rights s true _ x y z = refl
no_rights s false _ x y z = refl

-- what is left of the right sides
pub record LeftRights (s : Source) (first : Bool) (t : Term) (before now : Walk) (inside : Bool) (at : ℕ) : Type 0 where
  pub term : Term
  pub stands : IsAt s at term
  pub goes : (w : Walk) → w ≡ behind (rec_rights inside (scope s now) term) now → w ≡ behind (rec_rights first (scope s before) t) before

pub begun_rights : (s : Source) (b : Bool) (t : Term) (w : Walk) (at : ℕ) → IsAt s at t → LeftRights s b t w w b at
begun_rights s b t w at k = record { term = t; stands = k; goes = λ v e. e }

more_rights : (i : Bool) (s : Scope) (p : Place) (x y : Term) → rec_rights i s (two node.MoreValBinds p x y) ≡ both (rec_rights i s x) (rec_rights i s y)
more_rights true s p x y = refl
more_rights false s p x y = refl

pub right_less : (s : Source) (b i : Bool) (t x y : Term) (p : Place) (before now next : Walk) (at rest : ℕ) (l : LeftRights s b t before now i at) → IsAt s rest y → l.term ≡ two node.MoreValBinds p x y → next ≡ behind (rec_rights i (scope s now) x) now → LeftRights s b t before next i rest
right_less s b i t x y p before now next at rest l k e h = record {
  term = y;
  stands = k;
  goes = λ w g. l.goes w (behind_both (rec_rights i (scope s now) x) (λ n. rec_rights i (scope_of s.names n) y) now next w (is h) (is g) ∙ ap (λ (f : Makes Forest). behind f now) (sym (more_rights i (scope s now) p x y)) ∙ ap (λ (u : Term). behind (rec_rights i (scope s now) u) now) (sym e));
}

pub rec_less : (s : Source) (b i : Bool) (t x : Term) (p : Place) (before now : Walk) (at rest : ℕ) (l : LeftRights s b t before now i at) → IsAt s rest x → l.term ≡ one node.Rec p x → LeftRights s b t before now true rest
rec_less s b i t x p before now at rest l k e = record {
  term = x;
  stands = k;
  goes = λ w g. l.goes w (g ∙ ap (λ (u : Term). behind (rec_rights i (scope s now) u) now) (sym e));
}

-- the whole declaration
pub val_declares : (s : Source) (p : Place) (vs b : Term) (w0 : Walk) (bound first second : List (ℕ × ℕ)) (empty vars more all names rest : List Bound) (around i j k : ℕ) (w1 w2 w3 w4 w5 w6 : Walk)
    → Is (opens (scope s w0) (tyvars s.names vs) (unguarded b) w0.made).0 bound → Is bound first → Is bound second → Is (tyvars_seen (opens (scope s w0) (tyvars s.names vs) (unguarded b)) w0) w1
    → Is [] empty → BindsLed (plain_bindings (scope s w1) b) (plain_dec p (numbers_of first)) w1 w2 empty vars i
    → Is (rec_names (scope s w2) false b w2.made).0 names → Is names rest → Is (made (named vars (rec_names (scope s w2) false b)) w2) w3 → Is (vars ++ names) more → Is more all
    → Leads (rec_rights false (within (scope s w3) (env_of rest)) b) (rec_dec p (numbers_of second) rest) w3 w4 j
    → around ≡ length w0.bindings.tyvars → Is (tyvars_unseen around w4) w5 → Is (seen (env_of all) w5) w6 → k ≡ i + j
    → Declares (decs (scope s w0) (two node.Val p vs b)) w0 w6 k
val_declares s p vs b w0 _ _ _ _ vars more _ names _ around i j k _ w2 w3 w4 w5 w6 same same same same same h n same m o same g a u z e = step vars w2 names w3 more w4 w5 w6 (is h.bound) (is h.walk) h.written n m o (is g.walk) g.written u z
  where
    step : (vars : List Bound) (w2 : Walk) (names : List Bound) (w3 : Walk) (more : List Bound) (w4 w5 w6 : Walk)
        → let o = opens (scope s w0) (tyvars s.names vs) (unguarded b) w0.made in
        let c = scope_of s.names (record { values = w0.bindings.values; types = w0.bindings.types; tyvars = reverse o.0 ++ w0.bindings.tyvars }) in
        let x = plain_bindings c b o.1 in
        Is x.0.vars vars
        → Is (record { made = x.1; bindings = record { values = w0.bindings.values; types = w0.bindings.types; tyvars = reverse o.0 ++ w0.bindings.tyvars }; marks = w0.marks ++ leads (plain_dec p (numbers_of o.0) x.0.forest) }) w2
        → i ≡ count (plain_dec p (numbers_of o.0) x.0.forest)
        → Is (rec_names (scope s w2) false b w2.made).0 names → Is (made (named vars (rec_names (scope s w2) false b)) w2) w3 → Is (vars ++ names) more
        → Is (record { made = (rec_rights false (within (scope s w3) (env_of names)) b w3.made).1; bindings = w3.bindings; marks = w3.marks ++ leads (rec_dec p (numbers_of o.0) names (rec_rights false (within (scope s w3) (env_of names)) b w3.made).0) }) w4
        → j ≡ count (rec_dec p (numbers_of o.0) names (rec_rights false (within (scope s w3) (env_of names)) b w3.made).0)
        → Is (tyvars_unseen around w4) w5 → Is (seen (env_of more) w5) w6
        → Declares (decs (scope s w0) (two node.Val p vs b)) w0 w6 k
    step _ _ _ _ _ _ _ _ same same c same same same same d same same =
        let o = opens (scope s w0) (tyvars s.names vs) (unguarded b) w0.made in
        let sc = scope_of s.names (record { values = w0.bindings.values; types = w0.bindings.types; tyvars = reverse o.0 ++ w0.bindings.tyvars }) in
        let x = plain_bindings sc b o.1 in
        let r = named x.0.vars (rec_names sc false b) x.1 in
        let y = rec_rights false (within sc (env_of r.0)) b r.1 in
        let plain = plain_dec p (numbers_of o.0) x.0.forest in
        let recursive = rec_dec p (numbers_of o.0) r.0 y.0 in
        let q : count (plain & recursive) ≡ count plain + count recursive = count_beside plain recursive in
        record {
          walk =
              ap (λ (l : List (ℕ × ℕ)). record { made = y.1; bindings = record { values = (env_of (x.0.vars ++ r.0)).values ++ w0.bindings.values; types = w0.bindings.types; tyvars = l }; marks = (w0.marks ++ leads plain) ++ leads recursive }) (oldest_behind around (reverse o.0) w0.bindings.tyvars (sym a))
              ∙ ap (λ (l : List Mark). record { made = y.1; bindings = record { values = (env_of (x.0.vars ++ r.0)).values ++ w0.bindings.values; types = w0.bindings.types; tyvars = w0.bindings.tyvars }; marks = l }) (append_assoc w0.marks (leads plain) (leads recursive) ∙ ap (λ (l : List Mark). w0.marks ++ l) (sym (leads_beside plain recursive)));
          written = omega (arith, e, c, d, q);
        }
