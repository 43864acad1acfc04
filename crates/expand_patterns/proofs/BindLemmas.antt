-- Rules that are broken, and names that are bound, one behind the other.
use Rattle.std.proofs.Common.{◌≡◌, ℕ, Bool, true, false, ◌==◌, if◌then◌else◌, List, [], ◌∷◌, ◌++◌, Option, refl, sym, ap, ap₂, ◌∙◌, subst}
use Rattle.std.proofs.lemmas.Bool.{false≢true}
use Rattle.std.proofs.lemmas.List.{append_assoc, append-nil}
use Rattle.std.proofs.lemmas.List.Sums.{fold-append}
use Rattle.smlc_base.specs.declared.place.Place.{Place}
use Rattle.smlc_base.specs.declared.refusal.Refusal.{Refusal}
use Rattle.smlc_base.specs.declared.refusal.Refusal.TheVariants as refusal
use Rattle.sml_tree.specs.Parts.{parts_of}
use Rattle.sml_tree.specs.declared.tree_node.TreeNode.{TreeNode}
use Rattle.sml_tree.specs.declared.tree_node.TreeNode.TheVariants as node
use Rattle.sml_expansion.specs.declared.made.Made.{Made}
use Rattle.sml_expansion.specs.declared.scope.Bindings.{Bindings}
use Rattle.sml_expansion.specs.declared.scope.Bound.{Bound}
use Rattle.sml_expansion.specs.declared.scope.Ident.{Ident}
use Rattle.sml_expansion.specs.declared.walk.Walk.{Walk}
use Rattle.sml_expansion.specs.Clauses.{head, first_clause, name_of, arguments_in, patterns_in, arguments, name_refusals, clause_refusals, function_name, binds_function, binds_functions}
use Rattle.sml_expansion.specs.Bindings.{rec_ident, rec_name, rec_names}
use Rattle.sml_expansion.specs.Forests.{none}
use Rattle.sml_expansion.specs.Makings.{Makes, breaks, gives, ◌>>=◌}
use Rattle.sml_expansion.specs.Patterns.{plain}
use Rattle.sml_expansion.specs.Refusals.{kept}
use Rattle.sml_expansion.specs.Scopes.{Scope, scope_of, ident}
use Rattle.sml_expansion.specs.Sources.{Source, IsAt, node_at}
use Rattle.sml_expansion.specs.Terms.{Term, leaf, one, two, three, four, node_of, place_at}
use Rattle.sml_expansion.proofs.Shapes.{as_leaf}
use Rattle.expand_patterns.specs.Expands.{Binds}
use Rattle.expand_patterns.specs.Names.{binds_short, is_vid, refused_vars}

pub breaks_both : (xs ys : List Refusal) (m : Made) → (breaks (xs ++ ys) m).1 ≡ (breaks ys (breaks xs m).1).1
breaks_both xs ys m = ap (λ (r : Option Refusal). record m { refusal = r }) (fold-append kept m.refusal xs ys)

-- a walk in which rules are broken
abbrev pub broken : List Refusal → Walk → Walk
broken rs w = record w { made = (breaks rs w.made).1 }

pub broken_both : (xs ys : List Refusal) (w u v : Walk) → u ≡ broken xs w → v ≡ broken ys u → v ≡ broken (xs ++ ys) w
broken_both xs ys w u v h g = g ∙ ap (broken ys) h ∙ ap (λ (m : Made). record w { made = m }) (sym (breaks_both xs ys w.made))

pub clause_alone : (names : List (List ℕ)) (f : Ident) (n : ℕ) (t : Term) → (node_of t ≡ node.MoreClauses → ⊥)
    → clause_refusals names f n t ≡ name_refusals f (ident names (name_of (head t))) ++ (if arguments_in (head t) == n then [] else refusal.BadBinding (place_at t) ∷ [])
clause_alone names f n (two node.MoreClauses p a b) x = absurd (x refl)
clause_alone names f n (leaf _ p) x = refl
clause_alone names f n (one _ p a) x = refl
clause_alone names f n (two _ p a b) x = refl
clause_alone names f n (three _ p a b c) x = refl
clause_alone names f n (four _ p a b c d) x = refl

pub clause_broken : (names : List (List ℕ)) (f i : Ident) (n k : ℕ) (p : Place) (t : Term) (w u v : Walk) → (node_of t ≡ node.MoreClauses → ⊥) → i ≡ ident names (name_of (head t)) → k ≡ arguments_in (head t) → p ≡ place_at t
    → u ≡ broken (name_refusals f i) w → v ≡ broken (if k == n then [] else refusal.BadBinding p ∷ []) u → v ≡ broken (clause_refusals names f n t) w
clause_broken names f i n k p t w u v x hi hk hp g h =
    let Name : Ident → List Refusal = λ j. name_refusals f j in
    let Count : ℕ → Place → List Refusal = λ j q. if j == n then [] else refusal.BadBinding q ∷ [] in
    broken_both (Name i) (Count k p) w u v g h
    ∙ ap (λ (rs : List Refusal). broken rs w) (ap₂ (λ (xs ys : List Refusal). xs ++ ys) (ap Name hi) (ap₂ Count hk hp) ∙ sym (clause_alone names f n t x))

pub count_alone : (t : Term) → (node_of t ≡ node.MoreAtpats → ⊥) → patterns_in t ≡ 1
count_alone (two node.MoreAtpats p a b) x = absurd (x refl)
count_alone (leaf _ p) x = refl
count_alone (one _ p a) x = refl
count_alone (two _ p a b) x = refl
count_alone (three _ p a b c) x = refl
count_alone (four _ p a b c d) x = refl

pub arguments_alone : (t : Term) → (node_of t ≡ node.Head → ⊥) → (node_of t ≡ node.ParenHeadArgs → ⊥) → arguments_in t ≡ 1
arguments_alone (two node.Head p v ps) x y = absurd (x refl)
arguments_alone (four node.ParenHeadArgs p a v b ps) x y = absurd (y refl)
arguments_alone _ x y = refl

pub no_arguments : (t : Term) → (node_of t ≡ node.Head → ⊥) → (node_of t ≡ node.InfixHead → ⊥) → (node_of t ≡ node.ParenHead → ⊥) → (node_of t ≡ node.ParenHeadArgs → ⊥) → ◌≡◌ {A = Scope → Makes _} (λ s. arguments s t) (λ s. gives (plain none))
no_arguments (two node.Head p v ps) x y z o = absurd (x refl)
no_arguments (three node.InfixHead p a v b) x y z o = absurd (y refl)
no_arguments (three node.ParenHead p a v b) x y z o = absurd (z refl)
no_arguments (four node.ParenHeadArgs p a v b ps) x y z o = absurd (o refl)
no_arguments _ x y z o = refl

pub function_alone : (t : Term) → (node_of t ≡ node.MoreFunBinds → ⊥) → ◌≡◌ {A = Scope → Makes (List Bound)} (λ s. binds_functions s.names t) (λ s. binds_function s.names t)
function_alone (two node.MoreFunBinds p a b) x = absurd (x refl)
function_alone (leaf _ p) x = refl
function_alone (one _ p a) x = refl
function_alone (two _ p a b) x = refl
function_alone (three _ p a b c) x = refl
function_alone (four _ p a b c d) x = refl

abbrev pub both_names : (Scope → Makes (List Bound)) → (Scope → Makes (List Bound)) → Scope → Makes (List Bound)
both_names f g s = do
  x ← f s
  y ← g s
  gives (x ++ y)

vid_leaf : (n : TreeNode) → is_vid n ≡ true → parts_of n ≡ 0
vid_leaf (node.Vid x) e = refl
vid_leaf node.VidEquals e = refl
vid_leaf (node.LongVid x) e = refl
vid_leaf _ e = absurd (false≢true e)

rec_vid : (s : Scope) (w : Term) (n : TreeNode) (p : Place) → is_vid n ≡ true → rec_ident s (ident s.names (leaf n p)) ≡ rec_name s w (leaf n p)
rec_vid s w (node.Vid x) p e = refl
rec_vid s w node.VidEquals p e = refl
rec_vid s w (node.LongVid x) p e = refl
rec_vid s w _ p e = absurd (false≢true e)

pub rec_other : (s : Scope) (w t : Term) → (node_of t ≡ node.TypedPat → ⊥) → (node_of t ≡ node.Op → ⊥) → is_vid (node_of t) ≡ false → refused_vars s w ≡ rec_name s w t
rec_other s w (two node.TypedPat p a t) x y e = absurd (x refl)
rec_other s w (one node.Op p a) x y e = absurd (y refl)
rec_other s w (leaf (node.Vid x') p) x y e = absurd (false≢true (sym e))
rec_other s w (leaf node.VidEquals p) x y e = absurd (false≢true (sym e))
rec_other s w (leaf (node.LongVid x') p) x y e = absurd (false≢true (sym e))
rec_other s w _ x y e = refl

pub no_names : (s : Scope) (b : Bool) (t : Term) → (node_of t ≡ node.Rec → ⊥) → (node_of t ≡ node.MoreValBinds → ⊥) → (node_of t ≡ node.ValBind → ⊥) → gives [] ≡ rec_names s b t
no_names s b (one node.Rec p a) x y z = absurd (x refl)
no_names s b (two node.MoreValBinds p a c) x y z = absurd (y refl)
no_names s b (two node.ValBind p a c) x y z = absurd (z refl)
no_names s true _ x y z = refl
no_names s false _ x y z = refl

module _ (names : List (List ℕ)) where
  -- definitions that give the same here
  pub bind_alike : (f g : Scope → Makes (List Bound)) (w v : Walk) (b d : List Bound) → f (scope_of names w.bindings) w.made ≡ g (scope_of names w.bindings) w.made → Binds names f w v b d → Binds names g w v b d
  bind_alike f g w v b d h e = record {
    made = e.made ∙ ap (λ (r : List Bound × Made). r.1) h;
    bindings = e.bindings;
    marks = e.marks;
    vars = e.vars ∙ ap (λ (r : List Bound × Made). b ++ r.0) h;
  }

  pub both_bind : (f g : Scope → Makes (List Bound)) (w u v : Walk) (b c d : List Bound) → Binds names f w u b c → Binds names g u v c d → Binds names (both_names f g) w v b d
  both_bind f g w u v b c d e r =
      let x = f (scope_of names w.bindings) w.made in
      let same : g (scope_of names u.bindings) u.made ≡ g (scope_of names w.bindings) x.1 = ap₂ (λ (o : Bindings) (m : Made). g (scope_of names o) m) e.bindings e.made in
      record {
        made = r.made ∙ ap (λ (z : List Bound × Made). z.1) same;
        bindings = r.bindings ∙ e.bindings;
        marks = r.marks ∙ e.marks;
        vars = r.vars ∙ ap₂ (λ (l : List Bound) (z : List Bound × Made). l ++ z.0) e.vars same ∙ append_assoc b x.0 (g (scope_of names w.bindings) x.1).0;
      }

  pub function_bound : (t : Term) (f : Ident) (n : ℕ) (w u v : Walk) (b d : List Bound) → f ≡ function_name names t → n ≡ arguments_in (head (first_clause t)) → u ≡ broken (clause_refusals names f n t) w
      → Binds names (λ s. binds_short s.names f) u v b d → Binds names (λ s. binds_function s.names t) w v b d
  function_bound t f n w u v b d hf hn g e =
      let F = function_name names t in
      let at : u ≡ broken (clause_refusals names F (arguments_in (head (first_clause t))) t) w = g ∙ ap₂ (λ (i : Ident) (k : ℕ). broken (clause_refusals names i k t) w) hf hn in
      let e' : Binds names (λ s. binds_short s.names F) u v b d = subst (λ (i : Ident). Binds names (λ s. binds_short s.names i) u v b d) hf e in
      let r : Binds names (λ s. binds_short s.names F) (broken (clause_refusals names F (arguments_in (head (first_clause t))) t) w) v b d = subst (λ (o : Walk). Binds names (λ s. binds_short s.names F) o v b d) at e' in
      record { made = r.made; bindings = r.bindings; marks = r.marks; vars = r.vars }

  pub nothing_bound : (w : Walk) (b : List Bound) → Binds names (λ s. gives []) w w b b
  nothing_bound w b = record { made = refl; bindings = refl; marks = refl; vars = sym (append-nil b) }

  both_in : (inside : Bool) (p : Place) (a c : Term) (s : Scope) → both_names (λ m. rec_names m inside a) (λ m. rec_names m inside c) s ≡ rec_names s inside (two node.MoreValBinds p a c)
  both_in true p a c s = refl
  both_in false p a c s = refl

  pub both_names_bound : (inside : Bool) (p : Place) (x y : Term) (w u v : Walk) (b c d : List Bound) → Binds names (λ s. rec_names s inside x) w u b c → Binds names (λ s. rec_names s inside y) u v c d
      → Binds names (λ s. rec_names s inside (two node.MoreValBinds p x y)) w v b d
  both_names_bound inside p x y w u v b c d e r =
      bind_alike (both_names (λ s. rec_names s inside x) (λ s. rec_names s inside y)) (λ s. rec_names s inside (two node.MoreValBinds p x y)) w v b d
      (ap (λ (f : Makes (List Bound)). f w.made) (both_in inside p x y (scope_of names w.bindings)))
      (both_bind (λ s. rec_names s inside x) (λ s. rec_names s inside y) w u v b c d e r)

  -- an identifier that a recursive binding names
  pub rec_at : (t : Term) (i : Ident) (w v : Walk) (b d : List Bound) → i ≡ ident names t → Binds names (λ s. rec_ident s i) w v b d → Binds names (λ s. rec_ident s (ident s.names t)) w v b d
  rec_at t i w v b d h e = bind_alike (λ s. rec_ident s (ident names t)) (λ s. rec_ident s (ident s.names t)) w v b d refl (subst (λ (j : Ident). Binds names (λ s. rec_ident s j) w v b d) h e)

pub vid_bound : (src : Source) (at : ℕ) (t u : Term) (i : Ident) (w v : Walk) (b d : List Bound) → IsAt src at t → is_vid (node_at src at) ≡ true → i ≡ ident src.names t → Binds src.names (λ s. rec_ident s i) w v b d → Binds src.names (λ s. rec_name s u t) w v b d
vid_bound src at t u i w v b d h e =
    let Here : Term → Type 0 = λ x. i ≡ ident src.names x → Binds src.names (λ s. rec_ident s i) w v b d → Binds src.names (λ s. rec_name s u x) w v b d in
    as_leaf src at t (node_at src at) h refl (vid_leaf (node_at src at) e) Here
    (λ p j g r. bind_alike src.names (λ s. rec_ident s (ident s.names (leaf (node_at src at) p))) (λ s. rec_name s u (leaf (node_at src at) p)) w v b d
    (ap (λ (f : Makes (List Bound)). f w.made) (rec_vid (scope_of src.names w.bindings) u (node_at src at) p e)) (rec_at src.names (leaf (node_at src at) p) i w v b d g r))
