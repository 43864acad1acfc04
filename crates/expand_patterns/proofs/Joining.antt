-- Patterns beside each other, and behind what is made first.
use Rattle.std.proofs.Common.{◌≡◌, ℕ, suc, ◌+◌, List, [], ◌∷◌, ◌++◌, refl, sym, ap, ap₂, ◌∙◌, subst, arith}
use Rattle.std.proofs.lemmas.List.{append_assoc, append-nil}
use Rattle.smlc_base.specs.declared.place.Place.{Place}
use Rattle.sml_tree.specs.declared.tree_node.TreeNode.TheVariants as node
use Rattle.sml_tree.specs.declared.bare.Lab.{Lab}
use Rattle.sml_tree.specs.declared.bare.Node.TheVariants as bare
use Rattle.sml_expansion.specs.declared.made.Made.{Made}
use Rattle.sml_expansion.specs.declared.mark.Mark.{Mark}
use Rattle.sml_expansion.specs.declared.mark.Mark.TheVariants.{Open, Close}
use Rattle.sml_expansion.specs.declared.scope.Bindings.{Bindings}
use Rattle.sml_expansion.specs.declared.scope.Bound.{Bound}
use Rattle.sml_expansion.specs.declared.scope.Ident.{Ident}
use Rattle.sml_expansion.specs.declared.walk.Walk.{Walk}
use Rattle.sml_expansion.specs.Bare.{record_pattern, list_pattern, con_pattern, con_nil, con_cons, fields}
use Rattle.sml_expansion.specs.Forests.{Forest, none, tree, grown, count, ◌&◌}
use Rattle.sml_expansion.specs.Labels.{numbers}
use Rattle.sml_expansion.specs.Makings.{Makes, Runs, gives, ◌>>=◌}
use Rattle.sml_expansion.specs.Marks.{marks}
use Rattle.sml_expansion.specs.Patterns.{Pattern, beside, binds, layer, layered, typed, under_type, identifier, patterns}
use Rattle.sml_expansion.specs.Scopes.{Scope, scope_of, ident, meaning_of}
use Rattle.sml_expansion.specs.Terms.{Term, one, two, three}
use Rattle.sml_expansion.specs.Types.{labels, labs_of, labels_once, type_of}
use Rattle.sml_expansion.proofs.MarkLemmas.{marks_beside}
use Rattle.expand_patterns.specs.Expands.{Expands}
use Rattle.expand_patterns.specs.Opens.{opened, wrapped, at_argument, items, item_ends, Opens}
use Rattle.expand_patterns.proofs.Behind.{agree}

pub count_beside : (f g : Forest) → count (f & g) ≡ count f + count g
count_beside none g = omega arith
count_beside (tree n p parts rest) g = let h : count (rest & g) ≡ count rest + count g = count_beside rest g in omega (arith, h)

items_beside : (f g : Forest) → items (f & g) ≡ items f ++ items g
items_beside none g = refl
items_beside (tree n p parts rest) g =
    ap (λ l. Open ∷ Open ∷ (marks (grown n p parts) ++ l)) (items_beside rest g)
    ∙ ap (λ l. Open ∷ Open ∷ l) (sym (append_assoc (marks (grown n p parts)) (items rest) (items g)))

-- one tree as an item
items_one : (g : Forest) → count g ≡ 1 → items g ≡ Open ∷ Open ∷ marks g
items_one none h = absurd (omega (arith, h))
items_one (tree n p parts none) h = ap (λ l. Open ∷ Open ∷ l) (append-nil (marks (grown n p parts)))
items_one (tree n p parts (tree m q more rest)) h = absurd (omega (arith, h))

-- a list pattern is one tree
pub list_one : (p : Place) (f : Forest) → count (list_pattern p f) ≡ 1
list_one p none = refl
list_one p (tree n q parts rest) = refl

-- the marks of a list pattern
regroup : (x i n e : List Mark) (o c k l : Mark) → o ∷ ((o ∷ ((o ∷ (x ++ c ∷ (i ++ (n ++ e)))) ++ k ∷ [])) ++ l ∷ []) ≡ (o ∷ o ∷ ((o ∷ (x ++ c ∷ [])) ++ i)) ++ (n ++ (e ++ k ∷ l ∷ []))
regroup x i n e o c k l = simp append_assoc

pub list_marks : (p : Place) (f : Forest) → marks (list_pattern p f) ≡ items f ++ (marks (con_pattern p con_nil) ++ item_ends p (count f))
list_marks p none = refl
list_marks p (tree n q parts rest) =
    let left = list_pattern p rest in
    let pair : count (grown n q parts & left) ≡ 2 = ap suc (list_one p rest) in
    let End : ℕ → Mark = λ j. Close (bare.PatRecord (fields (numbers 0 j))) p in
    let Whole : ℕ → List Mark → List Mark = λ j m. Open ∷ ((Open ∷ ((Open ∷ (marks parts ++ Close n q ∷ m)) ++ End j ∷ [])) ++ Close (bare.PatApp con_cons 0) p ∷ []) in
    ap (λ j. Whole j (marks left)) pair ∙ ap (Whole 2) (list_marks p rest)
    ∙ regroup (marks parts) (items rest) (marks (con_pattern p con_nil)) (item_ends p (count rest)) Open (Close n q) (End 2) (Close (bare.PatApp con_cons 0) p)

abbrev pub both : (Scope → Makes Pattern) → (Scope → Makes Pattern) → Scope → Makes Pattern
both f g s = do
  x ← f s
  y ← g s
  gives (beside x y)

module _ (names : List (List ℕ)) where
  -- what the second gives is what it gives behind the first
  behind : (f g : Scope → Makes Pattern) (w u : Walk) → u.bindings ≡ w.bindings → u.made ≡ (f (scope_of names w.bindings) w.made).1 → g (scope_of names u.bindings) u.made ≡ g (scope_of names w.bindings) (f (scope_of names w.bindings) w.made).1
  behind f g w u h m = ap₂ (λ (b : Bindings) (d : Made). g (scope_of names b) d) h m

  pub both_expand : (f g : Scope → Makes Pattern) (n m k : ℕ) (w u v : Walk) (b c d : List Bound) → k ≡ n + m → Expands names f n w u b c → Expands names g m u v c d → Expands names (both f g) k w v b d
  both_expand f g n m k w u v b c d h e r =
      let x = f (scope_of names w.bindings) w.made in
      let y = g (scope_of names w.bindings) x.1 in
      let same : g (scope_of names u.bindings) u.made ≡ y = behind f g w u e.bindings e.made in
      let many : m ≡ count y.0.forest = r.trees ∙ ap (λ (z : Pattern × Made). count z.0.forest) same in
      let all : count (x.0.forest & y.0.forest) ≡ count x.0.forest + count y.0.forest = count_beside x.0.forest y.0.forest in
      let first : n ≡ count x.0.forest = e.trees in
      record {
        made = r.made ∙ ap (λ (z : Pattern × Made). z.1) same;
        bindings = r.bindings ∙ e.bindings;
        marks = r.marks ∙ ap₂ (λ (l : List Mark) (z : Pattern × Made). l ++ marks z.0.forest) e.marks same ∙ append_assoc w.marks (marks x.0.forest) (marks y.0.forest) ∙ ap (λ l. w.marks ++ l) (sym (marks_beside x.0.forest y.0.forest));
        vars = r.vars ∙ ap₂ (λ (l : List Bound) (z : Pattern × Made). l ++ z.0.vars) e.vars same ∙ append_assoc b x.0.vars y.0.vars;
        trees = h ∙ ap₂ (λ i j. i + j) first many ∙ sym all;
      }

  pub both_open : (f g : Scope → Makes Pattern) (n m k : ℕ) (w u v : Walk) (b c d : List Bound) → k ≡ n + m → Opens names f n w u b c → Opens names g m u v c d → Opens names (both f g) k w v b d
  both_open f g n m k w u v b c d h e r =
      let x = f (scope_of names w.bindings) w.made in
      let y = g (scope_of names w.bindings) x.1 in
      let same : g (scope_of names u.bindings) u.made ≡ y = behind f g w u e.bindings e.made in
      let many : m ≡ count y.0.forest = r.trees ∙ ap (λ (z : Pattern × Made). count z.0.forest) same in
      let all : count (x.0.forest & y.0.forest) ≡ count x.0.forest + count y.0.forest = count_beside x.0.forest y.0.forest in
      let first : n ≡ count x.0.forest = e.trees in
      record {
        made = r.made ∙ ap (λ (z : Pattern × Made). z.1) same;
        bindings = r.bindings ∙ e.bindings;
        marks = r.marks ∙ ap₂ (λ (l : List Mark) (z : Pattern × Made). l ++ items z.0.forest) e.marks same ∙ append_assoc w.marks (items x.0.forest) (items y.0.forest) ∙ ap (λ l. w.marks ++ l) (sym (items_beside x.0.forest y.0.forest));
        vars = r.vars ∙ ap₂ (λ (l : List Bound) (z : Pattern × Made). l ++ z.0.vars) e.vars same ∙ append_assoc b x.0.vars y.0.vars;
        trees = h ∙ ap₂ (λ i j. i + j) first many ∙ sym all;
      }

  -- a pattern that is one tree, behind two opened nodes
  pub alone_opens : (f : Scope → Makes Pattern) (n : ℕ) (w o u v : Walk) (b d : List Bound) → o ≡ opened w → u ≡ opened o → count (f (scope_of names w.bindings) w.made).0.forest ≡ 1 → Expands names f n u v b d → Opens names f 1 w v b d
  alone_opens f n w o u v b d h k only e =
      let at : u ≡ opened (opened w) = k ∙ ap opened h in
      let e' : Expands names f n (opened (opened w)) v b d = subst (λ i. Expands names f n i v b d) at e in
      let x = f (scope_of names w.bindings) w.made in
      record {
        made = e'.made;
        bindings = e'.bindings;
        marks = e'.marks ∙ append_assoc (w.marks ++ Open ∷ []) (Open ∷ []) (marks x.0.forest) ∙ append_assoc w.marks (Open ∷ []) (Open ∷ marks x.0.forest) ∙ ap (λ l. w.marks ++ l) (sym (items_one x.0.forest only));
        vars = e'.vars;
        trees = sym only;
      }

  -- what is made before a pattern
  pub typed_from : (f : Scope → Makes Pattern) (p : Place) (t : Term) (ty n : ℕ) (m : Made) (w v : Walk) (b d : List Bound) → Runs (type_of (scope_of names w.bindings) t) w.made ty m
      → Expands names (wrapped f (λ s. typed p ty)) n (record w { made = m }) v b d → Expands names (λ s. under_type s p t (f s)) n w v b d
  typed_from f p t ty n m w v b d r e =
      let Rest : ℕ × Made → Pattern × Made = λ z. wrapped f (λ s. typed p z.0) (scope_of names w.bindings) z.1 in
      let same : Rest (ty, m) ≡ under_type (scope_of names w.bindings) p t (f (scope_of names w.bindings)) w.made = ap Rest (sym r) in
      record {
        made = e.made ∙ ap (λ (z : Pattern × Made). z.1) same;
        bindings = e.bindings;
        marks = e.marks ∙ ap (λ (z : Pattern × Made). w.marks ++ marks z.0.forest) same;
        vars = e.vars ∙ ap (λ (z : Pattern × Made). b ++ z.0.vars) same;
        trees = e.trees ∙ ap (λ (z : Pattern × Made). count z.0.forest) same;
      }

  pub layered_from : (f : Scope → Makes Pattern) (p : Place) (i : Ident) (x n : ℕ) (w u v : Walk) (b c d : List Bound) → u ≡ record w { made = (binds names i w.made).1 } → c ≡ b ++ (binds names i w.made).0 ∷ [] → x ≡ (binds names i w.made).0.name
      → Expands names (wrapped f (λ s. layer p x (meaning_of s i.key))) n u v c d → Expands names (λ s. layered s p i (f s)) n w v b d
  layered_from f p i x n w u v b c d h k l e =
      let y = binds names i w.made in
      let W : Walk = record w { made = y.1 } in
      let a : Expands names (wrapped f (λ s. layer p x (meaning_of s i.key))) n W v c d = subst (λ (o : Walk). Expands names (wrapped f (λ s. layer p x (meaning_of s i.key))) n o v c d) h e in
      let e' : Expands names (wrapped f (λ s. layer p y.0.name (meaning_of s i.key))) n W v c d = subst (λ (z : ℕ). Expands names (wrapped f (λ s. layer p z (meaning_of s i.key))) n W v c d) l a in
      let z = f (scope_of names w.bindings) y.1 in
      record {
        made = e'.made;
        bindings = e'.bindings;
        marks = e'.marks;
        vars = e'.vars ∙ ap (λ o. o ++ z.0.vars) k ∙ append_assoc b (y.0 ∷ []) z.0.vars;
        trees = e'.trees;
      }

  pub rows_from : (p : Place) (a : Term) (labs : List (Lab × Place)) (n : ℕ) (m : Made) (w v : Walk) (b d : List Bound) → labs ≡ labels names a → Runs (labels_once labs) w.made tt m
      → Expands names (wrapped (λ s. patterns s a) (λ s. record_pattern p (labs_of labs))) n (record w { made = m }) v b d → Expands names (λ s. patterns s (one node.PatRecord p a)) n w v b d
  rows_from p a labs n m w v b d h r e =
      let S = scope_of names w.bindings in
      let Rest : List (Lab × Place) → Made → Pattern × Made = λ l z. wrapped (λ s. patterns s a) (λ s. record_pattern p (labs_of l)) S z in
      let once : m ≡ (labels_once (labels names a) w.made).1 = ap (λ (z : Unit {0} × Made). z.1) (sym r) ∙ ap (λ l. (labels_once l w.made).1) h in
      let same : Rest labs m ≡ patterns S (one node.PatRecord p a) w.made = ap₂ Rest h once in
      record {
        made = e.made ∙ ap (λ (z : Pattern × Made). z.1) same;
        bindings = e.bindings;
        marks = e.marks ∙ ap (λ (z : Pattern × Made). w.marks ++ marks z.0.forest) same;
        vars = e.vars ∙ ap (λ (z : Pattern × Made). b ++ z.0.vars) same;
        trees = e.trees ∙ ap (λ (z : Pattern × Made). count z.0.forest) same;
      }

  pub applied_at : (p : Place) (t a : Term) (i : Ident) (n : ℕ) (w v : Walk) (b d : List Bound) → i ≡ ident names t → Expands names (at_argument (λ s. patterns s a) p i) n w v b d → Expands names (λ s. patterns s (two node.ConPat p t a)) n w v b d
  applied_at p t a i n w v b d h e = agree names (at_argument (λ s. patterns s a) p (ident names t)) (λ s. patterns s (two node.ConPat p t a)) n w v b d refl (subst (λ (j : Ident). Expands names (at_argument (λ s. patterns s a) p j) n w v b d) h e)

  pub infix_at : (p : Place) (a t c : Term) (i : Ident) (n : ℕ) (w v : Walk) (b d : List Bound) → i ≡ ident names t → Expands names (at_argument (λ s. patterns s (two node.PatTuple p a c)) p i) n w v b d → Expands names (λ s. patterns s (three node.InfixPat p a t c)) n w v b d
  infix_at p a t c i n w v b d h e =
      let f = λ (s : Scope). patterns s (two node.PatTuple p a c) in
      agree names (at_argument f p (ident names t)) (λ s. patterns s (three node.InfixPat p a t c)) n w v b d refl (subst (λ (j : Ident). Expands names (at_argument f p j) n w v b d) h e)

  pub layered_at : (p : Place) (t : Term) (f : Scope → Makes Pattern) (i : Ident) (n : ℕ) (w v : Walk) (b d : List Bound) → i ≡ ident names t → Expands names (λ s. layered s p i (f s)) n w v b d → Expands names (λ s. layered s p (ident s.names t) (f s)) n w v b d
  layered_at p t f i n w v b d h e = agree names (λ s. layered s p (ident names t) (f s)) (λ s. layered s p (ident s.names t) (f s)) n w v b d refl (subst (λ (j : Ident). Expands names (λ s. layered s p j (f s)) n w v b d) h e)

  -- an identifier alone
  pub identifier_at : (p : Place) (t : Term) (i : Ident) (n : ℕ) (w v : Walk) (b d : List Bound) → i ≡ ident names t → Expands names (λ s. identifier s.names p i (meaning_of s i.key)) n w v b d
      → Expands names (λ s. identifier s.names p (ident s.names t) (meaning_of s (ident s.names t).key)) n w v b d
  identifier_at p t i n w v b d h e = agree names (λ s. identifier s.names p (ident names t) (meaning_of s (ident names t).key)) (λ s. identifier s.names p (ident s.names t) (meaning_of s (ident s.names t).key)) n w v b d refl (subst (λ (j : Ident). Expands names (λ s. identifier s.names p j (meaning_of s j.key)) n w v b d) h e)

  pub typed_row_at : (p : Place) (l t : Term) (i : Ident) (n : ℕ) (w v : Walk) (b d : List Bound) → i ≡ ident names l → Expands names (λ s. under_type s p t (identifier s.names p i (meaning_of s i.key))) n w v b d
      → Expands names (λ s. patterns s (two node.TypedPunRow p l t)) n w v b d
  typed_row_at p l t i n w v b d h e = agree names (λ s. under_type s p t (identifier s.names p (ident names l) (meaning_of s (ident names l).key))) (λ s. patterns s (two node.TypedPunRow p l t)) n w v b d refl (subst (λ (j : Ident). Expands names (λ s. under_type s p t (identifier s.names p j (meaning_of s j.key))) n w v b d) h e)

  pub list_closed : (f : Scope → Makes Pattern) (p : Place) (k : ℕ) (before w l v : Walk) (b d : List Bound) → l ≡ record w { marks = w.marks ++ marks (con_pattern p con_nil) } → v ≡ record l { marks = l.marks ++ item_ends p k }
      → Opens names f k before w b d → Expands names (wrapped f (λ s. list_pattern p)) 1 before v b d
  list_closed f p k before w l v b d h g e =
      let x = f (scope_of names before.bindings) before.made in
      let nil = marks (con_pattern p con_nil) in
      let End : Walk → Walk = λ u. record u { marks = u.marks ++ item_ends p k } in
      let all : v ≡ record w { marks = (w.marks ++ nil) ++ item_ends p k } = g ∙ ap End h in
      record {
        made = ap (λ (u : Walk). u.made) all ∙ e.made;
        bindings = ap (λ (u : Walk). u.bindings) all ∙ e.bindings;
        marks = ap (λ (u : Walk). u.marks) all ∙ ap (λ m. (m ++ nil) ++ item_ends p k) e.marks ∙ append_assoc (before.marks ++ items x.0.forest) nil (item_ends p k)
            ∙ append_assoc before.marks (items x.0.forest) (nil ++ item_ends p k) ∙ ap (λ j. before.marks ++ (items x.0.forest ++ (nil ++ item_ends p j))) e.trees ∙ ap (λ m. before.marks ++ m) (sym (list_marks p x.0.forest));
        vars = e.vars;
        trees = sym (list_one p x.0.forest);
      }
