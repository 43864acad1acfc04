-- Patterns by what their nodes are.
use Rattle.std.proofs.Common.{◌≡◌, ℕ, List, ◌==◌, Bool, true, false, if◌then◌else◌, Option, Some, None, refl, sym, ap, ◌∙◌, subst}
use Rattle.std.proofs.lemmas.Bool.{eqb-true}
use Rattle.smlc_base.specs.declared.place.Place.{Place}
use Rattle.sml_tree.specs.declared.tree_node.TreeNode.{TreeNode}
use Rattle.sml_tree.specs.declared.tree_node.TreeNode.TheVariants as node
use Rattle.sml_tree.specs.declared.bare.Node.TheVariants as bare
use Rattle.sml_tree.specs.Parts.{parts_of}
use Rattle.sml_expansion.specs.declared.made.Made.{Made}
use Rattle.sml_expansion.specs.declared.meaning.Meaning.{Meaning}
use Rattle.sml_expansion.specs.declared.meaning.Meaning.TheVariants.{Variable, Constructor, Builtin}
use Rattle.sml_expansion.specs.declared.scope.Ident.{Ident}
use Rattle.sml_expansion.specs.Bare.{tuple_pattern, list_pattern, wild_node}
use Rattle.sml_expansion.specs.Forests.{Forest, none, grown, count}
use Rattle.sml_expansion.specs.Makings.{Makes, gives}
use Rattle.sml_expansion.specs.Patterns.{Pattern, plain, under, single, layer, applied, variable, identifier, patterns}
use Rattle.sml_expansion.specs.Scopes.{Scope, ident, meaning_of}
use Rattle.sml_expansion.specs.Sources.{Source, IsAt, node_at}
use Rattle.sml_expansion.specs.Terms.{Term, leaf, one, two, three, four, node_of, place_at}
use Rattle.sml_expansion.proofs.Shapes.{node_is, as_leaf, as_one, as_two, as_three}
use Rattle.expand_patterns.specs.declared.forms.Form.{Form}
use Rattle.expand_patterns.specs.declared.forms.Form.TheVariants as form
use Rattle.expand_patterns.specs.Forms.{form_of}
use Rattle.expand_patterns.proofs.Joining.{list_one}

-- how many parts the nodes of a form have, if that is known
abbrev pub arity : Form → ℕ → ℕ
arity form.More k = 2
arity form.Name k = 0
arity form.NamePart k = 1
arity (form.Int z) k = 0
arity (form.Char c) k = 0
arity (form.Text t) k = 0
arity form.Wild k = k
arity form.Empty k = 0
arity form.EmptyList k = 0
arity form.Inside k = 1
arity form.Row k = 2
arity form.Items k = 1
arity form.Rows k = 1
arity form.Tuple k = 2
arity form.Applied k = 2
arity form.Infix k = 3
arity form.Typed k = 2
arity form.TypedRow k = 2
arity form.Layered k = 2
arity form.TypedLayered k = 3

parts_by_form : (n : TreeNode) → parts_of n ≡ arity (form_of n) (parts_of n)
parts_by_form node.Val = refl
parts_by_form _ = refl

-- what the patterns of a term are, by its form
abbrev pub shaped : Form → Scope → Term → Makes Pattern
shaped form.More s (two n p a b) = patterns s (two node.MorePats p a b)
shaped form.Name s (leaf n p) = identifier s.names p (ident s.names (leaf n p)) (meaning_of s (ident s.names (leaf n p)).key)
shaped form.NamePart s (one n p a) = identifier s.names p (ident s.names a) (meaning_of s (ident s.names a).key)
shaped (form.Int z) s (leaf n p) = gives (plain (grown (bare.PatInt z) p none))
shaped (form.Char c) s (leaf n p) = gives (plain (grown (bare.PatChar c) p none))
shaped (form.Text t) s (leaf n p) = gives (plain (grown (bare.PatText t) p none))
shaped form.Empty s (leaf n p) = gives (plain (tuple_pattern p none))
shaped form.EmptyList s (leaf n p) = gives (plain (list_pattern p none))
shaped form.Inside s (one n p a) = single p (patterns s a)
shaped form.Row s (two n p l a) = single p (patterns s a)
shaped form.Items s (one n p a) = patterns s (one node.PatList p a)
shaped form.Rows s (one n p a) = patterns s (one node.PatRecord p a)
shaped form.Tuple s (two n p a b) = patterns s (two node.PatTuple p a b)
shaped form.Applied s (two n p c a) = patterns s (two node.ConPat p c a)
shaped form.Infix s (three n p a v b) = patterns s (three node.InfixPat p a v b)
shaped form.Typed s (two n p a t) = patterns s (two node.TypedPat p a t)
shaped form.TypedRow s (two n p l t) = patterns s (two node.TypedPunRow p l t)
shaped form.Layered s (two n p v a) = patterns s (two node.Layered p v a)
shaped form.TypedLayered s (three n p v t a) = patterns s (three node.TypedLayered p v t a)
shaped _ s t = gives (plain (wild_node (place_at t)))

abbrev Same : Term → Type 0
Same t = ◌≡◌ {A = Scope → Makes Pattern} (λ s. patterns s t) (λ s. shaped (form_of (node_of t)) s t)

by_form : (t : Term) → Same t
by_form (leaf node.Val p) = refl
by_form (leaf _ p) = refl
by_form (one node.Val p a) = refl
by_form (one _ p a) = refl
by_form (two node.Val p a b) = refl
by_form (two _ p a b) = refl
by_form (three node.Val p a b c) = refl
by_form (three _ p a b c) = refl
by_form (four node.Val p a b c d) = refl
by_form (four _ p a b c d) = refl

module _ (s : Source) (i : ℕ) where
  parts_are : (F : Form) (k : ℕ) → form_of (node_at s i) ≡ F → arity F (parts_of (node_at s i)) ≡ k → parts_of (node_at s i) ≡ k
  parts_are F k e w = parts_by_form (node_at s i) ∙ ap (λ G. arity G (parts_of (node_at s i))) e ∙ w

  formed : (t : Term) (F : Form) → form_of (node_of t) ≡ F → (Q : (Scope → Makes Pattern) → Type 0) → Q (λ c. shaped F c t) → Q (λ c. patterns c t)
  formed t F e Q k = let h : Form → Scope → Makes Pattern = λ G c. shaped G c t in subst Q (sym (by_form t ∙ ap h e)) k

  pub parts_of_more : form_of (node_at s i) ≡ form.More → parts_of (node_at s i) ≡ 2
  parts_of_more e = parts_are form.More 2 e refl

  pub wild_form : (t : Term) → IsAt s i t → form_of (node_at s i) ≡ form.Wild → (Q : (Scope → Makes Pattern) → Type 0) → Q (λ c. gives (plain (wild_node (place_at t)))) → Q (λ c. patterns c t)
  wild_form t h e Q k = formed t form.Wild (ap form_of (sym (node_is s i t h)) ∙ e) Q k

  pub leaf_form : (t : Term) (F : Form) → IsAt s i t → form_of (node_at s i) ≡ F → arity F (parts_of (node_at s i)) ≡ 0 → (Q : (Scope → Makes Pattern) → Type 0)
      → ((n : TreeNode) (p : Place) → IsAt s i (leaf n p) → Q (λ c. shaped F c (leaf n p))) → Q (λ c. patterns c t)
  leaf_form t F h e w Q k = as_leaf s i t (node_at s i) h refl (parts_are F 0 e w) (λ u. Q (λ c. patterns c u)) (λ p j. formed (leaf (node_at s i) p) F e Q (k (node_at s i) p j))

  pub one_form : (t : Term) (F : Form) → IsAt s i t → form_of (node_at s i) ≡ F → arity F (parts_of (node_at s i)) ≡ 1 → (Q : (Scope → Makes Pattern) → Type 0)
      → ((n : TreeNode) (p : Place) (a : Term) → IsAt s i (one n p a) → Q (λ c. shaped F c (one n p a))) → Q (λ c. patterns c t)
  one_form t F h e w Q k = as_one s i t (node_at s i) h refl (parts_are F 1 e w) (λ u. Q (λ c. patterns c u)) (λ p a j. formed (one (node_at s i) p a) F e Q (k (node_at s i) p a j))

  pub two_form : (t : Term) (F : Form) → IsAt s i t → form_of (node_at s i) ≡ F → arity F (parts_of (node_at s i)) ≡ 2 → (Q : (Scope → Makes Pattern) → Type 0)
      → ((n : TreeNode) (p : Place) (a b : Term) → IsAt s i (two n p a b) → Q (λ c. shaped F c (two n p a b))) → Q (λ c. patterns c t)
  two_form t F h e w Q k = as_two s i t (node_at s i) h refl (parts_are F 2 e w) (λ u. Q (λ c. patterns c u)) (λ p a b j. formed (two (node_at s i) p a b) F e Q (k (node_at s i) p a b j))

  pub three_form : (t : Term) (F : Form) → IsAt s i t → form_of (node_at s i) ≡ F → arity F (parts_of (node_at s i)) ≡ 3 → (Q : (Scope → Makes Pattern) → Type 0)
      → ((n : TreeNode) (p : Place) (a b d : Term) → IsAt s i (three n p a b d) → Q (λ c. shaped F c (three n p a b d))) → Q (λ c. patterns c t)
  three_form t F h e w Q k = as_three s i t (node_at s i) h refl (parts_are F 3 e w) (λ u. Q (λ c. patterns c u)) (λ p a b d j. formed (three (node_at s i) p a b d) F e Q (k (node_at s i) p a b d j))

-- Each pattern that isn't a list is one tree.
choice_one : (b : Bool) (f g : Makes Pattern) (d : Made) → count (f d).0.forest ≡ 1 → count (g d).0.forest ≡ 1 → count ((if b then f else g) d).0.forest ≡ 1
choice_one true f g d x y = x
choice_one false f g d x y = y

variable_one : (names : List (List ℕ)) (p : Place) (i : Ident) (m : Option Meaning) (d : Made) → count (variable names p i m d).0.forest ≡ 1
variable_one names p i m d = choice_one i.long _ _ d refl refl

identifier_one : (names : List (List ℕ)) (p : Place) (i : Ident) (m : Option Meaning) (d : Made) → count (identifier names p i m d).0.forest ≡ 1
identifier_one names p i None d = variable_one names p i None d
identifier_one names p i (Some (Variable x)) d = variable_one names p i (Some (Variable x)) d
identifier_one names p i (Some (Constructor c)) d = refl
identifier_one names p i (Some (Builtin b)) d = variable_one names p i (Some (Builtin b)) d

applied_one : (p : Place) (i : Ident) (m : Option Meaning) (q : Pattern) (d : Made) → count (applied p i m q d).0.forest ≡ 1
applied_one p i None q d = refl
applied_one p i (Some (Variable x)) q d = refl
applied_one p i (Some (Constructor c)) q d = refl
applied_one p i (Some (Builtin b)) q d = refl

layer_one : (p : Place) (x : ℕ) (m : Option Meaning) (q : Forest) → count (layer p x m q) ≡ 1
layer_one p x None q = refl
layer_one p x (Some (Variable y)) q = refl
layer_one p x (Some (Constructor c)) q = refl
layer_one p x (Some (Builtin b)) q = refl

kept_one : (b : Bool) (x y : Pattern) → (b ≡ true → count x.forest ≡ 1) → count y.forest ≡ 1 → count (if b then x else y).forest ≡ 1
kept_one true x y h k = h refl
kept_one false x y h k = k

single_one : (p : Place) (f : Makes Pattern) (d : Made) → count (single p f d).0.forest ≡ 1
single_one p f d = kept_one (count (f d).0.forest == 1) (f d).0 (under (λ g. wild_node p) (f d).0) (λ e. eqb-true (count (f d).0.forest) 1 e) refl

shaped_one : (F : Form) → (F ≡ form.More → ⊥) → (s : Scope) (t : Term) (d : Made) → count (shaped F s t d).0.forest ≡ 1
shaped_one form.More other s t d = absurd (other refl)
shaped_one form.Name other s (leaf n p) d = identifier_one s.names p (ident s.names (leaf n p)) (meaning_of s (ident s.names (leaf n p)).key) d
shaped_one form.NamePart other s (one n p a) d = identifier_one s.names p (ident s.names a) (meaning_of s (ident s.names a).key) d
shaped_one (form.Int z) other s (leaf n p) d = refl
shaped_one (form.Char c) other s (leaf n p) d = refl
shaped_one (form.Text x) other s (leaf n p) d = refl
shaped_one form.Empty other s (leaf n p) d = refl
shaped_one form.EmptyList other s (leaf n p) d = refl
shaped_one form.Rows other s (one n p a) d = refl
shaped_one form.Tuple other s (two n p a b) d = refl
shaped_one form.Typed other s (two n p a t) d = refl
shaped_one form.Inside other s (one n p a) d = single_one p (patterns s a) d
shaped_one form.Row other s (two n p l a) d = single_one p (patterns s a) d
shaped_one form.Items other s (one n p a) d = list_one p (patterns s a d).0.forest
shaped_one form.Applied other s (two n p c a) d = applied_one p (ident s.names c) (meaning_of s (ident s.names c).key) _ _
shaped_one form.Infix other s (three n p a v b) d = applied_one p (ident s.names v) (meaning_of s (ident s.names v).key) _ _
shaped_one form.TypedRow other s (two n p l t) d = refl
shaped_one form.Layered other s (two n p v a) d = layer_one p _ (meaning_of s (ident s.names v).key) _
shaped_one form.TypedLayered other s (three n p v t a) d = layer_one p _ (meaning_of s (ident s.names v).key) _
shaped_one _ other s t d = refl

pub one_tree : (t : Term) → (form_of (node_of t) ≡ form.More → ⊥) → (s : Scope) (d : Made) → count (patterns s t d).0.forest ≡ 1
one_tree t other s d = ap (λ (f : Scope → Makes Pattern). count (f s d).0.forest) (by_form t) ∙ shaped_one (form_of (node_of t)) other s t d
