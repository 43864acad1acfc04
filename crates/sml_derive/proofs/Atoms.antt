-- Identifiers and constants.
use Rattle.std.proofs.Common.{◌≡◌, ◌≢◌, ℕ, ℤ, Bool, true, false, List, [], ◌++◌, refl, sym, ap, subst, ◌∙◌}
use Rattle.std.specs.Prelude.{Option, Some, None}
use Rattle.smlc_base.specs.declared.place.Place.{Place}
use Rattle.smlc_base.specs.declared.names.Name.{Name}
use Rattle.sml_tree.specs.declared.tree_node.TreeNode.{TreeNode}
use Rattle.sml_tree.specs.declared.tree_node.TreeNode.TheVariants as node
use Rattle.sml_tree.specs.declared.bare.Node.{Node}
use Rattle.sml_prelude.specs.Values.{is_function, takes_argument}
use Rattle.sml_expansion.specs.declared.made.Made.{Made}
use Rattle.sml_expansion.specs.declared.walk.Walk.{Walk}
use Rattle.sml_expansion.specs.declared.scope.Ident.{Ident}
use Rattle.sml_expansion.specs.declared.meaning.Meaning.{Meaning}
use Rattle.sml_expansion.specs.declared.meaning.Meaning.TheVariants.{Variable, Constructor, Builtin}
use Rattle.sml_expansion.specs.Terms.{Term, leaf, one, two, three, four, node_of}
use Rattle.sml_expansion.specs.Sources.{Source}
use Rattle.sml_expansion.specs.Scopes.{Scope, meaning_of}
use Rattle.sml_expansion.specs.Forests.{Forest, none, grown, count}
use Rattle.sml_expansion.specs.Makings.{Makes, gives}
use Rattle.std.proofs.lemmas.List.{append-nil}
use Rattle.sml_expansion.specs.Marks.{marks}
use Rattle.sml_expansion.specs.Expressions.{Position, function_part, elsewhere, eta, named, identifier, expressions}
use Rattle.sml_derive.specs.Steps.{marked, behind, scope, Writes}
use Rattle.sml_derive.specs.Compounds.{is_compound}

eta_one : (h : Position) (p : Place) (b : Bool) (n : Node) (m : Made) → 1 ≡ count (eta h p b (grown n p none) m).0
eta_one elsewhere p true n m = refl
eta_one elsewhere p false n m = refl
eta_one function_part p b n m = refl

named_one : (h : Position) (p : Place) (i : Ident) (o : Option Meaning) (m : Made) → 1 ≡ count (named h p i o m).0
named_one h p i (Some (Variable x)) m = refl
named_one h p i (Some (Constructor c)) m = eta_one h p (takes_argument c) _ m
named_one h p i (Some (Builtin b)) m = eta_one h p (is_function b) _ m
named_one h p i None m = refl

pub identifier_writes : (h : Position) (s : Scope) (w v : Walk) (p q : Place) (i j : Ident) → p ≡ q → i ≡ j → v ≡ behind (identifier h s p i) w → Writes (identifier h s q j) w v 1
identifier_writes h s w v p q i j e f k = record {
  walk = k ∙ ap (λ a. behind (identifier h s a i) w) e ∙ ap (λ a. behind (identifier h s q a) w) f;
  written = named_one h q j (meaning_of s j.key) w.made;
}

pub leaf_writes : (w v : Walk) (n : Node) (p q : Place) → p ≡ q → v ≡ marked (marks (grown n p none)) w → Writes (gives (grown n q none)) w v 1
leaf_writes w v n p q e k = record { walk = k ∙ ap (λ a. marked (marks (grown n a none)) w) e; written = refl }

-- expressions without parts
abbrev pub is_atom : TreeNode → Bool
is_atom (node.Vid x) = true
is_atom node.VidEquals = true
is_atom (node.LongVid x) = true
is_atom node.Op = true
is_atom (node.Int z) = true
is_atom (node.Char c) = true
is_atom (node.Text t) = true
is_atom node.Unit = true
is_atom node.EmptyRecord = true
is_atom node.EmptyList = true
is_atom _ = false

pub no_atom : (n : TreeNode) → ((x : Name) → n ≢ node.Vid x) → n ≢ node.VidEquals → ((x : Name) → n ≢ node.LongVid x) → n ≢ node.Op → ((z : ℤ) → n ≢ node.Int z) → ((c : ℕ) → n ≢ node.Char c) → ((t : ℕ) → n ≢ node.Text t)
    → n ≢ node.EmptyRecord → n ≢ node.Unit → n ≢ node.EmptyList → is_atom n ≡ false
no_atom (node.Vid x) a b c d e f g h i j = absurd (a x refl)
no_atom node.VidEquals a b c d e f g h i j = absurd (b refl)
no_atom (node.LongVid x) a b c d e f g h i j = absurd (c x refl)
no_atom node.Op a b c d e f g h i j = absurd (d refl)
no_atom (node.Int z) a b c d e f g h i j = absurd (e z refl)
no_atom (node.Char z) a b c d e f g h i j = absurd (f z refl)
no_atom (node.Text z) a b c d e f g h i j = absurd (g z refl)
no_atom node.EmptyRecord a b c d e f g h i j = absurd (h refl)
no_atom node.Unit a b c d e f g h i j = absurd (i refl)
no_atom node.EmptyList a b c d e f g h i j = absurd (j refl)
no_atom _ a b c d e f g h i j = refl

absurd_bool : {P : Type 0} → true ≡ false → P
absurd_bool e = cc

leaf_nothing : (h : Position) (s : Scope) (n : TreeNode) (p : Place) → is_atom n ≡ false → expressions h s (leaf n p) ≡ gives none
leaf_nothing h s (node.Vid x) p e = absurd_bool e
leaf_nothing h s node.VidEquals p e = absurd_bool e
leaf_nothing h s (node.LongVid x) p e = absurd_bool e
leaf_nothing h s (node.Int z) p e = absurd_bool e
leaf_nothing h s (node.Char c) p e = absurd_bool e
leaf_nothing h s (node.Text t) p e = absurd_bool e
leaf_nothing h s node.Unit p e = absurd_bool e
leaf_nothing h s node.EmptyRecord p e = absurd_bool e
leaf_nothing h s node.EmptyList p e = absurd_bool e
leaf_nothing h s _ p e = refl

one_nothing : (h : Position) (s : Scope) (n : TreeNode) (p : Place) (a : Term) → is_atom n ≡ false → is_compound n ≡ false → expressions h s (one n p a) ≡ gives none
one_nothing h s node.Op p a e f = absurd_bool e
one_nothing h s node.Paren p a e f = absurd_bool f
one_nothing h s node.Record p a e f = absurd_bool f
one_nothing h s node.List p a e f = absurd_bool f
one_nothing h s node.Raise p a e f = absurd_bool f
one_nothing h s node.Fn p a e f = absurd_bool f
one_nothing h s _ p a e f = refl

two_nothing : (h : Position) (s : Scope) (n : TreeNode) (p : Place) (a b : Term) → is_compound n ≡ false → expressions h s (two n p a b) ≡ gives none
two_nothing h s node.Apply p a b f = absurd_bool f
two_nothing h s node.Tuple p a b f = absurd_bool f
two_nothing h s node.MoreItems p a b f = absurd_bool f
two_nothing h s node.Row p a b f = absurd_bool f
two_nothing h s node.MoreRows p a b f = absurd_bool f
two_nothing h s node.Sequence p a b f = absurd_bool f
two_nothing h s node.MoreSeq p a b f = absurd_bool f
two_nothing h s node.Typed p a b f = absurd_bool f
two_nothing h s node.Andalso p a b f = absurd_bool f
two_nothing h s node.Orelse p a b f = absurd_bool f
two_nothing h s node.While p a b f = absurd_bool f
two_nothing h s node.Handle p a b f = absurd_bool f
two_nothing h s node.Case p a b f = absurd_bool f
two_nothing h s node.Let p a b f = absurd_bool f
two_nothing h s _ p a b f = refl

three_nothing : (h : Position) (s : Scope) (n : TreeNode) (p : Place) (a b c : Term) → is_compound n ≡ false → expressions h s (three n p a b c) ≡ gives none
three_nothing h s node.InfixExp p a b c f = absurd_bool f
three_nothing h s node.If p a b c f = absurd_bool f
three_nothing h s _ p a b c f = refl

nothing : (h : Position) (s : Scope) (t : Term) → is_atom (node_of t) ≡ false → is_compound (node_of t) ≡ false → expressions h s t ≡ gives none
nothing h s (leaf n p) e f = leaf_nothing h s n p e
nothing h s (one n p a) e f = one_nothing h s n p a e f
nothing h s (two n p a b) e f = two_nothing h s n p a b f
nothing h s (three n p a b c) e f = three_nothing h s n p a b c f
nothing h s (four n p a b c d) e f = refl

empty_after : (w : Walk) → w ≡ behind (gives none) w
empty_after w = ap (λ l. record w { marks = l }) (sym (append-nil w.marks))

pub nothing_writes : (h : Position) (s : Scope) (w : Walk) (t : Term) (n : TreeNode) → n ≡ node_of t → is_atom n ≡ false → is_compound n ≡ false → Writes (expressions h s t) w w 0
nothing_writes h s w t n e f g =
    let z : gives none ≡ expressions h s t = sym (nothing h s t (subst (λ m. is_atom m ≡ false) e f) (subst (λ m. is_compound m ≡ false) e g)) in
    record { walk = empty_after w ∙ ap (λ x. behind x w) z; written = ap (λ (x : Makes Forest). count (x w.made).0) z }
