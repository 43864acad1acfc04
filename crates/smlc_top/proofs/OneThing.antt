-- Files mean one thing.
use Rattle.std.proofs.Common.{◌≡◌, ℕ, List, [], ◌∷◌, Option, Some, None, sym, ap, ◌∙◌, subst, arith}
use Rattle.smlc_base.specs.declared.place.Place.{Place}
use Rattle.smlc_base.specs.declared.refusal.Refusal.{Refusal}
use Rattle.smlc_base.specs.declared.refusal.Refusal.TheVariants as refusal
use Rattle.sml_lexer.specs.declared.lexed.Lexed.{Lexed}
use Rattle.sml_lexer.specs.Programs.{IsLexed, AreAlike}
use Rattle.sml_lexer.proofs.LexedOnce.{lexed_once}
use Rattle.sml_lexer.proofs.RefusalLemmas.{refusal_one}
use Rattle.sml_tree.specs.declared.bare.Bare.{Bare}
use Rattle.sml_tree.specs.declared.tree.Tree.{Tree}
use Rattle.sml_tree.specs.declared.tree_node.TreeNode.{TreeNode}
use Rattle.sml_tree.specs.Width.{width}
use Rattle.sml_prelude.specs.Text.{library_text}
use Rattle.sml_expansion.specs.Programs.{Expansion, expansion}
use Rattle.sml_expansion.specs.Terms.{Term, trees}
use Rattle.sml_expansion.specs.Whole.{IsExpansion, bare_of, broken, expansion_of_tree, first_user_place, width_limit}
use Rattle.sml_expansion.specs.Whole as bindings
use Rattle.front_laws.specs.Same.{AreSame}
use Rattle.front_laws.proofs.Once.{one_tree, tree_or_refusal, one_refusal}
use Rattle.smlc_top.specs.Front.{IsLibrary, IsLibraryRefusal, HasTree, IsRefusal}
use Rattle.smlc_top.specs.Front as front

-- ---- the library

library_lexed : (a b : Tree) (h : IsLibrary a) (k : IsLibrary b) → AreAlike h.lexed k.lexed
library_lexed a b h k = lexed_once [] [] 0 (library_text ∷ []) h.lexed k.lexed h.lexes k.lexes

library_once : (a b : Tree) → IsLibrary a → IsLibrary b → AreSame a b
library_once a b h k = one_tree h.lexed k.lexed (library_lexed a b h k) a b h.parses k.parses

library_apart : (a : Tree) (r : Refusal) → IsLibrary a → IsLibraryRefusal r → ⊥
library_apart a r h (front.IsLibraryRefusal.by_tokens s t) = h.lexes.accepted s t
library_apart a r h (front.IsLibraryRefusal.by_syntax lexed s lexes p) =
    tree_or_refusal h.lexed lexed (lexed_once [] [] 0 (library_text ∷ []) h.lexed lexed h.lexes lexes) a s h.parses p

-- ---- tokens and trees

lexed_alike : (a b : Tree) → IsLibrary a → IsLibrary b → (files : List (List ℕ)) (x y : Lexed) → IsLexed a.names a.texts 1 files x → IsLexed b.names b.texts 1 files y → AreAlike x y
lexed_alike a b h k files x y l m =
    let s = library_once a b h k in
    lexed_once a.names a.texts 1 files x y l
    (subst (λ (ns : List (List ℕ)). IsLexed ns a.texts 1 files y) (sym s.names) (subst (λ (ts : List (List ℕ)). IsLexed b.names ts 1 files y) (sym s.texts) m))

trees_same : (a b : Tree) → AreSame a b → trees a.nodes a.places ≡ trees b.nodes b.places
trees_same a b s = ap (λ (ns : List TreeNode). trees ns a.places) s.nodes ∙ ap (λ (ps : List Place). trees b.nodes ps) s.places

-- ---- expansions

expansions_same : (l m s t : Tree) → AreSame l m → AreSame s t → expansion_of_tree l s ≡ expansion_of_tree m t
expansions_same l m s t a b =
    ap (λ (ns : List (List ℕ)). expansion ns (trees l.nodes l.places) (trees s.nodes s.places)) b.names
    ∙ ap (λ (ts : List Term). expansion t.names ts (trees s.nodes s.places)) (trees_same l m a)
    ∙ ap (λ (ts : List Term). expansion t.names (trees m.nodes m.places) ts) (trees_same s t b)

abbrev bare_from : Expansion → List (List ℕ) → Bare
bare_from e texts = record {
  nodes = e.nodes;
  places = e.places;
  decs = e.decs;
  shown = e.shown;
  types = e.made.types;
  tyvars = e.made.tyvars;
  names = e.made.names;
  texts = texts;
  width = width e.nodes e.places;
}

bare_same : (l m s t : Tree) → AreSame l m → AreSame s t → bare_of l s ≡ bare_of m t
bare_same l m s t a b =
    ap (λ (e : Expansion). bare_from e s.texts) (expansions_same l m s t a b) ∙ ap (λ (xs : List (List ℕ)). bare_from (expansion_of_tree m t) xs) b.texts

broken_same : (l m s t : Tree) → AreSame l m → AreSame s t → broken l s ≡ broken m t
broken_same l m s t a b = ap (λ (e : Expansion). e.made.refusal) (expansions_same l m s t a b)

kept_apart : (o p : Option Refusal) (r : Refusal) → o ≡ p → o ≡ None → p ≡ Some r → ⊥
kept_apart o p r e n s = let f : None ≡ Some r = sym n ∙ e ∙ s in cc

expansion_apart : (l m s t : Tree) → AreSame l m → AreSame s t → (bare : Bare) (r : Refusal) → IsExpansion l s bare → bindings.IsRefusal m t r → ⊥
expansion_apart l m s t a b bare r h (bindings.IsRefusal.breaks_rule q e) = kept_apart (broken l s) (broken m t) q (broken_same l m s t a b) h.kept e
expansion_apart l m s t a b bare r h (bindings.IsRefusal.too_wide n w) =
    let same = ap (λ (p : Bare). p.width) (bare_same l m s t a b) in let narrow = h.narrow in omega (arith, same, narrow, w)

some_refusal : (o p : Option Refusal) (q r : Refusal) → o ≡ p → o ≡ Some q → p ≡ Some r → q ≡ r
some_refusal o p q r e f g = let h : Some q ≡ Some r = sym f ∙ e ∙ g in cc

bindings_once : (l m s t : Tree) → AreSame l m → AreSame s t → (q r : Refusal) → bindings.IsRefusal l s q → bindings.IsRefusal m t r → q ≡ r
bindings_once l m s t a b q r (bindings.IsRefusal.breaks_rule x e) (bindings.IsRefusal.breaks_rule y f) = some_refusal (broken l s) (broken m t) x y (broken_same l m s t a b) e f
bindings_once l m s t a b q r (bindings.IsRefusal.breaks_rule x e) (bindings.IsRefusal.too_wide n w) = absurd (kept_apart (broken m t) (broken l s) x (sym (broken_same l m s t a b)) n e)
bindings_once l m s t a b q r (bindings.IsRefusal.too_wide n w) (bindings.IsRefusal.breaks_rule y f) = absurd (kept_apart (broken l s) (broken m t) y (broken_same l m s t a b) n f)
bindings_once l m s t a b q r (bindings.IsRefusal.too_wide n w) (bindings.IsRefusal.too_wide o v) = ap (λ (ts : List Term). refusal.TooWide (first_user_place ts)) (trees_same s t b)

-- ---- files

module _ (files : List (List ℕ)) where
  pub tree_once : (a b : Bare) → HasTree files a → HasTree files b → a ≡ b
  tree_once a b h k =
      let lib = library_once h.library k.library h.stands k.stands in
      let read = lexed_alike h.library k.library h.stands k.stands files h.lexed k.lexed h.lexes k.lexes in
      let same = one_tree h.lexed k.lexed read h.tree k.tree h.parses k.parses in
      h.expands.same ∙ bare_same h.library k.library h.tree k.tree lib same ∙ sym k.expands.same

  pub tree_apart : (bare : Bare) (r : Refusal) → HasTree files bare → IsRefusal files r → ⊥
  tree_apart bare r h (front.IsRefusal.by_library q l) = library_apart h.library q h.stands l
  tree_apart bare r h (front.IsRefusal.by_tokens q t) = h.lexes.accepted q t
  tree_apart bare r h (front.IsRefusal.by_syntax library lexed q stands lexes p) =
      tree_or_refusal h.lexed lexed (lexed_alike h.library library h.stands stands files h.lexed lexed h.lexes lexes) h.tree q h.parses p
  tree_apart bare r h (front.IsRefusal.by_bindings library lexed tree q stands lexes parses b) =
      let read = lexed_alike h.library library h.stands stands files h.lexed lexed h.lexes lexes in
      expansion_apart h.library library h.tree tree (library_once h.library library h.stands stands) (one_tree h.lexed lexed read h.tree tree h.parses parses) bare q h.expands b

  module _ (root : Tree) (root_is : IsLibrary root) where
    pub refusal_once : (q r : Refusal) → IsRefusal files q → IsRefusal files r → q ≡ r
    refusal_once q r (front.IsRefusal.by_library x l) k = absurd (library_apart root x root_is l)
    refusal_once q r (front.IsRefusal.by_tokens x t) (front.IsRefusal.by_library y l) = absurd (library_apart root y root_is l)
    refusal_once q r (front.IsRefusal.by_tokens x t) (front.IsRefusal.by_tokens y u) = refusal_one 1 files x y t u
    refusal_once q r (front.IsRefusal.by_tokens x t) (front.IsRefusal.by_syntax library lexed y stands lexes p) = absurd (lexes.accepted x t)
    refusal_once q r (front.IsRefusal.by_tokens x t) (front.IsRefusal.by_bindings library lexed tree y stands lexes parses b) = absurd (lexes.accepted x t)
    refusal_once q r (front.IsRefusal.by_syntax library lexed x stands lexes p) (front.IsRefusal.by_library y l) = absurd (library_apart root y root_is l)
    refusal_once q r (front.IsRefusal.by_syntax library lexed x stands lexes p) (front.IsRefusal.by_tokens y u) = absurd (lexes.accepted y u)
    refusal_once q r (front.IsRefusal.by_syntax library lexed x stands lexes p) (front.IsRefusal.by_syntax library' lexed' y stands' lexes' p') =
        one_refusal lexed lexed' (lexed_alike library library' stands stands' files lexed lexed' lexes lexes') x y p p'
    refusal_once q r (front.IsRefusal.by_syntax library lexed x stands lexes p) (front.IsRefusal.by_bindings library' lexed' tree y stands' lexes' parses b) =
        absurd (tree_or_refusal lexed' lexed (lexed_alike library' library stands' stands files lexed' lexed lexes' lexes) tree x parses p)
    refusal_once q r (front.IsRefusal.by_bindings library lexed tree x stands lexes parses b) (front.IsRefusal.by_library y l) = absurd (library_apart root y root_is l)
    refusal_once q r (front.IsRefusal.by_bindings library lexed tree x stands lexes parses b) (front.IsRefusal.by_tokens y u) = absurd (lexes.accepted y u)
    refusal_once q r (front.IsRefusal.by_bindings library lexed tree x stands lexes parses b) (front.IsRefusal.by_syntax library' lexed' y stands' lexes' p) =
        absurd (tree_or_refusal lexed lexed' (lexed_alike library library' stands stands' files lexed lexed' lexes lexes') tree y parses p)
    refusal_once q r (front.IsRefusal.by_bindings library lexed tree x stands lexes parses b) (front.IsRefusal.by_bindings library' lexed' tree' y stands' lexes' parses' b') =
        let read = lexed_alike library library' stands stands' files lexed lexed' lexes lexes' in
        bindings_once library library' tree tree' (library_once library library' stands stands') (one_tree lexed lexed' read tree tree' parses parses') x y b b'
