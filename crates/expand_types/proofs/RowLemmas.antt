-- The labels of rows by what their nodes are.
use Rattle.std.proofs.Common.{◌≡◌, ℕ, List, ◌++◌, refl, sym, ap, ◌∙◌, subst}
use Rattle.smlc_base.specs.declared.place.Place.{Place}
use Rattle.sml_tree.specs.declared.bare.Lab.{Lab}
use Rattle.sml_tree.specs.declared.tree_node.TreeNode.{TreeNode}
use Rattle.sml_tree.specs.declared.tree_node.TreeNode.TheVariants as node
use Rattle.sml_tree.specs.Parts.{parts_of}
use Rattle.sml_expansion.specs.Terms.{Term, leaf, one, two, three, four, node_of, place_at}
use Rattle.sml_expansion.specs.Sources.{Source, IsAt, node_at}
use Rattle.sml_expansion.specs.Types.{labels}
use Rattle.sml_expansion.proofs.Shapes.{node_is}
use Rattle.expand_types.specs.declared.labels.RowForm.{RowForm}
use Rattle.expand_types.specs.declared.labels.RowForm.TheVariants.{Rows, FirstOfOne, FirstOfTwo, FirstOfThree, Here}
use Rattle.expand_types.specs.Forms.{row_form}
use Rattle.expand_types.proofs.Steps.{parts_in, as_many}
use Rattle.expand_types.proofs.FlowLemmas.{Puts}

-- how many parts they have
pub rows_two : (n : TreeNode) → row_form n ≡ Rows → parts_of n ≡ 2
rows_two node.MoreRows e = refl
rows_two node.MorePatRows e = refl
rows_two node.MoreTyRows e = refl
rows_two _ e = cc

pub first_one : (n : TreeNode) → row_form n ≡ FirstOfOne → parts_of n ≡ 1
first_one node.PunRow e = refl
first_one _ e = cc

pub first_two : (n : TreeNode) → row_form n ≡ FirstOfTwo → parts_of n ≡ 2
first_two node.Row e = refl
first_two node.PatRow e = refl
first_two node.TypedPunRow e = refl
first_two node.PunRowAs e = refl
first_two node.TyRow e = refl
first_two _ e = cc

pub first_three : (n : TreeNode) → row_form n ≡ FirstOfThree → parts_of n ≡ 3
first_three node.TypedPunRowAs e = refl
first_three _ e = cc

module _ (names : List (List ℕ)) where
  -- what the labels of a node with such parts are
  abbrev Labels : RowForm → TreeNode → Type 0
  Labels Rows n = (p : Place) (a b : Term) → labels names (two n p a b) ≡ labels names a ++ labels names b
  Labels FirstOfOne n = (p : Place) (a : Term) → labels names (one n p a) ≡ labels names a
  Labels FirstOfTwo n = (p : Place) (a b : Term) → labels names (two n p a b) ≡ labels names a
  Labels FirstOfThree n = (p : Place) (a b c : Term) → labels names (three n p a b c) ≡ labels names a
  Labels Here n = Unit {0}

  by_form : (n : TreeNode) → Labels (row_form n) n
  by_form node.MoreRows = λ p a b. refl
  by_form node.MorePatRows = λ p a b. refl
  by_form node.MoreTyRows = λ p a b. refl
  by_form node.PunRow = λ p a. refl
  by_form node.Row = λ p a b. refl
  by_form node.PatRow = λ p a b. refl
  by_form node.TypedPunRow = λ p a b. refl
  by_form node.PunRowAs = λ p a b. refl
  by_form node.TyRow = λ p a b. refl
  by_form node.TypedPunRowAs = λ p a b c. refl
  by_form _ = tt

  pub of_rows : (n : TreeNode) → row_form n ≡ Rows → (p : Place) (a b : Term) → labels names (two n p a b) ≡ labels names a ++ labels names b
  of_rows n e = subst (λ f. Labels f n) e (by_form n)

  pub of_one : (n : TreeNode) → row_form n ≡ FirstOfOne → (p : Place) (a : Term) → labels names (one n p a) ≡ labels names a
  of_one n e = subst (λ f. Labels f n) e (by_form n)

  pub of_two : (n : TreeNode) → row_form n ≡ FirstOfTwo → (p : Place) (a b : Term) → labels names (two n p a b) ≡ labels names a
  of_two n e = subst (λ f. Labels f n) e (by_form n)

  pub of_three : (n : TreeNode) → row_form n ≡ FirstOfThree → (p : Place) (a b c : Term) → labels names (three n p a b c) ≡ labels names a
  of_three n e = subst (λ f. Labels f n) e (by_form n)

  here_one : (n : TreeNode) (p : Place) (a : Term) → parts_of n ≡ 1 → row_form n ≡ Here → labels names (one n p a) ≡ labels names (leaf n p)
  here_one node.PunRow p a k e = cc
  here_one (node.Label x) p a k e = cc
  here_one (node.LabelNumber x) p a k e = cc
  here_one _ p a k e = refl

  here_two : (n : TreeNode) (p : Place) (a b : Term) → parts_of n ≡ 2 → row_form n ≡ Here → labels names (two n p a b) ≡ labels names (leaf n p)
  here_two node.MoreRows p a b k e = cc
  here_two node.MorePatRows p a b k e = cc
  here_two node.MoreTyRows p a b k e = cc
  here_two node.Row p a b k e = cc
  here_two node.PatRow p a b k e = cc
  here_two node.TypedPunRow p a b k e = cc
  here_two node.PunRowAs p a b k e = cc
  here_two node.TyRow p a b k e = cc
  here_two (node.Label x) p a b k e = cc
  here_two (node.LabelNumber x) p a b k e = cc
  here_two _ p a b k e = refl

  here_three : (n : TreeNode) (p : Place) (a b c : Term) → parts_of n ≡ 3 → row_form n ≡ Here → labels names (three n p a b c) ≡ labels names (leaf n p)
  here_three node.TypedPunRowAs p a b c k e = cc
  here_three (node.Label x) p a b c k e = cc
  here_three (node.LabelNumber x) p a b c k e = cc
  here_three _ p a b c k e = refl

  here_four : (n : TreeNode) (p : Place) (a b c d : Term) → parts_of n ≡ 4 → labels names (four n p a b c d) ≡ labels names (leaf n p)
  here_four (node.Label x) p a b c d k = cc
  here_four (node.LabelNumber x) p a b c d k = cc
  here_four _ p a b c d k = refl

  here : (t : Term) → parts_of (node_of t) ≡ parts_in t → row_form (node_of t) ≡ Here → labels names t ≡ labels names (leaf (node_of t) (place_at t))
  here (leaf n p) k e = refl
  here (one n p a) k e = here_one n p a k e
  here (two n p a b) k e = here_two n p a b k e
  here (three n p a b c) k e = here_three n p a b c k e
  here (four n p a b c d) k e = here_four n p a b c d k

pub in_here : (src : Source) (i : ℕ) (old new : List (Lab × Place)) (n : TreeNode) (p : Place) → n ≡ node_at src i → row_form n ≡ Here → ((t : Term) → IsAt src i t → p ≡ place_at t) → new ≡ old ++ labels src.names (leaf n p) → Puts src (labels src.names) i old new
in_here src i old new n p e form place h t w =
    let same : n ≡ node_of t = e ∙ node_is src i t w in
    h ∙ ap (λ q. old ++ q) (ap (λ q. labels src.names (leaf q p)) same ∙ ap (λ q. labels src.names (leaf (node_of t) q)) (place t w) ∙ sym (here src.names t (as_many src i t w) (subst (λ q. row_form q ≡ Here) same form)))
