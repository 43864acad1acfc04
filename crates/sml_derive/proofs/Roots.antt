-- The roots of a parse tree are the roots of its trees.
use Rattle.std.proofs.Common.{◌<◌, ◌+◌, ◌-◌, add-one, slice_get, Option, ◌≡◌, ℕ, suc, Bool, true, false, List, [], ◌∷◌, length, drop, reverse, get_or, cond, refl, sym, ap, subst, ◌∙◌, Some, None, arith, if◌then◌else◌}
use Rattle.std.specs.Prelude.{nat_le}
use Rattle.std.proofs.Math.Seq.{drop-cons}
use Rattle.smlc_base.specs.declared.place.Place.{Place}
use Rattle.sml_tree.specs.declared.tree.Tree.{Tree}
use Rattle.sml_tree.specs.declared.tree_node.TreeNode.{TreeNode}
use Rattle.sml_tree.specs.Parts.{parts_of}
use Rattle.sml_tree.specs.Tree as stored
use Rattle.sml_tree.specs.Width.{is_user}
use Rattle.sml_expansion.specs.Terms.{Term, place_at, trees}
use Rattle.sml_expansion.specs.Starts.{starts_of}
use Rattle.sml_expansion.specs.Sources.{Source, IsAt}
use Rattle.sml_expansion.specs.Programs.{no_place, end_of}
use Rattle.sml_expansion.specs.Whole.{first_user_place}
use Rattle.sml_expansion.proofs.TreeLemmas.{AreTrees, no_trees, more_trees, roots_behind, roots_are_trees}
use Rattle.sml_expansion.proofs.KindLemmas.{forest_parts}
use Rattle.sml_derive.specs.Tops.{AreAt, none_at, more_at}

-- the roots that are found are those behind all nodes
one_found : (b : Bool) (r : Option (List ℕ)) (rs decs : List ℕ) → (r ≡ Some decs → rs ≡ decs) → cond b r None ≡ Some decs → rs ≡ decs
one_found true r rs decs h e = h e
one_found false r rs decs h e = cc

found : (i : ℕ) (s : List ℕ) (nodes : List TreeNode) (decs : List ℕ) → stored.roots i s nodes ≡ Some decs → reverse (roots_behind i s nodes) ≡ decs
found i s [] decs e = cc
found i s (n ∷ nodes) decs e = one_found (nat_le (parts_of n) (length s)) _ _ decs (found (suc i) (i ∷ drop (parts_of n) s) nodes decs) e

-- a tree with these names
abbrev pub source_with : List (List ℕ) → Tree → Source
source_with names tree = record { names = names; nodes = tree.nodes; places = tree.places }

abbrev pub source_of : Tree → Source
source_of tree = source_with tree.names tree

are_at : (s : Source) (is : List ℕ) (ts : List Term) → AreTrees s.nodes s.places (starts_of s.nodes) is ts → AreAt s is ts
are_at s _ _ no_trees = none_at
are_at s _ _ (more_trees i t is ts x a) = more_at i t is ts x (are_at s is ts a)

pub roots_with : (names : List (List ℕ)) (tree : Tree) → AreAt (source_with names tree) tree.decs (trees tree.nodes tree.places)
roots_with names tree =
    let parts = forest_parts 0 0 [] tree.nodes tree.decs refl tree.forest in
    are_at (source_with names tree) tree.decs (trees tree.nodes tree.places)
    (subst (λ is. AreTrees tree.nodes tree.places (starts_of tree.nodes) is (trees tree.nodes tree.places)) (found 0 [] tree.nodes tree.decs tree.forest)
    (roots_are_trees tree.nodes tree.places (sym tree.placed) parts))

pub roots_stand : (tree : Tree) → AreAt (source_of tree) tree.decs (trees tree.nodes tree.places)
roots_stand tree = roots_with tree.names tree

-- ---- Their places

-- the number at the end is that of the last of them
pub last_is : (s : Source) (is : List ℕ) (i : ℕ) (ts : List Term) (p q : Place) → AreAt s is ts → slice_get is (length is - 1) ≡ Some i → ((t : Term) → IsAt s i t → q ≡ place_at t) → q ≡ end_of p ts
last_is s _ i _ p q none_at e h = cc
last_is s _ i _ p q (more_at j t _ _ k none_at) e h = let one : j ≡ i = cc in h t (subst (λ n. IsAt s n t) one k)
last_is s _ i _ p q (more_at j t _ _ k (more_at o u is ts l a)) e h =
    let z : suc (suc (length is) - 1) ≡ suc (suc (length is)) - 1 = omega arith in
    last_is s (o ∷ is) i (u ∷ ts) (place_at t) q (more_at o u is ts l a) (ap (slice_get (j ∷ o ∷ is)) z ∙ e) h

-- one item less
pub one_off : {A : Type 0} (xs : List A) (i : ℕ) (d : A) → i < length xs → drop i xs ≡ get_or xs i d ∷ drop (i + 1) xs
one_off xs i d h = drop-cons xs i d h ∙ ap (λ k. get_or xs i d ∷ drop k xs) (sym (add-one i))

-- what is left of a search for the user's first
pub record LeftPlaces (s : Source) (terms : List Term) (left : List ℕ) : Type 0 where
  others : List Term
  stand : AreAt s left others
  same : first_user_place others ≡ first_user_place terms

pub begun_places : (s : Source) (terms : List Term) (left : List ℕ) → AreAt s left terms → LeftPlaces s terms left
begun_places s terms left k = record { others = terms; stand = k; same = refl }

pub one_place_less : (s : Source) (terms : List Term) (at : ℕ) (left rest : List ℕ) (p : Place) → left ≡ at ∷ rest → LeftPlaces s terms left → ((t : Term) → IsAt s at t → p ≡ place_at t) → is_user p ≡ false → LeftPlaces s terms rest
one_place_less s terms at left rest p e l h u = step l.others (subst (λ k. AreAt s k l.others) e l.stand) l.same
  where
    step : (others : List Term) → AreAt s (at ∷ rest) others → first_user_place others ≡ first_user_place terms → LeftPlaces s terms rest
    step _ (more_at _ t _ ts k a) q =
        let no_user : is_user (place_at t) ≡ false = ap is_user (sym (h t k)) ∙ u in
        record { others = ts; stand = a; same = sym (ap (λ b. if b then place_at t else first_user_place ts) no_user) ∙ q }

pub user_place : (s : Source) (terms : List Term) (at : ℕ) (left rest : List ℕ) (p : Place) → left ≡ at ∷ rest → LeftPlaces s terms left → ((t : Term) → IsAt s at t → p ≡ place_at t) → is_user p ≡ true → p ≡ first_user_place terms
user_place s terms at left rest p e l h u = step l.others (subst (λ k. AreAt s k l.others) e l.stand) l.same
  where
    step : (others : List Term) → AreAt s (at ∷ rest) others → first_user_place others ≡ first_user_place terms → p ≡ first_user_place terms
    step _ (more_at _ t _ ts k a) q =
        let user : is_user (place_at t) ≡ true = ap is_user (sym (h t k)) ∙ u in
        h t k ∙ sym (ap (λ b. if b then place_at t else first_user_place ts) user) ∙ q

pub no_user_place : (s : Source) (terms : List Term) (left : List ℕ) → left ≡ [] → LeftPlaces s terms left → no_place ≡ first_user_place terms
no_user_place s terms left e l = step l.others (subst (λ k. AreAt s k l.others) e l.stand) l.same
  where
    step : (others : List Term) → AreAt s [] others → first_user_place others ≡ first_user_place terms → no_place ≡ first_user_place terms
    step _ none_at q = q
