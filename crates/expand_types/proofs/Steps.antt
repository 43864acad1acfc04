-- Steps one behind the other, and what is left of a list.
use Rattle.std.proofs.Common.{◌≡◌, ℕ, List, ◌++◌, Result, Ok, Err, OnOk, ap, ◌∙◌}
use Rattle.sml_expansion.specs.declared.made.Made.{Made}
use Rattle.sml_expansion.specs.Makings.{Makes, Runs}
use Rattle.smlc_base.specs.declared.place.Place.{Place}
use Rattle.sml_tree.specs.declared.tree_node.TreeNode.{TreeNode}
use Rattle.sml_tree.specs.Parts.{parts_of}
use Rattle.sml_expansion.specs.Terms.{Term, leaf, one, two, three, four, node_of}
use Rattle.sml_expansion.specs.Starts.{is_leaf, is_one, is_two, is_three, is_four}
use Rattle.sml_expansion.specs.Sources.{Source, IsAt}
use Rattle.sml_expansion.specs.Types.{both_lists}

pub behind : {A B : Type 0} (f : Makes A) (g : A → Makes B) (k m n : Made) (a : A) (b : B) → Runs f k a m → Runs (g a) m b n → g (f k).0 (f k).1 ≡ (b, n)
behind f g k m n a b h w = ap (λ r. g r.0 r.1) h ∙ w

pub both : (f g : Makes (List ℕ)) (k m n : Made) (x y : List ℕ) → Runs f k x m → Runs g m y n → Runs (both_lists f g) k (x ++ y) n
both f g k m n x y h w = behind f (λ u j. (u ++ (g j).0, (g j).1)) k m n x (x ++ y) h (ap (λ r. (x ++ r.0, r.1)) w)

-- where the parts are
abbrev pub Part : Source → ℕ → ℕ → Type 0
Part src i j = (n : TreeNode) (p : Place) (a : Term) → IsAt src i (one n p a) → IsAt src j a

abbrev pub Pair : Source → ℕ → ℕ → ℕ → Type 0
Pair src i j k = (n : TreeNode) (p : Place) (a b : Term) → IsAt src i (two n p a b) → IsAt src j a × IsAt src k b

abbrev pub Triple : Source → ℕ → ℕ → ℕ → ℕ → Type 0
Triple src i j k l = (n : TreeNode) (p : Place) (a b c : Term) → IsAt src i (three n p a b c) → IsAt src j a × IsAt src k b × IsAt src l c

abbrev pub Quadruple : Source → ℕ → ℕ → ℕ → ℕ → ℕ → Type 0
Quadruple src i j k l m = (n : TreeNode) (p : Place) (a b c d : Term) → IsAt src i (four n p a b c d) → IsAt src j a × IsAt src k b × IsAt src l c × IsAt src m d

-- What f makes of the tree at a node is what is done, and then what it makes of the tree at another node.
abbrev pub Goes : Source → (Term → Makes (List ℕ)) → ℕ → Made → List ℕ → ℕ → Made → Type 0
Goes src f at k done rest m = (t : Term) → IsAt src at t → (u : Term) × IsAt src rest u × ((x : List ℕ) (n : Made) → Runs (f u) m x n → Runs (f t) k (done ++ x) n)

-- The same of lists that are made of a tree alone: what is there, and what f says of the tree at one node, is what was there and what it says of the tree at another.
abbrev pub Flows : {X : Type 0} → Source → (Term → List X) → ℕ → List X → ℕ → List X → Type 0
Flows src f at old rest new = (t : Term) → IsAt src at t → (u : Term) × IsAt src rest u × (new ++ f u ≡ old ++ f t)

-- how many parts a tree has
abbrev pub parts_in : Term → ℕ
parts_in (leaf n p) = 0
parts_in (one n p a) = 1
parts_in (two n p a b) = 2
parts_in (three n p a b c) = 3
parts_in (four n p a b c d) = 4

pub as_many : (s : Source) (i : ℕ) (t : Term) → IsAt s i t → parts_of (node_of t) ≡ parts_in t
as_many s _ _ (is_leaf i n p _ _ k _) = k
as_many s _ _ (is_one a u n p j _ _ _ k _ _) = k
as_many s _ _ (is_two a b u v n p j _ _ _ _ _ k _ _) = k
as_many s _ _ (is_three a b c u v w n p j _ _ _ _ _ _ _ k _ _) = k
as_many s _ _ (is_four a b c d u v w x n p j _ _ _ _ _ _ _ _ _ k _ _) = k

-- what follows from two facts of one call
pub on_both : {T E : Type 0} {P Q R : Type 0} (r : Result T E) → (P → Q → R) → OnOk r P → OnOk r Q → OnOk r R
on_both (Ok x) f p q = f p q
on_both (Err x) f p q = tt
