-- How marks are linked: from the last to the first.
use Rattle.std.specs.Prelude.{ℕ, suc, List, [], ◌∷◌, map, reverse}
use Rattle.smlc_base.specs.declared.place.Place.{Place}
use Rattle.sml_tree.specs.declared.bare.Node.{Node}
use Rattle.sml_expansion.specs.declared.mark.Mark.{Mark}
use Rattle.sml_expansion.specs.declared.mark.Mark.TheVariants.{Open, Close}
use Rattle.sml_expansion.specs.declared.mark.Frame.{Frame}
use Rattle.sml_expansion.specs.declared.mark.Linked.{Linked}
use Rattle.sml_expansion.specs.Forests.{with_parts}

-- how many nodes marks spell
abbrev pub opened : List Mark → ℕ
opened [] = 0
opened (Open ∷ marks) = suc (opened marks)
opened (Close n p ∷ marks) = opened marks

-- a node whose parts stand between here and it, with the roots behind it
pub record Waiting : Type 0 where
  pub node : Node
  pub place : Place
  pub behind : List ℕ

-- what marks come to, from left to right: nodes whose parts are read, the innermost first, the roots, and the nodes with their places
pub record Links : Type 0 where
  pub waiting : List Waiting
  pub roots : List ℕ
  pub nodes : List Node
  pub places : List Place

abbrev pub nothing_linked : Links
nothing_linked = record { waiting = []; roots = []; nodes = []; places = [] }

abbrev pub closed : Node → Place → Links → Links
closed n p r = record { waiting = record { node = n; place = p; behind = r.roots } ∷ r.waiting; roots = []; nodes = r.nodes; places = r.places }

abbrev pub begun : ℕ → List Waiting → Links → Links
begun i [] r = r
begun i (w ∷ waiting) r = record { waiting = waiting; roots = i ∷ w.behind; nodes = with_parts w.node r.roots ∷ r.nodes; places = w.place ∷ r.places }

-- the node of number i has its parts
abbrev pub opened_at : ℕ → Links → Links
opened_at i r = begun i r.waiting r

-- marks on the left of what is linked, where the first node has number i
abbrev pub linked : ℕ → List Mark → Links → Links
linked i [] r = r
linked i (Open ∷ marks) r = opened_at i (linked (suc i) marks r)
linked i (Close n p ∷ marks) r = closed n p (linked i marks r)

-- the lists in which links are kept, the last first
abbrev pub waiting_of : Frame → Waiting
waiting_of f = record { node = f.node; place = f.place; behind = reverse f.behind.items }

abbrev pub shown : Linked → Links
shown k = record { waiting = map waiting_of (reverse k.frames.items); roots = reverse k.roots.items; nodes = reverse k.nodes.items; places = reverse k.places.items }
