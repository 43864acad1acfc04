-- Tables of the variables of nodes.
use Rattle.std.specs.Prelude.{◌≡◌, ℕ, ◌<◌, ◌≤◌, List, length}
use Rattle.sml_tree.specs.declared.bare.Node.{Node}
use Rattle.sml_tree.specs.Sets.{row_at}
use Rattle.sml_tree.specs.Free.{binds, free}

-- the sets of the nodes from number i on stand in the tables
pub record AreVariables (nodes : List Node) (i : ℕ) (bound frees : List (List ℕ)) : Type 0 where
  pub bound_len : length bound ≡ length nodes
  pub free_len : length frees ≡ length nodes
  pub bound_at : (c : ℕ) → i ≤ c → c < length nodes → row_at bound c ≡ binds nodes c
  pub free_at : (c : ℕ) → i ≤ c → c < length nodes → row_at frees c ≡ free nodes c
