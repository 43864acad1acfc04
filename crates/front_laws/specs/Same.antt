-- Trees that are the same.
use Rattle.std.specs.Prelude.{◌≡◌}
use Rattle.sml_tree.specs.declared.tree.Tree.{Tree}

pub record AreSame (s t : Tree) : Type 0 where
  pub nodes : s.nodes ≡ t.nodes
  pub places : s.places ≡ t.places
  pub decs : s.decs ≡ t.decs
  pub names : s.names ≡ t.names
  pub texts : s.texts ≡ t.texts
