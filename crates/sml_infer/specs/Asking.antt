-- What is seen to before the rule of a node is asked, and what is noted afterwards.
use Rattle.std.specs.Prelude.{◌≡◌, ℕ, ◌<◌, Option, Some, None, List, length, slice_get}
use Rattle.std.specs.List.{AllByRecursion}
use Rattle.sml_tree.specs.declared.bare.Bare.{Bare}
use Rattle.sml_tree.specs.declared.bare.Node.{Node}
use Rattle.sml_tree.specs.declared.bare.Node.TheVariants.{Let}
use Rattle.sml_types.specs.Poly.{Context}
use Rattle.infer_state.specs.Typings.{IsReady}
use Rattle.infer_laws.specs.Cited.{node_names, node_types}
use Rattle.infer_laws.specs.Gives.{IsOwnOpen}
use Rattle.infer_scopes.specs.Scopes.{contexts_of}
use Rattle.sml_infer.specs.Stages.{known}
use Rattle.sml_infer.specs.Going.{Now, stage, joined_number}

-- the rule of a node can be asked: what it cites is known, its names stand there, and its written types are below a number
pub record IsAskable (p : Bare) (limit : ℕ) (w : Now) (i : ℕ) (n : Node) : Type 0 where
  pub ready : (c : Context) → contexts_of w.scopes i ≡ Some c → IsReady (known (stage w)) c n × IsOwnOpen (known (stage w)) c n
  pub names : AllByRecursion (λ x. x < length p.names) (node_names n)
  pub types : AllByRecursion (λ j. j < limit) (node_types n)

-- what stands behind the declaration of a `let`
abbrev pub body_at : Option Node → Option ℕ
body_at (Some (Let k e)) = Some e
body_at _ = None

-- a number is noted where none was
pub record IsNoted (old : List (Option ℕ)) (e i : ℕ) (new : List (Option ℕ)) : Type 0 where
  pub was : joined_number (slice_get old e) ≡ None
  pub here : joined_number (slice_get new e) ≡ Some i
  pub others : (x : ℕ) → (x ≡ e → ⊥) → slice_get new x ≡ slice_get old x
  pub count : length new ≡ length old
