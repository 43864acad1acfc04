-- The types of nodes and names, by their variables.
use Rattle.std.proofs.Common.{◌≡◌, ℕ, ◌+◌, ◌<◌, Bool, List, length, ap, ◌∙◌}
use Rattle.sml_tree.specs.declared.bare.Bare.{Bare}
use Rattle.sml_types.specs.declared.types.TyForm.{TyForm}
use Rattle.sml_types.specs.declared.types.TyForm.TheVariants.{Var}
use Rattle.sml_types.specs.Tree.{inst}
use Rattle.sml_types.specs.Escape.{mentions}
use Rattle.sml_types.specs.Poly.{Context}
use Rattle.sml_types.specs.Forms.{IsNumbered}
use Rattle.sml_types.proofs.FormFacts.{tree_form}
use Rattle.sml_unify.specs.Solved.{Substitution, under}
use Rattle.infer_state.specs.declared.declared.Starts.{Starts}
use Rattle.infer_state.specs.Variables.{AreLaidOut, node_var, name_var}

module _ (p : Bare) (forms : List TyForm) (starts : Starts) (m : Substitution) (numbered : IsNumbered forms) (laid : AreLaidOut p forms starts) where
  pub name_at : (x i : ℕ) → x < length p.names → i ≡ starts.names + x → under forms m i ≡ m (name_var p x)
  name_at x i l e = ap (under forms m) e ∙ ap (inst m) (tree_form forms (starts.names + x) (Var (name_var p x)) numbered (laid.of_names x l))

  pub node_at : (x i : ℕ) → x < length p.nodes → i ≡ starts.nodes + x → under forms m i ≡ m (node_var p x)
  node_at x i l e = ap (under forms m) e ∙ ap (inst m) (tree_form forms (starts.nodes + x) (Var (node_var p x)) numbered (laid.of_nodes x l))

  -- what a test of the type of a name says
  pub name_test : (c : Context) (x i : ℕ) (b : Bool) → x < length p.names → i ≡ starts.names + x → b ≡ mentions c.type_names (under forms m i) → b ≡ mentions c.type_names (m (name_var p x))
  name_test c x i b l e h = h ∙ ap (mentions c.type_names) (name_at x i l e)
