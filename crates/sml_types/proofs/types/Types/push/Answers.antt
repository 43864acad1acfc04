use Rattle.std.proofs.Common.{[], ◌∷◌, ◌++◌, length, ap, ◌∙◌}
use Rattle.sml_types.specs.Forms.{tree}
use Rattle.sml_types.proofs.FormFacts.{tree_new, tree_more}
use Rattle.sml_types.proofs.types.Types.push.Goals as goal

pub returns-clause-means : goal.returns-clause-means
returns-clause-means c =
    ap (tree c.push.new.self) (c.len-at.ensures ∙ ap length c.self.view_is)
    ∙ ap (λ F. tree F (length c.args.self.now)) (c.in_ok-push.ensures.ok ∙ ap (λ F. F ++ c.args.form ∷ []) c.self.view_is)
    ∙ tree_new c.args.self.now c.args.form

pub returns-clause-keeps : goal.returns-clause-keeps
returns-clause-keeps c i l =
    ap (λ F. tree F i) (c.in_ok-push.ensures.ok ∙ ap (λ F. F ++ c.args.form ∷ []) c.self.view_is) ∙ tree_more c.args.self.now c.args.form i l
