use Rattle.std.proofs.Common.{[], ◌∷◌, ◌++◌, map, ap, ◌∙◌}
use Rattle.smlc_top.proofs.front.library_files.Goals as goal

pub returns : goal.returns
returns c = ap (λ fs. map (λ f. f.items) fs) (c.in_ok-push.ensures.items ∙ ap (λ fs. fs ++ c.in_ok-text.text ∷ []) c.new-files.ensures.items) ∙ ap (λ t. t ∷ []) c.in_ok-text.ensures
