use Rattle.std.proofs.Common.{◌≡◌, ◌++◌, [], ap, sym, ◌∙◌}
use Rattle.sml_derive.specs.Tops.{so_many, trees_of}
use Rattle.std.specs.Prelude.{false, true}
use Rattle.sml_derive.proofs.Schemas.{on_so}
use Rattle.sml_derive.proofs.TopLemmas.{library_top_is}
use Rattle.sml_derive.proofs.top_trees.library_top.Goals as goal

pub returns : goal.returns
returns c = on_so c.keep.result _ _ (λ e t k. library_top_is c.args.parsed.now t c.args.walk.now c.decs.new.walk c.in_ok-count.count c.args.trees.now.items c.keep.new.trees.items c.note.new.shown.items c.place-place.result (c.in_ok-count.ensures t k) (c.in_ok-note.ensures ∙ ap (λ l. l ++ so_many c.in_ok-count.count false) c.new-shown.ensures.items) (c.place-place.ensures t k) (e ∙ ap (λ l. c.args.trees.now.items ++ trees_of true c.place-place.result l) c.deref.ensures.value)) c.keep.ensures
