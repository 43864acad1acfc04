use Rattle.std.proofs.Common.{rules, ◌≡◌, ◌++◌, [], refl, sym, subst, ◌∙◌}
use Rattle.sml_tree.specs.declared.bare.Node.TheVariants as bare
use Rattle.sml_expansion.specs.Terms.{trees}
use Rattle.sml_expansion.specs.Forests.{grown, none}
use Rattle.sml_expansion.specs.Marks.{marks}
use Rattle.sml_expansion.specs.Programs.{no_place, end_of}
use Rattle.sml_derive.specs.declared.program.Expanded.{Expanded}
use Rattle.sml_derive.specs.Steps.{marked}
use Rattle.sml_derive.specs.Tops.{AreAt, AreTops, StandBefore, ends, named_long}
use Rattle.sml_derive.proofs.Roots.{source_of, source_with, roots_stand, roots_with}
use Rattle.sml_derive.proofs.Wholes.{expanded_is}
use Rattle.sml_derive.proofs.program.expand.Goals as goal

pub returns : goal.returns
returns c =
    let library = c.args.library.now in
    let tree = c.args.tree.now in
    let e : Expanded = record { nodes = c.in_ok-nodes.nodes; places = c.in_ok-nodes.places; decs = c.in_ok-decs.field-0.decs; shown = c.in_ok-decs.field-0.shown; made = c.finish.new.walk.made } in
    let stands : c.in_ok-stands.stands ≡ source_with tree.names library = c.in_ok-stands.ensures in
    let parsed : c.in_ok-parsed.parsed ≡ source_of tree = c.in_ok-parsed.ensures in
    let firsts = trees library.nodes library.places in
    let terms = trees tree.nodes tree.places in
    let first_at : AreAt c.in_ok-stands.stands library.decs firsts = subst (λ s. AreAt s library.decs firsts) (sym stands) (roots_with tree.names library) in
    let at : AreAt c.in_ok-parsed.parsed tree.decs terms = subst (λ s. AreAt s tree.decs terms) (sym parsed) (roots_stand tree) in
    let end : c.last_place-end.result ≡ end_of no_place terms = c.last_place-end.ensures terms (subst (λ d. AreAt c.in_ok-parsed.parsed d terms) (sym c.items-3.ensures) at) in
    let before : StandBefore c.in_ok-stands.stands firsts c.new-walk.result c.library_tops.new.walk [] c.in_ok-trees.trees.items = c.in_ok-trees.ensures firsts (subst (λ d. AreAt c.in_ok-stands.stands d firsts) (sym c.items.ensures) first_at) in
    let long : c.long_identifiers.new.walk ≡ named_long tree.names c.library_tops.new.walk = c.in_ok-long_identifiers.ensures in
    let walked : AreTops c.in_ok-parsed.parsed terms c.long_identifiers.new.walk c.tops.new.walk c.in_ok-trees.trees.items c.tops.new.trees.items = c.in_ok-tops.ensures terms (subst (λ d. AreAt c.in_ok-parsed.parsed d terms) (sym c.items-2.ensures) at) in
    let finished : c.finish.new.walk ≡ marked (marks (grown bare.Finish c.last_place-end.result none) ++ ends c.tops.new.trees.items) c.tops.new.walk = search rules in
    expanded_is library tree c.in_ok-stands.stands c.in_ok-parsed.parsed e c.new-walk.result c.library_tops.new.walk c.long_identifiers.new.walk c.tops.new.walk c.finish.new.walk c.in_ok-trees.trees.items c.tops.new.trees.items c.last_place-end.result
    stands parsed c.new-walk.ensures.made c.new-walk.ensures.bindings c.new-walk.ensures.marks
    before long walked end finished c.in_ok-nodes.ensures.nodes c.in_ok-nodes.ensures.places (λ end tops k n t. c.in_ok-decs.ensures end tops k (c.items-4.ensures ∙ n) (c.deref-2.ensures.value ∙ t)) refl
