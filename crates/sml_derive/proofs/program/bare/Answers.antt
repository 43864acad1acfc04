use Rattle.std.proofs.Common.{rules, ◌≡◌, None, refl, sym, ap, subst, ◌∙◌}
use Rattle.std.specs.List.{AllByRecursion}
use Rattle.sml_tree.specs.BareParts.{IsNumbered}
use Rattle.expansion_laws.specs.Laws.{CharFits, AreReady}
use Rattle.sml_derive.specs.Tops.{AreAt}
use Rattle.sml_derive.proofs.Roots.{source_of, roots_stand}
use Rattle.sml_tree.specs.Width.{width, at_most}
use Rattle.sml_expansion.specs.Terms.{trees}
use Rattle.sml_expansion.specs.Whole.{first_user_place}
use Rattle.sml_derive.proofs.Wholes.{is_broken, is_numbered, is_wide, within_limit}
use Rattle.sml_derive.proofs.program.bare.Goals as goal

pub returns-in-Some-clause-err : goal.returns-in-Some-clause-err
returns-in-Some-clause-err c = is_broken c.args.library.now c.args.tree.now c.in_ok-expanded.expanded c.in-Some.refusal c.in_ok-expanded.ensures c.in-Some.is

pub width_within-requires : goal.width_within-requires
width_within-requires c =
    let none : c.in_ok-expanded.expanded.made.refusal ≡ None = search rules in
    let library_chars : AllByRecursion CharFits c.args.library.now.nodes = subst (AllByRecursion CharFits) c.items.ensures c.chars_fit.ensures in
    let chars : AllByRecursion CharFits c.args.tree.now.nodes = subst (AllByRecursion CharFits) c.items-2.ensures c.chars_fit-2.ensures in
    let ready : AreReady c.args.library.now c.args.tree.now = record { library_chars = library_chars; chars = chars; continues = c.requires } in
    subst IsNumbered (sym c.items-3.ensures) (is_numbered c.args.library.now c.args.tree.now c.in_ok-expanded.expanded ready c.in_ok-expanded.ensures none)

pub completed-requires-clause-ready : goal.completed-requires-clause-ready
completed-requires-clause-ready c = record {
  library_chars = subst (AllByRecursion CharFits) c.items.ensures c.chars_fit.ensures;
  chars = subst (AllByRecursion CharFits) c.items-2.ensures c.chars_fit-2.ensures;
  continues = c.requires;
}

pub completed-requires-clause-width : goal.completed-requires-clause-width
completed-requires-clause-width c =
    (within_limit 1048576 (width c.items-3.result.now c.items-4.result.now) c.in-Some-width.width (sym c.in-Some-width.is ∙ c.in_ok-width.ensures)).0
    ∙ ap (λ n. width n c.items-4.result.now) c.items-3.ensures
    ∙ ap (λ p. width c.in_ok-expanded.expanded.nodes p) c.items-4.ensures

pub returns-in_ok-parsed-in-None-clause-err : goal.returns-in_ok-parsed-in-None-clause-err
returns-in_ok-parsed-in-None-clause-err c =
    let tree = c.args.tree.now in
    let terms = trees tree.nodes tree.places in
    let none : c.in_ok-expanded.expanded.made.refusal ≡ None = search rules in
    let wide : None ≡ at_most 1048576 (width c.items-3.result.now c.items-4.result.now) = sym c.in-None.is ∙ c.in_ok-width.ensures in
    let parsed : c.in_ok-parsed-in-None.parsed ≡ source_of tree = c.in_ok-parsed-in-None.ensures in
    let at : AreAt c.in_ok-parsed-in-None.parsed tree.decs terms = subst (λ s. AreAt s tree.decs terms) (sym parsed) (roots_stand tree) in
    let place : c.first_user_place-place.result ≡ first_user_place terms = c.first_user_place-place.ensures terms (subst (λ d. AreAt c.in_ok-parsed-in-None.parsed d terms) (sym c.items-in-None.ensures) at) in
    is_wide c.args.library.now tree c.in_ok-expanded.expanded 1048576 c.first_user_place-place.result c.in_ok-expanded.ensures none refl
    (wide ∙ ap (λ n. at_most 1048576 (width n c.items-4.result.now)) c.items-3.ensures ∙ ap (λ p. at_most 1048576 (width c.in_ok-expanded.expanded.nodes p)) c.items-4.ensures) place
