use Rattle.std.proofs.Common.{◌++◌, ℕ, List, [], take, get_or, sym, ap, ◌∙◌}
use Rattle.std.specs.Prelude.{flat_map}
use Rattle.std.proofs.lemmas.List.{take_all, take_more, flat_map_more}
use Rattle.infer_state.specs.Names.{names_bound}
use Rattle.smlc_top.proofs.types.numbers_of.Goals as goal

pub shown-preserved : goal.shown-preserved
shown-preserved c =
    let f : ℕ → List ℕ = names_bound c.args.bare.now.nodes in
    let ds : List ℕ = c.items-declaration-items.result.now in
    let i = c.shown.declaration-index in
    c.in_ok-extend_from_slice.ensures.items
    ∙ ap (λ (xs : List ℕ). xs ++ c.deref.result.now) c.shown.invariant
    ∙ ap (λ (xs : List ℕ). flat_map f (take i ds) ++ xs) (c.deref.ensures.value ∙ c.in_ok-bound.ensures)
    ∙ flat_map_more f [] (take i ds) (get_or ds i 0)
    ∙ ap (flat_map f) (sym (take_more ds i 0 c.shown-test.true))

pub returns : goal.returns
returns c =
    c.shown.invariant
    ∙ ap (λ (ds : List ℕ). flat_map (names_bound c.args.bare.now.nodes) ds) (take_all c.shown.declaration-index c.items-declaration-items.result.now c.shown-test.false)
    ∙ ap (λ (ds : List ℕ). flat_map (names_bound c.args.bare.now.nodes) ds) c.items-declaration-items.ensures
