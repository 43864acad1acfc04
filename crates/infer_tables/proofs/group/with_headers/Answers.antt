use Rattle.std.proofs.Common.{◌++◌, Some, sym, ap, ◌∙◌, arith, length, refl, subst}
use Rattle.std.proofs.lemmas.Option.{slice_get-get_or}
use Rattle.sml_tree.specs.IsBare.{IsDistinct}
use Rattle.sml_types.specs.TypeExps.{all_explicit}
use Rattle.infer_tables.specs.Group.{headers, AreNext}
use Rattle.infer_tables.proofs.RowFacts.{header_is, header_added, next_added, take_end, append_none}
use Rattle.infer_tables.proofs.group.with_headers.Goals as goal

pub bindings-init : goal.bindings-init
bindings-init c = record { names = append_none c.args.known.tables.names; abbreviations = refl; stands = refl; next = tt }

pub bindings-preserved : goal.bindings-preserved
bindings-preserved c =
    let marks = c.args.bare.now.tyvars in
    let before = c.args.known.tables.names in
    let bs = c.args.bindings.now in
    let hi = c.bindings-test.true in
    let i = c.bindings.binding-index in
    let b = c.binding-item.result in
    let q = slice_get-get_or bs i b (omega arith) ∙ ap Some (sym c.binding-item.is) in
    let same = c.items.ensures in
    let row = header_is marks b c.new.result c.in_ok-params.params c.new-in-bindings.result c.new.ensures (c.in_ok-params.ensures.is ∙ ap (all_explicit marks) same) c.new-in-bindings.ensures in
    let n = c.if-binding-len.false in
    let m = c.len.ensures in
    record {
      names = header_added marks before c.bindings.known.tables.names c.push.new.self bs i b _ q c.bindings.invariant.names row c.in_ok-push.ensures.ok;
      abbreviations = c.bindings.invariant.abbreviations;
      stands = c.bindings.invariant.stands;
      next = next_added marks before c.bindings.known.tables.names bs i b q c.bindings.invariant.names (omega arith) (subst IsDistinct same c.in_ok-params.ensures.apart) c.bindings.invariant.next;
    }

pub returns-clause-names : goal.returns-clause-names
returns-clause-names c =
    let lo = c.bindings-test.false in
    c.bindings.invariant.names ∙ ap (λ bs. c.args.known.tables.names ++ headers c.args.bare.now.tyvars bs) (take_end c.args.bindings.now c.bindings.binding-index (omega arith))

pub returns-clause-others : goal.returns-clause-others
returns-clause-others c = (c.bindings.invariant.abbreviations, c.bindings.invariant.stands)

pub returns-clause-next : goal.returns-clause-next
returns-clause-next c =
    let lo = c.bindings-test.false in
    subst (AreNext (length c.args.known.tables.names)) (take_end c.args.bindings.now c.bindings.binding-index (omega arith)) c.bindings.invariant.next
