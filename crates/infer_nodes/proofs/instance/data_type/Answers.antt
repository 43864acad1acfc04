use Rattle.std.proofs.Common.{rules, ◌≡◌, ◌<◌, List, Some, length, sym, ap, ◌∙◌, subst, arith, IfOk}
use Rattle.std.specs.Prelude.{slice_get}
use Rattle.std.proofs.lemmas.Option.{slice_get-get_or}
use Rattle.sml_types.specs.declared.types.Ty.{Ty}
use Rattle.sml_types.specs.declared.types.TyVar.{TyVar}
use Rattle.sml_types.specs.declared.tables.ConRow.{ConRow}
use Rattle.sml_unify.specs.Variables.{AreOnce}
use Rattle.infer_parts.specs.Written.{AreThere}
use Rattle.infer_nodes.specs.Made.{AreNew, has_argument, IsConMade}
use Rattle.infer_nodes.proofs.Making.{new_count}
use Rattle.infer_nodes.proofs.Schemes.{new_there, data_copy, data_made}
use Rattle.infer_nodes.proofs.instance.data_type.Goals as goal

pub con_type-requires-clause-count : goal.con_type-requires-clause-count
con_type-requires-clause-count c =
    ap length c.deref.ensures.value ∙ new_count c.args.next.now c.items-params.result.now c.new_vars.new.types c.in_ok-args.args.items c.in_ok-args.ensures.is

pub con_type-requires-clause-there : goal.con_type-requires-clause-there
con_type-requires-clause-there c =
    subst (AreThere c.new_vars.new.types) (sym c.deref.ensures.value) (new_there c.args.next.now c.items-params.result.now c.new_vars.new.types c.in_ok-args.args.items c.in_ok-args.ensures.is)

pub con_type-requires-clause-argument : goal.con_type-requires-clause-argument
con_type-requires-clause-argument c a e =
    let low : c.args.number < length c.args.names.now = search rules in
    let less : c.args.at < length c.items-cons.result.now = search rules in
    let here = slice_get-get_or c.args.names.now c.args.number c.index-names-number.result low ∙ ap Some (sym c.index-names-number.is) in
    let there = ap (λ (cs : List ConRow). slice_get cs c.args.at) (sym c.items-cons.ensures) ∙ slice_get-get_or c.items-cons.result.now c.args.at c.index-cons-at.result less ∙ ap Some (sym c.index-cons-at.is) in
    let old = c.requires.there c.args.number c.args.at c.index-names-number.result c.index-cons-at.result a here there e in
    let count = c.in_ok-args.ensures.added.longer.count in
    omega arith

pub returns : goal.returns
returns c =
    let low : c.args.number < length c.args.names.now = search rules in
    let less : c.args.at < length c.items-cons.result.now = search rules in
    let here = slice_get-get_or c.args.names.now c.args.number c.index-names-number.result low ∙ ap Some (sym c.index-names-number.is) in
    let there = ap (λ (cs : List ConRow). slice_get cs c.args.at) (sym c.items-cons.ensures) ∙ slice_get-get_or c.items-cons.result.now c.args.at c.index-cons-at.result less ∙ ap Some (sym c.index-cons-at.is) in
    let takes : has_argument c.index-cons-at.result.arg ≡ c.args.takes = search rules in
    let once : AreOnce c.items-params.result.now = search rules in
    let params = c.items-params.ensures in
    data_made c.args.names.now c.args.next.now c.args.types.now c.new_vars.new.next c.con_type.new.types c.args.number c.args.at c.args.takes c.index-names-number.result c.index-cons-at.result c.con_type.result here there takes
    (data_copy c.args.names.now c.args.next.now c.args.types.now c.new_vars.new.next c.new_vars.new.types c.con_type.new.types c.args.number c.index-names-number.result.params c.deref.result.now c.index-cons-at.result c.con_type.result c.in_ok-args.ensures.added
    (subst (λ (ts : List Ty). AreNew c.args.next.now c.index-names-number.result.params c.new_vars.new.types ts) (sym c.deref.ensures.value) (subst (λ (vs : List TyVar). AreNew c.args.next.now vs c.new_vars.new.types c.in_ok-args.args.items) params c.in_ok-args.ensures.is))
    (subst AreOnce params once)
    (λ a e. (c.requires.there c.args.number c.args.at c.index-names-number.result c.index-cons-at.result a here there e, c.requires.covered c.args.number c.args.at c.index-names-number.result c.index-cons-at.result a here there e))
    (subst (λ (vs : List TyVar). IfOk c.con_type.result (λ t. IsConMade c.args.number vs c.deref.result.now c.index-cons-at.result c.new_vars.new.types c.con_type.new.types t)) params c.con_type.ensures))
