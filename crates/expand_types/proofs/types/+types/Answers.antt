use Rattle.std.proofs.Common.{◌≡◌, refl, arith, true, sym, ap, ◌∙◌, get_or, length}
use Rattle.std.proofs.lemmas.Result.{IfOk-weaker}
use Rattle.sml_tree.specs.declared.tree_node.TreeNode.TheVariants as node
use Rattle.sml_tree.specs.declared.bare.TypeExp.TheVariants as exp
use Rattle.sml_tree.specs.Parts.{parts_of}
use Rattle.sml_expansion.specs.Sources.{node_at}
use Rattle.expand_types.specs.Forms.{is_type_list}
use Rattle.sml_expansion.specs.Labels.{numbers}
use Rattle.sml_expansion.specs.Scopes.{scope_of}
use Rattle.sml_expansion.specs.Makings.{new_type}
use Rattle.sml_expansion.specs.Types.{type_fields}
use Rattle.expand_types.proofs.TypeLemmas.{in_paren, in_row, in_record, in_pair, in_con, in_seq, in_leaf, goes_on, ends, list_parts}
use Rattle.expand_types.proofs.types.+types.Goals as goal

pub one_type-returns-in-ParenTy : goal.one_type-returns-in-ParenTy
one_type-returns-in-ParenTy t c =
    let s = scope_of c.args.parsed.now.names c.args.bindings.now in
    IfOk-weaker c.types.result _ _ (λ x h. in_paren c.args.parsed.now s c.args.at c.one.result _ _ x.items c.in-ParenTy.ensures c.one.ensures.part h) c.types.ensures

pub one_type-returns-in-TyRow : goal.one_type-returns-in-TyRow
one_type-returns-in-TyRow t c =
    let s = scope_of c.args.parsed.now.names c.args.bindings.now in
    IfOk-weaker c.types-in-TyRow.result _ _ (λ x h. in_row c.args.parsed.now s c.args.at c.two.result.0 c.two.result.1 _ _ x.items c.in-TyRow.ensures c.two.ensures.parts h) c.types-in-TyRow.ensures

pub one_type-returns-in_ok-parts-in-RecordTy : goal.one_type-returns-in_ok-parts-in-RecordTy
one_type-returns-in_ok-parts-in-RecordTy t c =
    let s = scope_of c.args.parsed.now.names c.args.bindings.now in
    IfOk-weaker c.record_type.result _ _ (λ x h. in_record c.args.parsed.now s c.args.at c.one-rows.result _ _ _ _ c.deref.result.now x.items c.in-RecordTy.ensures c.one-rows.ensures.part c.in_ok-parts-in-RecordTy.ensures c.deref.ensures.value h) c.record_type.ensures

pub one_type-returns-in_ok-parts-in-ArrowTy : goal.one_type-returns-in_ok-parts-in-ArrowTy
one_type-returns-in_ok-parts-in-ArrowTy t c =
    let s = scope_of c.args.parsed.now.names c.args.bindings.now in
    IfOk-weaker c.arrow_type.result _ _ (λ x h. in_pair c.args.parsed.now s node.ArrowTy (λ q. new_type (exp.Arrow (get_or q 0 0) (get_or q 1 0))) (λ p a b. refl) refl c.args.at c.two-from.result.0 c.two-from.result.1 _ _ _ _ _ _ _ _ x.items c.in-ArrowTy.ensures c.two-from.ensures.parts c.in_ok-types_from-in-ArrowTy.ensures c.in_ok-types_to-in-ArrowTy.ensures (c.deref-in-ArrowTy-2.ensures.value ∙ c.in_ok-parts-in-ArrowTy.ensures) c.deref-in-ArrowTy.ensures.value h) c.arrow_type.ensures

pub one_type-returns-in_ok-parts-in-ProductTy : goal.one_type-returns-in_ok-parts-in-ProductTy
one_type-returns-in_ok-parts-in-ProductTy t c =
    let s = scope_of c.args.parsed.now.names c.args.bindings.now in
    IfOk-weaker c.product_type.result _ _ (λ x h. in_pair c.args.parsed.now s node.ProductTy (λ q. new_type (exp.Record (type_fields (numbers 0 (length q)) q))) (λ p a b. refl) refl c.args.at c.two-first.result.0 c.two-first.result.1 _ _ _ _ _ _ _ _ x.items c.in-ProductTy.ensures c.two-first.ensures.parts c.in_ok-types_first-in-ProductTy.ensures c.in_ok-types_behind-in-ProductTy.ensures (c.deref-in-ProductTy-2.ensures.value ∙ c.in_ok-parts-in-ProductTy.ensures) c.deref-in-ProductTy.ensures.value h) c.product_type.ensures

pub one_type-returns-in_ok-args-in-ConTy : goal.one_type-returns-in_ok-args-in-ConTy
one_type-returns-in_ok-args-in-ConTy t c =
    let s = scope_of c.args.parsed.now.names c.args.bindings.now in
    IfOk-weaker c.constructor_at.result _ _ (λ x h. in_con c.args.parsed.now s c.args.at c.two-arg.result.0 c.two-arg.result.1 _ _ _ _ x.items c.ident-ident.result c.in-ConTy.ensures c.two-arg.ensures.parts c.in_ok-args-in-ConTy.ensures c.ident-ident.ensures h) c.constructor_at.ensures

pub one_type-returns-in_ok-args-in-SeqConTy : goal.one_type-returns-in_ok-args-in-SeqConTy
one_type-returns-in_ok-args-in-SeqConTy t c =
    let s = scope_of c.args.parsed.now.names c.args.bindings.now in
    IfOk-weaker c.constructor_at-in-SeqConTy.result _ _ (λ x h. in_seq c.args.parsed.now s c.args.at c.three-first.result.0 c.three-first.result.1 c.three-first.result.2 _ _ _ _ _ _ _ _ x.items c.ident-ident-in-SeqConTy.result c.in-SeqConTy.ensures c.three-first.ensures.parts c.in_ok-types_first-in-SeqConTy.ensures c.in_ok-types_behind-in-SeqConTy.ensures c.in_ok-args-in-SeqConTy.ensures c.deref-in-SeqConTy.ensures.value c.ident-ident-in-SeqConTy.ensures h) c.constructor_at-in-SeqConTy.ensures

pub one_type-returns-in_default : goal.one_type-returns-in_default
one_type-returns-in_default t c =
    let s = scope_of c.args.parsed.now.names c.args.bindings.now in
    let d = c.in_default in
    IfOk-weaker c.leaf_type.result _ _ (λ x h. in_leaf c.args.parsed.now s c.args.at _ _ x.items _ c.place.result c.node.ensures c.place.ensures c.requires d.not-ParenTy d.not-RecordTy d.not-TyRow d.not-ArrowTy d.not-ProductTy d.not-ConTy d.not-SeqConTy h) c.leaf_type.ensures

pub types-loop-first-preserved : goal.types-loop-first-preserved
types-loop-first-preserved t c =
    let s = scope_of c.args.parsed.now.names c.args.bindings.now in
    let list : is_type_list c.node.result ≡ true = sym c.is_type_list.ensures ∙ c.loop-first-test.true in
    let two_parts : parts_of (node_at c.args.parsed.now c.loop-first.rest) ≡ 2 = ap parts_of (sym c.node.ensures) ∙ list_parts c.args.parsed.now s c.node.result list in
    let below = c.two-first.ensures.below two_parts in
    (omega (arith, below.1, c.loop-first.invariant.0), goes_on c.args.parsed.now s c.args.at c.loop-first.rest c.two-first.result.0 c.two-first.result.1 _ _ _ _ _ _ _ _ c.loop-first.invariant.1 list c.node.ensures c.two-first.ensures.parts c.in_ok-more.ensures c.in_ok-numbers.ensures c.deref.ensures.value)

pub types-returns : goal.types-returns
types-returns t c =
    let s = scope_of c.args.parsed.now.names c.args.bindings.now in
    IfOk-weaker c.joined-2.result _ _ (λ x same. ends c.args.parsed.now s c.args.at c.loop-first.rest _ _ _ _ _ _ x.items c.loop-first.invariant.1 c.in_ok-last.ensures same c.deref-2.ensures.value) c.joined-2.ensures
