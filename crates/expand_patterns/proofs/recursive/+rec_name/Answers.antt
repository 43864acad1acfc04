use Rattle.std.proofs.Common.{◌≡◌, true, false, List, refl, sym, ap, ◌∙◌}
use Rattle.sml_tree.specs.declared.tree_node.TreeNode.TheVariants as node
use Rattle.sml_expansion.specs.declared.scope.Bound.{Bound}
use Rattle.sml_expansion.specs.Bindings.{rec_name}
use Rattle.sml_expansion.specs.Makings.{Makes}
use Rattle.sml_expansion.specs.Scopes.{scope_of}
use Rattle.sml_expansion.specs.Sources.{node_at}
use Rattle.sml_expansion.specs.Terms.{Term, node_of}
use Rattle.sml_expansion.proofs.Shapes.{node_is, as_one, as_two}
use Rattle.expand_patterns.specs.Expands.{Binds}
use Rattle.expand_patterns.specs.Names.{is_vid, refused_vars}
use Rattle.expand_patterns.proofs.Behind.{if_ok}
use Rattle.expand_patterns.proofs.BindLemmas.{bind_alike, rec_at, rec_other, vid_bound}
use Rattle.expand_patterns.proofs.recursive.+rec_name.Goals as goal

pub returns-in-TypedPat : goal.returns-in-TypedPat
returns-in-TypedPat t c =
    let s = c.args.parsed.now in
    if_ok c.rec_name.result
    (λ k h w t' i j.
    let Here : Term → Type 0 = λ u. Binds s.names (λ m. rec_name m w u) c.args.walk.now c.rec_name.new.walk c.args.bound.now.items c.rec_name.new.bound.items in
    as_two s c.args.at t' node.TypedPat j (sym c.in-TypedPat.ensures) refl Here (λ p a b o. h w a i (c.two.ensures.parts node.TypedPat p a b o).0))
    c.rec_name.ensures

pub returns-in-Op : goal.returns-in-Op
returns-in-Op t c =
    let s = c.args.parsed.now in
    if_ok c.rec_ident.result
    (λ k h w t' i j.
    let Here : Term → Type 0 = λ u. Binds s.names (λ m. rec_name m w u) c.args.walk.now c.rec_ident.new.walk c.args.bound.now.items c.rec_ident.new.bound.items in
    as_one s c.args.at t' node.Op j (sym c.in-Op.ensures) refl Here (λ p a o. rec_at s.names a c.ident.result c.args.walk.now c.rec_ident.new.walk c.args.bound.now.items c.rec_ident.new.bound.items (c.ident.ensures a (c.one.ensures.part node.Op p a o)) h))
    c.rec_ident.ensures

pub returns-then-is_vid : goal.returns-then-is_vid
returns-then-is_vid t c =
    let s = c.args.parsed.now in
    let is : is_vid (node_at s c.args.at) ≡ true = ap is_vid (sym c.node.ensures) ∙ sym c.is_vid.ensures ∙ c.if-is_vid.true in
    if_ok c.rec_ident-then-is_vid.result
    (λ k h w t' i j. vid_bound s c.args.at t' w c.ident-then-is_vid.result c.args.walk.now c.rec_ident-then-is_vid.new.walk c.args.bound.now.items c.rec_ident-then-is_vid.new.bound.items j is (c.ident-then-is_vid.ensures t' j) h)
    c.rec_ident-then-is_vid.ensures

pub returns-else-is_vid : goal.returns-else-is_vid
returns-else-is_vid t c =
    let s = c.args.parsed.now in
    if_ok c.refused_vars.result
    (λ k h w t' i j.
    let is = c.node.ensures ∙ node_is s c.args.at t' j in
    let other : is_vid (node_of t') ≡ false = ap is_vid (sym is) ∙ sym c.is_vid.ensures ∙ c.if-is_vid.false in
    bind_alike s.names (λ m. refused_vars m w) (λ m. rec_name m w t') c.args.walk.now c.refused_vars.new.walk c.args.bound.now.items c.refused_vars.new.bound.items
    (ap (λ (f : Makes (List Bound)). f c.args.walk.now.made) (rec_other (scope_of s.names c.args.walk.now.bindings) w t' (λ e. c.in_default.not-TypedPat (is ∙ e)) (λ e. c.in_default.not-Op (is ∙ e)) other)) (h w i))
    c.refused_vars.ensures
