use Rattle.std.proofs.Common.{◌≡◌, ℕ, ◌+◌, List, ℤ, w64, refl, sym, ap, ◌∙◌, subst, arith, rules}
use Rattle.std.proofs.lemmas.Int.{to_z-of_z}
use Rattle.smlc_base.specs.declared.place.Place.{Place}
use Rattle.sml_tree.specs.declared.tree_node.TreeNode.TheVariants as node
use Rattle.sml_tree.specs.declared.bare.Lab.{Lab}
use Rattle.sml_tree.specs.declared.bare.Field.{Field}
use Rattle.sml_tree.specs.declared.bare.Node.TheVariants as bare
use Rattle.sml_expansion.specs.declared.scope.Bound.{Bound}
use Rattle.sml_expansion.specs.declared.walk.Walk.{Walk}
use Rattle.sml_expansion.specs.Bare.{wild_node, con_nil}
use Rattle.sml_expansion.specs.Forests.{none, grown}
use Rattle.sml_expansion.specs.Makings.{Makes, Runs, gives}
use Rattle.sml_expansion.specs.Terms.{Term, leaf, one, two, three, node_of}
use Rattle.sml_expansion.specs.Patterns.{Pattern, plain, patterns, single, identifier}
use Rattle.sml_expansion.specs.Scopes.{Scope, meaning_of}
use Rattle.sml_expansion.specs.Types.{labels_once}
use Rattle.sml_expansion.specs.Sources.{IsAt, node_at}
use Rattle.sml_expansion.proofs.Shapes.{node_is}
use Rattle.expand_patterns.specs.declared.forms.Form.TheVariants as form
use Rattle.expand_patterns.specs.Expands.{Expands}
use Rattle.expand_patterns.specs.Opens.{Opens}
use Rattle.expand_patterns.specs.Forms.{form_of}
use Rattle.expand_patterns.proofs.Behind.{if_ok}
use Rattle.expand_patterns.proofs.Joining.{both_expand, both_open, alone_opens, typed_from, layered_from, rows_from, applied_at, infix_at, layered_at, identifier_at}
use Rattle.expand_patterns.proofs.Shaped.{wild_form, leaf_form, one_form, two_form, three_form, one_tree, parts_of_more}
use Rattle.expand_patterns.proofs.patterns.+patterns.Goals as goal

pub pattern-returns-in-Int : goal.pattern-returns-in-Int
pattern-returns-in-Int t c =
    let s = c.args.parsed.now in
    let is : form_of (node_at s c.args.at) ≡ form.Int c.in-Int.value = ap form_of (sym c.node.ensures) ∙ sym c.in-Int.ensures in
    if_ok c.lone.result
    (λ trees h u i. leaf_form s c.args.at u (form.Int c.in-Int.value) i is refl (λ f. Expands s.names f trees c.args.walk.now c.lone.new.walk c.args.bound.now.items c.args.bound.now.items)
    (λ n p j. subst (λ (q : Place). Expands s.names (λ m. gives (plain (grown (bare.PatInt c.in-Int.value) q none))) trees c.args.walk.now c.lone.new.walk c.args.bound.now.items c.args.bound.now.items) (c.place-place.ensures (leaf n p) j) (subst (λ (z : ℤ). Expands s.names (λ m. gives (plain (grown (bare.PatInt z) c.place-place.result none))) trees c.args.walk.now c.lone.new.walk c.args.bound.now.items c.args.bound.now.items) (to_z-of_z w64 c.in-Int.value (search rules)) (h s.names c.args.bound.now.items))))
    c.lone.ensures

pub pattern-returns-in-Char : goal.pattern-returns-in-Char
pattern-returns-in-Char t c =
    let s = c.args.parsed.now in
    let is : form_of (node_at s c.args.at) ≡ form.Char c.in-Char.value = ap form_of (sym c.node.ensures) ∙ sym c.in-Char.ensures in
    if_ok c.lone-in-Char.result
    (λ trees h u i. leaf_form s c.args.at u (form.Char c.in-Char.value) i is refl (λ f. Expands s.names f trees c.args.walk.now c.lone-in-Char.new.walk c.args.bound.now.items c.args.bound.now.items)
    (λ n p j. subst (λ (q : Place). Expands s.names (λ m. gives (plain (grown (bare.PatChar c.in-Char.value) q none))) trees c.args.walk.now c.lone-in-Char.new.walk c.args.bound.now.items c.args.bound.now.items) (c.place-place.ensures (leaf n p) j) (h s.names c.args.bound.now.items)))
    c.lone-in-Char.ensures

pub pattern-returns-in-Text : goal.pattern-returns-in-Text
pattern-returns-in-Text t c =
    let s = c.args.parsed.now in
    let is : form_of (node_at s c.args.at) ≡ form.Text c.in-Text.text = ap form_of (sym c.node.ensures) ∙ sym c.in-Text.ensures in
    if_ok c.lone-in-Text.result
    (λ trees h u i. leaf_form s c.args.at u (form.Text c.in-Text.text) i is refl (λ f. Expands s.names f trees c.args.walk.now c.lone-in-Text.new.walk c.args.bound.now.items c.args.bound.now.items)
    (λ n p j. subst (λ (q : Place). Expands s.names (λ m. gives (plain (grown (bare.PatText c.in-Text.text) q none))) trees c.args.walk.now c.lone-in-Text.new.walk c.args.bound.now.items c.args.bound.now.items) (c.place-place.ensures (leaf n p) j) (h s.names c.args.bound.now.items)))
    c.lone-in-Text.ensures

pub pattern-returns-in-EmptyList : goal.pattern-returns-in-EmptyList
pattern-returns-in-EmptyList t c =
    let s = c.args.parsed.now in
    let is : form_of (node_at s c.args.at) ≡ form.EmptyList = ap form_of (sym c.node.ensures) ∙ sym c.in-EmptyList.ensures in
    if_ok c.lone-in-EmptyList.result
    (λ trees h u i. leaf_form s c.args.at u (form.EmptyList) i is refl (λ f. Expands s.names f trees c.args.walk.now c.lone-in-EmptyList.new.walk c.args.bound.now.items c.args.bound.now.items)
    (λ n p j. subst (λ (q : Place). Expands s.names (λ m. gives (plain (grown (bare.PatCon con_nil) q none))) trees c.args.walk.now c.lone-in-EmptyList.new.walk c.args.bound.now.items c.args.bound.now.items) (c.place-place.ensures (leaf n p) j) (h s.names c.args.bound.now.items)))
    c.lone-in-EmptyList.ensures

pub pattern-returns-in-Empty : goal.pattern-returns-in-Empty
pattern-returns-in-Empty t c =
    let s = c.args.parsed.now in
    let is : form_of (node_at s c.args.at) ≡ form.Empty = ap form_of (sym c.node.ensures) ∙ sym c.in-Empty.ensures in
    if_ok c.lone-in-Empty.result
    (λ trees h u i. leaf_form s c.args.at u (form.Empty) i is refl (λ f. Expands s.names f trees c.args.walk.now c.lone-in-Empty.new.walk c.args.bound.now.items c.args.bound.now.items)
    (λ n p j. subst (λ (l : List Field). Expands s.names (λ m. gives (plain (grown (bare.PatRecord l) p none))) trees c.args.walk.now c.lone-in-Empty.new.walk c.args.bound.now.items c.args.bound.now.items) c.new.ensures (subst (λ (q : Place). Expands s.names (λ m. gives (plain (grown (bare.PatRecord c.new.result) q none))) trees c.args.walk.now c.lone-in-Empty.new.walk c.args.bound.now.items c.args.bound.now.items) (c.place-place.ensures (leaf n p) j) (h s.names c.args.bound.now.items))))
    c.lone-in-Empty.ensures

pub pattern-returns-in-Wild : goal.pattern-returns-in-Wild
pattern-returns-in-Wild t c =
    let s = c.args.parsed.now in
    let is : form_of (node_at s c.args.at) ≡ form.Wild = ap form_of (sym c.node.ensures) ∙ sym c.in-Wild.ensures in
    if_ok c.lone-in-Wild.result
    (λ trees h u i. wild_form s c.args.at u i is (λ f. Expands s.names f trees c.args.walk.now c.lone-in-Wild.new.walk c.args.bound.now.items c.args.bound.now.items)
    (subst (λ (q : Place). Expands s.names (λ m. gives (plain (wild_node q))) trees c.args.walk.now c.lone-in-Wild.new.walk c.args.bound.now.items c.args.bound.now.items) (c.place-place.ensures u i) (h s.names c.args.bound.now.items)))
    c.lone-in-Wild.ensures

pub pattern-returns-in-Name : goal.pattern-returns-in-Name
pattern-returns-in-Name t c =
    let s = c.args.parsed.now in
    let is : form_of (node_at s c.args.at) ≡ form.Name = ap form_of (sym c.node.ensures) ∙ sym c.in-Name.ensures in
    if_ok c.identifier.result
    (λ trees h u i. leaf_form s c.args.at u (form.Name) i is refl (λ f. Expands s.names f trees c.args.walk.now c.identifier.new.walk c.args.bound.now.items c.identifier.new.bound.items)
    (λ n p j. identifier_at s.names p (leaf n p) c.ident.result trees c.args.walk.now c.identifier.new.walk c.args.bound.now.items c.identifier.new.bound.items (c.ident.ensures (leaf n p) j) (subst (λ (q : Place). Expands s.names (λ m. identifier m.names q c.ident.result (meaning_of m c.ident.result.key)) trees c.args.walk.now c.identifier.new.walk c.args.bound.now.items c.identifier.new.bound.items) (c.place-place.ensures (leaf n p) j) (h))))
    c.identifier.ensures

pub pattern-returns-in-NamePart : goal.pattern-returns-in-NamePart
pattern-returns-in-NamePart t c =
    let s = c.args.parsed.now in
    let is : form_of (node_at s c.args.at) ≡ form.NamePart = ap form_of (sym c.node.ensures) ∙ sym c.in-NamePart.ensures in
    if_ok c.identifier-in-NamePart.result
    (λ trees h u i. one_form s c.args.at u (form.NamePart) i is refl (λ f. Expands s.names f trees c.args.walk.now c.identifier-in-NamePart.new.walk c.args.bound.now.items c.identifier-in-NamePart.new.bound.items)
    (λ n p a j. identifier_at s.names p a c.ident-in-NamePart.result trees c.args.walk.now c.identifier-in-NamePart.new.walk c.args.bound.now.items c.identifier-in-NamePart.new.bound.items (c.ident-in-NamePart.ensures a (c.one.ensures.part n p a j)) (subst (λ (q : Place). Expands s.names (λ m. identifier m.names q c.ident-in-NamePart.result (meaning_of m c.ident-in-NamePart.result.key)) trees c.args.walk.now c.identifier-in-NamePart.new.walk c.args.bound.now.items c.identifier-in-NamePart.new.bound.items) (c.place-place.ensures (one n p a) j) (h))))
    c.identifier-in-NamePart.ensures

pub pattern-returns-in-Inside : goal.pattern-returns-in-Inside
pattern-returns-in-Inside t c =
    let s = c.args.parsed.now in
    let is : form_of (node_at s c.args.at) ≡ form.Inside = ap form_of (sym c.node.ensures) ∙ sym c.in-Inside.ensures in
    if_ok c.inside.result
    (λ trees h u i. one_form s c.args.at u (form.Inside) i is refl (λ f. Expands s.names f trees c.args.walk.now c.inside.new.walk c.args.bound.now.items c.inside.new.bound.items)
    (λ n p a j. subst (λ (q : Place). Expands s.names (λ m. single q (patterns m a)) trees c.args.walk.now c.inside.new.walk c.args.bound.now.items c.inside.new.bound.items) (c.place-place.ensures (one n p a) j) (h a (c.one-in-Inside.ensures.part n p a j))))
    c.inside.ensures

pub pattern-returns-in-Row : goal.pattern-returns-in-Row
pattern-returns-in-Row t c =
    let s = c.args.parsed.now in
    let is : form_of (node_at s c.args.at) ≡ form.Row = ap form_of (sym c.node.ensures) ∙ sym c.in-Row.ensures in
    if_ok c.inside-in-Row.result
    (λ trees h u i. two_form s c.args.at u (form.Row) i is refl (λ f. Expands s.names f trees c.args.walk.now c.inside-in-Row.new.walk c.args.bound.now.items c.inside-in-Row.new.bound.items)
    (λ n p a b j. subst (λ (q : Place). Expands s.names (λ m. single q (patterns m b)) trees c.args.walk.now c.inside-in-Row.new.walk c.args.bound.now.items c.inside-in-Row.new.bound.items) (c.place-place.ensures (two n p a b) j) (h b (c.two.ensures.parts n p a b j).1)))
    c.inside-in-Row.ensures

pub pattern-returns-in-Items : goal.pattern-returns-in-Items
pattern-returns-in-Items t c =
    let s = c.args.parsed.now in
    let is : form_of (node_at s c.args.at) ≡ form.Items = ap form_of (sym c.node.ensures) ∙ sym c.in-Items.ensures in
    if_ok c.list.result
    (λ trees h u i. one_form s c.args.at u (form.Items) i is refl (λ f. Expands s.names f trees c.args.walk.now c.list.new.walk c.args.bound.now.items c.list.new.bound.items)
    (λ n p a j. subst (λ (q : Place). Expands s.names (λ m. patterns m (one node.PatList q a)) trees c.args.walk.now c.list.new.walk c.args.bound.now.items c.list.new.bound.items) (c.place-place.ensures (one n p a) j) (h a (c.one-in-Items.ensures.part n p a j))))
    c.list.ensures

pub pattern-returns-in-Rows : goal.pattern-returns-in-Rows
pattern-returns-in-Rows t c =
    let s = c.args.parsed.now in
    let is : form_of (node_at s c.args.at) ≡ form.Rows = ap form_of (sym c.node.ensures) ∙ sym c.in-Rows.ensures in
    if_ok c.rows.result
    (λ trees h u i. one_form s c.args.at u (form.Rows) i is refl (λ f. Expands s.names f trees c.args.walk.now c.rows.new.walk c.args.bound.now.items c.rows.new.bound.items)
    (λ n p a j. subst (λ (q : Place). Expands s.names (λ m. patterns m (one node.PatRecord q a)) trees c.args.walk.now c.rows.new.walk c.args.bound.now.items c.rows.new.bound.items) (c.place-place.ensures (one n p a) j) (h a (c.one-in-Rows.ensures.part n p a j))))
    c.rows.ensures

pub pattern-returns-in-More : goal.pattern-returns-in-More
pattern-returns-in-More t c =
    let s = c.args.parsed.now in
    let is : form_of (node_at s c.args.at) ≡ form.More = ap form_of (sym c.node.ensures) ∙ sym c.in-More.ensures in
    if_ok c.both.result
    (λ trees h u i. two_form s c.args.at u (form.More) i is refl (λ f. Expands s.names f trees c.args.walk.now c.both.new.walk c.args.bound.now.items c.both.new.bound.items)
    (λ n p a b j. h p a b (c.two-in-More.ensures.parts n p a b j).0 (c.two-in-More.ensures.parts n p a b j).1))
    c.both.ensures

pub pattern-returns-in-Tuple : goal.pattern-returns-in-Tuple
pattern-returns-in-Tuple t c =
    let s = c.args.parsed.now in
    let is : form_of (node_at s c.args.at) ≡ form.Tuple = ap form_of (sym c.node.ensures) ∙ sym c.in-Tuple.ensures in
    if_ok c.tuple.result
    (λ trees h u i. two_form s c.args.at u (form.Tuple) i is refl (λ f. Expands s.names f trees c.args.walk.now c.tuple.new.walk c.args.bound.now.items c.tuple.new.bound.items)
    (λ n p a b j. subst (λ (q : Place). Expands s.names (λ m. patterns m (two node.PatTuple q a b)) trees c.args.walk.now c.tuple.new.walk c.args.bound.now.items c.tuple.new.bound.items) (c.place-place.ensures (two n p a b) j) (h a b (c.two-in-Tuple.ensures.parts n p a b j).0 (c.two-in-Tuple.ensures.parts n p a b j).1)))
    c.tuple.ensures

pub pattern-returns-in-Applied : goal.pattern-returns-in-Applied
pattern-returns-in-Applied t c =
    let s = c.args.parsed.now in
    let is : form_of (node_at s c.args.at) ≡ form.Applied = ap form_of (sym c.node.ensures) ∙ sym c.in-Applied.ensures in
    if_ok c.applied.result
    (λ trees h u i. two_form s c.args.at u (form.Applied) i is refl (λ f. Expands s.names f trees c.args.walk.now c.applied.new.walk c.args.bound.now.items c.applied.new.bound.items)
    (λ n p a b j. subst (λ (q : Place). Expands s.names (λ m. patterns m (two node.ConPat q a b)) trees c.args.walk.now c.applied.new.walk c.args.bound.now.items c.applied.new.bound.items) (c.place-place.ensures (two n p a b) j) (h a b (c.two-in-Applied.ensures.parts n p a b j).0 (c.two-in-Applied.ensures.parts n p a b j).1)))
    c.applied.ensures

pub pattern-returns-in-Typed : goal.pattern-returns-in-Typed
pattern-returns-in-Typed t c =
    let s = c.args.parsed.now in
    let is : form_of (node_at s c.args.at) ≡ form.Typed = ap form_of (sym c.node.ensures) ∙ sym c.in-Typed.ensures in
    if_ok c.typed.result
    (λ trees h u i. two_form s c.args.at u (form.Typed) i is refl (λ f. Expands s.names f trees c.args.walk.now c.typed.new.walk c.args.bound.now.items c.typed.new.bound.items)
    (λ n p a b j. subst (λ (q : Place). Expands s.names (λ m. patterns m (two node.TypedPat q a b)) trees c.args.walk.now c.typed.new.walk c.args.bound.now.items c.typed.new.bound.items) (c.place-place.ensures (two n p a b) j) (h a b (c.two-in-Typed.ensures.parts n p a b j).0 (c.two-in-Typed.ensures.parts n p a b j).1)))
    c.typed.ensures

pub pattern-returns-in-TypedRow : goal.pattern-returns-in-TypedRow
pattern-returns-in-TypedRow t c =
    let s = c.args.parsed.now in
    let is : form_of (node_at s c.args.at) ≡ form.TypedRow = ap form_of (sym c.node.ensures) ∙ sym c.in-TypedRow.ensures in
    if_ok c.typed_row.result
    (λ trees h u i. two_form s c.args.at u (form.TypedRow) i is refl (λ f. Expands s.names f trees c.args.walk.now c.typed_row.new.walk c.args.bound.now.items c.typed_row.new.bound.items)
    (λ n p a b j. subst (λ (q : Place). Expands s.names (λ m. patterns m (two node.TypedPunRow q a b)) trees c.args.walk.now c.typed_row.new.walk c.args.bound.now.items c.typed_row.new.bound.items) (c.place-place.ensures (two n p a b) j) (h a b (c.two-in-TypedRow.ensures.parts n p a b j).0 (c.two-in-TypedRow.ensures.parts n p a b j).1)))
    c.typed_row.ensures

pub pattern-returns-in-Layered : goal.pattern-returns-in-Layered
pattern-returns-in-Layered t c =
    let s = c.args.parsed.now in
    let is : form_of (node_at s c.args.at) ≡ form.Layered = ap form_of (sym c.node.ensures) ∙ sym c.in-Layered.ensures in
    if_ok c.layered.result
    (λ trees h u i. two_form s c.args.at u (form.Layered) i is refl (λ f. Expands s.names f trees c.args.walk.now c.layered.new.walk c.args.bound.now.items c.layered.new.bound.items)
    (λ n p a b j. subst (λ (q : Place). Expands s.names (λ m. patterns m (two node.Layered q a b)) trees c.args.walk.now c.layered.new.walk c.args.bound.now.items c.layered.new.bound.items) (c.place-place.ensures (two n p a b) j) (h a b (c.two-in-Layered.ensures.parts n p a b j).0 (c.two-in-Layered.ensures.parts n p a b j).1)))
    c.layered.ensures

pub pattern-returns-in-Infix : goal.pattern-returns-in-Infix
pattern-returns-in-Infix t c =
    let s = c.args.parsed.now in
    let is : form_of (node_at s c.args.at) ≡ form.Infix = ap form_of (sym c.node.ensures) ∙ sym c.in-Infix.ensures in
    if_ok c.infix.result
    (λ trees h u i. three_form s c.args.at u (form.Infix) i is refl (λ f. Expands s.names f trees c.args.walk.now c.infix.new.walk c.args.bound.now.items c.infix.new.bound.items)
    (λ n p a b d j. subst (λ (q : Place). Expands s.names (λ m. patterns m (three node.InfixPat q a b d)) trees c.args.walk.now c.infix.new.walk c.args.bound.now.items c.infix.new.bound.items) (c.place-place.ensures (three n p a b d) j) (h a b d (c.three.ensures.parts n p a b d j).0 (c.three.ensures.parts n p a b d j).1 (c.three.ensures.parts n p a b d j).2)))
    c.infix.ensures

pub pattern-returns-in-TypedLayered : goal.pattern-returns-in-TypedLayered
pattern-returns-in-TypedLayered t c =
    let s = c.args.parsed.now in
    let is : form_of (node_at s c.args.at) ≡ form.TypedLayered = ap form_of (sym c.node.ensures) ∙ sym c.in-TypedLayered.ensures in
    if_ok c.typed_layered.result
    (λ trees h u i. three_form s c.args.at u (form.TypedLayered) i is refl (λ f. Expands s.names f trees c.args.walk.now c.typed_layered.new.walk c.args.bound.now.items c.typed_layered.new.bound.items)
    (λ n p a b d j. subst (λ (q : Place). Expands s.names (λ m. patterns m (three node.TypedLayered q a b d)) trees c.args.walk.now c.typed_layered.new.walk c.args.bound.now.items c.typed_layered.new.bound.items) (c.place-place.ensures (three n p a b d) j) (h a b d (c.three-in-TypedLayered.ensures.parts n p a b d j).0 (c.three-in-TypedLayered.ensures.parts n p a b d j).1 (c.three-in-TypedLayered.ensures.parts n p a b d j).2)))
    c.typed_layered.ensures

pub applied-returns : goal.applied-returns
applied-returns t c =
    let names = c.args.parsed.now.names in
    if_ok c.close_applied.result
    (λ trees h v a i j. applied_at names c.args.place v a c.ident.result trees c.args.walk.now c.close_applied.new.walk c.args.bound.now.items c.patterns.new.bound.items (c.ident.ensures v i)
    (h (λ m. patterns m a) c.in_ok-patterns.field-0 c.args.walk.now c.open.new.self c.args.bound.now.items c.patterns.new.bound.items c.len-from.ensures c.in_ok-open.ensures (c.in_ok-patterns.ensures a j)))
    c.close_applied.ensures

pub infix-returns : goal.infix-returns
infix-returns t c =
    let names = c.args.parsed.now.names in
    if_ok c.close_applied.result
    (λ trees h a v b i j k. infix_at names c.args.place a v b c.ident.result trees c.args.walk.now c.close_applied.new.walk c.args.bound.now.items c.tuple.new.bound.items (c.ident.ensures v j)
    (h (λ m. patterns m (two node.PatTuple c.args.place a b)) c.in_ok-tuple.field-0 c.args.walk.now c.open.new.self c.args.bound.now.items c.tuple.new.bound.items c.len-from.ensures c.in_ok-open.ensures (c.in_ok-tuple.ensures a b i k)))
    c.close_applied.ensures

pub both-returns : goal.both-returns
both-returns t c =
    if_ok c.sum.result
    (λ trees h p a b i j. both_expand c.args.parsed.now.names (λ m. patterns m a) (λ m. patterns m b) c.in_ok-first.first c.in_ok-others.others trees c.args.walk.now c.patterns.new.walk c.patterns-2.new.walk c.args.bound.now.items c.patterns.new.bound.items c.patterns-2.new.bound.items h (c.in_ok-first.ensures a i) (c.in_ok-others.ensures b j))
    c.sum.ensures

pub inside-returns : goal.inside-returns
inside-returns t c =
    if_ok c.keep_single.result
    (λ trees h a i. h c.args.parsed.now.names (λ m. patterns m a) c.args.walk.now c.args.bound.now.items c.patterns.new.bound.items c.len-from.ensures (c.in_ok-count.ensures a i))
    c.keep_single.ensures

pub list-returns : goal.list-returns
list-returns t c =
    if_ok c.close_list.result
    (λ trees h a i. h c.args.parsed.now.names (λ m. patterns m a) c.args.walk.now c.args.bound.now.items c.items.new.bound.items (c.in_ok-count.ensures a i))
    c.close_list.ensures

pub tuple-returns : goal.tuple-returns
tuple-returns t c =
    if_ok c.close_tuple.result
    (λ trees h a b i j. h c.args.parsed.now.names (λ m. patterns m (two node.MorePats c.args.place a b)) c.args.walk.now c.open.new.self c.args.bound.now.items c.both.new.bound.items c.in_ok-open.ensures (c.in_ok-count.ensures c.args.place a b i j))
    c.close_tuple.ensures

pub rows-returns : goal.rows-returns
rows-returns t c =
    if_ok c.close_rows.result
    (λ trees h a i. rows_from c.args.parsed.now.names c.args.place a c.in_ok-labs.labs.items trees c.labels_once.new.made c.args.walk.now c.close_rows.new.walk c.args.bound.now.items c.patterns.new.bound.items (c.in_ok-labs.ensures a i) (subst (λ (l : List (Lab × Place)). Runs (labels_once l) c.args.walk.now.made tt c.labels_once.new.made) c.deref.ensures.value c.in_ok-labels_once.ensures)
    (h c.args.parsed.now.names (λ m. patterns m a) c.in_ok-patterns.field-0 (record c.args.walk.now { made = c.labels_once.new.made }) c.open.new.self c.args.bound.now.items c.patterns.new.bound.items c.in_ok-open.ensures (c.in_ok-patterns.ensures a i)))
    c.close_rows.ensures

pub typed-returns : goal.typed-returns
typed-returns t c =
    if_ok c.close_typed.result
    (λ trees h a b i j. typed_from c.args.parsed.now.names (λ m. patterns m a) c.args.place b c.in_ok-ty.ty trees c.type_of.new.made c.args.walk.now c.close_typed.new.walk c.args.bound.now.items c.patterns.new.bound.items (c.in_ok-ty.ensures b j)
    (h c.args.parsed.now.names (λ m. patterns m a) c.in_ok-patterns.field-0 (record c.args.walk.now { made = c.type_of.new.made }) c.open.new.self c.args.bound.now.items c.patterns.new.bound.items c.in_ok-open.ensures (c.in_ok-patterns.ensures a i)))
    c.close_typed.ensures

pub layered-returns : goal.layered-returns
layered-returns t c =
    let names = c.args.parsed.now.names in
    if_ok c.close_layer.result
    (λ trees h v a i j. layered_at names c.args.place v (λ m. patterns m a) c.ident-ident.result trees c.args.walk.now c.close_layer.new.walk c.args.bound.now.items c.patterns.new.bound.items (c.ident-ident.ensures v i)
    (layered_from names (λ m. patterns m a) c.args.place c.ident-ident.result c.in_ok-name.name.0 trees c.args.walk.now c.binds.new.walk c.close_layer.new.walk c.args.bound.now.items c.binds.new.bound.items c.patterns.new.bound.items c.in_ok-name.ensures.walk c.in_ok-name.ensures.bound c.in_ok-name.ensures.name
    (h (λ m. patterns m a) c.in_ok-patterns.field-0 c.binds.new.walk c.open.new.self c.binds.new.bound.items c.patterns.new.bound.items c.in_ok-open.ensures (c.in_ok-patterns.ensures a j))))
    c.close_layer.ensures

pub typed_layered-returns : goal.typed_layered-returns
typed_layered-returns t c =
    let names = c.args.parsed.now.names in
    if_ok c.close_layer.result
    (λ trees h v b a i j k.
    let f = λ (m : Scope). patterns m (two node.TypedPat c.args.place a b) in
    layered_at names c.args.place v f c.ident-ident.result trees c.args.walk.now c.close_layer.new.walk c.args.bound.now.items c.typed.new.bound.items (c.ident-ident.ensures v i)
    (layered_from names f c.args.place c.ident-ident.result c.in_ok-name.name.0 trees c.args.walk.now c.binds.new.walk c.close_layer.new.walk c.args.bound.now.items c.binds.new.bound.items c.typed.new.bound.items c.in_ok-name.ensures.walk c.in_ok-name.ensures.bound c.in_ok-name.ensures.name
    (h f c.in_ok-typed.field-0 c.binds.new.walk c.open.new.self c.binds.new.bound.items c.typed.new.bound.items c.in_ok-open.ensures (c.in_ok-typed.ensures a b k j))))
    c.close_layer.ensures

pub patterns-loop-first-preserved : goal.patterns-loop-first-preserved
patterns-loop-first-preserved t c =
    let s = c.args.parsed.now in
    let names = s.names in
    let l = c.loop-first in
    let is : form_of (node_at s l.rest) ≡ form.More = ap form_of (sym c.node.ensures) ∙ sym c.in-More.ensures in (
      omega (arith, c.two-first.ensures.below (parts_of_more s l.rest is)),
      λ t' h.
          let u = l.invariant.1 t' h in
          let Onward : (Scope → Makes Pattern) → Type 0 = λ f. ((n : ℕ) (v : Walk) (d : List Bound) → Expands names f n l.walk v l.bound.items d → Expands names (λ m. patterns m t') (l.trees + n) c.args.walk.now v c.args.bound.now.items d)
          → (x : Term) × (IsAt s c.two-first.result.1 x × ((n : ℕ) (v : Walk) (d : List Bound) → Expands names (λ m. patterns m x) n c.patterns.new.walk v c.patterns.new.bound.items d → Expands names (λ m. patterns m t') (c.in_ok-trees.trees + n) c.args.walk.now v c.args.bound.now.items d)) in
          two_form s l.rest u.0 form.More u.1.0 is refl Onward
          (λ n p a b j on. (
            b,
            (
              (c.two-first.ensures.parts n p a b j).1,
              λ k v d e.
                  let more = c.in_ok-more.more in
                  let same : l.trees + (more + k) ≡ c.in_ok-trees.trees + k = omega (arith, c.in_ok-trees.ensures) in
                  subst (λ z. Expands names (λ m. patterns m t') z c.args.walk.now v c.args.bound.now.items d) same
                  (on (more + k) v d (both_expand names (λ m. patterns m a) (λ m. patterns m b) more k (more + k) l.walk c.patterns.new.walk v l.bound.items c.patterns.new.bound.items d refl (c.in_ok-more.ensures a (c.two-first.ensures.parts n p a b j).0) e)),
            ),
          ))
          u.1.1,
    )

pub items-loop-first-preserved : goal.items-loop-first-preserved
items-loop-first-preserved t c =
    let s = c.args.parsed.now in
    let names = s.names in
    let l = c.loop-first in
    let is : form_of (node_at s l.rest) ≡ form.More = ap form_of (sym c.node.ensures) ∙ sym c.in-More.ensures in (
      omega (arith, c.two-first.ensures.below (parts_of_more s l.rest is)),
      λ t' h.
          let u = l.invariant.1 t' h in
          let Onward : (Scope → Makes Pattern) → Type 0 = λ f. ((n : ℕ) (v : Walk) (d : List Bound) → Opens names f n l.walk v l.bound.items d → Opens names (λ m. patterns m t') (l.trees + n) c.args.walk.now v c.args.bound.now.items d)
          → (x : Term) × (IsAt s c.two-first.result.1 x × ((n : ℕ) (v : Walk) (d : List Bound) → Opens names (λ m. patterns m x) n c.items.new.walk v c.items.new.bound.items d → Opens names (λ m. patterns m t') (c.in_ok-trees.trees + n) c.args.walk.now v c.args.bound.now.items d)) in
          two_form s l.rest u.0 form.More u.1.0 is refl Onward
          (λ n p a b j on. (
            b,
            (
              (c.two-first.ensures.parts n p a b j).1,
              λ k v d e.
                  let more = c.in_ok-more.more in
                  let same : l.trees + (more + k) ≡ c.in_ok-trees.trees + k = omega (arith, c.in_ok-trees.ensures) in
                  subst (λ z. Opens names (λ m. patterns m t') z c.args.walk.now v c.args.bound.now.items d) same
                  (on (more + k) v d (both_open names (λ m. patterns m a) (λ m. patterns m b) more k (more + k) l.walk c.items.new.walk v l.bound.items c.items.new.bound.items d refl (c.in_ok-more.ensures a (c.two-first.ensures.parts n p a b j).0) e)),
            ),
          ))
          u.1.1,
    )

pub patterns-returns : goal.patterns-returns
patterns-returns t c =
    let l = c.loop-first in
    if_ok c.sum-2.result
    (λ trees h t' i.
    let u = l.invariant.1 t' i in
    subst (λ z. Expands c.args.parsed.now.names (λ m. patterns m t') z c.args.walk.now c.pattern.new.walk c.args.bound.now.items c.pattern.new.bound.items) (sym h)
    (u.1.1 c.in_ok-last.last c.pattern.new.walk c.pattern.new.bound.items (c.in_ok-last.ensures u.0 u.1.0)))
    c.sum-2.ensures

pub items-returns : goal.items-returns
items-returns t c =
    let s = c.args.parsed.now in
    let l = c.loop-first in
    if_ok c.sum-2.result
    (λ trees h t' i.
    let u = l.invariant.1 t' i in
    let is : form_of (node_of u.0) ≡ c.form_of.result = ap form_of (sym (node_is s l.rest u.0 u.1.0) ∙ sym c.node.ensures) ∙ sym c.form_of.ensures in
    let alone = alone_opens s.names (λ m. patterns m u.0) c.in_ok-pattern.field-0 l.walk c.open.new.self c.open-2.new.self c.pattern.new.walk l.bound.items c.pattern.new.bound.items c.in_ok-open.ensures c.in_ok-open-2.ensures (one_tree u.0 (λ e. c.in_default.not-More (sym is ∙ e)) _ _) (c.in_ok-pattern.ensures u.0 u.1.0) in
    subst (λ z. Opens s.names (λ m. patterns m t') z c.args.walk.now c.pattern.new.walk c.args.bound.now.items c.pattern.new.bound.items) (sym h) (u.1.1 1 c.pattern.new.walk c.pattern.new.bound.items alone))
    c.sum-2.ensures
