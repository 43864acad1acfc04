use Rattle.std.proofs.Common.{◌≡◌, refl, sym, ap, ◌∙◌, rules, arith}
use Rattle.std.proofs.lemmas.Grind.{common_steps}
use Rattle.sml_tree.specs.declared.bare.Node.TheVariants as bare
use Rattle.sml_expansion.specs.Forests.{grown, none}
use Rattle.sml_expansion.specs.Marks.{marks}
use Rattle.sml_tree.specs.declared.tree_node.TreeNode.TheVariants as node
use Rattle.sml_expansion.specs.Terms.{Term, leaf, one}
use Rattle.sml_expansion.specs.Sources.{IsAt}
use Rattle.sml_expansion.specs.Expressions.{expressions}
use Rattle.sml_expansion.proofs.Shapes.{as_leaf, as_one, node_is}
use Rattle.sml_derive.specs.Steps.{Writes, scope, position, marked}
use Rattle.sml_derive.specs.Compounds.{is_compound}
use Rattle.sml_derive.proofs.Atoms.{identifier_writes, leaf_writes, no_atom, nothing_writes}
use Rattle.sml_derive.proofs.identifiers.atom.Goals as goal

pub returns-in_default : goal.returns-in_default
returns-in_default c = λ t k. nothing_writes (position c.args.stands) (scope c.args.parsed.now c.args.walk.now) c.args.walk.now t c.node.result (c.node.ensures ∙ node_is c.args.parsed.now c.args.at t k) (no_atom _ c.in_default.not-Vid c.in_default.not-VidEquals c.in_default.not-LongVid c.in_default.not-Op c.in_default.not-Int c.in_default.not-Char c.in_default.not-Text c.in_default.not-EmptyRecord c.in_default.not-Unit c.in_default.not-EmptyList) (ap is_compound c.node.ensures ∙ c.requires)

pub returns-in_ok-identifier-in-Vid : goal.returns-in_ok-identifier-in-Vid
returns-in_ok-identifier-in-Vid c = λ t k. as_leaf c.args.parsed.now c.args.at t _ k (sym c.node.ensures ∙ c.in-Vid.is) refl (λ t. Writes (expressions (position c.args.stands) (scope c.args.parsed.now c.args.walk.now) t) c.args.walk.now c.identifier.new.walk 1) (λ q k. identifier_writes (position c.args.stands) (scope c.args.parsed.now c.args.walk.now) _ _ _ q _ _ (c.place-place.ensures _ k) (c.ident.ensures _ k) c.in_ok-identifier-in-Vid.ensures)

pub returns-in_ok-identifier-in-VidEquals : goal.returns-in_ok-identifier-in-VidEquals
returns-in_ok-identifier-in-VidEquals c = λ t k. as_leaf c.args.parsed.now c.args.at t _ k (sym c.node.ensures ∙ c.in-VidEquals.is) refl (λ t. Writes (expressions (position c.args.stands) (scope c.args.parsed.now c.args.walk.now) t) c.args.walk.now c.identifier-in-VidEquals.new.walk 1) (λ q k. identifier_writes (position c.args.stands) (scope c.args.parsed.now c.args.walk.now) _ _ _ q _ _ (c.place-place.ensures _ k) (c.ident-in-VidEquals.ensures _ k) c.in_ok-identifier-in-VidEquals.ensures)

pub returns-in_ok-identifier-in-LongVid : goal.returns-in_ok-identifier-in-LongVid
returns-in_ok-identifier-in-LongVid c = λ t k. as_leaf c.args.parsed.now c.args.at t _ k (sym c.node.ensures ∙ c.in-LongVid.is) refl (λ t. Writes (expressions (position c.args.stands) (scope c.args.parsed.now c.args.walk.now) t) c.args.walk.now c.identifier-in-LongVid.new.walk 1) (λ q k. identifier_writes (position c.args.stands) (scope c.args.parsed.now c.args.walk.now) _ _ _ q _ _ (c.place-place.ensures _ k) (c.ident-in-LongVid.ensures _ k) c.in_ok-identifier-in-LongVid.ensures)

pub returns-in_ok-identifier-in-Op : goal.returns-in_ok-identifier-in-Op
returns-in_ok-identifier-in-Op c = λ t k. as_one c.args.parsed.now c.args.at t _ k (sym c.node.ensures ∙ c.in-Op.is) refl (λ t. Writes (expressions (position c.args.stands) (scope c.args.parsed.now c.args.walk.now) t) c.args.walk.now c.identifier-in-Op.new.walk 1) (λ q a k. identifier_writes (position c.args.stands) (scope c.args.parsed.now c.args.walk.now) _ _ _ q _ _ (c.place-place.ensures _ k) (c.ident-in-Op.ensures _ k) c.in_ok-identifier-in-Op.ensures)

pub returns-in_ok-leaf-in-Int : goal.returns-in_ok-leaf-in-Int
returns-in_ok-leaf-in-Int c = let e : c.leaf.new.self ≡ marked (marks (grown (bare.Int c.in-Int.value) c.place-place.result none)) c.args.walk.now = first_of (search rules, grind (arith, common_steps)) in λ t k. as_leaf c.args.parsed.now c.args.at t _ k (sym c.node.ensures ∙ c.in-Int.is) refl (λ t. Writes (expressions (position c.args.stands) (scope c.args.parsed.now c.args.walk.now) t) c.args.walk.now c.leaf.new.self 1) (λ q k. leaf_writes _ _ _ _ q (c.place-place.ensures _ k) e)

pub returns-in_ok-leaf-in-Char : goal.returns-in_ok-leaf-in-Char
returns-in_ok-leaf-in-Char c = λ t k. as_leaf c.args.parsed.now c.args.at t _ k (sym c.node.ensures ∙ c.in-Char.is) refl (λ t. Writes (expressions (position c.args.stands) (scope c.args.parsed.now c.args.walk.now) t) c.args.walk.now c.leaf-in-Char.new.self 1) (λ q k. leaf_writes _ _ _ _ q (c.place-place.ensures _ k) c.in_ok-leaf-in-Char.ensures)

pub returns-in_ok-leaf-in-Text : goal.returns-in_ok-leaf-in-Text
returns-in_ok-leaf-in-Text c = λ t k. as_leaf c.args.parsed.now c.args.at t _ k (sym c.node.ensures ∙ c.in-Text.is) refl (λ t. Writes (expressions (position c.args.stands) (scope c.args.parsed.now c.args.walk.now) t) c.args.walk.now c.leaf-in-Text.new.self 1) (λ q k. leaf_writes _ _ _ _ q (c.place-place.ensures _ k) c.in_ok-leaf-in-Text.ensures)

pub returns-in_ok-unit-in-Unit : goal.returns-in_ok-unit-in-Unit
returns-in_ok-unit-in-Unit c = λ t k. as_leaf c.args.parsed.now c.args.at t _ k (sym c.node.ensures ∙ c.in-Unit.is) refl (λ t. Writes (expressions (position c.args.stands) (scope c.args.parsed.now c.args.walk.now) t) c.args.walk.now c.unit.new.walk 1) (λ q k. leaf_writes _ _ _ _ q (c.place-place.ensures _ k) c.in_ok-unit-in-Unit.ensures)

pub returns-in_ok-unit-in-EmptyRecord : goal.returns-in_ok-unit-in-EmptyRecord
returns-in_ok-unit-in-EmptyRecord c = λ t k. as_leaf c.args.parsed.now c.args.at t _ k (sym c.node.ensures ∙ c.in-EmptyRecord.is) refl (λ t. Writes (expressions (position c.args.stands) (scope c.args.parsed.now c.args.walk.now) t) c.args.walk.now c.unit-in-EmptyRecord.new.walk 1) (λ q k. leaf_writes _ _ _ _ q (c.place-place.ensures _ k) c.in_ok-unit-in-EmptyRecord.ensures)

pub returns-in_ok-leaf-in-EmptyList : goal.returns-in_ok-leaf-in-EmptyList
returns-in_ok-leaf-in-EmptyList c = λ t k. as_leaf c.args.parsed.now c.args.at t _ k (sym c.node.ensures ∙ c.in-EmptyList.is) refl (λ t. Writes (expressions (position c.args.stands) (scope c.args.parsed.now c.args.walk.now) t) c.args.walk.now c.leaf-in-EmptyList.new.self 1) (λ q k. leaf_writes _ _ _ _ q (c.place-place.ensures _ k) c.in_ok-leaf-in-EmptyList.ensures)
