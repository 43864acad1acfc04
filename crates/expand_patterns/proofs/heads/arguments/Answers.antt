use Rattle.std.proofs.Common.{refl, sym, ◌∙◌, subst}
use Rattle.std.proofs.lemmas.List.{append-nil}
use Rattle.sml_tree.specs.declared.tree_node.TreeNode.TheVariants as node
use Rattle.sml_expansion.specs.Makings.{Makes, gives}
use Rattle.sml_expansion.specs.Patterns.{Pattern, patterns, plain}
use Rattle.sml_expansion.specs.Scopes.{Scope}
use Rattle.sml_expansion.specs.Terms.{Term}
use Rattle.sml_expansion.proofs.Shapes.{node_is, as_two, as_three, as_four}
use Rattle.expand_patterns.specs.Expands.{Expands}
use Rattle.expand_patterns.proofs.Behind.{if_ok}
use Rattle.sml_expansion.specs.Clauses.{arguments, infix_argument}
use Rattle.sml_expansion.specs.Forests.{none}
use Rattle.expand_patterns.proofs.BindLemmas.{no_arguments}
use Rattle.expand_patterns.proofs.Joining.{both_expand}
use Rattle.expand_patterns.proofs.heads.arguments.Goals as goal

pub returns-in-Head : goal.returns-in-Head
returns-in-Head c =
    let s = c.args.parsed.now in
    if_ok c.patterns.result
    (λ trees h t i.
    let Here : Term → Type 0 = λ u. Expands s.names (λ m. arguments m u) trees c.args.walk.now c.patterns.new.walk c.args.bound.now.items c.patterns.new.bound.items in
    as_two s c.args.at t node.Head i (sym c.in-Head.ensures) refl Here (λ p a b j. h b (c.two.ensures.parts node.Head p a b j).1))
    c.patterns.ensures

pub returns-in-InfixHead : goal.returns-in-InfixHead
returns-in-InfixHead c =
    let s = c.args.parsed.now in
    if_ok c.infix_argument.result
    (λ trees h t i.
    let Here : Term → Type 0 = λ u. Expands s.names (λ m. arguments m u) trees c.args.walk.now c.infix_argument.new.walk c.args.bound.now.items c.infix_argument.new.bound.items in
    as_three s c.args.at t node.InfixHead i (sym c.in-InfixHead.ensures) refl Here (λ p a b d j. let parts = c.three-left.ensures.parts node.InfixHead p a b d j in h a d parts.0 parts.2))
    c.infix_argument.ensures

pub returns-in-ParenHead : goal.returns-in-ParenHead
returns-in-ParenHead c =
    let s = c.args.parsed.now in
    if_ok c.infix_argument-in-ParenHead.result
    (λ trees h t i.
    let Here : Term → Type 0 = λ u. Expands s.names (λ m. arguments m u) trees c.args.walk.now c.infix_argument-in-ParenHead.new.walk c.args.bound.now.items c.infix_argument-in-ParenHead.new.bound.items in
    as_three s c.args.at t node.ParenHead i (sym c.in-ParenHead.ensures) refl Here (λ p a b d j. let parts = c.three-left-in-ParenHead.ensures.parts node.ParenHead p a b d j in h a d parts.0 parts.2))
    c.infix_argument-in-ParenHead.ensures

pub returns-in_ok-more-in-ParenHeadArgs : goal.returns-in_ok-more-in-ParenHeadArgs
returns-in_ok-more-in-ParenHeadArgs c =
    let s = c.args.parsed.now in
    if_ok c.sum.result
    (λ trees h t i.
    let Here : Term → Type 0 = λ u. Expands s.names (λ m. arguments m u) trees c.args.walk.now c.patterns-in-ParenHeadArgs.new.walk c.args.bound.now.items c.patterns-in-ParenHeadArgs.new.bound.items in
    as_four s c.args.at t node.ParenHeadArgs i (sym c.in-ParenHeadArgs.ensures) refl Here
    (λ p a b d e j.
    let parts = c.four-left.ensures.parts node.ParenHeadArgs p a b d e j in
    both_expand s.names (λ m. infix_argument m a d) (λ m. patterns m e) c.in_ok-first-in-ParenHeadArgs.first c.in_ok-more-in-ParenHeadArgs.more trees c.args.walk.now c.infix_argument-in-ParenHeadArgs.new.walk c.patterns-in-ParenHeadArgs.new.walk c.args.bound.now.items c.infix_argument-in-ParenHeadArgs.new.bound.items c.patterns-in-ParenHeadArgs.new.bound.items h
    (c.in_ok-first-in-ParenHeadArgs.ensures a d parts.0 parts.2) (c.in_ok-more-in-ParenHeadArgs.ensures e parts.3)))
    c.sum.ensures

pub returns-in_default : goal.returns-in_default
returns-in_default c t i =
    let s = c.args.parsed.now in
    let is = c.node.ensures ∙ node_is s c.args.at t i in
    let nothing : Expands s.names (λ m. gives (plain none)) 0 c.args.walk.now c.args.walk.now c.args.bound.now.items c.args.bound.now.items = record { made = refl; bindings = refl; marks = sym (append-nil c.args.walk.now.marks); vars = sym (append-nil c.args.bound.now.items); trees = refl } in
    subst (λ (f : Scope → Makes Pattern). Expands s.names f 0 c.args.walk.now c.args.walk.now c.args.bound.now.items c.args.bound.now.items)
    (sym (no_arguments t (λ e. c.in_default.not-Head (is ∙ e)) (λ e. c.in_default.not-InfixHead (is ∙ e)) (λ e. c.in_default.not-ParenHead (is ∙ e)) (λ e. c.in_default.not-ParenHeadArgs (is ∙ e)))) nothing
