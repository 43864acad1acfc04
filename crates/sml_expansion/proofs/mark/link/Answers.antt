use Rattle.std.proofs.Common.{rules, ◌≡◌, ◌++◌, ◌∷◌, [], ◌-◌, suc, reverse, sym, ap, ◌∙◌, arith}
use Rattle.sml_expansion.specs.declared.mark.Mark.TheVariants.{Open, Close}
use Rattle.sml_expansion.specs.Linking.{Links, linked, nothing_linked, opened, closed, opened_at, shown}
use Rattle.sml_expansion.proofs.MarkLemmas.{linked_on, linked_forest, opened_behind, closed_behind}
use Rattle.sml_expansion.proofs.mark.link.Goals as goal

pub loop-mark-preserved-in_ok-close-in-Close : goal.loop-mark-preserved-in_ok-close-in-Close
loop-mark-preserved-in_ok-close-in-Close c =
    let popped : c.loop-mark.spelling.items ≡ c.pop.new.self.items ++ c.in-Some.mark ∷ [] = search rules in
    let cut : c.loop-mark.spelling.items ≡ c.pop.new.self.items ++ Close c.in-Close.node c.in-Close.place ∷ [] = popped ∙ ap (λ m. c.pop.new.self.items ++ m ∷ []) c.in-Close.is in
    let now : shown c.close.new.self ≡ closed c.in-Close.node c.in-Close.place (shown c.loop-mark.linked) = search rules in
    record {
      whole = linked_on c.loop-mark.spelling.items c.pop.new.self.items (Close c.in-Close.node c.in-Close.place) (shown c.loop-mark.linked) (shown c.close.new.self) _ cut now c.loop-mark.invariant.whole;
      count = c.loop-mark.invariant.count ∙ ap opened cut ∙ closed_behind c.pop.new.self.items c.in-Close.node c.in-Close.place;
    }

pub loop-mark-preserved : goal.loop-mark-preserved
loop-mark-preserved c =
    let popped : c.loop-mark.spelling.items ≡ c.pop.new.self.items ++ c.in-Some.mark ∷ [] = search rules in
    let cut : c.loop-mark.spelling.items ≡ c.pop.new.self.items ++ Open ∷ [] = popped ∙ ap (λ m. c.pop.new.self.items ++ m ∷ []) c.in-Open.is in
    let before : c.loop-mark.left ≡ suc (opened c.pop.new.self.items) = c.loop-mark.invariant.count ∙ ap opened cut ∙ opened_behind c.pop.new.self.items in
    let less : c.saturating_sub-left.result ≡ c.loop-mark.left - 1 = search rules in
    let left : c.saturating_sub-left.result ≡ opened c.pop.new.self.items = omega (arith, before, less) in
    let number : c.in_ok-number-in-Open.field-0 ≡ c.saturating_sub-left.result = search rules in
    let now : shown c.open.new.self ≡ opened_at c.in_ok-number-in-Open.field-0 (shown c.loop-mark.linked) = search rules in
    record {
      whole = linked_on c.loop-mark.spelling.items c.pop.new.self.items Open (shown c.loop-mark.linked) (shown c.open.new.self) _ cut (now ∙ ap (λ k. opened_at k (shown c.loop-mark.linked)) (number ∙ left)) c.loop-mark.invariant.whole;
      count = left;
    }

pub returns-clause-nodes : goal.returns-clause-nodes
returns-clause-nodes c f e =
    let none : c.loop-mark.spelling.items ≡ [] = search rules in
    let all : shown c.loop-mark.linked ≡ linked 0 c.args.spelling nothing_linked = ap (λ ms. linked 0 ms (shown c.loop-mark.linked)) (sym none) ∙ c.loop-mark.invariant.whole in
    let nodes : c.from_vec.result ≡ reverse c.loop-mark.linked.nodes.items = search rules in
    nodes ∙ ap (λ (r : Links). r.nodes) (all ∙ ap (λ ms. linked 0 ms nothing_linked) e ∙ linked_forest f)

pub returns-clause-places : goal.returns-clause-places
returns-clause-places c f e =
    let none : c.loop-mark.spelling.items ≡ [] = search rules in
    let all : shown c.loop-mark.linked ≡ linked 0 c.args.spelling nothing_linked = ap (λ ms. linked 0 ms (shown c.loop-mark.linked)) (sym none) ∙ c.loop-mark.invariant.whole in
    let places : c.from_vec-2.result ≡ reverse c.loop-mark.linked.places.items = search rules in
    places ∙ ap (λ (r : Links). r.places) (all ∙ ap (λ ms. linked 0 ms nothing_linked) e ∙ linked_forest f)
