use Rattle.std.proofs.Common.{◌≡◌, ◌≢◌, false, refl, rules, sym, ap, ◌∙◌}
use Rattle.std.proofs.lemmas.Result.{on_ok_weaker}
use Rattle.sml_tree.specs.Parts.{parts_of}
use Rattle.sml_expansion.specs.Sources.{node_at}
use Rattle.sml_expansion.specs.TypeVariables.{unguarded}
use Rattle.expand_types.specs.Forms.{opens_up}
use Rattle.expand_types.proofs.FlowLemmas.{flows_end}
use Rattle.expand_types.proofs.VariableLemmas.{last_of_one, last_of_two, last_of_three, last_of_four, four_left, in_closed}
use Rattle.expand_types.proofs.type_variables.+unguarded.Goals as goal

pub push_before_last-returns-in-1-clause-keys : goal.push_before_last-returns-in-1-clause-keys
push_before_last-returns-in-1-clause-keys t c =
    let src = c.args.parsed.now in
    let k : parts_of (node_at src c.args.at) ≡ 1 = ap parts_of (sym c.node.ensures) ∙ sym c.parts.ensures ∙ c.in-1.is in
    last_of_one src c.args.at _ _ (node_at src c.args.at) refl c.requires c.one.result k c.one.ensures.part refl

pub push_before_last-returns-in_ok-push_unguarded-in-2-clause-keys : goal.push_before_last-returns-in_ok-push_unguarded-in-2-clause-keys
push_before_last-returns-in_ok-push_unguarded-in-2-clause-keys t c =
    let src = c.args.parsed.now in
    let k : parts_of (node_at src c.args.at) ≡ 2 = ap parts_of (sym c.node.ensures) ∙ sym c.parts.ensures ∙ c.in-2.is in
    last_of_two src c.args.at _ _ (node_at src c.args.at) refl c.requires _ _ k c.two-first.ensures.parts c.in_ok-push_unguarded-in-2.ensures

pub push_before_last-returns-in_ok-push_unguarded-in-3-2-clause-keys : goal.push_before_last-returns-in_ok-push_unguarded-in-3-2-clause-keys
push_before_last-returns-in_ok-push_unguarded-in-3-2-clause-keys t c =
    let src = c.args.parsed.now in
    let k : parts_of (node_at src c.args.at) ≡ 3 = ap parts_of (sym c.node.ensures) ∙ sym c.parts.ensures ∙ c.in-3.is in
    last_of_three src c.args.at _ _ (node_at src c.args.at) refl c.requires _ _ _ _ k c.three-first.ensures.parts c.in_ok-push_unguarded-in-3.ensures c.in_ok-push_unguarded-in-3-2.ensures

pub push_before_last-returns-in_ok-push_unguarded-in_default-3-clause-keys : goal.push_before_last-returns-in_ok-push_unguarded-in_default-3-clause-keys
push_before_last-returns-in_ok-push_unguarded-in_default-3-clause-keys t c =
    let src = c.args.parsed.now in
    let e : c.parts.result ≡ parts_of (node_at src c.args.at) = c.parts.ensures ∙ ap parts_of c.node.ensures in
    let n1 : c.parts.result ≢ 1 = search rules in
    let n2 : c.parts.result ≢ 2 = search rules in
    let n3 : c.parts.result ≢ 3 = search rules in
    let k : parts_of (node_at src c.args.at) ≡ 4 = four_left (node_at src c.args.at) c.parts.result e c.requires n1 n2 n3 in
    last_of_four src c.args.at _ _ (node_at src c.args.at) refl c.requires _ _ _ _ _ _ k c.four-first.ensures.parts c.in_ok-push_unguarded-in_default.ensures c.in_ok-push_unguarded-in_default-2.ensures c.in_ok-push_unguarded-in_default-3.ensures

pub push_unguarded-returns : goal.push_unguarded-returns
push_unguarded-returns t c =
    let src = c.args.parsed.now in
    let shut : opens_up c.node-2.result ≡ false = ap opens_up (c.node-2.ensures ∙ sym c.node.ensures) ∙ sym c.opens_up.ensures ∙ c.loop-keys-test.false in
    on_ok_weaker c.push_key.result (λ h. flows_end src unguarded c.args.at c.loop-keys.rest _ _ _ c.loop-keys.invariant.1 (in_closed src c.loop-keys.rest _ _ c.node-2.result c.node-2.ensures shut h)) c.push_key.ensures
