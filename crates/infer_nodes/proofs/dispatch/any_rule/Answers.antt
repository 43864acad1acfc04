use Rattle.infer_nodes.proofs.dispatch.any_rule.Goals as goal

pub returns-in-Int : goal.returns-in-Int
returns-in-Int c = c.constant_rule.ensures c.args.bare.now c.args.declared.now c.args.settled.now c.args.index c.args.next.now c.requires.below c.requires.at

pub returns-in-Char : goal.returns-in-Char
returns-in-Char c = c.constant_rule-in-Char.ensures c.args.bare.now c.args.declared.now c.args.settled.now c.args.index c.args.next.now c.requires.below c.requires.at

pub returns-in-Text : goal.returns-in-Text
returns-in-Text c = c.constant_rule-in-Text.ensures c.args.bare.now c.args.declared.now c.args.settled.now c.args.index c.args.next.now c.requires.below c.requires.at

pub returns-in-Builtin : goal.returns-in-Builtin
returns-in-Builtin c = c.builtin_rule.ensures c.args.bare.now c.args.declared.now c.args.settled.now c.args.index c.requires.at

pub returns-in-App : goal.returns-in-App
returns-in-App c = c.apply_rule.ensures c.args.declared.now c.args.settled.now c.args.index c.args.next.now c.requires.below c.requires.at

pub returns-in-Case : goal.returns-in-Case
returns-in-Case c = c.case_rule.ensures c.args.declared.now c.args.settled.now c.args.index c.args.next.now c.requires.below c.requires.at

pub returns-in-Fn : goal.returns-in-Fn
returns-in-Fn c = c.fn_rule.ensures c.args.declared.now c.args.settled.now c.args.index c.args.next.now c.requires.below c.requires.at

pub returns-in-Raise : goal.returns-in-Raise
returns-in-Raise c = c.raise_rule.ensures c.args.declared.now c.args.settled.now c.args.index c.args.next.now c.requires.below

pub returns-in-Handle : goal.returns-in-Handle
returns-in-Handle c = c.handle_rule.ensures c.args.declared.now c.args.settled.now c.args.index c.args.next.now c.requires.below c.requires.at

pub returns-in-Let : goal.returns-in-Let
returns-in-Let c = c.same_rule.ensures c.args.declared.now c.args.settled.now c.args.index c.args.next.now c.requires.below c.requires.at

pub returns-in-Finish : goal.returns-in-Finish
returns-in-Finish c = c.finish_rule.ensures c.args.bare.now c.args.declared.now c.args.settled.now c.args.index c.args.next.now c.requires.below c.requires.at

pub returns-in-Var : goal.returns-in-Var
returns-in-Var c = c.name_rule.ensures c.args.declared.now c.args.index c.requires.at

pub returns-in-Constructor : goal.returns-in-Constructor
returns-in-Constructor c = c.constructor_rule.ensures c.args.settled.now c.args.index c.requires.at

pub constructor_rule-requires-clause-there : goal.constructor_rule-requires-clause-there
constructor_rule-requires-clause-there c = c.requires.declared.there

pub constructor_rule-requires-clause-covered : goal.constructor_rule-requires-clause-covered
constructor_rule-requires-clause-covered c = c.requires.declared.covered

pub returns-in-Record : goal.returns-in-Record
returns-in-Record c = c.record_rule.ensures c.args.declared.now c.args.settled.now c.args.index c.args.next.now c.requires.below c.requires.at

pub returns-in-Typed : goal.returns-in-Typed
returns-in-Typed c = c.typed_rule.ensures c.args.settled.now c.args.index c.args.next.now c.requires.below c.requires.at
