use Rattle.infer_nodes.proofs.dispatch.other_rule.Goals as goal

pub returns-in-Wild : goal.returns-in-Wild
returns-in-Wild c = c.empty_rule.ensures c.args.bare.now c.args.declared.now c.args.settled.now c.args.index c.args.next.now c.requires.below

pub returns-in-Type : goal.returns-in-Type
returns-in-Type c = c.empty_rule-in-Type.ensures c.args.bare.now c.args.declared.now c.args.settled.now c.args.index c.args.next.now c.requires.below

pub returns-in-Datatype : goal.returns-in-Datatype
returns-in-Datatype c = c.empty_rule-in-Datatype.ensures c.args.bare.now c.args.declared.now c.args.settled.now c.args.index c.args.next.now c.requires.below

pub returns-in-PatInt : goal.returns-in-PatInt
returns-in-PatInt c = c.constant_rule.ensures c.args.bare.now c.args.declared.now c.args.settled.now c.args.index c.args.next.now c.requires.below c.requires.at

pub returns-in-PatChar : goal.returns-in-PatChar
returns-in-PatChar c = c.constant_rule-in-PatChar.ensures c.args.bare.now c.args.declared.now c.args.settled.now c.args.index c.args.next.now c.requires.below c.requires.at

pub returns-in-PatText : goal.returns-in-PatText
returns-in-PatText c = c.constant_rule-in-PatText.ensures c.args.bare.now c.args.declared.now c.args.settled.now c.args.index c.args.next.now c.requires.below c.requires.at

pub returns-in-PatVar : goal.returns-in-PatVar
returns-in-PatVar c = c.same_rule.ensures c.args.declared.now c.args.settled.now c.args.index c.args.next.now c.requires.below c.requires.at

pub returns-in-PatAs : goal.returns-in-PatAs
returns-in-PatAs c = c.same_rule-in-PatAs.ensures c.args.declared.now c.args.settled.now c.args.index c.args.next.now c.requires.below c.requires.at

pub returns-in-PatAsCon : goal.returns-in-PatAsCon
returns-in-PatAsCon c = c.same_rule-in-PatAsCon.ensures c.args.declared.now c.args.settled.now c.args.index c.args.next.now c.requires.below c.requires.at

pub returns-in-NoException : goal.returns-in-NoException
returns-in-NoException c = c.same_rule-in-NoException.ensures c.args.declared.now c.args.settled.now c.args.index c.args.next.now c.requires.below c.requires.at

pub returns-in-Val : goal.returns-in-Val
returns-in-Val c = c.value_rule.ensures c.args.declared.now c.args.settled.now c.args.index c.args.next.now c.requires.below

pub returns-in-ValRec : goal.returns-in-ValRec
returns-in-ValRec c = c.value_rule-in-ValRec.ensures c.args.declared.now c.args.settled.now c.args.index c.args.next.now c.requires.below

pub returns-in-PatCon : goal.returns-in-PatCon
returns-in-PatCon c = c.pat_con_rule.ensures c.args.settled.now c.args.index c.requires.at

pub pat_con_rule-requires-clause-there : goal.pat_con_rule-requires-clause-there
pat_con_rule-requires-clause-there c = c.requires.declared.there

pub pat_con_rule-requires-clause-covered : goal.pat_con_rule-requires-clause-covered
pat_con_rule-requires-clause-covered c = c.requires.declared.covered

pub returns-in-PatApp : goal.returns-in-PatApp
returns-in-PatApp c = c.pat_app_rule.ensures c.args.settled.now c.args.index c.requires.at

pub pat_app_rule-requires-clause-there : goal.pat_app_rule-requires-clause-there
pat_app_rule-requires-clause-there c = c.requires.declared.there

pub pat_app_rule-requires-clause-covered : goal.pat_app_rule-requires-clause-covered
pat_app_rule-requires-clause-covered c = c.requires.declared.covered

pub returns-in-SameException : goal.returns-in-SameException
returns-in-SameException c = c.same_exception_rule.ensures c.args.settled.now c.args.index

pub same_exception_rule-requires-clause-there : goal.same_exception_rule-requires-clause-there
same_exception_rule-requires-clause-there c = c.requires.declared.there

pub same_exception_rule-requires-clause-covered : goal.same_exception_rule-requires-clause-covered
same_exception_rule-requires-clause-covered c = c.requires.declared.covered

pub returns-in-PatRecord : goal.returns-in-PatRecord
returns-in-PatRecord c = c.record_rule.ensures c.args.declared.now c.args.settled.now c.args.index c.args.next.now c.requires.below c.requires.at

pub returns-in-PatTyped : goal.returns-in-PatTyped
returns-in-PatTyped c = c.typed_rule.ensures c.args.settled.now c.args.index c.args.next.now c.requires.below c.requires.at

pub returns-in-Exception : goal.returns-in-Exception
returns-in-Exception c = c.exception_rule.ensures c.args.settled.now c.args.index c.args.next.now c.requires.below
