use Rattle.infer_scopes.specs.Scopes.{contexts_of}
use Rattle.infer_checks.specs.Checked.{ended}
use Rattle.infer_checks.proofs.FormLaws.{case_finished, fn_finished, handle_finished, case_asks, fn_asks, handle_asks, other_finished, rules_end, rules_refuse, let_ends, let_refuses, new_exception_ends, same_exception_ends, nothing_refuses, val_ends, val_refuses, rec_ends, rec_refuses}
use Rattle.infer_checks.proofs.node.check_form.Goals as goal

pub returns-in-Case-clause-finished : goal.returns-in-Case-clause-finished
returns-in-Case-clause-finished c =
    rules_end c.args.bare.now c.args.declared.now (contexts_of c.args.scopes.now) c.args.settled.now c.args.general.now c.args.unknowns.now c.args.renames.now c.requires.given c.args.node c.args.form.now c.check_rules.result c.in-Case.rules
    (λ around h. case_finished c.args.bare.now (ended c.args.bare.now c.args.declared.now (contexts_of c.args.scopes.now) c.args.settled.now c.args.general.now c.args.unknowns.now c.args.renames.now) around c.args.node c.args.form.now c.in-Case.field-0 c.in-Case.rules c.in-Case.is h)
    c.check_rules.ensures.finished

pub returns-in-Case-clause-refused : goal.returns-in-Case-clause-refused
returns-in-Case-clause-refused c =
    rules_refuse c.args.bare.now c.args.declared.now (contexts_of c.args.scopes.now) c.args.settled.now c.args.general.now c.args.unknowns.now c.args.renames.now c.requires.given c.args.node c.args.form.now c.check_rules.result c.in-Case.rules
    (λ other around a. case_asks c.args.bare.now other around c.args.node c.args.form.now c.in-Case.field-0 c.in-Case.rules c.in-Case.is a)
    c.check_rules.ensures.refused

pub returns-in-Fn-clause-finished : goal.returns-in-Fn-clause-finished
returns-in-Fn-clause-finished c =
    rules_end c.args.bare.now c.args.declared.now (contexts_of c.args.scopes.now) c.args.settled.now c.args.general.now c.args.unknowns.now c.args.renames.now c.requires.given c.args.node c.args.form.now c.check_rules-in-Fn.result c.in-Fn.rules
    (λ around h. fn_finished c.args.bare.now (ended c.args.bare.now c.args.declared.now (contexts_of c.args.scopes.now) c.args.settled.now c.args.general.now c.args.unknowns.now c.args.renames.now) around c.args.node c.args.form.now c.in-Fn.rules c.in-Fn.is h)
    c.check_rules-in-Fn.ensures.finished

pub returns-in-Fn-clause-refused : goal.returns-in-Fn-clause-refused
returns-in-Fn-clause-refused c =
    rules_refuse c.args.bare.now c.args.declared.now (contexts_of c.args.scopes.now) c.args.settled.now c.args.general.now c.args.unknowns.now c.args.renames.now c.requires.given c.args.node c.args.form.now c.check_rules-in-Fn.result c.in-Fn.rules
    (λ other around a. fn_asks c.args.bare.now other around c.args.node c.args.form.now c.in-Fn.rules c.in-Fn.is a)
    c.check_rules-in-Fn.ensures.refused

pub returns-in-Handle-clause-finished : goal.returns-in-Handle-clause-finished
returns-in-Handle-clause-finished c =
    rules_end c.args.bare.now c.args.declared.now (contexts_of c.args.scopes.now) c.args.settled.now c.args.general.now c.args.unknowns.now c.args.renames.now c.requires.given c.args.node c.args.form.now c.check_rules-in-Handle.result c.in-Handle.rules
    (λ around h. handle_finished c.args.bare.now (ended c.args.bare.now c.args.declared.now (contexts_of c.args.scopes.now) c.args.settled.now c.args.general.now c.args.unknowns.now c.args.renames.now) around c.args.node c.args.form.now c.in-Handle.field-0 c.in-Handle.rules c.in-Handle.is h)
    c.check_rules-in-Handle.ensures.finished

pub returns-in-Handle-clause-refused : goal.returns-in-Handle-clause-refused
returns-in-Handle-clause-refused c =
    rules_refuse c.args.bare.now c.args.declared.now (contexts_of c.args.scopes.now) c.args.settled.now c.args.general.now c.args.unknowns.now c.args.renames.now c.requires.given c.args.node c.args.form.now c.check_rules-in-Handle.result c.in-Handle.rules
    (λ other around a. handle_asks c.args.bare.now other around c.args.node c.args.form.now c.in-Handle.field-0 c.in-Handle.rules c.in-Handle.is a)
    c.check_rules-in-Handle.ensures.refused

pub returns-in-Let-clause-finished : goal.returns-in-Let-clause-finished
returns-in-Let-clause-finished c =
    let_ends c.args.bare.now c.args.declared.now (contexts_of c.args.scopes.now) c.args.settled.now c.args.general.now c.args.unknowns.now c.args.renames.now c.requires.given c.args.node c.args.form.now c.check_let.result c.in-Let.field-0 c.in-Let.field-1 c.in-Let.is c.check_let.ensures.finished

pub returns-in-Let-clause-refused : goal.returns-in-Let-clause-refused
returns-in-Let-clause-refused c =
    let_refuses c.args.bare.now c.args.declared.now (contexts_of c.args.scopes.now) c.args.settled.now c.args.general.now c.args.unknowns.now c.args.renames.now c.requires.given c.args.node c.args.form.now c.check_let.result c.in-Let.field-0 c.in-Let.field-1 c.in-Let.is c.requires.here c.check_let.ensures.refused

pub returns-in-Val-clause-finished : goal.returns-in-Val-clause-finished
returns-in-Val-clause-finished c =
    val_ends c.args.bare.now c.args.declared.now (contexts_of c.args.scopes.now) c.args.settled.now c.args.general.now c.args.unknowns.now c.args.renames.now c.requires.given c.args.node c.args.form.now c.check_values.result c.in-Val.tyvars c.in-Val.bindings c.in-Val.is c.check_values.ensures.general c.check_values.ensures.declared

pub returns-in-Val-clause-refused : goal.returns-in-Val-clause-refused
returns-in-Val-clause-refused c =
    val_refuses c.args.bare.now c.args.declared.now (contexts_of c.args.scopes.now) c.args.settled.now c.args.general.now c.args.unknowns.now c.args.renames.now c.requires.given c.args.node c.args.form.now c.check_values.result c.in-Val.tyvars c.in-Val.bindings c.in-Val.is c.check_values.ensures.refused

pub returns-in-ValRec-clause-finished : goal.returns-in-ValRec-clause-finished
returns-in-ValRec-clause-finished c =
    rec_ends c.args.bare.now c.args.declared.now (contexts_of c.args.scopes.now) c.args.settled.now c.args.general.now c.args.unknowns.now c.args.renames.now c.requires.given c.args.node c.args.form.now c.check_group.result c.in-ValRec.tyvars c.in-ValRec.bindings c.in-ValRec.is c.check_group.ensures.general c.check_group.ensures.declared

pub returns-in-ValRec-clause-refused : goal.returns-in-ValRec-clause-refused
returns-in-ValRec-clause-refused c =
    rec_refuses c.args.bare.now c.args.declared.now (contexts_of c.args.scopes.now) c.args.settled.now c.args.general.now c.args.unknowns.now c.args.renames.now c.requires.given c.args.node c.args.form.now c.check_group.result c.in-ValRec.tyvars c.in-ValRec.bindings c.in-ValRec.is c.check_group.ensures.refused

pub returns-in-Exception-clause-finished : goal.returns-in-Exception-clause-finished
returns-in-Exception-clause-finished c =
    new_exception_ends c.args.bare.now c.args.declared.now (contexts_of c.args.scopes.now) c.args.settled.now c.args.general.now c.args.unknowns.now c.args.renames.now c.requires.given c.args.node c.args.form.now c.check_exception.result c.in-Exception.name c.in-Exception.field-1 c.in-Exception.is c.check_exception.ensures.finished

pub returns-in-Exception-clause-refused : goal.returns-in-Exception-clause-refused
returns-in-Exception-clause-refused c =
    nothing_refuses c.args.bare.now c.args.declared.now (contexts_of c.args.scopes.now) c.args.settled.now c.args.general.now c.args.unknowns.now c.args.renames.now c.requires.given c.args.node c.args.form.now c.check_exception.result c.check_exception.ensures.refused

pub returns-in-SameException-clause-finished : goal.returns-in-SameException-clause-finished
returns-in-SameException-clause-finished c =
    same_exception_ends c.args.bare.now c.args.declared.now (contexts_of c.args.scopes.now) c.args.settled.now c.args.general.now c.args.unknowns.now c.args.renames.now c.requires.given c.args.node c.args.form.now c.check_exception-in-SameException.result c.in-SameException.name c.in-SameException.field-1 c.in-SameException.is c.check_exception-in-SameException.ensures.finished

pub returns-in-SameException-clause-refused : goal.returns-in-SameException-clause-refused
returns-in-SameException-clause-refused c =
    nothing_refuses c.args.bare.now c.args.declared.now (contexts_of c.args.scopes.now) c.args.settled.now c.args.general.now c.args.unknowns.now c.args.renames.now c.requires.given c.args.node c.args.form.now c.check_exception-in-SameException.result c.check_exception-in-SameException.ensures.refused

pub returns-in_default-clause-finished : goal.returns-in_default-clause-finished
returns-in_default-clause-finished c none around q =
    other_finished c.args.bare.now (ended c.args.bare.now c.args.declared.now (contexts_of c.args.scopes.now) c.args.settled.now c.args.general.now c.args.unknowns.now c.args.renames.now) around c.args.node c.args.form.now none c.in_default.not-Case c.in_default.not-Fn c.in_default.not-Handle c.in_default.not-Let c.in_default.not-Val c.in_default.not-ValRec c.in_default.not-Exception c.in_default.not-SameException
