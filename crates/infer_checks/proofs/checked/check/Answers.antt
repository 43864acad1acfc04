use Rattle.std.proofs.Common.{rules, ◌≡◌, List, length, IsTrue, sym, ap, ◌∙◌, subst}
use Rattle.sml_unify.specs.declared.resolve.Rename.{Rename}
use Rattle.infer_scopes.specs.Scopes.{contexts_of}
use Rattle.infer_closing.specs.Closing.{meaning}
use Rattle.infer_checks.specs.Checked.{IsChecked}
use Rattle.infer_checks.specs.Ending.{AreFoundOr, AreFound}
use Rattle.infer_checks.proofs.CheckedFacts.{ending_of, not_own, checked_of}
use Rattle.infer_checks.proofs.checked.check.Goals as goal

pub returns-in_default-clause-refused : goal.returns-in_default-clause-refused
returns-in_default-clause-refused c =
    let p = c.args.bare.now in
    let s = c.args.unknowns.now in
    not_own p c.args.declared.now (contexts_of c.args.scopes.now) c.args.settled.now c.args.general.now s c.forms.ensures.kept c.requires.state c.requires.laid c.args.count (subst (AreFoundOr p (meaning s)) c.in_default.is c.in_ok-renames.ensures)

pub check_nodes-requires-clause-ending : goal.check_nodes-requires-clause-ending
check_nodes-requires-clause-ending c =
    let p = c.args.bare.now in
    let s = c.args.unknowns.now in
    let found = subst (AreFoundOr p (meaning s)) c.in-Some.is c.in_ok-renames.ensures in
    let same = c.items-items.ensures in
    ending_of p c.args.declared.now (contexts_of c.args.scopes.now) c.args.settled.now c.args.general.now s c.forms.ensures.kept c.requires.state c.requires.laid c.items-items.result.now
    (subst (AreFound p (meaning s)) (sym same) found.0)
    (ap (λ (rs : List Rename). length rs) same ∙ found.1)
    c.in_ok-are_proper.ensures

pub returns-in-Ok-clause-checked : goal.returns-in-Ok-clause-checked
returns-in-Ok-clause-checked c =
    let p = c.args.bare.now in
    let d = c.args.declared.now in
    let contexts = contexts_of c.args.scopes.now in
    let s = c.args.unknowns.now in
    let found = subst (AreFoundOr p (meaning s)) c.in-Some.is c.in_ok-renames.ensures in
    let same = c.items-items.ensures in
    let ending =
    ending_of p d contexts c.args.settled.now c.args.general.now s c.forms.ensures.kept c.requires.state c.requires.laid c.items-items.result.now
    (subst (AreFound p (meaning s)) (sym same) found.0)
    (ap (λ (rs : List Rename). length rs) same ∙ found.1)
    c.in_ok-are_proper.ensures in
    let all : IsTrue c.are_settled_below.result = search rules in
    let whole : c.items-items.result.now ≡ c.into_vec.result.items = search rules in
    subst
    (IsChecked p d contexts c.args.settled.now c.args.general.now s c.args.count)
    whole
    (checked_of p d contexts c.args.settled.now c.args.general.now s c.items-items.result.now c.args.count ending (c.are_settled_below.ensures all s.types) c.in-Ok.ensures.finished)
