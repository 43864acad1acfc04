use Rattle.std.proofs.Common.{List, ℕ, sym, subst}
use Rattle.std.specs.List.{AllByRecursion}
use Rattle.std.proofs.lemmas.Result.{IfOk-weaker}
use Rattle.sml_tree.specs.declared.bare.Binding.{Binding}
use Rattle.infer_state.specs.Fits.{settled_at}
use Rattle.infer_state.specs.Names.{names_bound}
use Rattle.infer_closing.specs.Closing.{meaning}
use Rattle.infer_checks.specs.Checked.{ending}
use Rattle.infer_checks.specs.Node.{IsGeneralised, IsDeclaredWell, MayBeDeclared}
use Rattle.infer_checks.proofs.Verdicts.{passed_of, refused_of}
use Rattle.infer_checks.proofs.node.check_values.Goals as goal

pub returns-in-Ok-clause-general : goal.returns-in-Ok-clause-general
returns-in-Ok-clause-general c =
    let p = c.args.bare.now in
    let u = c.args.unknowns.now in
    IfOk-weaker c.verdict.result _ _
    (λ x e around q. subst (λ (bindings : List Binding). AllByRecursion (λ b. IsGeneralised p (settled_at u.types c.args.settled.now) (ending u c.args.renames.now) c.args.general.now around b.right (names_bound p.nodes b.pat)) bindings) c.items-all.ensures (c.in-Ok.ensures around q))
    c.verdict.ensures.passed

pub returns-in-Ok-clause-declared : goal.returns-in-Ok-clause-declared
returns-in-Ok-clause-declared c =
    let p = c.args.bare.now in
    let u = c.args.unknowns.now in
    passed_of c.is_declared_well.result c.verdict.result _ _ c.is_declared_well.ensures
    (λ h around q. subst (λ (us : List ℕ). IsDeclaredWell p (settled_at u.types c.args.settled.now) (meaning u) (ending u c.args.renames.now) around us (names_bound p.nodes c.args.node)) c.items-explicit.ensures (h around q))
    c.verdict.ensures.passed

pub returns-in-Ok-clause-refused : goal.returns-in-Ok-clause-refused
returns-in-Ok-clause-refused c =
    let p = c.args.bare.now in
    let u = c.args.unknowns.now in
    refused_of c.is_declared_well.result c.verdict.result _ _ c.is_declared_well.ensures
    (λ h around q may. h around q (subst (λ (us : List ℕ). MayBeDeclared p (settled_at u.types c.args.settled.now) (meaning u) (ending u c.args.renames.now) around us (names_bound p.nodes c.args.node)) (sym c.items-explicit.ensures) may))
    c.verdict.ensures.refused
