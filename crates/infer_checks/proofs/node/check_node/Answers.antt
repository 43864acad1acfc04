use Rattle.std.proofs.Common.{rules, ◌≡◌, ◌<◌, Some, IsTrue, length, sym, subst}
use Rattle.std.specs.Prelude.{slice_get}
use Rattle.std.proofs.lemmas.Result.{IfOk-weaker}
use Rattle.sml_tree.specs.declared.bare.Node.{Node}
use Rattle.infer_state.specs.Typings.{IsFinished}
use Rattle.infer_scopes.specs.Scopes.{contexts_of}
use Rattle.infer_checks.specs.Checked.{IsNoTypeDeclaration, ended}
use Rattle.infer_checks.proofs.AskedLaws.{asks}
use Rattle.infer_checks.proofs.FormLaws.{form_there, form_is}
use Rattle.infer_checks.proofs.Verdicts.{refused_weaker}
use Rattle.infer_checks.proofs.node.check_node.Goals as goal

pub returns-clause-finished : goal.returns-clause-finished
returns-clause-finished c =
    let form : Node = c.index-items-node.result in
    let few : c.args.node < length c.args.bare.now.nodes = search rules in
    let here : slice_get c.args.bare.now.nodes c.args.node ≡ Some form = form_there c.args.bare.now.nodes c.items.result.now c.args.node form c.items.ensures few c.index-items-node.is in
    IfOk-weaker c.check_form.result _ _
    (λ x h n around at none q.
    let same : form ≡ n = form_is c.args.bare.now.nodes c.args.node form n here at in
    subst (λ (k : Node). IsFinished c.args.bare.now (ended c.args.bare.now c.args.declared.now (contexts_of c.args.scopes.now) c.args.settled.now c.args.general.now c.args.unknowns.now c.args.renames.now) around c.args.node k) same (h (subst IsNoTypeDeclaration (sym same) none) around q))
    c.check_form.ensures.finished

pub returns-clause-refused : goal.returns-clause-refused
returns-clause-refused c =
    let p = c.args.bare.now in
    let form : Node = c.index-items-node.result in
    let few : c.args.node < length p.nodes = search rules in
    let here : slice_get p.nodes c.args.node ≡ Some form = form_there p.nodes c.items.result.now c.args.node form c.items.ensures few c.index-items-node.is in
    let has : IsTrue c.has.result = search rules in
    let stands = c.has.ensures has in
    refused_weaker c.check_form.result _ _
    (λ h t g typing fits solution suits contexts binds.
    h stands.0 stands.1 t g (record { fits = fits; solution = solution; suits = suits }) (asks p t c.args.count typing c.requires.prefix binds c.args.node form stands.0 c.requires.below here (contexts c.args.node stands.0 stands.1)))
    c.check_form.ensures.refused

pub check_form-requires-clause-given : goal.check_form-requires-clause-given
check_form-requires-clause-given c =
    record {
      forms = c.forms.ensures.kept;
      state = c.requires.state;
      laid = c.requires.laid;
      there = c.requires.there;
      bodies = c.requires.bodies;
      ending = c.requires.ending;
    }
