use Rattle.std.proofs.Common.{rules, ◌≡◌, List, refl, sym, subst}
use Rattle.sml_types.specs.Forms.{AreForms}
use Rattle.sml_unify.specs.declared.pair.Pair.{Pair}
use Rattle.sml_unify.specs.Solved.{AreEqual, ArePairs}
use Rattle.infer_state.specs.Steps.{IsStep}
use Rattle.infer_nodes.specs.Asked.{RuleOf}
use Rattle.infer_nodes.proofs.Stepped.{state_added, asked_step, refused_step}
use Rattle.infer_nodes.proofs.rule.ask.Goals as goal

pub equal_all-requires-clause-state : goal.equal_all-requires-clause-state
equal_all-requires-clause-state c =
    state_added c.args.declared.now.tables.names c.args.unknowns.now _ c.requires.state refl c.in-Ok.ensures.grown.0

pub equal_all-requires-clause-there : goal.equal_all-requires-clause-there
equal_all-requires-clause-there c =
    subst (ArePairs c.pose.new.types) (sym c.items.ensures) c.in-Ok.ensures.grown.1

pub returns-in-Ok : goal.returns-in-Ok
returns-in-Ok c =
    record {
      step = λ abbreviations agree n e.
          let forms : AreForms c.args.unknowns.now.types = search rules in
          asked_step c.args.declared.now.tables.names (RuleOf c.args.bare.now c.args.declared.now c.args.settled.now c.args.unknowns.now.types abbreviations c.args.node n) c.args.unknowns.now c.pose.new.types c.pose.new.next c.in-Ok.pairs forms c.requires.state (c.in-Ok.ensures.rule n e abbreviations agree) c.equal_all.new.unknowns c.equal_all.result
          (subst (λ (ps : List Pair). IsStep c.args.declared.now.tables.names (λ f. AreEqual c.pose.new.types f ps) (record { types = c.pose.new.types; subst = c.args.unknowns.now.subst; next = c.pose.new.next }) c.equal_all.new.unknowns c.equal_all.result) c.items.ensures c.equal_all.ensures.step);
    }

pub returns-in-Err : goal.returns-in-Err
returns-in-Err c =
    record { step = λ abbreviations agree n e. refused_step c.args.declared.now.tables.names (RuleOf c.args.bare.now c.args.declared.now c.args.settled.now c.args.unknowns.now.types abbreviations c.args.node n) c.args.unknowns.now c.pose.new.next c.pose.new.types (record { types = c.pose.new.types; subst = c.args.unknowns.now.subst; next = c.pose.new.next }) c.pose.result c.in-Err.failure c.in-Err.is (c.pose.ensures.rule n e abbreviations agree) }
