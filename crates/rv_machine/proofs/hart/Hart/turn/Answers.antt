use Rattle.std.proofs.Common.{◌≡◌, ◌+◌, [], arith, refl, sym, ap, ◌∙◌}
use Rattle.std.specs.Prelude.{slice_range}
use Rattle.smlc_edge.proofs.Gained.{gains_none}
use Rattle.rv_machine.specs.Step.{step_of}
use Rattle.rv_machine.specs.View.{state}
use Rattle.rv_machine.specs.State.{State}
use Rattle.rv_machine.specs.declared.hart.Next.{Next}
use Rattle.rv_machine.specs.declared.hart.Next.TheVariants.{Write}
use Rattle.rv_machine.proofs.Behaviour.{Ran-Going, Ran-Exit, Ran-Trap, Ran-Read, Ran-fault, Ran-out, Ran-err, Scratched-first}
use Rattle.rv_machine.proofs.hart.Hart.turn.Goals as goal

pub returns-in-Going-clause-turns : goal.returns-in-Going-clause-turns
returns-in-Going-clause-turns g c = record {
  wrote = [];
  wrote_err = [];
  gains = gains_none _;
  gains_err = gains_none _;
  goes_on = λ n b first o e h. (state c.step.new.self, Ran-Going n b first (g.I.Source.left c.args.input.now) (state c.args.self.now) o e h (state c.step.new.self) (sym c.in-Going.ensures.value), refl, tt);
}

pub returns-in-Exit-clause-turns : goal.returns-in-Exit-clause-turns
returns-in-Exit-clause-turns g c = record {
  wrote = [];
  wrote_err = [];
  gains = gains_none _;
  gains_err = gains_none _;
  goes_on = λ n b first o e h. (state c.step.new.self, Ran-Exit n b first (g.I.Source.left c.args.input.now) (state c.args.self.now) o e h c.in-Exit.status (state c.step.new.self) (sym c.in-Exit.ensures.value) c.in-Exit.ensures.kept, refl, tt);
}

pub returns-in-Trap-clause-turns : goal.returns-in-Trap-clause-turns
returns-in-Trap-clause-turns g c = record {
  wrote = [];
  wrote_err = [];
  gains = gains_none _;
  gains_err = gains_none _;
  goes_on = λ n b first o e h. (state c.step.new.self, Ran-Trap n b first (g.I.Source.left c.args.input.now) (state c.args.self.now) o e h (state c.step.new.self) c.word_at_pc.result (sym c.in-Trap.ensures.value) c.in-Trap.ensures.kept c.word_at_pc.ensures, refl, tt);
}

pub returns-in-Ok-clause-turns : goal.returns-in-Ok-clause-turns
returns-in-Ok-clause-turns g c = record {
  wrote = [];
  wrote_err = [];
  gains = gains_none _;
  gains_err = gains_none _;
  goes_on = λ n b first o e h. (state c.serve_read.new.self, Ran-Read n b first (g.I.Source.left c.args.input.now) (state c.args.self.now) o e h c.in-Read.at c.in-Read.size (state c.step.new.self) (state c.serve_read.new.self) (g.I.Source.left c.serve_read.new.input) (sym c.in-Read.ensures.value) c.in-Read.ensures.kept (c.in-Ok.ensures.told h.known h.knows), refl, tt);
}

pub returns-in-Err-clause-turns : goal.returns-in-Err-clause-turns
returns-in-Err-clause-turns g c = record {
  wrote = [];
  wrote_err = [];
  gains = gains_none _;
  gains_err = gains_none _;
  goes_on = λ n b first o e h.
      let r = c.in-Err.ensures.told h.known h.knows in (
        state c.args.self.now,
        Ran-fault n b first (g.I.Source.left c.args.input.now) (state c.args.self.now) o e h (g.I.Source.left c.serve_read.new.input) r.1,
        (c.in-Read.at, c.in-Read.size, ap (λ (o : Next × State). o.0) (sym c.in-Read.ensures.value), Scratched-first c.in-Read.at c.in-Read.size h.known first (state c.args.self.now) (state c.serve_read.new.self) h.told (rw c.in-Read.ensures.kept at r.0)),
        (c.in-Read.at, c.in-Read.size, ap (λ (o : Next × State). o.0) (sym c.in-Read.ensures.value)),
      );
}

pub returns-in-Ok-serve_write-clause-turns : goal.returns-in-Ok-serve_write-clause-turns
returns-in-Ok-serve_write-clause-turns g c =
    let r = c.in-Ok-serve_write.ensures.told in
    let stepped : step_of (state c.args.self.now) ≡ (Write 1 c.in-Write.at c.in-Write.size, state c.step.new.self) = rw c.if-to-eq1.true at (sym c.in-Write.ensures.value) in
    record {
      wrote = slice_range (state c.step.new.self).bytes c.in-Write.at (c.in-Write.at + r.0);
      wrote_err = [];
      gains = r.4;
      gains_err = gains_none _;
      goes_on = λ n b first o e h. (state c.serve_write.new.self, Ran-out n b first (g.I.Source.left c.args.input.now) (state c.args.self.now) o e h c.in-Write.at c.in-Write.size r.0 (state c.step.new.self) (state c.serve_write.new.self) stepped c.in-Write.ensures.kept r.1 r.2 r.3, refl, tt);
    }

pub returns-in-Ok-serve_write-2-clause-turns : goal.returns-in-Ok-serve_write-2-clause-turns
returns-in-Ok-serve_write-2-clause-turns g c =
    let r = c.in-Ok-serve_write-2.ensures.told in
    let second : c.in-Write.to ≡ 2 = omega (arith, c.in-Write.ensures.inside.2) in
    let stepped : step_of (state c.args.self.now) ≡ (Write 2 c.in-Write.at c.in-Write.size, state c.step.new.self) = rw second at (sym c.in-Write.ensures.value) in
    record {
      wrote = [];
      wrote_err = slice_range (state c.step.new.self).bytes c.in-Write.at (c.in-Write.at + r.0);
      gains = gains_none _;
      gains_err = r.4;
      goes_on = λ n b first o e h. (state c.serve_write-else-to-eq1.new.self, Ran-err n b first (g.I.Source.left c.args.input.now) (state c.args.self.now) o e h c.in-Write.at c.in-Write.size r.0 (state c.step.new.self) (state c.serve_write-else-to-eq1.new.self) stepped c.in-Write.ensures.kept r.1 r.2 r.3, refl, tt);
    }

pub returns-in-Err-serve_write-clause-turns : goal.returns-in-Err-serve_write-clause-turns
returns-in-Err-serve_write-clause-turns g c =
    let r = c.in-Err-serve_write.ensures.told in
    record {
      wrote = [];
      wrote_err = [];
      gains = r.1;
      gains_err = gains_none _;
      goes_on = λ n b first o e h. (state c.args.self.now, Ran-fault n b first (g.I.Source.left c.args.input.now) (state c.args.self.now) o e h (g.I.Source.left c.args.input.now) h.knows, r.0 ∙ c.in-Write.ensures.kept, (c.in-Write.to, c.in-Write.at, c.in-Write.size, ap (λ (o : Next × State). o.0) (sym c.in-Write.ensures.value)));
    }

pub returns-in-Err-serve_write-2-clause-turns : goal.returns-in-Err-serve_write-2-clause-turns
returns-in-Err-serve_write-2-clause-turns g c =
    let r = c.in-Err-serve_write-2.ensures.told in
    record {
      wrote = [];
      wrote_err = [];
      gains = gains_none _;
      gains_err = r.1;
      goes_on = λ n b first o e h. (state c.args.self.now, Ran-fault n b first (g.I.Source.left c.args.input.now) (state c.args.self.now) o e h (g.I.Source.left c.args.input.now) h.knows, r.0 ∙ c.in-Write.ensures.kept, (c.in-Write.to, c.in-Write.at, c.in-Write.size, ap (λ (o : Next × State). o.0) (sym c.in-Write.ensures.value)));
    }
