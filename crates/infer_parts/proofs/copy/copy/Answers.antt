use Rattle.std.proofs.Common.{◌+◌, List, sym, subst, arith}
use Rattle.sml_types.specs.declared.types.Ty.{Ty}
use Rattle.sml_types.specs.Forms.{IsNumbered}
use Rattle.infer_parts.specs.Copies.{ArePartsCopied, AreCopied}
use Rattle.infer_parts.proofs.CopySteps.{parts_ready, next_copied}
use Rattle.infer_parts.proofs.copy.copy.Goals as goal

pub copy_form-requires-clause-parts : goal.copy_form-requires-clause-parts
copy_form-requires-clause-parts c form e =
    let ready =
    parts_ready
    c.args.types.now
    c.args.given.now
    c.args.from
    c.args.to
    c.forms.at
    c.forms.types
    c.forms.copies.items
    form
    (subst IsNumbered c.types.view_is c.types.invariant.numbered)
    c.requires.given
    c.requires.closed
    c.forms.invariant.copied
    c.forms.auto.at
    c.forms-test.true
    c.requires.there
    e in
    subst (λ (copies : List Ty). ArePartsCopied c.forms.types c.args.given.now c.args.from copies form) (sym c.deref.ensures.value) ready

pub forms-preserved : goal.forms-preserved
forms-preserved c =
    let there = c.requires.there in
    let below = c.forms-test.true in
    record {
      copied =
          subst
          (λ (copies : List Ty). AreCopied c.args.types.now c.args.given.now c.args.from (c.forms.at + 1) c.copy_form.new.types copies)
          (sym c.in_ok-push.ensures.items)
          (next_copied c.args.types.now c.args.given.now c.args.from c.forms.at c.forms.types c.copy_form.new.types c.forms.copies.items c.in_ok-copy.copy c.forms.invariant.copied c.in_ok-copy.ensures.longer c.requires.given (omega arith) c.in_ok-copy.ensures.ok);
      vars = λ i v e. c.forms.invariant.vars i v (c.in_ok-copy.ensures.vars i v e);
    }
