use Rattle.std.proofs.Common.{◌≡◌, true, false, sym, ◌∙◌, subst}
use Rattle.infer_tables.specs.Meaning.{IsMeaningOrNone}
use Rattle.infer_tables.proofs.MeaningFacts.{not_covered}
use Rattle.infer_tables.proofs.meaning.covered.Goals as goal

pub returns-then-branch-clause-ok : goal.returns-then-branch-clause-ok
returns-then-branch-clause-ok c =
    record {
      meaning = subst (IsMeaningOrNone c.args.bare.now c.meaning.new.types c.args.known.now c.args.exp) c.in-Some.is c.in_ok-ty.ensures.ok;
      covers = c.in_ok-covers.ensures.0 c.if-branch.true;
    }

pub returns-else-branch-clause-ok : goal.returns-else-branch-clause-ok
returns-else-branch-clause-ok c =
    not_covered c.args.bare.now c.meaning.new.types c.args.known.now c.args.vars.now c.args.exp c.in-Some.ty (subst (IsMeaningOrNone c.args.bare.now c.meaning.new.types c.args.known.now c.args.exp) c.in-Some.is c.in_ok-ty.ensures.ok) (λ v. let z : true ≡ false = sym (c.in_ok-covers.ensures.1 v) ∙ c.if-branch.false in cc)

pub returns-in_default-clause-ok : goal.returns-in_default-clause-ok
returns-in_default-clause-ok c t a u w v =
    subst (IsMeaningOrNone c.args.bare.now c.meaning.new.types c.args.known.now c.args.exp) c.in_default.is c.in_ok-ty.ensures.ok t a u w
