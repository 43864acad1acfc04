use Rattle.std.proofs.Common.{length, List, refl, ap, ◌∙◌}
use Rattle.sml_types.specs.declared.scheme.NameScheme.{NameScheme}
use Rattle.sml_infer.proofs.Answered.{ready_below, named_of, in_order, is_inferred}
use Rattle.sml_infer.proofs.typing.typed.Goals as goal

pub name_schemes-requires : goal.name_schemes-requires
name_schemes-requires c =
    record {
      ready = ready_below c.args.bare (length c.args.bare.nodes) c.args.below c.deref-2.result.now c.deref.result.now c.requires.below c.deref-2.ensures.value c.deref.ensures.value;
    }

pub invariant_of-result : goal.invariant_of-result
invariant_of-result c =
    let b = c.args.below in
    let named =
    named_of c.args.bare b.work.unknowns.types c.name_schemes.new.types b.work.unknowns.subst.bound c.deref-2.result.now b.renames.items c.deref.result.now b.work.settled.items c.in_ok-schemes.schemes.items c.from_vec.result
    c.deref-2.ensures.value c.deref.ensures.value c.from_vec.ensures c.in_ok-schemes.ensures.named in
    record {
      ordered = in_order c.args.bare b.work.unknowns.types c.name_schemes.new.types b.work.unknowns.subst.bound b.renames.items b.work.settled.items c.from_vec.result named;
      complete = ap (λ (xs : List NameScheme). length xs) c.from_vec.ensures ∙ c.in_ok-schemes.ensures.count;
    }

pub returns : goal.returns
returns c =
    let b = c.args.below in
    let named =
    named_of c.args.bare b.work.unknowns.types c.name_schemes.new.types b.work.unknowns.subst.bound c.deref-2.result.now b.renames.items c.deref.result.now b.work.settled.items c.in_ok-schemes.schemes.items c.from_vec.result
    c.deref-2.ensures.value c.deref.ensures.value c.from_vec.ensures c.in_ok-schemes.ensures.named in
    is_inferred c.args.bare b _ c.requires.below refl refl c.in_ok-schemes.ensures.longer named
