use Rattle.std.proofs.Common.{rules, ◌≡◌, [], List, length, sym, ap, ◌∙◌, subst}
use Rattle.sml_types.specs.declared.types.Ty.{Ty}
use Rattle.sml_types.specs.Forms.{AreForms, tree}
use Rattle.infer_parts.specs.Written.{AreThere}
use Rattle.infer_nodes.specs.Made.{AreNew}
use Rattle.infer_nodes.proofs.Making.{new_count}
use Rattle.infer_nodes.proofs.Schemes.{new_there, none_of, settled_plain, settled_copy}
use Rattle.infer_nodes.proofs.instance.settled_type.Goals as goal

pub returns-then-is_empty : goal.returns-then-is_empty
returns-then-is_empty c names =
    let count : length c.items-vars.result.now ≡ 0 = search rules in
    let none : c.args.settled.now.scheme.vars ≡ [] = sym c.items-vars.ensures ∙ none_of c.items-vars.result.now count in
    settled_plain names c.args.next.now c.args.types.now c.args.settled.now c.requires.below c.requires.there none

pub unfolded-requires-clause-there : goal.unfolded-requires-clause-there
unfolded-requires-clause-there c =
    subst (AreThere c.new_vars.new.types) (sym c.deref.ensures.value) (new_there c.args.next.now c.items-vars.result.now c.new_vars.new.types c.in_ok-args.args.items c.in_ok-args.ensures.is)

pub unfolded-requires-clause-count : goal.unfolded-requires-clause-count
unfolded-requires-clause-count c =
    ap length c.deref.ensures.value ∙ new_count c.args.next.now c.items-vars.result.now c.new_vars.new.types c.in_ok-args.args.items c.in_ok-args.ensures.is

pub returns : goal.returns
returns c =
    let forms : AreForms c.args.types.now = search rules in
    settled_copy c.args.next.now c.args.types.now c.args.settled.now c.new_vars.new.next c.new_vars.new.types c.unfolded.new.types c.items-vars.result.now c.deref.result.now c.unfolded.result forms c.requires.below c.requires.there c.items-vars.ensures c.in_ok-args.ensures.added (subst (λ (ts : List Ty). AreNew c.args.next.now c.items-vars.result.now c.new_vars.new.types ts) (sym c.deref.ensures.value) c.in_ok-args.ensures.is) c.unfolded.ensures.ok c.unfolded.ensures.longer c.unfolded.ensures.vars
