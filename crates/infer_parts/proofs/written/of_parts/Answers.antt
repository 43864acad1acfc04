use Rattle.std.proofs.Common.{rules, ◌≡◌, ◌<◌, length, List, true, Some, sym, ap, ◌∙◌, subst}
use Rattle.std.specs.Prelude.{slice_index_or}
use Rattle.std.proofs.lemmas.Option.{slice_get-get_or}
use Rattle.sml_tree.specs.declared.bare.TypeExp.{TypeExp}
use Rattle.sml_types.specs.declared.types.TyVar.{TyVar}
use Rattle.sml_types.specs.Tree.{inst}
use Rattle.sml_types.specs.Forms.{tree}
use Rattle.infer_parts.specs.Segments.{exp_parts}
use Rattle.infer_parts.specs.Copies.{given_types}
use Rattle.infer_parts.specs.Written.{IsFitting, has_params, paired}
use Rattle.infer_parts.proofs.Forms.{made_var, made_record, made_arrow, made_named, made_abbreviation, other_count, closed_at, args_there}
use Rattle.infer_parts.proofs.written.of_parts.Goals as goal

pub pushed-requires-in-Named-clause-parts : goal.pushed-requires-in-Named-clause-parts
pushed-requires-in-Named-clause-parts c = args_there (length c.args.types.now) c.in-Named.number c.args.tys c.requires.there

pub returns-in-Var-clause-ok : goal.returns-in-Var-clause-ok
returns-in-Var-clause-ok c marks =
    let below : c.in-Var.var < length c.args.stands.now = subst (IsFitting (length c.args.stands.now) (length c.args.abbreviations.now)) c.in-Var.is c.requires.fits in
    made_var marks c.args.names.now c.args.abbreviations.now c.args.stands.now c.args.types.now c.args.exp.now c.args.tys (slice_index_or c.args.stands.now c.in-Var.var (record { 0 = 0 })) c.in-Var.var c.in-Var.is (slice_get-get_or c.args.stands.now c.in-Var.var (record { 0 = 0 }) below) c.requires.stands

pub returns-in_ok-made-in-Record-clause-ok : goal.returns-in_ok-made-in-Record-clause-ok
returns-in_ok-made-in-Record-clause-ok c marks =
    made_record marks c.args.names.now c.args.abbreviations.now c.args.stands.now c.args.types.now c.record.new.types c.args.exp.now c.args.tys c.in_ok-made-in-Record.made c.in-Record.fields c.items.result.now c.items-in-Record.result.now c.in-Record.is c.items.ensures c.items-in-Record.ensures c.in_ok-made-in-Record.ensures.ok

pub returns-in_ok-made-in-Arrow-clause-ok : goal.returns-in_ok-made-in-Arrow-clause-ok
returns-in_ok-made-in-Arrow-clause-ok c marks =
    made_arrow marks c.args.names.now c.args.abbreviations.now c.args.stands.now c.args.types.now c.pushed.new.types c.args.exp.now c.args.tys c.in_ok-made-in-Arrow.made c.in-Arrow.field-0 c.in-Arrow.field-1 (record { 0 = 0 }) c.items-in-Arrow.result.now c.items-in-Arrow-2.result.now c.in-Arrow.is c.items-in-Arrow.ensures c.items-in-Arrow-2.ensures (c.requires.count ∙ ap (λ (e : TypeExp). length (exp_parts e)) c.in-Arrow.is) c.in_ok-made-in-Arrow.ensures.ok

pub returns-in_ok-made-in-Named-clause-ok : goal.returns-in_ok-made-in-Named-clause-ok
returns-in_ok-made-in-Named-clause-ok c marks =
    let known : has_params c.args.names.now c.in-Named.number (length c.in-Named.args) ≡ true = search rules in
    made_named marks c.args.names.now c.args.abbreviations.now c.args.stands.now c.args.types.now c.pushed-in-Named.new.types c.args.exp.now c.args.tys c.in_ok-made-in-Named.made c.in-Named.number c.in-Named.args c.in-Named.is known c.in_ok-made-in-Named.ensures.ok

pub returns-then-len-clause-ok : goal.returns-then-len-clause-ok
returns-then-len-clause-ok c marks =
    let below : c.in-Abbreviation.number < length c.args.abbreviations.now = subst (IsFitting (length c.args.stands.now) (length c.args.abbreviations.now)) c.in-Abbreviation.is c.requires.fits in
    let here = slice_get-get_or c.args.abbreviations.now c.in-Abbreviation.number c.index-abbreviations-number.result below ∙ ap Some (sym c.index-abbreviations-number.is) in
    let other : length c.index-abbreviations-number.result.vars ≡ length c.in-Abbreviation.args → ⊥ = search rules in
    other_count marks c.args.names.now c.args.abbreviations.now c.args.stands.now c.args.types.now c.args.types.now c.args.exp.now c.args.tys c.in-Abbreviation.number c.in-Abbreviation.args c.index-abbreviations-number.result c.in-Abbreviation.is here other

pub returns-in_ok-made-in-Abbreviation-clause-ok :
    goal.returns-in_ok-made-in-Abbreviation-clause-ok
returns-in_ok-made-in-Abbreviation-clause-ok c marks =
    let below : c.in-Abbreviation.number < length c.args.abbreviations.now = subst (IsFitting (length c.args.stands.now) (length c.args.abbreviations.now)) c.in-Abbreviation.is c.requires.fits in
    let here = slice_get-get_or c.args.abbreviations.now c.in-Abbreviation.number c.index-abbreviations-number.result below ∙ ap Some (sym c.index-abbreviations-number.is) in
    let count : length c.index-abbreviations-number.result.vars ≡ length c.in-Abbreviation.args = search rules in
    made_abbreviation marks c.args.names.now c.args.abbreviations.now c.args.stands.now c.args.types.now c.unfolded.new.types c.args.exp.now c.args.tys c.in_ok-made-in-Abbreviation.made c.in-Abbreviation.number c.in-Abbreviation.args c.index-abbreviations-number.result c.items-in-Abbreviation-2.result.now c.in-Abbreviation.is c.items-in-Abbreviation-2.ensures here (closed_at c.args.types.now c.args.abbreviations.now c.in-Abbreviation.number c.index-abbreviations-number.result c.requires.bodies here) (c.requires.count ∙ ap (λ (e : TypeExp). length (exp_parts e)) c.in-Abbreviation.is ∙ sym count) count (subst (λ (vs : List TyVar). (c.in_ok-made-in-Abbreviation.made.0 < length c.unfolded.new.types) × (tree c.unfolded.new.types c.in_ok-made-in-Abbreviation.made.0 ≡ inst (given_types c.args.types.now (paired vs c.items-in-Abbreviation-2.result.now)) (tree c.args.types.now c.index-abbreviations-number.result.body.0))) c.items-in-Abbreviation.ensures c.in_ok-made-in-Abbreviation.ensures.ok)
