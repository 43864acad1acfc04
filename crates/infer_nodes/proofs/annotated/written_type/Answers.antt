use Rattle.std.proofs.Common.{rules, ◌≡◌, ◌∙◌, List, Option, Some, length, ap, subst}
use Rattle.std.specs.Prelude.{slice_get}
use Rattle.sml_types.specs.declared.types.Ty.{Ty}
use Rattle.sml_types.specs.Forms.{AreForms}
use Rattle.infer_nodes.specs.Records.{AreInRow}
use Rattle.infer_nodes.proofs.Phrases.{explicit_stood, WrittenSo, renamed, written_some, cited_as}
use Rattle.infer_nodes.proofs.annotated.written_type.Goals as goal

pub returns-in-Some : goal.returns-in-Some
returns-in-Some c abbreviations agree =
    let forms : AreForms c.args.types.now = search rules in
    let count : length c.deref.result.now ≡ length c.args.bare.now.tyvars = ap length c.deref.ensures.value ∙ c.in_ok-stands.ensures.count in
    let row : AreInRow c.args.declared.now.starts.explicit c.deref.result.now = λ u t q. c.in_ok-stands.ensures.row u t (subst (λ (ts : List Ty). slice_get ts u ≡ Some t) c.deref.ensures.value q) in
    let ok : WrittenSo c.args.bare.now c.args.types.now c.written.new.types c.args.exp c.deref.result.now c.items-names.result.now c.items-abbreviations.result.now (Some c.in-Some.ty) =
    subst (λ (o : Option Ty). WrittenSo c.args.bare.now c.args.types.now c.written.new.types c.args.exp c.deref.result.now c.items-names.result.now c.items-abbreviations.result.now o) c.in-Some.is c.in_ok-made.ensures.ok in
    written_some c.args.bare.now c.args.types.now c.written.new.types c.args.exp c.deref.result.now c.args.declared.now.tables.names c.args.declared.now.abbreviations c.in-Some.ty c.requires.types
    (explicit_stood c.args.bare.now c.args.types.now c.args.declared.now.starts forms c.requires.laid c.deref.result.now count row)
    c.requires.declared.closed
    (cited_as c.args.bare.now c.args.exp c.items-abbreviations.result.now c.args.declared.now.abbreviations c.items-abbreviations.ensures c.in_ok-made.ensures.cited)
    c.in_ok-made.ensures.longer
    c.in_ok-made.ensures.vars
    (renamed c.args.bare.now c.args.types.now c.written.new.types c.args.exp c.deref.result.now c.items-names.result.now c.args.declared.now.tables.names c.items-abbreviations.result.now c.args.declared.now.abbreviations (Some c.in-Some.ty) c.items-names.ensures c.items-abbreviations.ensures ok)
    abbreviations
    agree
