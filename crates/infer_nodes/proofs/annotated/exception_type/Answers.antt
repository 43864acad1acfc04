use Rattle.std.proofs.Common.{ℕ, Option, sym, subst, refl}
use Rattle.std.specs.Prelude.{Ok}
use Rattle.sml_types.specs.Library.{exn_ty}
use Rattle.infer_nodes.specs.Annotated.{IsArgumentMade}
use Rattle.infer_nodes.proofs.annotated.exception_type.Goals as goal

pub returns-in_ok-made-in-None : goal.returns-in_ok-made-in-None
returns-in_ok-made-in-None c abbreviations agree =
    subst
    (λ (o : Option ℕ). IsArgumentMade c.args.bare.now c.args.declared.now.tables.names abbreviations o c.args.types.now c.constant.new.types (Ok c.in_ok-made-in-None.made))
    (sym c.in-None.is)
    (exn_ty, refl, c.in_ok-made-in-None.ensures)

pub returns-in-Some : goal.returns-in-Some
returns-in-Some c abbreviations agree =
    subst
    (λ (o : Option ℕ). IsArgumentMade c.args.bare.now c.args.declared.now.tables.names abbreviations o c.args.types.now c.exception_of.new.types c.exception_of.result)
    (sym c.in-Some.is)
    (c.exception_of.ensures abbreviations agree)
