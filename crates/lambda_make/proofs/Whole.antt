-- What holds of the program that a typed tree becomes.
use Rattle.std.proofs.Common.{◌≡◌, ℕ, List, sym, ap, ◌∙◌, subst}
use Rattle.smlc_base.specs.declared.point.Site.{Site}
use Rattle.sml_tree.specs.declared.bare.Bare.{Bare}
use Rattle.sml_tree.specs.IsBare.{IsBare}
use Rattle.sml_types.specs.declared.tables.TypeName.{TypeName}
use Rattle.sml_def.specs.Sites.{sites}
use Rattle.lambda_ir.specs.declared.term.Term.{Term}
use Rattle.lambda_ir.specs.Kept.{IsProgram}
use Rattle.lambda_ir.specs.Program.{Lambda}
use Rattle.lambda_laws.specs.Keeps.{IsKept}
use Rattle.lambda_laws.specs.Make.{terms_of, lambda_of}
use Rattle.lambda_laws.proofs.Programs.{is_program}
use Rattle.lambda_laws.proofs.Whole.{lambda_keeps, lambda_goes_in_step}
use Rattle.lambda_make.specs.Contract.{IsLambdaOf}

abbrev pub program : List Term → List Site → List (List ℕ) → List (List ℕ) → Lambda
program terms sites texts exns = record { terms = terms; sites = sites; texts = texts; exns = exns }

-- of these parts
pub put_together : (p : Bare) (ts : List TypeName) (terms : List Term) (places : List Site) (texts exns : List (List ℕ)) → terms ≡ terms_of ts p → places ≡ sites p → texts ≡ p.texts → exns ≡ p.names → program terms places texts exns ≡ lambda_of ts p
put_together p ts terms places texts exns e f g h =
    ap (λ x. program x places texts exns) e
    ∙ ap (λ x. program (terms_of ts p) x texts exns) f
    ∙ ap (λ x. program (terms_of ts p) (sites p) x exns) g
    ∙ ap (program (terms_of ts p) (sites p) p.texts) h

pub is_kept : (p : Bare) → IsBare p → (ts : List TypeName) (l : Lambda) → l ≡ lambda_of ts p → IsProgram l
is_kept p bare ts l e = subst IsProgram (sym e) (is_program ts p bare)

pub is_lambda : (p : Bare) → IsBare p → (ts : List TypeName) (l : Lambda) → l ≡ lambda_of ts p → IsLambdaOf p ts l
is_lambda p bare ts l e = record {
  is = e;
  kept = λ t typing. subst (IsKept p) (sym e) (lambda_keeps ts p bare t typing);
  in_step = λ t typing input. lambda_goes_in_step ts p bare t typing input;
}
