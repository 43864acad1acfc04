-- What each pass may take of what the one before it answers.
use Rattle.std.proofs.Common.{◌≡◌, List, false, sym, ap, ◌∙◌, subst}
use Rattle.sml_tree.specs.declared.bare.Bare.{Bare}
use Rattle.sml_tree.specs.IsBare.{IsBare}
use Rattle.sml_types.specs.declared.tables.TypeName.{TypeName}
use Rattle.lambda_ir.specs.Program.{Lambda}
use Rattle.lambda_laws.specs.Make.{lambda_of}
use Rattle.lambda_make.specs.Contract.{IsLambdaOf}
use Rattle.lambda_ends.proofs.Ends.{program_ends_in_no_call}
use Rattle.cps_ir.specs.Code.{Tree}
use Rattle.contract_round.specs.Law.{IsWhole}
use Rattle.convert_laws.specs.Needs.{needs}
use Rattle.convert_laws.specs.Program.{cps_of}
use Rattle.sml_middle.specs.Middle.{contracted_tree, middle_of}

module _ (ts : List TypeName) (p : Bare) (bare : IsBare p) (l : Lambda) (h : IsLambdaOf p ts l) where
  pub ends : needs l.terms 0 ≡ false
  ends = ap (λ (m : Lambda). needs m.terms 0) h.is ∙ program_ends_in_no_call ts p bare

  pub is_cps : (q : Tree) → q ≡ cps_of l → q ≡ cps_of (lambda_of ts p)
  is_cps q e = e ∙ ap cps_of h.is

  pub whole : IsWhole (cps_of (lambda_of ts p)).code → (q : Tree) → q ≡ cps_of l → IsWhole q.code
  whole w q e = subst (λ (r : Tree). IsWhole r.code) (sym (is_cps q e)) w

  pub comes : (q r : Tree) → q ≡ cps_of l → r ≡ contracted_tree q → r ≡ middle_of ts p
  comes q r e f = f ∙ ap contracted_tree (is_cps q e)
