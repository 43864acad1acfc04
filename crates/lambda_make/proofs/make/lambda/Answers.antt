use Rattle.std.proofs.Common.{◌≡◌, ◌∙◌, subst, map}
use Rattle.lambda_laws.specs.Make.{term_of, lambda_of}
use Rattle.lambda_make.proofs.Whole.{program, put_together, is_kept, is_lambda}
use Rattle.lambda_make.proofs.make.lambda.Goals as goal

pub invariant_of-program : goal.invariant_of-program
invariant_of-program c =
    let p = c.args.typed.now.bare in
    let ts = c.args.typed.now.tables.names in
    let made = subst (λ nodes. c.in_ok-terms.terms ≡ map (term_of ts nodes) nodes) c.items.ensures c.in_ok-terms.ensures in
    is_kept p c.requires ts _ (put_together p ts c.in_ok-terms.terms c.in_ok-sites.sites c.in_ok-constants.constants c.in_ok-spellings.spellings made c.in_ok-sites.ensures (c.in_ok-constants.ensures ∙ c.items-2.ensures) (c.in_ok-spellings.ensures ∙ c.items-3.ensures))

pub returns : goal.returns
returns c =
    let p = c.args.typed.now.bare in
    let ts = c.args.typed.now.tables.names in
    let made = subst (λ nodes. c.in_ok-terms.terms ≡ map (term_of ts nodes) nodes) c.items.ensures c.in_ok-terms.ensures in
    is_lambda p c.requires ts _ (put_together p ts c.in_ok-terms.terms c.in_ok-sites.sites c.in_ok-constants.constants c.in_ok-spellings.spellings made c.in_ok-sites.ensures (c.in_ok-constants.ensures ∙ c.items-2.ensures) (c.in_ok-spellings.ensures ∙ c.items-3.ensures))
