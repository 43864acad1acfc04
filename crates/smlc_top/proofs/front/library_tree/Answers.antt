use Rattle.std.proofs.Common.{◌≡◌, [], ◌∷◌, length, map, sym, ap, subst, ◌∙◌, arith}
use Rattle.std.proofs.lemmas.List.{length-map}
use Rattle.sml_prelude.specs.Text.{library_text}
use Rattle.sml_lexer.specs.Programs.{IsRefused}
use Rattle.smlc_top.proofs.Fronts.{library_lexed, library_tokens_fail, library_syntax_fails}
use Rattle.smlc_top.proofs.front.library_tree.Goals as goal

pub tokens-requires : goal.tokens-requires
tokens-requires c =
    let e : map (λ f. f.items) c.as_slice.result.now ≡ library_text ∷ [] = ap (λ fs. map (λ f. f.items) fs) c.as_slice.ensures.value ∙ c.in_ok-files.ensures in
    let n = sym (length-map c.as_slice.result.now (λ f. f.items)) ∙ ap length e in
    omega (arith, n)

pub returns-in-Err-clause-err : goal.returns-in-Err-clause-err
returns-in-Err-clause-err c =
    library_tokens_fail c.in-Err.e (subst (λ fs. IsRefused 0 fs c.in-Err.e) (ap (λ fs. map (λ f. f.items) fs) c.as_slice.ensures.value ∙ c.in_ok-files.ensures) c.in-Err.ensures.err)

pub returns-in-Ok-parse-clause-ok : goal.returns-in-Ok-parse-clause-ok
returns-in-Ok-parse-clause-ok c = record {
  lexed = c.in-Ok.lexed;
  lexes = library_lexed _ _ c.in-Ok.lexed c.new-names.ensures (ap (λ fs. map (λ f. f.items) fs) c.as_slice.ensures.value ∙ c.in_ok-files.ensures) c.in-Ok.ensures.ok;
  parses = c.in-Ok-parse.ensures.ok;
}

pub returns-clause-err : goal.returns-clause-err
returns-clause-err c =
    library_syntax_fails c.in-Ok.lexed c.in-Err-parse.e (library_lexed _ _ c.in-Ok.lexed c.new-names.ensures (ap (λ fs. map (λ f. f.items) fs) c.as_slice.ensures.value ∙ c.in_ok-files.ensures) c.in-Ok.ensures.ok) c.in-Err-parse.ensures.err
