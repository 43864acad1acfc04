use Rattle.std.proofs.Common.{map, subst}
use Rattle.sml_lexer.specs.Programs.{IsLexed}
use Rattle.smlc_top.proofs.Fronts.{library_fails, tokens_fail, syntax_fails, bindings_fail, goes_on}
use Rattle.smlc_top.proofs.front.tree_of.Goals as goal

pub returns-in-Err-clause-err : goal.returns-in-Err-clause-err
returns-in-Err-clause-err c = library_fails _ c.in-Err.e c.in-Err.ensures.err

pub returns-in-Err-tokens-clause-err : goal.returns-in-Err-tokens-clause-err
returns-in-Err-tokens-clause-err c = tokens_fail _ c.in-Err-tokens.e c.in-Err-tokens.ensures.err

pub returns-in-Err-parse-clause-err : goal.returns-in-Err-parse-clause-err
returns-in-Err-parse-clause-err c =
    let lexes = subst (λ ts. IsLexed c.in-Ok.library.names ts 1 (map (λ f. f.items) c.args.files.now) c.in-Ok-tokens.lexed) c.items.ensures c.in-Ok-tokens.ensures.ok in
    syntax_fails _ c.in-Ok.library c.in-Ok-tokens.lexed c.in-Err-parse.e c.in-Ok.ensures.ok lexes c.in-Err-parse.ensures.err

pub bare-requires : goal.bare-requires
bare-requires c =
    let lexes = subst (λ ts. IsLexed c.in-Ok.library.names ts 1 (map (λ f. f.items) c.args.files.now) c.in-Ok-tokens.lexed) c.items.ensures c.in-Ok-tokens.ensures.ok in
    goes_on _ c.in-Ok.library c.in-Ok-tokens.lexed c.in-Ok-parse.tree lexes c.in-Ok-parse.ensures.ok

pub returns-in-Ok-bare-clause-ok : goal.returns-in-Ok-bare-clause-ok
returns-in-Ok-bare-clause-ok c = record {
  library = c.in-Ok.library;
  lexed = c.in-Ok-tokens.lexed;
  tree = c.in-Ok-parse.tree;
  stands = c.in-Ok.ensures.ok;
  lexes = subst (λ ts. IsLexed c.in-Ok.library.names ts 1 (map (λ f. f.items) c.args.files.now) c.in-Ok-tokens.lexed) c.items.ensures c.in-Ok-tokens.ensures.ok;
  parses = c.in-Ok-parse.ensures.ok;
  expands = c.in-Ok-bare.ensures.ok;
}

pub returns-clause-err : goal.returns-clause-err
returns-clause-err c =
    let lexes = subst (λ ts. IsLexed c.in-Ok.library.names ts 1 (map (λ f. f.items) c.args.files.now) c.in-Ok-tokens.lexed) c.items.ensures c.in-Ok-tokens.ensures.ok in
    bindings_fail _ c.in-Ok.library c.in-Ok-tokens.lexed c.in-Ok-parse.tree c.in-Err-bare.e c.in-Ok.ensures.ok lexes c.in-Ok-parse.ensures.ok c.in-Err-bare.ensures.err
