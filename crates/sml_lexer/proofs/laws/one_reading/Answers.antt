use Rattle.sml_lexer.proofs.FileLemmas.{tokens_unique, tokens_or_faults}
use Rattle.sml_lexer.proofs.RefusalLemmas.{refusal_one}
use Rattle.sml_lexer.proofs.LexedOnce.{lexed_once}
use Rattle.sml_lexer.proofs.laws.one_reading.Goals as goal

pub returns-clause-tokens : goal.returns-clause-tokens
returns-clause-tokens c = tokens_unique

pub returns-clause-faults : goal.returns-clause-faults
returns-clause-faults c = tokens_or_faults

pub returns-clause-refusals : goal.returns-clause-refusals
returns-clause-refusals c = refusal_one

pub returns-clause-lexed : goal.returns-clause-lexed
returns-clause-lexed c = lexed_once
