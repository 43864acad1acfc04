use Rattle.std.proofs.Common.{◌-◌, length}
use Rattle.sml_lexer.proofs.DraftLemmas.{IsDrafted}
use Rattle.sml_lexer.proofs.draft.file_tokens.Given as goal

abbrev pub invariant-steps : goal.invariant-steps
invariant-steps l = IsDrafted l.file l.bytes l.at l.place l.fn.draft l.draft

abbrev pub decreases-steps : goal.decreases-steps
decreases-steps l = length l.bytes - l.at
