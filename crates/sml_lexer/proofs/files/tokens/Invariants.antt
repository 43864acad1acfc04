use Rattle.std.proofs.Common.{◌+◌, ◌≤◌, length, take, map, vec_len}
use Rattle.sml_lexer.specs.Files.{total}
use Rattle.sml_lexer.specs.Shown.{Extends}
use Rattle.sml_lexer.proofs.FilesLemmas.{IsProgress, AreStored}
use Rattle.sml_lexer.proofs.files.tokens.Given as goal

abbrev pub invariant-loop-i : goal.invariant-loop-i
invariant-loop-i l = record {
  progress : IsProgress l.first (map (λ f. f.items) (take l.i l.files)) l.draft.names l.draft.texts.items l.draft.tokens.items l.end;
  stored : AreStored l.names l.texts (map (λ f. f.items) (take l.i l.files)) l.draft.names l.draft.texts.items l.draft.tokens.items;
  token_count : vec_len l.draft.tokens ≤ total (map (λ f. f.items) (take l.i l.files));
  more_names : Extends l.names l.draft.names;
  more_texts : Extends l.texts l.draft.texts.items;
  name_count : length l.draft.names ≤ 1073741824 + total (map (λ f. f.items) (take l.i l.files));
  text_count : vec_len l.draft.texts ≤ 1073741824 + total (map (λ f. f.items) (take l.i l.files));
}
