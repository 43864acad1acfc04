use Rattle.std.proofs.Common.{◌≡◌, ℕ, ◌+◌, ◌<◌, ◌≤◌, true, List, [], length, map, take, sym, ap, ◌∙◌, subst, arith, rules, vec_len, get_or}
use Rattle.std.proofs.lemmas.List.{take_all, append-nil}
use Rattle.smlc_base.specs.declared.refusal.CompileError.{CompileError}
use Rattle.smlc_base.specs.declared.refusal.CompileError.TheVariants as error
use Rattle.sml_lexer.specs.Drafts.{IsFileErr, IsFileOk}
use Rattle.sml_lexer.specs.Cited.{all_cited}
use Rattle.sml_lexer.specs.Shown.{Extends}
use Rattle.sml_lexer.proofs.DraftLemmas.{extends-trans}
use Rattle.sml_lexer.specs.Files.{total, limit, HasTokens, AreFiles, AreCut, end_of}
use Rattle.sml_lexer.specs.Stored.{AreCounted}
use Rattle.sml_lexer.specs.Programs.{IsRefused}
use Rattle.std.specs.List.{AllByRecursion}
use Rattle.sml_lexer.proofs.FilesLemmas.{IsProgress, AreStored, none_stored, more_stored, taken, total_more, total_part, have_tokens, no_progress, more_progress, accepted, files_cited, too_long_there, fault_there, count_there}
use Rattle.sml_lexer.proofs.files.tokens.Goals as goal

pub returns-in-Some-clause-err : goal.returns-in-Some-clause-err
returns-in-Some-clause-err c = let h = c.in-Some.ensures in too_long_there c.args.first (λ f. f.items) c.args.files.now c.in-Some.i h.0 h.1 h.2

pub loop-i-init : goal.loop-i-init
loop-i-init c = let d = c.in_ok-draft.ensures in record {
  progress = no_progress c.args.first _ _ _ d.tokens;
  stored = none_stored c.args.names.now c.args.texts.now _ _ _ d.names.0 d.texts.0 d.tokens;
  token_count = let h = ap length d.tokens in let n : vec_len c.in_ok-draft.draft.tokens ≡ length c.in_ok-draft.draft.tokens.items = search rules in omega (arith, h, n);
  more_names = ([], d.names.0 ∙ sym (append-nil _));
  more_texts = ([], d.texts.0 ∙ sym (append-nil _));
  name_count = let h = d.names.1 in omega (arith, h);
  text_count = let h = d.texts.1 in let n : vec_len c.in_ok-draft.draft.texts ≡ length c.in_ok-draft.draft.texts.items = search rules in omega (arith, h, n);
}

pub file_tokens-requires-clause-tokens : goal.file_tokens-requires-clause-tokens
file_tokens-requires-clause-tokens c =
    let t = total_part (λ f. f.items) c.args.files.now c.loop-i.i c.index-files-i.result c.loop-i-test.true c.index-files-i.is in
    let n = ap length c.as_slice.ensures.value in
    let i = c.loop-i.invariant.token_count in
    let small = c.in-None.ensures in
    omega (arith, t, n, i, small)

pub file_tokens-requires-clause-names : goal.file_tokens-requires-clause-names
file_tokens-requires-clause-names c =
    let t = total_part (λ f. f.items) c.args.files.now c.loop-i.i c.index-files-i.result c.loop-i-test.true c.index-files-i.is in
    let n = ap length c.as_slice.ensures.value in
    let i = c.loop-i.invariant.name_count in
    let small = c.in-None.ensures in
    omega (arith, t, n, i, small)

pub file_tokens-requires-clause-texts : goal.file_tokens-requires-clause-texts
file_tokens-requires-clause-texts c =
    let t = total_part (λ f. f.items) c.args.files.now c.loop-i.i c.index-files-i.result c.loop-i-test.true c.index-files-i.is in
    let n = ap length c.as_slice.ensures.value in
    let i = c.loop-i.invariant.text_count in
    let small = c.in-None.ensures in
    omega (arith, t, n, i, small)

refused : (n : ℕ) {V : Type 0} (f : V → List ℕ) (xs : List V) (i : ℕ) (x : V) → i < length xs → x ≡ get_or xs i x → total (map f xs) ≤ limit → AllByRecursion HasTokens (map f (take i xs)) → (e : CompileError) → IsFileErr (i + n) (f x) e → IsRefused n (map f xs) e
refused n f xs i x h k small all error.NoMemory g = tt
refused n f xs i x h k small all (error.Refused r) g = subst (λ r. IsRefused n (map f xs) (error.Refused r)) (sym g.2) (fault_there n f xs i x h k small all g.0 g.1)

pub returns-in-Err-clause-err : goal.returns-in-Err-clause-err
returns-in-Err-clause-err c =
    refused c.args.first (λ f. f.items) c.args.files.now c.loop-i.i c.index-files-i.result c.loop-i-test.true c.index-files-i.is c.in-None.ensures
    (have_tokens _ _ c.args.first _ _ c.loop-i.invariant.progress.are) c.in-Err.e
    (subst (λ b. IsFileErr (c.loop-i.i + c.args.first) b c.in-Err.e) c.as_slice.ensures.value c.in-Err.ensures.err)

pub loop-i-preserved : goal.loop-i-preserved
loop-i-preserved c =
    let x = c.index-files-i.result in
    let t = total_more (λ f. f.items) c.args.files.now c.loop-i.i x c.loop-i-test.true c.index-files-i.is in
    let n = ap length c.as_slice.ensures.value in
    let i = c.loop-i.invariant in
    let e = c.in-Ok.ensures in
    let ok = subst (λ b. IsFileOk (c.loop-i.i + c.args.first) b c.loop-i.draft c.file_tokens.new.draft c.in-Ok.place) c.as_slice.ensures.value e.ok in
    record {
      progress = subst (λ fs. IsProgress c.args.first fs c.file_tokens.new.draft.names c.file_tokens.new.draft.texts.items c.file_tokens.new.draft.tokens.items c.in-Ok.place)
          (sym (taken (λ f. f.items) c.args.files.now c.loop-i.i x c.loop-i-test.true c.index-files-i.is))
          (more_progress c.args.first _ _ _ _ _ _ ok.tokens _ _ i.progress e.names e.texts x.items (c.loop-i.i + c.args.first) (count_there c.args.first (λ f. f.items) c.args.files.now c.loop-i.i c.loop-i-test.true)
          ok.lexemes ok.are ok.shown ok.items _ ok.end_is);
      stored = subst (λ fs. AreStored c.args.names.now c.args.texts.now fs c.file_tokens.new.draft.names c.file_tokens.new.draft.texts.items c.file_tokens.new.draft.tokens.items)
          (sym (taken (λ f. f.items) c.args.files.now c.loop-i.i x c.loop-i-test.true c.index-files-i.is))
          (more_stored c.args.names.now c.args.texts.now _ _ _ _ i.stored x.items ok.lexemes ok.are _ _ ok.tokens _ ok.names_are ok.texts_are ok.counted ok.items);
      token_count = let a = i.token_count in let b = e.token_count in omega (arith, t, n, a, b);
      more_names = extends-trans _ _ _ i.more_names e.names;
      more_texts = extends-trans _ _ _ i.more_texts e.texts;
      name_count = let a = i.name_count in let b = e.name_count in omega (arith, t, n, a, b);
      text_count = let a = i.text_count in let b = e.text_count in omega (arith, t, n, a, b);
    }

pub invariant_of-result-clause-few : goal.invariant_of-result-clause-few
invariant_of-result-clause-few c =
    let all = ap (λ fs. total (map (λ f. f.items) fs)) (take_all c.loop-i.i c.args.files.now c.loop-i-test.false) in
    let i = c.loop-i.invariant.token_count in
    let small = c.in-None.ensures in
    let n : vec_len c.loop-i.draft.tokens ≡ length c.loop-i.draft.tokens.items = search rules in
    let k = ap length c.from_vec.ensures in
    omega (arith, all, i, small, n, k)

pub invariant_of-result-clause-cited : goal.invariant_of-result-clause-cited
invariant_of-result-clause-cited c =
    subst (λ ts. all_cited (length c.loop-i.draft.names) (length c.from_vec-2.result) ts ≡ true) (sym c.from_vec.ensures)
    (subst (λ xs. all_cited (length c.loop-i.draft.names) (length xs) c.loop-i.draft.tokens.items ≡ true) (sym c.from_vec-2.ensures)
    (files_cited _ _ c.args.first _ _ c.loop-i.invariant.progress.are))

pub returns-clause-ok : goal.returns-clause-ok
returns-clause-ok c =
    let p = c.loop-i.invariant.progress in
    let s = c.loop-i.invariant.stored in
    let all = ap (map (λ f. f.items)) (take_all c.loop-i.i c.args.files.now c.loop-i-test.false) in
    record {
      tokens = subst (λ fs. AreFiles c.loop-i.draft.names c.from_vec-2.result c.args.first fs c.from_vec.result) all
          (subst (λ ts. AreFiles c.loop-i.draft.names c.from_vec-2.result c.args.first (map (λ f. f.items) (take c.loop-i.i c.args.files.now)) ts) (sym c.from_vec.ensures)
          (subst (λ xs. AreFiles c.loop-i.draft.names xs c.args.first (map (λ f. f.items) (take c.loop-i.i c.args.files.now)) c.loop-i.draft.tokens.items) (sym c.from_vec-2.ensures) p.are));
      lexemes = s.lexemes;
      cut = subst (λ fs. AreCut fs s.lexemes) all s.cut;
      names_are = s.names_are;
      texts_are = c.from_vec-2.ensures ∙ s.texts_are;
      counted = subst (λ ts. AreCounted (length c.args.texts.now) ts (length c.from_vec-2.result)) (sym c.from_vec.ensures)
          (subst (λ xs. AreCounted (length c.args.texts.now) c.loop-i.draft.tokens.items (length xs)) (sym c.from_vec-2.ensures) s.counted);
      end = p.end_is ∙ ap (end_of (record { file = 0; line = 1; col = 1 }) c.args.first) all;
      more_names = c.loop-i.invariant.more_names;
      more_texts = subst (Extends c.args.texts.now) (sym c.from_vec-2.ensures) c.loop-i.invariant.more_texts;
      accepted = accepted c.args.first _ c.in-None.ensures (subst (AllByRecursion HasTokens) all (have_tokens _ _ c.args.first _ _ p.are));
    }
