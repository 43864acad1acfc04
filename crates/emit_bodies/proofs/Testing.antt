-- Tests that are put one in front of the other.
use Rattle.std.proofs.Common.{◌≡◌, ℕ, suc, ◌+◌, ◌-◌, ◌<◌, ◌≤◌, List, ◌∷◌, ◌++◌, length, drop, sym, ap, ◌∙◌, arith}
use Rattle.std.specs.Prelude.{slice_index_or}
use Rattle.std.proofs.Math.Seq.{drop-cons}
use Rattle.std.proofs.lemmas.List.Sums.{sum_by-append}
use Rattle.rv_asm.specs.declared.item.Item.{Item}
use Rattle.rv_asm.specs.Item.{size, words}
use Rattle.placed_ir.specs.declared.home.Source.{Source}
use Rattle.placed_ir.specs.declared.test.Test.{Test}
use Rattle.emit_items.specs.declared.labels.Labels.{Labels}
use Rattle.emit_items.specs.Tests.{tested, all_tested}
use Rattle.emit_code.proofs.Loops.{append_assoc}

pub words_both : (xs ys : List Item) → words (xs ++ ys) ≡ words xs + words ys
words_both xs ys = sum_by-append size xs ys

pub test_before : (L : Labels) (s : Source) (tests : List Test) (n : ℕ) (d t : Test) (a after : ℕ) (old now new piece : List Item) → 0 < n → n ≤ length tests → now ≡ all_tested L s (drop n tests) after ++ old → t ≡ slice_index_or tests (n - 1) d →
    a ≡ after + (words now - words old) → piece ≡ tested L s t a → new ≡ piece ++ now → new ≡ all_tested L s (drop (n - 1) tests) after ++ old
test_before L s tests n d t a after old now new piece lt le h is so e p =
    let rest = all_tested L s (drop n tests) after in
    let last : n - 1 < length tests = omega (arith, lt, le) in
    let next : suc (n - 1) ≡ n = omega (arith, lt) in
    let sum : words now ≡ words rest + words old = ap words h ∙ words_both rest old in
    let far : a ≡ after + words rest = so ∙ omega (arith, sum) in
    let whole : drop (n - 1) tests ≡ t ∷ drop n tests = drop-cons tests (n - 1) d last ∙ ap (λ u. u ∷ drop (suc (n - 1)) tests) (sym is) ∙ ap (λ k. t ∷ drop k tests) next in
    p
    ∙ ap (λ xs. xs ++ now) e
    ∙ ap (λ k. tested L s t k ++ now) far
    ∙ ap (λ xs. tested L s t (after + words rest) ++ xs) h
    ∙ sym (append_assoc (tested L s t (after + words rest)) rest old)
    ∙ ap (λ ts. all_tested L s ts after ++ old) (sym whole)

-- what is put in front makes a text no shorter
pub still_enough : (b : ℕ) (piece now new : List Item) → b ≤ words now → new ≡ piece ++ now → b ≤ words new
still_enough b piece now new le p =
    let sum : words new ≡ words piece + words now = ap words p ∙ words_both piece now in
    omega (arith, le, sum)
