-- The scan of a comment goes on over what is left.
use Rattle.std.proofs.Common.{◌≡◌, ◌≢◌, ℕ, ◌+◌, ◌-◌, ◌<◌, ◌≤◌, cond, eqb, List, [], ◌∷◌, Option, Some, None, length, drop, get_or, refl, sym, ap, ◌∙◌, arith}
use Rattle.std.proofs.lemmas.List.{drop_more, length-drop}
use Rattle.std.proofs.lemmas.Bool.{eq-eqb, ne_eqb, cond-true, cond-false}
use Rattle.sml_lexer.specs.declared.comment.Mark.{Mark}
use Rattle.sml_lexer.specs.declared.comment.Mark.TheVariants.{Open, Close, Neither}
use Rattle.sml_lexer.specs.CommentScan.{mark_at, shifted, by_mark, close_at}

pub shifted-shifted : (a b c : ℕ) (o : Option ℕ) → a + b ≡ c → shifted a (shifted b o) ≡ shifted c o
shifted-shifted a b c None e = refl
shifted-shifted a b c (Some k) e = ap (λ x. Some x) (omega arith)

module _ (bytes : List ℕ) (at depth : ℕ) (more : at + 1 < length bytes) where
  two : drop at bytes ≡ get_or bytes at 0 ∷ get_or bytes (at + 1) 0 ∷ drop (at + 2) bytes
  two =
      drop_more bytes at 0 (omega arith)
      ∙ ap (λ r. get_or bytes at 0 ∷ r) (drop_more bytes (at + 1) 0 more ∙ ap (λ k. get_or bytes (at + 1) 0 ∷ drop k bytes) (omega arith))

  step : close_at depth (drop at bytes) ≡ by_mark (mark_at (drop at bytes)) (shifted 2 (close_at (depth + 1) (drop (at + 2) bytes))) (cond (eqb depth 0) (Some 2) (shifted 2 (close_at (depth - 1) (drop (at + 2) bytes)))) (shifted 1 (close_at depth (drop (at + 1) bytes)))
  step =
      ap (close_at depth) two
      ∙ ap (λ m. by_mark m (shifted 2 (close_at (depth + 1) (drop (at + 2) bytes))) (cond (eqb depth 0) (Some 2) (shifted 2 (close_at (depth - 1) (drop (at + 2) bytes)))) (shifted 1 (close_at depth (get_or bytes (at + 1) 0 ∷ drop (at + 2) bytes)))) (ap mark_at (sym two))
      ∙ ap (λ r. by_mark (mark_at (drop at bytes)) (shifted 2 (close_at (depth + 1) (drop (at + 2) bytes))) (cond (eqb depth 0) (Some 2) (shifted 2 (close_at (depth - 1) (drop (at + 2) bytes)))) (shifted 1 (close_at depth r))) (sym (drop_more bytes (at + 1) 0 more ∙ ap (λ k. get_or bytes (at + 1) 0 ∷ drop k bytes) (omega arith)))

  by : (m : Mark) → mark_at (drop at bytes) ≡ m → shifted at (close_at depth (drop at bytes)) ≡ shifted at (by_mark m (shifted 2 (close_at (depth + 1) (drop (at + 2) bytes))) (cond (eqb depth 0) (Some 2) (shifted 2 (close_at (depth - 1) (drop (at + 2) bytes)))) (shifted 1 (close_at depth (drop (at + 1) bytes))))
  by m e = ap (shifted at) (step ∙ ap (λ m. by_mark m (shifted 2 (close_at (depth + 1) (drop (at + 2) bytes))) (cond (eqb depth 0) (Some 2) (shifted 2 (close_at (depth - 1) (drop (at + 2) bytes)))) (shifted 1 (close_at depth (drop (at + 1) bytes)))) e)

  pub left_opened : mark_at (drop at bytes) ≡ Open → shifted (at + 2) (close_at (depth + 1) (drop (at + 2) bytes)) ≡ shifted at (close_at depth (drop at bytes))
  left_opened e = sym (by Open e ∙ shifted-shifted at 2 (at + 2) _ refl)

  pub left_closed : mark_at (drop at bytes) ≡ Close → depth ≢ 0 → shifted (at + 2) (close_at (depth - 1) (drop (at + 2) bytes)) ≡ shifted at (close_at depth (drop at bytes))
  left_closed e h = sym (by Close e ∙ ap (shifted at) (cond-false _ _ _ (ne_eqb depth 0 h)) ∙ shifted-shifted at 2 (at + 2) _ refl)

  pub left_done : mark_at (drop at bytes) ≡ Close → depth ≡ 0 → Some (at + 2) ≡ shifted at (close_at depth (drop at bytes))
  left_done e h = sym (by Close e ∙ ap (shifted at) (cond-true _ _ _ (eq-eqb depth 0 h)))

  pub left_neither : mark_at (drop at bytes) ≡ Neither → shifted (at + 1) (close_at depth (drop (at + 1) bytes)) ≡ shifted at (close_at depth (drop at bytes))
  left_neither e = sym (by Neither e ∙ shifted-shifted at 1 (at + 1) _ refl)

pub left_none : (bytes : List ℕ) (at depth : ℕ) → length bytes ≤ at + 1 → None ≡ shifted at (close_at depth (drop at bytes))
left_none bytes at depth h = go (drop at bytes) (omega (arith, length-drop at bytes))
  where
    go : (s : List ℕ) → length s ≤ 1 → None ≡ shifted at (close_at depth s)
    go [] k = refl
    go (c ∷ []) k = refl
    go (c ∷ d ∷ s) k = absurd (omega arith)
