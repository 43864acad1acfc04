-- Where the bytes behind the `(*` of a comment close it.
use Rattle.std.specs.Prelude.{ℕ, ◌+◌, ◌-◌, ◌&&◌, ◌==◌, List, [], ◌∷◌, Option, Some, None, if◌then◌else◌, option_map, slice_index}
use Rattle.sml_lexer.specs.declared.comment.Mark.{Mark}
use Rattle.sml_lexer.specs.declared.comment.Mark.TheVariants.{Open, Close, Neither}

unfoldable pub mark_at : List ℕ → Mark
mark_at s =
    if slice_index s 0 == 40 && slice_index s 1 == 42 then Open
    else (if slice_index s 0 == 42 && slice_index s 1 == 41 then Close else Neither)

abbrev pub shifted : ℕ → Option ℕ → Option ℕ
shifted n o = option_map (λ k. n + k) o

abbrev pub by_mark : Mark → Option ℕ → Option ℕ → Option ℕ → Option ℕ
by_mark Open opened closed neither = opened
by_mark Close opened closed neither = closed
by_mark Neither opened closed neither = neither

-- the length of what closes a comment and `depth` comments around it
abbrev pub close_at : ℕ → List ℕ → Option ℕ
close_at depth [] = None
close_at depth (c ∷ []) = None
close_at depth (c ∷ d ∷ s) =
    by_mark (mark_at (c ∷ d ∷ s))
    (shifted 2 (close_at (depth + 1) s))
    (if depth == 0 then Some 2 else shifted 2 (close_at (depth - 1) s))
    (shifted 1 (close_at depth (d ∷ s)))
