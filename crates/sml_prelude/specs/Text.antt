-- The text of the library, line by line.
use Rattle.std.specs.Prelude.{ℕ, List, [], ◌∷◌, ◌++◌, codes}

-- the lines, each ended by a newline
abbrev pub lines : List (List ℕ) → List ℕ
lines [] = []
lines (line ∷ rest) = line ++ 10 ∷ lines rest

unfoldable pub library_text : List ℕ
library_text = lines (
    codes "fun not true = false | not false = true" ∷
    codes "fun ignore _ = ()" ∷
    codes "fun (f o g) x = f (g x)" ∷
    codes "fun x before () = x" ∷
    codes "fun null nil = true | null _ = false" ∷
    codes "fun hd nil = raise Empty | hd (x :: _) = x" ∷
    codes "fun tl nil = raise Empty | tl (_ :: t) = t" ∷
    codes "fun rev l = let fun r (nil, a) = a | r (x :: t, a) = r (t, x :: a) in r (l, nil) end" ∷
    codes "fun length l = let fun n (nil, i) = i | n (_ :: t, i) = n (t, i + 1) in n (l, 0) end" ∷
    codes "fun nil @ m = m | (x :: l) @ m = x :: (l @ m)" ∷
    codes "fun map f = let fun m nil = nil | m (x :: t) = f x :: m t in m end" ∷
    codes "fun app f = let fun a nil = () | a (x :: t) = (f x; a t) in a end" ∷
    codes "fun foldl f b nil = b | foldl f b (x :: t) = foldl f (f (x, b)) t" ∷
    codes "fun foldr f b nil = b | foldr f b (x :: t) = f (x, foldr f b t)" ∷
    codes "fun isSome NONE = false | isSome (SOME _) = true" ∷
    codes "fun valOf NONE = raise Option | valOf (SOME x) = x" ∷
    codes "fun getOpt (NONE, d) = d | getOpt (SOME x, _) = x" ∷
    codes "fun concat nil = \"\" | concat (s :: t) = s ^ concat t" ∷
    codes "fun explode s = let fun e (0, l) = l" ∷
    codes "      | e (i, l) = e (i - 1, String.sub (s, i - 1) :: l) in e (size s, nil) end" ∷
    codes "fun List.concat nil = nil | List.concat (x :: t) = x @ List.concat t" ∷
    codes "fun List.last nil = raise Empty | List.last (x :: nil) = x" ∷
    codes "  | List.last (_ :: t) = List.last t" ∷
    codes "fun List.nth (nil, _) = raise Subscript | List.nth (x :: _, 0) = x" ∷
    codes "  | List.nth (_ :: t, n) = List.nth (t, n - 1)" ∷
    codes "fun List.take (_, 0) = nil | List.take (nil, _) = raise Subscript" ∷
    codes "  | List.take (x :: t, n) = x :: List.take (t, n - 1)" ∷
    codes "fun List.drop (l, 0) = l | List.drop (nil, _) = raise Subscript" ∷
    codes "  | List.drop (_ :: t, n) = List.drop (t, n - 1)" ∷
    codes "fun List.filter f nil = nil" ∷
    codes "  | List.filter f (x :: t) = if f x then x :: List.filter f t else List.filter f t" ∷
    codes "fun List.exists f nil = false | List.exists f (x :: t) = f x orelse List.exists f t" ∷
    codes "fun List.all f nil = true | List.all f (x :: t) = f x andalso List.all f t" ∷
    codes "fun List.find f nil = NONE" ∷
    codes "  | List.find f (x :: t) = if f x then SOME x else List.find f t" ∷
    codes "fun List.tabulate (n, f) = if n < 0 then raise Size else" ∷
    codes "  let fun t i = if i < n then f i :: t (i + 1) else nil in t 0 end" ∷
    codes "fun Option.map f NONE = NONE | Option.map f (SOME x) = SOME (f x)" ∷
    codes "fun Int.min (a, b) = if a < b then a else b" ∷
    codes "fun Int.max (a, b) = if a < b then b else a" ∷
    codes "fun Int.compare (a, b) = if a < b then LESS else if b < a then GREATER else EQUAL" ∷
    codes "fun Char.isDigit c = ord c >= 48 andalso ord c <= 57" ∷
    codes "fun Char.isAlpha c = (ord c >= 65 andalso ord c <= 90)" ∷
    codes "  orelse (ord c >= 97 andalso ord c <= 122)" ∷
    codes "fun Char.isSpace c = ord c = 32 orelse (ord c >= 9 andalso ord c <= 13)" ∷
    codes "fun Int.toString n =" ∷
    codes "  let fun d (0, l) = l" ∷
    codes "        | d (m, l) = let val g = (10 - m mod 10) mod 10" ∷
    codes "                     in d ((m + g) div 10, chr (48 + g) :: l) end" ∷
    codes "  in if n = 0 then \"0\" else if n < 0 then implode (#\"~\" :: d (n, nil))" ∷
    codes "     else implode (d (0 - n, nil)) end" ∷
    codes "fun Int.fromString s =" ∷
    codes "  let val n = size s" ∷
    codes "      fun skip i = if i < n andalso Char.isSpace (String.sub (s, i))" ∷
    codes "                   then skip (i + 1) else i" ∷
    codes "      fun digit i = i < n andalso Char.isDigit (String.sub (s, i))" ∷
    codes "      fun num (i, a) = if digit i" ∷
    codes "        then num (i + 1, a * 10 - (ord (String.sub (s, i)) - 48)) else a" ∷
    codes "      fun from (i, neg) = if digit i" ∷
    codes "        then let val a = num (i, 0) in SOME (if neg then a else ~ a) end else NONE" ∷
    codes "      val i = skip 0" ∷
    codes "  in if i = n then NONE else case String.sub (s, i) of" ∷
    codes "       #\"~\" => from (i + 1, true) | #\"-\" => from (i + 1, true)" ∷
    codes "     | #\"+\" => from (i + 1, false) | _ => from (i, false) end" ∷
    codes "fun String.tokens f s =" ∷
    codes "  let fun add (nil, l) = l | add (w, l) = implode w :: l" ∷
    codes "      fun t (0, w, l) = add (w, l)" ∷
    codes "        | t (i, w, l) = let val c = String.sub (s, i - 1)" ∷
    codes "            in if f c then t (i - 1, nil, add (w, l)) else t (i - 1, c :: w, l) end" ∷
    codes "  in t (size s, nil, nil) end" ∷
    [])
