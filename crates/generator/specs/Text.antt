-- The text of a program of a number and a size: so many functions, each of a form that is drawn, of which most call the one before.
use Rattle.std.specs.Prelude.{ℕ, zero, suc, ◌+◌, ◌-◌, ◌*◌, ◌/◌, ◌%◌, ◌^◌, List, [], ◌∷◌, ◌++◌, codes}
use Rattle.std.specs.Fmt.{decimal}
use Rattle.generator.specs.declared.form.Form.{Form}
use Rattle.generator.specs.declared.form.Form.TheVariants as form

-- ---- What is drawn

-- the number behind one
abbrev pub next : ℕ → ℕ
next x = (6364136223846793005 * x + 1442695040888963407) % 2 ^ 64

-- its upper half
abbrev pub draw : ℕ → ℕ
draw x = x / 2 ^ 32

-- by the rest of a division by 4
abbrev pub form_by : ℕ → Form
form_by zero = form.Adds
form_by (suc zero) = form.Calls
form_by (suc (suc zero)) = form.Folds
form_by _ = form.Handles

-- the form of a function; the first one adds
abbrev pub form_of : ℕ → ℕ → Form
form_of zero d = form.Adds
form_of (suc i) d = form_by (d % 4)

-- what is added
abbrev pub addend : ℕ → ℕ
addend d = d / 4 % 1000

-- ---- Lines

-- two long pieces under names, so that what is proved of lines doesn't spell them
unfoldable pub fold_head : List ℕ
fold_head = codes "foldl (fn (a, b) => (a + b) mod 1000000) (f"

unfoldable pub print_head : List ℕ
print_head = codes "val _ = print (Int.toString (f"

abbrev pub newline : List ℕ
newline = 10 ∷ []

-- `fun fI x = `
abbrev pub head : ℕ → List ℕ
head i = codes "fun f" ++ decimal i ++ codes " x = "

abbrev pub form_text : Form → ℕ → ℕ → List ℕ
form_text form.Adds j m = codes "(x + " ++ decimal m ++ codes ") mod 1000000"
form_text form.Calls j m = codes "f" ++ decimal j ++ codes " (x + " ++ decimal m ++ codes ") mod 1000000"
form_text form.Folds j m = fold_head ++ decimal j ++ codes " x) [x, " ++ decimal m ++ codes ", x + " ++ decimal m ++ codes "]"
form_text form.Handles j m = codes "(case f" ++ decimal j ++ codes " x of 0 => raise Fail \"0\" | y => y + " ++ decimal m ++ codes ") handle Fail _ => " ++ decimal m

-- the function of number i, where d is drawn
abbrev pub line : ℕ → ℕ → List ℕ
line i d = head i ++ form_text (form_of i d) (i - 1) (addend d) ++ newline

-- the last function is applied to 7
abbrev pub last_line : ℕ → List ℕ
last_line i = print_head ++ decimal i ++ codes " 7) ^ \"\\n\")" ++ newline

-- ---- The whole

-- so many functions from number i on, where x was drawn before
abbrev pub lines : ℕ → ℕ → ℕ → List ℕ
lines zero i x = last_line (i - 1)
lines (suc k) i x = line i (draw (next x)) ++ lines k (suc i) (next x)

abbrev pub program_text : ℕ → ℕ → List ℕ
program_text number size = lines size 0 number
