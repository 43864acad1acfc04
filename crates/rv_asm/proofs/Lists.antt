-- Programs and bytes put one behind the other.
use Rattle.std.proofs.Common.{◌≡◌, ℕ, zero, suc, ◌+◌, ◌*◌, ◌<◌, List, [], ◌∷◌, ◌++◌, length, get_or, take, drop, Option, Some, refl, ap, ◌∙◌, sym, arith, append_assoc, length-append}
use Rattle.std.specs.Int.{w32, to_le_bytes}
use Rattle.std.specs.Prelude.{slice_get}
use Rattle.std.proofs.lemmas.List.{take_more}
use Rattle.std.proofs.lemmas.List.Sums.{sum_by-cons, sum_by_more}
use Rattle.rv_isa.specs.declared.word.Ins.{Ins}
use Rattle.rv_isa.specs.Word.{word_of}
use Rattle.rv_asm.specs.declared.item.Item.{Item}
use Rattle.rv_asm.specs.declared.item.Item.TheVariants.{Plain, Jump, Address}
use Rattle.rv_asm.specs.Item.{size, words}
use Rattle.rv_asm.specs.Layout.{code_at, code_from, bytes_of}

pub bytes_of-append : (xs ys : List Ins) → bytes_of (xs ++ ys) ≡ bytes_of xs ++ bytes_of ys
bytes_of-append [] ys = refl
bytes_of-append (i ∷ xs) ys = ap (λ bs. to_le_bytes w32 (word_of i) ++ bs) (bytes_of-append xs ys) ∙ sym (append_assoc (to_le_bytes w32 (word_of i)) (bytes_of xs) (bytes_of ys))

pub length-bytes_of : (xs : List Ins) → length (bytes_of xs) ≡ 4 * length xs
length-bytes_of [] = refl
length-bytes_of (i ∷ xs) = omega (arith, length-append (to_le_bytes w32 (word_of i)) (bytes_of xs), length-bytes_of xs)

pub code_from-append : (places : List (Option ℕ)) (here : ℕ) (xs ys : List Item) → code_from places here (xs ++ ys) ≡ code_from places here xs ++ code_from places (here + words xs) ys
code_from-append places here [] ys = ap (λ n. code_from places n ys) (omega arith)
code_from-append places here (x ∷ xs) ys =
    let first = code_at places here x in
    let next = here + size x in
    let moved : next + words xs ≡ here + words (x ∷ xs) = omega (arith, sum_by-cons size x xs) in
    ap (λ rest. first ++ rest) (code_from-append places next xs ys) ∙ (sym (append_assoc first (code_from places next xs) (code_from places (next + words xs) ys)) ∙ ap (λ n. (first ++ code_from places next xs) ++ code_from places n ys) moved)

pub length-code_at : (places : List (Option ℕ)) (here : ℕ) (x : Item) → length (code_at places here x) ≡ size x
length-code_at places here (Plain i) = refl
length-code_at places here (Jump label) = refl
length-code_at places here (Address rd label) = refl

pub length-code_from : (places : List (Option ℕ)) (here : ℕ) (xs : List Item) → length (code_from places here xs) ≡ words xs
length-code_from places here [] = refl
length-code_from places here (x ∷ xs) = omega (arith, length-append (code_at places here x) (code_from places (here + size x) xs), length-code_at places here x, length-code_from places (here + size x) xs, sum_by-cons size x xs)

pub code_from-one : (places : List (Option ℕ)) (here : ℕ) (x : Item) → code_from places here (x ∷ []) ≡ code_at places here x
code_from-one places here (Plain i) = refl
code_from-one places here (Jump label) = refl
code_from-one places here (Address rd label) = refl

-- ---- one more item

pub counted_more : (items : List Item) (i : ℕ) (d : Item) (here more : ℕ) → i < length items → here ≡ words (take i items) → more ≡ size (get_or items i d) → here + more ≡ words (take (i + 1) items)
counted_more items i d here more h c e = omega (arith, sum_by_more size items i d h)

pub layout_more : (places : List (Option ℕ)) (items : List Item) (i : ℕ) (d : Item) (here : ℕ) (bytes more : List ℕ) → i < length items → here ≡ words (take i items) → bytes ≡ bytes_of (code_from places 0 (take i items)) → more ≡ bytes ++ bytes_of (code_at places here (get_or items i d)) → more ≡ bytes_of (code_from places 0 (take (i + 1) items))
layout_more places items i d here bytes more h c w e =
    let x = get_or items i d in
    let start : 0 + words (take i items) ≡ here = omega arith in
    let longer : code_from places 0 (take (i + 1) items) ≡ code_from places 0 (take i items) ++ code_at places here x =
    ap (code_from places 0) (take_more items i d h) ∙ (code_from-append places 0 (take i items) (x ∷ []) ∙ (ap (λ n. code_from places 0 (take i items) ++ code_from places n (x ∷ [])) start ∙ ap (λ xs. code_from places 0 (take i items) ++ xs) (code_from-one places here x))) in
    e ∙ (ap (λ bs. bs ++ bytes_of (code_at places here x)) w ∙ sym (ap bytes_of longer ∙ bytes_of-append (code_from places 0 (take i items)) (code_at places here x)))

-- an item of a list, with what is before and behind it
split : (items : List Item) (k : ℕ) (item : Item) → slice_get items k ≡ Some item → items ≡ take k items ++ item ∷ drop (suc k) items
split [] k item e = cc
split (x ∷ items) zero item e = let f : x ≡ item = cc in ap (λ y. y ∷ items) f
split (x ∷ items) (suc k) item e = ap (λ ys. x ∷ ys) (split items k item e)

pub code_around : (places : List (Option ℕ)) (items : List Item) (k : ℕ) (item : Item) → slice_get items k ≡ Some item → code_from places 0 items ≡ code_from places 0 (take k items) ++ (code_at places (words (take k items)) item ++ code_from places (words (take k items) + size item) (drop (suc k) items))
code_around places items k item e =
    let n = words (take k items) in
    let start : 0 + n ≡ n = omega arith in
    ap (code_from places 0) (split items k item e) ∙ (code_from-append places 0 (take k items) (item ∷ drop (suc k) items) ∙ ap (λ m. code_from places 0 (take k items) ++ code_from places m (item ∷ drop (suc k) items)) start)
