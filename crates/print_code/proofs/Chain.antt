-- words put one behind the other
use Rattle.std.proofs.Common.{◌≡◌, ℕ, ◌+◌, ◌<◌, List, [], ◌∷◌, ◌++◌, length, drop, get_or, refl, sym, ap, ◌∙◌, append_assoc, add-one, drop-cons}
use Rattle.rv_isa.specs.declared.word.Ins.{Ins}
use Rattle.std.specs.Int.{w32, to_le_bytes}
use Rattle.rv_isa.specs.Word.{word_of}
use Rattle.print_code.specs.Code.{bytes_of, piece_code, pieces_code}
use Rattle.print_code.specs.Code.{total}

pub chain2 : (o a b x y : List ℕ) → a ≡ o ++ x → b ≡ a ++ y → b ≡ o ++ (x ++ y)
chain2 o a b x y p q = q ∙ ap (λ (z : List ℕ). z ++ y) p ∙ append_assoc o x y

pub chain3 : (o a b c x y z : List ℕ) → a ≡ o ++ x → b ≡ a ++ y → c ≡ b ++ z → c ≡ o ++ (x ++ (y ++ z))
chain3 o a b c x y z p q r = chain2 o a c x (y ++ z) p (chain2 a b c y z q r)

pub chain6 : (o a b c d e f u v w x y z : List ℕ) → a ≡ o ++ u → b ≡ a ++ v → c ≡ b ++ w → d ≡ c ++ x → e ≡ d ++ y → f ≡ e ++ z → f ≡ o ++ (u ++ (v ++ (w ++ (x ++ (y ++ z)))))
chain6 o a b c d e f u v w x y z p q r s t k = chain3 o a b f u v (w ++ (x ++ (y ++ z))) p q (chain2 b c f w (x ++ (y ++ z)) r (chain3 c d e f x y z s t k))

bytes_of-append : (xs ys : List Ins) → bytes_of (xs ++ ys) ≡ bytes_of xs ++ bytes_of ys
bytes_of-append [] ys = refl
bytes_of-append (i ∷ xs) ys = ap (λ (z : List ℕ). to_le_bytes w32 (word_of i) ++ z) (bytes_of-append xs ys) ∙ sym (append_assoc (to_le_bytes w32 (word_of i)) (bytes_of xs) (bytes_of ys))

drop-split : (i : ℕ) (xs : List ℕ) → i < length xs → drop i xs ≡ get_or xs i 0 ∷ drop (i + 1) xs
drop-split i xs p = rw add-one (drop-cons xs i 0 p)

pub piece_more : (code code' full lengths : List ℕ) (i : ℕ) → i < length lengths → code' ≡ code ++ bytes_of (piece_code (get_or lengths i 0)) → code ++ bytes_of (pieces_code (drop i lengths)) ≡ full → code' ++ bytes_of (pieces_code (drop (i + 1) lengths)) ≡ full
piece_more code code' full lengths i p h k =
    let n = get_or lengths i 0 in
    let rest = drop (i + 1) lengths in
    let parts : bytes_of (pieces_code (drop i lengths)) ≡ bytes_of (piece_code n) ++ bytes_of (pieces_code rest) = ap (λ (z : List ℕ). bytes_of (pieces_code z)) (drop-split i lengths p) ∙ bytes_of-append (piece_code n) (pieces_code rest) in
    ap (λ (z : List ℕ). z ++ bytes_of (pieces_code rest)) h ∙ append_assoc code (bytes_of (piece_code n)) (bytes_of (pieces_code rest)) ∙ ap (λ (z : List ℕ). code ++ z) (sym parts) ∙ k

pub total-drop : (lengths : List ℕ) (i : ℕ) → i < length lengths → total (drop i lengths) ≡ get_or lengths i 0 + total (drop (i + 1) lengths)
total-drop lengths i p = ap total (drop-split i lengths p)
