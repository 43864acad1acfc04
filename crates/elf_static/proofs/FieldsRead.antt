-- Fields that were written are read.
use Rattle.std.proofs.Common.{◌≡◌, ℕ, suc, ◌+◌, List, [], ◌∷◌, ◌++◌, length, take, drop, refl, sym, ap, subst, ◌∙◌, append_assoc, arith, length-append}
use Rattle.std.proofs.lemmas.List.Concat.{flat_map-cons}
use Rattle.byteorder.specs.Endian.{little_from}
use Rattle.byteorder.specs.Numbers.{little_number-reads_back}
use Rattle.elf_static.specs.declared.fields.Field.{Field}
use Rattle.elf_static.specs.declared.fields.Field.TheVariants.{Half, Word, Double}
use Rattle.elf_static.specs.Numbers.{number, piece, table}
use Rattle.elf_static.specs.Writing.{field_bytes, FieldFits, FieldsFit, fields}

-- ---- pieces

pub drop_front : (front rest : List ℕ) (at : ℕ) → drop (length front + at) (front ++ rest) ≡ drop at rest
drop_front [] rest at = let e : 0 + at ≡ at = omega arith in ap (λ n. drop n rest) e
drop_front (x ∷ front) rest at =
    let e : suc (length front) + at ≡ suc (length front + at) = omega arith in
    ap (λ n. drop n (x ∷ front ++ rest)) e ∙ drop_front front rest at

pub drop_all : (front rest : List ℕ) → drop (length front) (front ++ rest) ≡ rest
drop_all [] rest = refl
drop_all (x ∷ front) rest = drop_all front rest

pub take_front : (front rest : List ℕ) → take (length front) (front ++ rest) ≡ front
take_front [] rest = refl
take_front (x ∷ front) rest = ap (λ (xs : List ℕ). x ∷ xs) (take_front front rest)

-- what stands behind a front is the piece there
pub piece_at : (front middle rest : List ℕ) → piece (length front) (length middle) (front ++ (middle ++ rest)) ≡ middle
piece_at front middle rest = ap (take (length middle)) (drop_all front (middle ++ rest)) ∙ take_front middle rest

-- ---- fields

abbrev pub width : Field → ℕ
width (Half n) = 2
width (Word n) = 4
width (Double n) = 8

abbrev pub value : Field → ℕ
value (Half n) = n
value (Word n) = n
value (Double n) = n

number_here : (f : Field) (rest : List ℕ) → FieldFits f → number (width f) 0 (field_bytes f ++ rest) ≡ value f
unfolding number
number_here (Half n) rest fits = little_number-reads_back 2 n rest fits
number_here (Word n) rest fits = little_number-reads_back 4 n rest fits
number_here (Double n) rest fits = little_number-reads_back 8 n rest fits

number_behind : (n : ℕ) (front rest : List ℕ) → number n (length front) (front ++ rest) ≡ number n 0 rest
unfolding number
number_behind n front rest = ap (λ xs. little_from 0 n xs) (drop_all front rest)

length-field : (f : Field) → length (field_bytes f) ≡ width f
length-field (Half n) = refl
length-field (Word n) = refl
length-field (Double n) = refl

-- from a place on the fields' values stand one behind the other
abbrev pub AreRead : ℕ → List Field → List ℕ → Type 0
AreRead at [] bytes = Unit {0}
AreRead at (f ∷ fs) bytes = (number (width f) at bytes ≡ value f) × AreRead (at + width f) fs bytes

go_on : (fs : List Field) (front rest : List ℕ) (at : ℕ) → at ≡ length front → FieldsFit fs → AreRead at fs (front ++ (fields fs ++ rest))
go_on [] front rest at e fits = tt
go_on (f ∷ fs) front rest at e fits =
    let parts : fields (f ∷ fs) ++ rest ≡ field_bytes f ++ (fields fs ++ rest) = ap (λ (xs : List ℕ). xs ++ rest) (flat_map-cons field_bytes f fs) ∙ append_assoc (field_bytes f) (fields fs) rest in
    let here : number (width f) at (front ++ (field_bytes f ++ (fields fs ++ rest))) ≡ value f =
    ap (λ n. number (width f) n (front ++ (field_bytes f ++ (fields fs ++ rest)))) e ∙ number_behind (width f) front (field_bytes f ++ (fields fs ++ rest)) ∙ number_here f (fields fs ++ rest) fits.0 in
    let joined = length-append front (field_bytes f) in
    let place : at + width f ≡ length (front ++ field_bytes f) = omega (arith, joined, length-field f) in
    let behind : AreRead (at + width f) fs ((front ++ field_bytes f) ++ (fields fs ++ rest)) = go_on fs (front ++ field_bytes f) rest (at + width f) place fits.1 in
    subst (AreRead at (f ∷ fs)) (ap (λ (xs : List ℕ). front ++ xs) (sym parts))
    (here, subst (AreRead (at + width f) fs) (append_assoc front (field_bytes f) (fields fs ++ rest)) behind)

-- what was written is read, behind any front
pub are_read : (fs : List Field) (front rest : List ℕ) → FieldsFit fs → AreRead (length front) fs (front ++ (fields fs ++ rest))
are_read fs front rest fits = go_on fs front rest (length front) refl fits

-- ---- tables

-- a table whose first record is written has it first
pub table_step : {R : Type 0} (meaning : List ℕ → R) (size count : ℕ) (first rest : List ℕ) → length first ≡ size → table meaning size (suc count) (first ++ rest) ≡ meaning (first ++ rest) ∷ table meaning size count rest
table_step {R} meaning size count first rest e =
    let behind : drop size (first ++ rest) ≡ rest = ap (λ n. drop n (first ++ rest)) (sym e) ∙ drop_all first rest in
    ap (λ xs. meaning (first ++ rest) ∷ table meaning size count xs) behind
