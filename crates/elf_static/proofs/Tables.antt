-- A loop that reads a table, record by record.
use Rattle.std.proofs.Common.{◌≡◌, ℕ, zero, suc, ◌+◌, ◌-◌, ◌*◌, ◌<◌, ◌≤◌, List, [], ◌∷◌, ◌++◌, length, drop, refl, sym, ap, subst, ◌∙◌, append_assoc, arith, length-drop}
use Rattle.std.proofs.Math.Nat.{mul-suc}
use Rattle.std.proofs.lemmas.List.{append-nil}
use Rattle.elf_static.specs.Numbers.{table}

one_less : (count i : ℕ) → i < count → (k : ℕ) × (count - i ≡ suc k) × (k ≡ count - (i + 1))
one_less count i h = (count - (i + 1), omega arith, refl)

module _ {R : Type 0} (meaning : List ℕ → R) (width : ℕ) where
  -- what a table's loop keeps: there is room for the rest, and what was read and the rest are the whole
  pub record Reads (left : ℕ) (rest : List ℕ) (front all : List R) : Type 0 where
    pub room : width * left ≤ length rest
    pub read : front ++ table meaning width left rest ≡ all

  one_more : (k : ℕ) (rest : List ℕ) (front all : List R) → Reads (suc k) rest front all → Reads k (drop width rest) (front ++ meaning rest ∷ []) all
  one_more k rest front all r =
      let room : width * suc k ≤ length rest = r.room in
      let wide : width * suc k ≡ width * k + width = mul-suc width k in
      record {
        room = rw length-drop (omega arith);
        read = append_assoc front (meaning rest ∷ []) (table meaning width k (drop width rest)) ∙ r.read;
      }

  pub Reads-more : (count i : ℕ) (rest : List ℕ) (front all : List R) → i < count → Reads (count - i) rest front all → Reads (count - (i + 1)) (drop width rest) (front ++ meaning rest ∷ []) all
  Reads-more count i rest front all h r =
      let k = one_less count i h in
      subst (λ n. Reads n (drop width rest) (front ++ meaning rest ∷ []) all) k.2 (one_more k.0 rest front all (subst (λ n. Reads n rest front all) k.1 r))

  pub width_fits : (count i : ℕ) (rest : List ℕ) (front all : List R) → i < count → Reads (count - i) rest front all → width ≤ length rest
  width_fits count i rest front all h r =
      let k = one_less count i h in
      let room : width * suc k.0 ≤ length rest = subst (λ n. width * n ≤ length rest) k.1 r.room in
      let wide : width * suc k.0 ≡ width * k.0 + width = mul-suc width k.0 in
      omega arith

  -- all was read
  pub Reads-none : (front all : List R) (count i : ℕ) (rest : List ℕ) → count ≤ i → Reads (count - i) rest front all → front ≡ all
  Reads-none front all count i rest h r =
      let e : count - i ≡ 0 = omega arith in
      let read : front ++ [] ≡ all = subst (λ n. front ++ table meaning width n rest ≡ all) e r.read in
      sym (append-nil front) ∙ read

-- a table with a record left begins with it
pub table_more : {R : Type 0} (meaning : List ℕ → R) (width count i : ℕ) (rest : List ℕ) → i < count → table meaning width (count - i) rest ≡ meaning rest ∷ table meaning width (count - (i + 1)) (drop width rest)
table_more meaning width count i rest h =
    let k = one_less count i h in
    let P : ℕ → Type 0 = λ n. table meaning width n rest ≡ meaning rest ∷ table meaning width (count - (i + 1)) (drop width rest) in
    let Q : ℕ → Type 0 = λ n. table meaning width (suc k.0) rest ≡ meaning rest ∷ table meaning width n (drop width rest) in
    subst P (sym k.1) (subst Q k.2 refl)

pub length-table : {R : Type 0} (meaning : List ℕ → R) (width count : ℕ) (bytes : List ℕ) → length (table meaning width count bytes) ≡ count
length-table meaning width zero bytes = refl
length-table meaning width (suc count) bytes = ap suc (length-table meaning width count (drop width bytes))
