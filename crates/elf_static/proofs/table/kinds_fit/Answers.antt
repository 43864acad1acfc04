use Rattle.std.proofs.Common.{◌≡◌, ◌+◌, ◌-◌, ◌<◌, ◌≤◌, ℕ, Bool, true, false, List, sym, ap, ◌∙◌, drop, arith, length-drop}
use Rattle.std.specs.Prelude.{nat_lt, ◌&&◌}
use Rattle.std.specs.List.{list_all}
use Rattle.std.proofs.lemmas.Bool.{le-ltb, lt-ltb}
use Rattle.elf_static.specs.Numbers.{table}
use Rattle.elf_static.specs.Table.{kind_number}
use Rattle.elf_static.proofs.Tables.{table_more}
use Rattle.elf_static.proofs.table.kinds_fit.Goals as goal

abbrev fit : ℕ → List ℕ → Bool
fit count rest = list_all (λ n. nat_lt n 5) (table kind_number 24 count rest)

-- the first of the rows left, and the others
opened : (count i : ℕ) (rest : List ℕ) (all : Bool) → i < count → fit (count - i) rest ≡ all → (nat_lt (kind_number rest) 5 && fit (count - (i + 1)) (drop 24 rest)) ≡ all
opened count i rest all h e = sym (ap (list_all (λ n. nat_lt n 5)) (table_more kind_number 24 count i rest h)) ∙ e

ends : (count i k : ℕ) (rest : List ℕ) (all : Bool) → i < count → k ≡ kind_number rest → 5 ≤ k → fit (count - i) rest ≡ all → false ≡ all
ends count i k rest all h is le e =
    let fails : nat_lt (kind_number rest) 5 ≡ false = le-ltb (kind_number rest) 5 (omega arith) in
    sym (ap (λ b. b && fit (count - (i + 1)) (drop 24 rest)) fails) ∙ opened count i rest all h e

goes_on : (count i k : ℕ) (rest : List ℕ) (all : Bool) → i < count → k ≡ kind_number rest → k < 5 → fit (count - i) rest ≡ all → fit (count - (i + 1)) (drop 24 rest) ≡ all
goes_on count i k rest all h is lt e =
    let passes : nat_lt (kind_number rest) 5 ≡ true = lt-ltb (kind_number rest) 5 (omega arith) in
    sym (ap (λ b. b && fit (count - (i + 1)) (drop 24 rest)) passes) ∙ opened count i rest all h e

pub returns-then-word_at-ge5 : goal.returns-then-word_at-ge5
returns-then-word_at-ge5 c = ends c.args.count c.loop.counter c.word_at.result c.loop.rest.now (fit c.args.count c.args.rows.now) c.loop-test.true c.word_at.ensures c.if-word_at-ge5.true c.loop.invariant.rest

pub loop-preserved : goal.loop-preserved
loop-preserved c =
    record {
      room = rw (c.split_at.ensures.back, length-drop) (omega arith);
      rest = rw c.split_at.ensures.back (goes_on c.args.count c.loop.counter c.word_at.result c.loop.rest.now (fit c.args.count c.args.rows.now) c.loop-test.true c.word_at.ensures c.if-word_at-ge5.false c.loop.invariant.rest);
    }
