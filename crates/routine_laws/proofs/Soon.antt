-- The instructions of routines, by the bytes that they go over.
use Rattle.std.proofs.Common.{ℕ, ◌+◌, ◌*◌, ◌/◌, ◌%◌, ◌≤◌, List, length, arith}
use Rattle.routine_laws.specs.Concat.{concat_most}
use Rattle.routine_laws.specs.Print.{print_most}
use Rattle.routine_laws.specs.Compare.{compare_most}
use Rattle.routine_laws.specs.Uncaught.{uncaught_most}

pub concat_soon : (us bs : List ℕ) → concat_most us bs ≤ 128 * (1 + (length us + length bs))
concat_soon us bs = soon (length us) (length bs)
  where
    soon : (m n : ℕ) → 36 + m / 8 * 8 + m % 8 * 7 + n * 7 ≤ 128 * (1 + (m + n))
    soon m n = omega arith

pub print_soon : (bs : List ℕ) → print_most bs ≤ 128 * (1 + length bs)
print_soon bs = omega arith

pub compare_soon : (us : List ℕ) → compare_most us ≤ 128 * (1 + length us)
compare_soon us = omega arith

pub uncaught_soon : (name : List ℕ) → uncaught_most name ≤ 128 * (2 + length name)
uncaught_soon name = omega arith
