-- Bytes written on a sink.
use Rattle.std.specs.Prelude.{ℕ, ◌≡◌, ◌⊎◌, List, ◌++◌, Option, Result, OnOk}
use Rattle.smlc_edge.specs.declared.edge.Failed.{Failed}
use Rattle.smlc_edge.specs.Edge.{Fails, Gains}

abbrev pub IsPrefix : List ℕ → List ℕ → Type 0
IsPrefix front text = (rest : List ℕ) × (text ≡ front ++ rest)

-- a prefix of the bytes was written, and all of them unless the sink failed
pub record Whole (bytes : List ℕ) (result : Result (Unit {0}) Failed) (taken taken' : Option (List ℕ)) : Type 0 where
  pub wrote : List ℕ
  pub gains : Gains taken taken' wrote
  pub front : IsPrefix wrote bytes
  pub all : OnOk result (wrote ≡ bytes)

-- A line was written and its status answered, or the sink failed, took a prefix of the line, and the status is 5.
pub record Said (line : List ℕ) (status result faults faults' : ℕ) (taken taken' : Option (List ℕ)) : Type 0 where
  pub wrote : List ℕ
  pub gains : Gains taken taken' wrote
  pub front : IsPrefix wrote line
  pub how : ((result ≡ status) × (wrote ≡ line) × (faults' ≡ faults)) ⊎ ((result ≡ 5) × Fails faults faults')
