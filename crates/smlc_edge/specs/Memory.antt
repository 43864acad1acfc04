-- What sources and sinks in memory show.
use Rattle.std.specs.Prelude.{ℕ, List, Bool, ◌||◌, not, nat_le}
use Rattle.smlc_edge.specs.declared.calls.Calls.{Calls}
use Rattle.smlc_edge.specs.Calls.{is_listed}

-- a source: the bytes that are left, and its calls
pub record Supply : Type 0 where
  pub left : List ℕ
  pub calls : Calls

-- a sink: the bytes that were taken, the room left for more, and its calls
pub record Intake : Type 0 where
  pub taken : List ℕ
  pub room : ℕ
  pub calls : Calls

-- a put fails where its number is listed, or the piece is longer than the room
abbrev pub fails_put : Intake → ℕ → Bool
fails_put sink size = is_listed sink.calls || not (nat_le size sink.room)
