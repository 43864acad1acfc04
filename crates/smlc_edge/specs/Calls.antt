-- Calls counted from 1, of which some are to fail.
use Rattle.std.specs.Prelude.{ℕ, ◌+◌, min, Bool, ◌&&◌, ◌==◌, nat_lt, nat_le, if◌then◌else◌}
use Rattle.std.specs.List.{list_any, list_all}
use Rattle.smlc_edge.specs.declared.calls.Calls.{Calls}
use Rattle.smlc_edge.specs.Edge.{last_count}

-- one more, up to the greatest count
abbrev pub raised : ℕ → ℕ
raised n = min (n + 1) last_count

-- the next call is to fail
abbrev pub is_listed : Calls → Bool
is_listed calls = nat_lt calls.made last_count && list_any (λ n. n == calls.made + 1) calls.failing.items

-- no call to come is to fail
abbrev pub is_clear : Calls → Bool
is_clear calls = list_all (λ n. nat_le n calls.made) calls.failing.items

-- after one more call
abbrev pub after_call : Calls → Calls
after_call calls = record calls { made = raised calls.made }

-- after one more call, that failed or not
abbrev pub after_answer : Bool → Calls → Calls
after_answer failed calls = record calls { made = raised calls.made; faults = if failed then raised calls.faults else calls.faults }
