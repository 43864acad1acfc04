-- Bodies of the answer, by number.
use Rattle.std.specs.Prelude.{ℕ, cond, List, [], ◌∷◌, ◌++◌, length, nat_lt, slice_set, get_or}
use Rattle.cps_ir.specs.declared.body.Bind.{Bind}
use Rattle.cps_ir.specs.declared.body.End.{End}
use Rattle.cps_ir.specs.declared.body.Body.{Body}
use Rattle.contract_rows.specs.Rows.{empty}

abbrev pub and_bind : Bind → Body → Body
and_bind b body = record { binds = body.binds ++ b ∷ []; end = body.end }

abbrev pub and_end : End → Body → Body
and_end e body = record { binds = body.binds; end = e }

abbrev pub with_bind : ℕ → Bind → List Body → List Body
with_bind slot b bodies = cond (nat_lt slot (length bodies)) (slice_set bodies slot (and_bind b (get_or bodies slot empty))) bodies

abbrev pub with_end : ℕ → End → List Body → List Body
with_end slot e bodies = cond (nat_lt slot (length bodies)) (slice_set bodies slot (and_end e (get_or bodies slot empty))) bodies
