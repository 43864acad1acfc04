use Rattle.std.proofs.Common.{◌≡◌, ◌++◌, flat_map, take}
use Rattle.close_laws.specs.Text.{user_text}
use Rattle.plan_text.proofs.lines.put_users.Given as goal

abbrev pub invariant-loop-user : goal.invariant-loop-user
invariant-loop-user l = l.line.items ≡ l.fn.line.items ++ flat_map user_text (take l.user-index l.users)
