use Rattle.std.proofs.Common.{◌≡◌, ◌||◌, ◌++◌, ℕ, drop, take, map}
use Rattle.sml_expansion.specs.TypeVariables.{once, stands}
use Rattle.expand_types.proofs.type_variables.push_each_once.Given as goal

abbrev pub invariant-loop-key : goal.invariant-loop-key
invariant-loop-key l = (l.keys.items ++ once (map (λ v. v.0) l.seen) (drop l.key-index l.more) ≡ l.fn.keys.items ++ once (map (λ v. v.0) l.fn.seen) l.more)
    × ((x : ℕ) → stands (map (λ v. v.0) l.seen) x ≡ (stands (take l.key-index l.more) x || stands (map (λ v. v.0) l.fn.seen) x))
