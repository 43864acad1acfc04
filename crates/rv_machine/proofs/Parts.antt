-- what an operation does, by its value, its test, or the rest
use Rattle.std.proofs.Common.{◌≡◌, ℕ, Some, None, Bool, refl, ap, ◌∙◌}
use Rattle.rv_isa.specs.declared.table.Op.{Op}
use Rattle.rv_isa.specs.declared.table.Op.TheVariants.{Beq, Bne, Blt, Bge, Bltu, Bgeu}
use Rattle.rv_machine.specs.State.{State}
use Rattle.rv_machine.specs.Step.{writes, branches, value_by, test_by, rest_by, done_in, done_by}

pub done_value : (op : Op) (rd a b n v : ℕ) (s : State) → value_by op a b n s.pc ≡ Some v → done_by op rd a b n s ≡ writes rd v s
unfolding done_by
done_value op rd a b n v s e = ap (λ o. done_in o (test_by op a b) (rest_by op rd a b n s) rd n s) e

-- a branch writes no register
test_alone : (op : Op) (a b n pc : ℕ) (t : Bool) → test_by op a b ≡ Some t → value_by op a b n pc ≡ None
unfolding test_by value_by
test_alone Beq a b n pc t e = refl
test_alone Bne a b n pc t e = refl
test_alone Blt a b n pc t e = refl
test_alone Bge a b n pc t e = refl
test_alone Bltu a b n pc t e = refl
test_alone Bgeu a b n pc t e = refl
test_alone _ a b n pc t e = absurd (cc)

pub done_test : (op : Op) (rd a b n : ℕ) (t : Bool) (s : State) → test_by op a b ≡ Some t → done_by op rd a b n s ≡ branches t n s
unfolding done_by
done_test op rd a b n t s e =
    ap (λ o. done_in o (test_by op a b) (rest_by op rd a b n s) rd n s) (test_alone op a b n s.pc t e) ∙ ap (λ o. done_in None o (rest_by op rd a b n s) rd n s) e

pub done_rest : (op : Op) (rd a b n : ℕ) (s : State) → value_by op a b n s.pc ≡ None → test_by op a b ≡ None → done_by op rd a b n s ≡ rest_by op rd a b n s
unfolding done_by
done_rest op rd a b n s e f =
    ap (λ o. done_in o (test_by op a b) (rest_by op rd a b n s) rd n s) e ∙ ap (λ o. done_in None o (rest_by op rd a b n s) rd n s) f
