-- A table of the variables of nodes, filled from the last node down.
use Rattle.std.proofs.Common.{◌≡◌, ℕ, suc, ◌<◌, ◌≤◌, List, [], Some, length, sym, ◌∙◌, subst, arith, length-set, ⊎_elim}
use Rattle.std.proofs.lemmas.Option.{unwrap_or-slice_get}
use Rattle.std.proofs.lemmas.List.{get_or-set_same, get_or-set_other}
use Rattle.std.proofs.lemmas.Bool.{cases_lt}
use Rattle.std.specs.Prelude.{slice_get, slice_set}
use Rattle.sml_tree.specs.declared.bare.Node.{Node}
use Rattle.sml_tree.specs.Sets.{row_at}
use Rattle.sml_tree.specs.BareParts.{node_parts, IsNumbered}
use Rattle.sml_tree.specs.Variables.{AreVariables}
use Rattle.sml_tree.specs.Free.{binds_of, binds, free_of, free}
use Rattle.sml_tree.proofs.Unfold.{all_map}
use Rattle.sml_tree.proofs.FreeParts.{binds_by_parts, free_by_parts, binds_unfold, free_unfold}

row_at-set_same : (rows : List (List ℕ)) (i : ℕ) (set : List ℕ) → i < length rows → row_at (slice_set rows i set) i ≡ set
row_at-set_same rows i set h = unwrap_or-slice_get (slice_set rows i set) i [] ∙ get_or-set_same rows i set [] h

row_at-set_other : (rows : List (List ℕ)) (i c : ℕ) (set : List ℕ) → i < c → row_at (slice_set rows i set) c ≡ row_at rows c
row_at-set_other rows i c set h =
    unwrap_or-slice_get (slice_set rows i set) c [] ∙ get_or-set_other rows i c set [] (omega arith) ∙ sym (unwrap_or-slice_get rows c [])

-- a fact of each number from i on
from_here : (P : ℕ → Type 0) (i : ℕ) → P i → ((c : ℕ) → suc i ≤ c → P c) → (c : ℕ) → i ≤ c → P c
from_here P i here above c h = ⊎_elim (above c) (λ le. let e : i ≡ c = omega arith in subst P e here) (cases_lt i c)

pub done_last : (nodes : List Node) (bound frees : List (List ℕ)) → length bound ≡ length nodes → length frees ≡ length nodes → AreVariables nodes (length nodes) bound frees
done_last nodes bound frees b f = record {
  bound_len = b;
  free_len = f;
  bound_at = λ c h g. absurd (omega arith);
  free_at = λ c h g. absurd (omega arith);
}

pub done_down : (nodes : List Node) → IsNumbered nodes → (i : ℕ) (n : Node) → slice_get nodes i ≡ Some n → i < length nodes → (bound frees : List (List ℕ)) → AreVariables nodes (suc i) bound frees → (b f : List ℕ) → b ≡ binds_of (row_at bound) n → f ≡ free_of (row_at (slice_set bound i b)) (row_at frees) n → AreVariables nodes i (slice_set bound i b) (slice_set frees i f)
done_down nodes numbered i n e lt bound frees done b f eb ef = record {
  bound_len = length-set bound i b ∙ done.bound_len;
  free_len = length-set frees i f ∙ done.free_len;
  bound_at = bound_now;
  free_at =
      from_here
      (λ c. c < length nodes → row_at (slice_set frees i f) c ≡ free nodes c)
      i
      (λ g. row_at-set_same frees i f (omega (arith, done.free_len)) ∙ ef ∙ free_by_parts (row_at (slice_set bound i b)) (binds nodes) (row_at frees) (free nodes) n (all_map (λ c h. (bound_now c (omega (arith, h.0)) h.1, done.free_at c h.0 h.1)) (node_parts n) (numbered i n e)) ∙ sym (free_unfold nodes numbered i n e))
      (λ c h g. row_at-set_other frees i c f h ∙ done.free_at c h g);
}
  where
    bound_now : (c : ℕ) → i ≤ c → c < length nodes → row_at (slice_set bound i b) c ≡ binds nodes c
    bound_now =
        from_here
        (λ c. c < length nodes → row_at (slice_set bound i b) c ≡ binds nodes c)
        i
        (λ g. row_at-set_same bound i b (omega (arith, done.bound_len)) ∙ eb ∙ binds_by_parts (row_at bound) (binds nodes) n (all_map (λ c h. done.bound_at c h.0 h.1) (node_parts n) (numbered i n e)) ∙ sym (binds_unfold nodes numbered i n e))
        (λ c h g. row_at-set_other bound i c b h ∙ done.bound_at c h g)
