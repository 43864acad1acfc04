use Rattle.std.proofs.Common.{◌≡◌, ◌+◌, length, map}
use Rattle.type_text.specs.Text.{are_from}
use Rattle.type_text.proofs.parts.is_tuple.Given as goal

abbrev pub invariant-fields : goal.invariant-fields
invariant-fields l = record {
  count : l.number + length l.left ≡ 1 + length l.fn.fields;
  left : are_from l.number (map (λ f. f.lab) l.left) ≡ are_from 1 (map (λ f. f.lab) l.fn.fields);
}

abbrev pub decreases-fields : goal.decreases-fields
decreases-fields l = length l.left
