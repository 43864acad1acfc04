use Rattle.std.proofs.Common.{◌≡◌, length, drop}
use Rattle.infer_parts.specs.Written.{in_order, put_in}
use Rattle.infer_parts.proofs.written.placed.Given as goal

abbrev pub invariant-fields : goal.invariant-fields
invariant-fields l =
    record {
      count : length l.made ≡ length l.fields;
      left : put_in (drop l.at l.fields) (drop l.at l.tys) l.made ≡ put_in l.fields l.tys (in_order l.fields l.tys);
    }
