-- The least of refusals: the first by place, then by number.
use Rattle.std.specs.Prelude.{Bool, ◌||◌, ◌&&◌, nat_lt, nat_eq, if◌then◌else◌, Option, Some, None}
use Rattle.smlc_base.specs.declared.place.Place.{Place}
use Rattle.smlc_base.specs.declared.refusal.Refusal.{Refusal}
use Rattle.smlc_base.specs.Refusals.{number_of, place_of}

abbrev pub place_before : Place → Place → Bool
place_before p q = nat_lt p.file q.file || (nat_eq p.file q.file && (nat_lt p.line q.line || (nat_eq p.line q.line && nat_lt p.col q.col)))

abbrev pub same_place : Place → Place → Bool
same_place p q = nat_eq p.file q.file && nat_eq p.line q.line && nat_eq p.col q.col

abbrev pub refusal_before : Refusal → Refusal → Bool
refusal_before r t = place_before (place_of r) (place_of t) || (same_place (place_of r) (place_of t) && nat_lt (number_of r) (number_of t))

-- the least so far, and one more
abbrev pub kept : Option Refusal → Refusal → Option Refusal
kept None r = Some r
kept (Some t) r = Some (if refusal_before r t then r else t)
