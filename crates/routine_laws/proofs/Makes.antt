-- A routine that makes a block: a trip, an act that moves x8, and a trip.
use Rattle.std.proofs.Common.{◌≡◌, ℕ, suc, ◌+◌, ◌≤◌, Some}
use Rattle.std.specs.Prelude.{slice_get}
use Rattle.rv_isa.specs.declared.word.Ins.{Ins}
use Rattle.rv_acts.specs.Emitted.{Emitted}
use Rattle.rv_acts.specs.Fine.{Fine}
use Rattle.rv_acts.specs.Trip.{Trip}
use Rattle.rv_pieces.specs.Route.{Grows, by_trip, by_growth, Routes}
use Rattle.rv_acts.specs.Act.{Act}

pub record Makes (I : Emitted) (Q : ℕ → Type 0) (Made Goal : Fine → Type 0) (most : ℕ) (a : Fine) : Type 0 where
  pub mid : Fine
  pub next : Fine
  pub to : Fine
  pub m : ℕ
  pub n : ℕ
  pub few : m + suc n ≤ most
  pub front : Trip I Q m a mid
  pub ins : Ins
  pub code : slice_get I.code mid.at ≡ Some ins
  pub quiet : Q mid.at
  pub act : Act I ins mid next
  pub made : Made next
  pub back : Trip I Q n next to
  pub goal : Goal to

-- it is a route
pub makes_route : (I : Emitted) (Q : ℕ → Type 0) (Made Goal : Fine → Type 0) (most : ℕ) (a : Fine) → (r : Makes I Q Made Goal most a) → Grows I r.mid r.next → Routes I Q Goal most a
makes_route I Q Made Goal most a r g = record {
  to = r.to;
  count = r.m + suc r.n;
  few = r.few;
  route = by_growth r.m r.n r.ins a r.mid r.next r.to r.front r.code r.quiet r.act g (by_trip r.n r.next r.to r.back);
  goal = r.goal;
}
