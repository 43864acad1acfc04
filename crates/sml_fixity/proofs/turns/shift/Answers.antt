use Rattle.std.proofs.Common.{rules, ap, reverse, ◌≡◌, []}
use Rattle.sml_fixity.proofs.TurnLemmas.{popped, acts_none, none_left}
use Rattle.sml_fixity.proofs.turns.shift.Goals as goal

pub loop-symbol-preserved : goal.loop-symbol-preserved
loop-symbol-preserved c =
    let (f, r, a, e, h) = c.loop-symbol.invariant.here in
    record {
      here = (f, r, a, e, (acts_none f _ r a _ _ _ _ _ _ (popped _ _ _ c.in-Some.ensures.items) h (λ k. c.in_ok-act.ensures f r a e k) c.in-None.is).0);
      goes = λ f r a e h. (acts_none f _ r a _ _ _ _ _ _ (popped _ _ _ c.in-Some.ensures.items) (c.loop-symbol.invariant.goes f r a e h) (λ k. c.in_ok-act.ensures f r a e k) c.in-None.is).0;
    }

pub loop-symbol-smaller : goal.loop-symbol-smaller
loop-symbol-smaller c = let (f, r, a, e, h) = c.loop-symbol.invariant.here in (acts_none f _ r a _ _ _ _ _ _ (popped _ _ _ c.in-Some.ensures.items) h (λ k. c.in_ok-act.ensures f r a e k) c.in-None.is).1

pub returns : goal.returns
returns c = λ f r a e h. let empty : c.loop-symbol.machine.stack.items ≡ [] = search rules in none_left f _ r a _ _ _ (ap reverse empty) (c.loop-symbol.invariant.goes f r a e h)
