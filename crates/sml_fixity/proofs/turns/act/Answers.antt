use Rattle.sml_fixity.proofs.TurnLemmas.{the_move, emit_turn, skip_turn, eat_turn}
use Rattle.syntax_laws.proofs.Derived.{refused, mixed}
use Rattle.sml_fixity.proofs.turns.act.Goals as goal

pub returns-in-Emit : goal.returns-in-Emit
returns-in-Emit c = λ f r a e h. emit_turn f _ r a _ _ c.in-Emit.node _ _ _ c.in-Emit.is c.in_ok-push.ensures.items h

pub returns-in-Refuse : goal.returns-in-Refuse
returns-in-Refuse c = λ f r a e h. refused h c.in_default.not-Emit (the_move _ _ _ a _ _ _ _ _ _ c.has_infix.ensures c.len.ensures e c.look-look.ensures c.move_at.ensures c.in-Refuse.is)

pub returns-in-Mixed : goal.returns-in-Mixed
returns-in-Mixed c = λ f r a e h. mixed h (the_move _ _ _ a _ _ _ _ _ _ c.has_infix.ensures c.len.ensures e c.look-look.ensures c.move_at.ensures c.in-Mixed.is)

pub returns-in_ok-put_all-in-Skip : goal.returns-in_ok-put_all-in-Skip
returns-in_ok-put_all-in-Skip c = λ f r a e h. skip_turn f _ r a _ _ c.in-Skip.push _ _ _ c.in_ok-put_all-in-Skip.ensures h (the_move _ _ _ a _ _ _ _ _ _ c.has_infix.ensures c.len.ensures e c.look-look.ensures c.move_at.ensures c.in-Skip.is)

pub returns-in_ok-put_all-in-Eat : goal.returns-in_ok-put_all-in-Eat
returns-in_ok-put_all-in-Eat c = λ f r a e h. eat_turn f _ _ r a _ _ c.in-Eat.push _ _ _ c.in_ok-put_all-in-Eat.ensures c.in_ok-redirect-in-Eat.ensures h (the_move _ _ _ a _ _ _ _ _ _ c.has_infix.ensures c.len.ensures e c.look-look.ensures c.move_at.ensures c.in-Eat.is)
