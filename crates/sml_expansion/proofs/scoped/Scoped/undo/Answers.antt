use Rattle.std.proofs.Common.{rules, ◌≡◌, ◌∷◌, ◌++◌, [], ◌<◌, ◌≤◌, length, arith}
use Rattle.sml_expansion.proofs.ScopedLemmas.{stands_back, stands_within}
use Rattle.sml_expansion.proofs.scoped.Scoped.undo.Goals as goal

pub invariant_of-self : goal.invariant_of-self
invariant_of-self g c =
    let cut : c.self.inside.log.items ≡ c.pop.new.self.items ++ (c.in-Some.key, c.in-Some.field-0-1, c.in-Some.hides) ∷ [] = search rules in
    stands_back c.self.inside.meanings.items c.self.inside.log.items c.pop.new.self.items c.in-Some.key c.in-Some.field-0-1 c.in-Some.hides cut c.self.invariant

pub invariant_of-self-in_default-get_mut : goal.invariant_of-self-in_default-get_mut
invariant_of-self-in_default-get_mut g c =
    let cut : c.self.inside.log.items ≡ c.pop.new.self.items ++ (c.in-Some.key, c.in-Some.field-0-1, c.in-Some.hides) ∷ [] = search rules in
    let inside : c.in-Some.key < length c.self.inside.meanings.items = stands_within c.self.inside.meanings.items c.self.inside.log.items c.pop.new.self.items c.in-Some.key c.in-Some.field-0-1 c.in-Some.hides cut c.self.invariant in
    let outside : length c.self.inside.meanings.items ≤ c.in-Some.key = search rules in
    absurd (omega (arith, inside, outside))
