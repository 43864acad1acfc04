use Rattle.std.proofs.Common.{rules, ◌≡◌, ◌∷◌, ◌++◌, [], ◌<◌, None, length, get_or, sym, ap, ◌∙◌, subst, arith}
use Rattle.std.proofs.lemmas.Grind.{common_steps}
use Rattle.sml_expansion.specs.Scoped.{Stands}
use Rattle.sml_expansion.proofs.ScopedLemmas.{stands_on, stands_longer}
use Rattle.sml_expansion.proofs.scoped.Scoped.bind.Goals as goal

pub invariant_of-self : goal.invariant_of-self
invariant_of-self g c = stands_longer c.self.inside.meanings.items _ c.self.inside.log.items _ c.make_room.ensures.longer.1 c.self.invariant

pub invariant_of-self-in_err-push : goal.invariant_of-self-in_err-push
invariant_of-self-in_err-push g c =
    let same : c.push.new.self.items ≡ c.self.inside.log.items = search rules in
    subst (Stands c.make_room.new.meanings.items) (sym same) (stands_longer c.self.inside.meanings.items _ c.self.inside.log.items _ c.make_room.ensures.longer.1 c.self.invariant)

pub invariant_of-self-2 : goal.invariant_of-self-2
invariant_of-self-2 g c =
    let room : c.args.key < length c.make_room.new.meanings.items = search rules in
    let hides : c.index-hides.result.now ≡ get_or c.make_room.new.meanings.items c.args.key None = grind (arith, common_steps) in
    let log : c.push.new.self.items ≡ c.self.inside.log.items ++ (c.args.key, c.args.meaning, c.index-hides.result.now) ∷ [] = search rules in
    subst (Stands _) (sym (log ∙ ap (λ h. c.self.inside.log.items ++ (c.args.key, c.args.meaning, h) ∷ []) hides)) (stands_on c.make_room.new.meanings.items c.self.inside.log.items c.args.key c.args.meaning room (stands_longer c.self.inside.meanings.items _ c.self.inside.log.items _ c.make_room.ensures.longer.1 c.self.invariant))
