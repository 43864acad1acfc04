use Rattle.std.proofs.Common.{◌≡◌, ◌<◌, ◌≤◌, [], ◌∷◌, ◌++◌, length, drop, get_or, rules, subst}
use Rattle.sml_expansion.specs.Makings.{Runs, new_tyvar}
use Rattle.std.proofs.lemmas.List.{drop_all}
use Rattle.expand_types.proofs.TyvarLemmas.{one_more, all_made}
use Rattle.expand_types.proofs.type_variables.new_tyvars.Goals as goal

pub loop-key-preserved : goal.loop-key-preserved
loop-key-preserved c =
    let keys = c.args.keys.now in
    let inside : c.loop-key.key-index < length keys = search rules in
    let is : c.push.new.self.items ≡ c.loop-key.vars.items ++ (get_or keys c.loop-key.key-index 0, c.in_ok-number.number) ∷ [] = search rules in
    one_more c.args.parsed.now.names keys c.args.made.now c.loop-key.key-index c.in_ok-number.number _ _ c.loop-key.vars.items _ inside c.loop-key.invariant (subst (λ q. Runs (new_tyvar q) c.loop-key.made c.in_ok-number.number c.new_tyvar.new.self) c.text.ensures c.in_ok-number.ensures) is

pub returns : goal.returns
returns c =
    let keys = c.args.keys.now in
    let out : length keys ≤ c.loop-key.key-index = search rules in
    let none : drop c.loop-key.key-index keys ≡ [] = drop_all c.loop-key.key-index keys out in
    all_made c.args.parsed.now.names keys c.args.made.now c.loop-key.key-index _ _ none c.loop-key.invariant
