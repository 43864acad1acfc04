use Rattle.std.proofs.Common.{rules, ◌≡◌, ◌<◌, ◌≤◌, ◌+◌, [], length, drop, get_or, true, false}
use Rattle.std.proofs.lemmas.List.{drop_all}
use Rattle.sml_tree.specs.Width.{is_user}
use Rattle.sml_derive.proofs.Roots.{begun_places, one_place_less, user_place, no_user_place, one_off}
use Rattle.sml_derive.proofs.program.first_user_place.Goals as goal

pub loop-at-init : goal.loop-at-init
loop-at-init c = λ terms k. begun_places c.args.parsed.now terms c.args.decs.now k

pub returns-then-place-ne0 : goal.returns-then-place-ne0
returns-then-place-ne0 c = λ terms k.
    let more : c.loop-at.at-index < length c.args.decs.now = search rules in
    let user : is_user c.place-place.result ≡ true = search rules in
    user_place c.args.parsed.now terms (get_or c.args.decs.now c.loop-at.at-index 0) (drop c.loop-at.at-index c.args.decs.now) (drop (c.loop-at.at-index + 1) c.args.decs.now) c.place-place.result (one_off c.args.decs.now c.loop-at.at-index 0 more) (c.loop-at.invariant terms k) c.place-place.ensures user

pub loop-at-preserved : goal.loop-at-preserved
loop-at-preserved c = λ terms k.
    let more : c.loop-at.at-index < length c.args.decs.now = search rules in
    let user : is_user c.place-place.result ≡ false = search rules in
    one_place_less c.args.parsed.now terms (get_or c.args.decs.now c.loop-at.at-index 0) (drop c.loop-at.at-index c.args.decs.now) (drop (c.loop-at.at-index + 1) c.args.decs.now) c.place-place.result (one_off c.args.decs.now c.loop-at.at-index 0 more) (c.loop-at.invariant terms k) c.place-place.ensures user

pub returns : goal.returns
returns c = λ terms k.
    let over : length c.args.decs.now ≤ c.loop-at.at-index = search rules in
    let none : drop c.loop-at.at-index c.args.decs.now ≡ [] = drop_all c.loop-at.at-index c.args.decs.now over in
    no_user_place c.args.parsed.now terms (drop c.loop-at.at-index c.args.decs.now) none (c.loop-at.invariant terms k)
