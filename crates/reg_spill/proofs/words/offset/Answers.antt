use Rattle.std.proofs.Common.{◌≡◌, suc, ◌+◌, ◌-◌, ◌<◌, ◌∙◌, map, drop, ap, sym, subst, arith}
use Rattle.placed_ir.specs.Arena.{offset_in}
use Rattle.place_laws.specs.Place.{maker_length}
use Rattle.reg_spill.proofs.Offsets.{offset_more, offset_here, offset_end}
use Rattle.reg_spill.proofs.words.offset.Goals as goal

pub loop-maker-preserved : goal.loop-maker-preserved
loop-maker-preserved c =
    let makers = c.args.makers.now in
    let i = c.loop-maker.maker-index in
    let m = c.maker-item.result in
    let pos : 0 < c.loop-maker.left = (let n = c.if-left-eq0.false in omega arith) in
    let sum : c.in_ok-total.total ≡ c.loop-maker.total + suc (maker_length m) = c.in_ok-total.ensures ∙ ap (λ n. c.loop-maker.total + n) c.in_ok-words.ensures in
    subst (λ t. t + offset_in (map maker_length (drop (i + 1) makers)) (c.loop-maker.left - 1) ≡ offset_in (map maker_length makers) c.args.k) (sym sum)
    (offset_more makers i _ m c.loop-maker.left c.loop-maker.total (offset_in (map maker_length makers) c.args.k) c.loop-maker-test.true c.maker-item.is pos c.loop-maker.invariant)

pub returns-then-left-eq0 : goal.returns-then-left-eq0
returns-then-left-eq0 c =
    offset_here (drop c.loop-maker.maker-index c.args.makers.now) c.loop-maker.left c.loop-maker.total (offset_in (map maker_length c.args.makers.now) c.args.k) c.if-left-eq0.true c.loop-maker.invariant

pub returns : goal.returns
returns c =
    offset_end c.args.makers.now c.loop-maker.maker-index c.loop-maker.left c.loop-maker.total (offset_in (map maker_length c.args.makers.now) c.args.k) c.loop-maker-test.false c.loop-maker.invariant
