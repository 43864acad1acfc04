use Rattle.std.proofs.Common.{◌≡◌, ◌||◌, ◌++◌, ◌∷◌, [], refl, sym, ap, ◌∙◌, subst, arith, List, ℕ, ◌+◌, false, drop, ltb}
use Rattle.sml_lexer.specs.declared.quoted.Item.{Item}
use Rattle.sml_lexer.specs.declared.quoted.Item.TheVariants.{Char, Gap, Control}
use Rattle.sml_lexer.specs.QuotedScan.{item_at}
use Rattle.sml_lexer.specs.QuotedRead.{IsRead}
use Rattle.sml_lexer.proofs.QuotedReadLemmas.{read_nothing, read_char, read_gap, read_control, part_room, closes_at, opens_at, unknown_at}
use Rattle.sml_lexer.proofs.quoted.read_quoted.Goals as goal

-- the item at the place
item : (bytes rest : List ℕ) (at : ℕ) (i : Item) → rest ≡ drop at bytes → i ≡ item_at rest → item_at (drop at bytes) ≡ i
item bytes rest at i e k = ap item_at (sym e) ∙ sym k

pub parts-init : goal.parts-init
parts-init c = subst (λ v. IsRead c.args.bytes.now 0 v false _) (sym c.new-value.ensures.items) (read_nothing c.args.bytes.now)

pub overflow_add-at : goal.overflow_add-at
overflow_add-at c =
    let b = part_room c.args.bytes.now c.parts.at c.parts.invariant.in_range (Char c.in-Char.code c.in-Char.len) (item c.args.bytes.now c.rest.result.now c.parts.at _ c.rest.ensures c.in-Char.ensures) refl in
    omega (arith, b.0)

pub parts-smaller-in-Char : goal.parts-smaller-in-Char
parts-smaller-in-Char c =
    let b = part_room c.args.bytes.now c.parts.at c.parts.invariant.in_range (Char c.in-Char.code c.in-Char.len) (item c.args.bytes.now c.rest.result.now c.parts.at _ c.rest.ensures c.in-Char.ensures) refl in
    omega (arith, b.0, b.1)

pub parts-preserved-in-Char : goal.parts-preserved-in-Char
parts-preserved-in-Char c =
    let r = read_char c.args.bytes.now c.parts.value.items c.parts.at c.parts.wide c.parts.stray c.parts.invariant c.in-Char.code c.in-Char.len (item c.args.bytes.now c.rest.result.now c.parts.at _ c.rest.ensures c.in-Char.ensures) in
    subst (λ w. IsRead c.args.bytes.now (c.parts.at + c.in-Char.len) c.push.new.self.items w c.parts.stray) (sym c.either-wide.ensures)
    (subst (λ v. IsRead c.args.bytes.now (c.parts.at + c.in-Char.len) v (c.parts.wide || ltb 255 c.in-Char.code) c.parts.stray)
    (sym (c.in_ok-push-in-Char.ensures.items ∙ ap (λ x. c.parts.value.items ++ x ∷ []) c.low_byte.ensures)) r)

pub overflow_add-at-in-Gap : goal.overflow_add-at-in-Gap
overflow_add-at-in-Gap c =
    let b = part_room c.args.bytes.now c.parts.at c.parts.invariant.in_range (Gap c.in-Gap.len) (item c.args.bytes.now c.rest.result.now c.parts.at _ c.rest.ensures c.in-Gap.ensures) refl in
    omega (arith, b.0)

pub parts-smaller-in-Gap : goal.parts-smaller-in-Gap
parts-smaller-in-Gap c =
    let b = part_room c.args.bytes.now c.parts.at c.parts.invariant.in_range (Gap c.in-Gap.len) (item c.args.bytes.now c.rest.result.now c.parts.at _ c.rest.ensures c.in-Gap.ensures) refl in
    omega (arith, b.0, b.1)

pub parts-preserved-in-Gap : goal.parts-preserved-in-Gap
parts-preserved-in-Gap c = read_gap _ _ _ _ _ c.parts.invariant c.in-Gap.len (item c.args.bytes.now c.rest.result.now c.parts.at _ c.rest.ensures c.in-Gap.ensures)

pub parts-smaller : goal.parts-smaller
parts-smaller c =
    let b = part_room c.args.bytes.now c.parts.at c.parts.invariant.in_range Control (item c.args.bytes.now c.rest.result.now c.parts.at _ c.rest.ensures c.in-Control.ensures) refl in
    omega (arith, b.0, b.1)

pub parts-preserved : goal.parts-preserved
parts-preserved c = subst (λ o. IsRead c.args.bytes.now (c.parts.at + 1) c.parts.value.items c.parts.wide o) (sym c.first_of-stray.ensures) (read_control _ _ _ _ _ c.parts.invariant (item c.args.bytes.now c.rest.result.now c.parts.at _ c.rest.ensures c.in-Control.ensures))

pub returns-in-Close-clause-ends : goal.returns-in-Close-clause-ends
returns-in-Close-clause-ends c = closes_at _ (item c.args.bytes.now c.rest.result.now c.parts.at _ c.rest.ensures c.in-Close.ensures)

pub returns-in-Open-clause-ends : goal.returns-in-Open-clause-ends
returns-in-Open-clause-ends c = opens_at _ (item c.args.bytes.now c.rest.result.now c.parts.at _ c.rest.ensures c.in-Open.ensures)

pub returns-in-Unknown-clause-ends : goal.returns-in-Unknown-clause-ends
returns-in-Unknown-clause-ends c = unknown_at _ (item c.args.bytes.now c.rest.result.now c.parts.at _ c.rest.ensures c.in-Unknown.ensures)
