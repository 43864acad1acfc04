use Rattle.std.proofs.Common.{◌≡◌, ◌<◌, ◌∙◌, Some, true, false, length, sym, ap, arith}
use Rattle.std.specs.Prelude.{slice_get}
use Rattle.std.proofs.lemmas.Option.{slice_get-get_or}
use Rattle.sml_tree.specs.Width.{is_user_at}
use Rattle.print_code.specs.Reading.{declared_in}
use Rattle.print_code.proofs.Walks.{print_stands, library_stands, other_stands, declared_within}
use Rattle.print_code.proofs.plain.step_at.Goals as goal

pub returns-then-not-is_user_at : goal.returns-then-not-is_user_at
returns-then-not-is_user_at c =
    let e : declared_in (slice_get c.args.bare.now.nodes c.args.at) ≡ Some c.in-Some.parts = rw c.items.ensures at (sym c.in-Some.ensures) in
    let library : is_user_at (slice_get c.args.bare.now.places c.in-Some.parts.first) ≡ false = ap (λ ps. is_user_at (slice_get ps c.in-Some.parts.first)) (sym c.items-2.ensures) ∙ sym c.is_user_at.ensures ∙ c.if-not-is_user_at.true in
    library_stands c.args.bare.now c.requires.bare c.args.at c.requires.nest c.in-Some.parts e library

pub returns-in-Some-constant : goal.returns-in-Some-constant
returns-in-Some-constant c =
    let e : declared_in (slice_get c.args.bare.now.nodes c.args.at) ≡ Some c.in-Some.parts = rw c.items.ensures at (sym c.in-Some.ensures) in
    let user : is_user_at (slice_get c.args.bare.now.places c.in-Some.parts.first) ≡ true = ap (λ ps. is_user_at (slice_get ps c.in-Some.parts.first)) (sym c.items-2.ensures) ∙ sym c.is_user_at.ensures ∙ c.if-not-is_user_at.false in
    print_stands c.args.bare.now c.requires.bare c.args.at c.requires.nest c.in-Some.parts e c.in-Some-constant.text.now user c.in-Some-constant.ensures

pub returns-in-None : goal.returns-in-None
returns-in-None c =
    let e : declared_in (slice_get c.args.bare.now.nodes c.args.at) ≡ Some c.in-Some.parts = rw c.items.ensures at (sym c.in-Some.ensures) in
    let user : is_user_at (slice_get c.args.bare.now.places c.in-Some.parts.first) ≡ true = ap (λ ps. is_user_at (slice_get ps c.in-Some.parts.first)) (sym c.items-2.ensures) ∙ sym c.is_user_at.ensures ∙ c.if-not-is_user_at.false in
    let within = declared_within c.args.bare.now c.requires.bare c.args.at c.requires.nest c.in-Some.parts e in
    let long = c.requires.bare.places in
    let placed : c.in-Some.parts.first < length c.args.bare.now.places = omega (arith, within, long) in
    other_stands c.args.bare.now c.requires.bare c.args.at c.requires.nest c.in-Some.parts e _ user c.in-None.ensures (rw c.items-in-None.ensures (slice_get-get_or c.args.bare.now.places c.in-Some.parts.first _ placed))
