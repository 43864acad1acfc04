use Rattle.std.proofs.Common.{◌≡◌, ◌<◌, ℕ, List, length, map, sym, ap, subst, ◌∙◌}
use Rattle.std.specs.Prelude.{All}
use Rattle.std.proofs.lemmas.Result.{IfOk-weaker}
use Rattle.smlc_base.specs.declared.names.Name.{Name}
use Rattle.text_laws.specs.Tells.{shown_names}
use Rattle.smlc_top.proofs.Named.{names_stand}
use Rattle.smlc_top.proofs.Telling.{all_there, tells}
use Rattle.smlc_top.proofs.types.text_of.Goals as goal

pub lines-requires : goal.lines-requires
lines-requires c =
    let p = c.args.typed.now.bare in
    let names : c.deref-2.result.now ≡ map (λ x. record { 0 = x }) (shown_names p) =
    c.deref-2.ensures.value ∙ c.in_ok-names.ensures ∙ ap (λ (xs : List ℕ). map (λ x. record { 0 = x }) xs) (c.deref.ensures.value ∙ c.in_ok-numbers.ensures) in
    subst (λ (ns : List Name). All (λ (name : Name). name.0 < length c.args.typed.now.schemes) ns) (sym names) (all_there p (length c.args.typed.now.schemes) (shown_names p) c.args.typed.now.complete (names_stand p c.requires.bare))

pub returns : goal.returns
returns c =
    let typed = c.args.typed.now in
    let names : c.deref-2.result.now ≡ map (λ x. record { 0 = x }) (shown_names typed.bare) =
    c.deref-2.ensures.value ∙ c.in_ok-names.ensures ∙ ap (λ (xs : List ℕ). map (λ x. record { 0 = x }) xs) (c.deref.ensures.value ∙ c.in_ok-numbers.ensures) in
    IfOk-weaker c.lines.result _ _ (λ text h. tells typed c.requires.inferred typed.complete c.requires.bare c.forms.ensures.kept c.deref-2.result.now text.items names h) c.lines.ensures
