use Rattle.std.proofs.Common.{◌≡◌, rules, ap, ◌∙◌}
use Rattle.std.specs.Prelude.{length}
use Rattle.sml_expansion.specs.Bindings.{exception_dec}
use Rattle.expand_types.proofs.ExceptionLemmas.{shown_each}
use Rattle.sml_derive.specs.Steps.{scope}
use Rattle.sml_derive.proofs.Schemas.{ok_so}
use Rattle.sml_derive.proofs.parts.exception_dec.Goals as goal

pub returns : goal.returns
returns c =
    let s = scope c.args.parsed.now c.args.walk.now in
    let m : c.len.result ≡ length c.in_ok-shown.shown.items = search rules in
    ok_so c.number.result _ _ (λ n e t k. record {
      walk = c.in_ok-shown.ensures.state t k;
      written = e ∙ m ∙ ap (λ l. length l) (c.in_ok-shown.ensures.shown t k) ∙ shown_each s c.args.place t c.args.walk.now.made;
    }) c.number.ensures
