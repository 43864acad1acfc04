use Rattle.std.proofs.Common.{◌≡◌, ◌∙◌, ap, sym}
use Rattle.std.proofs.lemmas.Result.{IfOk-weaker}
use Rattle.cps_ir.specs.Program.{rules_of}
use Rattle.contract_round.specs.Round.{known, walk}
use Rattle.contract_known.specs.Known.{place_of, made_at}
use Rattle.contract_rules.specs.Rules.{rules_known, AreRulesLeft}
use Rattle.contract_rules.proofs.Law.{rules_are}
use Rattle.contract_rules.proofs.rules.rules_left.Goals as goal

pub returns : goal.returns
returns c =
    let texts = c.args.texts.now in
    let σ = place_of c.args.places.now in
    let τ = made_at c.args.blocks.now c.args.root in
    let a = c.args.atom in
    let rules = c.args.rules.now in
    let o = c.args.otherwise in
    record {
      is = c.left_of_rules.ensures;
      walk = IfOk-weaker c.left_of_rules.result (λ l. l ≡ rules_known texts σ τ a rules o) (λ l. AreRulesLeft texts σ τ a rules o l)
          (λ l e ι part. rules_are texts σ τ a ι part rules o ∙ sym (ap (λ k. rules_of (λ i. walk texts (known σ τ ι) (part i)) k.rules k.otherwise) e))
          c.left_of_rules.ensures;
    }
