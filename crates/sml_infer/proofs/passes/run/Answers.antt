use Rattle.std.proofs.Common.{arith, refl, sym, subst, ◌∙◌, ℕ, length}
use Rattle.infer_scopes.specs.Prefix.{IsPrefix}
use Rattle.sml_infer.specs.Going.{now}
use Rattle.sml_infer.proofs.PassFacts.{keeps_then, going_as}
use Rattle.sml_infer.proofs.passes.run.Goals as goal

pub go-requires-clause-numbered : goal.go-requires-clause-numbered
go-requires-clause-numbered c = c.requires.prefix.numbered

pub go-requires-clause-prefix : goal.go-requires-clause-prefix
go-requires-clause-prefix c = c.requires.prefix.prefix

pub go-requires-clause-good : goal.go-requires-clause-good
go-requires-clause-good c = c.requires.prefix.good

pub go-requires-clause-going : goal.go-requires-clause-going
go-requires-clause-going c =
    let w = c.args.work.now in
    going_as c.args.bare.now c.args.declared.now (now w) w.count 0 0 w.count w.done w.done refl (sym c.requires.done) (sym c.requires.done) c.requires.going

pub close_rest-requires-clause-numbered : goal.close_rest-requires-clause-numbered
close_rest-requires-clause-numbered c = c.requires.prefix.numbered

pub close_rest-requires-clause-prefix : goal.close_rest-requires-clause-prefix
close_rest-requires-clause-prefix c = subst (λ (n : ℕ). IsPrefix c.args.bare.now.nodes n) (sym c.go.ensures.count) c.requires.prefix.prefix

pub close_rest-requires-clause-within : goal.close_rest-requires-clause-within
close_rest-requires-clause-within c =
    let count = c.go.ensures.count in
    let end = c.requires.end in
    let within = c.requires.prefix.within in
    omega (arith, count, end, within)

pub close_rest-requires-clause-done : goal.close_rest-requires-clause-done
close_rest-requires-clause-done c = c.in-Ok.ensures.done ∙ sym c.go.ensures.count

pub close_rest-requires-clause-going : goal.close_rest-requires-clause-going
close_rest-requires-clause-going c =
    let first = c.args.work.now.count in
    let count = c.go.new.work.count in
    let same = sym c.go.ensures.count in
    going_as c.args.bare.now c.args.declared.now (now c.go.new.work) first first first count count count same same same c.in-Ok.ensures.going

pub returns-in-Ok-close_rest-clause-going : goal.returns-in-Ok-close_rest-clause-going
returns-in-Ok-close_rest-clause-going c =
    let first = c.args.work.now.count in
    let count = c.go.new.work.count in
    let same = c.go.ensures.count in
    going_as c.args.bare.now c.args.declared.now (now c.close_rest.new.work) count count c.args.end first first (length c.args.bare.now.nodes) same same c.requires.end c.in-Ok-close_rest.ensures.going

pub returns-in-Ok-close_rest-clause-kept : goal.returns-in-Ok-close_rest-clause-kept
returns-in-Ok-close_rest-clause-kept c = keeps_then (now c.args.work.now) (now c.go.new.work) (now c.close_rest.new.work) c.in-Ok.ensures.kept c.in-Ok-close_rest.ensures.kept
