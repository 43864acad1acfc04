use Rattle.std.proofs.Common.{◌≡◌, List, ap, sym, subst, ◌∙◌}
use Rattle.cps_ir.specs.Kept.{end_parts}
use Rattle.close_steps.specs.declared.environment.Environment.{Environment}
use Rattle.close_steps.specs.Visible.{Visible, visible}
use Rattle.close_bodies.specs.Bodies.{body_lowered, seen_at_end}
use Rattle.close_seen.specs.Seen.{put_all, seen_in}
use Rattle.close_all.specs.Begins.{begin_in, AllStand, all_visible}
use Rattle.close_all.proofs.Tables.{all_stand, same_visible, put_stand, put_visible, begin_visible}
use Rattle.close_all.proofs.all.close_next.Goals as goal

seen_first : (c : goal.After-put_end) → visible c.args.scopes.now c.begin-environment.result ≡ seen_in (all_visible c.args.scopes.now c.args.begins.now.items) c.args.number
seen_first c =
    ap (visible c.args.scopes.now) (c.begin-environment.ensures ∙ ap (λ (bs : List Environment). begin_in bs c.args.number) c.as_slice.ensures.value)
    ∙ begin_visible c.args.scopes.now c.args.begins.now.items c.args.number

pub returns-clause-stand : goal.returns-clause-stand
returns-clause-stand c =
    let done = c.in_ok-lowered.ensures in
    let new = c.lower_body.new.scopes in
    let begins = c.args.begins.now.items in
    subst (AllStand new) (sym c.put_end.ensures)
    (put_stand new begins (end_parts c.args.body.now.end) c.in_ok-lowered.lowered.environment (all_stand c.args.scopes.now new begins done.grown c.requires) (done.variables, done.records))

pub returns-clause-seen : goal.returns-clause-seen
returns-clause-seen c =
    let done = c.in_ok-lowered.ensures in
    let d = c.args.decisions.now in
    let old = c.args.scopes.now in
    let new = c.lower_body.new.scopes in
    let begins = c.args.begins.now.items in
    let parts = end_parts c.args.body.now.end in
    let e = c.in_ok-lowered.lowered.environment in
    ap (all_visible new) c.put_end.ensures ∙ put_visible new begins parts e
    ∙ ap (λ (vs : List Visible). put_all vs parts (visible new e)) (same_visible old new begins done.grown c.requires)
    ∙ ap (put_all (all_visible old begins) parts) (done.seen ∙ ap (λ v. seen_at_end d v c.args.body.now.binds) (seen_first c))

pub returns-clause-body : goal.returns-clause-body
returns-clause-body c =
    c.in_ok-lowered.ensures.body ∙ ap (λ v. body_lowered c.args.decisions.now v c.args.body.now) (seen_first c)
