use Rattle.std.proofs.Common.{◌<◌, ◌++◌, None, sym, ap, ◌∙◌, length, List, refl, subst, ℕ}
use Rattle.std.specs.List.{AllByRecursion}
use Rattle.sml_types.specs.declared.tables.TypeName.{TypeName}
use Rattle.sml_types.specs.Equality.{choose, IsGreatest}
use Rattle.infer_parts.specs.Rounds.{AreArgumentsThere}
use Rattle.infer_tables.specs.declared.known.Known.{Known}
use Rattle.infer_tables.specs.Known.{IsScope}
use Rattle.infer_tables.specs.Group.{headers, AreDatRows, AreDatRowsOrNone}
use Rattle.infer_tables.proofs.GroupFacts.{headed, known_is, scope_headed}
use Rattle.infer_tables.proofs.GroupSteps.{group_below, group_arguments, group_added_as, group_refused}
use Rattle.infer_tables.proofs.RowFacts.{rows_behind}
use Rattle.infer_tables.proofs.group.add_group.Goals as goal

pub dat_rows-requires : goal.dat_rows-requires
dat_rows-requires c =
    let p = c.args.bare.now in
    let h = c.in_ok-known.ensures in
    record {
      scope =
          subst
          (IsScope p c.args.types.now)
          (sym (known_is c.in_ok-known.known (headed p c.args.bindings.now c.args.known) h.names h.others.0 h.others.1))
          (scope_headed p c.args.types.now c.args.known c.args.bindings.now c.requires.scope h.next);
    }

pub returns-in_default : goal.returns-in_default
returns-in_default c =
    let p = c.args.bare.now in
    let new = c.dat_rows.new.types in
    let k = c.args.known in
    let bs = c.args.bindings.now in
    let h = c.in_ok-known.ensures in
    let none = subst (AreDatRowsOrNone p new c.in_ok-known.known bs) c.in_default.is c.in_ok-rows.ensures.ok in
    group_refused p c.args.types.now new k c.requires.scope c.in_ok-rows.ensures.longer bs h.next (subst (λ (x : Known). AreDatRowsOrNone p new x bs None) (known_is c.in_ok-known.known (headed p bs k) h.names h.others.0 h.others.1) none)

pub equality-requires-clause-group : goal.equality-requires-clause-group
equality-requires-clause-group c =
    let p = c.args.bare.now in
    let new = c.dat_rows.new.types in
    let k = c.args.known in
    let bs = c.args.bindings.now in
    let h = c.in_ok-known.ensures in
    let rows = c.in-Some.rows in
    let names = rows_behind c.len-first.result k.tables.names (headers p.tyvars bs) c.in_ok-known.known.tables.names rows c.in_ok-known-2.known.tables.names c.len-first.ensures h.names c.in_ok-known-2.ensures.names in
    let are = subst (λ (x : Known). AreDatRows p new x bs rows) (known_is c.in_ok-known.known (headed p bs k) h.names h.others.0 h.others.1) (subst (AreDatRowsOrNone p new c.in_ok-known.known bs) c.in-Some.is c.in_ok-rows.ensures.ok) in
    subst
    (λ (ns : List TypeName). AllByRecursion (λ n. n < length ns) c.deref.result.now)
    (sym names)
    (subst (AllByRecursion (λ n. n < length (k.tables.names ++ rows))) (sym (c.deref.ensures.value ∙ c.in_ok-numbers.ensures)) (group_below p c.args.types.now new k c.requires.scope c.in_ok-rows.ensures.longer bs h.next rows are))

pub equality-requires-clause-arguments : goal.equality-requires-clause-arguments
equality-requires-clause-arguments c =
    let p = c.args.bare.now in
    let new = c.dat_rows.new.types in
    let k = c.args.known in
    let bs = c.args.bindings.now in
    let h = c.in_ok-known.ensures in
    let rows = c.in-Some.rows in
    let names = rows_behind c.len-first.result k.tables.names (headers p.tyvars bs) c.in_ok-known.known.tables.names rows c.in_ok-known-2.known.tables.names c.len-first.ensures h.names c.in_ok-known-2.ensures.names in
    let are = subst (λ (x : Known). AreDatRows p new x bs rows) (known_is c.in_ok-known.known (headed p bs k) h.names h.others.0 h.others.1) (subst (AreDatRowsOrNone p new c.in_ok-known.known bs) c.in-Some.is c.in_ok-rows.ensures.ok) in
    subst (AreArgumentsThere new) (sym names) (group_arguments p c.args.types.now new k c.requires.scope c.in_ok-rows.ensures.longer bs h.next rows are)

pub returns : goal.returns
returns c =
    let p = c.args.bare.now in
    let new = c.dat_rows.new.types in
    let k = c.args.known in
    let bs = c.args.bindings.now in
    let h = c.in_ok-known.ensures in
    let g = c.in_ok-known-2.ensures in
    let rows = c.in-Some.rows in
    let names = rows_behind c.len-first.result k.tables.names (headers p.tyvars bs) c.in_ok-known.known.tables.names rows c.in_ok-known-2.known.tables.names c.len-first.ensures h.names g.names in
    let are = subst (λ (x : Known). AreDatRows p new x bs rows) (known_is c.in_ok-known.known (headed p bs k) h.names h.others.0 h.others.1) (subst (AreDatRowsOrNone p new c.in_ok-known.known bs) c.in-Some.is c.in_ok-rows.ensures.ok) in
    let numbers = c.deref.ensures.value ∙ c.in_ok-numbers.ensures in
    let after = c.in_ok-tables.ensures in
    let choice = after.others.0 in
    group_added_as p c.args.types.now new k c.requires.scope c.in_ok-rows.ensures.longer bs h.next rows choice c.in_ok-tables.tables.names
    (record { tables = c.in_ok-tables.tables; abbreviations = c.in_ok-known-2.known.abbreviations; stands = c.in_ok-known-2.known.stands })
    refl
    (g.others.0 ∙ h.others.0)
    (g.others.1 ∙ h.others.1)
    (after.others.1 ∙ ap (λ ns. choose c.deref.result.now choice 0 ns) names ∙ ap (λ group. choose group choice 0 (k.tables.names ++ rows)) numbers)
    are
    c.in_ok-rows.ensures.vars
    (subst (λ (group : List ℕ). IsGreatest new c.in_ok-tables.tables.names group) numbers after.greatest)
