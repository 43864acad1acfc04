use Rattle.std.proofs.Common.{◌≡◌, ◌++◌, false, take, drop, length, Bool, List, sym, ap, ◌∙◌, subst}
use Rattle.std.specs.List.{AllByRecursion}
use Rattle.sml_types.specs.declared.tables.TypeName.{TypeName}
use Rattle.sml_types.specs.Forms.{parts_of}
use Rattle.sml_types.specs.Equality.{IsGreatest}
use Rattle.infer_parts.specs.Held.{AreHeld, any_var, by_names}
use Rattle.infer_parts.specs.Rounds.{fails, all_chosen, struck_all, any_struck}
use Rattle.infer_parts.proofs.RoundFacts.{IsRound, taken, chosen_count, struck_count, zero_above, smaller, members, first_round, next_round, last_round, none_struck}
use Rattle.infer_parts.proofs.equality.equality.Goals as goal

pub rounds-init : goal.rounds-init
rounds-init c =
    let is = c.choose_all.ensures ∙ ap (all_chosen c.args.group.now) (c.deref_mut.ensures.value ∙ c.into_vec-names.ensures) in
    let count = ap length c.choose_all.ensures ∙ chosen_count c.args.group.now c.deref_mut.result.now ∙ c.deref_mut.ensures.len in
    record {
      round = first_round c.args.types.now c.args.group.now c.args.tables.names (take c.into_vec-names.result.len (c.choose_all.new.names ++ drop (length c.choose_all.new.names) c.into_vec-names.result.items)) (taken c.into_vec-names.result.len c.choose_all.new.names (drop (length c.choose_all.new.names) c.into_vec-names.result.items) count ∙ is);
      stable = λ e. cc;
    }

pub admitting-requires-clause-segment : goal.admitting-requires-clause-segment
admitting-requires-clause-segment c i form lo hi e = zero_above (parts_of form)

pub rounds-smaller : goal.rounds-smaller
rounds-smaller c =
    let count = ap length c.strike-going.ensures.struck ∙ struck_count c.deref-in-rounds.result.now c.args.group.now c.deref_mut-in-rounds.result.now ∙ c.deref_mut-in-rounds.ensures.len in
    let after = taken c.rounds.names.len c.strike-going.new.names (drop (length c.strike-going.new.names) c.rounds.names.items) count ∙ c.strike-going.ensures.struck ∙ ap (struck_all c.deref-in-rounds.result.now c.args.group.now) c.deref_mut-in-rounds.ensures.value in
    smaller c.deref-in-rounds.result.now c.args.group.now c.rounds.names.items (take c.rounds.names.len (c.strike-going.new.names ++ drop (length c.strike-going.new.names) c.rounds.names.items)) c.strike-going.result c.rounds.going after (c.strike-going.ensures.is ∙ ap (any_struck c.deref-in-rounds.result.now c.args.group.now) c.deref_mut-in-rounds.ensures.value) c.rounds-test.true

pub rounds-preserved : goal.rounds-preserved
rounds-preserved c =
    let table = c.deref-in-rounds.result.now in
    let names = c.rounds.names.items in
    let count = ap length c.strike-going.ensures.struck ∙ struck_count table c.args.group.now c.deref_mut-in-rounds.result.now ∙ c.deref_mut-in-rounds.ensures.len in
    let after = taken c.rounds.names.len c.strike-going.new.names (drop (length c.strike-going.new.names) names) count ∙ c.strike-going.ensures.struck ∙ ap (struck_all table c.args.group.now) c.deref_mut-in-rounds.ensures.value in
    let any = c.strike-going.ensures.is ∙ ap (any_struck table c.args.group.now) c.deref_mut-in-rounds.ensures.value in
    let held = subst (λ (t : List Bool). AreHeld any_var (by_names names) c.args.types.now 0 (length c.args.types.now) t) (sym c.deref-in-rounds.ensures.value) (subst (λ (rs : List TypeName). AreHeld any_var (by_names rs) c.args.types.now 0 (length c.args.types.now) c.in_ok-table.table.items) c.deref.ensures.value c.in_ok-table.ensures) in
    record {
      round = subst (IsRound c.args.types.now c.args.group.now c.args.tables.names) (sym after) (next_round c.args.types.now c.args.group.now c.args.tables.names c.requires.arguments names c.rounds.invariant.round table held c.args.group.now names (members c.args.group.now) c.rounds.invariant.round);
      stable = λ e.
          let r = none_struck table c.args.group.now names (sym any ∙ e) in
          subst
          (λ (rs : List TypeName). (x : List Bool) × AreHeld any_var (by_names rs) c.args.types.now 0 (length c.args.types.now) x × AllByRecursion (λ n. fails rs x n ≡ false) c.args.group.now)
          (sym (after ∙ r.0))
          (table, held, r.1);
    }

pub returns-clause-greatest : goal.returns-clause-greatest
returns-clause-greatest c =
    let s = c.rounds.invariant.stable c.rounds-test.false in
    subst
    (λ (rs : List TypeName). IsGreatest c.args.types.now rs c.args.group.now)
    (sym c.from_vec.ensures)
    (last_round c.args.types.now c.args.group.now c.args.tables.names c.requires.arguments c.rounds.names.items s.0 s.1 c.rounds.invariant.round s.2)
