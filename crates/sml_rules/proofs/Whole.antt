-- The machine and the rules agree.
use Rattle.std.proofs.Common.{◌≡◌, ◌≢◌, ℕ, zero, suc, ◌+◌, ◌*◌, ◌<◌, ◌≤◌, List, [], length, Option, Some, None, refl, sym, ap, ◌∙◌, subst, ⊎_elim, ◌⊎◌, inl, inr, arith}
use Rattle.std.specs.Prelude.{slice_get}
use Rattle.std.proofs.lemmas.Bool.{cases_lt}
use Rattle.sml_tree.specs.declared.bare.Bare.{Bare}
use Rattle.sml_tree.specs.IsBare.{IsBare}
use Rattle.simulation.specs.Blocks.{IsPrefix}
use Rattle.simulation.specs.Runs as runs
use Rattle.simulation.specs.Machines.{Machine, next_of, state_at, end_of, IsLive}
use Rattle.simulation.proofs.Blocks.{prefix_of_eq}
use Rattle.simulation.proofs.Stores.{store_steady}
use Rattle.simulation.proofs.Machines.{Walks, stay, walk, state_later, go_at, run_tells}
use Rattle.sml_def.specs.Maybe.{◌>>=◌, or_else}
use Rattle.sml_def.specs.State.{Value, Block, Ending, Normal, Uncaught, Ret, Raise, End}
use Rattle.sml_def.specs.Memory.{going}
use Rattle.sml_def.specs.Match.{block_of, packet_block}
use Rattle.sml_def.specs.Step.{step, exn_name, name_of, uncaught}
use Rattle.sml_def.specs.Step as ms
use Rattle.sml_def.specs.Cut.{IsCut}
use Rattle.sml_def.specs.Run.{run, source, start, end_of as ending}
use Rattle.sml_def.proofs.Cut.{environments_are_cut}
use Rattle.sml_sound.proofs.NeverStuck.{never_stuck}
use Rattle.sane_laws.specs.Sane.{SaneControl, RunIsSane}
use Rattle.sane_laws.proofs.Runs.{runs_are_sane}
use Rattle.sml_rules.specs.Terms.{Term, nowhere, State, Result, Gives, Raises, Deeper, Stuck}
use Rattle.sml_rules.specs.Rules.{Outcome, Ends, IsDeeper, NoRule, end_within, output_within, result, begin, spelled, name_text, outcome, output}
use Rattle.sml_rules.specs.Rules as evaluation
use Rattle.sml_rules.specs.Agree.{Agree, RulesAgree}
use Rattle.sml_rules.proofs.Relation.{World}
use Rattle.sml_rules.proofs.Relation as r
use Rattle.sml_rules.proofs.Environments.{Is}
use Rattle.sml_rules.proofs.Forms.{Holds, Form, form}
use Rattle.sml_rules.proofs.Forms as f
use Rattle.sml_rules.proofs.Follows.{Kept, Conf, conf, memory, M, Any, step_is, Follows, Back}
use Rattle.sml_rules.proofs.Expressions.{Builtins}
use Rattle.sml_rules.proofs.Derivations.{follows}
use Rattle.sml_rules.proofs.Scopes.{IsApart, is_apart}
use Rattle.sml_rules.proofs.Calls.{builtins}

-- ---- Walks as parts of a run

module _ {S : Type 0} (N : Machine S) (Q : S → Type 0) where
  pub walk_at : (c : ℕ) (s u : S) → Walks N Q c s u → state_at N s c ≡ u
  walk_at c s u (stay x) = refl
  walk_at c s u (walk n s' x u' e q v) = sym (state_later N s' x e n) ∙ walk_at n x u' v

  pub walk_goes : (c : ℕ) (s u : S) → Walks N Q c s u → (k : ℕ) → k < c → (x : S) × (N.step (state_at N s k) ≡ Some x)
  walk_goes c s u (stay x) k l = absurd (omega (arith, l))
  walk_goes c s u (walk n s' x u' e q v) zero l = (x, e)
  walk_goes c s u (walk n s' x u' e q v) (suc k) l =
      let g = walk_goes n x u' v k (omega (arith, l)) in (g.0, ap N.step (sym (state_later N s' x e k)) ∙ g.1)

-- a state without a step stays
stays : {S : Type 0} (N : Machine S) (s : S) (n j : ℕ) → N.step (state_at N s n) ≡ None → state_at N s (n + j) ≡ state_at N s n
stays N s n zero e = ap (state_at N s) (let q : n + 0 ≡ n = omega arith in q)
stays N s n (suc j) e =
    let before = stays N s n j e in
    ap (state_at N s) (let q : n + suc j ≡ suc (n + j) = omega arith in q)
    ∙ ap (next_of (state_at N s (n + j))) (ap N.step before ∙ e)
    ∙ before

stays_from : {S : Type 0} (N : Machine S) (s : S) (n j : ℕ) → n ≤ j → N.step (state_at N s n) ≡ None → state_at N s j ≡ state_at N s n
stays_from N s n j l e =
    let f = le_split n j l in ap (state_at N s) (sym f.1) ∙ stays N s n f.0 e
  where
    le_split : (a b : ℕ) → a ≤ b → (c : ℕ) × (a + c ≡ b)
    le_split zero b l = (b, omega arith)
    le_split (suc a) zero l = absurd (omega (arith, l))
    le_split (suc a) (suc b) l = let f = le_split a b (omega (arith, l)) in (f.0, omega (arith, f.1))

-- ---- The name of an uncaught exception

module _ (p : Bare) (w : World) (s : State) (holds : Holds p w s) where
  name_is : (u : Term) (v : Value) (o : Option Block) → block_of w.store v ≡ o → Form p w s u v o → name_text p s u ≡ exn_name p w.store v
  name_is u v o e (f.name n a x i g) =
      ap (λ q. q >>= slice_get p.names) g ∙ sym (ap (ms.spelled p) e)
  name_is u v o e (f.string bytes a) = sym (ap (ms.spelled p) e)
  name_is u v o e (f.tuple u' fields a us h) = sym (ap (ms.spelled p) e)
  name_is u v o e (f.applied n u' a x h) = sym (ap (ms.spelled p) e)
  name_is u v o e (f.packet x u' a y z h g) = sym (ap (ms.spelled p) e)
  name_is u v o e (f.cell n a u' x i g h) = sym (ap (ms.spelled p) e)
  name_is u v o e (f.function rules env group a i menv h) = sym (ap (ms.spelled p) e)
  name_is u v o e _ = refl

  -- of a packet, that of its name
  same_name : (u : Term) (v : Value) (o : Option Block) → block_of w.store v ≡ o → Form p w s u v o → name_text p s u ≡ exn_name p w.store v → spelled p s u ≡ exn_name p w.store (or_else (packet_block o) (λ packet. packet.0) v)
  same_name u v o e (f.packet x u' a y z h g) k = name_is x y _ refl (form p w s holds x y h)
  same_name u v o e _ k = k

  pub spelled_is : (u : Term) (v : Value) → Is p w u v → spelled p s u ≡ exn_name p w.store (name_of p w.store v)
  spelled_is u v h =
      let g = form p w s holds u v h in same_name u v (block_of w.store v) refl g (name_is u v (block_of w.store v) refl g)

-- ---- The whole

module _ (p : Bare) (bare : IsBare p) (apart : IsApart p) (input : List ℕ) (live : IsLive (M p) (start input)) where
  at : ℕ → Conf
  at n = state_at (M p) (start input) n

  -- a state of the run
  abbrev pub Inv : Conf → Type 0
  Inv s = (n : ℕ) × (state_at (M p) (start input) n ≡ s)

  pub inv_step : (s t : Conf) → Inv s → (M p).step s ≡ Some t → Inv t
  inv_step s t h e = (suc h.0, go_at (M p) [] (start input) h.0 t (ap (M p).step h.1 ∙ e))

  pub inv_cut : (s : Conf) → Inv s → IsCut p s
  inv_cut s h = subst (IsCut p) h.1 (environments_are_cut p bare.numbered bare.bound input h.0)

  module _ (sane : RunIsSane p input) where
    pub kept : Kept p Inv
    kept = record {
      step = inv_step;
      cut = inv_cut;
      sane = λ s h. subst (λ (t : Conf). SaneControl p t.store t.control.control) h.1 (sane h.0);
    }

    module _ (builtins : Builtins p Inv kept) where
      nothing_yet : World
      nothing_yet = record { store = []; cells = []; exns = [] }

      begins : (d : ℕ) → Follows p (Back p None) None d (start input) nothing_yet (result p input d)
      unfolding nothing_yet
      begins d =
          follows p bare apart Inv kept builtins d 0 nowhere [] None (begin p input) nothing_yet (record { us = []; picks = tt; are = r.done }) (record { cell = λ n a e. absurd cc; cells = refl; cells_apart = λ i j a e g. absurd cc; exn = λ n a e. absurd cc; exns = refl; exns_apart = λ i j a e g. absurd cc }) (0, refl)

      -- what a result of the rules says of the run
      record Ended (q : Result Term) : Type 0 where
        ended : Ending
        by_rules : outcome p q ≡ Ends ended
        steps : ℕ
        none : (M p).step (at steps) ≡ None
        in_run : end_of ((M p).step (at steps)) ((M p).end (at steps)) ≡ ending (End ended)
        told : (at steps).out ≡ output p q

      record Deep (d : ℕ) (q : Result Term) : Type 0 where
        by_rules : outcome p q ≡ IsDeeper
        steps : ℕ
        enough : d ≤ 2 * steps + suc (length p.nodes)
        goes : (k : ℕ) → k < steps → (x : Conf) × ((M p).step (at k) ≡ Some x)
        told : (at steps).out ≡ output p q

      not_stuck : (n : ℕ) (s : Conf) → at n ≡ s → (M p).step s ≡ None → (M p).end s ≡ runs.Going → ⊥
      unfolding at
      not_stuck n s e none going_on =
          live n (ap (λ t. end_of ((M p).step t) ((M p).end t)) e ∙ ap (λ o. end_of o ((M p).end s)) none ∙ ap (λ x. end_of {S = Conf} None x) going_on)

      ends_at : (n : ℕ) (e : Ending) (s : State) (w : World) (q : Result Term) → at n ≡ conf (End e) s w → outcome p q ≡ Ends e → output p q ≡ s.output → Ended q
      ends_at n e s w q i by told = record {
        ended = e;
        by_rules = by;
        steps = n;
        none = ap (M p).step i;
        in_run = ap (λ t. end_of ((M p).step t) ((M p).end t)) i ∙ ends e;
        told = ap (λ t. t.out) i ∙ sym told;
      }
        where
          ends : (e : Ending) → end_of {S = Conf} None (ending (End e)) ≡ ending (End e)
          ends Normal = refl
          ends (Uncaught name) = refl

      next_is : (n : ℕ) (s t : Conf) → at n ≡ s → (M p).step s ≡ Some t → at (suc n) ≡ t
      unfolding at
      next_is n s t e h = go_at (M p) [] (start input) n t (ap (M p).step e ∙ h)

      says : (d : ℕ) (q : Result Term) → Follows p (Back p None) None d (start input) nothing_yet q → Ended q ⊎ Deep d q
      unfolding at
      says d (Gives u s) h =
          let here : at h.steps ≡ conf (Ret h.is.0 None) s h.to = walk_at (M p) Any h.steps (start input) (conf h.control s h.to) h.walk ∙ ap (λ c. conf c s h.to) h.is.1 in
          inl (ends_at (suc h.steps) Normal s h.to (Gives u s) (next_is h.steps (conf (Ret h.is.0 None) s h.to) (conf (End Normal) s h.to) here refl) refl refl)
      says d (Raises x s) h =
          let c : Conf = conf (Raise h.is.0 None) s h.to in
          let here : at h.steps ≡ c = walk_at (M p) Any h.steps (start input) (conf h.control s h.to) h.walk ∙ ap (λ c. conf c s h.to) h.is.1 in
          go (exn_name p h.to.store (name_of p h.to.store h.is.0)) refl here
        where
          go : (o : Option (List ℕ)) → exn_name p h.to.store (name_of p h.to.store h.is.0) ≡ o → at h.steps ≡ conf (Raise h.is.0 None) s h.to → Ended (Raises x s) ⊎ Deep d (Raises x s)
          go None e here =
              absurd (not_stuck h.steps (conf (Raise h.is.0 None) s h.to) here (step_is p (Raise h.is.0 None) s h.to None (ap (λ o. o >>= (λ name. going (memory s h.to) (End (Uncaught name)))) e)) refl)
          go (Some name) e here =
              inl (ends_at (suc h.steps) (Uncaught name) s h.to (Raises x s) (next_is h.steps (conf (Raise h.is.0 None) s h.to) (conf (End (Uncaught name)) s h.to) here (step_is p (Raise h.is.0 None) s h.to (going (memory s h.to) (End (Uncaught name))) (ap (λ o. o >>= (λ name. going (memory s h.to) (End (Uncaught name)))) e))) (ap (evaluation.uncaught p) (spelled_is p h.to s h.holds x h.is.0 h.is.2 ∙ e)) refl)
      says d (Deeper s) h =
          inr (record {
            by_rules = refl;
            steps = h.steps;
            enough = h.enough;
            goes = walk_goes (M p) Any h.steps (start input) h.to h.walk;
            told = ap (λ t. t.out) (walk_at (M p) Any h.steps (start input) h.to h.walk) ∙ h.told;
          })
      says d (Stuck s) h =
          absurd (not_stuck h.steps h.to (walk_at (M p) Any h.steps (start input) h.to h.walk) h.none h.going)

      by_rule_of : (d : ℕ) → Ended (result p input d) ⊎ Deep d (result p input d)
      by_rule_of d = says d (result p input d) (begins d)

      -- deep enough for n steps
      for_steps : ℕ → ℕ
      for_steps n = 2 * n + length p.nodes + 2

      same_ending : (e g : Ending) → ending (End e) ≡ ending (End g) → e ≡ g
      same_ending Normal Normal h = refl
      same_ending (Uncaught x) (Uncaught y) h = cc
      same_ending Normal (Uncaught y) h = absurd cc
      same_ending (Uncaught x) Normal h = absurd cc

      ended_none : (o : Option Conf) (x : runs.End) (e : Ending) → end_of o x ≡ ending (End e) → o ≡ None
      ended_none None x e h = refl
      ended_none (Some t) x Normal h = absurd cc
      ended_none (Some t) x (Uncaught n) h = absurd cc

      -- two ends of one run are one
      one_end : (n j : ℕ) → (M p).step (at n) ≡ None → (M p).step (at j) ≡ None → at n ≡ at j
      unfolding at
      one_end n j a b =
          ⊎_elim (λ (l : n < j). sym (stays_from (M p) (start input) n j (omega (arith, l)) a)) (λ (l : j ≤ n). stays_from (M p) (start input) j n l b) (cases_lt n j)

      out_before : (i j : ℕ) → i ≤ j → IsPrefix ((at i).out) ((at j).out)
      unfolding at
      out_before i j l = run_tells (M p) [] (start input) (store_steady (source p)) i j l

      -- an output is a prefix of that at an end
      out_end : (n j : ℕ) → (M p).step (at j) ≡ None → IsPrefix ((at n).out) ((at j).out)
      unfolding at
      out_end n j e =
          ⊎_elim (λ (l : n < j). out_before n j (omega (arith, l))) (λ (l : j ≤ n). prefix_of_eq _ _ (ap (λ t. t.out) (stays_from (M p) (start input) j n l e))) (cases_lt n j)

      ends_of : (d : ℕ) (e : Ending) → end_within p input d ≡ Ends e → Ended (result p input d) ⊎ Deep d (result p input d) → (n : ℕ) × ((run p input).end n ≡ ending (End e)) × ((run p input).out n ≡ output_within p input d)
      unfolding at
      ends_of d e h (inl x) =
          let same : x.ended ≡ e = (let y = x.by_rules in cc) in (x.steps, x.in_run ∙ ap (λ g. ending (End g)) same, x.told)
      ends_of d e h (inr x) = absurd (let y = x.by_rules in cc)

      back_of : (d n : ℕ) (e : Ending) → 2 * n + suc (length p.nodes) < d → (run p input).end n ≡ ending (End e) → Ended (result p input d) ⊎ Deep d (result p input d) → (d : ℕ) × (end_within p input d ≡ Ends e) × (output_within p input d ≡ (run p input).out n)
      unfolding at
      back_of d n e l h (inl x) =
          let none : (M p).step (at n) ≡ None = ended_none ((M p).step (at n)) ((M p).end (at n)) e h in
          let one : at x.steps ≡ at n = one_end x.steps n x.none none in
          let same : x.ended ≡ e = same_ending x.ended e (sym x.in_run ∙ ap (λ t. end_of ((M p).step t) ((M p).end t)) one ∙ h) in
          (d, x.by_rules ∙ ap Ends same, sym x.told ∙ ap (λ t. t.out) one)
      back_of d n e l h (inr x) =
          let none : (M p).step (at n) ≡ None = ended_none ((M p).step (at n)) ((M p).end (at n)) e h in
          let goes = x.goes n (omega (arith, l, x.enough)) in
          absurd (let y = goes.1 in cc)

      told_of : (d n : ℕ) → 2 * n + suc (length p.nodes) < d → Ended (result p input d) ⊎ Deep d (result p input d) → (d : ℕ) × IsPrefix ((run p input).out n) (output_within p input d)
      unfolding at
      told_of d n l (inl x) = (d, subst (IsPrefix ((at n).out)) x.told (out_end n x.steps x.none))
      told_of d n l (inr x) =
          (d, subst (IsPrefix ((at n).out)) x.told (out_before n x.steps (omega (arith, l, x.enough))))

      told_back_of : (d : ℕ) → Ended (result p input d) ⊎ Deep d (result p input d) → (n : ℕ) × ((run p input).out n ≡ output_within p input d)
      unfolding at
      told_back_of d (inl x) = (x.steps, x.told)
      told_back_of d (inr x) = (x.steps, x.told)

      applies_of : (d : ℕ) → Ended (result p input d) ⊎ Deep d (result p input d) → end_within p input d ≢ NoRule
      unfolding at
      applies_of d (inl x) e = let y = x.by_rules in cc
      applies_of d (inr x) e = let y = x.by_rules in cc

      pub agrees : Agree p input
      unfolding for_steps
      agrees = record {
        applies = λ d. applies_of d (by_rule_of d);
        ends = λ d e h. ends_of d e h (by_rule_of d);
        ends_back = λ n e h. back_of (for_steps n) n e (omega arith) h (by_rule_of (for_steps n));
        told = λ n. told_of (for_steps n) n (omega arith) (by_rule_of (for_steps n));
        told_back = λ d. told_back_of d (by_rule_of d);
      }

pub rules_agree : RulesAgree
rules_agree p bare uses t typing input =
    let apart : IsApart p = is_apart p bare in
    let live : IsLive (M p) (start input) = never_stuck p bare t typing input in
    let sane : RunIsSane p input = runs_are_sane p bare uses t typing input in
    agrees p bare apart input live sane (builtins p (Inv p bare apart input live) (kept p bare apart input live sane))
