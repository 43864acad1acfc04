-- The rule of the next node is asked, and the node is noted.
use Rattle.std.proofs.Common.{◌≡◌, ◌<◌, ℕ, suc, Option, Some, None, List, [], ◌∷◌, length, refl, sym, ap, subst, ◌∙◌}
use Rattle.std.specs.Prelude.{slice_get, Result, IfOk}
use Rattle.std.specs.List.{AllByRecursion}
use Rattle.sml_tree.specs.declared.bare.Bare.{Bare}
use Rattle.sml_tree.specs.declared.bare.Node.{Node}
use Rattle.sml_tree.specs.declared.bare.Node.TheVariants as node
use Rattle.sml_tree.specs.declared.bare.RecBinding.{RecBinding}
use Rattle.sml_tree.specs.BareParts.{IsNumbered}
use Rattle.sml_types.specs.Forms.{AreForms}
use Rattle.sml_types.specs.declared.types.TyForm.{TyForm}
use Rattle.sml_types.specs.Library.{name_types}
use Rattle.sml_types.specs.Poly.{Poly, Context}
use Rattle.sml_types.specs.Typing.{Typing, IsTypingBelow, group_names}
use Rattle.infer_parts.specs.Written.{AreAbbreviations}
use Rattle.infer_state.specs.declared.unknowns.Unknowns.{Unknowns}
use Rattle.infer_state.specs.declared.declared.Declared.{Declared}
use Rattle.infer_state.specs.declared.settled.Settled.{Settled}
use Rattle.infer_state.specs.declared.failure.Failure.{Failure}
use Rattle.infer_state.specs.Steps.{IsStep}
use Rattle.infer_state.specs.Typings.{IsReady, abbreviation_at}
use Rattle.infer_tables.specs.Declare.{IsUntypable}
use Rattle.infer_nodes.specs.Good.{AreTypesGood}
use Rattle.infer_state.specs.Rules.{IsRule}
use Rattle.infer_state.specs.Fits.{settled_at}
use Rattle.infer_scopes.specs.Scopes.{contexts_of}
use Rattle.infer_laws.specs.Cited.{IsPlaced, LeavesWritten, node_names, node_types}
use Rattle.infer_laws.specs.Gives.{IsOwnOpen}
use Rattle.infer_laws.proofs.Longer.{abbreviations_are}
use Rattle.sml_infer.specs.Stages.{known}
use Rattle.sml_infer.specs.Going.{Now, stage, joined_number, CitesBelow, IsGoing, IsEntered, Keeps}
use Rattle.sml_infer.specs.Asking.{IsAskable, body_at, IsNoted}
use Rattle.sml_infer.proofs.Asking.{rule_at, refused, ask_goes, written_left, asked_goes, asked_refused, placed}
use Rattle.sml_infer.proofs.Turns.{with_unknowns}
use Rattle.sml_infer.proofs.Going.{with_behind, none_noted, note_goes}
use Rattle.sml_infer.proofs.Keeping.{keeps_asked}

-- the names of a group are all below a count
pub group_below : (count : ℕ) (bindings : List RecBinding) → AllByRecursion (λ b. b.name.0 < count) bindings → AllByRecursion (λ x. x < count) (group_names bindings)
group_below count [] h = tt
group_below count (b ∷ bindings) h = (h.0, group_below count bindings h.1)

-- ---- The rule of a node is asked

-- what is looked at before
pub askable : (p : Bare) (limit : ℕ) (w : Now) (i : ℕ) (n : Node) (given : List (Option Settled)) → given ≡ w.settled → ((forms : List TyForm) (c : Context) → contexts_of w.scopes i ≡ Some c → IsReady (settled_at forms given) c n × IsOwnOpen (settled_at forms given) c n) → AllByRecursion (λ x. x < length p.names) (node_names n) → AllByRecursion (λ j. j < limit) (node_types n) → IsAskable p limit w i n
askable p limit w i n given same ready names types =
    record { ready = λ c h. subst (λ (s : List (Option Settled)). IsReady (settled_at w.unknowns.types s) c n × IsOwnOpen (settled_at w.unknowns.types s) c n) same (ready w.unknowns.types c h); names = names; types = types }

-- what is asked of the node that was entered
module _ (p : Bare) (count : ℕ) (d : Declared) (a : Now) (i limit : ℕ) (numbered : IsNumbered p.nodes) (good : AreTypesGood p) (cited : CitesBelow p d limit) (below : i < count) (going : IsGoing p count d a i i (suc i)) (entered : IsEntered p a i) (askable : IsAskable p limit a i entered.at) (u : Unknowns) (forms : AreForms u.types) (result : Result Unit Failure) (step : (abbreviations : ℕ → Poly) → AreAbbreviations a.unknowns.types d.abbreviations abbreviations → IsStep d.tables.names (rule_at p d a i entered.at abbreviations) a.unknowns u result) where
  ready : IsReady (known (stage a)) entered.context entered.at
  ready = (askable.ready entered.context entered.here).0

  own : IsOwnOpen (known (stage a)) entered.context entered.at
  own = (askable.ready entered.context entered.here).1

  is_placed : IsPlaced p entered.at
  is_placed = placed p i entered.at numbered entered.there askable.names

  left : (t : Typing) (h : IsTypingBelow p t count) → LeavesWritten p d.tables.names t.abbreviations (going.follow t h).f entered.at
  left t h =
      let q = going.follow t h in
      written_left p d a.unknowns.types t.abbreviations limit q.f entered.at good going.sound.declared q.tables.abbreviations cited askable.types q.fits.explicit_ones

  abbrev some : ℕ → Poly
  some k = abbreviation_at a.unknowns.types (slice_get d.abbreviations k)

  some_are : AreAbbreviations a.unknowns.types d.abbreviations some
  some_are = abbreviations_are a.unknowns.types d.abbreviations

  entered_goes : IfOk result (λ r. IsGoing p count d (with_unknowns a u) (suc i) i (suc i))
  entered_goes =
      asked_goes d.tables.names (AreAbbreviations a.unknowns.types d.abbreviations) (rule_at p d a i entered.at) a.unknowns u (IsGoing p count d (with_unknowns a u) (suc i) i (suc i)) result step
      (λ reaches. ask_goes p count d a i (suc i) going entered below ready is_placed left own u forms some some_are reaches)

  entered_kept : IfOk result (λ r. Keeps a (with_unknowns a u))
  entered_kept =
      asked_goes d.tables.names (AreAbbreviations a.unknowns.types d.abbreviations) (rule_at p d a i entered.at) a.unknowns u (Keeps a (with_unknowns a u)) result step
      (λ reaches. keeps_asked a u (reaches some some_are).longer)

  entered_refused : IsUntypable result ((t : Typing) → IsTypingBelow p t count → ⊥)
  entered_refused =
      asked_refused d.tables.names (AreAbbreviations a.unknowns.types d.abbreviations) (rule_at p d a i entered.at) a.unknowns u ((t : Typing) → IsTypingBelow p t count → ⊥) result step
      (λ none. refused p count d a i (suc i) going entered below ready is_placed left none)

-- the same, where the node and the schemes were read
module _ (p : Bare) (count : ℕ) (d : Declared) (a : Now) (i limit : ℕ) (n : Node) (nodes : List Node) (given : List (Option Settled)) (numbered : IsNumbered p.nodes) (good : AreTypesGood p) (cited : CitesBelow p d limit) (below : i < count) (going : IsGoing p count d a i i (suc i)) (entered : IsEntered p a i) (at : slice_get nodes i ≡ Some n) (nodes_are : nodes ≡ p.nodes) (askable : IsAskable p limit a i n) (given_is : given ≡ a.settled) (u : Unknowns) (forms : AreForms u.types) (result : Result Unit Failure) (step : (abbreviations : ℕ → Poly) → AreAbbreviations a.unknowns.types d.abbreviations abbreviations → (m : Node) → slice_get p.nodes i ≡ Some m → IsStep d.tables.names (λ f. IsRule p (name_types a.unknowns.types d.tables.names) d.tables.names abbreviations (settled_at a.unknowns.types given) f i m) a.unknowns u result) where
  same : n ≡ entered.at
  same = let e = sym at ∙ ap (λ (ns : List Node). slice_get ns i) nodes_are ∙ entered.there in cc

  there : IsAskable p limit a i entered.at
  there = subst (λ (m : Node). IsAskable p limit a i m) same askable

  asked : (abbreviations : ℕ → Poly) → AreAbbreviations a.unknowns.types d.abbreviations abbreviations → IsStep d.tables.names (rule_at p d a i entered.at abbreviations) a.unknowns u result
  asked abbreviations are =
      subst (λ (s : List (Option Settled)). IsStep d.tables.names (λ f. IsRule p (name_types a.unknowns.types d.tables.names) d.tables.names abbreviations (settled_at a.unknowns.types s) f i entered.at) a.unknowns u result) given_is (step abbreviations are entered.at entered.there)

  pub next_goes : IfOk result (λ r. IsGoing p count d (with_unknowns a u) (suc i) i (suc i))
  next_goes = entered_goes p count d a i limit numbered good cited below going entered there u forms result asked

  pub next_kept : IfOk result (λ r. Keeps a (with_unknowns a u))
  next_kept = entered_kept p count d a i limit numbered good cited below going entered there u forms result asked

  pub next_refused : IsUntypable result ((t : Typing) → IsTypingBelow p t count → ⊥)
  next_refused = entered_refused p count d a i limit numbered good cited below going entered there u forms result asked

-- what has no typing below a number has none below an equal one
pub refused_at : {A : Type 0} (p : Bare) (r : Result A Failure) (k m : ℕ) → k ≡ m → IsUntypable r ((t : Typing) → IsTypingBelow p t k → ⊥) → IsUntypable r ((t : Typing) → IsTypingBelow p t m → ⊥)
refused_at {A} p r k m e h = subst (λ (x : ℕ). IsUntypable r ((t : Typing) → IsTypingBelow p t x → ⊥)) e h

-- ---- The node is noted

module _ (p : Bare) (count : ℕ) (d : Declared) (a : Now) (n : ℕ) (numbered : IsNumbered p.nodes) (going : IsGoing p count d a (suc n) n (suc n)) where
  -- a node is no `let`
  pub other_goes : (o : Option ℕ) → o ≡ None → o ≡ body_at (slice_get p.nodes n) → IsGoing p count d a (suc n) (suc n) (suc n)
  other_goes o none is = none_noted p count d a n (λ k e at. let no_body = sym none ∙ is ∙ ap body_at at in cc) going

  -- a node is a `let`
  pub let_goes : (e : ℕ) (after : List (Option ℕ)) (o : Option ℕ) → o ≡ Some e → o ≡ body_at (slice_get p.nodes n) → IsNoted a.behind e n after → IsGoing p count d (with_behind a after) (suc n) (suc n) (suc n)
  let_goes e after o some is noted = by (slice_get p.nodes n) refl (sym some ∙ is)
    where
      by : (m : Option Node) → slice_get p.nodes n ≡ m → Some e ≡ body_at m → IsGoing p count d (with_behind a after) (suc n) (suc n) (suc n)
      by (Some (node.Let k b)) at same =
          let here : b ≡ e = cc in
          let stands = at ∙ ap (λ (x : ℕ). Some (node.Let k x)) here in
          note_goes p count d a after n k e stands noted.was (numbered n (node.Let k e) stands).1.0.0 noted.here (λ x other. ap joined_number (noted.others x other)) going
      by _ at same = absurd cc
