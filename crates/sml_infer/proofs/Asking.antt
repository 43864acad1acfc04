-- The rule of a node is asked.
use native.Mathlib.Omega.{arith}
use Rattle.std.proofs.Common.{◌≡◌, ◌<◌, ◌⊎◌, inl, inr, ℕ, zero, suc, Some, List, [], ◌∷◌, length, refl, sym, ap, subst}
use Rattle.std.specs.Prelude.{slice_get, Result, Ok, Err, IfOk}
use Rattle.std.specs.List.{AllByRecursion}
use Rattle.sml_tree.specs.declared.bare.Bare.{Bare}
use Rattle.sml_tree.specs.declared.bare.Node.{Node}
use Rattle.sml_tree.specs.declared.bare.TypeExp.TheVariants as exp
use Rattle.sml_tree.specs.BareParts.{IsNumbered, node_parts}
use Rattle.sml_types.specs.declared.types.TyForm.{TyForm}
use Rattle.sml_types.specs.declared.tables.TypeName.{TypeName}
use Rattle.sml_types.specs.Forms.{AreForms}
use Rattle.sml_types.specs.Library.{NameType, name_types}
use Rattle.sml_types.specs.Poly.{Poly, Context}
use Rattle.sml_types.specs.Typing.{Typing, IsTypingBelow}
use Rattle.sml_unify.specs.Solved.{Substitution}
use Rattle.infer_parts.specs.Written.{AreAbbreviations}
use Rattle.infer_state.specs.declared.unknowns.Unknowns.{Unknowns}
use Rattle.infer_state.specs.declared.declared.Declared.{Declared}
use Rattle.infer_state.specs.declared.failure.Failure.{Failure}
use Rattle.infer_state.specs.declared.failure.Failure.TheVariants.{Untypable, NoMemory}
use Rattle.infer_state.specs.Steps.{Reaches, IsRefused, IsStep}
use Rattle.infer_tables.specs.Declare.{IsUntypable}
use Rattle.infer_nodes.specs.Good.{AreTypesGood, AreDeclaredIn}
use Rattle.infer_state.specs.Rules.{IsRule}
use Rattle.infer_state.specs.Typings.{IsReady}
use Rattle.infer_laws.specs.Cited.{IsPlaced, LeavesWritten, LeavesExplicit, AreClosedUpTo, node_names, node_types}
use Rattle.infer_laws.proofs.Left.{node_left, closed_up_to}
use Rattle.infer_laws.specs.Gives.{IsOwnOpen}
use Rattle.infer_laws.proofs.Meets.{typings_meet}
use Rattle.infer_laws.proofs.Settled.{settled_marks}
use Rattle.infer_laws.proofs.Longer.{rows_same}
use Rattle.sml_infer.specs.Stages.{known, Grows, IsDone}
use Rattle.sml_infer.specs.Going.{Now, stage, AreDone, IsGoing, IsEntered}
use Rattle.sml_infer.proofs.Kept.{abbreviations_back, known_kept}
use Rattle.sml_infer.proofs.Turns.{with_unknowns, sound_bound, follow_bound, done_bound, grows_bound}

-- the rule of a node, as it is asked
abbrev pub rule_at : Bare → Declared → Now → ℕ → Node → (ℕ → Poly) → Substitution → Type 0
rule_at p d a node n abbreviations f = IsRule p (name_types a.unknowns.types d.tables.names) d.tables.names abbreviations (known (stage a)) f node n

module _ (p : Bare) (count : ℕ) (d : Declared) (a : Now) (node r : ℕ) (going : IsGoing p count d a node node r) (entered : IsEntered p a node) (below : node < count) (ready : IsReady (known (stage a)) entered.context entered.at) (placed : IsPlaced p entered.at) (written : (t : Typing) (h : IsTypingBelow p t count) → LeavesWritten p d.tables.names t.abbreviations (going.follow t h).f entered.at) where
  -- each typing's solution meets the rule
  meets_rule : (t : Typing) (h : IsTypingBelow p t count) → rule_at p d a node entered.at t.abbreviations (going.follow t h).f
  meets_rule t h =
      let q = going.follow t h in
      let stands = q.contexts node entered.context entered.here in
      typings_meet p a.unknowns.types d.tables.names (known (stage a)) q.f t
      (record { rows = q.tables.rows; fits = q.fits; suit = q.suits; marks = settled_marks a.unknowns.types a.settled going.sound.forms going.sound.there d.tables.names q.f q.solution.marks })
      count node entered.at h below entered.there placed (subst (λ (c : Context). IsReady (known (stage a)) c entered.at) (sym stands) ready) (written t h)

  -- what is refused has no typing
  pub refused : ((abbreviations : ℕ → Poly) → AreAbbreviations a.unknowns.types d.abbreviations abbreviations → IsRefused d.tables.names (rule_at p d a node entered.at abbreviations) a.unknowns) → (t : Typing) → IsTypingBelow p t count → ⊥
  refused none t h =
      let q = going.follow t h in
      none t.abbreviations q.tables.abbreviations q.f q.solution (meets_rule t h)

  module _ (own : IsOwnOpen (known (stage a)) entered.context entered.at) (u : Unknowns) (forms : AreForms u.types) (some : ℕ → Poly) (some_are : AreAbbreviations a.unknowns.types d.abbreviations some) (reaches : (abbreviations : ℕ → Poly) → AreAbbreviations a.unknowns.types d.abbreviations abbreviations → Reaches d.tables.names (rule_at p d a node entered.at abbreviations) (rule_at p d a node entered.at abbreviations) a.unknowns u) where
    abbrev after : Now
    after = with_unknowns a u

    abbrev one : Reaches d.tables.names (rule_at p d a node entered.at some) (rule_at p d a node entered.at some) a.unknowns u
    one = reaches some some_are

    grows : Grows (stage a) (stage after)
    grows = grows_bound p d a u (rule_at p d a node entered.at some) (rule_at p d a node entered.at some) going.sound one

    this_done : IsDone p d (stage after) node entered.at
    this_done =
        record {
          context = entered.context;
          here = entered.here;
          parts = entered.parts;
          asked = known (stage a);
          settled = λ x q e. known_kept (stage a) (stage after) grows going.sound.there x q e;
          own = own;
          ready = ready;
          rule = λ abbreviations are f s.
              let back = abbreviations_back a.unknowns.types u.types one.longer d abbreviations going.sound.declared are in
              subst (λ (rows : List NameType). IsRule p rows d.tables.names abbreviations (known (stage a)) f node entered.at) (sym (rows_same a.unknowns.types u.types one.longer d.tables.names going.sound.declared.there)) ((reaches abbreviations back).got f s);
        }

    at_most : (i : ℕ) → i < suc node → (i < node) ⊎ (i ≡ node)
    at_most i l = split i node l
      where
        split : (x y : ℕ) → x < suc y → (x < y) ⊎ (x ≡ y)
        split zero zero l = inr refl
        split zero (suc y) l = inl (omega arith)
        split (suc x) zero l = absurd (omega (arith, l))
        split (suc x) (suc y) l = up (split x y (omega (arith, l)))
          where
            up : (x < y) ⊎ (x ≡ y) → (suc x < suc y) ⊎ (suc x ≡ suc y)
            up (inl h) = inl (omega (arith, h))
            up (inr h) = inr (ap suc h)

    done_after : AreDone p d after (suc node)
    done_after i n l e = by (at_most i l)
      where
        by : (i < node) ⊎ (i ≡ node) → IsDone p d (stage after) i n
        by (inl h) = done_bound p d a u (rule_at p d a node entered.at some) (rule_at p d a node entered.at some) going.sound one node going.nodes i n h e
        by (inr h) =
            let there = entered.there in
            let same : n ≡ entered.at = cc in
            subst (λ (m : Node). IsDone p d (stage after) i m) (sym same) (subst (λ (j : ℕ). IsDone p d (stage after) j entered.at) (sym h) this_done)

    pub ask_goes : IsGoing p count d after (suc node) node r
    ask_goes =
        record {
          sound = sound_bound p d a u (rule_at p d a node entered.at some) (rule_at p d a node entered.at some) going.sound one forms;
          follow = λ t h.
              let q = going.follow t h in
              let are = q.tables.abbreviations in
              follow_bound p d a u (rule_at p d a node entered.at t.abbreviations) (rule_at p d a node entered.at t.abbreviations) going.sound (reaches t.abbreviations are) t q (meets_rule t h);
          nodes = done_after;
          lets = record { noted = going.lets.noted; lets = going.lets.lets };
          contexts = going.contexts;
        }

-- ---- What a node's written types mean stays

closed_types : (p : Bare) (d : Declared) (forms : List TyForm) (abbreviations : ℕ → Poly) (limit : ℕ) → AreTypesGood p → AreDeclaredIn forms d → AreAbbreviations forms d.abbreviations abbreviations → ((i k : ℕ) (args : List ℕ) → i < limit → slice_get p.types i ≡ Some (exp.Abbreviation k args) → k < length d.abbreviations) → (js : List ℕ) → AllByRecursion (λ j. j < limit) js → AllByRecursion (AreClosedUpTo p abbreviations) js
closed_types p d forms abbreviations limit good declared are cited [] h = tt
closed_types p d forms abbreviations limit good declared are cited (j ∷ js) h =
    let below = h.0 in
    (closed_up_to p forms d.abbreviations abbreviations j good.stand (λ i k args l e. cited i k args (omega (arith, l, below)) e) declared.closed are, closed_types p d forms abbreviations limit good declared are cited js h.1)

pub written_left : (p : Bare) (d : Declared) (forms : List TyForm) (abbreviations : ℕ → Poly) (limit : ℕ) (f : Substitution) (n : Node) → AreTypesGood p → AreDeclaredIn forms d → AreAbbreviations forms d.abbreviations abbreviations → ((i k : ℕ) (args : List ℕ) → i < limit → slice_get p.types i ≡ Some (exp.Abbreviation k args) → k < length d.abbreviations) → AllByRecursion (λ j. j < limit) (node_types n) → LeavesExplicit p f → LeavesWritten p d.tables.names abbreviations f n
written_left p d forms abbreviations limit f n good declared are cited below leaves =
    node_left p d.tables.names abbreviations f n leaves good.rows (closed_types p d forms abbreviations limit good declared are cited (node_types n) below)

-- ---- What asking answers

pub asked_goes : (names : List TypeName) (P : (ℕ → Poly) → Type 0) (rule : (ℕ → Poly) → Substitution → Type 0) (before after : Unknowns) (G : Type 0) (r : Result Unit Failure) → ((m : ℕ → Poly) → P m → IsStep names (rule m) before after r) → (((m : ℕ → Poly) → P m → Reaches names (rule m) (rule m) before after) → G) → IfOk r (λ x. G)
asked_goes names P rule before after G (Ok x) step f = f step
asked_goes names P rule before after G (Err e) step f = tt

pub asked_refused : (names : List TypeName) (P : (ℕ → Poly) → Type 0) (rule : (ℕ → Poly) → Substitution → Type 0) (before after : Unknowns) (G : Type 0) (r : Result Unit Failure) → ((m : ℕ → Poly) → P m → IsStep names (rule m) before after r) → (((m : ℕ → Poly) → P m → IsRefused names (rule m) before) → G) → IsUntypable r G
asked_refused names P rule before after G (Ok x) step f = tt
asked_refused names P rule before after G (Err Untypable) step f = f step
asked_refused names P rule before after G (Err NoMemory) step f = tt

-- a node is placed, if its parts are nodes and its names stand there
pub placed : (p : Bare) (i : ℕ) (n : Node) → IsNumbered p.nodes → slice_get p.nodes i ≡ Some n → AllByRecursion (λ x. x < length p.names) (node_names n) → IsPlaced p n
placed p i n numbered e names = record { names = names; parts = below (node_parts n) (numbered i n e) }
  where
    below : (cs : List ℕ) → AllByRecursion (λ c. (i < c) × (c < length p.nodes)) cs → AllByRecursion (λ c. c < length p.nodes) cs
    below [] h = tt
    below (c ∷ cs) h = (h.0.1, below cs h.1)
