-- The steps of a turn keep what holds while inference goes on.
use native.Mathlib.Omega.{arith}
use Rattle.std.proofs.Common.{◌≡◌, ◌<◌, ◌≤◌, ◌⊎◌, inl, inr, ℕ, zero, suc, Bool, Option, Some, None, List, [], ◌∷◌, refl, sym, ap, subst, ◌∙◌}
use Rattle.std.specs.Prelude.{slice_get}
use Rattle.std.specs.List.{AllByRecursion}
use Rattle.sml_tree.specs.declared.bare.Bare.{Bare}
use Rattle.sml_tree.specs.declared.bare.Node.{Node}
use Rattle.sml_tree.specs.declared.bare.Node.TheVariants as node
use Rattle.sml_tree.specs.BareParts.{IsNumbered}
use Rattle.sml_types.specs.Forms.{AreForms}
use Rattle.sml_types.specs.Poly.{Context}
use Rattle.sml_types.specs.Typing.{Typing, IsTypingBelow, IsTypedNode}
use Rattle.sml_unify.specs.Solved.{Substitution, Solves}
use Rattle.infer_state.specs.declared.unknowns.Unknowns.{Unknowns}
use Rattle.infer_state.specs.declared.settled.Settled.{Settled}
use Rattle.infer_state.specs.declared.declared.Declared.{Declared}
use Rattle.infer_state.specs.Steps.{Reaches}
use Rattle.infer_state.specs.Names.{Inside, inside, parts_in, behind, names_bound}
use Rattle.infer_state.specs.Fits.{Fits, AllSuit, AreThere, AreBodies, settled_at}
use Rattle.infer_scopes.specs.Scopes.{Stored, AllOpen, AreOpen, contexts_of, HasEntered, HasEnteredBody}
use Rattle.infer_scopes.specs.Prefix.{IsPrefix}
use Rattle.infer_closing.specs.Open.{closed_at}
use Rattle.infer_closing.specs.Closing.{AddsTypes, AreKept, IsLetAt, StaysSuited, StaysMatched}
use Rattle.sml_infer.specs.Stages.{known}
use Rattle.sml_infer.specs.Going.{Now, stage, let_of, IsSound, AreDone, AreNoted, AreBehind, IsGoing, IsEntered, IsLawful}
use Rattle.sml_infer.proofs.Kept.{known_at}
use Rattle.sml_infer.proofs.Turns.{with_scopes, with_settled, sound_settled, follow_settled, done_settled, sound_entered, follow_entered, done_entered}
use Rattle.sml_infer.proofs.Lawful.{has_binds, has_matched}

-- a `let` that is noted has its context
let_context : (p : Bare) (d : Declared) (a : Now) (n m e i : ℕ) → AreDone p d a n → AreNoted p a m → m ≤ n → let_of a e ≡ Some i → (c : Context) × (contexts_of a.scopes i ≡ Some c)
let_context p d a n m e i done lets l h =
    let k = lets.lets e i h in
    let below = k.2 in
    let q = done i (node.Let k.0 e) (omega (arith, below, l)) k.1 in
    (q.context, q.here)

-- what stands behind declarations has its context still
behind_kept : (p : Bare) (d : Declared) (a : Now) (s : Stored) (n m r : ℕ) → AreDone p d a n → AreNoted p a m → m ≤ n → ((i : ℕ) (c : Context) → contexts_of a.scopes i ≡ Some c → contexts_of s i ≡ Some c) → AreBehind p a r → (e i k : ℕ) (c : Context) → e < r → let_of a e ≡ Some i → slice_get p.nodes i ≡ Some (node.Let k e) → contexts_of s i ≡ Some c → contexts_of s e ≡ Some (behind p.nodes c k)
behind_kept p d a s n m r done lets l kept h e i k c below o at stands =
    let q = let_context p d a n m e i done lets l o in
    let now = kept i q.0 q.1 in
    let same : q.0 ≡ c = cc in
    kept e (behind p.nodes c k) (h e i k c below o at (q.1 ∙ ap Some same))

-- ---- A node gets its parts' contexts

module _ (p : Bare) (count : ℕ) (d : Declared) (a : Now) (s : Stored) (node r : ℕ) (going : IsGoing p count d a node node r) (below : node < count) (lawful : (t : Typing) → IsTypingBelow p t count → IsLawful p count t) (entered : HasEntered p.nodes node (contexts_of a.scopes) (contexts_of s)) (unclosed : (q : ℕ → Bool) → AllOpen q a.scopes → AllOpen q s) where
  abbrev items : List Inside
  items = parts_in p.nodes entered.context entered.at

  parts_of_typing : (t : Typing) → IsTypingBelow p t count → AllByRecursion (λ x. t.contexts x.node ≡ x.context) items
  parts_of_typing t h =
      subst (λ (c : Context). AllByRecursion (λ x. t.contexts x.node ≡ x.context) (parts_in p.nodes c entered.at)) ((going.follow t h).contexts node entered.context entered.stands) ((lawful t h).parts node entered.at below entered.here)

  pub enter_goes : IsGoing p count d (with_scopes a s) node node r
  enter_goes =
      record {
        sound = sound_entered p d a s items going.sound entered.entered (unclosed (closed_at (known (stage a))));
        follow = λ t h. follow_entered p d a s items going.sound entered.entered t (going.follow t h) (parts_of_typing t h);
        nodes = done_entered p d a s items going.sound entered.entered node going.nodes;
        lets = record { noted = going.lets.noted; lets = going.lets.lets };
        contexts = behind_kept p d a s node node r going.nodes going.lets (omega arith) entered.entered.kept going.contexts;
      }

  pub enter_entered : IsEntered p (with_scopes a s) node
  enter_entered =
      record { at = entered.at; context = entered.context; there = entered.here; here = entered.entered.kept node entered.context entered.stands; parts = entered.entered.put }

-- ---- The names of matches are settled

module _ (p : Bare) (count : ℕ) (d : Declared) (a : Now) (settled : List (Option Settled)) (node r : ℕ) (going : IsGoing p count d a node node r) (entered : IsEntered p a node) (below : node < count) (prefix : IsPrefix p.nodes count) (lawful : (t : Typing) → IsTypingBelow p t count → IsLawful p count t) (there : AreThere a.unknowns.types settled) (bodies : AreBodies p a.unknowns (settled_at a.unknowns.types a.settled) → AreBodies p a.unknowns (settled_at a.unknowns.types settled)) (kept : AreKept a.settled settled) (suited : StaysMatched p node (settled_at a.unknowns.types a.settled) (settled_at a.unknowns.types settled)) where
  stays : Reaches d.tables.names (λ f. Unit {0}) (λ f. Unit {0}) a.unknowns a.unknowns
  stays =
      record {
        state = going.sound.state;
        longer = record { count = omega arith; keeps = λ i f e. e; trees = λ i l. refl };
        raised = omega arith;
        sound = λ f h. h;
        got = λ f h. tt;
        general = λ f h k. (f, λ v l. refl, h);
      }

  suits : (t : Typing) → IsTypingBelow p t count → (g : Substitution) → Solves a.unknowns.types a.unknowns.subst.bound g → Fits p t g → AllSuit (known (stage a)) g t → AllSuit (settled_at a.unknowns.types settled) g t
  suits t h g s fits k = suited t g entered.at fits k entered.there (has_matched p count t (lawful t h) prefix node entered.at below entered.there) (h.rules node entered.at below entered.there)

  pub matched_goes : IsGoing p count d (with_settled a settled a.unknowns) node node r
  matched_goes =
      record {
        sound = sound_settled p d a settled a.unknowns going.sound stays kept going.sound.forms there bodies;
        follow = λ t h. follow_settled p d a settled a.unknowns going.sound stays kept t (going.follow t h) (suits t h);
        nodes = done_settled p d a settled a.unknowns going.sound stays kept node going.nodes;
        lets = record { noted = going.lets.noted; lets = going.lets.lets };
        contexts = λ e i k c l o at stands. going.contexts e i k c l o at stands;
      }

  pub matched_entered : IsEntered p (with_settled a settled a.unknowns) node
  matched_entered = record { at = entered.at; context = entered.context; there = entered.there; here = entered.here; parts = entered.parts }

-- ---- A declaration is closed

-- what holds of a `let` whose declaration is closed, in a typing
record IsLetOf (p : Bare) (count : ℕ) (t : Typing) (i k e : ℕ) : Type 0 where
  pub inner : Node
  pub there : slice_get p.nodes k ≡ Some inner
  pub below : k < count
  pub context : t.contexts k ≡ t.contexts i
  pub body : t.contexts e ≡ behind p.nodes (t.contexts i) k

let_of_typing : (p : Bare) (count : ℕ) (t : Typing) (i k e : ℕ) → IsNumbered p.nodes → IsPrefix p.nodes count → IsLawful p count t → i < count → slice_get p.nodes i ≡ Some (node.Let k e) → IsLetOf p count t i k e
let_of_typing p count t i k e numbered prefix lawful l at =
    let parts = numbered i (node.Let k e) at in
    let known = known_at p.nodes k parts.0.1 in
    record {
      inner = known.0;
      there = known.1;
      below = (prefix.parts i (node.Let k e) l at).0;
      context = (lawful.parts i (node.Let k e) l at).0;
      body = lawful.bodies i k e l at;
    }

module _ (p : Bare) (count : ℕ) (d : Declared) (a : Now) (settled : List (Option Settled)) (u : Unknowns) (s : Stored) (done reached i : ℕ) (going : IsGoing p count d a done done reached) (within : done ≤ count) (noted : let_of a reached ≡ Some i) (numbered : IsNumbered p.nodes) (prefix : IsPrefix p.nodes count) (lawful : (t : Typing) → IsTypingBelow p t count → IsLawful p count t) (forms : AreForms u.types) (adds : AddsTypes a.unknowns u) (there : AreThere u.types settled) (bodies : AreBodies p a.unknowns (settled_at a.unknowns.types a.settled) → AreBodies p u (settled_at u.types settled)) (kept : AreKept a.settled settled) (suited : StaysSuited p (contexts_of a.scopes) i a.unknowns (settled_at a.unknowns.types a.settled) (settled_at u.types settled)) (entered : HasEnteredBody p.nodes i (contexts_of a.scopes) (contexts_of s)) (unclosed : AllOpen (closed_at (settled_at u.types settled)) a.scopes → AllOpen (closed_at (settled_at u.types settled)) s) where
  reaches : Reaches d.tables.names (λ f. Unit {0}) (λ f. Unit {0}) a.unknowns u
  reaches = adds d.tables.names going.sound.state

  abbrev middle : Now
  middle = with_settled a settled u

  abbrev body_inside : List Inside
  body_inside = inside (behind p.nodes entered.context entered.dec) entered.body ∷ []

  let_below : i < count
  let_below = let l = (going.lets.lets reached i noted).2 in omega (arith, l, within)

  in_typing : (t : Typing) → IsTypingBelow p t count → IsLetOf p count t i entered.dec entered.body
  in_typing t h = let_of_typing p count t i entered.dec entered.body numbered prefix (lawful t h) let_below entered.here

  stands_in : (t : Typing) (h : IsTypingBelow p t count) → t.contexts i ≡ entered.context
  stands_in t h = (going.follow t h).contexts i entered.context entered.stands

  closed_suits : (t : Typing) → IsTypingBelow p t count → (g : Substitution) → Solves a.unknowns.types a.unknowns.subst.bound g → Fits p t g → AllSuit (known (stage a)) g t → AllSuit (settled_at u.types settled) g t
  closed_suits t h g solves fits k =
      let q = in_typing t h in
      suited t g entered.context entered.dec q.inner solves fits k entered.stands (record { body = entered.body; here = entered.here; declares = q.there }) (has_binds p count t (lawful t h) prefix entered.dec q.inner q.below q.there) (subst (λ (c : Context). IsTypedNode p t c (t.types entered.dec) (t.binds entered.dec) q.inner) (q.context ∙ stands_in t h) (h.rules entered.dec q.inner q.below q.there))

  sound_middle : IsSound p d middle
  sound_middle = sound_settled p d a settled u going.sound reaches kept forms there bodies

  body_in_typing : (t : Typing) → IsTypingBelow p t count → AllByRecursion (λ x. t.contexts x.node ≡ x.context) body_inside
  body_in_typing t h = (subst (λ (c : Context). t.contexts entered.body ≡ behind p.nodes c entered.dec) (stands_in t h) (in_typing t h).body, tt)

  abbrev after : Now
  after = with_scopes middle s

  done_after : AreDone p d after done
  done_after = done_entered p d middle s body_inside sound_middle entered.entered done (done_settled p d a settled u going.sound reaches kept done going.nodes)

  lets_after : AreNoted p after done
  lets_after = record { noted = going.lets.noted; lets = going.lets.lets }

  -- what stands behind this declaration has its context now
  behind_here : (e j k : ℕ) (c : Context) → e ≡ reached → let_of a e ≡ Some j → slice_get p.nodes j ≡ Some (node.Let k e) → contexts_of s j ≡ Some c → contexts_of s e ≡ Some (behind p.nodes c k)
  behind_here e j k c here o at stands =
      let same : j ≡ i = cc in
      let lets = subst (λ (x : ℕ). slice_get p.nodes x ≡ Some (node.Let k e)) same at in
      let node_is = entered.here in
      let dec : k ≡ entered.dec = cc in
      let body : e ≡ entered.body = cc in
      let now = entered.entered.kept i entered.context entered.stands in
      let then = subst (λ (x : ℕ). contexts_of s x ≡ Some c) same stands in
      let context : c ≡ entered.context = cc in
      let put = entered.entered.put.0 in
      subst (λ (x : ℕ). contexts_of s x ≡ Some (behind p.nodes c k)) (sym body) (put ∙ ap Some (ap (λ (x : Context). behind p.nodes x entered.dec) (sym context) ∙ ap (behind p.nodes c) (sym dec)))

  contexts_after : AreBehind p after (suc reached)
  contexts_after e j k c l o at stands = at_most e j k c (below_or e reached l) o at stands
    where
      below_or : (x y : ℕ) → x < suc y → (x < y) ⊎ (x ≡ y)
      below_or x zero l = inr (omega (arith, l))
      below_or zero (suc y) l = inl (omega arith)
      below_or (suc x) (suc y) l = up (below_or x y (omega (arith, l)))
        where
          up : (x < y) ⊎ (x ≡ y) → (suc x < suc y) ⊎ (suc x ≡ suc y)
          up (inl h) = inl (omega (arith, h))
          up (inr h) = inr (ap suc h)

      at_most : (e j k : ℕ) (c : Context) → (e < reached) ⊎ (e ≡ reached) → let_of a e ≡ Some j → slice_get p.nodes j ≡ Some (node.Let k e) → contexts_of s j ≡ Some c → contexts_of s e ≡ Some (behind p.nodes c k)
      at_most e j k c (inl l) o at stands = behind_kept p d a s done done reached going.nodes going.lets (omega arith) entered.entered.kept going.contexts e j k c l o at stands
      at_most e j k c (inr h) o at stands = behind_here e j k c h o at stands

  pub close_goes : IsGoing p count d after done done (suc reached)
  close_goes =
      record {
        sound = sound_entered p d middle s body_inside sound_middle entered.entered unclosed;
        follow = λ t h. follow_entered p d middle s body_inside sound_middle entered.entered t (follow_settled p d a settled u going.sound reaches kept t (going.follow t h) (closed_suits t h)) (body_in_typing t h);
        nodes = done_after;
        lets = lets_after;
        contexts = contexts_after;
      }

-- the names of a closed declaration are closed, but those that are left
pub left_closed : (nodes : List Node) (q : ℕ → Bool) (a s : Stored) (i : ℕ) (left given : List ℕ) → given ≡ left → IsNumbered nodes → ((k : ℕ) (n : Node) → IsLetAt nodes i k n → AreOpen q (names_bound nodes k) left) → (AllOpen q a → ((k e : ℕ) → slice_get nodes i ≡ Some (node.Let k e) → AreOpen q (names_bound nodes k) given) → AllOpen q s) → AllOpen q a → AllOpen q s
left_closed nodes q a s i left given same numbered h f open_before =
    f open_before (λ k e at. let known = known_at nodes k (numbered i (node.Let k e) at).0.1 in subst (λ (xs : List ℕ). AreOpen q (names_bound nodes k) xs) (sym same) (h k known.0 (record { body = e; here = at; declares = known.1 })))

-- no `let` is noted at a node
pub reach_free : (p : Bare) (count : ℕ) (d : Declared) (a : Now) (done reached : ℕ) → let_of a reached ≡ None → IsGoing p count d a done done reached → IsGoing p count d a done done (suc reached)
reach_free p count d a done reached none h =
    record { sound = h.sound; follow = h.follow; nodes = h.nodes; lets = h.lets; contexts = λ e i k c l o at stands. by e i k c (below_or e reached l) o at stands }
  where
    below_or : (x y : ℕ) → x < suc y → (x < y) ⊎ (x ≡ y)
    below_or zero zero l = inr refl
    below_or zero (suc y) l = inl (omega arith)
    below_or (suc x) zero l = absurd (omega (arith, l))
    below_or (suc x) (suc y) l = up (below_or x y (omega (arith, l)))
      where
        up : (x < y) ⊎ (x ≡ y) → (suc x < suc y) ⊎ (suc x ≡ suc y)
        up (inl h) = inl (omega (arith, h))
        up (inr h) = inr (ap suc h)

    by : (e i k : ℕ) (c : Context) → (e < reached) ⊎ (e ≡ reached) → let_of a e ≡ Some i → slice_get p.nodes i ≡ Some (node.Let k e) → contexts_of a.scopes i ≡ Some c → contexts_of a.scopes e ≡ Some (behind p.nodes c k)
    by e i k c (inl l) o at stands = h.contexts e i k c l o at stands
    by e i k c (inr same) o at stands = absurd cc

-- ---- A `let` is noted

abbrev pub with_behind : Now → List (Option ℕ) → Now
with_behind a behind = record { scopes = a.scopes; settled = a.settled; behind = behind; unknowns = a.unknowns }

below_or_at : (x y : ℕ) → x < suc y → (x < y) ⊎ (x ≡ y)
below_or_at zero zero l = inr refl
below_or_at zero (suc y) l = inl (omega arith)
below_or_at (suc x) zero l = absurd (omega (arith, l))
below_or_at (suc x) (suc y) l = up (below_or_at x y (omega (arith, l)))
  where
    up : (x < y) ⊎ (x ≡ y) → (suc x < suc y) ⊎ (suc x ≡ suc y)
    up (inl h) = inl (omega (arith, h))
    up (inr h) = inr (ap suc h)

same_or : (x y : ℕ) → (x ≡ y) ⊎ (x ≡ y → ⊥)
same_or zero zero = inl refl
same_or zero (suc y) = inr (λ e. cc)
same_or (suc x) zero = inr (λ e. cc)
same_or (suc x) (suc y) = up (same_or x y)
  where
    up : (x ≡ y) ⊎ (x ≡ y → ⊥) → (suc x ≡ suc y) ⊎ (suc x ≡ suc y → ⊥)
    up (inl h) = inl (ap suc h)
    up (inr h) = inr (λ e. h cc)

-- the last node is no `let`
pub none_noted : (p : Bare) (count : ℕ) (d : Declared) (a : Now) (n : ℕ) → ((k e : ℕ) → slice_get p.nodes n ≡ Some (node.Let k e) → ⊥) → IsGoing p count d a (suc n) n (suc n) → IsGoing p count d a (suc n) (suc n) (suc n)
none_noted p count d a n other h =
    record {
      sound = h.sound;
      follow = h.follow;
      nodes = h.nodes;
      lets = record { noted = λ i k e l at. by i k e at (below_or_at i n l); lets = λ e i o. let q = h.lets.lets e i o in let l = q.2 in (q.0, q.1, omega (arith, l)) };
      contexts = h.contexts;
    }
  where
    by : (i k e : ℕ) → slice_get p.nodes i ≡ Some (node.Let k e) → (i < n) ⊎ (i ≡ n) → let_of a e ≡ Some i
    by i k e at (inl l) = h.lets.noted i k e l at
    by i k e at (inr same) = absurd (other k e (subst (λ (x : ℕ). slice_get p.nodes x ≡ Some (node.Let k e)) same at))

module _ (p : Bare) (count : ℕ) (d : Declared) (a : Now) (after : List (Option ℕ)) (n k e : ℕ) (at : slice_get p.nodes n ≡ Some (node.Let k e)) (free : let_of a e ≡ None) (above : n < e) (here : let_of (with_behind a after) e ≡ Some n) (others : (x : ℕ) → (x ≡ e → ⊥) → let_of (with_behind a after) x ≡ let_of a x) (h : IsGoing p count d a (suc n) n (suc n)) where
  noted_at : (i k2 e2 : ℕ) → slice_get p.nodes i ≡ Some (node.Let k2 e2) → (i < n) ⊎ (i ≡ n) → let_of (with_behind a after) e2 ≡ Some i
  noted_at i k2 e2 at2 (inl l) =
      let old = h.lets.noted i k2 e2 l at2 in
      others e2 (λ q. let o = subst (λ (x : ℕ). let_of a x ≡ Some i) q old in cc) ∙ old
  noted_at i k2 e2 at2 (inr same) =
      let at3 = subst (λ (x : ℕ). slice_get p.nodes x ≡ Some (node.Let k2 e2)) same at2 in
      let q : e2 ≡ e = cc in
      subst (λ (x : ℕ). let_of (with_behind a after) e2 ≡ Some x) (sym same) (subst (λ (x : ℕ). let_of (with_behind a after) x ≡ Some n) (sym q) here)

  let_at : (e2 i : ℕ) → let_of (with_behind a after) e2 ≡ Some i → (e2 ≡ e) ⊎ (e2 ≡ e → ⊥) → (k2 : ℕ) × (slice_get p.nodes i ≡ Some (node.Let k2 e2)) × (i < suc n)
  let_at e2 i o (inl q) =
      let o2 = subst (λ (x : ℕ). let_of (with_behind a after) x ≡ Some i) q o in
      let same : i ≡ n = cc in
      (k, subst (λ (x : ℕ). slice_get p.nodes x ≡ Some (node.Let k e2)) (sym same) (subst (λ (x : ℕ). slice_get p.nodes n ≡ Some (node.Let k x)) (sym q) at), omega (arith, same))
  let_at e2 i o (inr f) =
      let q = h.lets.lets e2 i (sym (others e2 f) ∙ o) in
      let l = q.2 in
      (q.0, q.1, omega (arith, l))

  pub note_goes : IsGoing p count d (with_behind a after) (suc n) (suc n) (suc n)
  note_goes =
      record {
        sound = record { forms = h.sound.forms; state = h.sound.state; laid = h.sound.laid; there = h.sound.there; bodies = h.sound.bodies; declared = h.sound.declared; closed = h.sound.closed };
        follow = h.follow;
        nodes = h.nodes;
        lets = record { noted = λ i k2 e2 l at2. noted_at i k2 e2 at2 (below_or_at i n l); lets = λ e2 i o. let_at e2 i o (same_or e2 e) };
        contexts = λ e2 i k2 c l o at2 stands. h.contexts e2 i k2 c l (sym (others e2 (λ q. let m : e2 ≡ e = q in absurd (omega (arith, l, m, above)))) ∙ o) at2 stands;
      }
