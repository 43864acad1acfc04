-- Rows of bodies are what the definition makes of their trees.
use Rattle.std.proofs.Common.{◌≡◌, ℕ, zero, suc, ◌+◌, ◌<◌, ◌≤◌, List, [], ◌∷◌, ◌++◌, Option, Some, None, map, flat_map, length, slice_get, inl, inr, refl, sym, ap, ◌∙◌, subst, arith}
use Rattle.std.specs.List.{AllByRecursion}
use Rattle.simulation.specs.Blocks.{IsAmong}
use Rattle.simulation.proofs.Lists.{some_eq}
use Rattle.cps_ir.specs.Kept.{bind_parts, end_parts}
use Rattle.cps_ir.specs.Program as opening
use Rattle.cps_ir.specs.declared.body.Rule.{Rule as Chosen}
use Rattle.cps_ir.specs.declared.body.End.{End as Open}
use Rattle.cps_ir.specs.declared.body.End.TheVariants as given_end
use Rattle.cps_ir.specs.declared.body.Body.{Body as OpenBody}
use Rattle.closure_ir.specs.Kept as kept
use Rattle.closure_ir.specs.Program as closing
use Rattle.closure_ir.specs.declared.body.Body.{Body}
use Rattle.closure_ir.specs.Code.{Code}
use Rattle.cps_free.proofs.Unfold.{all_back}
use Rattle.cps_free.proofs.Unfold as opened
use Rattle.closed_live.proofs.Unfold as closed
use Rattle.close_laws.specs.Layouts.{name_at}
use Rattle.close_laws.specs.Lower.{Design, Places, lower}
use Rattle.close_laws.specs.Close.{design_of}
use Rattle.close_steps.specs.declared.decisions.Decisions.{Decisions}
use Rattle.close_steps.specs.Visible.{Have, Visible, places_in, hand_in}
use Rattle.close_steps.specs.Lowered.{rule_lowered, end_lowered}
use Rattle.close_bodies.specs.Bodies.{body_lowered, seen_at_end}
use Rattle.close_bodies.proofs.Lowering.{bodies_lower}
use Rattle.close_entries.proofs.Entering.{functions_enter}
use Rattle.close_rows.specs.Rows.{AreNumbered, AreLowered, AreBound, AllAreLowered, RoutinesAreLowered, MainIsLowered}

all_among : (P : ℕ → Type 0) (xs : List ℕ) (x : ℕ) → AllByRecursion P xs → IsAmong x xs → P x
all_among P [] x h m = absurd m
all_among P (y ∷ ys) x h (inl e) = subst P (sym e) h.0
all_among P (y ∷ ys) x h (inr m) = all_among P ys x h.1 m

none_past : (bs : List OpenBody) (i : ℕ) → slice_get bs i ≡ None → length bs ≤ i
none_past [] i e = omega arith
none_past (b ∷ bs) zero e = absurd (cc)
none_past (b ∷ bs) (suc i) e = let h = none_past bs i e in omega (arith, h)

rules_parts : (at : Places) (rules : List Chosen) (otherwise : ℕ) → map (λ r. r.body) (map (rule_lowered at) rules) ++ otherwise ∷ [] ≡ map (λ r. r.body) rules ++ otherwise ∷ []
rules_parts at [] otherwise = refl
rules_parts at (r ∷ rules) otherwise = ap (λ js. r.body ∷ js) (rules_parts at rules otherwise)

-- an end has the same bodies
pub parts_same : (d : Decisions) (at : Places) (e : Open) → kept.end_parts (end_lowered d at e) ≡ end_parts e
parts_same d at (given_end.Equal a b truth k) = refl
parts_same d at (given_end.Call a atoms) = refl
parts_same d at (given_end.Match a rules otherwise) = rules_parts at rules otherwise
parts_same d at (given_end.Throw a) = refl
parts_same d at given_end.Halt = refl

module _ (d : Decisions) (seen : ℕ → Visible) (given : List OpenBody) (made : List Body) (numbered : AreNumbered given) (lowered : AreLowered d seen given made) where
  ends_numbered : (i : ℕ) (b : OpenBody) → slice_get given i ≡ Some b → AllByRecursion (λ c. (i < c) × (c < length given)) (end_parts b.end)
  ends_numbered i b e = all_back (λ c. (i < c) × (c < length given)) (flat_map bind_parts b.binds) (end_parts b.end) (numbered i b e)

  pub made_numbered : closed.AreNumbered made
  made_numbered i c e = by (slice_get given i) refl
    where
      by : (o : Option OpenBody) → slice_get given i ≡ o → AllByRecursion (λ j. (i < j) × (j < length made)) (kept.body_parts c)
      by None f =
          absurd (let past = none_past given i f in let within = closed.some_within made i c e in let n = lowered.len in omega (arith, past, within, n))
      by (Some b) f =
          some_eq (λ (m : Body). AllByRecursion (λ j. (i < j) × (j < length made)) (kept.body_parts m)) (body_lowered d (seen i) b) c (sym (lowered.each i b f) ∙ e)
          (subst (λ n. AllByRecursion (λ j. (i < j) × (j < n)) (kept.body_parts (body_lowered d (seen i) b))) (sym lowered.len)
          (subst (AllByRecursion (λ j. (i < j) × (j < length given))) (sym (parts_same d (places_in d (seen_at_end d (seen i) b.binds)) b.end)) (ends_numbered i b f)))

module _ (S : Design) (d : Decisions) (have : Have S d) (seen : ℕ → Visible) (given : List OpenBody) (made : List Body) (numbered : AreNumbered given) (bound : AreBound S given) (lowered : AreLowered d seen given made) where
  abbrev Lowers : ℕ → Type 0
  Lowers i = closing.code_at made i ≡ lower S (places_in d (seen i)) (hand_in (seen i)) (opening.code_at given i)

  one_lowers : (i : ℕ) (b : OpenBody) → slice_get given i ≡ Some b → ((j : ℕ) → i < j → j < length given → Lowers j) → Lowers i
  one_lowers i b e later =
      closed.code_unfold made (made_numbered d seen given made numbered lowered) i (body_lowered d (seen i) b) (lowered.each i b e)
      ∙ bodies_lower S d have (seen i) (opening.code_at given) (closing.code_at made) b (bound i b e) part
      ∙ sym (ap (lower S (places_in d (seen i)) (hand_in (seen i))) (opened.code_unfold given numbered i b e))
    where
      part : (j : ℕ) → IsAmong j (end_parts b.end) → closing.code_at made j ≡ lower S (places_in d (seen_at_end d (seen i) b.binds)) (hand_in (seen_at_end d (seen i) b.binds)) (opening.code_at given j)
      part j m =
          let n = all_among (λ c. (i < c) × (c < length given)) (end_parts b.end) j (ends_numbered d seen given made numbered lowered i b e) m in
          later j n.0 n.1 ∙ ap (λ (v : Visible). lower S (places_in d v) (hand_in v) (opening.code_at given j)) (lowered.ends i b e j m)

  from_last : (n i : ℕ) → length given ≤ n + i → i < length given → Lowers i
  from_last zero i h g = absurd (omega (arith, h, g))
  from_last (suc n) i h g = by (slice_get given i) refl (λ j l k. from_last n j (omega (arith, h, l)) k)
    where
      by : (o : Option OpenBody) → slice_get given i ≡ o → ((j : ℕ) → i < j → j < length given → Lowers j) → Lowers i
      by None e r = absurd (let past = none_past given i e in omega (arith, past, g))
      by (Some b) e r = one_lowers i b e r

pub all_lower : AllAreLowered
all_lower S d have seen given made numbered bound lowered i h = from_last S d have seen given made numbered bound lowered (length given) i (omega arith) h

pub routines_lower : RoutinesAreLowered
routines_lower A d have seen given made numbered bound lowered p k e params i h enters =
    ap (λ (c : Code). record { params = name_at A p ∷ params; code = c })
    (all_lower (design_of A) d have seen given made numbered bound lowered i h
    ∙ ap (λ (v : Visible). lower (design_of A) (places_in d v) (hand_in v) (opening.code_at given i)) enters)
    ∙ sym (functions_enter A d have p k e params (opening.code_at given i))

pub main_lowers : MainIsLowered
main_lowers S d have seen given made numbered bound lowered h begins =
    all_lower S d have seen given made numbered bound lowered 0 h
    ∙ ap (λ (v : Visible). lower S (places_in d v) (hand_in v) (opening.code_at given 0)) begins
