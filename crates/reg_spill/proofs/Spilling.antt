-- The words of spill records, from the last body down.
use Rattle.std.proofs.Common.{◌≡◌, ◌≢◌, ℕ, zero, suc, ◌-◌, ◌<◌, ◌≤◌, Bool, true, false, List, [], ◌∷◌, ◌++◌, Some, length, drop, map, cond, refl, sym, ap, ◌∙◌, arith, ⊎_elim}
use Rattle.std.specs.Prelude.{slice_get, slice_set, slice_index_or, nat_lt}
use Rattle.std.specs.List.{AllByRecursion}
use Rattle.std.proofs.Math.Seq.{drop-cons}
use Rattle.std.proofs.lemmas.Bool.{ltb-false}
use Rattle.std.proofs.lemmas.List.{get_or-set_same, get_or-set_other}
use Rattle.placed_ir.specs.declared.home.Source.{Source}
use Rattle.placed_ir.specs.declared.body.Step.{Step}
use Rattle.placed_ir.specs.declared.body.Step.TheVariants as step
use Rattle.placed_ir.specs.declared.body.Rule.{Rule}
use Rattle.placed_ir.specs.declared.body.End.{End}
use Rattle.placed_ir.specs.declared.body.End.TheVariants as end
use Rattle.placed_ir.specs.declared.body.Body.{Body}
use Rattle.placed_ir.specs.Code.{Code, Halt}
use Rattle.placed_ir.specs.Program as placing
use Rattle.placed_ir.specs.Kept.{end_parts, body_parts}
use Rattle.place_laws.specs.Place.{greater, spills}
use Rattle.place_laws.proofs.Places.{eq_or_not, lt_or_not}
use Rattle.place_bodies.specs.Steps.{at_of}
use Rattle.place_bodies.proofs.Unfold.{AreNumbered, none_past, code_unfold}
use Rattle.reg_spill.specs.Spills.{step_spills, steps_spills, rules_spills, end_spills, body_spills}

-- ---- One more in front

pub steps_back : (steps : List Step) (i last old new : ℕ) (d : Step) → 0 < i → i ≤ length steps → old ≡ steps_spills (drop i steps) last → new ≡ greater (step_spills (slice_index_or steps (i - 1) d)) old → new ≡ steps_spills (drop (i - 1) steps) last
steps_back steps i last old new d pos le h e =
    let next : suc (i - 1) ≡ i = omega arith in
    let s = slice_index_or steps (i - 1) d in
    let front : drop (i - 1) steps ≡ s ∷ drop i steps = drop-cons steps (i - 1) d (omega arith) ∙ ap (λ k. s ∷ drop k steps) next in
    e ∙ ap (greater (step_spills s)) h ∙ sym (ap (λ ss. steps_spills ss last) front)

pub rules_back : (part : ℕ → ℕ) (rules : List Rule) (i last old new : ℕ) (d : Rule) → 0 < i → i ≤ length rules → old ≡ rules_spills part (drop i rules) last → new ≡ greater (part (slice_index_or rules (i - 1) d).body) old → new ≡ rules_spills part (drop (i - 1) rules) last
rules_back part rules i last old new d pos le h e =
    let next : suc (i - 1) ≡ i = omega arith in
    let r = slice_index_or rules (i - 1) d in
    let front : drop (i - 1) rules ≡ r ∷ drop i rules = drop-cons rules (i - 1) d (omega arith) ∙ ap (λ k. r ∷ drop k rules) next in
    e ∙ ap (greater (part r.body)) h ∙ sym (ap (λ rs. rules_spills part rs last) front)

-- ---- The same as of the tree

none_greater : (n : ℕ) → n ≡ greater 0 n
none_greater n = by (nat_lt 0 n) refl
  where
    by : (b : Bool) → nat_lt 0 n ≡ b → n ≡ cond b n 0
    by true e = refl
    by false e = let l : n ≤ 0 = ltb-false 0 n e in omega arith

step_is : (s : Step) (c : Code) → spills (placing.code_of_step s c) ≡ greater (step_spills s) (spills c)
step_is (step.Make buildings) c = none_greater (spills c)
step_is (step.Name h n) c = refl
step_is (step.Let h s) c = refl
step_is (step.Prim f sources) c = none_greater (spills c)
step_is (step.Take h) c = refl
step_is (step.Handler h) c = refl
step_is (step.SetHandler s) c = none_greater (spills c)

steps_are : (steps : List Step) (c : Code) → spills (placing.code_of_steps steps c) ≡ steps_spills steps (spills c)
steps_are [] c = refl
steps_are (s ∷ steps) c = step_is s (placing.code_of_steps steps c) ∙ ap (greater (step_spills s)) (steps_are steps c)

module _ (p : ℕ → Code) (f : ℕ → ℕ) where
  abbrev Agree : ℕ → Type 0
  Agree n = f n ≡ spills (p n)

  rules_are : (s : Source) (rules : List Rule) (otherwise : ℕ) → AllByRecursion Agree (map (λ r. r.body) rules ++ otherwise ∷ []) → rules_spills f rules (f otherwise) ≡ spills (placing.code_of_rules p s rules otherwise)
  rules_are s [] otherwise h = h.0
  rules_are s (r ∷ rules) otherwise h = ap (λ n. greater n (rules_spills f rules (f otherwise))) h.0 ∙ ap (greater (spills (p r.body))) (rules_are s rules otherwise h.1)

  end_is : (e : End) → AllByRecursion Agree (end_parts e) → end_spills f e ≡ spills (placing.code_of_end p e)
  end_is (end.Equal a b truth k) h = refl
  end_is (end.Call t g sources) h = refl
  end_is (end.Match s rules otherwise) h = rules_are s rules otherwise h
  end_is (end.Throw s) h = refl
  end_is end.Halt h = refl

  pub body_is : (b : Body) → AllByRecursion Agree (body_parts b) → body_spills f b ≡ spills (placing.code_of_body p (Some b))
  body_is b h = ap (steps_spills b.steps) (end_is b.end h) ∙ sym (steps_are b.steps (placing.code_of_end p b.end))

-- ---- The table

pub at_past : (t : List ℕ) (c : ℕ) → length t ≤ c → at_of t c ≡ 0
at_past [] zero h = refl
at_past [] (suc c) h = refl
at_past (p ∷ t) zero h = absurd (omega arith)
at_past (p ∷ t) (suc c) h = at_past t c (omega arith)

halt_past : (bodies : List Body) (k c : ℕ) → length bodies ≤ c → placing.code_within k bodies c ≡ Halt
halt_past bodies zero c h = refl
halt_past bodies (suc k) c h = ap (placing.code_of_body (placing.code_within k bodies)) (none_past bodies c h)

abbrev pub AreSpilled : List Body → ℕ → List ℕ → Type 0
AreSpilled bodies i table = (c : ℕ) → i ≤ c → at_of table c ≡ spills (placing.code_at bodies c)

pub none_spilled : (bodies : List Body) (table : List ℕ) → length table ≡ length bodies → AreSpilled bodies (length bodies) table
none_spilled bodies table e c le = at_past table c (omega (arith, e)) ∙ sym (ap spills (halt_past bodies (length bodies) c le))

pub spilled_down : (bodies : List Body) (numbered : AreNumbered bodies) (i : ℕ) (b : Body) (table : List ℕ) (words : ℕ) → slice_get bodies i ≡ Some b → i < length table → AreSpilled bodies (suc i) table → words ≡ body_spills (at_of table) b → AreSpilled bodies i (slice_set table i words)
spilled_down bodies numbered i b table words e lt done w c le =
    ⊎_elim
    (λ (k : c ≡ i).
    ap (at_of (slice_set table i words)) k ∙ get_or-set_same table i words 0 lt ∙ w
    ∙ body_is (placing.code_at bodies) (at_of table) b (above (body_parts b) (numbered i b e))
    ∙ sym (ap spills (code_unfold bodies numbered i b e)) ∙ sym (ap (λ n. spills (placing.code_at bodies n)) k))
    (λ (k : c ≢ i). get_or-set_other table i c words 0 k ∙ done c (later k))
    (eq_or_not c i)
  where
    later : c ≢ i → suc i ≤ c
    later k = ⊎_elim (λ (l : i < c). l) (λ (l : c ≤ i). absurd (k (omega arith))) (lt_or_not i c)

    above : (ns : List ℕ) → AllByRecursion (λ n. (i < n) × (n < length bodies)) ns → AllByRecursion (λ n. at_of table n ≡ spills (placing.code_at bodies n)) ns
    above [] h = tt
    above (n ∷ ns) h = (done n h.0.0, above ns h.1)
