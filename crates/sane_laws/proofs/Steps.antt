-- What a step does to a store in which all is where it may be.
use Rattle.std.proofs.Common.{◌≡◌, ℕ, zero, suc, Bool, true, false, List, [], ◌∷◌, ◌++◌, length, set, Option, Some, None, refl, sym, ap, ◌∙◌, subst, inl, inr}
use Rattle.std.specs.Prelude.{IfSome, slice_get, cond}
use Rattle.std.specs.List.{AllByRecursion}
use Rattle.std.proofs.lemmas.List.{length-map}
use Rattle.simulation.specs.Stores.{Effect, Append, Put, Act, all_affected, replaced, may_replace, configured, wrote, acted}
use Rattle.simulation.proofs.Lists.{get_last}
use Rattle.sml_tree.specs.declared.bare.Bare.{Bare}
use Rattle.sml_tree.specs.IsBare.{IsBare}
use Rattle.sml_types.specs.Typing.{Typing, IsTyping}
use Rattle.sml_def.specs.State.{Value, At, Env, Address, Awaits, Block, Frame, Control, Eval, Ret, Focus}
use Rattle.sml_def.specs.Memory.{Memory, Next, going, making, awaiting, making_all}
use Rattle.sml_def.specs.Run.{State, view}
use Rattle.sml_def.proofs.Effects.{all_append, all_map, none_affected, act_makes}
use Rattle.lambda_ir.specs.Free.{Computed}
use Rattle.sane_laws.specs.Sane.{operator_of}
use Rattle.sane_laws.specs.Uses.{UsesWell}
use Rattle.sane_laws.specs.Flow.{Form, AName, AFunctionPart, AnyOther, form, forms_of, IsConstantNone, DatumForm, IsDatum, IsOperator, HoldsWell, TakesForm, TakesData, ComesForm, ComesTo, FitsForm, FitsAt, AwaitsWell, BlockWell, ControlWell, StoreWell, FlowsWell}
use Rattle.sane_laws.proofs.Grow.{block_up, takes_up, env_up}

-- ---- Effects

abbrev pub forms_after : List Form → List (Effect Block) → List Form
forms_after forms [] = forms
forms_after forms (Append bs ∷ es) = forms_after (forms ++ forms_of bs) es
forms_after forms (Put a b ∷ es) = forms_after forms es

forms_append : (xs ys : List Block) → forms_of (xs ++ ys) ≡ forms_of xs ++ forms_of ys
forms_append [] ys = refl
forms_append (x ∷ xs) ys = ap (λ fs. form x ∷ fs) (forms_append xs ys)

forms_set : (store : List Block) (a : ℕ) (b : Block) → slice_get (forms_of store) a ≡ Some (form b) → forms_of (set store a b) ≡ forms_of store
forms_set [] a b e = refl
forms_set (x ∷ store) zero b e =
    let same : form x ≡ form b = cc in ap (λ f. f ∷ forms_of store) (sym same)
forms_set (x ∷ store) (suc a) b e = ap (λ fs. form x ∷ fs) (forms_set store a b e)

set_all : (P : Block → Type 0) (store : List Block) (a : ℕ) (b : Block) → AllByRecursion P store → P b → AllByRecursion P (set store a b)
set_all P [] a b h g = tt
set_all P (x ∷ store) zero b h g = (g, h.1)
set_all P (x ∷ store) (suc a) b h g = (h.0, set_all P store a b h.1 g)

-- the state after an act is about to do what comes next
act_next : (s r : State) (a : Act Focus Block) → acted view s.out s.store (Some a) ≡ Some r → r.control ≡ a.next
act_next s r a e = go (all_affected view (Some s.store) a.effects) e
  where
    go : (o : Option (List Block)) → configured a.next (wrote s.out a.told) o ≡ Some r → r.control ≡ a.next
    go None e = cc
    go (Some ys) e =
        let made : State = record { control = a.next; out = wrote s.out a.told; store = ys } in
        let same : made ≡ r = cc in ap (λ (u : State). u.control) (sym same)

module _ (p : Bare) (t : Typing) where
  -- blocks that are made are well in the store in which they then stand, and what gives way is of the form of what comes
  abbrev pub EffectsWell : List Form → List (Effect Block) → Type 0
  EffectsWell forms [] = Unit {0}
  EffectsWell forms (Append bs ∷ es) = AllByRecursion (BlockWell p t (forms ++ forms_of bs)) bs × EffectsWell (forms ++ forms_of bs) es
  EffectsWell forms (Put a b ∷ es) = (slice_get forms a ≡ Some (form b)) × BlockWell p t forms b × EffectsWell forms es

  pub record ActWell (store : List Block) (a : Act Focus Block) : Type 0 where
    pub effects : EffectsWell (forms_of store) a.effects
    pub control : ControlWell p t (forms_after (forms_of store) a.effects) a.next.control

  more_well : (store bs : List Block) → StoreWell p t store → AllByRecursion (BlockWell p t (forms_of store ++ forms_of bs)) bs → StoreWell p t (store ++ bs)
  more_well store bs h g =
      subst (λ fs. AllByRecursion (BlockWell p t fs) (store ++ bs)) (sym (forms_append store bs))
      (all_append (BlockWell p t (forms_of store ++ forms_of bs)) store bs (all_map (BlockWell p t (forms_of store)) (BlockWell p t (forms_of store ++ forms_of bs)) (block_up p t (forms_of store) (forms_of bs)) store h) g)

  abbrev After : List Block → List (Effect Block) → List Block → Type 0
  After store es after = (forms_of after ≡ forms_after (forms_of store) es) × StoreWell p t after

  abbrev Rest : List (Effect Block) → List Block → Type 0
  Rest es after = (z : List Block) → StoreWell p t z → EffectsWell (forms_of z) es → all_affected view (Some z) es ≡ Some after → After z es after

  all_after : (es : List (Effect Block)) (store after : List Block) → StoreWell p t store → EffectsWell (forms_of store) es → all_affected view (Some store) es ≡ Some after → After store es after
  all_after [] store after h w e =
      let same : store ≡ after = cc in (ap forms_of (sym same), subst (StoreWell p t) same h)
  all_after (Append bs ∷ es) store after h w e =
      let there = forms_append store bs in
      let r = all_after es (store ++ bs) after (more_well store bs h w.0) (subst (λ fs. EffectsWell fs es) (sym there) w.1) e in
      (r.0 ∙ ap (λ fs. forms_after fs es) there, r.1)
  all_after (Put a b ∷ es) store after h w e = go (slice_get store a) (λ z x y. all_after es z after x y) e
    where
      same : forms_of (set store a b) ≡ forms_of store
      same = forms_set store a b w.0

      put : StoreWell p t (set store a b)
      put = subst (λ fs. AllByRecursion (BlockWell p t fs) (set store a b)) (sym same) (set_all (BlockWell p t (forms_of store)) store a b h w.1)

      on : (q : Bool) → Rest es after → all_affected view (cond q (Some (set store a b)) None) es ≡ Some after → After store es after
      on true rest e =
          let r = rest (set store a b) put (subst (λ fs. EffectsWell fs es) (sym same) w.2) e in (r.0 ∙ ap (λ fs. forms_after fs es) same, r.1)
      on false rest e = absurd (let n = none_affected es in cc)

      go : (o : Option Block) → Rest es after → all_affected view (replaced view store a b o) es ≡ Some after → After store es after
      go None rest e = absurd (let n = none_affected es in cc)
      go (Some old) rest e = on (may_replace (view old) (view b)) rest e

  -- the state after an act
  pub act_flows : (s r : State) (a : Act Focus Block) → StoreWell p t s.store → ActWell s.store a → acted view s.out s.store (Some a) ≡ Some r → FlowsWell p t r
  act_flows s r a h w e =
      let d = all_after a.effects s.store r.store h w.effects (act_makes s r a e) in
      record { store = d.1; control = subst (λ fs. ControlWell p t fs r.control.control) (sym d.0) (subst (λ (f : Focus). ControlWell p t (forms_after (forms_of s.store) a.effects) f.control) (sym (act_next s r a e)) w.control) }

-- ---- Steps

-- a step begins where all is where it may be
pub record Ready (p : Bare) (t : Typing) (m : Memory) : Type 0 where
  pub typing : IsTyping p t
  pub bare : IsBare p
  pub uses : UsesWell p
  pub store : StoreWell p t m.store

module _ {p : Bare} {t : Typing} {m : Memory} (ready : Ready p t m) where
  abbrev pub forms : List Form
  forms = forms_of m.store

  abbrev pub Goes : Next → Type 0
  Goes o = IfSome o (ActWell p t m.store)

  pub going_well : (c : Control) → ControlWell p t forms c → Goes (going m c)
  going_well c h = record { effects = tt; control = h }

  pub all_well : (bs : List Block) (c : Control) → AllByRecursion (BlockWell p t (forms ++ forms_of bs)) bs → ControlWell p t (forms ++ forms_of bs) c → Goes (making_all m bs c)
  all_well bs c h hc = record { effects = (h, tt); control = hc }

  pub making_well : (b : Block) (f : Address → Control) → BlockWell p t forms b → ControlWell p t (forms ++ form b ∷ []) (f (length m.store)) → Goes (making m b f)
  making_well b f h hc = record { effects = ((block_up p t forms (form b ∷ []) b h, tt), tt); control = hc }

  pub new_form : (b : Block) → slice_get (forms ++ form b ∷ []) (length m.store) ≡ Some (form b)
  new_form b = ap (slice_get (forms ++ form b ∷ [])) (sym (length-map m.store form)) ∙ get_last forms (form b)

  -- ---- Frames

  comes_form : (fs : List Form) (v : Value) (o : Option Form) → TakesForm p t fs o → IsDatum p t fs v → ComesForm p t fs o v
  comes_form fs v (Some (AFunctionPart f)) h d = subst (λ o. IsOperator p t fs o v) (sym h) d
  comes_form fs v (Some (AName x)) h d = d
  comes_form fs v (Some AnyOther) h d = d
  comes_form fs v None h d = absurd h

  -- where data come back, a datum does
  pub datum_comes : (fs : List Form) (v : Value) (k : Option Address) → TakesData p t fs k → IsDatum p t fs v → ComesTo p t fs k v
  datum_comes fs v None h d = tt
  datum_comes fs v (Some a) h d = comes_form fs v (slice_get fs a) h d

  pub ret_datum : (v : Value) (k : Option Address) → IsDatum p t forms v → TakesData p t forms k → Goes (going m (Ret v k))
  ret_datum v k d h = going_well (Ret v k) (datum_comes forms v k h d)

  -- a block that is a datum comes back
  pub made_datum : (b : Block) (k : Option Address) → form b ≡ AnyOther → BlockWell p t forms b → TakesData p t forms k → Goes (making m b (λ a. Ret (At a) k))
  made_datum b k e h hk =
      making_well b (λ a. Ret (At a) k) h (datum_comes (forms ++ form b ∷ []) (At (length m.store)) k (takes_up p t forms (form b ∷ []) k hk) (subst (DatumForm p t (forms ++ form b ∷ [])) (sym (new_form b ∙ ap Some e)) tt))

  takes_form : (i : ℕ) (o : Option Form) → operator_of p.nodes i ≡ Computed → FitsForm p t forms o i → TakesForm p t forms o
  takes_form i (Some (AFunctionPart f)) c (inl e) = e ∙ c
  takes_form i (Some (AFunctionPart f)) c (inr e) = e.0
  takes_form i (Some (AName x)) c h = tt
  takes_form i (Some AnyOther) c h = tt
  takes_form i None c h = absurd h

  -- what is no constant and no constructor goes where data come back
  pub takes_computed : (i : ℕ) (k : Option Address) → operator_of p.nodes i ≡ Computed → FitsAt p t forms k i → TakesData p t forms k
  takes_computed i None c h = tt
  takes_computed i (Some a) c h = takes_form i (slice_get forms a) c h

  fits_form : (fs : List Form) (i : ℕ) (o : Option Form) → TakesForm p t fs o → IsConstantNone p t i → FitsForm p t fs o i
  fits_form fs i (Some (AFunctionPart f)) h n = inr (h, n)
  fits_form fs i (Some (AName x)) h n = n
  fits_form fs i (Some AnyOther) h n = n
  fits_form fs i None h n = absurd h

  -- what is no function constant is evaluated where data come back
  pub fits_data : (fs : List Form) (i : ℕ) (k : Option Address) → TakesData p t fs k → IsConstantNone p t i → FitsAt p t fs k i
  fits_data fs i None h n = n
  fits_data fs i (Some a) h n = fits_form fs i (slice_get fs a) h n

  -- a part is evaluated under a new frame
  pub awaiting_well : (w : Awaits) (k : Option Address) (i : ℕ) (env : Env) → AwaitsWell p t forms w → TakesData p t forms k → HoldsWell p t forms env → FitsForm p t (forms ++ form (Frame w k) ∷ []) (Some (form (Frame w k))) i → Goes (awaiting m w k (Eval i env))
  awaiting_well w k i env hw hk he hf =
      let more = form (Frame w k) ∷ [] in
      making_well (Frame w k) (λ a. Eval i env (Some a)) (hw, hk) (env_up p t forms more env he, subst (λ o. FitsForm p t (forms ++ more) o i) (sym (new_form (Frame w k))) hf)

  pub going_eval : (i : ℕ) (env : Env) (k : Option Address) → HoldsWell p t forms env → IsConstantNone p t i → TakesData p t forms k → Goes (going m (Eval i env k))
  going_eval i env k h n hk = going_well (Eval i env k) (h, fits_data forms i k hk n)
