-- Primitives and comparisons answer data.
use Rattle.std.proofs.Common.{◌≡◌, ℕ, suc, Bool, true, false, List, [], ◌∷◌, ◌++◌, length, Option, Some, None, refl, sym, ap, ◌∙◌, subst, map, arith, append_assoc, length-append}
use Rattle.std.specs.Prelude.{IfSome, slice_get, cond, not}
use Rattle.std.specs.Option.{option_map}
use Rattle.std.specs.List.{AllByRecursion}
use Rattle.std.proofs.lemmas.List.{length-map}
use Rattle.std.proofs.lemmas.Option.{slice_get-map}
use Rattle.simulation.proofs.Lists.{get_last, get_append}
use Rattle.smlc_base.specs.declared.primitive.Primitive.{Primitive}
use Rattle.smlc_base.specs.declared.primitive.Primitive.TheVariants as prim
use Rattle.sml_tree.specs.declared.bare.Bare.{Bare}
use Rattle.sml_types.specs.Library.{exn_ty, library_exn}
use Rattle.sml_types.specs.Typing.{Typing}
use Rattle.prim_meaning.specs.Data as dat
use Rattle.prim_meaning.specs.Meaning as mean
use Rattle.prim_meaning.specs.Meaning.{Seen, Outcome, Verdict, Kind, OfData, Derefs, AssignsTo, Implodes, IsEqual, kind_of, plainly, deref, assign, letters, imploded, equals, by_kind, meaning, takes_one, turn, is_deep, decided, compared, datum}
use Rattle.sml_def.specs.Builtin.{see, see_text, see_block, see_builtin, exn_of, carry_plain, carry, arguments_of, pend, by_verdict, builtin}
use Rattle.sml_def.specs.Memory.{Memory}
use Rattle.sml_def.specs.State.{Value, Number, Letter, Nothing, Tag, Constant, Builtin, Maker, RefMaker, Library, At, Address, Block, Tuple, Applied, Text, Cell, ExnName, Packet, Closure, Frame, Pending, Raise, Eq, truth}
use Rattle.sml_def.specs.Step.{compare}
use Rattle.sml_def.proofs.Effects.{all_append, all_get}
use Rattle.sml_def.proofs.Options.{bind_some, if_some}
use Rattle.sane_laws.specs.Flow.{Form, AnyOther, form, forms_of, IsDatum, AreData, TakesData, DatumForm, BlockWell}
use Rattle.sane_laws.proofs.Grow.{takes_up}
use Rattle.sane_laws.proofs.Values.{fields_data}
use Rattle.sane_laws.proofs.Steps.{ActWell, Ready, Goes, going_well, all_well, making_well, new_form, datum_comes, ret_datum, made_datum, forms}

module _ {p : Bare} {t : Typing} {m : Memory} (ready : Ready p t m) where
  -- what comes of data is data, and a cell alone is written
  abbrev OutcomeWell : Outcome Value → Type 0
  OutcomeWell (mean.Gives v) = IsDatum p t (forms ready) v
  OutcomeWell (mean.Assigns a v) = (slice_get (forms ready) a ≡ Some AnyOther) × IsDatum p t (forms ready) v
  OutcomeWell _ = Unit {0}

  -- ---- Cells

  deref_block : (a : Address) (o : Option Block) → IfSome o (BlockWell p t (forms ready)) → IfSome (deref (see_block a o)) OutcomeWell
  deref_block a (Some (Cell v)) h = h
  deref_block a (Some (Tuple vs)) h = tt
  deref_block a (Some (Applied n v)) h = tt
  deref_block a (Some (Text bytes)) h = tt
  deref_block a (Some (ExnName x)) h = tt
  deref_block a (Some (Packet x v)) h = tt
  deref_block a (Some (Closure i rules env)) h = tt
  deref_block a (Some (Frame w next)) h = tt
  deref_block a (Some (Pending v w next)) h = tt
  deref_block a None h = tt

  deref_text : (o : Option (List ℕ)) → IfSome (deref {V = Value} (see_text o)) OutcomeWell
  deref_text None = tt
  deref_text (Some bytes) = tt

  deref_builtin : (f : Primitive) → IfSome (deref {V = Value} (see_builtin f)) OutcomeWell
  deref_builtin prim.StdIn = tt
  deref_builtin _ = tt

  deref_well : (v : Value) → IfSome (deref (see p.texts m.store v)) OutcomeWell
  deref_well (At a) = deref_block a (slice_get m.store a) (all_get (BlockWell p t (forms ready)) m.store a ready.store)
  deref_well (Constant n) = deref_text (slice_get p.texts n)
  deref_well (Builtin f) = deref_builtin f
  deref_well (Number z) = tt
  deref_well (Letter c) = tt
  deref_well Nothing = tt
  deref_well (Tag n) = tt
  deref_well (Maker n) = tt
  deref_well RefMaker = tt
  deref_well (Library e) = tt

  assign_block : (a : Address) (w : Value) (o : Option Block) → slice_get m.store a ≡ o → IsDatum p t (forms ready) w → IfSome (assign (see_block a o) w) OutcomeWell
  assign_block a w (Some (Cell v)) e h = (slice_get-map form m.store a ∙ ap (option_map form) e, h)
  assign_block a w (Some (Tuple vs)) e h = tt
  assign_block a w (Some (Applied n v)) e h = tt
  assign_block a w (Some (Text bytes)) e h = tt
  assign_block a w (Some (ExnName x)) e h = tt
  assign_block a w (Some (Packet x v)) e h = tt
  assign_block a w (Some (Closure i rules env)) e h = tt
  assign_block a w (Some (Frame u next)) e h = tt
  assign_block a w (Some (Pending v u next)) e h = tt
  assign_block a w None e h = tt

  assign_text : (o : Option (List ℕ)) (w : Value) → IfSome (assign (see_text o) w) OutcomeWell
  assign_text None w = tt
  assign_text (Some bytes) w = tt

  assign_builtin : (f : Primitive) (w : Value) → IfSome (assign (see_builtin f) w) OutcomeWell
  assign_builtin prim.StdIn w = tt
  assign_builtin _ w = tt

  assign_well : (v w : Value) → IsDatum p t (forms ready) w → IfSome (assign (see p.texts m.store v) w) OutcomeWell
  assign_well (At a) w h = assign_block a w (slice_get m.store a) refl h
  assign_well (Constant n) w h = assign_text (slice_get p.texts n) w
  assign_well (Builtin f) w h = assign_builtin f w
  assign_well (Number z) w h = tt
  assign_well (Letter c) w h = tt
  assign_well Nothing w h = tt
  assign_well (Tag n) w h = tt
  assign_well (Maker n) w h = tt
  assign_well RefMaker w h = tt
  assign_well (Library e) w h = tt

  -- ---- Primitives

  plainly_well : (o : Option dat.Plain) → IfSome (plainly {V = Value} o) OutcomeWell
  plainly_well None = tt
  plainly_well (Some r) = tt

  imploded_well : (o : Option (List ℕ)) → IfSome (imploded (see p.texts m.store) o) OutcomeWell
  imploded_well None = tt
  imploded_well (Some bytes) = tt

  equals_well : (v w : Value) (q : Bool) → OutcomeWell (equals (see p.texts m.store) v w q)
  equals_well v w q = go (is_deep (see p.texts m.store v) (see p.texts m.store w))
    where
      go : (b : Bool) → OutcomeWell (cond b (mean.Compares v w q) (mean.Comes (dat.truth (decided (compared (see p.texts m.store v) (see p.texts m.store w)) q))))
      go true = tt
      go false = tt

  kind_well : (f : Primitive) (k : Kind) (args : List Value) → AreData p t (forms ready) args → IfSome (by_kind (see p.texts m.store) (length m.store) m.input f k args) OutcomeWell
  kind_well f OfData args h = plainly_well (dat.plain m.input f (map (λ v. datum (see p.texts m.store v)) args))
  kind_well f Derefs [] h = tt
  kind_well f Derefs (v ∷ []) h = deref_well v
  kind_well f Derefs (v ∷ w ∷ args) h = tt
  kind_well f AssignsTo [] h = tt
  kind_well f AssignsTo (v ∷ []) h = tt
  kind_well f AssignsTo (v ∷ w ∷ []) h = assign_well v w h.1.0
  kind_well f AssignsTo (v ∷ w ∷ u ∷ args) h = tt
  kind_well f Implodes [] h = tt
  kind_well f Implodes (v ∷ []) h = imploded_well (letters (see p.texts m.store) (suc (length m.store)) v)
  kind_well f Implodes (v ∷ w ∷ args) h = tt
  kind_well f (IsEqual q) [] h = tt
  kind_well f (IsEqual q) (v ∷ []) h = tt
  kind_well f (IsEqual q) (v ∷ w ∷ []) h = equals_well v w q
  kind_well f (IsEqual q) (v ∷ w ∷ u ∷ args) h = tt

  arguments_data : (b : Bool) (v : Value) → IsDatum p t (forms ready) v → IfSome (arguments_of b m.store v) (AreData p t (forms ready))
  arguments_data true v h = (h, tt)
  arguments_data false v h = fields_data p t m.store ready.store v

  -- ---- What is carried out

  failure_datum : (f : dat.Failure) → library_exn (exn_of f) ≡ exn_ty
  failure_datum dat.TooLarge = refl
  failure_datum dat.ByZero = refl
  failure_datum dat.NoCharacter = refl
  failure_datum dat.OutOfRange = refl

  plain_well : (k : Option Address) (r : dat.Plain) → TakesData p t (forms ready) k → Goes ready (carry_plain m k r)
  plain_well k (dat.ANumber z) hk = ret_datum ready (Number z) k tt hk
  plain_well k (dat.ALetter c) hk = ret_datum ready (Letter c) k tt hk
  plain_well k (dat.ATag n) hk = ret_datum ready (Tag n) k tt hk
  plain_well k (dat.AString bytes) hk = made_datum ready (Text bytes) k refl tt hk
  plain_well k (dat.Fails f) hk = going_well ready (Raise (Library (exn_of f)) k) (failure_datum f)
  plain_well k (dat.Writes bytes) hk = record { effects = tt; control = datum_comes ready (forms ready) Nothing k hk tt }
  plain_well k (dat.ALine line left) hk =
      let a = length m.store in
      let two = AnyOther ∷ AnyOther ∷ [] in
      let first : slice_get (forms ready ++ two) a ≡ Some AnyOther = first_new in
      record {
        effects = ((tt, (subst (DatumForm p t (forms ready ++ two)) (sym first) tt, tt)), tt);
        control = datum_comes ready (forms ready ++ two) (At (suc a)) k (takes_up p t (forms ready) two k hk) (subst (DatumForm p t (forms ready ++ two)) (sym second_new) tt);
      }
    where
      first_new : slice_get (forms ready ++ AnyOther ∷ AnyOther ∷ []) (length m.store) ≡ Some AnyOther
      first_new =
          ap (λ l. slice_get l (length m.store)) (sym (append_assoc (forms ready) (AnyOther ∷ []) (AnyOther ∷ [])))
          ∙ get_append (forms ready ++ AnyOther ∷ []) (AnyOther ∷ []) (length m.store) AnyOther (new_form ready (Text []))

      second_new : slice_get (forms ready ++ AnyOther ∷ AnyOther ∷ []) (suc (length m.store)) ≡ Some AnyOther
      second_new =
          let front = forms ready ++ AnyOther ∷ [] in
          let n : suc (length m.store) ≡ length front = omega (arith, length-map m.store form, length-append (forms ready) (AnyOther ∷ [])) in
          ap (slice_get (forms ready ++ AnyOther ∷ AnyOther ∷ [])) n ∙ ap (λ l. slice_get l (length front)) (sym (append_assoc (forms ready) (AnyOther ∷ []) (AnyOther ∷ []))) ∙ get_last front AnyOther

  outcome_well : (k : Option Address) (o : Outcome Value) → OutcomeWell o → TakesData p t (forms ready) k → Goes ready (carry m k o)
  outcome_well k (mean.Comes r) h hk = plain_well k r hk
  outcome_well k (mean.Gives v) h hk = ret_datum ready v k h hk
  outcome_well k (mean.Assigns a v) h hk = record { effects = (h.0, h.1, tt); control = datum_comes ready (forms ready) Nothing k hk tt }
  outcome_well k (mean.Compares v w q) h hk =
      making_well ready (Pending v w None) (λ a. Eq (Some a) q k) tt (takes_up p t (forms ready) (AnyOther ∷ []) k hk)

  -- a primitive on a datum
  pub builtin_well : (k : Option Address) (f : Primitive) (v : Value) → IsDatum p t (forms ready) v → TakesData p t (forms ready) k → Goes ready (builtin p.texts m k f v)
  builtin_well k f v h hk =
      bind_some (ActWell p t m.store) (arguments_of (takes_one f) m.store v) _ (λ args e.
      bind_some (ActWell p t m.store) (meaning (see p.texts m.store) (length m.store) m.input f args) _ (λ o g.
      outcome_well k o (if_some OutcomeWell (meaning (see p.texts m.store) (length m.store) m.input f args) o g (kind_well f (kind_of f) args (if_some (AreData p t (forms ready)) (arguments_of (takes_one f) m.store v) args e (arguments_data (takes_one f) v h)))) hk))

  -- ---- Comparisons

  pend_well : (fs : List Form) (pairs : List (Value × Value)) (next : Option Address) (a : Address) → AllByRecursion (BlockWell p t fs) (pend pairs next a).0
  pend_well fs [] next a = tt
  pend_well fs (q ∷ pairs) next a =
      all_append (BlockWell p t fs) (pend pairs next a).0 (Pending q.0 q.1 (pend pairs next a).1 ∷ []) (pend_well fs pairs next a) (tt, tt)

  verdict_well : (r : Verdict Value) (next : Option Address) (q : Bool) (k : Option Address) → TakesData p t (forms ready) k → Goes ready (by_verdict m r next q k)
  verdict_well mean.Equal next q k hk = going_well ready (Eq next q k) hk
  verdict_well mean.Unequal next q k hk = ret_datum ready (truth (not q)) k tt hk
  verdict_well (mean.AsPairs pairs) next q k hk =
      let made = (pend pairs next (length m.store)).0 in
      all_well ready made (Eq (pend pairs next (length m.store)).1 q k) (pend_well (forms ready ++ forms_of made) pairs next (length m.store)) (takes_up p t (forms ready) (forms_of made) k hk)

  pub compare_well : (o : Option Block) (q : Bool) (k : Option Address) → TakesData p t (forms ready) k → Goes ready (compare p m o q k)
  compare_well (Some (Pending v w next)) q k hk = verdict_well (turn (see p.texts m.store) v w) next q k hk
  compare_well _ q k hk = tt
