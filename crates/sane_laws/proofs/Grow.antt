-- What holds in a store holds when blocks are made.
use Rattle.std.proofs.Common.{◌≡◌, ℕ, Bool, true, false, List, ◌++◌, Option, Some, None, refl, sym, subst}
use Rattle.std.specs.Prelude.{slice_get}
use Rattle.simulation.proofs.Lists.{get_append}
use Rattle.sml_tree.specs.declared.bare.Bare.{Bare}
use Rattle.sml_types.specs.Tree.{Tree}
use Rattle.sml_types.specs.Typing.{Typing}
use Rattle.sml_def.specs.State.{Value, Number, Letter, Nothing, Tag, Constant as Text, Builtin, Maker, RefMaker, Library, At, Env, Address, Awaits, FunctionPart, ArgumentPart, FieldPart, Subject, RightSide, RaisePart, Guarded, Block, Tuple, Applied, Cell, Packet, Closure, Frame}
use Rattle.sml_def.proofs.Effects.{all_map}
use Rattle.sane_laws.specs.Flow.{Form, AName, AFunctionPart, AnyOther, is_exception_name, DatumForm, IsDatum, AreData, NameForm, IsNameOf, IsHeld, HoldsWell, TakesForm, TakesData, AwaitsWell, BlockWell}

module _ (p : Bare) (t : Typing) (forms more : List Form) where
  datum_form : (a : Address) (o : Option Form) → slice_get forms a ≡ o → DatumForm p t forms o → DatumForm p t (forms ++ more) (slice_get (forms ++ more) a)
  datum_form a None e h = absurd h
  datum_form a (Some (AName x)) e h = subst (DatumForm p t (forms ++ more)) (sym (get_append forms more a (AName x) e)) h
  datum_form a (Some (AFunctionPart f)) e h = subst (DatumForm p t (forms ++ more)) (sym (get_append forms more a (AFunctionPart f) e)) tt
  datum_form a (Some AnyOther) e h = subst (DatumForm p t (forms ++ more)) (sym (get_append forms more a AnyOther e)) tt

  pub datum_up : (v : Value) → IsDatum p t forms v → IsDatum p t (forms ++ more) v
  datum_up (Maker n) h = absurd h
  datum_up RefMaker h = absurd h
  datum_up (Builtin f) h = h
  datum_up (Library e) h = h
  datum_up (At a) h = datum_form a (slice_get forms a) refl h
  datum_up (Number z) h = tt
  datum_up (Letter c) h = tt
  datum_up Nothing h = tt
  datum_up (Tag n) h = tt
  datum_up (Text n) h = tt

  name_form : (u : Tree) (a : Address) (o : Option Form) → slice_get forms a ≡ o → NameForm p t forms u o → NameForm p t (forms ++ more) u (slice_get (forms ++ more) a)
  name_form u a (Some (AName x)) e h = subst (NameForm p t (forms ++ more) u) (sym (get_append forms more a (AName x) e)) h
  name_form u a (Some (AFunctionPart f)) e h = absurd h
  name_form u a (Some AnyOther) e h = absurd h
  name_form u a None e h = absurd h

  name_up : (u : Tree) (v : Value) → IsNameOf p t forms u v → IsNameOf p t (forms ++ more) u v
  name_up u (Library e) h = h
  name_up u (At a) h = name_form u a (slice_get forms a) refl h
  name_up u _ h = absurd h

  held_up : (b : Bool) (x : ℕ) (v : Value) → IsHeld p t forms b x v → IsHeld p t (forms ++ more) b x v
  held_up true x v h = name_up (t.schemes x).body v h
  held_up false x v h = datum_up v h

  pub env_up : (env : Env) → HoldsWell p t forms env → HoldsWell p t (forms ++ more) env
  env_up env h =
      all_map (λ b. IsHeld p t forms (is_exception_name p t b.0) b.0 b.1) (λ b. IsHeld p t (forms ++ more) (is_exception_name p t b.0) b.0 b.1) (λ b. held_up (is_exception_name p t b.0) b.0 b.1) env h

  pub data_up : (vs : List Value) → AreData p t forms vs → AreData p t (forms ++ more) vs
  data_up vs h = all_map (IsDatum p t forms) (IsDatum p t (forms ++ more)) datum_up vs h

  takes_form : (a : Address) (o : Option Form) → slice_get forms a ≡ o → TakesForm p t forms o → TakesForm p t (forms ++ more) (slice_get (forms ++ more) a)
  takes_form a (Some (AFunctionPart f)) e h = subst (TakesForm p t (forms ++ more)) (sym (get_append forms more a (AFunctionPart f) e)) h
  takes_form a (Some (AName x)) e h = subst (TakesForm p t (forms ++ more)) (sym (get_append forms more a (AName x) e)) tt
  takes_form a (Some AnyOther) e h = subst (TakesForm p t (forms ++ more)) (sym (get_append forms more a AnyOther e)) tt
  takes_form a None e h = absurd h

  pub takes_up : (k : Option Address) → TakesData p t forms k → TakesData p t (forms ++ more) k
  takes_up None h = tt
  takes_up (Some a) h = takes_form a (slice_get forms a) refl h

  awaits_up : (w : Awaits) → AwaitsWell p t forms w → AwaitsWell p t (forms ++ more) w
  awaits_up (FunctionPart f a env) h = (env_up env h.0, h.1)
  awaits_up (ArgumentPart a f) h = tt
  awaits_up (FieldPart e fields before later env) h = (data_up before h.0, env_up env h.1, h.2)
  awaits_up (Subject e rules env) h = (env_up env h.0, h.1)
  awaits_up (RightSide b later body env) h = (env_up env h.0, h.1, h.2)
  awaits_up (RaisePart e) h = tt
  awaits_up (Guarded i rules env) h = (env_up env h.0, h.1)

  pub block_up : (b : Block) → BlockWell p t forms b → BlockWell p t (forms ++ more) b
  block_up (Tuple vs) h = data_up vs h
  block_up (Applied n v) h = datum_up v h
  block_up (Cell v) h = datum_up v h
  block_up (Packet x v) h = datum_up v h
  block_up (Closure i rules env) h = (env_up env h.0, h.1)
  block_up (Frame w next) h = (awaits_up w h.0, takes_up next h.1)
  block_up _ h = tt
