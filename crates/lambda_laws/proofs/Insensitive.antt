-- Primitives and tests see of a lowered store what they see of the store.
use Rattle.std.proofs.Common.{◌≡◌, ℕ, suc, Bool, true, false, List, [], ◌∷◌, length, Option, Some, None, refl, ap, ◌∙◌, map}
use Rattle.std.proofs.lemmas.List.{length-map}
use Rattle.std.specs.Prelude.{slice_get, IfSome}
use Rattle.std.specs.List.{AllByRecursion}
use Rattle.std.specs.Option.{option_map}
use Rattle.std.proofs.lemmas.Option.{slice_get-map}
use Rattle.smlc_base.specs.declared.primitive.Primitive.{Primitive}
use Rattle.sml_tree.specs.declared.bare.Bare.{Bare}
use Rattle.sml_types.specs.declared.tables.TypeName.{TypeName}
use Rattle.simulation.specs.Stores.{Effect, Append, Put, makes, effect_over}
use Rattle.sml_def.specs.Maybe.{◌>>=◌, or_else}
use Rattle.sml_def.specs.State.{Value, Nothing, Library, At, Env, Address, Block, Tuple, Applied, Text, Cell, ExnName, Packet, Closure, Frame, Pending, Control, Ret, Eq}
use Rattle.sml_def.specs.Memory.{Memory, Next, focus, making, making_all}
use Rattle.sml_def.specs.Match.{block_of, tuple_block, fields_of, packet_block}
use Rattle.prim_meaning.specs.Data as dat
use Rattle.prim_meaning.specs.Meaning as mean
use Rattle.prim_meaning.specs.Meaning.{Outcome, Verdict, meaning, turn, takes_one}
use Rattle.prim_meaning.proofs.Pointwise as pointwise
use Rattle.prim_meaning.proofs.Pointwise.{turn_same, meaning_same}
use Rattle.sml_def.specs.Builtin.{see_block, see, which, carry_plain, carry, arguments_of, pend, by_verdict, builtin}
use Rattle.sml_def.specs.Step.{exn_name, name_of, spelled, compare}
use Rattle.sml_def.proofs.Effects.{EffectHas}
use Rattle.sml_def.proofs.Plain.{IsPlainBlock, IsPlainAct}
use Rattle.smlc_base.specs.declared.match_tests.Test.{Test}
use Rattle.smlc_base.specs.declared.match_tests.Named.{Named}
use Rattle.lambda_ir.specs.declared.term.Case.{Case}
use Rattle.lambda_ir.specs.Tests as tests
use Rattle.lambda_ir.specs.State.{Plain, datum_of}
use Rattle.lambda_ir.specs.Step.{as_bare, seen_memory, plain_effect, plainly}
use Rattle.lambda_laws.specs.Make.{lambda_of}
use Rattle.lambda_laws.specs.Lower.{lower, lower_store, lower_memory, lowered}

pub bind_same : {A B : Type 0} (o q : Option A) (f g : A → Option B) → o ≡ q → ((x : A) → f x ≡ g x) → (o >>= f) ≡ (q >>= g)
bind_same o None f g e h = ap (λ o. o >>= f) e
bind_same o (Some x) f g e h = ap (λ o. o >>= f) e ∙ h x

pub or_same : {A B : Type 0} (o q : Option A) (f g : A → B) (c d : B) → o ≡ q → ((x : A) → f x ≡ g x) → c ≡ d → or_else o f c ≡ or_else q g d
or_same o None f g c d e h k = ap (λ o. or_else o f c) e ∙ k
or_same o (Some x) f g c d e h k = ap (λ o. or_else o f c) e ∙ h x

module _ (ts : List TypeName) (p : Bare) (m : Memory) where
  abbrev q : Bare
  q = as_bare (lambda_of ts p)

  abbrev few : Memory
  few = seen_memory (lower_memory ts p.nodes m)

  abbrev twice : Option Block → Option Block
  twice o = option_map datum_of (option_map (lower ts p.nodes) o)

  pub get_same : (a : ℕ) → slice_get few.store a ≡ twice (slice_get m.store a)
  get_same a = slice_get-map datum_of (lower_store ts p.nodes m.store) a ∙ ap (option_map datum_of) (slice_get-map (lower ts p.nodes) m.store a)

  pub len_same : length few.store ≡ length m.store
  len_same = length-map (lower_store ts p.nodes m.store) datum_of ∙ length-map m.store (lower ts p.nodes)

  block_same : (v : Value) → block_of few.store v ≡ twice (block_of m.store v)
  block_same (At a) = get_same a
  block_same _ = refl

  -- ---- What is seen

  block_in : (a : Address) (o : Option Block) → see_block a (twice o) ≡ see_block a o
  block_in a None = refl
  block_in a (Some (Tuple vs)) = refl
  block_in a (Some (Applied k v)) = refl
  block_in a (Some (Text bytes)) = refl
  block_in a (Some (Cell v)) = refl
  block_in a (Some (ExnName x)) = refl
  block_in a (Some (Packet x v)) = refl
  block_in a (Some (Closure i rules env)) = refl
  block_in a (Some (Frame w next)) = refl
  block_in a (Some (Pending v w next)) = refl

  -- the lowered machine sees each value as the source does
  pub seen_same : (v : Value) → see p.texts few.store v ≡ see p.texts m.store v
  seen_same (At a) = ap (see_block a) (get_same a) ∙ block_in a (slice_get m.store a)
  seen_same _ = refl

  tuple_in : (o : Option Block) → tuple_block (twice o) ≡ tuple_block o
  tuple_in None = refl
  tuple_in (Some (Tuple vs)) = refl
  tuple_in (Some _) = refl

  packet_in : (o : Option Block) → packet_block (twice o) ≡ packet_block o
  packet_in None = refl
  packet_in (Some (Packet x v)) = refl
  packet_in (Some _) = refl

  spelled_in : (o : Option Block) → spelled q (twice o) ≡ spelled p o
  spelled_in None = refl
  spelled_in (Some (ExnName x)) = refl
  spelled_in (Some _) = refl

  pub fields_same : (v : Value) → fields_of few.store v ≡ fields_of m.store v
  fields_same Nothing = refl
  fields_same (At a) = ap tuple_block (get_same a) ∙ tuple_in (slice_get m.store a)
  fields_same _ = refl

  packet_same : (v : Value) → packet_block (block_of few.store v) ≡ packet_block (block_of m.store v)
  packet_same v = ap packet_block (block_same v) ∙ packet_in (block_of m.store v)

  -- ---- The primitives

  making_same : (b : Block) (f : Address → Control) → making few b f ≡ making m b f
  making_same b f = ap (λ n. makes (focus m (f n)) (b ∷ [])) len_same

  verdict_same : (r : Verdict Value) (next : Option Address) (t : Bool) (k : Option Address) → by_verdict few r next t k ≡ by_verdict m r next t k
  verdict_same mean.Equal next t k = refl
  verdict_same mean.Unequal next t k = refl
  verdict_same (mean.AsPairs pairs) next t k = ap (λ n. making_all m (pend pairs next n).0 (Eq (pend pairs next n).1 t k)) len_same

  pub compared_same : (v w : Value) (next : Option Address) (t : Bool) (k : Option Address) → compare q few (Some (Pending v w next)) t k ≡ compare p m (Some (Pending v w next)) t k
  compared_same v w next t k =
      ap (λ r. by_verdict few r next t k) (turn_same (see p.texts m.store) (see p.texts few.store) seen_same v w) ∙ verdict_same (turn (see p.texts m.store) v w) next t k

  module _ (k : Option Address) where
    plain_carried : (r : dat.Plain) → carry_plain few k r ≡ carry_plain m k r
    plain_carried (dat.ANumber z) = refl
    plain_carried (dat.ALetter c) = refl
    plain_carried (dat.ATag n) = refl
    plain_carried (dat.AString bytes) = making_same (Text bytes) (λ a. Ret (At a) k)
    plain_carried (dat.Fails f) = refl
    plain_carried (dat.Writes bytes) = refl
    plain_carried (dat.ALine line left) =
        ap (λ n. makes (record { control = Ret (At (suc n)) k; input = left }) (Text line ∷ Applied 1 (At n) ∷ [])) len_same

    carried_same : (o : Outcome Value) → carry few k o ≡ carry m k o
    carried_same (mean.Comes r) = plain_carried r
    carried_same (mean.Gives v) = refl
    carried_same (mean.Assigns a v) = refl
    carried_same (mean.Compares v w t) = making_same (Pending v w None) (λ a. Eq (Some a) t k)

    arguments_same : (t : Bool) (v : Value) → arguments_of t few.store v ≡ arguments_of t m.store v
    arguments_same true v = refl
    arguments_same false v = fields_same v

    pub builtin_same : (f : Primitive) (v : Value) → builtin q.texts few k f v ≡ builtin p.texts m k f v
    builtin_same f v =
        bind_same (arguments_of (takes_one f) few.store v) (arguments_of (takes_one f) m.store v) _ _ (arguments_same (takes_one f) v) (λ vs.
        bind_same (meaning (see p.texts few.store) (length few.store) m.input f vs) (meaning (see p.texts m.store) (length m.store) m.input f vs) _ _ (ap (λ n. meaning (see p.texts few.store) n m.input f vs) len_same ∙ meaning_same (see p.texts m.store) (see p.texts few.store) seen_same (length m.store) m.input f vs) carried_same)

  -- ---- An uncaught packet

  spelled_same : (v : Value) → exn_name q few.store v ≡ exn_name p m.store v
  spelled_same (Library e) = refl
  spelled_same (At a) = ap (spelled q) (get_same a) ∙ spelled_in (slice_get m.store a)
  spelled_same _ = refl

  pub exn_same : (x : Value) → exn_name q few.store (name_of q few.store x) ≡ exn_name p m.store (name_of p m.store x)
  exn_same x =
      ap (exn_name q few.store) (or_same (packet_block (block_of few.store x)) (packet_block (block_of m.store x)) _ _ x x (packet_same x) (λ w. refl) refl)
      ∙ spelled_same (name_of p m.store x)

  -- ---- Tests

  module _ (env : Env) where
    pub chosen_same : (xs : List Test) (ns : List Named) (v : Value) → tests.chosen p.texts env (see p.texts few.store) xs ns v ≡ tests.chosen p.texts env (see p.texts m.store) xs ns v
    chosen_same xs ns v =
        pointwise.chosen_same (see p.texts m.store) (see p.texts few.store) seen_same which (tests.trials p.texts env xs) ns v

    pub first_same : (cases : List Case) (v : Value) → tests.first_case p.texts env (see p.texts few.store) cases v ≡ tests.first_case p.texts env (see p.texts m.store) cases v
    first_same cases v = pointwise.first_case_same (see p.texts m.store) (see p.texts few.store) seen_same which (map (tests.tried_of p.texts env) cases) v

  -- ---- What makes data alone

  plain_items : (bs : List Block) → AllByRecursion IsPlainBlock bs → map Plain bs ≡ map (lower ts p.nodes) bs
  plain_items [] h = refl
  plain_items (b ∷ bs) h = ap (λ x. x ∷ map Plain bs) (one b h.0) ∙ ap (λ xs. lower ts p.nodes b ∷ xs) (plain_items bs h.1)
    where
      one : (b : Block) → IsPlainBlock b → Plain b ≡ lower ts p.nodes b
      one (Closure i rules env) h = absurd h
      one (Frame w next) h = absurd h
      one _ h = refl

  plain_effects : (es : List (Effect Block)) → AllByRecursion (EffectHas IsPlainBlock) es → map plain_effect es ≡ map (effect_over (lower ts p.nodes)) es
  plain_effects [] h = refl
  plain_effects (Append bs ∷ es) h = ap (λ x. Append x ∷ map plain_effect es) (plain_items bs h.0) ∙ ap (λ xs. Append (map (lower ts p.nodes) bs) ∷ xs) (plain_effects es h.1)
  plain_effects (Put a b ∷ es) h = ap (λ x. Put a x ∷ map plain_effect es) (one b h.0) ∙ ap (λ xs. Put a (lower ts p.nodes b) ∷ xs) (plain_effects es h.1)
    where
      one : (b : Block) → IsPlainBlock b → Plain b ≡ lower ts p.nodes b
      one (Closure i rules env) h = absurd h
      one (Frame w next) h = absurd h
      one _ h = refl

  pub plain_same : (o : Next) → IfSome o IsPlainAct → plainly o ≡ lowered ts p.nodes o
  plain_same None h = refl
  plain_same (Some a) h = ap (λ es. Some (record { next = a.next; told = a.told; effects = es })) (plain_effects a.effects h.effects)
