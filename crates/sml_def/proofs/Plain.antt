-- The primitives, comparisons and the end evaluate nothing, and make no closure and no frame.
use Rattle.std.proofs.Common.{Bool, true, false, List, [], ◌∷◌, length, Option, Some, None}
use Rattle.std.specs.Prelude.{IfSome, cond}
use Rattle.std.specs.List.{AllByRecursion}
use Rattle.smlc_base.specs.declared.primitive.Primitive.{Primitive}
use Rattle.sml_tree.specs.declared.bare.Bare.{Bare}
use Rattle.simulation.specs.Stores.{Act}
use Rattle.sml_def.proofs.Effects.{all_append, EffectHas}
use Rattle.sml_def.proofs.Options.{bind_some}
use Rattle.sml_def.specs.State.{Value, At, Address, Block, Text, Closure, Frame, Pending, Uncaught, Control, Eval, Ret, Eq, End, Focus}
use Rattle.sml_def.specs.Memory.{Memory, Next, going, making, making_all}
use Rattle.prim_meaning.specs.Data as dat
use Rattle.prim_meaning.specs.Meaning as mean
use Rattle.prim_meaning.specs.Meaning.{Outcome, Verdict, meaning, turn, takes_one}
use Rattle.sml_def.specs.Builtin.{see, carry_plain, carry, arguments_of, pend, by_verdict, builtin}
use Rattle.sml_def.specs.Step.{exn_name, name_of, uncaught, compare}

abbrev pub IsIdle : Control → Type 0
IsIdle (Eval i env k) = ⊥
IsIdle _ = Unit {0}

abbrev pub IsPlainBlock : Block → Type 0
IsPlainBlock (Closure i rules env) = ⊥
IsPlainBlock (Frame w next) = ⊥
IsPlainBlock _ = Unit {0}

pub record IsPlainAct (a : Act Focus Block) : Type 0 where
  pub control : IsIdle a.next.control
  pub effects : AllByRecursion (EffectHas IsPlainBlock) a.effects

module _ (p : Bare) (s : Memory) where
  abbrev pub Plain : Next → Type 0
  Plain o = IfSome o IsPlainAct

  going_plain : (c : Control) → IsIdle c → Plain (going s c)
  going_plain c h = record { control = h; effects = tt }

  all_plain : (blocks : List Block) (c : Control) → AllByRecursion IsPlainBlock blocks → IsIdle c → Plain (making_all s blocks c)
  all_plain blocks c hb hc = record { control = hc; effects = (hb, tt) }

  making_plain : (b : Block) (f : Address → Control) → IsPlainBlock b → IsIdle (f (length s.store)) → Plain (making s b f)
  making_plain b f hb hc = record { control = hc; effects = ((hb, tt), tt) }

  cond_plain : (t : Bool) (o q : Next) → Plain o → Plain q → Plain (cond t o q)
  cond_plain true o q h g = h
  cond_plain false o q h g = g

  pub uncaught_plain : (x : Value) → Plain (uncaught p s x)
  uncaught_plain x =
      bind_some IsPlainAct (exn_name p s.store (name_of p s.store x)) (λ q. going s (End (Uncaught q))) (λ q e. going_plain (End (Uncaught q)) tt)

  pend_plain : (pairs : List (Value × Value)) (next : Option Address) (a : Address) → AllByRecursion IsPlainBlock (pend pairs next a).0
  pend_plain [] next a = tt
  pend_plain (q ∷ pairs) next a =
      all_append IsPlainBlock (pend pairs next a).0 (Pending q.0 q.1 (pend pairs next a).1 ∷ []) (pend_plain pairs next a) (tt, tt)

  verdict_plain : (r : Verdict Value) (next : Option Address) (t : Bool) (k : Option Address) → Plain (by_verdict s r next t k)
  verdict_plain mean.Equal next t k = going_plain (Eq next t k) tt
  verdict_plain mean.Unequal next t k = going_plain _ tt
  verdict_plain (mean.AsPairs pairs) next t k = all_plain _ _ (pend_plain pairs next (length s.store)) tt

  pub compare_plain : (o : Option Block) (t : Bool) (k : Option Address) → Plain (compare p s o t k)
  compare_plain (Some (Pending v w next)) t k = verdict_plain (turn (see p.texts s.store) v w) next t k
  compare_plain _ t k = tt

  -- ---- The primitives

  carried_plain : (k : Option Address) (r : dat.Plain) → Plain (carry_plain s k r)
  carried_plain k (dat.ANumber z) = going_plain _ tt
  carried_plain k (dat.ALetter c) = going_plain _ tt
  carried_plain k (dat.ATag n) = going_plain _ tt
  carried_plain k (dat.AString bytes) = making_plain (Text bytes) (λ a. Ret (At a) k) tt tt
  carried_plain k (dat.Fails f) = going_plain _ tt
  carried_plain k (dat.Writes bytes) = record { control = tt; effects = tt }
  carried_plain k (dat.ALine line left) = record { control = tt; effects = ((tt, (tt, tt)), tt) }

  outcome_plain : (k : Option Address) (o : Outcome Value) → Plain (carry s k o)
  outcome_plain k (mean.Comes r) = carried_plain k r
  outcome_plain k (mean.Gives v) = going_plain _ tt
  outcome_plain k (mean.Assigns a v) = record { control = tt; effects = (tt, tt) }
  outcome_plain k (mean.Compares v w t) = making_plain (Pending v w None) (λ a. Eq (Some a) t k) tt tt

  pub builtin_plain : (k : Option Address) (f : Primitive) (v : Value) → Plain (builtin p.texts s k f v)
  builtin_plain k f v =
      bind_some IsPlainAct (arguments_of (takes_one f) s.store v) _ (λ args e.
      bind_some IsPlainAct (meaning (see p.texts s.store) (length s.store) s.input f args) _ (λ o g. outcome_plain k o))
