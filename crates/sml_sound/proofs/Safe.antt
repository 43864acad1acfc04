-- A step of a typed state leaves a typed state.
use Rattle.simulation.proofs.Lists.{get_last}
use Rattle.prim_meaning.specs.Meaning as mean
use Rattle.prim_meaning.specs.Meaning.{Verdict, turn}
use Rattle.sml_def.specs.Builtin.{see, by_verdict, pend, raising}
use Rattle.sml_def.specs.Memory.{Memory, making}
use Rattle.sml_def.specs.State.{Applied, Text, Cell, Packet, Pending, Eq, End, Normal, truth, Ending, Raise, Apply, ExnName, Library, Closure, Maker, RefMaker, Tag, Number, Letter, Nothing, Constant, Builtin, Value, At, Env, Address, Block, Tuple, Control, Eval, Ret}
use Rattle.sml_def.specs.Step.{apply, apply_block, compare, step, eval, ret, raised, by_rule}
use Rattle.sml_sound.proofs.Comparing.{PairsTy, turn_pairs}
use Rattle.sml_sound.proofs.Families.{single, agrees_self}
use Rattle.sml_sound.proofs.Grow.{store_get, comparable_up, compared_up, store_up, store_len, store_append, accepts_up}
use Rattle.sml_sound.proofs.Names.{rule_at, sorts_at}
use Rattle.sml_sound.proofs.SafeActs.{Ready, Safe, descend_append, going_safe, making_all_safe, accept_map, made_safe}
use Rattle.sml_sound.proofs.SafeBuiltin.{builtin_safe}
use Rattle.sml_sound.proofs.SafeEval.{eval_safe}
use Rattle.sml_sound.proofs.SafeNodes.{rule_safe, known, rules_exp, rules_pat, below}
use Rattle.sml_sound.proofs.SafePrimitives.{Takes1, ret_one, raise_one, is_one, made_one, true_false}
use Rattle.sml_sound.proofs.SafeReturns.{ret_safe, raised_safe, uncaught_safe}
use Rattle.sml_sound.proofs.Values.{exn_con}
use Rattle.sml_sound.specs.TypedStates.{IsComparable, InFamily, Compares, AreCompared, IsApplied, IsName, EntryTy, ApplyTy, BlockTy, Names, IsMaker, IsExnCon, data_ty, Agrees, Family, one, Entry, Holds, Takes, HasTy, EnvTy, Accepts, TakesAll, StoreTy, AllDescend, ControlTy}
use Rattle.sml_tree.proofs.FreeParts.{free_unfold}
use Rattle.sml_tree.specs.Free.{free}
use Rattle.sml_tree.specs.declared.bare.Bare.{Bare}
use Rattle.smlc_base.specs.declared.exception.LibraryExn.{LibraryExn}
use Rattle.smlc_base.specs.declared.exception.LibraryExn.TheVariants as exn
use Rattle.sml_tree.specs.declared.bare.Node.TheVariants as node
use Rattle.sml_tree.specs.declared.bare.Rule.{Rule}
use Rattle.sml_types.specs.Library.{bool_ty, exn_ty, library_exn, arrow, string_ty, ref_ty}
use Rattle.sml_types.specs.Tree.{Variable, Tree, inst}
use Rattle.sml_types.specs.Typing.{Typing}
use Rattle.sml_types.specs.declared.types.TyVar.{TyVar}
use Rattle.std.proofs.Common.{append_assoc, length-append, ⊎_elim, ◌≡◌, ℕ, ◌+◌, Bool, false, List, [], ◌∷◌, ◌++◌, length, Option, Some, None, refl, sym, ap, ◌∙◌, subst, arith, ◌⊎◌, inl, inr}
use Rattle.std.specs.Prelude.{not, slice_get}
use Rattle.std.specs.List.{AllByRecursion}

module _ {p : Bare} {t : Typing} {m : Memory} {sig : List Entry} (ready : Ready p t m sig) where
  -- ---- Apply

  -- where one type is asked there is one
  takes_single : (f : Family) (k : Option Address) → f.gens ≡ [] → Accepts p t sig k (TakesAll p t f) → Takes1 ready k (inst f.at f.ty)
  takes_single f k n hk =
      accept_map ready sig k (TakesAll p t f) (λ g b. ((v : Tree) → InFamily t.names g v → v ≡ inst f.at f.ty) × (b ≡ false)) (λ g b q. ((λ v i. single t.names f v n (q.0 v i)), q.1)) hk

  no_maker : (f : Value) (gens : List TyVar) → ((k : ℕ) → f ≡ Maker k → ⊥) → (gens ≡ []) ⊎ IsMaker p t f → gens ≡ []
  no_maker f gens never h = ⊎_elim (λ e. e) (λ k. absurd (never k.0 k.1)) h

  enter_safe : (i : ℕ) (rules : List Rule) (env : Env) (v : Value) (k : Option Address) (g : TyVar → Tree) (a b : Tree) → slice_get p.nodes i ≡ Some (node.Fn rules) → arrow a b ≡ inst g (t.types i) → EnvTy p t sig g (free p.nodes i) env → HasTy p t sig v a → Takes1 ready k b → Safe p t m.store (by_rule p m rules env v k (raising exn.MatchExn k))
  enter_safe i rules env v k g a b ei et he hv hk =
      let r = rule_at p t ready.typing ready.bare.numbered ready.bare.sorts i (node.Fn rules) ei in
      let s = sorts_at p t ready.typing ready.bare.numbered ready.bare.sorts i (node.Fn rules) ei in
      let same : arrow a b ≡ arrow (inst g r.0) (inst g r.1) = et ∙ ap (inst g) r.2 in
      let ea : a ≡ inst g r.0 = cc in
      let eb : b ≡ inst g r.1 = cc in
      rule_safe ready rules env v k (raising exn.MatchExn k) g r.0 r.1 (record { context = t.contexts i; match = r.3; bodies = rules_exp ready i rules s (ready.bare.numbered i (node.Fn rules) ei); pats = rules_pat ready rules s }) (subst (λ xs. EnvTy p t sig g xs env) (free_unfold p.nodes ready.bare.numbered i (node.Fn rules) ei) he) (subst (HasTy p t sig v) ea hv)
      (accept_map ready sig k (λ f c. ((v : Tree) → InFamily t.names f v → v ≡ b) × (c ≡ false)) (TakesAll p t (one g r.1)) (λ f c q. ((λ u x. (g, agrees_self t.names [] g he.0, q.0 u x ∙ eb)), q.1)) hk) (raise_one ready exn.MatchExn k b refl hk)

  packet_safe : (x v : Value) (k : Option Address) (a b : Tree) → IsName p t sig x (arrow a exn_ty) → HasTy p t sig v a → b ≡ exn_ty → Takes1 ready k b → Safe p t m.store (making m (Packet x v) (λ a. Ret (At a) k))
  packet_safe x v k a b hx hv e hk =
      made_one ready (Packet x v) k exn_ty ((λ u i. is_one ready exn_ty u i), a, hx, hv) tt (subst (Takes1 ready k) e hk)

  held_safe : (ad : Address) (w : Family) (a b : Tree) (c : Block) (v : Value) (k : Option Address) → BlockTy p t sig c (Holds w) → InFamily t.names w (arrow a b) → HasTy p t sig v a → Takes1 ready k b → Safe p t m.store (apply_block p m (Some c) (At ad) v k)
  held_safe ad w a b (Closure i rules env) v k h x hv hk =
      enter_safe i rules env v k x.0 a b h.0 (x.2 ∙ ap (inst x.0) h.1) (h.2 x.0 x.1) hv hk
  held_safe ad w a b (Tuple vs) v k h x hv hk = absurd (let y = h (arrow a b) x in let z = y.2 in cc)
  held_safe ad w a b (Applied n u) v k h x hv hk = absurd (let y = h (arrow a b) x in let z = y.3 in cc)
  held_safe ad w a b (Text bytes) v k h x hv hk = absurd (let z = h (arrow a b) x in cc)
  held_safe ad w a b (Cell u) v k h x hv hk = absurd (let z = h.1 (arrow a b) x in cc)
  held_safe ad w a b (Packet y u) v k h x hv hk = absurd (let z = h.0 (arrow a b) x in cc)
  held_safe ad w a b _ v k h x hv hk = absurd h

  named_safe : (ad : Address) (w a b : Tree) (c : Block) (v : Value) (k : Option Address) → slice_get sig ad ≡ Some (Names w) → BlockTy p t sig c (Names w) → arrow a b ≡ w → HasTy p t sig v a → Takes1 ready k b → Safe p t m.store (apply_block p m (Some c) (At ad) v k)
  named_safe ad w a b (ExnName x) v k g h e hv hk = go h.1
    where
      go : IsExnCon w → Safe p t m.store (apply_block p m (Some (ExnName x)) (At ad) v k)
      go (inl q) = absurd (let z = e ∙ q in cc)
      go (inr q) =
          let z : arrow a b ≡ arrow q.0 exn_ty = e ∙ q.1 in
          let ea : a ≡ q.0 = cc in
          let eb : b ≡ exn_ty = cc in
          packet_safe (At ad) v k a b (g ∙ ap (λ w. Some (Names w)) (q.1 ∙ ap (λ u. arrow u exn_ty) (sym ea))) hv eb hk
  named_safe ad w a b _ v k g h e hv hk = absurd h

  at_safe : (ad : Address) (e : Entry) (a b : Tree) (v : Value) (k : Option Address) → slice_get sig ad ≡ Some e → EntryTy p t e (arrow a b) → HasTy p t sig v a → Takes1 ready k b → Safe p t m.store (apply_block p m (slice_get m.store ad) (At ad) v k)
  at_safe ad (Holds w) a b v k g h hv hk =
      let c = store_get p t sig sig m.store ad (Holds w) ready.store g in
      subst (λ o. Safe p t m.store (apply_block p m o (At ad) v k)) (sym c.1) (held_safe ad w a b c.0 v k c.2 h hv hk)
  at_safe ad (Names w) a b v k g h hv hk =
      let c = store_get p t sig sig m.store ad (Names w) ready.store g in
      subst (λ o. Safe p t m.store (apply_block p m o (At ad) v k)) (sym c.1) (named_safe ad w a b c.0 v k g c.2 h hv hk)
  at_safe ad _ a b v k g h hv hk = absurd h

  maker_arg : (f : Family) (arg : Tree) (n : ℕ) (v : Value) → ((g : TyVar → Tree) → Agrees t.names f.gens f.at g → HasTy p t sig (Maker n) (arrow (inst g arg) (inst g f.ty))) → ((g : TyVar → Tree) → Agrees t.names f.gens f.at g → HasTy p t sig v (inst g arg)) → (u : Tree) → InFamily t.names f u → IsApplied p t sig n v u
  maker_arg f arg n v hf hv u x =
      let h = hf x.0 x.1 in
      let e : arrow (inst x.0 arg) (inst x.0 f.ty) ≡ arrow (inst h.1 h.0.arg) (inst h.1 (data_ty p t h.0.name h.0.params)) = h.3 in
      let ea : inst x.0 arg ≡ inst h.1 h.0.arg = cc in
      let eb : inst x.0 f.ty ≡ inst h.1 (data_ty p t h.0.name h.0.params) = cc in
      (h.0, h.1, h.2, x.2 ∙ eb, subst (HasTy p t sig v) ea (hv x.0 x.1))

  apply_safe : (f v : Value) (k : Option Address) → ApplyTy p t sig f v k → Safe p t m.store (apply p m f v k)
  apply_safe f v k h = go f refl (h.function h.family.at (agrees_self t.names h.family.gens h.family.at h.keeps))
    where
      a : Tree
      a = inst h.family.at h.arg

      b : Tree
      b = inst h.family.at h.family.ty

      hv : HasTy p t sig v (inst h.family.at h.arg)
      hv = h.argument h.family.at (agrees_self t.names h.family.gens h.family.at h.keeps)

      taken : (g : Value) → f ≡ g → ((n : ℕ) → g ≡ Maker n → ⊥) → Takes1 ready k (inst h.family.at h.family.ty)
      taken g e never = takes_single h.family k (no_maker f h.family.gens (λ n q. never n (sym e ∙ q)) h.fixed) h.takes

      library : (e : LibraryExn) → arrow (inst h.family.at h.arg) (inst h.family.at h.family.ty) ≡ library_exn e → (library_exn e ≡ exn_ty) ⊎ (library_exn e ≡ arrow string_ty exn_ty) → Takes1 ready k (inst h.family.at h.family.ty) → Safe p t m.store (apply p m (Library e) v k)
      library e q (inl z) hk = absurd (let y = q ∙ z in cc)
      library e q (inr z) hk =
          let y : arrow (inst h.family.at h.arg) (inst h.family.at h.family.ty) ≡ arrow string_ty exn_ty = q ∙ z in
          let eb : inst h.family.at h.family.ty ≡ exn_ty = cc in
          packet_safe (Library e) v k (inst h.family.at h.arg) (inst h.family.at h.family.ty) (ap (arrow (inst h.family.at h.arg)) (sym eb) ∙ q) hv eb hk

      go : (g : Value) → f ≡ g → HasTy p t sig f (arrow (inst h.family.at h.arg) (inst h.family.at h.family.ty)) → Safe p t m.store (apply p m g v k)
      go (At ad) e hf =
          let q = subst (λ g. HasTy p t sig g (arrow (inst h.family.at h.arg) (inst h.family.at h.family.ty))) e hf in
          at_safe ad q.0 (inst h.family.at h.arg) (inst h.family.at h.family.ty) v k q.1 q.2 hv (taken (At ad) e (λ n q. cc))
      go (Library l) e hf =
          library l (subst (λ g. HasTy p t sig g (arrow (inst h.family.at h.arg) (inst h.family.at h.family.ty))) e hf) (exn_con l) (taken (Library l) e (λ n q. cc))
      go (Maker n) e hf =
          made_safe ready (Applied n v) h.family k
          (maker_arg h.family h.arg n v (λ g x. subst (λ f. HasTy p t sig f (arrow (inst g h.arg) (inst g h.family.ty))) e (h.function g x)) h.argument)
          (below ready v (inst h.family.at h.arg) hv) h.takes
      go RefMaker e hf =
          let q = subst (λ g. HasTy p t sig g (arrow (inst h.family.at h.arg) (inst h.family.at h.family.ty))) e hf in
          let z : arrow (inst h.family.at h.arg) (inst h.family.at h.family.ty) ≡ arrow q.0 (ref_ty q.0) = q.1 in
          let ea : inst h.family.at h.arg ≡ q.0 = cc in
          let eb : inst h.family.at h.family.ty ≡ ref_ty q.0 = cc in
          made_one ready (Cell v) k (ref_ty q.0) (q.0, (λ u i. is_one ready (ref_ty q.0) u i), subst (HasTy p t sig v) ea hv) tt (subst (Takes1 ready k) eb (taken RefMaker e (λ n q. cc)))
      go (Builtin f2) e hf =
          let q = subst (λ g. HasTy p t sig g (arrow (inst h.family.at h.arg) (inst h.family.at h.family.ty))) e hf in
          builtin_safe ready f2 v k q.0 (inst h.family.at h.arg) (inst h.family.at h.family.ty) q.1 q.2 hv (taken (Builtin f2) e (λ n q. cc))
      go (Number z) e hf =
          absurd (let q = subst (λ g. HasTy p t sig g (arrow (inst h.family.at h.arg) (inst h.family.at h.family.ty))) e hf in cc)
      go (Letter z) e hf =
          absurd (let q = subst (λ g. HasTy p t sig g (arrow (inst h.family.at h.arg) (inst h.family.at h.family.ty))) e hf in cc)
      go Nothing e hf =
          absurd (let q = subst (λ g. HasTy p t sig g (arrow (inst h.family.at h.arg) (inst h.family.at h.family.ty))) e hf in cc)
      go (Tag z) e hf =
          absurd (let q = subst (λ g. HasTy p t sig g (arrow (inst h.family.at h.arg) (inst h.family.at h.family.ty))) e hf in let y = q.4 in cc)
      go (Constant z) e hf =
          absurd (let q = subst (λ g. HasTy p t sig g (arrow (inst h.family.at h.arg) (inst h.family.at h.family.ty))) e hf in let y = q.0 in cc)

  -- ---- Eq

  pend_descend : (pairs : List (Value × Value)) (next : Option Address) (n a : ℕ) → AllDescend a (pend pairs next n).0
  pend_descend [] next n a = tt
  pend_descend (q ∷ pairs) next n a =
      descend_append a (pend pairs next n).0 (Pending q.0 q.1 (pend pairs next n).1 ∷ []) (pend_descend pairs next n a) (tt, tt)

  pend_safe : (pairs : List (Value × Value)) (next : Option Address) → AllByRecursion (λ q. IsComparable p t sig q.0 q.1) pairs → AreCompared p t sig next → (es : List Entry) × StoreTy p t (sig ++ es) es (pend pairs next (length m.store)).0 × AreCompared p t (sig ++ es) (pend pairs next (length m.store)).1
  pend_safe [] next hp h = ([], tt, compared_up p t sig [] next h)
  pend_safe (q ∷ pairs) next hp h =
      let r = pend_safe pairs next hp.1 h in
      let rest = pend pairs next (length m.store) in
      let more = Compares ∷ [] in
      let full = (sig ++ r.0) ++ more in
      let same : full ≡ sig ++ (r.0 ++ more) = append_assoc sig r.0 more in
      let st : StoreTy p t full (r.0 ++ more) (rest.0 ++ Pending q.0 q.1 rest.1 ∷ []) = store_append p t full r.0 more rest.0 (Pending q.0 q.1 rest.1 ∷ []) (store_up p t (sig ++ r.0) more r.0 rest.0 r.1) ((comparable_up p t (sig ++ r.0) more q.0 q.1 (comparable_up p t sig r.0 q.0 q.1 hp.0), compared_up p t (sig ++ r.0) more rest.1 r.2), tt) in
      let n : length m.store + length rest.0 ≡ length (sig ++ r.0) = omega (arith, length-append sig r.0, store_len p t sig sig m.store ready.store, store_len p t (sig ++ r.0) r.0 rest.0 r.1) in
      let at : slice_get full (length m.store + length rest.0) ≡ Some Compares = ap (slice_get full) n ∙ get_last (sig ++ r.0) Compares in
      (r.0 ++ more, subst (λ full. StoreTy p t full (r.0 ++ more) (rest.0 ++ Pending q.0 q.1 rest.1 ∷ [])) same st, subst (λ full. slice_get full (length m.store + length rest.0) ≡ Some Compares) same at)

  truth_ret : (q : Bool) (k : Option Address) → Accepts p t sig k (TakesAll p t (one Variable bool_ty)) → ControlTy p t sig (Ret (truth q) k)
  truth_ret q k hk =
      ret_one ready (truth q) k bool_ty (true_false ready q) (accept_map ready sig k (TakesAll p t (one Variable bool_ty)) (λ f b. ((v : Tree) → InFamily t.names f v → v ≡ bool_ty) × (b ≡ false)) (λ f b r. ((λ v i. is_one ready bool_ty v (r.0 v i)), r.1)) hk)

  verdict_safe : (r : Verdict Value) (next : Option Address) (q : Bool) (k : Option Address) → PairsTy p t sig r → AreCompared p t sig next → Accepts p t sig k (TakesAll p t (one Variable bool_ty)) → Safe p t m.store (by_verdict m r next q k)
  verdict_safe mean.Equal next q k hp h hk = going_safe ready (Eq next q k) (h, hk)
  verdict_safe mean.Unequal next q k hp h hk = going_safe ready (Ret (truth (not q)) k) (truth_ret (not q) k hk)
  verdict_safe (mean.AsPairs pairs) next q k hp h hk =
      let r = pend_safe pairs next hp h in
      making_all_safe ready (pend pairs next (length m.store)).0 r.0 (Eq (pend pairs next (length m.store)).1 q k) r.1 (pend_descend pairs next (length m.store) (length m.store)) (r.2, accepts_up p t sig r.0 k (TakesAll p t (one Variable bool_ty)) hk)

  compare_block_safe : (c : Block) (q : Bool) (k : Option Address) → BlockTy p t sig c Compares → Accepts p t sig k (TakesAll p t (one Variable bool_ty)) → Safe p t m.store (compare p m (Some c) q k)
  compare_block_safe (Pending v w next) q k h hk = verdict_safe (turn (see p.texts m.store) v w) next q k (turn_pairs p t ready.typing ready.bare.numbered ready.bare.sorts sig m.store ready.store v w h.0) h.1 hk
  compare_block_safe _ q k h hk = absurd h

  -- ---- The step

  pub step_safe : (c : Control) → ControlTy p t sig c → ((e : Ending) → c ≡ End e → ⊥) → Safe p t m.store (step p m c)
  step_safe (Eval i env k) h n =
      let q = h.exp in
      known ready (slice_get p.nodes i) q.0 (λ n. eval p m i n env k) q.1 (eval_safe ready i q.0 env k q.1 q.2 h)
  step_safe (Ret v None) h n = going_safe ready (End Normal) tt
  step_safe (Ret v (Some a)) h n =
      let g = store_get p t sig sig m.store a (Takes h.0 h.1) ready.store h.2 in
      subst (λ o. Safe p t m.store (ret p m o v)) (sym g.1) (ret_safe ready g.0 v h.0 h.1 g.2 h.3)
  step_safe (Apply f v k) h n = apply_safe f v k h
  step_safe (Raise x None) h n = uncaught_safe ready x h.0
  step_safe (Raise x (Some a)) h n =
      let g = store_get p t sig sig m.store a (Takes h.1.0 h.1.1) ready.store h.1.2 in
      subst (λ o. Safe p t m.store (raised p m o x)) (sym g.1) (raised_safe ready g.0 x h.1.0 h.1.1 g.2 h.0)
  step_safe (Eq None q k) h n = going_safe ready (Ret (truth q) k) (truth_ret q k h.1)
  step_safe (Eq (Some a) q k) h n =
      let g = store_get p t sig sig m.store a Compares ready.store h.0 in
      subst (λ o. Safe p t m.store (compare p m o q k)) (sym g.1) (compare_block_safe g.0 q k g.2 h.1)
  step_safe (End e) h n = absurd (n e refl)
