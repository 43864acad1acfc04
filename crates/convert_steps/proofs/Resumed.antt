-- Values that come to frames.
use Rattle.std.proofs.Common.{Some, ◌≡◌, ℕ, suc, Bool, List, [], ◌∷◌, ◌++◌, length, drop, refl, sym, ap, ◌∙◌, subst}
use Rattle.std.specs.Prelude.{slice_get}
use Rattle.simulation.proofs.Lists.{length_last, some_eq}
use Rattle.lambda_ir.specs.declared.term.Term.{Term}
use Rattle.cps_ir.specs.declared.atom.Atom.{Atom}
use Rattle.cps_ir.specs.declared.body.Bind.{Bind}
use Rattle.cps_ir.specs.declared.body.End.TheVariants as end
use Rattle.cps_ir.specs.Code.{Code, Call}
use Rattle.convert_laws.specs.Convert.{Scope, Kon, apply, parts_of}
use Rattle.convert_scopes.specs.Scopes.{Scopes, IsScope}
use Rattle.convert_steps.specs.declared.task.Awaits.{Awaits}
use Rattle.convert_steps.specs.declared.task.Awaits.TheVariants as awaits
use Rattle.convert_steps.specs.declared.task.Continuation.{Continuation}
use Rattle.convert_steps.specs.declared.task.Continuation.TheVariants as continuation
use Rattle.convert_steps.specs.declared.task.Frame.{Frame}
use Rattle.convert_steps.specs.declared.task.Step.{Step}
use Rattle.convert_steps.specs.declared.task.Step.TheVariants as step
use Rattle.convert_steps.specs.declared.world.World.{World}
use Rattle.convert_steps.specs.Codes.{IsKon, called, text, conv, awaits_code, parts_at, parts_code}
use Rattle.convert_steps.specs.Ends.{atom_by}
use Rattle.convert_steps.specs.Writes.{Stands, AreCodes, Leaves, Writes}
use Rattle.convert_steps.proofs.Grow.{grows_scopes, stands_on}
use Rattle.convert_steps.proofs.Write.{stops, leads_to, leads_writes}
use Rattle.convert_steps.proofs.Ended.{writes_same, atom_known}

module _ (own : ℕ → Bool) (terms : List Term) where
  pub part_came : (w v : World) (bs ds : List Bind) (t scope n : ℕ) (before there : List Atom) (a : Atom) (k : Continuation) (s : Step) → there ≡ before ++ a ∷ [] → Writes own terms w bs v ds (parts_code own terms t there n) scope k s → Writes own terms w bs v ds (λ σ κ. awaits_code own terms (awaits.Part t before) σ κ a n) scope k s
  part_came w v bs ds t scope n before there a k s e h =
      let more : suc (length before) ≡ length there = sym (ap length e ∙ length_last before a) in
      writes_same own terms w v bs ds (λ σ κ. awaits_code own terms (awaits.Part t before) σ κ a n) (parts_code own terms t there n) scope k s
      (λ σ κ st.
      ap (λ m. parts_of own terms (conv own terms) (parts_at terms t) (before ++ a ∷ []) (drop m (parts_at terms t)) σ κ n) more
      ∙ ap (λ xs. parts_of own terms (conv own terms) (parts_at terms t) xs (drop (length there) (parts_at terms t)) σ κ n) (sym e)) h

  pub called_written : (w : World) (bs : List Bind) (f a b : Atom) (atoms : List Atom) (scope n : ℕ) (k : Continuation) → b ≡ atom_by k → atoms ≡ a ∷ b ∷ [] → Writes own terms w bs w bs (λ σ κ. awaits_code own terms (awaits.Argument f) σ κ a n) scope k (step.Stop (end.Call f atoms))
  called_written w bs f a b atoms scope n k eb ea =
      stops own terms w bs (λ σ κ. awaits_code own terms (awaits.Argument f) σ κ a n) scope k (end.Call f atoms) refl
      (λ body σ κ st. ap (λ c. Call f (a ∷ c ∷ [])) (atom_known own terms w k κ st.before ∙ sym eb) ∙ ap (Call f) (sym ea))

  -- first to a scope
  pub gone_to : (w v : World) (bs ds : List Bind) (s : Scopes) (f : Scope → Kon → Code) (scope : ℕ) (k : Continuation) (st : Step) → s.bounds ≡ w.scopes.bounds → s.present ≡ scope → Writes own terms (record w { scopes = s }) bs v ds f s.present k st → Writes own terms w bs v ds f scope k st
  gone_to w v bs ds s f scope k st eb ep h =
      let x : World = record w { scopes = s } in
      let on = grows_scopes own terms w x s refl (λ u σ y. subst (λ z. IsScope z u σ) (sym eb) y) in
      leads_writes own terms w x v bs bs ds f f scope s.present k k st
      (leads_to own terms w x bs f f scope s.present k k on refl (λ body σ κ z. record { σ = σ; κ = κ; stands = subst (λ p. Stands own terms x p k σ κ) (sym ep) (stands_on own terms w x scope k σ κ on z); code = refl })) h

  -- the continuation of a number is the text of its frame
  pub text_resumed : (w v : World) (bs ds : List Bind) (r scope n : ℕ) (f : Frame) (a : Atom) (st : Step) → slice_get w.frames r ≡ Some f → Writes own terms w bs v ds (λ σ κ. awaits_code own terms f.awaits σ κ a n) f.scope f.continuation st → Writes own terms w bs v ds (λ σ κ. apply κ a n) scope (continuation.Text r) st
  text_resumed w v bs ds r scope n f a st e h = record {
    grows = h.grows;
    bodies = h.bodies;
    code = λ body codes σ κ z. back body codes (continuation.Text r) κ refl z.before;
  }
    where
      back : (body : ℕ → Code) → AreCodes own terms v (length w.tasks) body → (k : Continuation) (κ : Kon) → k ≡ continuation.Text r → IsKon own terms w.scopes.bounds w.frames k κ → Leaves own terms v body ds st (apply κ a n) bs
      back body codes _ _ q (called b) = absurd cc
      back body codes _ _ q (text p g τ μ here inside later) =
          let on : p ≡ r = cc in
          some_eq (λ (x : Frame). IsScope w.scopes.bounds x.scope τ → IsKon own terms w.scopes.bounds w.frames x.continuation μ → Leaves own terms v body ds st (awaits_code own terms x.awaits τ μ a n) bs) f g (sym e ∙ ap (slice_get w.frames) (sym on) ∙ here)
          (λ i l. h.code body codes τ μ (record { in_scope = i; before = l })) inside later

  pub known_called : (w : World) (bs : List Bind) (f a : Atom) (atoms : List Atom) (scope n : ℕ) → atoms ≡ a ∷ [] → Writes own terms w bs w bs (λ σ κ. apply κ a n) scope (continuation.Known f) (step.Stop (end.Call f atoms))
  known_called w bs f a atoms scope n ea =
      stops own terms w bs (λ σ κ. apply κ a n) scope (continuation.Known f) (end.Call f atoms) refl
      (λ body σ κ st. back (continuation.Known f) κ refl st.before ∙ ap (Call f) (sym ea))
    where
      back : (k : Continuation) (κ : Kon) → k ≡ continuation.Known f → IsKon own terms w.scopes.bounds w.frames k κ → apply κ a n ≡ Call f (a ∷ [])
      back _ _ q (called b) = let on : b ≡ f = cc in ap (λ g. Call g (a ∷ [])) on
      back _ _ q (text p g τ μ here inside later) = absurd cc

  pub halted : (w : World) (bs : List Bind) (scope n : ℕ) (a : Atom) (k : Continuation) → Writes own terms w bs w bs (λ σ κ. awaits_code own terms awaits.End σ κ a n) scope k (step.Stop end.Halt)
  halted w bs scope n a k = stops own terms w bs (λ σ κ. awaits_code own terms awaits.End σ κ a n) scope k end.Halt refl (λ body σ κ st. refl)

  pub raised : (w : World) (bs : List Bind) (scope n : ℕ) (a : Atom) (k : Continuation) → Writes own terms w bs w bs (λ σ κ. awaits_code own terms awaits.Packet σ κ a n) scope k (step.Stop (end.Throw a))
  raised w bs scope n a k = stops own terms w bs (λ σ κ. awaits_code own terms awaits.Packet σ κ a n) scope k (end.Throw a) refl (λ body σ κ st. refl)

  -- of a frame that awaits this
  pub at_awaits : (w v : World) (bs ds : List Bind) (y x : Awaits) (scope n : ℕ) (a : Atom) (k : Continuation) (s : Step) → y ≡ x → Writes own terms w bs v ds (λ σ κ. awaits_code own terms x σ κ a n) scope k s → Writes own terms w bs v ds (λ σ κ. awaits_code own terms y σ κ a n) scope k s
  at_awaits w v bs ds y x scope n a k s e h = subst (λ z. Writes own terms w bs v ds (λ σ κ. awaits_code own terms z σ κ a n) scope k s) (sym e) h

  pub at_continuation : (w v : World) (bs ds : List Bind) (f : Scope → Kon → Code) (scope : ℕ) (k l : Continuation) (s : Step) → k ≡ l → Writes own terms w bs v ds f scope l s → Writes own terms w bs v ds f scope k s
  at_continuation w v bs ds f scope k l s e h = subst (λ z. Writes own terms w bs v ds f scope z s) (sym e) h
