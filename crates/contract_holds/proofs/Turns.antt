-- The steps of a whole body.
use Rattle.std.proofs.Common.{ℕ, List, [], ◌∷◌, refl, sym, ◌∙◌, subst, arith}
use Rattle.cps_ir.specs.declared.body.Bind.{Bind}
use Rattle.cps_ir.specs.declared.body.Bind.TheVariants as row
use Rattle.cps_ir.specs.declared.body.Body.{Body}
use Rattle.cps_ir.specs.declared.body.End.{End}
use Rattle.cps_ir.specs.declared.body.End.TheVariants as end
use Rattle.cps_ir.specs.Code.{Code, Equal, Throw, Halt}
use Rattle.cps_ir.specs.Program.{code_at, code_of_bind, code_of_binds, code_of_end}
use Rattle.contract_laws.specs.Contract.{nothing}
use Rattle.contract_round.specs.Round.{atom_in}
use Rattle.contract_census.specs.declared.counts.Count.{Count}
use Rattle.contract_known.specs.Known.{place_of, made_at}
use Rattle.contract_group.specs.declared.task.Task.{Task}
use Rattle.contract_steps.specs.State.{State}
use Rattle.contract_steps.specs.Steps.{BindStep, BindsStep, EndStep}
use Rattle.contract_holds.specs.Fits.{bodies_in}
use Rattle.contract_holds.specs.Turn.{Ready, Goes, Stops}
use Rattle.contract_holds.proofs.Forms.{make_goes, pick_goes, prim_goes, handler_goes, set_goes}
use Rattle.contract_holds.proofs.GroupBodies.{fix_goes, fix_state}
use Rattle.contract_holds.proofs.Stop.{stops, equal_parts, throw_parts}
use Rattle.contract_holds.proofs.Call.{call_step}
use Rattle.contract_holds.proofs.Match.{match_stops}

module _ (texts : List (List ℕ)) (source : List Body) (counts : List Count) (t : Task) where
  abbrev part : ℕ → Code
  part = code_at source

  bind_goes : (b : Bind) (c : Code) (s n : State) → Ready texts source counts t (code_of_bind part b c) s → BindStep source counts t b s n → Goes texts source counts t (code_of_bind part b c) s c n
  bind_goes (row.Make x shape atoms) c s n r h = subst (λ m. Goes texts source counts t (code_of_bind part (row.Make x shape atoms) c) s c m) (sym h) (make_goes texts source counts t x c s shape atoms r)
  bind_goes (row.Pick x i a) c s n r h = subst (λ m. Goes texts source counts t (code_of_bind part (row.Pick x i a) c) s c m) (sym h) (pick_goes texts source counts t x c s i a r)
  bind_goes (row.Prim x f atoms) c s n r h = subst (λ m. Goes texts source counts t (code_of_bind part (row.Prim x f atoms) c) s c m) (sym h) (prim_goes texts source counts t x c s f atoms r)
  bind_goes (row.Fix fs) c s n r h = subst (λ m. Goes texts source counts t (code_of_bind part (row.Fix fs) c) s c m) (sym (h.2 ∙ fix_state texts source counts t fs c s r h.0 h.1)) (fix_goes texts source counts t fs c s r h.0 h.1)
  bind_goes (row.Handler x) c s n r h = subst (λ m. Goes texts source counts t (code_of_bind part (row.Handler x) c) s c m) (sym h) (handler_goes texts source counts t x c s r)
  bind_goes (row.SetHandler a) c s n r h = subst (λ m. Goes texts source counts t (code_of_bind part (row.SetHandler a) c) s c m) (sym h) (set_goes texts source counts t a c s r)

  -- to the end, behind one binding
  then_stops : (c d : Code) (s m n : State) → Goes texts source counts t c s d m → Stops texts source counts t d m n → Stops texts source counts t c s n
  then_stops c d s m n g e = record { stands = e.stands; fits = λ P f k. g.fits P (e.fits P f k); less = let a = g.less in let b = e.less in omega arith }

  end_stops : (e : End) (s n : State) → Ready texts source counts t (code_of_end part e) s → EndStep texts t e s n → Stops texts source counts t (code_of_end part e) s n
  end_stops (end.Equal a b truth k) s n r h =
      subst (λ m. Stops texts source counts t (Equal a b truth k) s m) (sym h.2)
      (stops texts source counts t (Equal a b truth k) s r h.0
      (equal_parts h.0 (atom_in (place_of s.places) a) (atom_in (place_of s.places) b) truth (atom_in (place_of s.places) k) (h.1 texts nothing nothing (λ i. Halt)))
      (λ P. h.1 texts (made_at s.blocks t.root) (bodies_in texts source s.places s.placed) P) (omega arith))
  end_stops (end.Call a atoms) s n r h = call_step texts source counts t a atoms s r n h
  end_stops (end.Match a rules o) s n r h = match_stops texts source counts t a rules o s r n h
  end_stops (end.Throw a) s n r h =
      subst (λ m. Stops texts source counts t (Throw a) s m) (sym h.2)
      (stops texts source counts t (Throw a) s r h.0 (throw_parts h.0 (atom_in (place_of s.places) a) (h.1 texts nothing nothing (λ i. Halt))) (λ P. h.1 texts (made_at s.blocks t.root) (bodies_in texts source s.places s.placed) P) (omega arith))
  end_stops end.Halt s n r h = subst (λ m. Stops texts source counts t Halt s m) (sym h) (stops texts source counts t Halt s r end.Halt refl (λ P. refl) (omega arith))

  pub body_stops : (binds : List Bind) (e : End) (s m n : State) → Ready texts source counts t (code_of_binds part binds (code_of_end part e)) s → BindsStep source counts t binds s m → EndStep texts t e m n → Stops texts source counts t (code_of_binds part binds (code_of_end part e)) s n
  body_stops [] e s m n r b h = subst (λ k. EndStep texts t e k n → Stops texts source counts t (code_of_end part e) s n) (sym b) (λ g. end_stops e s n r g) h
  body_stops (b ∷ binds) e s m n r k h =
      let g = bind_goes b (code_of_binds part binds (code_of_end part e)) s k.0 r k.1 in
      then_stops (code_of_bind part b (code_of_binds part binds (code_of_end part e))) (code_of_binds part binds (code_of_end part e)) s k.0 n g (body_stops binds e k.0 m n g.ready k.2 h)
