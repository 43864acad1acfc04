-- Blocks that are made, primitives and constructors.
use Rattle.std.proofs.Common.{◌≡◌, ℕ, ◌+◌, Bool, true, false, List, [], ◌∷◌, ◌++◌, Option, Some, None, cond, length, refl, sym, ap, ◌∙◌, subst, arith}
use Rattle.std.proofs.Math.Path.{fun_ext}
use Rattle.smlc_base.specs.declared.primitive.Primitive.{Primitive}
use Rattle.smlc_base.specs.declared.primitive.Primitive.TheVariants as prim
use Rattle.sml_tree.specs.declared.bare.Con.{Con}
use Rattle.sml_tree.specs.declared.bare.Con.TheVariants as con
use Rattle.prim_meaning.specs.Meaning.{takes_one}
use Rattle.lambda_ir.specs.declared.term.Term.{Term}
use Rattle.cps_ir.specs.declared.atom.Atom.{Atom}
use Rattle.cps_ir.specs.declared.atom.Shape.{Shape}
use Rattle.cps_ir.specs.declared.body.Bind.{Bind}
use Rattle.cps_ir.specs.declared.body.Bind.TheVariants as bind
use Rattle.cps_ir.specs.declared.body.End.TheVariants as end
use Rattle.cps_ir.specs.Code.{Code, Make, Prim, Equal}
use Rattle.convert_laws.specs.Convert.{Scope, Kon, Known, variable, apply, atom_of, make, primitive, builtin, constructor, with_fields, fields_taken}
use Rattle.convert_scopes.specs.Scopes.{Scopes, IsScope, atom_in}
use Rattle.convert_pieces.specs.Emitted.{Emitted}
use Rattle.convert_steps.specs.declared.ends.Compared.{Compared}
use Rattle.convert_steps.specs.declared.task.Continuation.{Continuation}
use Rattle.convert_steps.specs.declared.task.Task.{Task}
use Rattle.convert_steps.specs.declared.task.Step.{Step}
use Rattle.convert_steps.specs.declared.task.Step.TheVariants as step
use Rattle.convert_steps.specs.declared.task.Work.TheVariants as work
use Rattle.convert_steps.specs.declared.world.World.{World}
use Rattle.convert_steps.specs.Codes.{IsKon, called, text}
use Rattle.convert_steps.specs.Ends.{atom_by, plain_code, comparison, constructor_shape, constructor_atoms}
use Rattle.convert_steps.specs.Writes.{Leads, Stands, Writes}
use Rattle.convert_steps.proofs.Grow.{grows_none}
use Rattle.convert_steps.proofs.Write.{binds_one, lead_writes, leads_writes, stops, same_from}

module _ (own : ℕ → Bool) (terms : List Term) where
  pub atom_known : (w : World) (k : Continuation) (κ : Kon) → IsKon own terms w.scopes.bounds w.frames k κ → atom_of κ ≡ atom_by k
  atom_known w _ _ (called a) = refl
  atom_known w _ _ (text r f σ κ e s k) = refl

  pub made_written : (w : World) (bs ds : List Bind) (s : Shape) (atoms : List Atom) (scope n later : ℕ) (k : Continuation) → ds ≡ bs ++ bind.Make n s atoms ∷ [] → later ≡ n + 1 → Writes own terms w bs w ds (λ σ κ. make s atoms κ n) scope k (step.Go (record { work = work.Give (variable n); scope = scope; continuation = k; next = later }))
  made_written w bs ds s atoms scope n later k ed el =
      lead_writes own terms w w bs ds (λ σ κ. make s atoms κ n) scope k (record { work = work.Give (variable n); scope = scope; continuation = k; next = later })
      (binds_one own terms w bs ds (bind.Make n s atoms) (λ σ κ. make s atoms κ n) (λ σ κ. apply κ (variable n) later) scope k ed refl (λ body σ κ st. ap (λ m. Make n s atoms (apply κ (variable n) m)) (omega (arith, el))))

  pub plain_written : (w : World) (bs ds : List Bind) (f : Primitive) (atoms : List Atom) (scope n later : ℕ) (k : Continuation) → ds ≡ bs ++ bind.Prim n f atoms ∷ [] → later ≡ n + 1 → Writes own terms w bs w ds (λ σ κ. plain_code f κ atoms n) scope k (step.Go (record { work = work.Give (variable n); scope = scope; continuation = k; next = later }))
  plain_written w bs ds f atoms scope n later k ed el =
      lead_writes own terms w w bs ds (λ σ κ. plain_code f κ atoms n) scope k (record { work = work.Give (variable n); scope = scope; continuation = k; next = later })
      (binds_one own terms w bs ds (bind.Prim n f atoms) (λ σ κ. plain_code f κ atoms n) (λ σ κ. apply κ (variable n) later) scope k ed refl (λ body σ κ st. ap (λ m. Prim n f atoms (apply κ (variable n) m)) (omega (arith, el))))

  -- code that is the same
  pub writes_same : (w v : World) (bs ds : List Bind) (f g : Scope → Kon → Code) (scope : ℕ) (k : Continuation) (s : Step) → ((σ : Scope) (κ : Kon) → Stands own terms w scope k σ κ → f σ κ ≡ g σ κ) → Writes own terms w bs v ds g scope k s → Writes own terms w bs v ds f scope k s
  writes_same w v bs ds f g scope k s same h = record {
    grows = h.grows;
    bodies = h.bodies;
    code =
        λ body codes σ κ st.
        let l = h.code body codes σ κ st in
        record { rest = l.rest; left = l.left; code = ap (Rattle.cps_ir.specs.Program.code_of_binds body bs) (same σ κ st) ∙ l.code };
  }

-- a primitive that is no comparison of two atoms
pub is_plain : (f : Primitive) (κ : Kon) (atoms : List Atom) (n : ℕ) → comparison f atoms ≡ None → primitive f κ atoms n ≡ plain_code f κ atoms n
is_plain prim.Equal κ [] n e = refl
is_plain prim.Equal κ (a ∷ []) n e = refl
is_plain prim.Equal κ (a ∷ b ∷ []) n e = absurd cc
is_plain prim.Equal κ (a ∷ b ∷ c ∷ atoms) n e = refl
is_plain prim.Unequal κ [] n e = refl
is_plain prim.Unequal κ (a ∷ []) n e = refl
is_plain prim.Unequal κ (a ∷ b ∷ []) n e = absurd cc
is_plain prim.Unequal κ (a ∷ b ∷ c ∷ atoms) n e = refl
is_plain f κ atoms n e = refl

pub is_compared : (f : Primitive) (κ : Kon) (atoms : List Atom) (n : ℕ) (c : Compared) → comparison f atoms ≡ Some c → primitive f κ atoms n ≡ Equal c.left c.right c.truth (atom_of κ)
is_compared prim.Equal κ [] n c e = absurd cc
is_compared prim.Equal κ (a ∷ []) n c e = absurd cc
is_compared prim.Equal κ (a ∷ b ∷ []) n c e = ap (λ (o : Option Compared). equal_of o) e
  where
    equal_of : Option Compared → Code
    equal_of None = Equal a b true (atom_of κ)
    equal_of (Some d) = Equal d.left d.right d.truth (atom_of κ)
is_compared prim.Equal κ (a ∷ b ∷ d ∷ atoms) n c e = absurd cc
is_compared prim.Unequal κ [] n c e = absurd cc
is_compared prim.Unequal κ (a ∷ []) n c e = absurd cc
is_compared prim.Unequal κ (a ∷ b ∷ []) n c e = ap (λ (o : Option Compared). equal_of o) e
  where
    equal_of : Option Compared → Code
    equal_of None = Equal a b false (atom_of κ)
    equal_of (Some d) = Equal d.left d.right d.truth (atom_of κ)
is_compared prim.Unequal κ (a ∷ b ∷ d ∷ atoms) n c e = absurd cc
is_compared f κ atoms n c e = absurd (none_some e)
  where
    none_some : None ≡ Some c → ⊥
    none_some e = cc

module _ (own : ℕ → Bool) (terms : List Term) where
  pub primitive_plain : (w : World) (bs ds : List Bind) (f : Primitive) (atoms : List Atom) (scope n : ℕ) (k : Continuation) (s : Step) → comparison f atoms ≡ None → Writes own terms w bs w ds (λ σ κ. plain_code f κ atoms n) scope k s → Writes own terms w bs w ds (λ σ κ. primitive f κ atoms n) scope k s
  primitive_plain w bs ds f atoms scope n k s e h =
      writes_same own terms w w bs ds (λ σ κ. primitive f κ atoms n) (λ σ κ. plain_code f κ atoms n) scope k s (λ σ κ st. is_plain f κ atoms n e) h

  pub primitive_compared : (w : World) (bs : List Bind) (f : Primitive) (atoms : List Atom) (scope n : ℕ) (k : Continuation) (c : Compared) (b : Atom) → comparison f atoms ≡ Some c → b ≡ atom_by k → Writes own terms w bs w bs (λ σ κ. primitive f κ atoms n) scope k (step.Stop (end.Equal c.left c.right c.truth b))
  primitive_compared w bs f atoms scope n k c b e eb =
      stops own terms w bs (λ σ κ. primitive f κ atoms n) scope k (end.Equal c.left c.right c.truth b) refl
      (λ body σ κ st. is_compared f κ atoms n c e ∙ ap (Equal c.left c.right c.truth) (atom_known own terms w k κ st.before ∙ sym eb))

  -- fields are picked first
  pub emitted_leads : (w : World) (bs ds : List Bind) (c d : Kon → Code) (scope : ℕ) (k : Continuation) → ((κ : Kon) → Emitted bs ds (c κ) (d κ)) → Leads own terms w bs w ds (λ σ κ. c κ) scope k (λ σ κ. d κ) scope k
  emitted_leads w bs ds c d scope k h = record {
    grows = grows_none own terms w;
    bodies = λ from a. same_from from (length w.tasks) _ _ (sym (h (Known (variable 0))).bodies) a;
    code = λ body codes σ κ s. record { σ = σ; κ = κ; stands = s; code = (h κ).code body };
  }

  pub builtin_one : (w : World) (bs ds : List Bind) (f : Primitive) (a : Atom) (atoms : List Atom) (scope n : ℕ) (k : Continuation) (s : Step) → takes_one f ≡ true → atoms ≡ a ∷ [] → Writes own terms w bs w ds (λ σ κ. primitive f κ atoms n) scope k s → Writes own terms w bs w ds (λ σ κ. builtin f κ a n) scope k s
  builtin_one w bs ds f a atoms scope n k s e ea h =
      writes_same own terms w w bs ds (λ σ κ. builtin f κ a n) (λ σ κ. primitive f κ atoms n) scope k s
      (λ σ κ st. ap (λ t. cond t (primitive f κ (a ∷ []) n) (with_fields (fields_taken f) 0 a (primitive f κ) n)) e ∙ ap (λ xs. primitive f κ xs n) (sym ea)) h

  pub builtin_several : (w : World) (bs cs ds : List Bind) (f : Primitive) (a : Atom) (atoms : List Atom) (scope count n later : ℕ) (k : Continuation) (s : Step) → takes_one f ≡ false → count ≡ fields_taken f → ((rest : List Atom → ℕ → Code) → Emitted bs cs (with_fields count 0 a rest n) (rest atoms later)) → Writes own terms w cs w ds (λ σ κ. primitive f κ atoms later) scope k s → Writes own terms w bs w ds (λ σ κ. builtin f κ a n) scope k s
  builtin_several w bs cs ds f a atoms scope count n later k s e ec emits h =
      writes_same own terms w w bs ds (λ σ κ. builtin f κ a n) (λ σ κ. with_fields count 0 a (primitive f κ) n) scope k s
      (λ σ κ st. ap (λ t. cond t (primitive f κ (a ∷ []) n) (with_fields (fields_taken f) 0 a (primitive f κ) n)) e ∙ ap (λ c. with_fields c 0 a (primitive f κ) n) (sym ec))
      (leads_writes own terms w w w bs cs ds (λ σ κ. with_fields count 0 a (primitive f κ) n) (λ σ κ. primitive f κ atoms later) scope scope k k s
      (emitted_leads w bs cs (λ κ. with_fields count 0 a (primitive f κ) n) (λ κ. primitive f κ atoms later) scope k (λ κ. emits (primitive f κ)))
      h)

  constructed : (σ : Scope) (c : Con) (κ : Kon) (a : Atom) (n : ℕ) → constructor σ c κ a n ≡ make (constructor_shape c) (constructor_atoms σ c a) κ n
  constructed σ (con.Data t number takes) κ a n = refl
  constructed σ con.Ref κ a n = refl
  constructed σ (con.Exn x takes) κ a n = refl
  constructed σ (con.Library e) κ a n = refl

  pub construct_written : (w : World) (bs ds : List Bind) (s : Scopes) (c : Con) (a : Atom) (atoms : List Atom) (sh : Shape) (n p : ℕ) (k : Continuation) (t : Task) → w.scopes ≡ s → ((σ : Scope) → IsScope s.bounds s.present σ → (x : ℕ) → atom_in s.table x ≡ σ x) → atoms ≡ constructor_atoms (atom_in s.table) c a → sh ≡ constructor_shape c → p ≡ s.present → Writes own terms w bs w ds (λ σ κ. make sh atoms κ n) p k (step.Go t) → Writes own terms w bs w ds (λ σ κ. constructor σ c κ a n) s.present k (step.Go t)
  construct_written w bs ds s c a atoms sh n p k t es here ea eh ep h =
      writes_same own terms w w bs ds (λ σ κ. constructor σ c κ a n) (λ σ κ. make sh atoms κ n) s.present k (step.Go t)
      (λ σ κ st.
      let is : atom_in s.table ≡ σ = fun_ext (here σ (subst (λ (z : Scopes). IsScope z.bounds s.present σ) es st.in_scope)) in
      constructed σ c κ a n ∙ ap (λ xs. make (constructor_shape c) xs κ n) (sym (ea ∙ ap (λ τ. constructor_atoms τ c a) is)) ∙ ap (λ z. make z atoms κ n) (sym eh))
      (subst (λ q. Writes own terms w bs w ds (λ σ κ. make sh atoms κ n) q k (step.Go t)) ep h)
