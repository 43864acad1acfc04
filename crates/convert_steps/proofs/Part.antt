-- A part under its frame.
use Rattle.std.proofs.Common.{drop, ◌<◌, get_or, drop-cons, ◌≡◌, ℕ, suc, ◌+◌, ◌≤◌, Bool, true, false, List, [], ◌∷◌, ◌++◌, length, cond, sym, ap, ◌∙◌, subst, arith, flat_map}
use Rattle.smlc_base.specs.declared.point.PointKind.TheVariants as kind
use Rattle.sml_tree.specs.Points.{point}
use Rattle.lambda_ir.specs.declared.term.Term.{Term}
use Rattle.cps_ir.specs.declared.atom.Atom.TheVariants as atom
use Rattle.lambda_ir.specs.declared.term.Part.{Part}
use Rattle.cps_ir.specs.declared.atom.Atom.{Atom}
use Rattle.cps_ir.specs.declared.atom.Shape.TheVariants as shape
use Rattle.cps_ir.specs.declared.body.Bind.{Bind}
use Rattle.cps_ir.specs.Code.{Code, Fix, Function, NoFunction}
use Rattle.cps_ir.specs.Program.{code_of_binds}
use Rattle.cps_ir.specs.Kept.{bind_parts}
use Rattle.convert_laws.specs.Convert.{Scope, Kon, Known, Text, variable, apply, size_at, parts_of, make, in_slots}
use Rattle.convert_pieces.proofs.Ways.{none_past}
use Rattle.convert_pieces.proofs.Emits.{binds_more, parts_more as bodies_more}
use Rattle.convert_steps.specs.declared.task.Continuation.{Continuation}
use Rattle.convert_steps.specs.declared.task.Continuation.TheVariants as continuation
use Rattle.convert_steps.specs.declared.task.Awaits.TheVariants as awaits
use Rattle.convert_steps.specs.declared.task.Frame.{Frame}
use Rattle.convert_steps.specs.declared.task.Task.{Task}
use Rattle.convert_steps.specs.declared.task.Step.TheVariants as step
use Rattle.convert_steps.specs.declared.task.Work.TheVariants as work
use Rattle.convert_steps.specs.declared.world.World.{World}
use Rattle.convert_steps.specs.Codes.{called, conv, awaits_code, owned_code, part_code, parts_code, parts_at}
use Rattle.convert_steps.specs.Functions.{one_function}
use Rattle.convert_steps.specs.Writes.{Leads, AreFrom, Grows, Writes}
use Rattle.convert_steps.proofs.Grow.{grows_begun, grows_framed, stands_on, frame_stands, begun_at, begun_more}
use Rattle.convert_steps.proofs.Ended.{writes_same}
use Rattle.convert_steps.proofs.Write.{leads_to, leads_writes, lead_writes, one_from, same_from}

module _ (own : ℕ → Bool) (terms : List Term) where
  pub own_written : (w v : World) (bs ds : List Bind) (j scope n value inside behind size b : ℕ) (k : Continuation) → value ≡ n + 1 → inside ≡ n + 2 → behind ≡ inside + size → size ≡ size_at terms j → b ≡ length w.tasks → v ≡ record w { tasks = w.tasks ++ record { work = work.Give (atom.Var value); scope = scope; continuation = k; next = behind } ∷ [] } → ds ≡ bs ++ one_function n (point j kind.Ret) value b ∷ [] → Writes own terms w bs v ds (owned_code own terms j n) scope k (step.Go (record { work = work.Term j; scope = scope; continuation = continuation.Known (atom.Var n); next = inside }))
  own_written w v bs ds j scope n value inside behind size b k ev ei eb es en ew ed =
      lead_writes own terms w v bs ds (owned_code own terms j n) scope k (record { work = work.Term j; scope = scope; continuation = continuation.Known (atom.Var n); next = inside }) (record {
        grows = grows;
        bodies =
            λ from a.
            same_from from (length v.tasks) (flat_map bind_parts bs ++ b ∷ []) (flat_map bind_parts ds) (sym (ap (flat_map bind_parts) ed ∙ bodies_more bs (one_function n (point j kind.Ret) value b)))
            (subst (λ m. AreFrom from m (flat_map bind_parts bs ++ b ∷ [])) (sym (begun_more own terms w v t ew)) (subst (λ m. AreFrom from (suc (length w.tasks)) (flat_map bind_parts bs ++ m ∷ [])) (sym en) (one_from from (length w.tasks) (flat_map bind_parts bs) a)));
        code =
            λ body codes σ κ s.
            let made : body b ≡ apply κ (variable value) behind = ap body en ∙ codes (length w.tasks) t (omega arith) (begun_at own terms w v t ew) σ κ (stands_on own terms w v scope k σ κ grows s) in
            record {
              σ = σ;
              κ = Known (variable n);
              stands = record { in_scope = grows.scopes scope σ s.in_scope; before = called (variable n) };
              code =
                  ap (code_of_binds body bs)
                  (ap (λ m. Fix (Function n (point j kind.Ret) (m ∷ []) (apply κ (variable m) (2 + n + size_at terms j)) NoFunction) (conv own terms j σ (Known (variable n)) (2 + n))) (omega (arith, ev))
                  ∙ ap (λ m. Fix (Function n (point j kind.Ret) (value ∷ []) (apply κ (variable value) m) NoFunction) (conv own terms j σ (Known (variable n)) (2 + n))) (omega (arith, ei, eb, es))
                  ∙ ap (λ c. Fix (Function n (point j kind.Ret) (value ∷ []) c NoFunction) (conv own terms j σ (Known (variable n)) (2 + n))) (sym made)
                  ∙ ap (λ m. Fix (Function n (point j kind.Ret) (value ∷ []) (body b) NoFunction) (conv own terms j σ (Known (variable n)) m)) (omega (arith, ei)))
                  ∙ sym (binds_more body bs (one_function n (point j kind.Ret) value b) (conv own terms j σ (Known (variable n)) inside))
                  ∙ ap (λ xs. code_of_binds body xs (conv own terms j σ (Known (variable n)) inside)) (sym ed);
            };
      })
    where
      t : Task
      t = record { work = work.Give (atom.Var value); scope = scope; continuation = k; next = behind }

      grows : Grows own terms w v
      grows = grows_begun own terms w v t ew

  framed : (w v : World) (bs : List Bind) (g : Scope → Kon → Code) (j n : ℕ) (f : Frame) (k : Continuation) → v ≡ record w { frames = w.frames ++ f ∷ [] } → k ≡ continuation.Text (length w.frames) → ((σ : Scope) (κ : Kon) → part_code own terms j f.awaits n σ κ ≡ g σ (Text (awaits_code own terms f.awaits σ κ))) → Leads own terms w bs v bs (part_code own terms j f.awaits n) f.scope f.continuation g f.scope k
  framed w v bs g j n f k e ek same =
      leads_to own terms w v bs (part_code own terms j f.awaits n) g f.scope f.scope f.continuation k (grows_framed own terms w v f e) (ap (λ (u : World). length u.tasks) e)
      (λ body σ κ s. record {
        σ = σ;
        κ = Text (awaits_code own terms f.awaits σ κ);
        stands = frame_stands own terms w v f k σ κ e ek s;
        code = ap (code_of_binds body bs) (same σ κ);
      })

  pub part_owned : (w v u : World) (bs ds : List Bind) (j n : ℕ) (f : Frame) (k : Continuation) (t : Task) → own j ≡ true → v ≡ record w { frames = w.frames ++ f ∷ [] } → k ≡ continuation.Text (length w.frames) → Writes own terms v bs u ds (owned_code own terms j n) f.scope k (step.Go t) → Writes own terms w bs u ds (part_code own terms j f.awaits n) f.scope f.continuation (step.Go t)
  part_owned w v u bs ds j n f k t o e ek h =
      leads_writes own terms w v u bs bs ds (part_code own terms j f.awaits n) (owned_code own terms j n) f.scope f.scope f.continuation k (step.Go t)
      (framed w v bs (owned_code own terms j n) j n f k e ek (λ σ κ. ap (λ b. cond b (owned_code own terms j n σ (Text (awaits_code own terms f.awaits σ κ))) (conv own terms j σ (Text (awaits_code own terms f.awaits σ κ)) n)) o)) h

  pub part_text : (w v : World) (bs : List Bind) (j n : ℕ) (f : Frame) (k : Continuation) → own j ≡ false → v ≡ record w { frames = w.frames ++ f ∷ [] } → k ≡ continuation.Text (length w.frames) → Writes own terms w bs v bs (part_code own terms j f.awaits n) f.scope f.continuation (step.Go (record { work = work.Term j; scope = f.scope; continuation = k; next = n }))
  part_text w v bs j n f k o e ek =
      lead_writes own terms w v bs bs (part_code own terms j f.awaits n) f.scope f.continuation (record { work = work.Term j; scope = f.scope; continuation = k; next = n })
      (framed w v bs (λ σ κ. conv own terms j σ κ n) j n f k e ek (λ σ κ. ap (λ b. cond b (owned_code own terms j n σ (Text (awaits_code own terms f.awaits σ κ))) (conv own terms j σ (Text (awaits_code own terms f.awaits σ κ)) n)) o))

  -- ---- Tuples

  pub parts_ended : (w : World) (bs ds : List Bind) (t scope n done : ℕ) (all : List Part) (before there atoms : List Atom) (k : Continuation) (r : Task) → all ≡ parts_at terms t → done ≡ length before → length all ≤ done → there ≡ before → atoms ≡ in_slots all there → Writes own terms w bs w ds (λ σ κ. make shape.Tuple atoms κ n) scope k (step.Go r) → Writes own terms w bs w ds (parts_code own terms t before n) scope k (step.Go r)
  parts_ended w bs ds t scope n done all before there atoms k r ea ed h et e g =
      writes_same own terms w w bs ds (parts_code own terms t before n) (λ σ κ. make shape.Tuple atoms κ n) scope k (step.Go r)
      (λ σ κ st.
      ap (λ ps. parts_of own terms (conv own terms) ps before (drop (length before) ps) σ κ n) (sym ea)
      ∙ ap (λ ps. parts_of own terms (conv own terms) all before ps σ κ n) (ap (λ m. drop m all) (sym ed) ∙ none_past all done h)
      ∙ ap (λ xs. make shape.Tuple xs κ n) (ap (in_slots all) (sym et) ∙ sym e)) g

  pub parts_more : (w v : World) (bs ds : List Bind) (t scope n done : ℕ) (all : List Part) (before : List Atom) (k : Continuation) (q : Part) (r : Task) → all ≡ parts_at terms t → done ≡ length before → done < length all → Writes own terms w bs v ds (part_code own terms (get_or all done q).node (awaits.Part t before) n) scope k (step.Go r) → Writes own terms w bs v ds (parts_code own terms t before n) scope k (step.Go r)
  parts_more w v bs ds t scope n done all before k q r ea ed h g =
      writes_same own terms w v bs ds (parts_code own terms t before n) (part_code own terms (get_or all done q).node (awaits.Part t before) n) scope k (step.Go r)
      (λ σ κ st.
      ap (λ ps. parts_of own terms (conv own terms) ps before (drop (length before) ps) σ κ n) (sym ea)
      ∙ ap (λ ps. parts_of own terms (conv own terms) all before ps σ κ n) (ap (λ m. drop m all) (sym ed) ∙ drop-cons all done q h)
      ∙ ap (λ m. parts_of own terms (conv own terms) all before (get_or all done q ∷ drop (suc m) all) σ κ n) ed
      ∙ ap (λ ps. parts_of own terms (conv own terms) ps before (get_or all done q ∷ drop (suc (length before)) ps) σ κ n) ea) g
