-- What is written of a term is what the clause for its form makes of it.
use Rattle.std.proofs.Common.{◌≡◌, ℕ, suc, ◌+◌, ◌≤◌, Bool, false, List, [], ◌∷◌, Some, None, length, refl, sym, ap, ◌∙◌, subst}
use Rattle.std.specs.Bool.{◌==◌}
use Rattle.std.specs.Prelude.{slice_get}
use Rattle.smlc_base.specs.declared.exception.LibraryExn.TheVariants as exn
use Rattle.lambda_ir.specs.declared.term.Bind.{Bind as Binding}
use Rattle.lambda_ir.specs.declared.term.Case.{Case}
use Rattle.lambda_ir.specs.declared.term.Part.{Part}
use Rattle.lambda_ir.specs.declared.term.Term.{Term}
use Rattle.lambda_ir.specs.declared.term.Term.TheVariants as term
use Rattle.sml_tree.specs.declared.bare.Con.{Con}
use Rattle.sml_tree.specs.declared.bare.RecBinding.{RecBinding}
use Rattle.smlc_base.specs.declared.Name.{Name}
use Rattle.cps_ir.specs.declared.atom.Atom.{Atom}
use Rattle.cps_ir.specs.declared.atom.Constant.TheVariants as constant
use Rattle.cps_ir.specs.declared.body.Bind.{Bind}
use Rattle.cps_ir.specs.declared.body.End.TheVariants as end
use Rattle.cps_ir.specs.Code.{Code, Fix, NoFunction, Halt}
use Rattle.convert_laws.specs.declared.head.Head.{Head}
use Rattle.convert_laws.specs.declared.head.Head.TheVariants as head
use Rattle.convert_laws.specs.Convert.{Scope, Kon, Conv, variable, known, apply, raise_exn, part, parts_of, match_on, tuple_of, function_of, handled, binds_of, size_at, size_cases}
use Rattle.convert_laws.specs.Facts.{AreNumbered}
use Rattle.convert_laws.specs.Needs.{head_at}
use Rattle.convert_unfold.proofs.Same.{unfolds}
use Rattle.convert_steps.specs.declared.task.Awaits.{Awaits}
use Rattle.convert_steps.specs.declared.task.Awaits.TheVariants as awaits
use Rattle.convert_steps.specs.declared.task.Continuation.{Continuation}
use Rattle.convert_steps.specs.declared.task.Step.{Step}
use Rattle.convert_steps.specs.declared.task.Step.TheVariants as step
use Rattle.convert_steps.specs.declared.task.Work.TheVariants as work
use Rattle.convert_steps.specs.declared.world.World.{World}
use Rattle.convert_steps.specs.Codes.{conv, cases_in, cases_at, parts_in, parts_at, binds_in, part_code, parts_code, bindings_code}
use Rattle.convert_steps.specs.Exceptions.{new_code, same_code}
use Rattle.convert_steps.specs.Functions.{closure_code}
use Rattle.convert_steps.specs.Handles.{handle_code}
use Rattle.convert_steps.specs.Writes.{Writes}
use Rattle.convert_steps.proofs.Ended.{writes_same}
use Rattle.convert_steps.proofs.Write.{goes_same, stops}
use Rattle.convert_groups.specs.Groups.{group_code}
use Rattle.convert_terms.specs.Leaves.{leaf, leaf_code}
use Rattle.convert_terms.specs.Terms.{first_part, awaited, applied_code, declared_code, tuple_code, term_code}

pub isnt_empty : (ps : List Part) → (length ps == 0) ≡ false → ps ≡ [] → ⊥
isnt_empty [] e h = cc
isnt_empty (q ∷ ps) e h = cc

module _ (own : ℕ → Bool) (terms : List Term) where
  -- ---- Tuples and applications

  pub empty_tuple : (w : World) (bs : List Bind) (t scope n : ℕ) (k : Continuation) → parts_at terms t ≡ [] → Writes own terms w bs w bs (tuple_code own terms t n) scope k (step.Go (record { work = work.Give (known constant.Nothing); scope = scope; continuation = k; next = n }))
  empty_tuple w bs t scope n k e =
      goes_same own terms w bs (tuple_code own terms t n) (record { work = work.Give (known constant.Nothing); scope = scope; continuation = k; next = n })
      (λ σ κ st. ap (λ ps. tuple_of own terms (conv own terms) ps σ κ n) e)

  tuple_parts : (all : List Part) (σ : Scope) (κ : Kon) (n : ℕ) → (all ≡ [] → ⊥) → tuple_of own terms (conv own terms) all σ κ n ≡ parts_of own terms (conv own terms) all [] all σ κ n
  tuple_parts [] σ κ n h = absurd (h refl)
  tuple_parts (q ∷ parts) σ κ n h = refl

  pub tuple_begun : (w v : World) (bs ds : List Bind) (t scope n : ℕ) (before : List Atom) (k : Continuation) (s : Step) → (parts_at terms t ≡ [] → ⊥) → before ≡ [] → Writes own terms w bs v ds (parts_code own terms t before n) scope k s → Writes own terms w bs v ds (tuple_code own terms t n) scope k s
  tuple_begun w v bs ds t scope n before k s some e h =
      writes_same own terms w v bs ds (tuple_code own terms t n) (parts_code own terms t [] n) scope k s (λ σ κ st. tuple_parts (parts_at terms t) σ κ n some)
      (subst (λ xs. Writes own terms w bs v ds (parts_code own terms t xs n) scope k s) e h)

  applied_is : (h : Head) (f a n : ℕ) (σ : Scope) (κ : Kon) → applied_code own terms h f a n σ κ ≡ part_code own terms (first_part h f a) (awaited h a) n σ κ
  applied_is head.Computed f a n σ κ = refl
  applied_is (head.Builtin p) f a n σ κ = refl
  applied_is (head.Constructor c) f a n σ κ = refl

  pub applied_written : (w v : World) (bs ds : List Bind) (h : Head) (f a first scope n : ℕ) (x : Awaits) (k : Continuation) (s : Step) → h ≡ head_at terms f → first ≡ first_part h f a → x ≡ awaited h a → Writes own terms w bs v ds (part_code own terms first x n) scope k s → Writes own terms w bs v ds (applied_code own terms (head_at terms f) f a n) scope k s
  applied_written w v bs ds h f a first scope n x k s eh ef ex d =
      writes_same own terms w v bs ds (applied_code own terms (head_at terms f) f a n) (part_code own terms first x n) scope k s
      (λ σ κ st.
      ap (λ (g : Head). applied_code own terms g f a n σ κ) (sym eh) ∙ applied_is h f a n σ κ
      ∙ ap (λ j. part_code own terms j (awaited h a) n σ κ) (sym ef) ∙ ap (λ y. part_code own terms first y n σ κ) (sym ex)) d

  -- ---- Terms by their forms

  cases_are : (i : ℕ) (t u : Term) → slice_get terms i ≡ Some t → t ≡ u → cases_at terms i ≡ cases_in (Some u)
  cases_are i t u here e = ap cases_in (here ∙ ap Some e)

  by_form : (w v : World) (bs ds : List Bind) (i n : ℕ) (t u : Term) (g : Scope → Kon → Code) (scope : ℕ) (k : Continuation) (s : Step) → t ≡ u → ((σ : Scope) (κ : Kon) → term_code own terms i u n σ κ ≡ g σ κ) → Writes own terms w bs v ds g scope k s → Writes own terms w bs v ds (term_code own terms i t n) scope k s
  by_form w v bs ds i n t u g scope k s e same h =
      writes_same own terms w v bs ds (term_code own terms i t n) g scope k s (λ σ κ st. ap (λ x. term_code own terms i x n σ κ) e ∙ same σ κ) h

  pub a_tuple : (w v : World) (bs ds : List Bind) (i n : ℕ) (t : Term) (ps : List Part) (scope : ℕ) (k : Continuation) (s : Step) → slice_get terms i ≡ Some t → t ≡ term.Tuple ps → Writes own terms w bs v ds (tuple_code own terms i n) scope k s → Writes own terms w bs v ds (term_code own terms i t n) scope k s
  a_tuple w v bs ds i n t ps scope k s here e =
      by_form w v bs ds i n t (term.Tuple ps) (tuple_code own terms i n) scope k s e (λ σ κ. ap (λ qs. tuple_of own terms (conv own terms) qs σ κ n) (sym (ap parts_in (here ∙ ap Some e))))

  pub an_application : (w v : World) (bs ds : List Bind) (i n : ℕ) (t : Term) (f a : ℕ) (scope : ℕ) (k : Continuation) (s : Step) → t ≡ term.App f a → Writes own terms w bs v ds (applied_code own terms (head_at terms f) f a n) scope k s → Writes own terms w bs v ds (term_code own terms i t n) scope k s
  an_application w v bs ds i n t f a scope k s e =
      by_form w v bs ds i n t (term.App f a) (applied_code own terms (head_at terms f) f a n) scope k s e (λ σ κ. refl)

  pub a_match : (w v : World) (bs ds : List Bind) (i n : ℕ) (t : Term) (x : ℕ) (cs : List Case) (scope : ℕ) (k : Continuation) (s : Step) → slice_get terms i ≡ Some t → t ≡ term.Match x cs → Writes own terms w bs v ds (part_code own terms x (awaits.Subject i) n) scope k s → Writes own terms w bs v ds (term_code own terms i t n) scope k s
  a_match w v bs ds i n t x cs scope k s here e =
      by_form w v bs ds i n t (term.Match x cs) (part_code own terms x (awaits.Subject i) n) scope k s e
      (λ σ κ. ap (λ ds. part own terms (conv own terms) x σ (λ a m. match_on own terms (conv own terms) ds σ κ (raise_exn exn.MatchExn) a m) n) (sym (cases_are i t (term.Match x cs) here e)))

  pub a_function : (w v : World) (bs ds : List Bind) (i n : ℕ) (t : Term) (cs : List Case) (scope : ℕ) (k : Continuation) (s : Step) → slice_get terms i ≡ Some t → t ≡ term.Fn cs → Writes own terms w bs v ds (closure_code own terms i n) scope k s → Writes own terms w bs v ds (term_code own terms i t n) scope k s
  a_function w v bs ds i n t cs scope k s here e =
      by_form w v bs ds i n t (term.Fn cs) (closure_code own terms i n) scope k s e
      (λ σ κ. ap (λ ds. Fix (function_of own terms (conv own terms) n i ds σ (suc n) NoFunction) (apply κ (variable n) (3 + n + size_cases (size_at terms) ds))) (sym (cases_are i t (term.Fn cs) here e)))

  pub a_raise : (w v : World) (bs ds : List Bind) (i n : ℕ) (t : Term) (x : ℕ) (scope : ℕ) (k : Continuation) (s : Step) → t ≡ term.Raise x → Writes own terms w bs v ds (part_code own terms x awaits.Packet n) scope k s → Writes own terms w bs v ds (term_code own terms i t n) scope k s
  a_raise w v bs ds i n t x scope k s e =
      by_form w v bs ds i n t (term.Raise x) (part_code own terms x awaits.Packet n) scope k s e (λ σ κ. refl)

  pub a_handle : (w v : World) (bs ds : List Bind) (i n : ℕ) (t : Term) (x : ℕ) (cs : List Case) (scope : ℕ) (k : Continuation) (s : Step) → slice_get terms i ≡ Some t → t ≡ term.Handle x cs → Writes own terms w bs v ds (handle_code own terms i x n) scope k s → Writes own terms w bs v ds (term_code own terms i t n) scope k s
  a_handle w v bs ds i n t x cs scope k s here e =
      by_form w v bs ds i n t (term.Handle x cs) (handle_code own terms i x n) scope k s e
      (λ σ κ. ap (λ ds. handled own terms (conv own terms) i x ds σ κ n) (sym (cases_are i t (term.Handle x cs) here e)))

  pub a_place : (w : World) (bs : List Bind) (i n : ℕ) (t : Term) (x : ℕ) (scope : ℕ) (k : Continuation) → t ≡ term.Same x → Writes own terms w bs w bs (term_code own terms i t n) scope k (step.Go (record { work = work.Term x; scope = scope; continuation = k; next = n }))
  a_place w bs i n t x scope k e =
      goes_same own terms w bs (term_code own terms i t n) (record { work = work.Term x; scope = scope; continuation = k; next = n }) (λ σ κ st. ap (λ u. term_code own terms i u n σ κ) e)

  pub a_let : (w v : World) (bs ds : List Bind) (i n : ℕ) (t : Term) (d b : ℕ) (scope : ℕ) (k : Continuation) (s : Step) → t ≡ term.Let d b → Writes own terms w bs v ds (declared_code own terms d b (slice_get terms d) n) scope k s → Writes own terms w bs v ds (term_code own terms i t n) scope k s
  a_let w v bs ds i n t d b scope k s e =
      by_form w v bs ds i n t (term.Let d b) (declared_code own terms d b (slice_get terms d) n) scope k s e (λ σ κ. refl)

  leaf_is : (i n : ℕ) (t : Term) (σ : Scope) (κ : Kon) → ((ps : List Part) → t ≡ term.Tuple ps → ⊥) → ((f a : ℕ) → t ≡ term.App f a → ⊥) → ((x : ℕ) (cs : List Case) → t ≡ term.Match x cs → ⊥) → ((cs : List Case) → t ≡ term.Fn cs → ⊥) → ((x : ℕ) → t ≡ term.Raise x → ⊥) → ((x : ℕ) (cs : List Case) → t ≡ term.Handle x cs → ⊥) → ((x : ℕ) → t ≡ term.Same x → ⊥) → ((d b : ℕ) → t ≡ term.Let d b → ⊥) → term_code own terms i t n σ κ ≡ leaf_code (leaf σ t) κ n
  leaf_is i n (term.Int z) σ κ nt na nm nf nr nh ns nl = refl
  leaf_is i n (term.Char c) σ κ nt na nm nf nr nh ns nl = refl
  leaf_is i n (term.Text x) σ κ nt na nm nf nr nh ns nl = refl
  leaf_is i n (term.Var x) σ κ nt na nm nf nr nh ns nl = refl
  leaf_is i n (term.Constructor c) σ κ nt na nm nf nr nh ns nl = refl
  leaf_is i n (term.Builtin p) σ κ nt na nm nf nr nh ns nl = refl
  leaf_is i n (term.Tuple ps) σ κ nt na nm nf nr nh ns nl = absurd (nt ps refl)
  leaf_is i n (term.App f a) σ κ nt na nm nf nr nh ns nl = absurd (na f a refl)
  leaf_is i n (term.Match x cs) σ κ nt na nm nf nr nh ns nl = absurd (nm x cs refl)
  leaf_is i n (term.Fn cs) σ κ nt na nm nf nr nh ns nl = absurd (nf cs refl)
  leaf_is i n (term.Raise x) σ κ nt na nm nf nr nh ns nl = absurd (nr x refl)
  leaf_is i n (term.Handle x cs) σ κ nt na nm nf nr nh ns nl = absurd (nh x cs refl)
  leaf_is i n (term.Same x) σ κ nt na nm nf nr nh ns nl = absurd (ns x refl)
  leaf_is i n (term.Let d b) σ κ nt na nm nf nr nh ns nl = absurd (nl d b refl)
  leaf_is i n term.Finish σ κ nt na nm nf nr nh ns nl = refl
  leaf_is i n (term.Binds bs) σ κ nt na nm nf nr nh ns nl = refl
  leaf_is i n (term.Group bs) σ κ nt na nm nf nr nh ns nl = refl
  leaf_is i n (term.NewExn x) σ κ nt na nm nf nr nh ns nl = refl
  leaf_is i n (term.SameExn x c) σ κ nt na nm nf nr nh ns nl = refl
  leaf_is i n term.Nothing σ κ nt na nm nf nr nh ns nl = refl
  leaf_is i n term.Gone σ κ nt na nm nf nr nh ns nl = refl

  pub a_leaf : (w v : World) (bs ds : List Bind) (i n : ℕ) (t : Term) (scope : ℕ) (k : Continuation) (s : Step) → ((ps : List Part) → t ≡ term.Tuple ps → ⊥) → ((f a : ℕ) → t ≡ term.App f a → ⊥) → ((x : ℕ) (cs : List Case) → t ≡ term.Match x cs → ⊥) → ((cs : List Case) → t ≡ term.Fn cs → ⊥) → ((x : ℕ) → t ≡ term.Raise x → ⊥) → ((x : ℕ) (cs : List Case) → t ≡ term.Handle x cs → ⊥) → ((x : ℕ) → t ≡ term.Same x → ⊥) → ((d b : ℕ) → t ≡ term.Let d b → ⊥) → Writes own terms w bs v ds (λ σ κ. leaf_code (leaf σ t) κ n) scope k s → Writes own terms w bs v ds (term_code own terms i t n) scope k s
  a_leaf w v bs ds i n t scope k s nt na nm nf nr nh ns nl h =
      writes_same own terms w v bs ds (term_code own terms i t n) (λ σ κ. leaf_code (leaf σ t) κ n) scope k s (λ σ κ st. leaf_is i n t σ κ nt na nm nf nr nh ns nl) h

  -- ---- Declarations by their forms

  declared_by : (w v : World) (bs ds : List Bind) (d b n : ℕ) (t u : Term) (g : Scope → Kon → Code) (scope : ℕ) (k : Continuation) (s : Step) → t ≡ u → ((σ : Scope) (κ : Kon) → declared_code own terms d b (Some u) n σ κ ≡ g σ κ) → Writes own terms w bs v ds g scope k s → Writes own terms w bs v ds (declared_code own terms d b (Some t) n) scope k s
  declared_by w v bs ds d b n t u g scope k s e same h =
      writes_same own terms w v bs ds (declared_code own terms d b (Some t) n) g scope k s (λ σ κ st. ap (λ x. declared_code own terms d b (Some x) n σ κ) e ∙ same σ κ) h

  pub bindings_declared : (w v : World) (bs ds : List Bind) (d b n : ℕ) (t : Term) (xs : List Binding) (scope : ℕ) (k : Continuation) (s : Step) → slice_get terms d ≡ Some t → t ≡ term.Binds xs → Writes own terms w bs v ds (bindings_code own terms d 0 b n) scope k s → Writes own terms w bs v ds (declared_code own terms d b (Some t) n) scope k s
  bindings_declared w v bs ds d b n t xs scope k s here e =
      declared_by w v bs ds d b n t (term.Binds xs) (bindings_code own terms d 0 b n) scope k s e
      (λ σ κ. ap (λ ys. binds_of own terms (conv own terms) ys b σ κ n) (sym (ap binds_in (here ∙ ap Some e))))

  pub group_declared : (w v : World) (bs ds : List Bind) (d b n : ℕ) (t : Term) (xs ys : List RecBinding) (scope : ℕ) (k : Continuation) (s : Step) → t ≡ term.Group xs → ys ≡ xs → Writes own terms w bs v ds (group_code own terms ys d b n) scope k s → Writes own terms w bs v ds (declared_code own terms d b (Some t) n) scope k s
  group_declared w v bs ds d b n t xs ys scope k s e ey =
      declared_by w v bs ds d b n t (term.Group xs) (group_code own terms ys d b n) scope k s e
      (λ σ κ. ap (λ zs. group_code own terms zs d b n σ κ) (sym ey))

  pub name_declared : (w v : World) (bs ds : List Bind) (d b n : ℕ) (t : Term) (x : Name) (scope : ℕ) (k : Continuation) (s : Step) → t ≡ term.NewExn x → Writes own terms w bs v ds (new_code own terms x.0 b n) scope k s → Writes own terms w bs v ds (declared_code own terms d b (Some t) n) scope k s
  name_declared w v bs ds d b n t x scope k s e =
      declared_by w v bs ds d b n t (term.NewExn x) (new_code own terms x.0 b n) scope k s e (λ σ κ. refl)

  pub same_declared : (w v : World) (bs ds : List Bind) (d b n : ℕ) (t : Term) (x : Name) (c : Con) (scope : ℕ) (k : Continuation) (s : Step) → t ≡ term.SameExn x c → Writes own terms w bs v ds (same_code own terms x.0 c b n) scope k s → Writes own terms w bs v ds (declared_code own terms d b (Some t) n) scope k s
  same_declared w v bs ds d b n t x c scope k s e =
      declared_by w v bs ds d b n t (term.SameExn x c) (same_code own terms x.0 c b n) scope k s e (λ σ κ. refl)

  pub nothing_declared : (w : World) (bs : List Bind) (d b n : ℕ) (t : Term) (scope : ℕ) (k : Continuation) → t ≡ term.Nothing → Writes own terms w bs w bs (declared_code own terms d b (Some t) n) scope k (step.Go (record { work = work.Term b; scope = scope; continuation = k; next = n }))
  nothing_declared w bs d b n t scope k e =
      goes_same own terms w bs (declared_code own terms d b (Some t) n) (record { work = work.Term b; scope = scope; continuation = k; next = n }) (λ σ κ st. ap (λ u. declared_code own terms d b (Some u) n σ κ) e)

  none_is : (d b n : ℕ) (t : Term) (σ : Scope) (κ : Kon) → ((xs : List Binding) → t ≡ term.Binds xs → ⊥) → ((xs : List RecBinding) → t ≡ term.Group xs → ⊥) → ((x : Name) → t ≡ term.NewExn x → ⊥) → ((x : Name) (c : Con) → t ≡ term.SameExn x c → ⊥) → (t ≡ term.Nothing → ⊥) → declared_code own terms d b (Some t) n σ κ ≡ Halt
  none_is d b n (term.Binds xs) σ κ nb ng nn ns nx = absurd (nb xs refl)
  none_is d b n (term.Group xs) σ κ nb ng nn ns nx = absurd (ng xs refl)
  none_is d b n (term.NewExn x) σ κ nb ng nn ns nx = absurd (nn x refl)
  none_is d b n (term.SameExn x c) σ κ nb ng nn ns nx = absurd (ns x c refl)
  none_is d b n term.Nothing σ κ nb ng nn ns nx = absurd (nx refl)
  none_is d b n _ σ κ nb ng nn ns nx = refl

  pub none_declared : (w : World) (bs : List Bind) (d b n : ℕ) (t : Term) (scope : ℕ) (k : Continuation) → ((xs : List Binding) → t ≡ term.Binds xs → ⊥) → ((xs : List RecBinding) → t ≡ term.Group xs → ⊥) → ((x : Name) → t ≡ term.NewExn x → ⊥) → ((x : Name) (c : Con) → t ≡ term.SameExn x c → ⊥) → (t ≡ term.Nothing → ⊥) → Writes own terms w bs w bs (declared_code own terms d b (Some t) n) scope k (step.Stop end.Halt)
  none_declared w bs d b n t scope k nb ng nn ns nx =
      stops own terms w bs (declared_code own terms d b (Some t) n) scope k end.Halt refl (λ body σ κ st. none_is d b n t σ κ nb ng nn ns nx)

  pub declared_at : (w v : World) (bs ds : List Bind) (d b n : ℕ) (t : Term) (scope : ℕ) (k : Continuation) (s : Step) → slice_get terms d ≡ Some t → Writes own terms w bs v ds (declared_code own terms d b (Some t) n) scope k s → Writes own terms w bs v ds (declared_code own terms d b (slice_get terms d) n) scope k s
  declared_at w v bs ds d b n t scope k s here =
      writes_same own terms w v bs ds (declared_code own terms d b (slice_get terms d) n) (declared_code own terms d b (Some t) n) scope k s (λ σ κ st. ap (λ o. declared_code own terms d b o n σ κ) here)

  pub declared_nowhere : (w : World) (bs : List Bind) (d b n : ℕ) (scope : ℕ) (k : Continuation) → slice_get terms d ≡ None → Writes own terms w bs w bs (declared_code own terms d b (slice_get terms d) n) scope k (step.Stop end.Halt)
  declared_nowhere w bs d b n scope k e =
      stops own terms w bs (declared_code own terms d b (slice_get terms d) n) scope k end.Halt refl (λ body σ κ st. ap (λ o. declared_code own terms d b o n σ κ) e)

  -- ---- Terms by number

  pub term_at : (w v : World) (bs ds : List Bind) (i n : ℕ) (t : Term) (scope : ℕ) (k : Continuation) (s : Step) → AreNumbered terms → slice_get terms i ≡ Some t → Writes own terms w bs v ds (term_code own terms i t n) scope k s → Writes own terms w bs v ds (λ σ κ. conv own terms i σ κ n) scope k s
  term_at w v bs ds i n t scope k s numbered here =
      writes_same own terms w v bs ds (λ σ κ. conv own terms i σ κ n) (term_code own terms i t n) scope k s (λ σ κ st. ap (λ (c : Conv). c σ κ n) ((unfolds own terms numbered).here i t here))

  pub term_nowhere : (w : World) (bs : List Bind) (i n : ℕ) (scope : ℕ) (k : Continuation) → AreNumbered terms → length terms ≤ i → Writes own terms w bs w bs (λ σ κ. conv own terms i σ κ n) scope k (step.Stop end.Halt)
  term_nowhere w bs i n scope k numbered past =
      stops own terms w bs (λ σ κ. conv own terms i σ κ n) scope k end.Halt refl (λ body σ κ st. ap (λ (c : Conv). c σ κ n) ((unfolds own terms numbered).past i past))
