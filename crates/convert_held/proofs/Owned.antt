-- A frame without a function of its own has no label.
use Rattle.std.proofs.Common.{◌≡◌, ℕ, suc, Bool, true, false, List, [], ◌∷◌, ◌++◌, Option, Some, None, refl, sym, ap, ◌∙◌}
use Rattle.std.specs.Prelude.{slice_get, ◌&&◌, ◌||◌, ◌==◌}
use Rattle.std.specs.List.{AllByRecursion}
use Rattle.std.specs.Option.{is_some}
use Rattle.smlc_base.specs.declared.point.Point.{Point}
use Rattle.smlc_base.specs.declared.point.PointKind.TheVariants as kind
use Rattle.smlc_base.specs.Points.{is_point, is_label}
use Rattle.sml_tree.specs.Points.{point}
use Rattle.sml_tree.specs.declared.bare.RecBinding.{RecBinding}
use Rattle.sml_tree.specs.Sets.{has}
use Rattle.sml_tree.proofs.Members.{IsWithin}
use Rattle.sml_def.specs.Run.{eq_point}
use Rattle.sml_def.proofs.Effects.{all_get}
use Rattle.sml_def.proofs.OneSite.{not_point}
use Rattle.sml_def.proofs.Options.{if_some}
use Rattle.lambda_ir.specs.declared.term.Bind.{Bind}
use Rattle.lambda_ir.specs.declared.term.Case.{Case}
use Rattle.lambda_ir.specs.declared.term.Part.{Part}
use Rattle.lambda_ir.specs.declared.term.Term.{Term}
use Rattle.lambda_ir.specs.declared.term.Term.TheVariants as term
use Rattle.lambda_ir.specs.Free.{free_of_term, free_at, function_at}
use Rattle.lambda_ir.specs.Program.{Lambda}
use Rattle.lambda_ir.specs.Kept.{TermKept, IsProgram}
use Rattle.cps_ir.specs.Code.{Code, Make, Pick, Prim, Equal, Fix, Call, Match, Handler, SetHandler, Throw, Halt, Functions, NoFunction, Function, Rules, Otherwise, Rule}
use Rattle.cps_ir.specs.Free.{labels, labels_functions, labels_rules}
use Rattle.cps_ir.specs.Slim.{layouts, layouts_functions, layouts_rules}
use Rattle.convert_laws.specs.Convert.{convert}
use Rattle.convert_laws.proofs.Unfold.{all_map}
use Rattle.convert_held.specs.Law.{LabelsAreOwned}
use Rattle.convert_held.proofs.Lists.{neither}
use Rattle.convert_held.proofs.Allows.{Awaited, Awaits, PartsAllow, CasesAllow, FunctionAllows, BindsAllow, OneAllows, GroupAllows, DeclaredAllows, Allows}
use Rattle.convert_held.proofs.Fits.{AreFine}
use Rattle.convert_held.proofs.Terms.{whole_fits}
use Rattle.convert_held.proofs.Unfold.{free_unfold}

-- ---- What a program of `Lambda` gives the walk

module _ (l : Lambda) (p : IsProgram l) where
  pub free_covers : (i : ℕ) (t : Term) → slice_get l.terms i ≡ Some t → IsWithin (free_of_term l.terms (free_at l.terms) i t) (free_at l.terms i)
  free_covers i t e x h = ap (λ xs. has xs x) (free_unfold l.terms p.numbered i t e) ∙ h

  pub group_present : (i : ℕ) (bindings : List RecBinding) → slice_get l.terms i ≡ Some (term.Group bindings) → AllByRecursion (λ b. is_some (function_at l.terms b.right) ≡ true) bindings
  group_present i bindings e =
      all_map (λ b (h : (_) × (is_some (function_at l.terms b.right) ≡ true)). h.1) bindings (if_some (TermKept l) (slice_get l.terms i) (term.Group bindings) e (all_get (TermKept l) l.terms i p.kept))

-- ---- Labels

both_lack : (xs ys : List Point) (q : Point) → is_label xs q ≡ false → is_label ys q ≡ false → is_label (xs ++ ys) q ≡ false
both_lack [] ys q h g = g
both_lack (x ∷ xs) ys q h g = go (is_point x q) h (λ f. both_lack xs ys q f g)
  where
    go : (b : Bool) → (b || is_label xs q) ≡ false → (is_label xs q ≡ false → is_label (xs ++ ys) q ≡ false) → (b || is_label (xs ++ ys) q) ≡ false
    go true f again = absurd (let clash : true ≡ false = f in cc)
    go false f again = again f

front_fine : {A : Type 0} (P : A → Type 0) (xs ys : List A) → AllByRecursion P (xs ++ ys) → AllByRecursion P xs
front_fine P [] ys h = tt
front_fine P (x ∷ xs) ys h = (h.0, front_fine P xs ys h.1)

back_fine : {A : Type 0} (P : A → Type 0) (xs ys : List A) → AllByRecursion P (xs ++ ys) → AllByRecursion P ys
back_fine P [] ys h = h
back_fine P (x ∷ xs) ys h = back_fine P xs ys h.1

and_false : (b : Bool) → (b && false) ≡ false
and_false true = refl
and_false false = refl

module _ (own : ℕ → Bool) where
  -- the functions of frames are those of frames that have their own
  abbrev IsOwned : Point → ℕ → Type 0
  IsOwned q n = q.kind ≡ kind.Ret → own q.node ≡ true

  module _ (j : ℕ) (none : own j ≡ false) where
    other : (q : Point) → (q.kind ≡ kind.Ret → own q.node ≡ true) → is_point q (point j kind.Ret) ≡ false
    other q h =
        not_point q (point j kind.Ret) (λ e. let owned : own q.node ≡ true = h (ap (λ (r : Point). r.kind) e) in let clash : true ≡ false = sym owned ∙ ap (λ (r : Point). own r.node) e ∙ none in cc)

    mutual
      unlabelled : (c : Code) → AreFine IsOwned (layouts c) → is_label (labels c) (point j kind.Ret) ≡ false
      unlabelled (Make x shape atoms c) h = unlabelled c h
      unlabelled (Pick x i a c) h = unlabelled c h
      unlabelled (Prim x f atoms c) h = unlabelled c h
      unlabelled (Equal a b truth k) h = neither (is_point eq_point (point j kind.Ret)) false (and_false (eq_point.node == j)) refl
      unlabelled (Fix fs c) h =
          both_lack (labels_functions fs) (labels c) (point j kind.Ret) (unlabelled_functions fs (front_fine _ (layouts_functions fs) (layouts c) h)) (unlabelled c (back_fine _ (layouts_functions fs) (layouts c) h))
      unlabelled (Call a atoms) h = refl
      unlabelled (Match a rules) h = unlabelled_rules rules h
      unlabelled (Handler x c) h = unlabelled c h
      unlabelled (SetHandler a c) h = unlabelled c h
      unlabelled (Throw a) h = refl
      unlabelled Halt h = refl

      unlabelled_functions : (fs : Functions) → AreFine IsOwned (layouts_functions fs) → is_label (labels_functions fs) (point j kind.Ret) ≡ false
      unlabelled_functions NoFunction h = refl
      unlabelled_functions (Function f q params body fs) h =
          neither (is_point q (point j kind.Ret)) (is_label (labels body ++ labels_functions fs) (point j kind.Ret)) (other q h.0.2)
          (both_lack (labels body) (labels_functions fs) (point j kind.Ret) (unlabelled body (front_fine _ (layouts body) (layouts_functions fs) h.1)) (unlabelled_functions fs (back_fine _ (layouts body) (layouts_functions fs) h.1)))

      unlabelled_rules : (rules : Rules) → AreFine IsOwned (layouts_rules rules) → is_label (labels_rules rules) (point j kind.Ret) ≡ false
      unlabelled_rules (Otherwise c) h = unlabelled c h
      unlabelled_rules (Rule tests c rules) h =
          both_lack (labels c) (labels_rules rules) (point j kind.Ret) (unlabelled c (front_fine _ (layouts c) (layouts_rules rules) h)) (unlabelled_rules rules (back_fine _ (layouts c) (layouts_rules rules) h))

  -- ---- Every term goes with this

  abbrev Any : ℕ → ℕ → Type 0
  Any i n = Unit {0}

  module _ (terms : List Term) (free : ℕ → List ℕ) where
    awaits : (j n : ℕ) → Awaits IsOwned Any own terms free j n
    awaits j n = go (own j) refl
      where
        go : (b : Bool) → own j ≡ b → Awaited IsOwned Any own terms free b j n
        go true e = ((λ k. e), tt)
        go false e = tt

    parts_allow : (k : ℕ) (parts : List Part) (r : ℕ) → PartsAllow IsOwned Any own terms free k parts r
    parts_allow k [] r = tt
    parts_allow k (q ∷ later) r = (awaits q.node _, parts_allow (suc k) later r)

    cases_allow : (cases : List Case) (r : ℕ) → CasesAllow IsOwned Any own terms free cases r
    cases_allow [] r = tt
    cases_allow (c ∷ cases) r = (tt, cases_allow cases r)

    function_allows : (i : ℕ) (cases : List Case) → FunctionAllows IsOwned Any own terms free i cases
    function_allows i cases = ((λ k. cc), cases_allow cases 1)

    binds_allow : (binds : List Bind) (body r : ℕ) → BindsAllow IsOwned Any own terms free binds body r
    binds_allow [] body r = tt
    binds_allow (b ∷ later) body r = (awaits b.right _, binds_allow later body r)

    one_allows : (o : Option (ℕ × List Case)) → OneAllows IsOwned Any own terms free o
    one_allows None = tt
    one_allows (Some c) = function_allows c.0 c.1

    group_allows : (bindings : List RecBinding) → GroupAllows IsOwned Any own terms free bindings
    group_allows [] = tt
    group_allows (b ∷ bindings) = (one_allows (function_at terms b.right), group_allows bindings)

    declared_allows : (o : Option Term) (body r : ℕ) → DeclaredAllows IsOwned Any own terms free o body r
    declared_allows (Some (term.Binds binds)) body r = binds_allow binds body r
    declared_allows (Some (term.Group bindings)) body r = (group_allows bindings, tt)
    declared_allows _ body r = tt

    allows : (i : ℕ) (t : Term) (r : ℕ) → Allows IsOwned Any own terms free i t r
    allows i (term.Tuple parts) r = parts_allow 0 parts r
    allows i (term.App f a) r = (awaits f _, awaits a _)
    allows i (term.Match e cases) r = (awaits e _, cases_allow cases r)
    allows i (term.Fn cases) r = function_allows i cases
    allows i (term.Raise e) r = awaits e 0
    allows i (term.Handle e cases) r = ((λ k. cc), (λ k. cc), tt, cases_allow cases r)
    allows i (term.Same e) r = tt
    allows i (term.Let d body) r = declared_allows (slice_get terms d) body r
    allows i _ r = tt

pub labels_are_owned : LabelsAreOwned
labels_are_owned l p own j none =
    unlabelled own j none (convert own l.terms) (whole_fits (IsOwned own) (λ q m n le h. h) (Any own) own l.terms (free_at l.terms) (free_covers l p) (group_present l p) (λ i t r e a. allows own l.terms (free_at l.terms) i t r) tt).fine
