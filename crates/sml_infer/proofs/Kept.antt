-- What stays when inference goes on.
use native.Mathlib.Omega.{arith}
use Rattle.std.proofs.Common.{◌≡◌, ◌<◌, ◌+◌, ℕ, zero, suc, Option, Some, None, List, [], ◌∷◌, true, false, length, refl, sym, ap, subst, ◌∙◌}
use Rattle.std.specs.Prelude.{slice_get}
use Rattle.std.specs.List.{AllByRecursion}
use Rattle.sml_tree.specs.declared.bare.Bare.{Bare}
use Rattle.sml_tree.specs.declared.bare.Node.{Node}
use Rattle.sml_types.specs.declared.types.TyVar.{TyVar}
use Rattle.sml_types.specs.declared.types.TyForm.{TyForm}
use Rattle.sml_types.specs.declared.types.TyForm.TheVariants.{Var}
use Rattle.sml_types.specs.declared.scheme.Scheme.{Scheme}
use Rattle.sml_types.specs.declared.tables.TypeName.{TypeName}
use Rattle.sml_types.specs.Tree.{Tree, AllVars, occurs}
use Rattle.sml_types.specs.Poly.{Poly, poly, has_num}
use Rattle.sml_types.specs.Schemes.{scheme_poly}
use Rattle.sml_types.specs.TypeExps.{explicit}
use Rattle.sml_types.specs.Library.{NameType}
use Rattle.sml_types.specs.Typing.{Typing, Covers}
use Rattle.sml_unify.specs.Solved.{Substitution, Agrees}
use Rattle.sml_unify.specs.Steps.{IsLonger}
use Rattle.infer_parts.specs.Written.{AreAbbreviations, IsClosedScheme}
use Rattle.infer_state.specs.declared.settled.Settled.{Settled}
use Rattle.infer_state.specs.declared.declared.Declared.{Declared}
use Rattle.infer_state.specs.declared.declared.Starts.{Starts}
use Rattle.infer_state.specs.Variables.{node_var, name_var, AreLaidOut}
use Rattle.infer_state.specs.Steps.{IsSolution}
use Rattle.infer_state.specs.Rules.{IsRule}
use Rattle.infer_state.specs.Names.{Inside, parts_in}
use Rattle.infer_state.specs.Fits.{Fits, HasTables, Suits, AllSuit, AreThere, IsThere, IsFormVar, settled_poly, joined_settled}
use Rattle.infer_nodes.specs.Good.{AreDeclaredIn}
use Rattle.infer_laws.proofs.Copies.{vars_map, vars_both, inst_on}
use Rattle.infer_laws.proofs.Settled.{settled_known}
use Rattle.infer_laws.proofs.Longer.{rows_same, settled_same, abbreviations_same}
use Rattle.sml_infer.specs.Stages.{Stage, known, Grows, IsDone}
use Rattle.sml_infer.specs.Going.{Now, stage, IsSound}

pub known_at : {A : Type 0} (xs : List A) (i : ℕ) → i < length xs → (x : A) × (slice_get xs i ≡ Some x)
known_at [] i l = absurd (omega (arith, l))
known_at (x ∷ xs) zero l = (x, refl)
known_at (x ∷ xs) (suc i) l = known_at xs i (omega (arith, l))

-- ---- What stands in forms stands in more of them

module _ (forms after : List TyForm) (longer : IsLonger forms after) where
  pub laid_longer : (p : Bare) (starts : Starts) → AreLaidOut p forms starts → AreLaidOut p after starts
  laid_longer p starts h =
      record {
        explicit_ones = λ u l. longer.keeps (starts.explicit + u) (Var (explicit p.tyvars u)) (h.explicit_ones u l);
        of_nodes = λ i l. longer.keeps (starts.nodes + i) (Var (node_var p i)) (h.of_nodes i l);
        of_names = λ x l. longer.keeps (starts.names + x) (Var (name_var p x)) (h.of_names x l);
        few = h.few;
        few_nodes = h.few_nodes;
        few_names = h.few_names;
      }

  vars_longer : (vs : List TyVar) → AllByRecursion (IsFormVar forms) vs → AllByRecursion (IsFormVar after) vs
  vars_longer [] h = tt
  vars_longer (v ∷ vs) h = ((h.0.0, longer.keeps h.0.0 (Var v) h.0.1), vars_longer vs h.1)

  -- a form below the old count is an old one
  old_form : (i : ℕ) (f : TyForm) → i < length forms → slice_get after i ≡ Some f → slice_get forms i ≡ Some f
  old_form i f l e =
      let k = known_at forms i l in
      let q = longer.keeps i k.0 k.1 in
      let r = k.1 in
      cc

  there_longer : (s : Settled) → IsThere forms s → IsThere after s
  there_longer s h =
      let there = h.there in
      let count = longer.count in
      record {
        order = h.order;
        there = omega (arith, there, count);
        segment = λ i form l m e. h.segment i form l m (old_form i form (omega (arith, m, there)) e);
        vars = vars_longer s.scheme.vars h.vars;
        once = h.once;
      }

  pub all_there : (settled : List (Option Settled)) → AreThere forms settled → AreThere after settled
  all_there settled h x s e = there_longer s (h x s e)

  closed_longer : (schemes : List Scheme) → AllByRecursion (IsClosedScheme forms) schemes → AllByRecursion (IsClosedScheme after) schemes
  closed_longer [] h = tt
  closed_longer (s ∷ schemes) h =
      let l = h.0.0 in
      let count = longer.count in
      ((omega (arith, l, count), subst (λ (t : Tree). Covers s.vars t) (sym (longer.trees s.body.0 l)) h.0.1), closed_longer schemes h.1)

  pub declared_longer : (d : Declared) → AreDeclaredIn forms d → AreDeclaredIn after d
  declared_longer d h =
      record {
        there = λ n k row c a e q r. let l = h.there n k row c a e q r in let count = longer.count in omega (arith, l, count);
        covered = λ n k row c a e q r. subst (λ (t : Tree). Covers row.params t) (sym (longer.trees a.0 (h.there n k row c a e q r))) (h.covered n k row c a e q r);
        closed = closed_longer d.abbreviations h.closed;
      }

  body_there : (schemes : List Scheme) (k : ℕ) (s : Scheme) → AllByRecursion (IsClosedScheme forms) schemes → slice_get schemes k ≡ Some s → s.body.0 < length forms
  body_there [] k s h e = cc
  body_there (q ∷ schemes) zero s h e = let k : q ≡ s = cc in subst (λ (o : Scheme). o.body.0 < length forms) k h.0.0
  body_there (q ∷ schemes) (suc k) s h e = body_there schemes k s h.1 e

  pub abbreviations_back : (d : Declared) (abbreviations : ℕ → Poly) → AreDeclaredIn forms d → AreAbbreviations after d.abbreviations abbreviations → AreAbbreviations forms d.abbreviations abbreviations
  abbreviations_back d abbreviations h are = abbreviations_same forms after longer d.abbreviations abbreviations (λ k s e. body_there d.abbreviations k s h.closed e) are

  scheme_on : (schemes : List Scheme) (k : ℕ) (s : Scheme) → AllByRecursion (IsClosedScheme forms) schemes → slice_get schemes k ≡ Some s → scheme_poly forms s ≡ scheme_poly after s
  scheme_on schemes k s h e = ap (poly s.vars) (sym (longer.trees s.body.0 (body_there schemes k s h e)))

  pub tables_longer : (d : Declared) (t : Typing) → AreDeclaredIn forms d → HasTables forms d t → HasTables after d t
  tables_longer d t h tables =
      record {
        rows = tables.rows ∙ sym (rows_same forms after longer d.tables.names h.there);
        abbreviations = λ k s e. tables.abbreviations k s e ∙ scheme_on d.abbreviations k s h.closed e;
      }

-- ---- Nodes that are done

pub known_kept : (a b : Stage) → Grows a b → AreThere a.unknowns.types a.settled → (x : ℕ) (s : Poly) → known a x ≡ Some s → known b x ≡ Some s
known_kept a b g t x s e = kept_as (joined_settled (slice_get a.settled x)) refl e
  where
    kept_as : (o : Option Settled) → joined_settled (slice_get a.settled x) ≡ o → settled_poly a.unknowns.types o ≡ Some s → known b x ≡ Some s
    kept_as None h q = cc
    kept_as (Some n) h q =
        ap (settled_poly b.unknowns.types) (g.settled x n h)
        ∙ sym (ap (settled_poly b.unknowns.types) h)
        ∙ settled_same a.unknowns.types b.unknowns.types g.longer a.settled x t
        ∙ ap (settled_poly a.unknowns.types) h
        ∙ q

solution_back : (names : List TypeName) (a b : Stage) (f : Substitution) → Grows a b → IsSolution names b.unknowns f → IsSolution names a.unknowns f
solution_back names a b f g s = record { marks = λ i v e m. s.marks i v (g.longer.keeps i (Var v) e) m; solves = g.sound f s.solves }

parts_kept : (a b : Stage) (items : List Inside) → Grows a b → AllByRecursion (λ x. a.contexts x.node ≡ Some x.context) items → AllByRecursion (λ x. b.contexts x.node ≡ Some x.context) items
parts_kept a b [] g h = tt
parts_kept a b (x ∷ items) g h = (g.contexts x.node x.context h.0, parts_kept a b items g h.1)

pub done_kept : (p : Bare) (d : Declared) (a b : Stage) (i : ℕ) (n : Node) → Grows a b → AreThere a.unknowns.types a.settled → AreDeclaredIn a.unknowns.types d → IsDone p d a i n → IsDone p d b i n
done_kept p d a b i n g t h done =
    record {
      context = done.context;
      here = g.contexts i done.context done.here;
      parts = parts_kept a b (parts_in p.nodes done.context n) g done.parts;
      asked = done.asked;
      settled = λ x q e. known_kept a b g t x q (done.settled x q e);
      own = done.own;
      ready = done.ready;
      rule = λ abbreviations k f s. subst (λ (rows : List NameType). IsRule p rows d.tables.names abbreviations done.asked f i n) (sym (rows_same a.unknowns.types b.unknowns.types g.longer d.tables.names h.there)) (done.rule abbreviations (abbreviations_back a.unknowns.types b.unknowns.types g.longer d abbreviations h k) f (solution_back d.tables.names a b f g s));
    }

-- ---- Substitutions that agree on what there was

module _ (p : Bare) (d : Declared) (a : Now) (sound : IsSound p d a) (t : Typing) (f g : Substitution) (agrees : Agrees a.unknowns.next f g) where
  at_form : (i : ℕ) (v : TyVar) → slice_get a.unknowns.types i ≡ Some (Var v) → g v ≡ f v
  at_form i v e = agrees v (sound.state.below i v e)

  pub fits_on : Fits p t f → Fits p t g
  fits_on h =
      record {
        explicit_ones = λ u l. at_form (d.starts.explicit + u) (explicit p.tyvars u) (sound.laid.explicit_ones u l) ∙ h.explicit_ones u l;
        of_nodes = λ i l. at_form (d.starts.nodes + i) (node_var p i) (sound.laid.of_nodes i l) ∙ h.of_nodes i l;
        of_names = λ x l. at_form (d.starts.names + x) (name_var p x) (sound.laid.of_names x l) ∙ h.of_names x l;
      }

  suits_on : (s other : Poly) → AllVars (IsFormVar a.unknowns.types) s.body → Suits f s other → Suits g s other
  suits_on s other k h =
      record {
        body = inst_on g f s.body (vars_map (IsFormVar a.unknowns.types) (λ v. g v ≡ f v) s.body (λ v q. at_form q.0 v q.1) k) ∙ h.body;
        left_open = vars_map (λ u. IsFormVar a.unknowns.types u × (has_num s.vars u.num ≡ false → (b : ℕ) → occurs b (f u) ≡ true → has_num other.vars b ≡ false)) (λ u. has_num s.vars u.num ≡ false → (b : ℕ) → occurs b (g u) ≡ true → has_num other.vars b ≡ false) s.body (λ u q e b o. q.1 e b (subst (λ (r : Tree). occurs b r ≡ true) (at_form q.0.0 u q.0.1) o)) (vars_both (IsFormVar a.unknowns.types) (λ u. has_num s.vars u.num ≡ false → (b : ℕ) → occurs b (f u) ≡ true → has_num other.vars b ≡ false) s.body k h.left_open);
      }

  pub all_suit_on : AllSuit (known (stage a)) f t → AllSuit (known (stage a)) g t
  all_suit_on h x s e = suits_on s (t.schemes x) (settled_known a.unknowns.types a.settled sound.forms sound.there x s e) (h x s e)
