-- What is bound gives the most general typing.
use Rattle.std.proofs.Common.{◌≡◌, ℕ, ◌+◌, ◌<◌, ◌≤◌, true, false, List, length, Option, Some, sym, ap, ◌∙◌, subst, inl, inr, arith}
use Rattle.sml_tree.specs.declared.bare.Bare.{Bare}
use Rattle.sml_types.specs.declared.types.Ty.{Ty}
use Rattle.sml_types.specs.declared.types.TyVar.{TyVar}
use Rattle.sml_types.specs.declared.types.TyForm.{TyForm}
use Rattle.sml_types.specs.declared.scheme.Scheme.{Scheme}
use Rattle.sml_types.specs.declared.tables.TypeName.{TypeName}
use Rattle.sml_types.specs.Tree.{Tree, inst, admits, AllVars}
use Rattle.sml_types.specs.Poly.{Poly, Context, has_num}
use Rattle.sml_types.specs.TypeExps.{explicit}
use Rattle.sml_types.specs.Typing.{Typing}
use Rattle.sml_types.proofs.TreeFacts.{inst_inst}
use Rattle.sml_unify.specs.Solved.{Substitution, Solves, Respects, meant}
use Rattle.sml_unify.proofs.Known.{meant_known, meant_through}
use Rattle.infer_state.specs.declared.declared.Starts.{Starts}
use Rattle.infer_state.specs.Variables.{node_var, name_var}
use Rattle.infer_state.specs.Rules.{IsCopy}
use Rattle.infer_state.specs.Fits.{IsFormVar}
use Rattle.infer_state.specs.Typings.{scheme_under}
use Rattle.infer_laws.specs.Schemes.{KeepsMarks}
use Rattle.infer_laws.specs.Meets.{Follows}
use Rattle.infer_laws.specs.Gives.{IsSettled, typing}
use Rattle.infer_laws.specs.Principal.{IsBoundBelow, IsExplicitFor, Leads, IsMoreGeneral, IsInstanceOf, IsMostGeneral, FollowedAreInstances, MostGeneralIsPrincipal}
use Rattle.infer_laws.proofs.Gives.{rules_give}
use Rattle.infer_laws.proofs.Rows.{instance_same}
use Rattle.infer_laws.proofs.Copies.{vars_map, vars_inst, inst_on, copy_of, copy_under}

module _ (p : Bare) (forms : List TyForm) (bound : List (Option Ty)) (starts : Starts) (settled : ℕ → Option Poly) (f : Substitution) (most : IsMostGeneral p forms bound starts settled f) where
  abbrev IsKnown : TyVar → Type 0
  IsKnown v = IsFormVar forms v

  explicit_known : (u : ℕ) → u < length p.tyvars → IsKnown (explicit p.tyvars u)
  explicit_known u l = (starts.explicit + u, most.laid.explicit_ones u l)

  node_known : (i : ℕ) → i < length p.nodes → IsKnown (node_var p i)
  node_known i l = (starts.nodes + i, most.laid.of_nodes i l)

  name_known : (x : ℕ) → x < length p.names → IsKnown (name_var p x)
  name_known x l = (starts.names + x, most.laid.of_names x l)

  abbrev Chosen : TyVar → Type 0
  Chosen w = IsExplicitFor p forms bound w (most.renamed.renames w)

  renamed_known : (w : TyVar) → IsKnown w → Chosen w → AllVars IsKnown (most.renamed.renames w)
  renamed_known w k (inl e) = subst (λ (t : Tree). AllVars IsKnown t) (sym e) k
  renamed_known w k (inr e) = subst (λ (t : Tree). AllVars IsKnown t) (sym e.2) (explicit_known e.0 e.1)

  meant_vars : (v : TyVar) → IsKnown v → AllVars IsKnown (meant forms bound v)
  meant_vars v k = meant_known forms bound most.solved v k

  -- variables stand for types with variables of the forms
  pub known_under : (v : TyVar) → IsKnown v → AllVars IsKnown (f v)
  known_under v k =
      subst (λ (t : Tree). AllVars IsKnown t) (sym (most.renamed.is v)) (vars_inst IsKnown IsKnown most.renamed.renames (meant forms bound v) (λ w q. renamed_known w q (most.renamed.only w q)) (meant_vars v k))

  module _ (g : Substitution) (solves : Solves forms bound g) where
    through_rename : (w : TyVar) → IsKnown w → Chosen w → inst g (most.renamed.renames w) ≡ g w
    through_rename w k (inl e) = ap (inst g) e
    through_rename w k (inr e) =
        ap (inst g) e.2 ∙ meant_through forms bound most.solved g solves (explicit p.tyvars e.0) (explicit_known e.0 e.1) ∙ ap (inst g) e.3

    -- each solution goes through the most general one
    pub through : (v : TyVar) → IsKnown v → inst g (f v) ≡ g v
    through v k =
        ap (inst g) (most.renamed.is v)
        ∙ inst_inst g most.renamed.renames (meant forms bound v)
        ∙ inst_on (λ w. inst g (most.renamed.renames w)) g (meant forms bound v) (vars_map IsKnown (λ w. inst g (most.renamed.renames w) ≡ g w) (meant forms bound v) (λ w q. through_rename w q (most.renamed.only w q)) (meant_vars v k))
        ∙ sym (meant_through forms bound most.solved g solves v k)

    module _ (names : List TypeName) (abbreviations : List Scheme) (contexts : ℕ → Option Context) (general : List (List TyVar)) (is_settled : IsSettled p settled f) (other : Typing) (follows : Follows p forms names settled g other) (respects : Respects names forms g) where
      abbrev t : Typing
      t = typing p forms names abbreviations contexts settled general f

      keeps : (v : TyVar) → IsKnown v → KeepsMarks names g (f v)
      keeps v k = vars_map IsKnown (λ w. w.eq ≡ true → admits names (g w) ≡ true) (f v) (λ w q e. respects q.0 w q.1 e) (known_under v k)

      body_is : (x : ℕ) (s : Poly) → settled x ≡ Some s → (t.schemes x).body ≡ f (name_var p x)
      body_is x s e = ap (λ o. (scheme_under f o (f (name_var p x))).body) e ∙ is_settled.bodies x s e

      type_taken : (i : ℕ) → i < length p.nodes → Leads names g (t.types i) (other.types i)
      type_taken i l = (keeps (node_var p i) (node_known i l), sym (follows.fits.of_nodes i l) ∙ sym (through (node_var p i) (node_known i l)))

      body_taken : (x : ℕ) (s : Poly) → settled x ≡ Some s → Leads names g (t.schemes x).body (other.schemes x).body
      body_taken x s e =
          let l = most.named x s e in
          let k = name_known x l in
          subst (λ u. Leads names g u (other.schemes x).body) (sym (body_is x s e)) (keeps (name_var p x) k, sym (follows.fits.of_names x l) ∙ sym (through (name_var p x) k))

      scheme_taken : (x : ℕ) (s : Poly) → settled x ≡ Some s → IsMoreGeneral names other.names g (t.schemes x) (other.schemes x)
      scheme_taken x s e u i =
          let here = instance_same other.forms forms other.names names follows.rows (other.schemes x) u i in
          let copy = copy_of names g s (other.schemes x) u (follows.suit x s e) (follows.marks x s e) here in
          let goes = vars_map IsKnown (λ v. has_num s.vars v.num ≡ false → inst g (f v) ≡ g v) s.body (λ v k q. through v k) (most.known x s e) in
          subst (λ r. IsCopy names g r u) (sym (ap (λ o. scheme_under f o (f (name_var p x))) e)) (copy_under names f g g s u (is_settled.proper x s e) (is_settled.once x s e) copy goes)

      pub instance : (count : ℕ) → count ≤ length p.nodes → ((x : ℕ) → IsBoundBelow p count x → (s : Poly) × (settled x ≡ Some s)) → IsInstanceOf p count t other
      instance count l all =
          record {
            by = g;
            types = λ i w. type_taken i (omega arith);
            bodies = λ x b. let s = all x b in body_taken x s.0 s.1;
            schemes = λ x b. let s = all x b in scheme_taken x s.0 s.1;
          }

pub followed_are_instances : (p : Bare) (forms : List TyForm) (bound : List (Option Ty)) (starts : Starts) (names : List TypeName) (abbreviations : List Scheme) (contexts : ℕ → Option Context) (settled : ℕ → Option Poly) (general : List (List TyVar)) (f : Substitution) → FollowedAreInstances p forms bound starts names abbreviations contexts settled general f
followed_are_instances p forms bound starts names abbreviations contexts settled general f count other l all schemes most g =
    instance p forms bound starts settled f most g.0 g.3 names abbreviations contexts general schemes other g.1 g.2 count l all

pub principal : (p : Bare) (forms : List TyForm) (bound : List (Option Ty)) (starts : Starts) (names : List TypeName) (abbreviations : List Scheme) (contexts : ℕ → Option Context) (settled : ℕ → Option Poly) (general : List (List TyVar)) (f : Substitution) → MostGeneralIsPrincipal p forms bound starts names abbreviations contexts settled general f
principal p forms bound starts names abbreviations contexts settled general f count l all done most follow =
    record {
      typing = rules_give p forms names abbreviations contexts settled general f count done;
      general = λ other h. followed_are_instances p forms bound starts names abbreviations contexts settled general f count other l all done.schemes most (follow other h);
    }
