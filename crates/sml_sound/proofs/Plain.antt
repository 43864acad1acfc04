-- What a non-expansive node is made of, and what is new in a program's datatypes.
use Rattle.std.proofs.Common.{◌≡◌, ◌≢◌, ℕ, arith, ⊎_elim, inl, zero, suc, Bool, true, false, List, [], ◌∷◌, ◌++◌, length, Option, Some, None, refl, sym, ap, ◌∙◌, subst}
use Rattle.std.specs.Prelude.{slice_get, flat_map, map, nat_eq, cond, unwrap_or, ◌||◌, ◌+◌}
use Rattle.std.specs.List.{AllByRecursion}
use Rattle.std.specs.Option.{is_some}
use Rattle.std.proofs.lemmas.Bool.{eqb-true, eq-eqb}
use Rattle.sml_tree.specs.declared.bare.Bare.{Bare}
use Rattle.sml_tree.specs.declared.bare.Node.{Node}
use Rattle.sml_tree.specs.declared.bare.Node.TheVariants as node
use Rattle.sml_tree.specs.declared.bare.Con.{Con}
use Rattle.sml_tree.specs.declared.bare.Field.{Field}
use Rattle.sml_tree.specs.declared.bare.DatBinding.{DatBinding}
use Rattle.sml_tree.specs.IsBare.{base_cons, cons_of, declared_by}
use Rattle.sml_tree.proofs.Members.{or_right}
use Rattle.simulation.proofs.Lists.{get_split}
use Rattle.sml_types.specs.declared.types.Ty.{Ty}
use Rattle.sml_types.specs.declared.types.TyVar.{TyVar}
use Rattle.sml_types.specs.declared.tables.TypeName.{TypeName}
use Rattle.sml_types.specs.declared.tables.Equality.TheVariants.{Never, Always, Parts}
use Rattle.sml_types.specs.Tree.{Tree, Variable}
use Rattle.sml_types.specs.Forms.{tree}
use Rattle.sml_types.specs.Poly.{is_in}
use Rattle.sml_types.specs.Library.{BeginsWithLibrary, NameType, arg_of, library, list_ty, tuple, ref_number}
use Rattle.sml_types.specs.Equality.{choose, IsGreatest}
use Rattle.sml_types.specs.NonExpansive.{AreNonExpansive, is_atomic, is_ref, field_nodes, plain_none, plain_atom, plain_record, plain_applied, plain_typed}
use Rattle.sml_types.specs.Typing.{Typing, IsTyping, IsDatBinding, Covers, CoversArgument, type_numbers}
use Rattle.sml_sound.proofs.Lists.{all_at, get_lt}
use Rattle.sml_sound.specs.TypedStates.{IsCon}
use Rattle.sml_sound.proofs.Tables.{library_has, row_at}

abbrev pub is_plain : Node → Bool
is_plain (node.Case e rules) = false
is_plain (node.Raise e) = false
is_plain (node.Handle e rules) = false
is_plain (node.Let d e) = false
is_plain node.Finish = false
is_plain _ = true

atom_plain : (n : Node) → is_atomic n ≡ true → is_plain n ≡ true
atom_plain (node.Case e rules) h = cc
atom_plain (node.Raise e) h = cc
atom_plain (node.Handle e rules) h = cc
atom_plain (node.Let d e) h = cc
atom_plain node.Finish h = cc
atom_plain _ h = refl

module _ (nodes : List Node) where
  one_node : (i : ℕ) (m n : Node) → slice_get nodes i ≡ Some m → slice_get nodes i ≡ Some n → m ≡ n
  one_node i m n e f = cc

  pub expansive : (i : ℕ) (q : Node) → slice_get nodes i ≡ Some q → is_plain q ≡ false → AreNonExpansive nodes (i ∷ []) → ⊥
  expansive i q e h (plain_atom j n a b r) =
      let same = one_node i n q a e in let x : true ≡ false = sym (atom_plain n b) ∙ ap is_plain same ∙ h in cc
  expansive i q e h (plain_record j fields a b r) =
      let same = one_node i (node.Record fields) q a e in let x : true ≡ false = ap is_plain same ∙ h in cc
  expansive i q e h (plain_applied j f x c a b d k r) =
      let same = one_node i (node.App f x) q a e in let x : true ≡ false = ap is_plain same ∙ h in cc
  expansive i q e h (plain_typed j x ty a b r) =
      let same = one_node i (node.Typed x ty) q a e in let x : true ≡ false = ap is_plain same ∙ h in cc

  pub plain_fields : (i : ℕ) (fields : List Field) → slice_get nodes i ≡ Some (node.Record fields) → AreNonExpansive nodes (i ∷ []) → AreNonExpansive nodes (field_nodes fields)
  plain_fields i fields e (plain_atom j n a b r) =
      let same = one_node i n (node.Record fields) a e in let x : true ≡ false = sym b ∙ ap is_atomic same in cc
  plain_fields i fields e (plain_record j gs a b r) =
      let same = one_node i (node.Record gs) (node.Record fields) a e in
      let inner : gs ≡ fields = cc in subst (λ fs. AreNonExpansive nodes (field_nodes fs)) inner b
  plain_fields i fields e (plain_applied j f x c a b d k r) =
      let same = one_node i (node.App f x) (node.Record fields) a e in cc
  plain_fields i fields e (plain_typed j x ty a b r) =
      let same = one_node i (node.Typed x ty) (node.Record fields) a e in cc

  pub plain_app : (i f a : ℕ) → slice_get nodes i ≡ Some (node.App f a) → AreNonExpansive nodes (i ∷ []) → (c : Con) × (slice_get nodes f ≡ Some (node.Constructor c)) × (is_ref c ≡ false) × AreNonExpansive nodes (a ∷ [])
  plain_app i f a e (plain_atom j n g b r) =
      let same = one_node i n (node.App f a) g e in let x : true ≡ false = sym b ∙ ap is_atomic same in cc
  plain_app i f a e (plain_record j gs g b r) =
      let same = one_node i (node.Record gs) (node.App f a) g e in cc
  plain_app i f a e (plain_applied j f2 a2 c g b d k r) =
      let same = one_node i (node.App f2 a2) (node.App f a) g e in
      let ef : f2 ≡ f = cc in
      let ea : a2 ≡ a = cc in
      (c, subst (λ f. slice_get nodes f ≡ Some (node.Constructor c)) ef b, d, subst (λ a. AreNonExpansive nodes (a ∷ [])) ea k)
  plain_app i f a e (plain_typed j x ty g b r) =
      let same = one_node i (node.Typed x ty) (node.App f a) g e in cc

  pub plain_under : (i x ty : ℕ) → slice_get nodes i ≡ Some (node.Typed x ty) → AreNonExpansive nodes (i ∷ []) → AreNonExpansive nodes (x ∷ [])
  plain_under i x ty e (plain_atom j n g b r) =
      let same = one_node i n (node.Typed x ty) g e in let y : true ≡ false = sym b ∙ ap is_atomic same in cc
  plain_under i x ty e (plain_record j gs g b r) =
      let same = one_node i (node.Record gs) (node.Typed x ty) g e in cc
  plain_under i x ty e (plain_applied j f2 a2 c g b d k r) =
      let same = one_node i (node.App f2 a2) (node.Typed x ty) g e in cc
  plain_under i x ty e (plain_typed j x2 ty2 g b r) =
      let same = one_node i (node.Typed x2 ty2) (node.Typed x ty) g e in
      let ex : x2 ≡ x = cc in subst (λ x. AreNonExpansive nodes (x ∷ [])) ex b

  -- the first of a list is non-expansive, and so are the others
  pub plain_first : (i : ℕ) (is : List ℕ) → AreNonExpansive nodes (i ∷ is) → AreNonExpansive nodes (i ∷ []) × AreNonExpansive nodes is
  plain_first i is (plain_atom j n g b r) = (plain_atom i n g b plain_none, r)
  plain_first i is (plain_record j gs g b r) = (plain_record i gs g b plain_none, r)
  plain_first i is (plain_applied j f2 a2 c g b d k r) = (plain_applied i f2 a2 c g b d k plain_none, r)
  plain_first i is (plain_typed j x2 ty2 g b r) = (plain_typed i x2 ty2 g b plain_none, r)

module _ (p : Bare) (t : Typing) where
  -- ---- In a constructor's argument stand the parameters of its type alone

  abbrev ArgumentCovered : List TyVar → Option Tree → Type 0
  ArgumentCovered vs None = Unit {0}
  ArgumentCovered vs (Some a) = Covers vs a

  abbrev RowCovered : NameType → Type 0
  RowCovered r = AllByRecursion (λ c. ArgumentCovered r.params c.arg) r.cons

  library_covered : (a : TyVar) → AllByRecursion RowCovered (library a)
  library_covered a =
      let none : Unit {0} = tt in
      let list : Covers (a ∷ []) (tuple (Variable a ∷ list_ty (Variable a) ∷ [])) = (inl refl, ((inl refl, none), none)) in
      (none, (none, (none, (none, ((none, (none, none)), ((none, (list, none)), ((none, (inl refl, none)), ((none, (none, (none, none))), ((inl refl, none), (none, none))))))))))

  -- a type name of the library
  base_covers : (lib : BeginsWithLibrary t.forms t.names) (n k : ℕ) (ps : List TyVar) (a : Tree) (r : NameType) → slice_get (library lib.param) n ≡ Some r → IsCon p t n k ps (Some a) → Covers ps a
  base_covers lib n k ps a r e h =
      let row = row_at p t lib n r e in
      let con = library_has p t lib n k r ps (Some a) e h in
      let same : h.row ≡ row.0 = (let x : Some h.row ≡ Some row.0 = sym h.named ∙ row.1 in cc) in
      let params : r.params ≡ ps = ap (λ (r : NameType). r.params) (sym row.2) ∙ ap (λ (w : TypeName). w.params) (sym same) ∙ h.params in
      subst (λ vs. Covers vs a) params (subst (ArgumentCovered r.params) con.2 (all_at (λ c. ArgumentCovered r.params c.arg) r.cons k con.0 (all_at RowCovered (library lib.param) n r (library_covered lib.param) e) con.1))

  -- a type name of the program
  dat_covers : (n k : ℕ) (ps : List TyVar) (a : Tree) (d : DatBinding) → d.type_name ≡ n → IsDatBinding p t d → IsCon p t n k ps (Some a) → Covers ps a
  dat_covers n k ps a d e b h = go h.con.arg refl h.is
    where
      go : (o : Option Ty) → h.con.arg ≡ o → arg_of t.forms o ≡ Some a → Covers ps a
      go None q r = cc
      go (Some x) q r =
          let row : b.row ≡ h.row = (let y : Some b.row ≡ Some h.row = sym b.named ∙ ap (slice_get t.names) e ∙ h.named in cc) in
          let params : b.row.params ≡ ps = ap (λ (w : TypeName). w.params) row ∙ h.params in
          let arg : tree t.forms x.0 ≡ a = cc in
          let there : slice_get b.row.cons k ≡ Some h.con = ap (λ (w : TypeName). slice_get w.cons k) row ∙ h.numbered in
          let all : CoversArgument p t b.row.params h.con.arg = all_at (λ c. CoversArgument p t b.row.params c.arg) b.row.cons k h.con b.covers there in
          let some : CoversArgument p t b.row.params (Some x) = subst (CoversArgument p t b.row.params) q all in
          subst (λ vs. Covers vs a) params (subst (Covers b.row.params) arg some)

  -- the binding of a type name that has a constructor here
  binding_of : (bindings : List DatBinding) (n k : ℕ) (takes : Bool) → AllByRecursion (IsDatBinding p t) bindings → slice_get (declared_by n (node.Datatype bindings)) k ≡ Some takes → (d : DatBinding) × (d.type_name ≡ n) × IsDatBinding p t d
  binding_of [] n k takes h e = cc
  binding_of (d ∷ bindings) n k takes h e = go (nat_eq d.type_name n) refl e (binding_of bindings n k takes h.1)
    where
      go : (b : Bool) → nat_eq d.type_name n ≡ b → slice_get (cond b (map (λ c. is_some c.arg) d.cons) [] ++ declared_by n (node.Datatype bindings)) k ≡ Some takes → (slice_get (declared_by n (node.Datatype bindings)) k ≡ Some takes → (d : DatBinding) × (d.type_name ≡ n) × IsDatBinding p t d) → (d : DatBinding) × (d.type_name ≡ n) × IsDatBinding p t d
      go true q g rest = (d, eqb-true d.type_name n q, h.0)
      go false q g rest = rest g

  declaration_of : (nodes : List Node) → ((i : ℕ) (bindings : List DatBinding) → slice_get nodes i ≡ Some (node.Datatype bindings) → AllByRecursion (IsDatBinding p t) bindings) → (n k : ℕ) (takes : Bool) → slice_get (flat_map (declared_by n) nodes) k ≡ Some takes → (d : DatBinding) × (d.type_name ≡ n) × IsDatBinding p t d
  declaration_of [] h n k takes e = cc
  declaration_of (q ∷ nodes) h n k takes e =
      ⊎_elim (here q h) (λ s. declaration_of nodes (λ i. h (suc i)) n s.0 takes s.2) (get_split (declared_by n q) (flat_map (declared_by n) nodes) k takes e)
    where
      here : (q : Node) → ((i : ℕ) (bindings : List DatBinding) → slice_get (q ∷ nodes) i ≡ Some (node.Datatype bindings) → AllByRecursion (IsDatBinding p t) bindings) → slice_get (declared_by n q) k ≡ Some takes → (d : DatBinding) × (d.type_name ≡ n) × IsDatBinding p t d
      here (node.Datatype bindings) h e = binding_of bindings n k takes (h 0 bindings refl) e
      here _ h e = cc

  pub con_covers : IsTyping p t → (n k : ℕ) (takes : Bool) (ps : List TyVar) (a : Tree) → slice_get (cons_of p.nodes n) k ≡ Some takes → IsCon p t n k ps (Some a) → Covers ps a
  con_covers typing n k takes ps a stands h =
      ⊎_elim (λ e. in_library n e h) in_program (get_split (unwrap_or (slice_get base_cons n) []) (flat_map (declared_by n) p.nodes) k takes stands)
    where
      in_library : (n : ℕ) → slice_get (unwrap_or (slice_get base_cons n) []) k ≡ Some takes → IsCon p t n k ps (Some a) → Covers ps a
      in_library zero e h = base_covers typing.library 0 k ps a _ refl h
      in_library (suc zero) e h = base_covers typing.library 1 k ps a _ refl h
      in_library (suc (suc zero)) e h = base_covers typing.library 2 k ps a _ refl h
      in_library (suc (suc (suc zero))) e h = base_covers typing.library 3 k ps a _ refl h
      in_library (suc (suc (suc (suc zero)))) e h = base_covers typing.library 4 k ps a _ refl h
      in_library (suc (suc (suc (suc (suc zero))))) e h = base_covers typing.library 5 k ps a _ refl h
      in_library (suc (suc (suc (suc (suc (suc zero)))))) e h = base_covers typing.library 6 k ps a _ refl h
      in_library (suc (suc (suc (suc (suc (suc (suc zero))))))) e h = base_covers typing.library 7 k ps a _ refl h
      in_library (suc (suc (suc (suc (suc (suc (suc (suc zero)))))))) e h = base_covers typing.library 8 k ps a _ refl h
      in_library (suc (suc (suc (suc (suc (suc (suc (suc (suc n))))))))) e h = cc

      in_program : ((j : ℕ) × (k ≡ length (unwrap_or (slice_get base_cons n) []) + j) × (slice_get (flat_map (declared_by n) p.nodes) j ≡ Some takes)) → Covers ps a
      in_program s =
          let d = declaration_of p.nodes (λ i bindings g. (typing.rules i (node.Datatype bindings) (get_lt p.nodes i (node.Datatype bindings) g) g).0) n s.0 takes s.2 in
          dat_covers n k ps a d.0 d.1 d.2 h

  -- ---- No datatype of the program is the library's `ref`

  pub chosen_at : (group : List ℕ) (choice : ℕ → Bool) (k : ℕ) (names : List TypeName) (n : ℕ) (row : TypeName) → slice_get names n ≡ Some row → (s : TypeName) × (slice_get (choose group choice k names) n ≡ Some s) × (is_in group (k + n) ≡ true → s.eq ≡ cond (choice (k + n)) Parts Never)
  chosen_at group choice k [] n row e = cc
  chosen_at group choice k (x ∷ names) (suc n) row e =
      let r = chosen_at group choice (suc k) names n row e in
      let s : suc k + n ≡ k + suc n = omega arith in
      (r.0, r.1, subst (λ m. is_in group m ≡ true → r.0.eq ≡ cond (choice m) Parts Never) s r.2)
  chosen_at group choice k (x ∷ names) zero row e =
      let s : k ≡ k + 0 = omega arith in
      subst (λ m. (s : TypeName) × (Some (cond (is_in group k) (record { text = x.text; params = x.params; eq = cond (choice k) Parts Never; cons = x.cons }) x) ≡ Some s) × (is_in group m ≡ true → s.eq ≡ cond (choice m) Parts Never)) s
      (cond (is_in group k) (record { text = x.text; params = x.params; eq = cond (choice k) Parts Never; cons = x.cons }) x, refl, (λ h. ap (λ (b : Bool). (cond b (record { text = x.text; params = x.params; eq = cond (choice k) Parts Never; cons = x.cons }) x).eq) h))

  not_always : (b : Bool) → Always ≡ cond b Parts Never → ⊥
  not_always true e = cc
  not_always false e = cc

  group_old : (lib : TypeName) (group : List ℕ) → slice_get t.names ref_number ≡ Some lib → lib.eq ≡ Always → IsGreatest t.forms t.names group → is_in group ref_number ≡ true → ⊥
  group_old lib group e a h m =
      let r = chosen_at group h.choice 0 t.names ref_number lib e in
      let same : r.0 ≡ lib = (let x : Some r.0 ≡ Some lib = sym r.1 ∙ ap (λ ns. slice_get ns ref_number) h.chosen ∙ e in cc) in
      not_always (h.choice ref_number) (sym a ∙ sym (ap (λ (s : TypeName). s.eq) same) ∙ r.2 m)

  declares : (n : ℕ) (bindings : List DatBinding) (k : ℕ) (takes : Bool) → slice_get (flat_map (λ d. cond (nat_eq d.type_name n) (map (λ c. is_some c.arg) d.cons) []) bindings) k ≡ Some takes → is_in (type_numbers bindings) n ≡ true
  declares n [] k takes e = cc
  declares n (d ∷ bindings) k takes e = go (nat_eq d.type_name n) refl e (declares n bindings k takes)
    where
      go : (b : Bool) → nat_eq d.type_name n ≡ b → slice_get (cond b (map (λ c. is_some c.arg) d.cons) [] ++ flat_map (λ d. cond (nat_eq d.type_name n) (map (λ c. is_some c.arg) d.cons) []) bindings) k ≡ Some takes → (slice_get (flat_map (λ d. cond (nat_eq d.type_name n) (map (λ c. is_some c.arg) d.cons) []) bindings) k ≡ Some takes → is_in (type_numbers bindings) n ≡ true) → (nat_eq n d.type_name || is_in (type_numbers bindings) n) ≡ true
      go true q h rest = ap (λ b. b || is_in (type_numbers bindings) n) (eq-eqb n d.type_name (sym (eqb-true d.type_name n q)))
      go false q h rest = or_right (nat_eq n d.type_name) (is_in (type_numbers bindings) n) (rest h)

  -- where a type name has constructors in the program, one of its nodes declares it
  pub declaring : (m : ℕ) (G : Type 0) (nodes : List Node) → ((i : ℕ) (bindings : List DatBinding) → slice_get nodes i ≡ Some (node.Datatype bindings) → is_in (type_numbers bindings) m ≡ true → G) → (k : ℕ) (takes : Bool) → slice_get (flat_map (declared_by m) nodes) k ≡ Some takes → G
  declaring m G [] h k takes e = cc
  declaring m G (n ∷ nodes) h k takes e =
      ⊎_elim (here n h) (λ s. declaring m G nodes (λ i. h (suc i)) s.0 takes s.2) (get_split (declared_by m n) (flat_map (declared_by m) nodes) k takes e)
    where
      here : (n : Node) → ((i : ℕ) (bindings : List DatBinding) → slice_get (n ∷ nodes) i ≡ Some (node.Datatype bindings) → is_in (type_numbers bindings) m ≡ true → G) → slice_get (declared_by m n) k ≡ Some takes → G
      here (node.Datatype bindings) h e = h 0 bindings refl (declares m bindings k takes e)
      here _ h e = cc

  -- a constructor that stands is none of the library's `ref`
  pub new_con : IsTyping p t → (n k : ℕ) (takes : Bool) → slice_get (cons_of p.nodes n) k ≡ Some takes → n ≢ ref_number
  new_con typing n k takes e same =
      let lib = row_at p t typing.library ref_number _ refl in
      declaring ref_number ⊥ p.nodes (λ i bindings g m. let r = typing.rules i (node.Datatype bindings) (get_lt p.nodes i (node.Datatype bindings) g) g in group_old lib.0 (type_numbers bindings) lib.1 (ap (λ r. r.eq) lib.2) r.1 m) k takes (subst (λ n. slice_get (cons_of p.nodes n) k ≡ Some takes) same e)
