-- Where a datatype admits equality, the arguments of its constructors do.
use Rattle.std.proofs.Common.{◌≡◌, ℕ, arith, ⊎_elim, zero, suc, Bool, true, false, List, [], ◌∷◌, length, Option, Some, None, refl, sym, ap, ◌∙◌, subst}
use Rattle.std.specs.Prelude.{slice_get, flat_map, cond, unwrap_or, ◌+◌, ◌&&◌}
use Rattle.std.specs.List.{AllByRecursion}
use Rattle.sml_tree.specs.declared.bare.Bare.{Bare}
use Rattle.sml_tree.specs.declared.bare.Node.TheVariants as node
use Rattle.sml_tree.specs.IsBare.{base_cons, cons_of, declared_by}
use Rattle.simulation.proofs.Lists.{get_split}
use Rattle.sml_types.specs.declared.types.Ty.{Ty}
use Rattle.sml_types.specs.declared.types.TyVar.{TyVar}
use Rattle.sml_types.specs.declared.tables.TypeName.{TypeName}
use Rattle.sml_types.specs.declared.tables.Equality.{Equality}
use Rattle.sml_types.specs.declared.tables.Equality.TheVariants.{Never, Always, Parts}
use Rattle.sml_types.specs.Tree.{Tree, Variable, App, NoParts, Part, NameHead, inst, admits, name_equality, head_equality, by_equality}
use Rattle.sml_types.specs.Forms.{tree}
use Rattle.sml_types.specs.Poly.{is_in}
use Rattle.sml_types.specs.Library.{BeginsWithLibrary, ConType, NameType, arg_of, library, list_ty, tuple, parts}
use Rattle.sml_types.specs.Equality.{choose, admitting, ArgumentsAdmit, IsGreatest}
use Rattle.sml_types.specs.Typing.{Typing, IsTyping, IsAmong, Covers, variables, type_numbers}
use Rattle.sml_types.proofs.TreeFacts.{and_both}
use Rattle.sml_sound.proofs.Lists.{all_at, at_name, get_lt, some_eq}
use Rattle.sml_sound.specs.TypedStates.{IsCon, data_ty}
use Rattle.sml_sound.proofs.Tables.{con_same, library_con, library_has, row_at}
use Rattle.sml_sound.proofs.Plain.{chosen_at, con_covers, declaring}

by_more : (q : Equality) (a b : Bool) → (a ≡ true → b ≡ true) → by_equality q a ≡ true → by_equality q b ≡ true
by_more Never a b f h = cc
by_more Always a b f h = refl
by_more Parts a b f h = f h

both_true : (a b : Bool) → a ≡ true → b ≡ true → (a && b) ≡ true
both_true true b h g = g
both_true false b h g = cc

module _ (names : List TypeName) (g : TyVar → Tree) where
  -- a type that admits equality where its variables do, at variables that do
  admits_at : (ps : List TyVar) → ((v : TyVar) → IsAmong v ps → admits names (g v) ≡ true) → (a : Tree) → Covers ps a → admits names (inst admitting a) ≡ true → admits names (inst g a) ≡ true
  admits_at ps h (Variable v) c e = h v c
  admits_at ps h (App q ts) c e =
      by_more (head_equality names q) (admits names (inst admitting ts)) (admits names (inst g ts)) (admits_at ps h ts c) e
  admits_at ps h NoParts c e = refl
  admits_at ps h (Part t ts) c e =
      let k = and_both (admits names (inst admitting t)) (admits names (inst admitting ts)) e in
      both_true (admits names (inst g t)) (admits names (inst g ts)) (admits_at ps h t c.0 k.0) (admits_at ps h ts c.1 k.1)

  -- where all types of a list admit equality each does
  each_admits : (ps : List TyVar) → admits names (inst g (parts (variables ps))) ≡ true → (v : TyVar) → IsAmong v ps → admits names (g v) ≡ true
  each_admits [] e v h = absurd h
  each_admits (w ∷ ps) e v h =
      let k = and_both (admits names (g w)) (admits names (inst g (parts (variables ps)))) e in
      ⊎_elim (λ same. ap (λ v. admits names (g v)) same ∙ k.0) (each_admits ps k.1 v) h

module _ (p : Bare) (t : Typing) where
  -- the argument admits equality where the type does
  abbrev IsEqual : ℕ → List TyVar → Tree → Type 0
  IsEqual n ps a = (g : TyVar → Tree) → admits t.names (inst g (data_ty p t n ps)) ≡ true → admits t.names (inst g a) ≡ true

  -- where equality depends on the parameters
  params_admit : (n : ℕ) (ps : List TyVar) (g : TyVar → Tree) → name_equality (slice_get t.names n) ≡ Parts → admits t.names (inst g (data_ty p t n ps)) ≡ true → admits t.names (inst g (parts (variables ps))) ≡ true
  params_admit n ps g e h =
      sym (ap (λ q. by_equality q (admits t.names (inst g (parts (variables ps))))) e) ∙ h

  module _ (lib : BeginsWithLibrary t.forms t.names) where
    row_equality : (n : ℕ) (r : NameType) → slice_get (library lib.param) n ≡ Some r → name_equality (slice_get t.names n) ≡ r.eq
    row_equality n r e = let row = row_at p t lib n r e in ap name_equality row.1 ∙ ap (λ (r : NameType). r.eq) row.2

    -- a type name of the library that never admits equality
    pub no_equality : (n : ℕ) (r : NameType) (ts : Tree) → slice_get (library lib.param) n ≡ Some r → r.eq ≡ Never → admits t.names (App (NameHead n) ts) ≡ true → ⊥
    no_equality n r ts e never h =
        let x : false ≡ true = sym (ap (λ q. by_equality q (admits t.names ts)) (row_equality n r e ∙ never)) ∙ h in cc

    param_admits : (n : ℕ) (g : TyVar → Tree) → name_equality (slice_get t.names n) ≡ Parts → admits t.names (inst g (data_ty p t n (lib.param ∷ []))) ≡ true → admits t.names (g lib.param) ≡ true
    param_admits n g e h = (and_both (admits t.names (g lib.param)) true (params_admit n (lib.param ∷ []) g e h)).0

    pub option_equal : IsEqual 6 (lib.param ∷ []) (Variable lib.param)
    option_equal g h = param_admits 6 g (row_equality 6 _ refl) h

    list_equal : IsEqual 5 (lib.param ∷ []) (tuple (Variable lib.param ∷ list_ty (Variable lib.param) ∷ []))
    list_equal g h =
        both_true (admits t.names (g lib.param)) (admits t.names (inst g (list_ty (Variable lib.param))) && true) (param_admits 5 g (row_equality 5 _ refl) h) (ap (λ b. b && true) h)

    -- the constructor of a type name of the library has the argument that stands there
    same_con : (n k : ℕ) (ps qs : List TyVar) (a b : Tree) → IsCon p t n k ps (Some a) → IsCon p t n k qs (Some b) → IsEqual n qs b → IsEqual n ps a
    same_con n k ps qs a b h j e =
        let s = con_same p t n k ps qs (Some a) (Some b) h j in
        subst (λ ps. IsEqual n ps a) (sym s.0) (subst (IsEqual n qs) (sym (some_eq a b s.1)) e)

    no_argument : (n k : ℕ) (r : NameType) (ps : List TyVar) (a : Tree) → slice_get (library lib.param) n ≡ Some r → AllByRecursion (λ (c : ConType). c.arg ≡ None) r.cons → IsCon p t n k ps (Some a) → ⊥
    no_argument n k r ps a e none h =
        let con = library_has p t lib n k r ps (Some a) e h in
        let x : None ≡ Some a = sym (all_at (λ (c : ConType). c.arg ≡ None) r.cons k con.0 none con.1) ∙ con.2 in cc

    list_con : (k : ℕ) (ps : List TyVar) (a : Tree) → slice_get (false ∷ true ∷ []) k ≡ Some true → IsCon p t 5 k ps (Some a) → IsEqual 5 ps a
    list_con zero ps a e h = cc
    list_con (suc zero) ps a e h = same_con 5 1 ps (lib.param ∷ []) a _ h (library_con p t lib 5 1 _ _ refl refl) list_equal
    list_con (suc (suc k)) ps a e h = cc

    option_con : (k : ℕ) (ps : List TyVar) (a : Tree) → slice_get (false ∷ true ∷ []) k ≡ Some true → IsCon p t 6 k ps (Some a) → IsEqual 6 ps a
    option_con zero ps a e h = cc
    option_con (suc zero) ps a e h = same_con 6 1 ps (lib.param ∷ []) a _ h (library_con p t lib 6 1 _ _ refl refl) option_equal
    option_con (suc (suc k)) ps a e h = cc

  -- a type name of the program
  dat_equal : (n k : ℕ) (ps : List TyVar) (a : Tree) (group : List ℕ) → IsGreatest t.forms t.names group → is_in group n ≡ true → Covers ps a → IsCon p t n k ps (Some a) → IsEqual n ps a
  dat_equal n k ps a group h m c con g e = go (h.choice n) refl
    where
      zero_more : 0 + n ≡ n
      zero_more = omega arith

      eq : name_equality (slice_get t.names n) ≡ cond (h.choice n) Parts Never
      eq =
          let r = chosen_at p t group h.choice 0 t.names n con.row con.named in
          let same : r.0 ≡ con.row = some_eq r.0 con.row (sym r.1 ∙ ap (λ ns. slice_get ns n) h.chosen ∙ con.named) in
          ap name_equality con.named ∙ ap (λ (s : TypeName). s.eq) (sym same) ∙ subst (λ m. is_in group m ≡ true → r.0.eq ≡ cond (h.choice m) Parts Never) zero_more r.2 m

      argument : (o : Option Ty) → con.con.arg ≡ o → arg_of t.forms o ≡ Some a → ArgumentsAdmit t.forms t.names n → admits t.names (inst admitting a) ≡ true
      argument None q i f = cc
      argument (Some x) q i f =
          let same : tree t.forms x.0 ≡ a = some_eq (tree t.forms x.0) a i in
          subst (λ a. admits t.names (inst admitting a) ≡ true) same (f con.row k con.con x con.named con.numbered q)

      go : (b : Bool) → h.choice n ≡ b → admits t.names (inst g a) ≡ true
      go true q =
          let allowed = at_name group (λ n. h.choice n ≡ true → ArgumentsAdmit t.forms (choose group h.choice 0 t.names) n) h.allowed n m q in
          admits_at t.names g ps (each_admits t.names g ps (params_admit n ps g (eq ∙ ap (λ b. cond b Parts Never) q) e)) a c (argument con.con.arg refl con.is (subst (λ ns. ArgumentsAdmit t.forms ns n) h.chosen allowed))
      go false q =
          let x : false ≡ true = sym (ap (λ q. by_equality q (admits t.names (inst g (parts (variables ps))))) (eq ∙ ap (λ b. cond b Parts Never) q)) ∙ e in cc

  pub con_equal : IsTyping p t → (n k : ℕ) (ps : List TyVar) (a : Tree) → slice_get (cons_of p.nodes n) k ≡ Some true → IsCon p t n k ps (Some a) → IsEqual n ps a
  con_equal typing n k ps a stands h =
      ⊎_elim (λ e. in_library n e h) in_program (get_split (unwrap_or (slice_get base_cons n) []) (flat_map (declared_by n) p.nodes) k true stands)
    where
      in_library : (n : ℕ) → slice_get (unwrap_or (slice_get base_cons n) []) k ≡ Some true → IsCon p t n k ps (Some a) → IsEqual n ps a
      in_library zero e h = cc
      in_library (suc zero) e h = cc
      in_library (suc (suc zero)) e h = cc
      in_library (suc (suc (suc zero))) e h = cc
      in_library (suc (suc (suc (suc zero)))) e h = absurd (no_argument typing.library 4 k _ ps a refl (refl, (refl, tt)) h)
      in_library (suc (suc (suc (suc (suc zero))))) e h = list_con typing.library k ps a e h
      in_library (suc (suc (suc (suc (suc (suc zero)))))) e h = option_con typing.library k ps a e h
      in_library (suc (suc (suc (suc (suc (suc (suc zero))))))) e h = absurd (no_argument typing.library 7 k _ ps a refl (refl, (refl, (refl, tt))) h)
      in_library (suc (suc (suc (suc (suc (suc (suc (suc zero)))))))) e h = cc
      in_library (suc (suc (suc (suc (suc (suc (suc (suc (suc n))))))))) e h = cc

      in_program : ((j : ℕ) × (k ≡ length (unwrap_or (slice_get base_cons n) []) + j) × (slice_get (flat_map (declared_by n) p.nodes) j ≡ Some true)) → IsEqual n ps a
      in_program s =
          declaring p t n (IsEqual n ps a) p.nodes (λ i bindings e m. dat_equal n k ps a (type_numbers bindings) (typing.rules i (node.Datatype bindings) (get_lt p.nodes i (node.Datatype bindings) e) e).1 m (con_covers p t typing n k true ps a stands h) h) s.0 true s.2
