-- What environments, blocks and patterns give are data, and exception names where these are meant.
use Rattle.std.proofs.Common.{◌≡◌, ℕ, zero, suc, Bool, true, false, List, [], ◌∷◌, ◌++◌, length, Option, Some, None, refl, sym, ◌∙◌, subst, map}
use Rattle.std.specs.Prelude.{IfSome, slice_get, nat_eq, zip}
use Rattle.std.specs.Option.{option_map}
use Rattle.std.specs.List.{AllByRecursion, cons_option}
use Rattle.std.proofs.lemmas.Bool.{eq-eqb}
use Rattle.smlc_base.specs.declared.exception.LibraryExn.{LibraryExn}
use Rattle.smlc_base.specs.declared.exception.LibraryExn.TheVariants as exn
use Rattle.sml_tree.specs.declared.bare.Bare.{Bare}
use Rattle.sml_tree.specs.declared.bare.Con.{Con}
use Rattle.sml_tree.specs.declared.bare.Con.TheVariants as con
use Rattle.sml_tree.specs.declared.bare.Field.{Field}
use Rattle.sml_tree.specs.declared.bare.Node.{Node}
use Rattle.sml_tree.specs.declared.bare.Node.TheVariants as node
use Rattle.sml_tree.specs.declared.bare.Rule.{Rule}
use Rattle.sml_tree.specs.BareParts.{at_node, within}
use Rattle.sml_tree.specs.IsBare.{IsBare, names_at}
use Rattle.sml_tree.specs.Sets.{has}
use Rattle.sml_tree.proofs.Members.{or_left}
use Rattle.sml_types.specs.Tree.{Tree}
use Rattle.sml_types.specs.Library.{exn_ty, library_exn}
use Rattle.sml_types.specs.Typing.{Typing, exn_takes}
use Rattle.sml_def.specs.Maybe.{◌>>=◌, when}
use Rattle.sml_def.specs.State.{Value, Number, Letter, Nothing, Tag, Constant as Text, Builtin, Maker, RefMaker, Library, At, Env, Block, Tuple, Applied, Cell, Packet, look, cut}
use Rattle.sml_def.specs.Match.{block_of, bytes_of, fields_of, tuple_block, applied_block, cell_block, packet_block, same_exn, argument_of, fits_of, fits, fields_fit, first_rule}
use Rattle.sml_def.specs.Step.{by_label, count_up}
use Rattle.sml_def.proofs.Effects.{all_append, all_get}
use Rattle.sml_def.proofs.Options.{bind_some, or_some, when_some, if_some}
use Rattle.sml_sound.proofs.Environments.{look_all}
use Rattle.sane_laws.specs.Uses.{exceptions_at}
use Rattle.sane_laws.specs.Flow.{Form, AName, AFunctionPart, AnyOther, forms_of, is_exception_name, IsConstantNone, NoBodies, DatumForm, IsDatum, AreData, NameForm, IsNameOf, IsHeld, HoldsWell, BlockWell, StoreWell}
use Rattle.sane_laws.proofs.Uses.{no_exception}

-- ---- Environments

-- what is so of each item is so of those that are left
cut_all : (P : ℕ × Value → Type 0) (xs : List ℕ) (env : Env) → AllByRecursion P env → AllByRecursion P (cut xs env)
cut_all P [] env h = tt
cut_all P (x ∷ xs) env h = go (look env x) refl (cut_all P xs env h)
  where
    go : (o : Option Value) → look env x ≡ o → AllByRecursion P (cut xs env) → AllByRecursion P (cons_option (option_map (λ v. (x, v)) o) (cut xs env))
    go None e rest = rest
    go (Some v) e rest = (look_all P env x v h e, rest)

zip_all : (Q : Value → Type 0) (xs : List ℕ) (vs : List Value) → AllByRecursion Q vs → AllByRecursion (λ b. Q b.1) (zip xs vs)
zip_all Q [] vs h = tt
zip_all Q (x ∷ xs) [] h = tt
zip_all Q (x ∷ xs) (v ∷ vs) h = (h.0, zip_all Q xs vs h.1)

second_all : (Q : Value → Type 0) (env : Env) → AllByRecursion (λ b. Q b.1) env → AllByRecursion Q (map (λ b. b.1) env)
second_all Q [] h = tt
second_all Q (b ∷ env) h = (h.0, second_all Q env h.1)

module _ (p : Bare) (t : Typing) (forms : List Form) where
  pub label_data : (fields : List Field) (vs : List Value) → AreData p t forms vs → AreData p t forms (by_label fields vs)
  label_data fields vs h =
      let slots = map (λ f. f.slot) fields in
      second_all (IsDatum p t forms) (cut (count_up 0 (length fields)) (zip slots vs)) (cut_all (λ b. IsDatum p t forms b.1) (count_up 0 (length fields)) (zip slots vs) (zip_all (IsDatum p t forms) slots vs h))

  abbrev Item : ℕ × Value → Type 0
  Item b = IsHeld p t forms (is_exception_name p t b.0) b.0 b.1

  pub cut_well : (xs : List ℕ) (env : Env) → HoldsWell p t forms env → HoldsWell p t forms (cut xs env)
  cut_well xs env h = cut_all Item xs env h

  pub join_well : (a b : Env) → HoldsWell p t forms a → HoldsWell p t forms b → HoldsWell p t forms (a ++ b)
  join_well a b h g = all_append Item a b h g

  pub look_well : (env : Env) (x : ℕ) (v : Value) (b : Bool) → is_exception_name p t x ≡ b → HoldsWell p t forms env → look env x ≡ Some v → IsHeld p t forms b x v
  look_well env x v b e h l = subst (λ b. IsHeld p t forms b x v) e (look_all Item env x v h l)

  -- a variable that is bound to a datum, and one that is bound to an exception name
  pub one_datum : (x : ℕ) (v : Value) → is_exception_name p t x ≡ false → IsDatum p t forms v → Item (x, v)
  one_datum x v e h = subst (λ b. IsHeld p t forms b x v) (sym e) h

  pub one_name : (x : ℕ) (v : Value) → is_exception_name p t x ≡ true → IsNameOf p t forms (t.schemes x).body v → Item (x, v)
  one_name x v e h = subst (λ b. IsHeld p t forms b x v) (sym e) h

  -- an exception name without an argument is a datum
  pub name_datum : (u : Tree) (v : Value) → u ≡ exn_ty → IsNameOf p t forms u v → IsDatum p t forms v
  name_datum u (Library e) q h = h ∙ q
  name_datum u (At a) q h = go (slice_get forms a) h
    where
      go : (o : Option Form) → NameForm p t forms u o → DatumForm p t forms o
      go (Some (AName x)) h = h ∙ q
      go (Some (AFunctionPart f)) h = absurd h
      go (Some AnyOther) h = absurd h
      go None h = absurd h
  name_datum u _ q h = absurd h

pub plain_library : (e : LibraryExn) → exn_takes e ≡ false → library_exn e ≡ exn_ty
plain_library exn.FailExn h = cc
plain_library _ h = refl

-- ---- Blocks

module _ (p : Bare) (t : Typing) (store : List Block) (well : StoreWell p t store) where
  abbrev forms : List Form
  forms = forms_of store

  pub block_well : (v : Value) → IfSome (block_of store v) (BlockWell p t forms)
  block_well (At a) = all_get (BlockWell p t forms) store a well
  block_well (Number z) = tt
  block_well (Letter c) = tt
  block_well Nothing = tt
  block_well (Tag n) = tt
  block_well (Text n) = tt
  block_well (Builtin f) = tt
  block_well (Maker n) = tt
  block_well RefMaker = tt
  block_well (Library e) = tt

  applied_datum : (n : ℕ) (o : Option Block) → IfSome o (BlockWell p t forms) → IfSome (applied_block n o) (IsDatum p t forms)
  applied_datum n (Some (Applied m w)) h = when_some (IsDatum p t forms) (nat_eq n m) w (λ e. h)
  applied_datum n None h = tt
  applied_datum n (Some _) h = tt

  cell_datum : (o : Option Block) → IfSome o (BlockWell p t forms) → IfSome (cell_block o) (IsDatum p t forms)
  cell_datum (Some (Cell w)) h = h
  cell_datum None h = tt
  cell_datum (Some _) h = tt

  packet_datum : (name : Value) (o : Option Block) → IfSome o (BlockWell p t forms) → IfSome (packet_block o >>= (λ packet. when (same_exn name packet.0) packet.1)) (IsDatum p t forms)
  packet_datum name (Some (Packet x w)) h = when_some (IsDatum p t forms) (same_exn name x) w (λ e. h)
  packet_datum name None h = tt
  packet_datum name (Some _) h = tt

  argument_datum : (env : Env) (c : Con) (v : Value) → IfSome (argument_of env store c v) (IsDatum p t forms)
  argument_datum env (con.Data n k takes) v = applied_datum k (block_of store v) (block_well v)
  argument_datum env con.Ref v = cell_datum (block_of store v) (block_well v)
  argument_datum env (con.Exn x takes) v =
      bind_some (IsDatum p t forms) (look env x.0) _ (λ name e. packet_datum name (block_of store v) (block_well v))
  argument_datum env (con.Library e) v = packet_datum (Library e) (block_of store v) (block_well v)

  tuple_data : (o : Option Block) → IfSome o (BlockWell p t forms) → IfSome (tuple_block o) (AreData p t forms)
  tuple_data (Some (Tuple vs)) h = h
  tuple_data None h = tt
  tuple_data (Some _) h = tt

  pub fields_data : (v : Value) → IfSome (fields_of store v) (AreData p t forms)
  fields_data (At a) = tuple_data (slice_get store a) (all_get (BlockWell p t forms) store a well)
  fields_data Nothing = tt
  fields_data _ = tt

  -- ---- Patterns

  module _ (bare : IsBare p) (env : Env) where
    abbrev BindsWell : (ℕ → Value → Option Env) → Type 0
    BindsWell part = (i : ℕ) (v : Value) → IsDatum p t forms v → IfSome (part i v) (HoldsWell p t forms)

    -- a name of a pattern is no exception's
    bound_datum : (i : ℕ) (q : Node) (x : ℕ) (v : Value) → slice_get p.nodes i ≡ Some q → exceptions_at q ≡ [] → has (names_at q) x ≡ true → IsDatum p t forms v → IsHeld p t forms (is_exception_name p t x) x v
    bound_datum i q x v e none h d = one_datum p t forms x v (no_exception p.nodes bare.once i q x e none h) d

    self_in : (x : ℕ) → has (x ∷ []) x ≡ true
    self_in x = or_left (nat_eq x x) false (eq-eqb x x refl)

    fields_bind : (part : ℕ → Value → Option Env) → BindsWell part → (fields : List Field) (vs : List Value) → AreData p t forms vs → IfSome (fields_fit p env store part fields vs) (HoldsWell p t forms)
    fields_bind part g [] vs h = tt
    fields_bind part g (f ∷ fields) vs h =
        let W = HoldsWell p t forms in
        bind_some W (slice_get vs f.slot) _ (λ v ev. bind_some W (part f.node v) _ (λ e he. bind_some W (fields_fit p env store part fields vs) _ (λ o ho.
        join_well p t forms e o (if_some W (part f.node v) e he (g f.node v (if_some (IsDatum p t forms) (slice_get vs f.slot) v ev (all_get (IsDatum p t forms) vs f.slot h)))) (if_some W (fields_fit p env store part fields vs) o ho (fields_bind part g fields vs h)))))

    node_binds : (part : ℕ → Value → Option Env) → BindsWell part → (i : ℕ) (q : Node) → slice_get p.nodes i ≡ Some q → (v : Value) → IsDatum p t forms v → IfSome (fits_of p env store part q v) (HoldsWell p t forms)
    node_binds part g i node.Wild e v h = tt
    node_binds part g i (node.PatInt m) e (Number k) h = when_some (HoldsWell p t forms) _ [] (λ q. tt)
    node_binds part g i (node.PatChar m) e (Letter k) h = when_some (HoldsWell p t forms) _ [] (λ q. tt)
    node_binds part g i (node.PatText m) e v h =
        let W = HoldsWell p t forms in
        bind_some W (slice_get p.texts m) _ (λ bs eb. bind_some W (bytes_of p store v) _ (λ cs ec. when_some W _ [] (λ q. tt)))
    node_binds part g i (node.PatVar x) e v h = (bound_datum i (node.PatVar x) x.0 v e refl (self_in x.0) h, tt)
    node_binds part g i (node.PatCon c) e v h = when_some (HoldsWell p t forms) _ [] (λ q. tt)
    node_binds part g i (node.PatApp c q) e v h =
        bind_some (HoldsWell p t forms) (argument_of env store c v) (part q) (λ w ew. g q w (if_some (IsDatum p t forms) (argument_of env store c v) w ew (argument_datum env c v)))
    node_binds part g i (node.PatRecord fields) e v h =
        bind_some (HoldsWell p t forms) (fields_of store v) _ (λ vs ev. fields_bind part g fields vs (if_some (AreData p t forms) (fields_of store v) vs ev (fields_data v)))
    node_binds part g i (node.PatTyped q ty) e v h = g q v h
    node_binds part g i (node.PatAs x q) e v h =
        bind_some (HoldsWell p t forms) (part q v) _ (λ b eb. (bound_datum i (node.PatAs x q) x.0 v e refl (self_in x.0) h, if_some (HoldsWell p t forms) (part q v) b eb (g q v h)))
    node_binds part g i _ e v h = tt

    at_binds : (part : ℕ → Value → Option Env) → BindsWell part → (i : ℕ) (o : Option Node) → slice_get p.nodes i ≡ o → (v : Value) → IsDatum p t forms v → IfSome (at_node (λ v. None) (λ part i. fits_of p env store part) part i o v) (HoldsWell p t forms)
    at_binds part g i None e v h = tt
    at_binds part g i (Some q) e v h = node_binds part g i q e v h

    within_binds : (k : ℕ) → BindsWell (within (λ v. None) (λ part i. fits_of p env store part) k p.nodes)
    within_binds zero i v h = tt
    within_binds (suc k) i v h = at_binds (within (λ v. None) (λ part i. fits_of p env store part) k p.nodes) (within_binds k) i (slice_get p.nodes i) refl v h

    -- what a datum binds that fits a pattern
    pub fits_well : (i : ℕ) (v : Value) → IsDatum p t forms v → IfSome (fits p env store i v) (HoldsWell p t forms)
    fits_well i v h = within_binds (length p.nodes) i v h

    -- with the body of the rule that is chosen
    pub first_well : (rules : List Rule) → NoBodies p t rules → (v : Value) → IsDatum p t forms v → IfSome (first_rule p env store rules v) (λ r. HoldsWell p t forms r.0 × IsConstantNone p t r.1)
    first_well [] b v h = tt
    first_well (r ∷ rules) b v h =
        or_some (λ o. IfSome o (λ r. HoldsWell p t forms r.0 × IsConstantNone p t r.1)) (fits p env store r.pat v) _ _ (λ e he. (if_some (HoldsWell p t forms) (fits p env store r.pat v) e he (fits_well r.pat v h), b.0)) (first_well rules b.1 v h)
