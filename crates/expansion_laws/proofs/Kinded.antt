-- Which trees stand where in a parse tree, as evidence, with what their leaves cite.
use Rattle.std.proofs.Common.{ℕ, ◌<◌, ◌≤◌, ◌+◌, ℤ}
use Rattle.smlc_base.specs.declared.place.Place.{Place}
use Rattle.smlc_base.specs.declared.names.Name.{Name}
use Rattle.sml_tree.specs.declared.status.Status.{Status}
use Rattle.sml_tree.specs.declared.tree_node.TreeNode.TheVariants as node
use Rattle.sml_tree.specs.IsBare.{IsInt}
use Rattle.sml_expansion.specs.Terms.{Term, leaf, one, two, three, four}

pub data Kind : Type 0 where
  Exp Exps Rows Rules Label : Kind
  Pat Pats PatRows : Kind
  Ty Tys TyRows : Kind
  Dec Decs ValBind ValBinds Clause Clauses FunBinds Head TypBinds DatBind DatBinds ConBinds ExBinds : Kind

-- how many trees have no parts
abbrev pub leaves_in : Term → ℕ
leaves_in (leaf n p) = 1
leaves_in (one n p a) = leaves_in a
leaves_in (two n p a b) = leaves_in a + leaves_in b
leaves_in (three n p a b c) = leaves_in a + leaves_in b + leaves_in c
leaves_in (four n p a b c d) = leaves_in a + leaves_in b + leaves_in c + leaves_in d

-- where there are so many texts
pub data Kinded (texts : ℕ) : Kind → Term → Type 0 where
  vid : (x : Name) (p : Place) → Kinded texts Exp (leaf (node.Vid x) p)
  long_vid : (x : Name) (p : Place) → Kinded texts Exp (leaf (node.LongVid x) p)
  op : (p : Place) (a : Term) → Kinded texts Exp (one node.Op p a)
  int : (i : ℤ) (p : Place) → IsInt i → Kinded texts Exp (leaf (node.Int i) p)
  char : (c : ℕ) (p : Place) → c < 256 → Kinded texts Exp (leaf (node.Char c) p)
  text : (t : ℕ) (p : Place) → t < texts → Kinded texts Exp (leaf (node.Text t) p)
  unit : (p : Place) → Kinded texts Exp (leaf node.Unit p)
  empty_record : (p : Place) → Kinded texts Exp (leaf node.EmptyRecord p)
  empty_list : (p : Place) → Kinded texts Exp (leaf node.EmptyList p)
  paren : (p : Place) {a : Term} → Kinded texts Exp a → Kinded texts Exp (one node.Paren p a)
  apply : (p : Place) {a b : Term} → Kinded texts Exp a → Kinded texts Exp b → Kinded texts Exp (two node.Apply p a b)
  infix_exp : (p : Place) {a b : Term} (v : Term) → Kinded texts Exp a → Kinded texts Exp b → Kinded texts Exp (three node.InfixExp p a v b)
  tuple : (p : Place) {a b : Term} → Kinded texts Exp a → Kinded texts Exps b → Kinded texts Exp (two node.Tuple p a b)
  record_exp : (p : Place) {a : Term} → Kinded texts Rows a → Kinded texts Exp (one node.Record p a)
  list : (p : Place) {a : Term} → Kinded texts Exps a → Kinded texts Exp (one node.List p a)
  sequence : (p : Place) {a b : Term} → Kinded texts Exp a → Kinded texts Exps b → Kinded texts Exp (two node.Sequence p a b)
  typed : (p : Place) {a t : Term} → Kinded texts Exp a → Kinded texts Ty t → Kinded texts Exp (two node.Typed p a t)
  andalso : (p : Place) {a b : Term} → Kinded texts Exp a → Kinded texts Exp b → Kinded texts Exp (two node.Andalso p a b)
  orelse : (p : Place) {a b : Term} → Kinded texts Exp a → Kinded texts Exp b → Kinded texts Exp (two node.Orelse p a b)
  if_exp : (p : Place) {a b c : Term} → Kinded texts Exp a → Kinded texts Exp b → Kinded texts Exp c → Kinded texts Exp (three node.If p a b c)
  while : (p : Place) {a b : Term} → Kinded texts Exp a → Kinded texts Exp b → Kinded texts Exp (two node.While p a b)
  raise : (p : Place) {a : Term} → Kinded texts Exp a → Kinded texts Exp (one node.Raise p a)
  handle : (p : Place) {a m : Term} → Kinded texts Exp a → Kinded texts Rules m → Kinded texts Exp (two node.Handle p a m)
  case : (p : Place) {a m : Term} → Kinded texts Exp a → Kinded texts Rules m → Kinded texts Exp (two node.Case p a m)
  fn : (p : Place) {m : Term} → Kinded texts Rules m → Kinded texts Exp (one node.Fn p m)
  let_exp : (p : Place) {d a : Term} → Kinded texts Decs d → Kinded texts Exps a → Kinded texts Exp (two node.Let p d a)
  -- expressions between commas or semicolons
  one_exp : {a : Term} → Kinded texts Exp a → Kinded texts Exps a
  more_items : (p : Place) {a b : Term} → Kinded texts Exp a → Kinded texts Exps b → Kinded texts Exps (two node.MoreItems p a b)
  more_seq : (p : Place) {a b : Term} → Kinded texts Exp a → Kinded texts Exps b → Kinded texts Exps (two node.MoreSeq p a b)
  row : (p : Place) {l a : Term} → Kinded texts Label l → Kinded texts Exp a → Kinded texts Rows (two node.Row p l a)
  more_rows : (p : Place) {a b : Term} → Kinded texts Rows a → Kinded texts Rows b → Kinded texts Rows (two node.MoreRows p a b)
  label : (x : Name) (p : Place) → Kinded texts Label (leaf (node.Label x) p)
  label_number : (i : ℤ) (p : Place) → Kinded texts Label (leaf (node.LabelNumber i) p)
  rule : (p : Place) {q a : Term} → Kinded texts Pat q → Kinded texts Exp a → Kinded texts Rules (two node.Rule p q a)
  more_rules : (p : Place) {a b : Term} → Kinded texts Rules a → Kinded texts Rules b → Kinded texts Rules (two node.MoreRules p a b)
  -- patterns
  pat_vid : (x : Name) (p : Place) → Kinded texts Pat (leaf (node.Vid x) p)
  pat_long_vid : (x : Name) (p : Place) → Kinded texts Pat (leaf (node.LongVid x) p)
  pat_op : (p : Place) (a : Term) → Kinded texts Pat (one node.Op p a)
  pat_int : (i : ℤ) (p : Place) → IsInt i → Kinded texts Pat (leaf (node.Int i) p)
  pat_char : (c : ℕ) (p : Place) → c < 256 → Kinded texts Pat (leaf (node.Char c) p)
  pat_text : (t : ℕ) (p : Place) → t < texts → Kinded texts Pat (leaf (node.Text t) p)
  wild : (p : Place) → Kinded texts Pat (leaf node.Wild p)
  pat_unit : (p : Place) → Kinded texts Pat (leaf node.PatUnit p)
  pat_empty_record : (p : Place) → Kinded texts Pat (leaf node.PatEmptyRecord p)
  pat_empty_list : (p : Place) → Kinded texts Pat (leaf node.PatEmptyList p)
  pat_paren : (p : Place) {a : Term} → Kinded texts Pat a → Kinded texts Pat (one node.PatParen p a)
  pat_list : (p : Place) {a : Term} → Kinded texts Pats a → Kinded texts Pat (one node.PatList p a)
  pat_record : (p : Place) {a : Term} → Kinded texts PatRows a → Kinded texts Pat (one node.PatRecord p a)
  pat_tuple : (p : Place) {a b : Term} → Kinded texts Pat a → Kinded texts Pats b → Kinded texts Pat (two node.PatTuple p a b)
  con_pat : (p : Place) (c : Term) {a : Term} → Kinded texts Pat a → Kinded texts Pat (two node.ConPat p c a)
  typed_pat : (p : Place) {a t : Term} → Kinded texts Pat a → Kinded texts Ty t → Kinded texts Pat (two node.TypedPat p a t)
  layered : (p : Place) (v : Term) {a : Term} → Kinded texts Pat a → Kinded texts Pat (two node.Layered p v a)
  infix_pat : (p : Place) {a b : Term} (v : Term) → Kinded texts Pat a → Kinded texts Pat b → Kinded texts Pat (three node.InfixPat p a v b)
  typed_layered : (p : Place) (v : Term) {t a : Term} → Kinded texts Ty t → Kinded texts Pat a → Kinded texts Pat (three node.TypedLayered p v t a)
  one_pat : {a : Term} → Kinded texts Pat a → Kinded texts Pats a
  more_pats : (p : Place) {a b : Term} → Kinded texts Pat a → Kinded texts Pats b → Kinded texts Pats (two node.MorePats p a b)
  more_atpats : (p : Place) {a b : Term} → Kinded texts Pat a → Kinded texts Pats b → Kinded texts Pats (two node.MoreAtpats p a b)
  pat_row : (p : Place) {l a : Term} → Kinded texts Label l → Kinded texts Pat a → Kinded texts PatRows (two node.PatRow p l a)
  pun_row : (p : Place) {l : Term} → Kinded texts Label l → Kinded texts PatRows (one node.PunRow p l)
  typed_pun_row : (p : Place) {l t : Term} → Kinded texts Label l → Kinded texts Ty t → Kinded texts PatRows (two node.TypedPunRow p l t)
  pun_row_as : (p : Place) {l a : Term} → Kinded texts Label l → Kinded texts Pat a → Kinded texts PatRows (two node.PunRowAs p l a)
  typed_pun_row_as : (p : Place) {l t a : Term} → Kinded texts Label l → Kinded texts Ty t → Kinded texts Pat a → Kinded texts PatRows (three node.TypedPunRowAs p l t a)
  more_pat_rows : (p : Place) {a b : Term} → Kinded texts PatRows a → Kinded texts PatRows b → Kinded texts PatRows (two node.MorePatRows p a b)
  -- types
  ty_var : (x : Name) (p : Place) → Kinded texts Ty (leaf (node.TyVar x) p)
  ty_con : (x : Name) (p : Place) → Kinded texts Ty (leaf (node.TyCon x) p)
  long_ty_con : (x : Name) (p : Place) → Kinded texts Ty (leaf (node.LongTyCon x) p)
  empty_record_ty : (p : Place) → Kinded texts Ty (leaf node.EmptyRecordTy p)
  paren_ty : (p : Place) {a : Term} → Kinded texts Ty a → Kinded texts Ty (one node.ParenTy p a)
  record_ty : (p : Place) {a : Term} → Kinded texts TyRows a → Kinded texts Ty (one node.RecordTy p a)
  arrow : (p : Place) {a b : Term} → Kinded texts Ty a → Kinded texts Ty b → Kinded texts Ty (two node.ArrowTy p a b)
  product : (p : Place) {a b : Term} → Kinded texts Ty a → Kinded texts Tys b → Kinded texts Ty (two node.ProductTy p a b)
  con_ty : (p : Place) {a : Term} (c : Term) → Kinded texts Ty a → Kinded texts Ty (two node.ConTy p a c)
  seq_con_ty : (p : Place) {a b : Term} (c : Term) → Kinded texts Ty a → Kinded texts Tys b → Kinded texts Ty (three node.SeqConTy p a b c)
  one_ty : {a : Term} → Kinded texts Ty a → Kinded texts Tys a
  more_factors : (p : Place) {a b : Term} → Kinded texts Ty a → Kinded texts Tys b → Kinded texts Tys (two node.MoreFactors p a b)
  more_tys : (p : Place) {a b : Term} → Kinded texts Ty a → Kinded texts Tys b → Kinded texts Tys (two node.MoreTys p a b)
  ty_row : (p : Place) (l : Term) {t : Term} → Kinded texts Ty t → Kinded texts TyRows (two node.TyRow p l t)
  more_ty_rows : (p : Place) {a b : Term} → Kinded texts TyRows a → Kinded texts TyRows b → Kinded texts TyRows (two node.MoreTyRows p a b)
  -- declarations
  val : (p : Place) (vs : Term) {b : Term} → Kinded texts ValBinds b → Kinded texts Dec (two node.Val p vs b)
  fun : (p : Place) (vs : Term) {b : Term} → Kinded texts FunBinds b → Kinded texts Dec (two node.Fun p vs b)
  type_dec : (p : Place) {b : Term} → Kinded texts TypBinds b → Kinded texts Dec (one node.Type p b)
  datatype : (p : Place) {b : Term} → Kinded texts DatBinds b → Kinded texts Dec (one node.Datatype p b)
  exception_dec : (p : Place) {b : Term} → Kinded texts ExBinds b → Kinded texts Dec (one node.Exception p b)
  local : (p : Place) {a b : Term} → Kinded texts Decs a → Kinded texts Decs b → Kinded texts Dec (two node.Local p a b)
  directive : (x : Status) (p : Place) (a : Term) → Kinded texts Dec (one (node.Directive x) p a)
  no_decs : (p : Place) → Kinded texts Decs (leaf node.NoDecs p)
  more_decs : (p : Place) {a b : Term} → Kinded texts Dec a → Kinded texts Decs b → Kinded texts Decs (two node.MoreDecs p a b)
  val_bind : (p : Place) {q a : Term} → Kinded texts Pat q → Kinded texts Exp a → Kinded texts ValBind (two node.ValBind p q a)
  one_val_bind : {b : Term} → Kinded texts ValBind b → Kinded texts ValBinds b
  more_val_binds : (p : Place) {a b : Term} → Kinded texts ValBind a → Kinded texts ValBinds b → Kinded texts ValBinds (two node.MoreValBinds p a b)
  rec_binds : (p : Place) {a : Term} → Kinded texts ValBinds a → Kinded texts ValBinds (one node.Rec p a)
  clause : (p : Place) {h a : Term} → Kinded texts Head h → Kinded texts Exp a → Kinded texts Clause (two node.Clause p h a)
  typed_clause : (p : Place) {h t a : Term} → Kinded texts Head h → Kinded texts Ty t → Kinded texts Exp a → Kinded texts Clause (three node.TypedClause p h t a)
  one_clause : {c : Term} → Kinded texts Clause c → Kinded texts Clauses c
  more_clauses : (p : Place) {a b : Term} → Kinded texts Clause a → Kinded texts Clauses b → Kinded texts Clauses (two node.MoreClauses p a b)
  one_fun : {c : Term} → Kinded texts Clauses c → Kinded texts FunBinds c
  more_funs : (p : Place) {a b : Term} → Kinded texts Clauses a → Kinded texts FunBinds b → Kinded texts FunBinds (two node.MoreFunBinds p a b)
  head : (p : Place) (v : Term) {ps : Term} → Kinded texts Pats ps → Kinded texts Head (two node.Head p v ps)
  infix_head : (p : Place) {a b : Term} (v : Term) → Kinded texts Pat a → Kinded texts Pat b → Kinded texts Head (three node.InfixHead p a v b)
  paren_head : (p : Place) {a b : Term} (v : Term) → Kinded texts Pat a → Kinded texts Pat b → Kinded texts Head (three node.ParenHead p a v b)
  paren_head_args : (p : Place) {a b ps : Term} (v : Term) → Kinded texts Pat a → Kinded texts Pat b → Kinded texts Pats ps → Kinded texts Head (four node.ParenHeadArgs p a v b ps)
  typ_bind : (p : Place) (vs c : Term) {t : Term} → Kinded texts Ty t → Kinded texts TypBinds (three node.TypBind p vs c t)
  more_typ_binds : (p : Place) {a b : Term} → Kinded texts TypBinds a → Kinded texts TypBinds b → Kinded texts TypBinds (two node.MoreTypBinds p a b)
  dat_bind : (p : Place) (vs c : Term) {cons : Term} → Kinded texts ConBinds cons → leaves_in cons ≤ 1048576 → Kinded texts DatBind (three node.DatBind p vs c cons)
  one_dat_bind : {a : Term} → Kinded texts DatBind a → Kinded texts DatBinds a
  more_dat_binds : (p : Place) {a b : Term} → Kinded texts DatBind a → Kinded texts DatBinds b → Kinded texts DatBinds (two node.MoreDatBinds p a b)
  con_bind : (p : Place) (v : Term) → Kinded texts ConBinds (one node.ConBind p v)
  con_bind_of : (p : Place) (v : Term) {t : Term} → Kinded texts Ty t → Kinded texts ConBinds (two node.ConBindOf p v t)
  more_con_binds : (p : Place) {a b : Term} → Kinded texts ConBinds a → Kinded texts ConBinds b → Kinded texts ConBinds (two node.MoreConBinds p a b)
  ex_bind : (p : Place) (v : Term) → Kinded texts ExBinds (one node.ExBind p v)
  ex_bind_of : (p : Place) (v : Term) {t : Term} → Kinded texts Ty t → Kinded texts ExBinds (two node.ExBindOf p v t)
  ex_bind_is : (p : Place) (v w : Term) → Kinded texts ExBinds (two node.ExBindIs p v w)
  more_ex_binds : (p : Place) {a b : Term} → Kinded texts ExBinds a → Kinded texts ExBinds b → Kinded texts ExBinds (two node.MoreExBinds p a b)
