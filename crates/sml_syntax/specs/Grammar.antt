-- The grammar: which phrase stands from one place of a list of terminals to another, and its nodes.
use Rattle.std.specs.Prelude.{◌≡◌, ℕ, ℤ, ◌++◌, Bool, true, false, length, Option, Some, List, [], ◌∷◌}
use Rattle.smlc_base.specs.declared.names.Name.{Name}
use Rattle.sml_tree.specs.declared.status.Status.{Status}
use Rattle.sml_tree.specs.declared.status.Status.TheVariants as status
use Rattle.sml_tree.specs.declared.tree_node.TreeNode.{TreeNode}
use Rattle.sml_tree.specs.declared.tree_node.TreeNode.TheVariants as node
use Rattle.sml_syntax.specs.declared.forms.Terminal.{Terminal}
use Rattle.sml_syntax.specs.declared.forms.Terminal.TheVariants as tok
use Rattle.sml_syntax.specs.declared.forms.Shape.{Shape}
use Rattle.sml_syntax.specs.declared.forms.Shape.TheVariants as shape
use Rattle.sml_syntax.specs.declared.forms.Made.{Made}
use Rattle.sml_syntax.specs.declared.forms.Made.TheVariants as made
use Rattle.sml_syntax.specs.declared.forms.Directive.{Directive}
use Rattle.sml_syntax.specs.declared.forms.Root.{Root}
use Rattle.sml_syntax.specs.declared.forms.Root.TheVariants as root
use Rattle.sml_syntax.specs.declared.forms.Look.{Look}
use Rattle.sml_syntax.specs.declared.forms.Look.TheVariants as look
use Rattle.sml_syntax.specs.declared.forms.InfixVid.{InfixVid}
use Rattle.sml_syntax.specs.Fixity.{Fix, looks, directed, goes_on, operates, lefts, fits, is_label}

pub data Kind : Type 0 where
  -- a program and a sequence of declarations, with the fixity behind them
  IsProgram IsDecs IsDec : Fix → Kind
  -- the precedence of a directive
  IsDigit : ℕ → Kind
  -- the identifiers of a directive, with the fixity behind them
  IsVids : Status → Fix → Kind
  -- what ends in an expression, and whether it ends in an open match
  IsClause IsExp IsConjEnd IsPrefix IsRule : Bool → Kind
  -- the operator on whose right it stands, and its own
  IsInfix IsInfixPat : Root → Root → Kind
  IsTyVars IsTyVarList IsValBind IsFunBinds IsClauses IsHead IsAtpats IsTypBinds IsTypBind IsDatBinds IsDatBind IsConBinds IsConBind IsExBinds IsExBind : Kind
  IsVid IsOpVid IsLongVid IsTyCon IsLongTyCon IsLabel IsScon : Kind
  IsDisj IsConj IsTyped IsApp IsAtexp IsItems IsSeq IsRows IsMatch : Kind
  IsPat IsTypedPat IsOperand IsAtpat IsPats IsPatRows IsPatRow IsPun : Kind
  IsTy IsProduct IsFactors IsTyAtom IsTys IsTyRows IsTyRow : Kind

-- A phrase of a kind under a fixity, from the terminals a to their tail b, with the nodes from o to their tail p.
pub data Phrase (v : Bool) : Kind → Fix → List Terminal → List Terminal → List Made → List Made → Type 0 where
  -- programs and sequences of declarations, with the fixity behind them
  no_program : {f : Fix} {a : List Terminal} {o : List Made} → Phrase v (IsProgram f) f a a o o
  program_semicolon : {f g : Fix} {a b : List Terminal} {o p : List Made} → Phrase v (IsProgram g) f a b o p → Phrase v (IsProgram g) f (tok.Semicolon ∷ a) b o p
  program_dec : {f g h : Fix} {a b c : List Terminal} {o p q : List Made} → Phrase v (IsDec g) f a b o p → Phrase v (IsProgram h) g b c p q → Phrase v (IsProgram h) f a c o q
  no_decs : {f : Fix} {a : List Terminal} {o : List Made} → Phrase v (IsDecs f) f a a (made.Lead node.NoDecs (length a) ∷ o) o
  decs_semicolon : {f g : Fix} {a b : List Terminal} {o p : List Made} → Phrase v (IsDecs g) f a b o p → Phrase v (IsDecs g) f (tok.Semicolon ∷ a) b o p
  more_decs : {f g h : Fix} {a b c : List Terminal} {o p q : List Made} → Phrase v (IsDec g) f a b o p → Phrase v (IsDecs h) g b c p (made.Inner node.MoreDecs ∷ q) → Phrase v (IsDecs h) f a c o q
  -- declarations
  val_dec : {f : Fix} {a b c : List Terminal} {o p q : List Made} → Phrase v IsTyVars f a b o p → Phrase v IsValBind f b c p (made.Lead node.Val (length (tok.Val ∷ a)) ∷ q) → Phrase v (IsDec f) f (tok.Val ∷ a) c o q
  fun_dec : {f : Fix} {a b c : List Terminal} {o p q : List Made} → Phrase v IsTyVars f a b o p → Phrase v IsFunBinds f b c p (made.Lead node.Fun (length (tok.Fun ∷ a)) ∷ q) → Phrase v (IsDec f) f (tok.Fun ∷ a) c o q
  type_dec : {f : Fix} {a b : List Terminal} {o p : List Made} → Phrase v IsTypBinds f a b o (made.Lead node.Type (length (tok.Type ∷ a)) ∷ p) → Phrase v (IsDec f) f (tok.Type ∷ a) b o p
  datatype_dec : {f : Fix} {a b : List Terminal} {o p : List Made} → Phrase v IsDatBinds f a b o (made.Lead node.Datatype (length (tok.Datatype ∷ a)) ∷ p) → Phrase v (IsDec f) f (tok.Datatype ∷ a) b o p
  exception_dec : {f : Fix} {a b : List Terminal} {o p : List Made} → Phrase v IsExBinds f a b o (made.Lead node.Exception (length (tok.Exception ∷ a)) ∷ p) → Phrase v (IsDec f) f (tok.Exception ∷ a) b o p
  local_dec : {f e h g : Fix} {a b c : List Terminal} {o p q : List Made} → g ≡ goes_on f e h → Phrase v (IsDecs e) f a (tok.In ∷ b) o p → Phrase v (IsDecs h) e b (tok.End ∷ c) p (made.Lead node.Local (length (tok.Local ∷ a)) ∷ q) → Phrase v (IsDec g) f (tok.Local ∷ a) c o q
  infix_dec : {f g : Fix} {d : ℕ} {a b c : List Terminal} {o p q : List Made} → Phrase v (IsDigit d) f a b o p → Phrase v (IsVids (status.Infix d false) g) f b c p (made.Lead (node.Directive (status.Infix d false)) (length (tok.Infix ∷ a)) ∷ q) → Phrase v (IsDec g) f (tok.Infix ∷ a) c o q
  infixr_dec : {f g : Fix} {d : ℕ} {a b c : List Terminal} {o p q : List Made} → Phrase v (IsDigit d) f a b o p → Phrase v (IsVids (status.Infix d true) g) f b c p (made.Lead (node.Directive (status.Infix d true)) (length (tok.Infixr ∷ a)) ∷ q) → Phrase v (IsDec g) f (tok.Infixr ∷ a) c o q
  nonfix_dec : {f g : Fix} {a b : List Terminal} {o p : List Made} → Phrase v (IsVids status.Nonfix g) f a b o (made.Lead (node.Directive status.Nonfix) (length (tok.Nonfix ∷ a)) ∷ p) → Phrase v (IsDec g) f (tok.Nonfix ∷ a) b o p
  no_digit : {f : Fix} {a : List Terminal} {o : List Made} → Phrase v (IsDigit 0) f a a o o
  digit : {f : Fix} {z : ℤ} {d : ℕ} {a : List Terminal} {o : List Made} → Phrase v (IsDigit d) f ((tok.Int z (shape.Digit d)) ∷ a) a o o
  last_vid : {f : Fix} {u : Status} {x : Name} {s : Bool} {a : List Terminal} {o : List Made} → Phrase v (IsVids u (directed f x u)) f ((tok.Id x s) ∷ a) a (made.Lead (node.Vid x) (length ((tok.Id x s) ∷ a)) ∷ o) o
  more_vids : {f g : Fix} {u : Status} {x : Name} {s : Bool} {a b : List Terminal} {o p : List Made} → Phrase v (IsVids u g) (directed f x u) a b o (made.Inner node.MoreVids ∷ p) → Phrase v (IsVids u g) f ((tok.Id x s) ∷ a) b (made.Lead (node.Vid x) (length ((tok.Id x s) ∷ a)) ∷ o) p
  -- type variables that a declaration binds
  no_tyvars : {f : Fix} {a : List Terminal} {o : List Made} → Phrase v IsTyVars f a a (made.Lead node.NoTyVars (length a) ∷ o) o
  one_tyvar : {f : Fix} {x : Name} {a : List Terminal} {o : List Made} → Phrase v IsTyVars f ((tok.TyVar x) ∷ a) a (made.Lead (node.TyVar x) (length ((tok.TyVar x) ∷ a)) ∷ o) o
  tyvar_seq : {f : Fix} {a b : List Terminal} {o p : List Made} → Phrase v IsTyVarList f a (tok.Close ∷ b) o (made.Lead node.TyVarSeq (length (tok.Open ∷ a)) ∷ p) → Phrase v IsTyVars f (tok.Open ∷ a) b o p
  last_tyvar : {f : Fix} {x : Name} {a : List Terminal} {o : List Made} → Phrase v IsTyVarList f ((tok.TyVar x) ∷ a) a (made.Lead (node.TyVar x) (length ((tok.TyVar x) ∷ a)) ∷ o) o
  more_tyvars : {f : Fix} {x : Name} {a b : List Terminal} {o p : List Made} → Phrase v IsTyVarList f a b o (made.Inner node.MoreTyVars ∷ p) → Phrase v IsTyVarList f ((tok.TyVar x) ∷ tok.Comma ∷ a) b (made.Lead (node.TyVar x) (length ((tok.TyVar x) ∷ tok.Comma ∷ a)) ∷ o) p
  -- value bindings
  last_valbind : {f : Fix} {m : Bool} {a b c : List Terminal} {o p q : List Made} → Phrase v IsPat f a (tok.Equals ∷ b) o p → Phrase v (IsExp m) f b c p (made.Inner node.ValBind ∷ q) → Phrase v IsValBind f a c o q
  more_valbinds : {f : Fix} {m : Bool} {a b c d : List Terminal} {o p q u : List Made} → Phrase v IsPat f a (tok.Equals ∷ b) o p → Phrase v (IsExp m) f b (tok.And ∷ c) p (made.Inner node.ValBind ∷ q) → Phrase v IsValBind f c d q (made.Inner node.MoreValBinds ∷ u) → Phrase v IsValBind f a d o u
  rec_valbind : {f : Fix} {a b : List Terminal} {o p : List Made} → Phrase v IsValBind f a b o (made.Lead node.Rec (length (tok.Rec ∷ a)) ∷ p) → Phrase v IsValBind f (tok.Rec ∷ a) b o p
  -- function bindings: clauses, and their heads
  last_funbind : {f : Fix} {a b : List Terminal} {o p : List Made} → Phrase v IsClauses f a b o p → Phrase v IsFunBinds f a b o p
  more_funbinds : {f : Fix} {a b c : List Terminal} {o p q : List Made} → Phrase v IsClauses f a (tok.And ∷ b) o p → Phrase v IsFunBinds f b c p (made.Inner node.MoreFunBinds ∷ q) → Phrase v IsFunBinds f a c o q
  last_clause : {f : Fix} {m : Bool} {a b : List Terminal} {o p : List Made} → Phrase v (IsClause m) f a b o p → Phrase v IsClauses f a b o p
  more_clauses : {f : Fix} {a b c : List Terminal} {o p q : List Made} → Phrase v (IsClause false) f a (tok.Bar ∷ b) o p → Phrase v IsClauses f b c p (made.Inner node.MoreClauses ∷ q) → Phrase v IsClauses f a c o q
  clause : {f : Fix} {m : Bool} {a b c : List Terminal} {o p q : List Made} → Phrase v IsHead f a (tok.Equals ∷ b) o p → Phrase v (IsExp m) f b c p (made.Inner node.Clause ∷ q) → Phrase v (IsClause m) f a c o q
  typed_clause : {f : Fix} {m : Bool} {a b c d : List Terminal} {o p q u : List Made} → Phrase v IsHead f a (tok.Colon ∷ b) o p → Phrase v IsTy f b (tok.Equals ∷ c) p q → Phrase v (IsExp m) f c d q (made.Inner node.TypedClause ∷ u) → Phrase v (IsClause m) f a d o u
  prefix_head : {f : Fix} {a b c : List Terminal} {o p q : List Made} → Phrase v IsLongVid f a b o p → Phrase v IsAtpats f b c p (made.Inner node.Head ∷ q) → Phrase v IsHead f a c o q
  infix_head : {f : Fix} {t : Terminal} {x : Name} {s r : Bool} {l : ℕ} {a b c : List Terminal} {o p q : List Made} → looks f t ≡ look.Operator x s l r → Phrase v IsAtpat f a (t ∷ b) o (made.Lead (node.Vid x) (length (t ∷ b)) ∷ p) → Phrase v IsAtpat f b c p (made.Inner node.InfixHead ∷ q) → Phrase v IsHead f a c o q
  paren_head : {f : Fix} {t : Terminal} {x : Name} {s r : Bool} {l : ℕ} {a b c : List Terminal} {o p q : List Made} → looks f t ≡ look.Operator x s l r → Phrase v IsAtpat f a (t ∷ b) o (made.Lead (node.Vid x) (length (t ∷ b)) ∷ p) → Phrase v IsAtpat f b (tok.Close ∷ c) p (made.Lead node.ParenHead (length (tok.Open ∷ a)) ∷ q) → Phrase v IsHead f (tok.Open ∷ a) c o q
  paren_head_args : {f : Fix} {t : Terminal} {x : Name} {s r : Bool} {l : ℕ} {a b c d : List Terminal} {o p q u : List Made} → looks f t ≡ look.Operator x s l r → Phrase v IsAtpat f a (t ∷ b) o (made.Lead (node.Vid x) (length (t ∷ b)) ∷ p) → Phrase v IsAtpat f b (tok.Close ∷ c) p q → Phrase v IsAtpats f c d q (made.Lead node.ParenHeadArgs (length (tok.Open ∷ a)) ∷ u) → Phrase v IsHead f (tok.Open ∷ a) d o u
  last_atpat : {f : Fix} {a b : List Terminal} {o p : List Made} → Phrase v IsAtpat f a b o p → Phrase v IsAtpats f a b o p
  more_atpats : {f : Fix} {a b c : List Terminal} {o p q : List Made} → Phrase v IsAtpat f a b o p → Phrase v IsAtpats f b c p (made.Inner node.MoreAtpats ∷ q) → Phrase v IsAtpats f a c o q
  -- type, datatype and exception bindings
  last_typbind : {f : Fix} {a b : List Terminal} {o p : List Made} → Phrase v IsTypBind f a b o p → Phrase v IsTypBinds f a b o p
  more_typbinds : {f : Fix} {a b c : List Terminal} {o p q : List Made} → Phrase v IsTypBind f a (tok.And ∷ b) o p → Phrase v IsTypBinds f b c p (made.Inner node.MoreTypBinds ∷ q) → Phrase v IsTypBinds f a c o q
  typbind : {f : Fix} {a b c d : List Terminal} {o p q u : List Made} → Phrase v IsTyVars f a b o p → Phrase v IsTyCon f b (tok.Equals ∷ c) p q → Phrase v IsTy f c d q (made.Inner node.TypBind ∷ u) → Phrase v IsTypBind f a d o u
  last_datbind : {f : Fix} {a b : List Terminal} {o p : List Made} → Phrase v IsDatBind f a b o p → Phrase v IsDatBinds f a b o p
  more_datbinds : {f : Fix} {a b c : List Terminal} {o p q : List Made} → Phrase v IsDatBind f a (tok.And ∷ b) o p → Phrase v IsDatBinds f b c p (made.Inner node.MoreDatBinds ∷ q) → Phrase v IsDatBinds f a c o q
  datbind : {f : Fix} {a b c d : List Terminal} {o p q u : List Made} → Phrase v IsTyVars f a b o p → Phrase v IsTyCon f b (tok.Equals ∷ c) p q → Phrase v IsConBinds f c d q (made.Inner node.DatBind ∷ u) → Phrase v IsDatBind f a d o u
  last_conbind : {f : Fix} {a b : List Terminal} {o p : List Made} → Phrase v IsConBind f a b o p → Phrase v IsConBinds f a b o p
  more_conbinds : {f : Fix} {a b c : List Terminal} {o p q : List Made} → Phrase v IsConBind f a (tok.Bar ∷ b) o p → Phrase v IsConBinds f b c p (made.Inner node.MoreConBinds ∷ q) → Phrase v IsConBinds f a c o q
  conbind : {f : Fix} {a b : List Terminal} {o p : List Made} → Phrase v IsOpVid f a b o (made.Inner node.ConBind ∷ p) → Phrase v IsConBind f a b o p
  conbind_of : {f : Fix} {a b c : List Terminal} {o p q : List Made} → Phrase v IsOpVid f a (tok.Of ∷ b) o p → Phrase v IsTy f b c p (made.Inner node.ConBindOf ∷ q) → Phrase v IsConBind f a c o q
  last_exbind : {f : Fix} {a b : List Terminal} {o p : List Made} → Phrase v IsExBind f a b o p → Phrase v IsExBinds f a b o p
  more_exbinds : {f : Fix} {a b c : List Terminal} {o p q : List Made} → Phrase v IsExBind f a (tok.And ∷ b) o p → Phrase v IsExBinds f b c p (made.Inner node.MoreExBinds ∷ q) → Phrase v IsExBinds f a c o q
  exbind : {f : Fix} {a b : List Terminal} {o p : List Made} → Phrase v IsOpVid f a b o (made.Inner node.ExBind ∷ p) → Phrase v IsExBind f a b o p
  exbind_of : {f : Fix} {a b c : List Terminal} {o p q : List Made} → Phrase v IsOpVid f a (tok.Of ∷ b) o p → Phrase v IsTy f b c p (made.Inner node.ExBindOf ∷ q) → Phrase v IsExBind f a c o q
  exbind_is : {f : Fix} {a b c : List Terminal} {o p q : List Made} → Phrase v IsOpVid f a (tok.Equals ∷ b) o p → Phrase v IsLongVid f b c p (made.Inner node.ExBindIs ∷ q) → Phrase v IsExBind f a c o q
  -- identifiers: behind op any, elsewhere one without infix status
  vid : {f : Fix} {x : Name} {s : Bool} {a : List Terminal} {o : List Made} → Phrase v IsVid f ((tok.Id x s) ∷ a) a (made.Lead (node.Vid x) (length ((tok.Id x s) ∷ a)) ∷ o) o
  vid_equals : {f : Fix} {a : List Terminal} {o : List Made} → Phrase v IsVid f (tok.Equals ∷ a) a (made.Lead node.VidEquals (length (tok.Equals ∷ a)) ∷ o) o
  plain_vid : {f : Fix} {x : Name} {s : Bool} {a : List Terminal} {o : List Made} → looks f (tok.Id x s) ≡ look.Plain x s → Phrase v IsOpVid f ((tok.Id x s) ∷ a) a (made.Lead (node.Vid x) (length ((tok.Id x s) ∷ a)) ∷ o) o
  op_vid : {f : Fix} {a b : List Terminal} {o p : List Made} → Phrase v IsVid f a b o (made.Lead node.Op (length (tok.Op ∷ a)) ∷ p) → Phrase v IsOpVid f (tok.Op ∷ a) b o p
  short_vid : {f : Fix} {a b : List Terminal} {o p : List Made} → Phrase v IsOpVid f a b o p → Phrase v IsLongVid f a b o p
  long_vid : {f : Fix} {x : Name} {y : Bool} {a : List Terminal} {o : List Made} → Phrase v IsLongVid f ((tok.Long x y) ∷ a) a (made.Lead (node.LongVid x) (length ((tok.Long x y) ∷ a)) ∷ o) o
  op_long_vid : {f : Fix} {x : Name} {y : Bool} {a : List Terminal} {o : List Made} → Phrase v IsLongVid f (tok.Op ∷ (tok.Long x y) ∷ a) a (made.Lead (node.LongVid x) (length ((tok.Long x y) ∷ a)) ∷ made.Lead node.Op (length (tok.Op ∷ (tok.Long x y) ∷ a)) ∷ o) o
  tycon : {f : Fix} {x : Name} {a : List Terminal} {o : List Made} → Phrase v IsTyCon f ((tok.Id x false) ∷ a) a (made.Lead (node.TyCon x) (length ((tok.Id x false) ∷ a)) ∷ o) o
  short_tycon : {f : Fix} {a b : List Terminal} {o p : List Made} → Phrase v IsTyCon f a b o p → Phrase v IsLongTyCon f a b o p
  long_tycon : {f : Fix} {x : Name} {a : List Terminal} {o : List Made} → Phrase v IsLongTyCon f ((tok.Long x true) ∷ a) a (made.Lead (node.LongTyCon x) (length ((tok.Long x true) ∷ a)) ∷ o) o
  label : {f : Fix} {x : Name} {s : Bool} {a : List Terminal} {o : List Made} → Phrase v IsLabel f ((tok.Id x s) ∷ a) a (made.Lead (node.Label x) (length ((tok.Id x s) ∷ a)) ∷ o) o
  label_number : {f : Fix} {z : ℤ} {h : Shape} {a : List Terminal} {o : List Made} → is_label h ≡ true → Phrase v IsLabel f ((tok.Int z h) ∷ a) a (made.Lead (node.LabelNumber z) (length ((tok.Int z h) ∷ a)) ∷ o) o
  int : {f : Fix} {z : ℤ} {h : Shape} {a : List Terminal} {o : List Made} → Phrase v IsScon f ((tok.Int z h) ∷ a) a (made.Lead (node.Int z) (length ((tok.Int z h) ∷ a)) ∷ o) o
  char : {f : Fix} {y : ℕ} {a : List Terminal} {o : List Made} → Phrase v IsScon f ((tok.Char y) ∷ a) a (made.Lead (node.Char y) (length ((tok.Char y) ∷ a)) ∷ o) o
  text : {f : Fix} {y : ℕ} {a : List Terminal} {o : List Made} → Phrase v IsScon f ((tok.Text y) ∷ a) a (made.Lead (node.Text y) (length ((tok.Text y) ∷ a)) ∷ o) o
  -- expressions, in falling precedence
  disj_exp : {f : Fix} {a b : List Terminal} {o p : List Made} → Phrase v IsDisj f a b o p → Phrase v (IsExp false) f a b o p
  handle : {f : Fix} {a b c : List Terminal} {o p q : List Made} → Phrase v IsDisj f a (tok.Handle ∷ b) o p → Phrase v IsMatch f b c p (made.Inner node.Handle ∷ q) → Phrase v (IsExp true) f a c o q
  conj_end_exp : {f : Fix} {m : Bool} {a b : List Terminal} {o p : List Made} → Phrase v (IsConjEnd m) f a b o p → Phrase v (IsExp m) f a b o p
  orelse_end : {f : Fix} {m : Bool} {a b c : List Terminal} {o p q : List Made} → Phrase v IsDisj f a (tok.Orelse ∷ b) o p → Phrase v (IsConjEnd m) f b c p (made.Inner node.Orelse ∷ q) → Phrase v (IsExp m) f a c o q
  prefix_end : {f : Fix} {m : Bool} {a b : List Terminal} {o p : List Made} → Phrase v (IsPrefix m) f a b o p → Phrase v (IsConjEnd m) f a b o p
  andalso_end : {f : Fix} {m : Bool} {a b c : List Terminal} {o p q : List Made} → Phrase v IsConj f a (tok.Andalso ∷ b) o p → Phrase v (IsPrefix m) f b c p (made.Inner node.Andalso ∷ q) → Phrase v (IsConjEnd m) f a c o q
  raise : {f : Fix} {m : Bool} {a b : List Terminal} {o p : List Made} → Phrase v (IsExp m) f a b o (made.Lead node.Raise (length (tok.Raise ∷ a)) ∷ p) → Phrase v (IsPrefix m) f (tok.Raise ∷ a) b o p
  if_exp : {f : Fix} {i j m : Bool} {a b c d : List Terminal} {o p q u : List Made} → Phrase v (IsExp i) f a (tok.Then ∷ b) o p → Phrase v (IsExp j) f b (tok.Else ∷ c) p q → Phrase v (IsExp m) f c d q (made.Lead node.If (length (tok.If ∷ a)) ∷ u) → Phrase v (IsPrefix m) f (tok.If ∷ a) d o u
  while_exp : {f : Fix} {i m : Bool} {a b c : List Terminal} {o p q : List Made} → Phrase v (IsExp i) f a (tok.Do ∷ b) o p → Phrase v (IsExp m) f b c p (made.Lead node.While (length (tok.While ∷ a)) ∷ q) → Phrase v (IsPrefix m) f (tok.While ∷ a) c o q
  case_exp : {f : Fix} {i : Bool} {a b c : List Terminal} {o p q : List Made} → Phrase v (IsExp i) f a (tok.Of ∷ b) o p → Phrase v IsMatch f b c p (made.Lead node.Case (length (tok.Case ∷ a)) ∷ q) → Phrase v (IsPrefix true) f (tok.Case ∷ a) c o q
  fn_exp : {f : Fix} {a b : List Terminal} {o p : List Made} → Phrase v IsMatch f a b o (made.Lead node.Fn (length (tok.Fn ∷ a)) ∷ p) → Phrase v (IsPrefix true) f (tok.Fn ∷ a) b o p
  conj_disj : {f : Fix} {a b : List Terminal} {o p : List Made} → Phrase v IsConj f a b o p → Phrase v IsDisj f a b o p
  orelse : {f : Fix} {a b c : List Terminal} {o p q : List Made} → Phrase v IsDisj f a (tok.Orelse ∷ b) o p → Phrase v IsConj f b c p (made.Inner node.Orelse ∷ q) → Phrase v IsDisj f a c o q
  typed_conj : {f : Fix} {a b : List Terminal} {o p : List Made} → Phrase v IsTyped f a b o p → Phrase v IsConj f a b o p
  andalso : {f : Fix} {a b c : List Terminal} {o p q : List Made} → Phrase v IsConj f a (tok.Andalso ∷ b) o p → Phrase v IsTyped f b c p (made.Inner node.Andalso ∷ q) → Phrase v IsConj f a c o q
  infix_typed : {f : Fix} {w : Root} {a b : List Terminal} {o p : List Made} → Phrase v (IsInfix root.Bare w) f a b o p → Phrase v IsTyped f a b o p
  typed : {f : Fix} {a b c : List Terminal} {o p q : List Made} → Phrase v IsTyped f a (tok.Colon ∷ b) o p → Phrase v IsTy f b c p (made.Inner node.Typed ∷ q) → Phrase v IsTyped f a c o q
  app_infix : {f : Fix} {e : Root} {a b : List Terminal} {o p : List Made} → Phrase v IsApp f a b o p → Phrase v (IsInfix e root.Bare) f a b o p
  operate : {f : Fix} {t : Terminal} {x : TreeNode} {l : ℕ} {r : Bool} {e m w : Root} {a b c : List Terminal} {o p q : List Made} → operates (looks f t) ≡ Some (record { vid = x; level = l; right = r }) → fits e (root.Operator l r) ≡ true → lefts v m l r ≡ true → Phrase v (IsInfix e m) f a (t ∷ b) o (made.Lead x (length (t ∷ b)) ∷ p) → Phrase v (IsInfix (root.Operator l r) w) f b c p (made.Inner node.InfixExp ∷ q) → Phrase v (IsInfix e (root.Operator l r)) f a c o q
  atexp_app : {f : Fix} {a b : List Terminal} {o p : List Made} → Phrase v IsAtexp f a b o p → Phrase v IsApp f a b o p
  apply : {f : Fix} {a b c : List Terminal} {o p q : List Made} → Phrase v IsApp f a b o p → Phrase v IsAtexp f b c p (made.Inner node.Apply ∷ q) → Phrase v IsApp f a c o q
  vid_exp : {f : Fix} {a b : List Terminal} {o p : List Made} → Phrase v IsLongVid f a b o p → Phrase v IsAtexp f a b o p
  scon_exp : {f : Fix} {a b : List Terminal} {o p : List Made} → Phrase v IsScon f a b o p → Phrase v IsAtexp f a b o p
  empty_record : {f : Fix} {a : List Terminal} {o : List Made} → Phrase v IsAtexp f (tok.OpenBrace ∷ tok.CloseBrace ∷ a) a (made.Lead node.EmptyRecord (length (tok.OpenBrace ∷ tok.CloseBrace ∷ a)) ∷ o) o
  record_exp : {f : Fix} {a b : List Terminal} {o p : List Made} → Phrase v IsRows f a (tok.CloseBrace ∷ b) o (made.Lead node.Record (length (tok.OpenBrace ∷ a)) ∷ p) → Phrase v IsAtexp f (tok.OpenBrace ∷ a) b o p
  unit : {f : Fix} {a : List Terminal} {o : List Made} → Phrase v IsAtexp f (tok.Open ∷ tok.Close ∷ a) a (made.Lead node.Unit (length (tok.Open ∷ tok.Close ∷ a)) ∷ o) o
  tuple : {f : Fix} {m : Bool} {a b c : List Terminal} {o p q : List Made} → Phrase v (IsExp m) f a (tok.Comma ∷ b) o p → Phrase v IsItems f b (tok.Close ∷ c) p (made.Lead node.Tuple (length (tok.Open ∷ a)) ∷ q) → Phrase v IsAtexp f (tok.Open ∷ a) c o q
  sequence : {f : Fix} {m : Bool} {a b c : List Terminal} {o p q : List Made} → Phrase v (IsExp m) f a (tok.Semicolon ∷ b) o p → Phrase v IsSeq f b (tok.Close ∷ c) p (made.Lead node.Sequence (length (tok.Open ∷ a)) ∷ q) → Phrase v IsAtexp f (tok.Open ∷ a) c o q
  empty_list : {f : Fix} {a : List Terminal} {o : List Made} → Phrase v IsAtexp f (tok.OpenBracket ∷ tok.CloseBracket ∷ a) a (made.Lead node.EmptyList (length (tok.OpenBracket ∷ tok.CloseBracket ∷ a)) ∷ o) o
  list : {f : Fix} {a b : List Terminal} {o p : List Made} → Phrase v IsItems f a (tok.CloseBracket ∷ b) o (made.Lead node.List (length (tok.OpenBracket ∷ a)) ∷ p) → Phrase v IsAtexp f (tok.OpenBracket ∷ a) b o p
  let_exp : {f g : Fix} {a b c : List Terminal} {o p q : List Made} → Phrase v (IsDecs g) f a (tok.In ∷ b) o p → Phrase v IsSeq g b (tok.End ∷ c) p (made.Lead node.Let (length (tok.Let ∷ a)) ∷ q) → Phrase v IsAtexp f (tok.Let ∷ a) c o q
  paren : {f : Fix} {m : Bool} {a b : List Terminal} {o p : List Made} → Phrase v (IsExp m) f a (tok.Close ∷ b) o (made.Lead node.Paren (length (tok.Open ∷ a)) ∷ p) → Phrase v IsAtexp f (tok.Open ∷ a) b o p
  last_item : {f : Fix} {m : Bool} {a b : List Terminal} {o p : List Made} → Phrase v (IsExp m) f a b o p → Phrase v IsItems f a b o p
  more_items : {f : Fix} {m : Bool} {a b c : List Terminal} {o p q : List Made} → Phrase v (IsExp m) f a (tok.Comma ∷ b) o p → Phrase v IsItems f b c p (made.Inner node.MoreItems ∷ q) → Phrase v IsItems f a c o q
  last_seq : {f : Fix} {m : Bool} {a b : List Terminal} {o p : List Made} → Phrase v (IsExp m) f a b o p → Phrase v IsSeq f a b o p
  more_seq : {f : Fix} {m : Bool} {a b c : List Terminal} {o p q : List Made} → Phrase v (IsExp m) f a (tok.Semicolon ∷ b) o p → Phrase v IsSeq f b c p (made.Inner node.MoreSeq ∷ q) → Phrase v IsSeq f a c o q
  last_row : {f : Fix} {m : Bool} {a b c : List Terminal} {o p q : List Made} → Phrase v IsLabel f a (tok.Equals ∷ b) o p → Phrase v (IsExp m) f b c p (made.Inner node.Row ∷ q) → Phrase v IsRows f a c o q
  more_rows : {f : Fix} {m : Bool} {a b c d : List Terminal} {o p q u : List Made} → Phrase v IsLabel f a (tok.Equals ∷ b) o p → Phrase v (IsExp m) f b (tok.Comma ∷ c) p (made.Inner node.Row ∷ q) → Phrase v IsRows f c d q (made.Inner node.MoreRows ∷ u) → Phrase v IsRows f a d o u
  last_rule : {f : Fix} {m : Bool} {a b : List Terminal} {o p : List Made} → Phrase v (IsRule m) f a b o p → Phrase v IsMatch f a b o p
  more_rules : {f : Fix} {a b c : List Terminal} {o p q : List Made} → Phrase v (IsRule false) f a (tok.Bar ∷ b) o p → Phrase v IsMatch f b c p (made.Inner node.MoreRules ∷ q) → Phrase v IsMatch f a c o q
  rule : {f : Fix} {m : Bool} {a b c : List Terminal} {o p q : List Made} → Phrase v IsPat f a (tok.Arrow ∷ b) o p → Phrase v (IsExp m) f b c p (made.Inner node.Rule ∷ q) → Phrase v (IsRule m) f a c o q
  -- patterns
  typed_pat_pat : {f : Fix} {a b : List Terminal} {o p : List Made} → Phrase v IsTypedPat f a b o p → Phrase v IsPat f a b o p
  layered : {f : Fix} {a b c : List Terminal} {o p q : List Made} → Phrase v IsOpVid f a (tok.As ∷ b) o p → Phrase v IsPat f b c p (made.Inner node.Layered ∷ q) → Phrase v IsPat f a c o q
  typed_layered : {f : Fix} {a b c d : List Terminal} {o p q u : List Made} → Phrase v IsOpVid f a (tok.Colon ∷ b) o p → Phrase v IsTy f b (tok.As ∷ c) p q → Phrase v IsPat f c d q (made.Inner node.TypedLayered ∷ u) → Phrase v IsPat f a d o u
  infix_pat_typed : {f : Fix} {w : Root} {a b : List Terminal} {o p : List Made} → Phrase v (IsInfixPat root.Bare w) f a b o p → Phrase v IsTypedPat f a b o p
  typed_pat : {f : Fix} {a b c : List Terminal} {o p q : List Made} → Phrase v IsTypedPat f a (tok.Colon ∷ b) o p → Phrase v IsTy f b c p (made.Inner node.TypedPat ∷ q) → Phrase v IsTypedPat f a c o q
  operand_pat : {f : Fix} {e : Root} {a b : List Terminal} {o p : List Made} → Phrase v IsOperand f a b o p → Phrase v (IsInfixPat e root.Bare) f a b o p
  infix_pat : {f : Fix} {t : Terminal} {x : Name} {s r : Bool} {l : ℕ} {e m w : Root} {a b c : List Terminal} {o p q : List Made} → looks f t ≡ look.Operator x s l r → fits e (root.Operator l r) ≡ true → lefts v m l r ≡ true → Phrase v (IsInfixPat e m) f a (t ∷ b) o (made.Lead (node.Vid x) (length (t ∷ b)) ∷ p) → Phrase v (IsInfixPat (root.Operator l r) w) f b c p (made.Inner node.InfixPat ∷ q) → Phrase v (IsInfixPat e (root.Operator l r)) f a c o q
  atpat_operand : {f : Fix} {a b : List Terminal} {o p : List Made} → Phrase v IsAtpat f a b o p → Phrase v IsOperand f a b o p
  con_pat : {f : Fix} {a b c : List Terminal} {o p q : List Made} → Phrase v IsLongVid f a b o p → Phrase v IsAtpat f b c p (made.Inner node.ConPat ∷ q) → Phrase v IsOperand f a c o q
  wild : {f : Fix} {a : List Terminal} {o : List Made} → Phrase v IsAtpat f (tok.Underscore ∷ a) a (made.Lead node.Wild (length (tok.Underscore ∷ a)) ∷ o) o
  vid_pat : {f : Fix} {a b : List Terminal} {o p : List Made} → Phrase v IsLongVid f a b o p → Phrase v IsAtpat f a b o p
  scon_pat : {f : Fix} {a b : List Terminal} {o p : List Made} → Phrase v IsScon f a b o p → Phrase v IsAtpat f a b o p
  empty_record_pat : {f : Fix} {a : List Terminal} {o : List Made} → Phrase v IsAtpat f (tok.OpenBrace ∷ tok.CloseBrace ∷ a) a (made.Lead node.PatEmptyRecord (length (tok.OpenBrace ∷ tok.CloseBrace ∷ a)) ∷ o) o
  record_pat : {f : Fix} {a b : List Terminal} {o p : List Made} → Phrase v IsPatRows f a (tok.CloseBrace ∷ b) o (made.Lead node.PatRecord (length (tok.OpenBrace ∷ a)) ∷ p) → Phrase v IsAtpat f (tok.OpenBrace ∷ a) b o p
  unit_pat : {f : Fix} {a : List Terminal} {o : List Made} → Phrase v IsAtpat f (tok.Open ∷ tok.Close ∷ a) a (made.Lead node.PatUnit (length (tok.Open ∷ tok.Close ∷ a)) ∷ o) o
  tuple_pat : {f : Fix} {a b c : List Terminal} {o p q : List Made} → Phrase v IsPat f a (tok.Comma ∷ b) o p → Phrase v IsPats f b (tok.Close ∷ c) p (made.Lead node.PatTuple (length (tok.Open ∷ a)) ∷ q) → Phrase v IsAtpat f (tok.Open ∷ a) c o q
  empty_list_pat : {f : Fix} {a : List Terminal} {o : List Made} → Phrase v IsAtpat f (tok.OpenBracket ∷ tok.CloseBracket ∷ a) a (made.Lead node.PatEmptyList (length (tok.OpenBracket ∷ tok.CloseBracket ∷ a)) ∷ o) o
  list_pat : {f : Fix} {a b : List Terminal} {o p : List Made} → Phrase v IsPats f a (tok.CloseBracket ∷ b) o (made.Lead node.PatList (length (tok.OpenBracket ∷ a)) ∷ p) → Phrase v IsAtpat f (tok.OpenBracket ∷ a) b o p
  paren_pat : {f : Fix} {a b : List Terminal} {o p : List Made} → Phrase v IsPat f a (tok.Close ∷ b) o (made.Lead node.PatParen (length (tok.Open ∷ a)) ∷ p) → Phrase v IsAtpat f (tok.Open ∷ a) b o p
  last_pat : {f : Fix} {a b : List Terminal} {o p : List Made} → Phrase v IsPat f a b o p → Phrase v IsPats f a b o p
  more_pats : {f : Fix} {a b c : List Terminal} {o p q : List Made} → Phrase v IsPat f a (tok.Comma ∷ b) o p → Phrase v IsPats f b c p (made.Inner node.MorePats ∷ q) → Phrase v IsPats f a c o q
  last_pat_row : {f : Fix} {a b : List Terminal} {o p : List Made} → Phrase v IsPatRow f a b o p → Phrase v IsPatRows f a b o p
  more_pat_rows : {f : Fix} {a b c : List Terminal} {o p q : List Made} → Phrase v IsPatRow f a (tok.Comma ∷ b) o p → Phrase v IsPatRows f b c p (made.Inner node.MorePatRows ∷ q) → Phrase v IsPatRows f a c o q
  pat_row : {f : Fix} {a b c : List Terminal} {o p q : List Made} → Phrase v IsLabel f a (tok.Equals ∷ b) o p → Phrase v IsPat f b c p (made.Inner node.PatRow ∷ q) → Phrase v IsPatRow f a c o q
  pun_row : {f : Fix} {a b : List Terminal} {o p : List Made} → Phrase v IsPun f a b o (made.Inner node.PunRow ∷ p) → Phrase v IsPatRow f a b o p
  typed_pun_row : {f : Fix} {a b c : List Terminal} {o p q : List Made} → Phrase v IsPun f a (tok.Colon ∷ b) o p → Phrase v IsTy f b c p (made.Inner node.TypedPunRow ∷ q) → Phrase v IsPatRow f a c o q
  pun_row_as : {f : Fix} {a b c : List Terminal} {o p q : List Made} → Phrase v IsPun f a (tok.As ∷ b) o p → Phrase v IsPat f b c p (made.Inner node.PunRowAs ∷ q) → Phrase v IsPatRow f a c o q
  typed_pun_row_as : {f : Fix} {a b c d : List Terminal} {o p q u : List Made} → Phrase v IsPun f a (tok.Colon ∷ b) o p → Phrase v IsTy f b (tok.As ∷ c) p q → Phrase v IsPat f c d q (made.Inner node.TypedPunRowAs ∷ u) → Phrase v IsPatRow f a d o u
  pun : {f : Fix} {x : Name} {s : Bool} {a : List Terminal} {o : List Made} → looks f (tok.Id x s) ≡ look.Plain x s → Phrase v IsPun f ((tok.Id x s) ∷ a) a (made.Lead (node.Label x) (length ((tok.Id x s) ∷ a)) ∷ o) o
  -- types
  product_ty : {f : Fix} {a b : List Terminal} {o p : List Made} → Phrase v IsProduct f a b o p → Phrase v IsTy f a b o p
  arrow_ty : {f : Fix} {a b c : List Terminal} {o p q : List Made} → Phrase v IsProduct f a (tok.To ∷ b) o p → Phrase v IsTy f b c p (made.Inner node.ArrowTy ∷ q) → Phrase v IsTy f a c o q
  single_product : {f : Fix} {a b : List Terminal} {o p : List Made} → Phrase v IsTyAtom f a b o p → Phrase v IsProduct f a b o p
  product : {f : Fix} {x : Name} {a b c : List Terminal} {o p q : List Made} → Phrase v IsTyAtom f a ((tok.Id x true) ∷ b) o p → Phrase v IsFactors f b c p (made.Inner node.ProductTy ∷ q) → Phrase v IsProduct f a c o q
  last_factor : {f : Fix} {a b : List Terminal} {o p : List Made} → Phrase v IsTyAtom f a b o p → Phrase v IsFactors f a b o p
  more_factors : {f : Fix} {x : Name} {a b c : List Terminal} {o p q : List Made} → Phrase v IsTyAtom f a ((tok.Id x true) ∷ b) o p → Phrase v IsFactors f b c p (made.Inner node.MoreFactors ∷ q) → Phrase v IsFactors f a c o q
  var_ty : {f : Fix} {x : Name} {a : List Terminal} {o : List Made} → Phrase v IsTyAtom f ((tok.TyVar x) ∷ a) a (made.Lead (node.TyVar x) (length ((tok.TyVar x) ∷ a)) ∷ o) o
  empty_record_ty : {f : Fix} {a : List Terminal} {o : List Made} → Phrase v IsTyAtom f (tok.OpenBrace ∷ tok.CloseBrace ∷ a) a (made.Lead node.EmptyRecordTy (length (tok.OpenBrace ∷ tok.CloseBrace ∷ a)) ∷ o) o
  record_ty : {f : Fix} {a b : List Terminal} {o p : List Made} → Phrase v IsTyRows f a (tok.CloseBrace ∷ b) o (made.Lead node.RecordTy (length (tok.OpenBrace ∷ a)) ∷ p) → Phrase v IsTyAtom f (tok.OpenBrace ∷ a) b o p
  con_ty : {f : Fix} {a b : List Terminal} {o p : List Made} → Phrase v IsLongTyCon f a b o p → Phrase v IsTyAtom f a b o p
  applied_ty : {f : Fix} {a b c : List Terminal} {o p q : List Made} → Phrase v IsTyAtom f a b o p → Phrase v IsLongTyCon f b c p (made.Inner node.ConTy ∷ q) → Phrase v IsTyAtom f a c o q
  seq_applied_ty : {f : Fix} {a b c d : List Terminal} {o p q u : List Made} → Phrase v IsTy f a (tok.Comma ∷ b) o p → Phrase v IsTys f b (tok.Close ∷ c) p q → Phrase v IsLongTyCon f c d q (made.Lead node.SeqConTy (length (tok.Open ∷ a)) ∷ u) → Phrase v IsTyAtom f (tok.Open ∷ a) d o u
  paren_ty : {f : Fix} {a b : List Terminal} {o p : List Made} → Phrase v IsTy f a (tok.Close ∷ b) o (made.Lead node.ParenTy (length (tok.Open ∷ a)) ∷ p) → Phrase v IsTyAtom f (tok.Open ∷ a) b o p
  last_ty : {f : Fix} {a b : List Terminal} {o p : List Made} → Phrase v IsTy f a b o p → Phrase v IsTys f a b o p
  more_tys : {f : Fix} {a b c : List Terminal} {o p q : List Made} → Phrase v IsTy f a (tok.Comma ∷ b) o p → Phrase v IsTys f b c p (made.Inner node.MoreTys ∷ q) → Phrase v IsTys f a c o q
  last_ty_row : {f : Fix} {a b : List Terminal} {o p : List Made} → Phrase v IsTyRow f a b o p → Phrase v IsTyRows f a b o p
  more_ty_rows : {f : Fix} {a b c : List Terminal} {o p q : List Made} → Phrase v IsTyRow f a (tok.Comma ∷ b) o p → Phrase v IsTyRows f b c p (made.Inner node.MoreTyRows ∷ q) → Phrase v IsTyRows f a c o q
  ty_row : {f : Fix} {a b c : List Terminal} {o p q : List Made} → Phrase v IsLabel f a (tok.Colon ∷ b) o p → Phrase v IsTy f b c p (made.Inner node.TyRow ∷ q) → Phrase v IsTyRow f a c o q

-- the terminals are a program with these nodes under a starting fixity; the last terminal is the end
abbrev pub Parses : Bool → Fix → List Terminal → List Made → Type 0
Parses v f a o = (g : Fix) × Phrase v (IsProgram g) f a (tok.Finish ∷ []) o []

-- some terminals behind these make a program
abbrev pub Begins : Bool → Fix → List Terminal → Type 0
Begins v f a = (b : List Terminal) × (o : List Made) × Parses v f (a ++ b) o
