-- What holds of every move of the machine: one walk over all symbols at all terminals.
use Rattle.std.proofs.Common.{◌≡◌, ℕ, nat_lt, Bool, true, false, ◌&&◌, ◌||◌, not, cond, List, [], ◌∷◌, refl, ap}
use Rattle.sml_tree.specs.declared.tree_node.TreeNode.TheVariants as node
use Rattle.sml_syntax.specs.declared.forms.Terminal.TheVariants as tok
use Rattle.sml_syntax.specs.declared.forms.Shape.TheVariants as shape
use Rattle.sml_syntax.specs.declared.forms.Made.TheVariants as made
use Rattle.sml_syntax.specs.declared.forms.Root.TheVariants as root
use Rattle.sml_syntax.specs.declared.forms.Look.{Look}
use Rattle.sml_syntax.specs.declared.forms.Look.TheVariants as look
use Rattle.sml_syntax.specs.declared.symbol.Symbol.{Symbol}
use Rattle.sml_syntax.specs.declared.symbol.Symbol.TheVariants as sy
use Rattle.sml_syntax.specs.declared.symbol.Push.{Push}
use Rattle.sml_syntax.specs.declared.symbol.Push.TheVariants.{P0, P1, P2, P3, P4, P5, P6, P7}
use Rattle.sml_syntax.specs.declared.symbol.Move.{Move}
use Rattle.sml_syntax.specs.declared.symbol.Move.TheVariants.{Refuse, Mixed, Skip, Eat}
use Rattle.sml_syntax.specs.Fixity.{fits, is_label}
use Rattle.sml_syntax.specs.Moves.{ends_at}
use Rattle.sml_syntax.specs.Machine.{move_of}
use Rattle.syntax_laws.specs.Traits.{holding, is_inside, is_needy, needs, passing, Reach, stands, traits}
use Rattle.syntax_laws.specs.Steps.{lead}

-- a symbol without the numbers that nodes carry
abbrev pub bare : Symbol → Symbol
bare (sy.Emit m) = sy.Emit (made.Inner node.NoDecs)
bare (sy.Digit b p) = sy.Digit b 0
bare (sy.ValParen p) = sy.ValParen 0
bare (sy.FunParen p) = sy.FunParen 0
bare (sy.HeadParen p) = sy.HeadParen 0
bare (sy.HeadFirstOp p q) = sy.HeadFirstOp 0 0
bare (sy.HeadFirstName b p) = sy.HeadFirstName b 0
bare (sy.HeadFirst p) = sy.HeadFirst 0
bare (sy.HeadSecond c p) = sy.HeadSecond c 0
bare (sy.HeadSecondName c p) = sy.HeadSecondName c 0
bare (sy.HeadSecondEnd c p) = sy.HeadSecondEnd c 0
bare (sy.HeadEnd p) = sy.HeadEnd 0
bare (sy.HeadClosed p) = sy.HeadClosed 0
bare (sy.ParenExp p) = sy.ParenExp 0
bare (sy.ParenRest p) = sy.ParenRest 0
bare (sy.ListExp p) = sy.ListExp 0
bare (sy.RecordExp p) = sy.RecordExp 0
bare (sy.PatOp p) = sy.PatOp 0
bare (sy.PatParen p) = sy.PatParen 0
bare (sy.PatParenRest p) = sy.PatParenRest 0
bare (sy.PatList p) = sy.PatList 0
bare (sy.PatRecord p) = sy.PatRecord 0
bare (sy.TyParen p) = sy.TyParen 0
bare (sy.TySeqCon p) = sy.TySeqCon 0
bare (sy.RecordTy p) = sy.RecordTy 0
bare s = s

abbrev pub bare_push : Push → Push
bare_push P0 = P0
bare_push (P1 a) = P1 (bare a)
bare_push (P2 a b) = P2 (bare a) (bare b)
bare_push (P3 a b c) = P3 (bare a) (bare b) (bare c)
bare_push (P4 a b c d) = P4 (bare a) (bare b) (bare c) (bare d)
bare_push (P5 a b c d e) = P5 (bare a) (bare b) (bare c) (bare d) (bare e)
bare_push (P6 a b c d e g) = P6 (bare a) (bare b) (bare c) (bare d) (bare e) (bare g)
bare_push (P7 a b c d e g h) = P7 (bare a) (bare b) (bare c) (bare d) (bare e) (bare g) (bare h)

abbrev pub bare_move : Move → Move
bare_move Refuse = Refuse
bare_move Mixed = Mixed
bare_move (Skip p) = Skip (bare_push p)
bare_move (Eat p) = Eat (bare_push p)

abbrev pub listed : Push → List Symbol
listed P0 = []
listed (P1 a) = a ∷ []
listed (P2 a b) = a ∷ b ∷ []
listed (P3 a b c) = a ∷ b ∷ c ∷ []
listed (P4 a b c d) = a ∷ b ∷ c ∷ d ∷ []
listed (P5 a b c d e) = a ∷ b ∷ c ∷ d ∷ e ∷ []
listed (P6 a b c d e g) = a ∷ b ∷ c ∷ d ∷ e ∷ g ∷ []
listed (P7 a b c d e g h) = a ∷ b ∷ c ∷ d ∷ e ∷ g ∷ h ∷ []

-- wherever the symbol stands, the others can stand in its place
abbrev pub replaces : Symbol → List Symbol → Bool
replaces s j = stands j (traits s).wants (is_inside s)

abbrev pub passes : Reach → Bool
passes (passing n) = true
passes (holding n) = false

abbrev pub extent : Reach → ℕ
extent (passing n) = n
extent (holding n) = n

-- all of them can go without a terminal
abbrev pub through : List Symbol → Bool
through [] = true
through (s ∷ k) = passes (traits s).reach && through k

abbrev pub lighter : Symbol → List Symbol → Bool
lighter s j = nat_lt (lead j) (extent (traits s).reach) && (not (through j) || passes (traits s).reach)

-- what needs an identifier with infix status comes from what needs one, or where there is one
abbrev pub excused : Symbol → Bool → List Symbol → Bool
excused s i j = not (needs j) || (is_needy s || i)

-- the symbol may change the directives in force
abbrev pub directs : Symbol → Bool
directs (sy.Vids u) = true
directs (sy.LocalEnd j m) = true
directs (sy.LetEnd j) = true
directs s = false

abbrev pub apart : Symbol → List Symbol → Bool
apart s j = not (directs s) || (not (is_inside s) && not (needs j))

abbrev pub mixes : Symbol → Bool
mixes (sy.Ops c) = true
mixes (sy.PatOps c) = true
mixes s = false

abbrev pub lawful : Symbol → Bool → Move → Bool
lawful s i Refuse = true
lawful s i Mixed = mixes s
lawful s i (Skip p) = replaces s (listed p) && (lighter s (listed p) && excused s i (listed p))
lawful s i (Eat p) = replaces s (listed p) && (excused s i (listed p) && apart s (listed p))

-- whether a move is lawful, and what it says without the numbers
abbrev Seen : Symbol → Bool → Move → Bool × Move
Seen s i w = (lawful s i w, bare_move w)

abbrev Passed : Move → Bool × Move
Passed w = (true, bare_move w)

-- the first move is lawful, and says the same as the second but for the numbers
abbrev Row : Symbol → Bool → Move → Move → Type 0
Row s i w x = Seen s i w ≡ Passed x

-- with its argument written out the walk is checked five times as fast
same : (w : Move) → Passed w ≡ Passed w
same w = refl

cond_row : (s : Symbol) (i b : Bool) (w x y z : Move) → Row s i w y → Row s i x z → Row s i (cond b w x) (cond b y z)
cond_row s i true w x y z g h = g
cond_row s i false w x y z g h = h

module _ (v : Bool) (k n : ℕ) where
  row : (l : Look) (s : Symbol) (i : Bool) → Row s i (move_of v s i k n l) (move_of v (bare s) i k 0 l)
  row (look.Plain x true) sy.Program i = refl
  row (look.Plain x false) sy.Program i = refl
  row (look.Operator x true q r) sy.Program i = refl
  row (look.Operator x false q r) sy.Program i = refl
  row (look.Other (tok.Id x b)) sy.Program i = refl
  row (look.Other (tok.Long x true)) sy.Program i = refl
  row (look.Other (tok.Long x false)) sy.Program i = refl
  row (look.Other (tok.Int z (shape.Digit d))) sy.Program i = refl
  row (look.Other (tok.Int z shape.Numeral)) sy.Program i = refl
  row (look.Other (tok.Int z shape.Other)) sy.Program i = refl
  row (look.Other (tok.TyVar x)) sy.Program i = refl
  row (look.Other (tok.Char x)) sy.Program i = refl
  row (look.Other (tok.Text x)) sy.Program i = refl
  row (look.Other tok.Val) sy.Program i = refl
  row (look.Other tok.Fun) sy.Program i = refl
  row (look.Other tok.Type) sy.Program i = refl
  row (look.Other tok.Datatype) sy.Program i = refl
  row (look.Other tok.Exception) sy.Program i = refl
  row (look.Other tok.Local) sy.Program i = refl
  row (look.Other tok.In) sy.Program i = refl
  row (look.Other tok.End) sy.Program i = refl
  row (look.Other tok.Infix) sy.Program i = refl
  row (look.Other tok.Infixr) sy.Program i = refl
  row (look.Other tok.Nonfix) sy.Program i = refl
  row (look.Other tok.And) sy.Program i = refl
  row (look.Other tok.Rec) sy.Program i = refl
  row (look.Other tok.Of) sy.Program i = refl
  row (look.Other tok.Op) sy.Program i = refl
  row (look.Other tok.Let) sy.Program i = refl
  row (look.Other tok.Case) sy.Program i = refl
  row (look.Other tok.Fn) sy.Program i = refl
  row (look.Other tok.Raise) sy.Program i = refl
  row (look.Other tok.If) sy.Program i = refl
  row (look.Other tok.Then) sy.Program i = refl
  row (look.Other tok.Else) sy.Program i = refl
  row (look.Other tok.While) sy.Program i = refl
  row (look.Other tok.Do) sy.Program i = refl
  row (look.Other tok.Andalso) sy.Program i = refl
  row (look.Other tok.Orelse) sy.Program i = refl
  row (look.Other tok.Handle) sy.Program i = refl
  row (look.Other tok.As) sy.Program i = refl
  row (look.Other tok.Open) sy.Program i = refl
  row (look.Other tok.Close) sy.Program i = refl
  row (look.Other tok.OpenBracket) sy.Program i = refl
  row (look.Other tok.CloseBracket) sy.Program i = refl
  row (look.Other tok.OpenBrace) sy.Program i = refl
  row (look.Other tok.CloseBrace) sy.Program i = refl
  row (look.Other tok.Comma) sy.Program i = refl
  row (look.Other tok.Colon) sy.Program i = refl
  row (look.Other tok.Semicolon) sy.Program i = refl
  row (look.Other tok.Underscore) sy.Program i = refl
  row (look.Other tok.Bar) sy.Program i = refl
  row (look.Other tok.Equals) sy.Program i = refl
  row (look.Other tok.Arrow) sy.Program i = refl
  row (look.Other tok.To) sy.Program i = refl
  row (look.Other tok.Foreign) sy.Program i = refl
  row (look.Other tok.Finish) sy.Program i = refl
  row (look.Other tok.Open) sy.Head true = refl
  row _ (sy.FunParen p) true = refl
  row _ sy.Head true = refl
  row _ (sy.HeadFirstName true p) i = refl
  row _ (sy.HeadSecondName root.Bare p) i = refl
  row _ (sy.HeadSecondEnd root.Bare p) i = refl
  row (look.Other (tok.Int z (shape.Digit d))) sy.Label i = cond_row sy.Label i (is_label (shape.Digit d)) _ _ _ _ refl refl
  row (look.Other (tok.Int z (shape.Digit d))) sy.PatRow i = cond_row sy.PatRow i (is_label (shape.Digit d)) _ _ _ _ refl refl
  row (look.Operator x b q r) (sy.Ops root.Bare) i = refl
  row (look.Operator x b q r) (sy.Ops c) i = cond_row (sy.Ops c) i (fits c (root.Operator q r)) _ _ _ _ refl (cond_row (sy.Ops c) i (ends_at v c q r) _ _ _ _ refl refl)
  row (look.Other tok.Equals) (sy.Ops root.Bare) i = refl
  row (look.Other tok.Equals) (sy.Ops c) i = cond_row (sy.Ops c) i (fits c (root.Operator 4 false)) _ _ _ _ refl (cond_row (sy.Ops c) i (ends_at v c 4 false) _ _ _ _ refl refl)
  row _ (sy.Ops root.Bare) i = refl
  row (look.Operator x b q r) (sy.PatOps root.Bare) i = refl
  row (look.Operator x b q r) (sy.PatOps c) i = cond_row (sy.PatOps c) i (fits c (root.Operator q r)) _ _ _ _ refl (cond_row (sy.PatOps c) i (ends_at v c q r) _ _ _ _ refl refl)
  row _ (sy.PatOps root.Bare) i = refl
  row l s i = same (move_of v (bare s) i k 0 l)

  -- the move of a symbol at a terminal is lawful
  pub law : (l : Look) (s : Symbol) (i : Bool) → lawful s i (move_of v s i k n l) ≡ true
  law l s i = ap (λ r. r.0) (row l s i)

  -- it says the same but for the numbers
  pub numbered : (l : Look) (s : Symbol) (i : Bool) → bare_move (move_of v s i k n l) ≡ bare_move (move_of v (bare s) i k 0 l)
  numbered l s i = ap (λ r. r.1) (row l s i)
