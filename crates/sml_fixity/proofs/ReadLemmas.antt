-- The loop over the tokens.
use Rattle.std.proofs.Common.{arith, ◌≡◌, ℕ, suc, ◌+◌, ◌-◌, ◌<◌, ◌≤◌, ◌++◌, Bool, true, false, take, drop, drop-cons, get_or, map, append-nil, List, [], ◌∷◌, length, refl, sym, ◌∙◌, ap, subst}
use Rattle.std.proofs.Math.Seq.{get_or-append_seam}
use Rattle.std.proofs.Math.ListN.{drop_of_length-le}
use Rattle.std.proofs.lemmas.List.{take_more, take_all, length-append, length-map, length-drop, get_or_append_left, get_or-map}
use Rattle.sml_lexer.specs.declared.token.Token.{Token}
use Rattle.sml_syntax.specs.declared.forms.Made.{Made}
use Rattle.sml_syntax.specs.declared.forms.Terminal.{Terminal}
use Rattle.sml_syntax.specs.declared.forms.Terminal.TheVariants as tok
use Rattle.sml_syntax.specs.declared.symbol.Symbol.{Symbol}
use Rattle.sml_syntax.specs.Fixity.{Fix}
use Rattle.sml_syntax.specs.Grammar.{Begins, Parses}
use Rattle.sml_syntax.specs.Machine.{done, start}
use Rattle.syntax_laws.specs.Steps.{Comes, begins, Opens}
use Rattle.syntax_laws.proofs.Derived.{comes_accepted}
use Rattle.syntax_laws.proofs.ProgramsAccepted.{accepted}
use Rattle.syntax_laws.proofs.ProgramsSound.{sound}
use Rattle.sml_fixity.specs.declared.read.Stop.TheVariants as stop
use Rattle.sml_fixity.specs.declared.turns.Machine.{Machine}
use Rattle.sml_fixity.specs.declared.turns.Turn.{Turn}
use Rattle.sml_fixity.specs.declared.turns.Turn.TheVariants as turn
use Rattle.sml_fixity.specs.Stops.{Stops}
use Rattle.sml_fixity.specs.Terminals.{terminal_of, terminals}
use Rattle.sml_fixity.specs.Turns.{HasCome, Shifts, stack_of, Stands}

-- the terminal behind the first i
pub record Next (a : List Terminal) (i : ℕ) (t : Terminal) : Type 0 where
  pub dropped : drop i a ≡ t ∷ drop (i + 1) a
  pub taken : take (i + 1) a ≡ take i a ++ t ∷ []
  pub inside : i < length a
  pub left : length a - i ≡ length (t ∷ drop (i + 1) a)

next : (a : List Terminal) (i : ℕ) (t : Terminal) → i < length a → get_or a i tok.Finish ≡ t → Next a i t
next a i t h e =
    let one : suc i ≡ i + 1 = omega arith in
    let drops : drop i a ≡ t ∷ drop (i + 1) a = drop-cons a i tok.Finish h ∙ ap (λ t. t ∷ drop (suc i) a) e ∙ ap (λ (n : ℕ). t ∷ drop n a) one in
    record {
      dropped = drops;
      taken = take_more a i tok.Finish h ∙ ap (λ t. take i a ++ t ∷ []) e;
      inside = h;
      left = sym (length-drop i a) ∙ ap length drops;
    }

pub size : (names : List (List ℕ)) (tokens : List Token) → length (terminals names tokens) ≡ length tokens + 1
size names tokens = length-append (map (terminal_of names) tokens) (tok.Finish ∷ []) ∙ ap (λ (n : ℕ). n + 1) (length-map tokens (terminal_of names))

next_token : (names : List (List ℕ)) (tokens : List Token) (i : ℕ) (d : Token) → i < length tokens → Next (terminals names tokens) i (terminal_of names (get_or tokens i d))
next_token names tokens i d h =
    let s = size names tokens in
    let l : length (map (terminal_of names) tokens) ≡ length tokens = length-map tokens (terminal_of names) in
    next (terminals names tokens) i (terminal_of names (get_or tokens i d)) (omega arith)
    (get_or_append_left (map (terminal_of names) tokens) (tok.Finish ∷ []) tok.Finish i (omega arith) ∙ get_or-map (terminal_of names) tokens i d tok.Finish h)

pub next_at : (names : List (List ℕ)) (tokens : List Token) (i : ℕ) (d : Token) (t : Terminal) → i < length tokens → t ≡ terminal_of names (get_or tokens i d) → Next (terminals names tokens) i t
next_at names tokens i d t h e = let P : Terminal → Type 0 = λ t. Next (terminals names tokens) i t in subst P (sym e) (next_token names tokens i d h)

pub left_at : (names : List (List ℕ)) (tokens : List Token) (i : ℕ) → length tokens + 1 - i ≡ length (terminals names tokens) - i
left_at names tokens i = ap (λ (n : ℕ). n - i) (sym (size names tokens))

pub end_left : (names : List (List ℕ)) (tokens : List Token) → 1 ≡ length (terminals names tokens) - length tokens
end_left names tokens = let s = size names tokens in omega arith

pub next_end : (names : List (List ℕ)) (tokens : List Token) → Next (terminals names tokens) (length tokens) tok.Finish
next_end names tokens =
    let s = size names tokens in
    let l : length (map (terminal_of names) tokens) ≡ length tokens = length-map tokens (terminal_of names) in
    let P : ℕ → Type 0 = λ n. get_or (terminals names tokens) n tok.Finish ≡ tok.Finish in
    next (terminals names tokens) (length tokens) tok.Finish (omega arith) (subst P l (get_or-append_seam (map (terminal_of names) tokens) tok.Finish [] tok.Finish))

-- the machine has read the first i terminals
abbrev pub Far : Fix → List Terminal → ℕ → Machine → Type 0
Far f a i m = Stands f (take i a) (drop i a) (stack_of m) m

pub far_start : (f : Fix) (a : List Terminal) (m : Machine) → stack_of m ≡ start → m.scope ≡ f → m.nodes.items ≡ [] → Far f a 0 m
far_start f a m e g n =
    let P : List Symbol → Type 0 = λ k. Comes false f [] k m.scope a m.nodes.items in
    let Q : Fix → Type 0 = λ h. Comes false f [] start h a m.nodes.items in
    let R : List Made → Type 0 = λ o. Comes false f [] start f a o in
    subst P (sym e) (subst Q (sym g) (subst R (sym n) begins))

at_next : (f : Fix) (a : List Terminal) (i : ℕ) (t : Terminal) (m : Machine) → Next a i t → Far f a i m → Stands f (take i a) (t ∷ drop (i + 1) a) (stack_of m) m
at_next f a i t m n h = let P : List Terminal → Type 0 = λ b. Stands f (take i a) b (stack_of m) m in subst P n.dropped h

pub has_come : (f : Fix) (a : List Terminal) (i left : ℕ) (t : Terminal) (m : Machine) → Next a i t → left ≡ length a - i → Far f a i m → HasCome t left m
has_come f a i left t m n e h = (f, take i a, drop (i + 1) a, e ∙ n.left, at_next f a i t m n h)

-- what a turn makes
abbrev Goes : Fix → List Terminal → ℕ → Terminal → Machine → Turn → Machine → Type 0
Goes f a left t m w d = (f : Fix) (r b : List Terminal) → left ≡ length (t ∷ b) → Stands f r (t ∷ b) (stack_of m) m → Shifts f r t b w d

goes : (f : Fix) (a : List Terminal) (i left : ℕ) (t : Terminal) (m d : Machine) (w x : Turn) → Next a i t → left ≡ length a - i → Far f a i m → Goes f a left t m w d → w ≡ x → Shifts f (take i a) t (drop (i + 1) a) x d
goes f a i left t m d w x n e h g q = let P : Turn → Type 0 = λ w. Shifts f (take i a) t (drop (i + 1) a) w d in subst P q (g f (take i a) (drop (i + 1) a) (e ∙ n.left) (at_next f a i t m n h))

pub far_more : (f : Fix) (a : List Terminal) (i left : ℕ) (t : Terminal) (m d : Machine) (w : Turn) → Next a i t → left ≡ length a - i → Far f a i m → Goes f a left t m w d → w ≡ turn.Shifted → Far f a (i + 1) d
far_more f a i left t m d w n e h g q =
    let P : List Terminal → Type 0 = λ r. Stands f r (drop (i + 1) a) (stack_of d) d in
    subst P (sym n.taken) (goes f a i left t m d w turn.Shifted n e h g q).0

-- what the machine accepts begins a program
begins_program : (v : Bool) (f : Fix) (r : List Terminal) → Opens v f r → Begins v f r
begins_program v f r (b, o, h) = (b, o, sound h)

opens : (v : Bool) (f : Fix) (r : List Terminal) → Begins v f r → Opens v f r
opens v f r (b, o, h) = (b, o, accepted v h)

never : (v : Bool) (f : Fix) (a : List Terminal) (i : ℕ) (t : Terminal) → Next a i t → (Opens v f (take i a ++ t ∷ []) → ⊥) → Begins v f (take (i + 1) a) → ⊥
never v f a i t n h b = let P : List Terminal → Type 0 = λ r. Begins v f r in h (opens v f (take i a ++ t ∷ []) (subst P n.taken b))

pub far_refused : (f : Fix) (a : List Terminal) (i left : ℕ) (t : Terminal) (m d : Machine) (w : Turn) → Next a i t → left ≡ length a - i → Far f a i m → Goes f a left t m w d → w ≡ turn.Refused → Stops f a (stop.Syntax i)
far_refused f a i left t m d w n e h g q =
    let (b, c) = goes f a i left t m d w turn.Refused n e h g q in
    (record { inside = n.inside; before = begins_program false f (take i a) b; with_it = never false f a i t n (c false) }, never true f a i t n (c true))

pub far_mixed : (f : Fix) (a : List Terminal) (i left : ℕ) (t : Terminal) (m d : Machine) (w : Turn) → Next a i t → left ≡ length a - i → Far f a i m → Goes f a left t m w d → w ≡ turn.Mixed → Stops f a (stop.Mixed i)
far_mixed f a i left t m d w n e h g q =
    let (b, c, o) = goes f a i left t m d w turn.Mixed n e h g q in
    let P : List Terminal → Type 0 = λ r. Begins true f r in
    (record { inside = n.inside; before = begins_program false f (take i a) b; with_it = never false f a i t n c }, subst P (sym n.taken) (begins_program true f (take i a ++ t ∷ []) o))

pub far_end : (f : Fix) (a : List Terminal) (i left : ℕ) (m d : Machine) (w : Turn) → length a ≡ i + 1 → Next a i tok.Finish → left ≡ length a - i → Far f a i m → Goes f a left tok.Finish m w d → w ≡ turn.Shifted → Parses false f a d.nodes.items
far_end f a i left m d w l n e h g q =
    let (s, k) = goes f a i left tok.Finish m d w turn.Shifted n e h g q in
    let P : List Symbol → Type 0 = λ k. Comes false f (take i a ++ tok.Finish ∷ []) k d.scope (drop (i + 1) a) d.nodes.items in
    let Q : List Terminal → Type 0 = λ b. Comes false f (take i a ++ tok.Finish ∷ []) [] d.scope b d.nodes.items in
    let R : List Terminal → Type 0 = λ b. Comes false f b [] d.scope [] d.nodes.items in
    let none : drop (i + 1) a ≡ [] = no_more a (i + 1) (omega arith) in
    let all : take (i + 1) a ≡ a = take_all (i + 1) a (omega arith) in
    let c : Comes false f a [] d.scope [] d.nodes.items = subst R (sym n.taken ∙ all) (subst Q none (subst P (k refl) s)) in
    let A : List Terminal → Type 0 = λ b. Parses false f b d.nodes.items in
    let O : List Made → Type 0 = λ o. Parses false f (a ++ []) o in
    subst A (append-nil a) (subst O (append-nil d.nodes.items) (sound (comes_accepted c done)))
  where
    no_more : (a : List Terminal) (i : ℕ) → length a ≤ i → drop i a ≡ []
    no_more a i h = drop_of_length-le a h

pub far_all : (f : Fix) (a : List Terminal) (i n : ℕ) (m : Machine) → n ≤ i → i ≤ n → Far f a i m → Far f a n m
far_all f a i n m h k far = let P : ℕ → Type 0 = λ i. Far f a i m in subst P (let e : i ≡ n = omega arith in e) far
