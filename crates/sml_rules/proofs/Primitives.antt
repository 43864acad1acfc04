-- The basic values give what the machine gives.
use Rattle.std.proofs.Common.{◌≡◌, ℕ, suc, ◌+◌, Bool, true, false, List, [], ◌∷◌, ◌++◌, length, Option, Some, None, refl, sym, ap, ◌∙◌, subst, arith}
use Rattle.std.specs.Prelude.{slice_get, nat_eq, set, map}
use Rattle.smlc_base.specs.declared.primitive.Primitive.{Primitive}
use Rattle.smlc_base.specs.declared.primitive.Primitive.TheVariants as prim
use Rattle.smlc_base.specs.declared.exception.LibraryExn.{LibraryExn}
use Rattle.std.proofs.lemmas.Bool.{eqb-true, eq-eqb}
use Rattle.prim_meaning.specs.Data as dat
use Rattle.prim_meaning.specs.Data.{Plain, plain}
use Rattle.prim_meaning.specs.Meaning as mean
use Rattle.prim_meaning.specs.Meaning.{Outcome, plainly, meaning, takes_one}
use Rattle.prim_meaning.specs.Alike.{BothAlike, SameOutcome, same_comes, same_gives, same_assigns, same_compares}
use Rattle.prim_meaning.proofs.Alike.{meaning_alike}
use Rattle.sml_tree.specs.declared.bare.Bare.{Bare}
use Rattle.simulation.specs.Stores.{wrote}
use Rattle.simulation.specs.Runs as runs
use Rattle.simulation.proofs.Stores.{wrote_is, puts_done}
use Rattle.simulation.proofs.Lists.{get_last, get_past, get_set_same, get_set_other, length_set}
use Rattle.sml_def.specs.Maybe.{◌>>=◌}
use Rattle.sml_def.specs.State.{Value, At, Address, Block, Applied, Text, Cell, ExnName, Control, Ret, Raise}
use Rattle.sml_def.specs.State as m
use Rattle.sml_def.specs.Memory.{Next, going, making, writing, assigning}
use Rattle.sml_def.specs.Match.{text_block}
use Rattle.sml_def.specs.Builtin as mb
use Rattle.sml_def.specs.Builtin.{carry, carry_plain, exn_of, arguments_of}
use Rattle.sml_def.specs.Step.{step}
use Rattle.sml_def.specs.Run.{view}
use Rattle.sml_rules.specs.Terms.{Term, Record, no_terms, State, Result, Gives, Raises, Stuck, given}
use Rattle.sml_rules.specs.Terms as t
use Rattle.sml_rules.specs.Patterns.{content_of}
use Rattle.sml_rules.specs.Apply as basic
use Rattle.sml_rules.proofs.Relation.{World, Are, Later, later_refl, are_later}
use Rattle.sml_rules.proofs.Relation as r
use Rattle.sml_rules.proofs.Environments.{Is, split}
use Rattle.sml_rules.proofs.Forms.{Holds, form, OptAre, fields_is}
use Rattle.sml_rules.proofs.Follows.{Conf, conf, memory, with_blocks, M, more_later, more_holds, step_is, Follows, Back, step_on, here, raised_here, stuck_here}
use Rattle.sml_rules.proofs.Seen.{see, see_cell, data_are, InMemory, Stands, AtCell, in_memory, all_alike, views}
use Rattle.sml_rules.proofs.Implode.{seen_same, letters_are}

-- these have a file of their own
abbrev pub IsTame : Primitive → Type 0
IsTame prim.Equal = ⊥
IsTame prim.Unequal = ⊥
IsTame _ = Unit {0}

-- ---- As many terms as values

module _ (p : Bare) (w : World) (P : List Term → List Value → Type 0) where
  beyond : ((u x y : Term) (us : List Term) (v z q : Value) (vs : List Value) → P (u ∷ x ∷ y ∷ us) (v ∷ z ∷ q ∷ vs)) → (u x : Term) (us : List Term) (v z : Value) (vs : List Value) → Is p w u v → Is p w x z → ((u x : Term) (v z : Value) → Is p w u v → Is p w x z → P (u ∷ x ∷ []) (v ∷ z ∷ [])) → Are p w us vs → P (u ∷ x ∷ us) (v ∷ z ∷ vs)
  beyond more u x [] v z [] i j two h = two u x v z i j
  beyond more u x (y ∷ us) v z (q ∷ vs) i j two h = more u x y us v z q vs
  beyond more u x [] v z (q ∷ vs) i j two h = absurd (split p w [] (q ∷ vs) h)
  beyond more u x (y ∷ us) v z [] i j two h = absurd (split p w (y ∷ us) [] h)

  second : P [] [] → ((u : Term) (v : Value) → Is p w u v → P (u ∷ []) (v ∷ [])) → ((u x : Term) (v z : Value) → Is p w u v → Is p w x z → P (u ∷ x ∷ []) (v ∷ z ∷ [])) → ((u x y : Term) (us : List Term) (v z q : Value) (vs : List Value) → P (u ∷ x ∷ y ∷ us) (v ∷ z ∷ q ∷ vs)) → (u : Term) (us : List Term) (v : Value) (vs : List Value) → Is p w u v → Are p w us vs → P (u ∷ us) (v ∷ vs)
  second none one two more u [] v [] i h = one u v i
  second none one two more u (x ∷ us) v (z ∷ vs) i h =
      let a = split p w (x ∷ us) (z ∷ vs) h in beyond more u x us v z vs i a.0 two a.1
  second none one two more u [] v (z ∷ vs) i h = absurd (split p w [] (z ∷ vs) h)
  second none one two more u (x ∷ us) v [] i h = absurd (split p w (x ∷ us) [] h)

  -- by how many there are
  pub by_length : P [] [] → ((u : Term) (v : Value) → Is p w u v → P (u ∷ []) (v ∷ [])) → ((u x : Term) (v z : Value) → Is p w u v → Is p w x z → P (u ∷ x ∷ []) (v ∷ z ∷ [])) → ((u x y : Term) (us : List Term) (v z q : Value) (vs : List Value) → P (u ∷ x ∷ y ∷ us) (v ∷ z ∷ q ∷ vs)) → (us : List Term) (vs : List Value) → Are p w us vs → P us vs
  by_length none one two more [] [] h = none
  by_length none one two more (u ∷ us) (v ∷ vs) h =
      let a = split p w (u ∷ us) (v ∷ vs) h in second none one two more u us v vs a.0 a.1
  by_length none one two more [] (v ∷ vs) h = absurd (split p w [] (v ∷ vs) h)
  by_length none one two more (u ∷ us) [] h = absurd (split p w (u ∷ us) [] h)

-- ---- What comes of a primitive, in the rules' own terms

-- as it is done to the state; comparisons have a file of their own
abbrev pub done : Outcome Term → State → Result Term
done (mean.Comes r) s = basic.carried r s
done (mean.Gives u) s = Gives u s
done (mean.Assigns n u) s = basic.assigned n u s
done (mean.Compares u x t) s = Stuck s

given_plainly : (o : Option Plain) (s : State) → given o basic.carried s ≡ given (plainly o) done s
given_plainly None s = refl
given_plainly (Some r) s = refl

module _ (s : State) (most : ℕ) where
  abbrev Meant : Primitive → List Term → Type 0
  Meant g us = basic.applied_to g us s ≡ given (meaning (see s.memory) most s.input g us) done s

  of_data : (g : Primitive) (us : List Term) → given (plain s.input g (map basic.datum us)) basic.carried s ≡ given (plainly (plain s.input g (map (λ u. mean.datum (see s.memory u)) us))) done s
  of_data g us =
      ap (λ ds. given (plain s.input g ds) basic.carried s) (sym (data_are s.memory us)) ∙ given_plainly (plain s.input g (map (λ u. mean.datum (see s.memory u)) us)) s

  of_content : (n : ℕ) (o : Option Term) → given o Gives s ≡ given (mean.deref (see_cell n o)) done s
  of_content n None = refl
  of_content n (Some u) = refl

  of_deref : (u : Term) → given (content_of s.memory u) Gives s ≡ given (mean.deref (see s.memory u)) done s
  of_deref (t.Cell n) = of_content n (slice_get s.memory n)
  of_deref (t.Builtin prim.StdIn) = refl
  of_deref (t.Record (t.more_terms y ys)) = refl
  of_deref _ = refl

  of_assign : (u x : Term) → InMemory s.memory u → basic.assign u x s ≡ given (mean.assign (see s.memory u) x) done s
  of_assign (t.Cell n) x h = sym (ap (λ o. given (mean.assign (see_cell n o) x) done s) h.1)
  of_assign (t.Builtin prim.StdIn) x h = refl
  of_assign (t.Record (t.more_terms y ys)) x h = refl
  of_assign _ x h = refl

  of_implode : (u : Term) → basic.letters u ≡ mean.letters (see s.memory) (suc most) u → given (basic.letters u) (λ bytes. Gives (t.Text bytes)) s ≡ given (mean.imploded (see s.memory) (mean.letters (see s.memory) (suc most) u)) done s
  of_implode u e = ap (λ o. given o (λ bytes. Gives (t.Text bytes)) s) e ∙ go (mean.letters (see s.memory) (suc most) u)
    where
      go : (o : Option (List ℕ)) → given o (λ bytes. Gives (t.Text bytes)) s ≡ given (mean.imploded (see s.memory) o) done s
      go None = refl
      go (Some bytes) = refl

  -- what each value is to have, so that the rules and the meaning of the primitive are one
  abbrev Ready : List Term → Type 0
  Ready (u ∷ us) = InMemory s.memory u × (basic.letters u ≡ mean.letters (see s.memory) (suc most) u)
  Ready [] = Unit {0}

  pub meant : (g : Primitive) → IsTame g → (us : List Term) → Ready us → Meant g us
  meant prim.Equal h us k = absurd h
  meant prim.Unequal h us k = absurd h
  meant prim.Deref h [] k = refl
  meant prim.Deref h (u ∷ []) k = of_deref u
  meant prim.Deref h (u ∷ x ∷ us) k = refl
  meant prim.Assign h [] k = refl
  meant prim.Assign h (u ∷ []) k = refl
  meant prim.Assign h (u ∷ x ∷ []) k = of_assign u x k.0
  meant prim.Assign h (u ∷ x ∷ y ∷ us) k = refl
  meant prim.Implode h [] k = refl
  meant prim.Implode h (u ∷ []) k = of_implode u k.1
  meant prim.Implode h (u ∷ x ∷ us) k = refl
  meant g h us k = of_data g us

-- ---- What the machine does

abbrev lasting : Option Block → Type 0
lasting (Some x) = r.IsLasting x
lasting None = Unit {0}

not_cell : (x : Block) (y : Value) → Some x ≡ Some (Cell y) → r.IsLasting x → ⊥
not_cell x y e l = subst lasting e l

module _ (p : Bare) (k : Option Address) (need : ℕ) (c : Control) (s : State) (w : World) (holds : Holds p w s) (busy : (M p).end (conf c s w) ≡ runs.Going) where
  -- where the machine's step is this, it follows that result
  abbrev pub Acts : Next → Result Term → Type 0
  Acts o q = step p (memory s w) c ≡ o → Follows p (Back p k) k need (conf c s w) w q

  acts_none : Acts None (Stuck s)
  acts_none e = stuck_here p (Back p k) k need c s w e busy

  acts_ret : (u : Term) (v : Value) → Is p w u v → Acts (going (memory s w) (Ret v k)) (Gives u s)
  acts_ret u v i e =
      step_on p (Back p k) k need need (conf c s w) (conf (Ret v k) s w) w w (Gives u s) (step_is p c s w _ e) (later_refl w) (omega arith) (here p (Back p k) k need (Ret v k) s w u holds (v, refl, i))

  acts_raise : (x : LibraryExn) → Acts (going (memory s w) (Raise (m.Library x) k)) (Raises (t.Library x) s)
  acts_raise x e =
      step_on p (Back p k) k need need (conf c s w) (conf (Raise (m.Library x) k) s w) w w (Raises (t.Library x) s) (step_is p c s w _ e) (later_refl w) (omega arith) (raised_here p (Back p k) k need s w (t.Library x) (m.Library x) holds (r.library x [] [] r.done))

  acts_make : (b : Block) (u : Term) → Is p (with_blocks w (b ∷ [])) u (At (length w.store)) → Acts (making (memory s w) b (λ a. Ret (At a) k)) (Gives u s)
  acts_make b u i e =
      step_on p (Back p k) k need need (conf c s w) (conf (Ret (At (length w.store)) k) s (with_blocks w (b ∷ []))) w (with_blocks w (b ∷ [])) (Gives u s) (step_is p c s w _ e) (more_later p w (b ∷ [])) (omega arith) (here p (Back p k) k need (Ret (At (length w.store)) k) s (with_blocks w (b ∷ [])) u (more_holds p w (b ∷ []) s holds) (At (length w.store), refl, i))

  made_text : (bytes : List ℕ) → Acts (making (memory s w) (Text bytes) (λ a. Ret (At a) k)) (Gives (t.Text bytes) s)
  made_text bytes =
      acts_make (Text bytes) (t.Text bytes) (r.text bytes (At (length w.store)) [] [] (ap text_block (get_last w.store (Text bytes))) r.done)

  acts_print : (bytes : List ℕ) → Acts (writing (memory s w) bytes (Ret m.Nothing k)) (basic.carried (dat.Writes bytes) s)
  acts_print bytes e =
      let after : State = record { memory = s.memory; names = s.names; input = s.input; output = s.output ++ bytes } in
      let told : wrote s.output bytes ≡ s.output ++ bytes = wrote_is s.output bytes in
      let moves : (M p).step (conf c s w) ≡ Some (conf (Ret m.Nothing k) after w) = step_is p c s w _ e ∙ ap (λ o. Some (written o)) told in
      step_on p (Back p k) k need need (conf c s w) (conf (Ret m.Nothing k) after w) w w (Gives (Record no_terms) after) moves (later_refl w) (omega arith) (here p (Back p k) k need (Ret m.Nothing k) after w (Record no_terms) (record { cell = holds.cell; cells = holds.cells; cells_apart = holds.cells_apart; exn = holds.exn; exns = holds.exns; exns_apart = holds.exns_apart }) (m.Nothing, refl, r.nothing [] [] r.done))
    where
      written : List ℕ → Conf
      written o = record { control = record { control = Ret m.Nothing k; input = s.input }; out = o; store = w.store }

  -- ---- References

  module _ (i a : ℕ) (old u : Term) (before v : Value) (at : slice_get w.cells i ≡ Some a) (in_memory : slice_get s.memory i ≡ Some old) (stands : slice_get w.store a ≡ Some (Cell before)) (is : Is p w u v) where
    abbrev put : World
    put = record { store = set w.store a (Cell v); cells = w.cells; exns = w.exns }

    abbrev after : State
    after = record { memory = set s.memory i u; names = s.names; input = s.input; output = s.output }

    other_block : (b : Address) (x : Block) → slice_get w.store b ≡ Some x → r.IsLasting x → slice_get (set w.store a (Cell v)) b ≡ Some x
    other_block b x e l =
        get_set_other w.store a (Cell v) b (λ (q : b ≡ a). let same : Some x ≡ Some (Cell before) = sym e ∙ ap (slice_get w.store) q ∙ stands in not_cell x before same l) ∙ e

    put_later : Later w put
    put_later = record { cells = λ n b e. e; exns = λ n b e. e; blocks = other_block }

    put_holds : Holds p put after
    put_holds = record {
      cell = λ n b e. of_cell n b e (nat_eq n i) refl;
      cells = holds.cells ∙ sym (length_set s.memory i u);
      cells_apart = holds.cells_apart;
      exn = λ n b e. let g = holds.exn n b e in (g.0, g.1, other_block b (ExnName g.0) g.2 tt);
      exns = holds.exns;
      exns_apart = holds.exns_apart;
    }
      where
        of_cell : (n b : ℕ) → slice_get w.cells n ≡ Some b → (q : Bool) → nat_eq n i ≡ q → (x : Term) × (y : Value) × (slice_get (set s.memory i u) n ≡ Some x) × (slice_get (set w.store a (Cell v)) b ≡ Some (Cell y)) × Is p put x y
        of_cell n b e true g =
            let same : n ≡ i = eqb-true n i g in
            let there : b ≡ a = (let h : Some b ≡ Some a = sym e ∙ ap (slice_get w.cells) same ∙ at in cc) in
            (u, v, ap (slice_get (set s.memory i u)) same ∙ get_set_same s.memory i u old in_memory, ap (slice_get (set w.store a (Cell v))) there ∙ get_set_same w.store a (Cell v) (Cell before) stands, are_later p w put put_later (u ∷ []) (v ∷ []) is)
        of_cell n b e false g =
            let x = holds.cell n b e in
            let apart : b ≡ a → ⊥ = λ q. let same : n ≡ i = holds.cells_apart n i b e (at ∙ ap (λ z. Some z) (sym q)) in let y = eq-eqb n i same in cc in
            let differs : n ≡ i → ⊥ = λ q. let y = eq-eqb n i q in cc in
            (x.0, x.1, get_set_other s.memory i u n differs ∙ x.2, get_set_other w.store a (Cell v) b apart ∙ x.3, are_later p w put put_later (x.0 ∷ []) (x.1 ∷ []) x.4)

    acts_put : Acts (assigning (memory s w) a v (Ret m.Nothing k)) (basic.assigned i u s)
    acts_put e =
        step_on p (Back p k) k need need (conf c s w) (conf (Ret m.Nothing k) after put) w put (Gives (Record no_terms) after) (step_is p c s w _ e ∙ puts_done view (record { control = Ret m.Nothing k; input = s.input }) s.output w.store a (Cell before) (Cell v) stands refl) put_later (omega arith) (here p (Back p k) k need (Ret m.Nothing k) after put (Record no_terms) put_holds (m.Nothing, refl, r.nothing [] [] r.done))

  -- ---- Input

  acts_line : (line left : List ℕ) → Acts (carry_plain (memory s w) k (dat.ALine line left)) (basic.carried (dat.ALine line left) s)
  acts_line line left e =
      let blocks : List Block = Text line ∷ Applied 1 (At (length w.store)) ∷ [] in
      let after : State = record { memory = s.memory; names = s.names; input = left; output = s.output } in
      let w2 : World = with_blocks w blocks in
      let first : slice_get w2.store (length w.store) ≡ Some (Text line) = ap (slice_get w2.store) (let q : length w.store ≡ length w.store + 0 = omega arith in q) ∙ get_past w.store blocks 0 in
      let second : slice_get w2.store (suc (length w.store)) ≡ Some (Applied 1 (At (length w.store))) = ap (slice_get w2.store) (let q : suc (length w.store) ≡ length w.store + 1 = omega arith in q) ∙ get_past w.store blocks 1 in
      let more : Holds p w2 s = more_holds p w blocks s holds in
      step_on p (Back p k) k need need (conf c s w) (conf (Ret (At (suc (length w.store))) k) after w2) w w2 (Gives (t.Applied 1 (t.Text line)) after) (step_is p c s w _ e) (more_later p w blocks) (omega arith) (here p (Back p k) k need (Ret (At (suc (length w.store))) k) after w2 (t.Applied 1 (t.Text line)) (record { cell = more.cell; cells = more.cells; cells_apart = more.cells_apart; exn = more.exn; exns = more.exns; exns_apart = more.exns_apart }) (At (suc (length w.store)), refl, r.applied 1 (t.Text line) (suc (length w.store)) (At (length w.store)) [] [] second (r.text line (At (length w.store)) [] [] (ap text_block first) r.done) r.done))

  -- ---- Outcomes

  plain_follows : (q : Plain) → Acts (carry_plain (memory s w) k q) (basic.carried q s)
  plain_follows (dat.ANumber z) = acts_ret (t.Number z) (m.Number z) (r.number z [] [] r.done)
  plain_follows (dat.ALetter x) = acts_ret (t.Letter x) (m.Letter x) (r.letter x [] [] r.done)
  plain_follows (dat.ATag n) = acts_ret (t.Tag n) (m.Tag n) (r.tag n [] [] r.done)
  plain_follows (dat.AString bytes) = made_text bytes
  plain_follows (dat.Fails x) = acts_raise (exn_of x)
  plain_follows (dat.Writes bytes) = acts_print bytes
  plain_follows (dat.ALine line left) = acts_line line left

  -- no comparison starts
  abbrev IsQuiet : Option (Outcome Value) → Type 0
  IsQuiet (Some (mean.Compares v x t)) = ⊥
  IsQuiet o = Unit {0}

  outcome_follows : (o : Outcome Value) (q : Outcome Term) → SameOutcome (AtCell p w s holds) (Stands p w s holds) o q → IsQuiet (Some o) → Acts (carry (memory s w) k o) (done q s)
  outcome_follows o q (same_comes x) quiet = plain_follows x
  outcome_follows o q (same_gives v u h) quiet = acts_ret u v h
  outcome_follows o q (same_assigns a n v u e h) quiet =
      let cell = holds.cell n a e in acts_put n a cell.0 u cell.1 v e cell.2 cell.3 h
  outcome_follows o q (same_compares v x u y truth h g) quiet = absurd quiet

  meaning_follows : (o : Option (Outcome Value)) (q : Option (Outcome Term)) → BothAlike (SameOutcome (AtCell p w s holds) (Stands p w s holds)) o q → IsQuiet o → Acts (o >>= carry (memory s w) k) (given q done s)
  meaning_follows None None h quiet = acts_none
  meaning_follows (Some o) (Some q) h quiet = outcome_follows o q h quiet
  meaning_follows None (Some q) h quiet = absurd h
  meaning_follows (Some o) None h quiet = absurd h

  -- ---- Basic values

  quiet_plain : (o : Option Plain) → IsQuiet (plainly o)
  quiet_plain None = tt
  quiet_plain (Some q) = tt

  quiet_deref : (q : mean.Seen Value) → IsQuiet (mean.deref q)
  quiet_deref (mean.Cell a v) = tt
  quiet_deref _ = tt

  quiet_assign : (q : mean.Seen Value) (v : Value) → IsQuiet (mean.assign q v)
  quiet_assign (mean.Cell a y) v = tt
  quiet_assign _ v = tt

  abbrev seen : Value → mean.Seen Value
  seen = mb.see p.texts w.store

  quiet_letters : (o : Option (List ℕ)) → IsQuiet (mean.imploded seen o)
  quiet_letters None = tt
  quiet_letters (Some bytes) = tt

  quiet : (g : Primitive) → IsTame g → (vs : List Value) → IsQuiet (meaning seen (length w.store) s.input g vs)
  quiet prim.Equal h vs = absurd h
  quiet prim.Unequal h vs = absurd h
  quiet prim.Deref h [] = tt
  quiet prim.Deref h (v ∷ []) = quiet_deref (seen v)
  quiet prim.Deref h (v ∷ x ∷ vs) = tt
  quiet prim.Assign h [] = tt
  quiet prim.Assign h (v ∷ []) = tt
  quiet prim.Assign h (v ∷ x ∷ []) = quiet_assign (seen v) x
  quiet prim.Assign h (v ∷ x ∷ y ∷ vs) = tt
  quiet prim.Implode h [] = tt
  quiet prim.Implode h (v ∷ []) = quiet_letters (mean.letters seen (suc (length w.store)) v)
  quiet prim.Implode h (v ∷ x ∷ vs) = tt
  quiet g h vs = quiet_plain (plain s.input g (map (λ v. mean.datum (seen v)) vs))

  ready : (us : List Term) (vs : List Value) → Are p w us vs → Ready s (length w.store) us
  ready [] vs h = tt
  ready (u ∷ us) [] h = absurd (split p w (u ∷ us) [] h)
  ready (u ∷ us) (v ∷ vs) h =
      let i = (split p w (u ∷ us) (v ∷ vs) h).0 in
      (in_memory p w s holds u v _ (form p w s holds u v i), letters_are p w s holds u v i ∙ sym (seen_same p w s holds (suc (length w.store)) u v i))

  applied_follows : (g : Primitive) → IsTame g → (us : List Term) (vs : List Value) → Are p w us vs → Acts (mb.applied p.texts (memory s w) k g vs) (basic.applied_to g us s)
  applied_follows g h us vs i =
      subst (Acts (mb.applied p.texts (memory s w) k g vs)) (sym (meant s (length w.store) g h us (ready us vs i))) (meaning_follows (meaning seen (length w.store) s.input g vs) (meaning (see s.memory) (length w.store) s.input g us) (meaning_alike (AtCell p w s holds) (Stands p w s holds) seen (see s.memory) (views p w s holds) (length w.store) s.input g vs us (all_alike p w s holds us vs i)) (quiet g h vs))

  -- the arguments in a value
  pub arguments_are : (whole : Bool) (u : Term) (v : Value) → Is p w u v → OptAre p w s (basic.arguments whole u) (arguments_of whole w.store v)
  arguments_are true u v i = i
  arguments_are false u v i = fields_is p w s u v (form p w s holds u v i)

  pub acts_arguments : (g : List Term → State → Result Term) (h : List Value → Next) (o : Option (List Term)) (q : Option (List Value)) → OptAre p w s o q → ((us : List Term) (vs : List Value) → Are p w us vs → Acts (h vs) (g us s)) → Acts (q >>= h) (given o g s)
  acts_arguments g h None None e on = acts_none
  acts_arguments g h (Some us) (Some vs) e on = on us vs e
  acts_arguments g h None (Some vs) e on = absurd e
  acts_arguments g h (Some us) None e on = absurd e

  -- each basic value but equality
  pub acts_builtin : (g : Primitive) → IsTame g → (u : Term) (v : Value) → Is p w u v → Acts (mb.builtin p.texts (memory s w) k g v) (basic.builtin g u s)
  acts_builtin g h u v i =
      acts_arguments (basic.applied_to g) (mb.applied p.texts (memory s w) k g) (basic.arguments (takes_one g) u) (arguments_of (takes_one g) w.store v) (arguments_are (takes_one g) u v i) (applied_follows g h)
