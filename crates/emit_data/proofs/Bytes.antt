-- Blocks and their sizes, put one behind the other.
use Rattle.std.proofs.Common.{◌≡◌, ℕ, ◌+◌, List, [], ◌∷◌, ◌++◌, length, map, ap, ◌∙◌}
use Rattle.std.specs.List.{flat_map}
use Rattle.std.proofs.lemmas.List.{append_assoc}
use Rattle.rt_prims.specs.declared.line.Routine.TheVariants.{Uncaught}
use Rattle.rt_prims.specs.Lines.{number}
use Rattle.placed_ir.specs.declared.body.Function.{Function}
use Rattle.placed_ir.specs.Program.{Placed}
use Rattle.emit_text.specs.Labels.{names_label, routines_label}
use Rattle.emit_data.specs.Blocks.{string_words, name_words, code_words, exceptions, line_front, line_back, string_block, code_block, names_from, closures_from, handler_tag, read_only}
use Rattle.emit_data.specs.Places.{block_words}

module _ (s0 s1 s2 s3 s4 s5 a b c d e : List ℕ) (e0 : s0 ≡ []) (e1 : s1 ≡ s0 ++ a) (e2 : s2 ≡ s1 ++ b) (e3 : s3 ≡ s2 ++ c) (e4 : s4 ≡ s3 ++ d) (e5 : s5 ≡ s4 ++ e) where
  pub five : s5 ≡ a ++ (b ++ (c ++ (d ++ e)))
  five =
      e5
      ∙ ap (λ s. s ++ e) (e4 ∙ ap (λ s. s ++ d) (e3 ∙ ap (λ s. s ++ c) (e2 ∙ ap (λ s. s ++ b) (e1 ∙ ap (λ s. s ++ a) e0))))
      ∙ append_assoc ((a ++ b) ++ c) d e
      ∙ append_assoc (a ++ b) c (d ++ e)
      ∙ append_assoc a b (c ++ (d ++ e))

pub sizes_are : (p : Placed) (s0 s1 s2 s3 s4 s5 : List ℕ) (texts exns : List (List ℕ)) (fs : List Function) → texts ≡ p.texts → exns ≡ p.exns → fs ≡ p.functions → s0 ≡ [] →
    s1 ≡ s0 ++ map string_words texts → s2 ≡ s1 ++ map string_words exns → s3 ≡ s2 ++ map name_words exceptions → s4 ≡ s3 ++ map (λ f. code_words) fs → s5 ≡ s4 ++ code_words ∷ [] → s5 ≡ block_words p
sizes_are p s0 s1 s2 s3 s4 s5 texts exns fs t x f e0 e1 e2 e3 e4 e5 =
    five s0 s1 s2 s3 s4 s5 (map string_words texts) (map string_words exns) (map name_words exceptions) (map (λ f. code_words) fs) (code_words ∷ []) e0 e1 e2 e3 e4 e5
    ∙ ap (λ ts. map string_words ts ++ (map string_words exns ++ (map name_words exceptions ++ (map (λ f. code_words) fs ++ code_words ∷ [])))) t
    ∙ ap (λ xs. map string_words p.texts ++ (map string_words xs ++ (map name_words exceptions ++ (map (λ f. code_words) fs ++ code_words ∷ [])))) x
    ∙ ap (λ gs. map string_words p.texts ++ (map string_words p.exns ++ (map name_words exceptions ++ (map (λ f. code_words) gs ++ code_words ∷ [])))) f

module _ (p : Placed) (at : ℕ → ℕ) where
  -- from the names on
  abbrev behind : List ℕ → List ℕ → List ℕ → List ℕ
  behind names closures handler = names ++ (closures ++ (handler ++ (string_block line_front ++ string_block line_back)))

  pub blocks_are : (s0 s1 s2 s3 s4 s5 s6 s7 : List ℕ) (texts exns : List (List ℕ)) (names count handler : ℕ) → texts ≡ p.texts → exns ≡ p.exns → names ≡ names_label p → count ≡ length p.functions → handler ≡ at (routines_label p + number Uncaught) → s0 ≡ [] →
      s1 ≡ s0 ++ flat_map string_block texts → s2 ≡ s1 ++ flat_map string_block exns → s3 ≡ s2 ++ names_from at names exceptions → s4 ≡ s3 ++ closures_from at count 0 → s5 ≡ s4 ++ code_block handler_tag handler →
      s6 ≡ s5 ++ string_block line_front → s7 ≡ s6 ++ string_block line_back → s7 ≡ read_only p at
  blocks_are s0 s1 s2 s3 s4 s5 s6 s7 texts exns names count handler t x n k h e0 e1 e2 e3 e4 e5 e6 e7 =
      let a = flat_map string_block texts in
      let b = flat_map string_block exns in
      let c = names_from at names exceptions in
      let d = closures_from at count 0 in
      let e = code_block handler_tag handler in
      let f = string_block line_front in
      let g = string_block line_back in
      let last : s7 ≡ s4 ++ (e ++ (f ++ g)) = e7 ∙ ap (λ s. s ++ g) (e6 ∙ ap (λ s. s ++ f) e5) ∙ append_assoc (s4 ++ e) f g ∙ append_assoc s4 e (f ++ g) in
      five s0 s1 s2 s3 s4 s7 a b c d (e ++ (f ++ g)) e0 e1 e2 e3 e4 last
      ∙ ap (λ ts. flat_map string_block ts ++ (b ++ behind c d e)) t
      ∙ ap (λ xs. flat_map string_block p.texts ++ (flat_map string_block xs ++ behind c d e)) x
      ∙ ap (λ m. flat_map string_block p.texts ++ (flat_map string_block p.exns ++ behind (names_from at m exceptions) d e)) n
      ∙ ap (λ m. flat_map string_block p.texts ++ (flat_map string_block p.exns ++ behind (names_from at (names_label p) exceptions) (closures_from at m 0) e)) k
      ∙ ap (λ m. flat_map string_block p.texts ++ (flat_map string_block p.exns ++ behind (names_from at (names_label p) exceptions) (closures_from at (length p.functions) 0) (code_block handler_tag m))) h
