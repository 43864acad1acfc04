-- The check of the arena in front of a block.
use Rattle.std.proofs.Common.{◌≡◌, ℕ, suc, ◌+◌, ◌-◌, ◌*◌, ◌<◌, pos, List, [], ◌∷◌, ◌++◌, sym, ap, ◌∙◌, arith}
use Rattle.rv_isa.specs.declared.table.Op.TheVariants.{Bgeu}
use Rattle.rv_asm.specs.declared.item.Item.{Item}
use Rattle.rv_asm.specs.Item.{words}
use Rattle.emit_items.specs.declared.labels.Labels.{Labels}
use Rattle.emit_items.specs.Items.{s_item}
use Rattle.emit_items.specs.Reading.{behind, word_stored}
use Rattle.emit_items.specs.Making.{full_end, room, filled}
use Rattle.emit_code.proofs.Loops.{append_assoc, append_none}

pub room_put : (L : Labels) (offset size n : ℕ) (branch : Item) (old first second third end : List Item) →
    end ≡ full_end L offset size → n ≡ words end → branch ≡ s_item Bgeu 9 7 (pos (4 + 4 * n)) → first ≡ old ++ behind 7 8 (8 * (offset + size)) → second ≡ first ++ branch ∷ [] → third ≡ second ++ end →
    third ≡ old ++ room L offset size
room_put L offset size n branch old first second third end e w b f s t =
    let check = behind 7 8 (8 * (offset + size)) in
    let jump : branch ≡ s_item Bgeu 9 7 (pos (4 + 4 * words (full_end L offset size))) = b ∙ ap (λ k. s_item Bgeu 9 7 (pos (4 + 4 * k))) (w ∙ ap words e) in
    t
    ∙ ap (λ xs. xs ++ end) (s ∙ ap (λ xs. xs ++ branch ∷ []) f)
    ∙ append_assoc (old ++ check) (branch ∷ []) end
    ∙ append_assoc old check (branch ∷ end)
    ∙ ap (λ i. old ++ (check ++ i ∷ end)) jump
    ∙ ap (λ xs. old ++ (check ++ s_item Bgeu 9 7 (pos (4 + 4 * words (full_end L offset size))) ∷ xs)) e

-- one word more of a spill record
pub fill_more : (n k : ℕ) (old new all : List Item) → k < n → new ≡ old ++ word_stored 8 5 (8 * (k + 1)) → old ++ filled (n - k) (k + 1) ≡ all → new ++ filled (n - (k + 1)) (k + 1 + 1) ≡ all
fill_more n k old new all lt e h =
    let left : n - k ≡ suc (n - (k + 1)) = omega (arith, lt) in
    ap (λ xs. xs ++ filled (n - (k + 1)) (k + 1 + 1)) e
    ∙ append_assoc old (word_stored 8 5 (8 * (k + 1))) (filled (n - (k + 1)) (k + 1 + 1))
    ∙ ap (λ m. old ++ filled m (k + 1)) (sym left)
    ∙ h

-- and none
pub fill_end : (n k : ℕ) (old all : List Item) → k ≡ n → old ++ filled (n - k) (k + 1) ≡ all → old ≡ all
fill_end n k old all e h =
    let none : n - k ≡ 0 = omega (arith, e) in
    sym (append_none old) ∙ ap (λ m. old ++ filled m (k + 1)) (sym none) ∙ h
