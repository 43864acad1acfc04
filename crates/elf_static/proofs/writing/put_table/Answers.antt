use Rattle.std.proofs.Common.{◌≡◌, ◌∙◌, ◌++◌, ℕ, List, ap, append_assoc}
use Rattle.std.specs.Prelude.{codes}
use Rattle.std.specs.List.{flat_map}
use Rattle.elf_static.specs.Writing.{fields, table_fields, row_bytes, table_bytes}
use Rattle.elf_static.proofs.writing.put_table.Goals as goal

three_parts : (o x y z a b c : List ℕ) → a ≡ o ++ x → b ≡ a ++ y → c ≡ b ++ z → c ≡ o ++ (x ++ y ++ z)
three_parts o x y z a b c e f g = g ∙ ap (λ (t : List ℕ). t ++ z) (f ∙ ap (λ (t : List ℕ). t ++ y) e) ∙ ap (λ (t : List ℕ). t ++ z) (append_assoc o x y) ∙ append_assoc o (x ++ y) z

pub returns-clause-bytes : goal.returns-clause-bytes
unfolding table_bytes
returns-clause-bytes c = three_parts c.args.out.now.items (codes "SMLE") (fields (table_fields c.args.e.now)) (flat_map row_bytes c.args.e.now.rows) _ _ _ c.in_ok-extend_from_slice.ensures.items (c.in_ok-put_fields.ensures.bytes ∙ ap (λ fs. c.extend_from_slice.new.self.items ++ fields fs) c.fields_of_table.ensures) (c.in_ok-put_rows.ensures.bytes ∙ ap (λ rs. c.put_fields.new.out.items ++ flat_map row_bytes rs) c.items.ensures)
