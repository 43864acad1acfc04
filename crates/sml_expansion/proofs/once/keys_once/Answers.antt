use Rattle.std.proofs.Common.{rules, ◌<◌, ◌∷◌, [], ℕ, length, get_or}
use Rattle.std.specs.Prelude.{not, if◌then◌else◌}
use Rattle.smlc_base.specs.declared.place.Place.{Place}
use Rattle.smlc_base.specs.declared.refusal.Refusal.TheVariants as refusal
use Rattle.sml_expansion.proofs.OnceLemmas.{left_at, ran}
use Rattle.sml_expansion.proofs.once.keys_once.Goals as goal

abbrev nowhere : ℕ × Place
nowhere = (0, record { file = 0; line = 0; col = 0 })

pub loop-key-preserved : goal.loop-key-preserved
loop-key-preserved c =
    let more : c.loop-key.key-index < length c.args.keys.now = search rules in
    let r = ran c.args.made.now c.loop-key.made c.refuse_if.new.self (if not c.in_ok-new.new then refusal.BadBinding (get_or c.args.keys.now c.loop-key.key-index nowhere).1 ∷ [] else []) _ c.loop-key.invariant.others c.refuse_if.ensures in
    record {
      rest = left_at c.loop-key.seen.keys c.insert_full.new.self.keys c.args.keys.now c.loop-key.key-index nowhere c.in_ok-new.new c.loop-key.made.refusal c.refuse_if.new.self.refusal _ more c.in_ok-new.ensures.added c.in_ok-new.ensures.keys r.0 c.loop-key.invariant.rest;
      others = r.1;
    }
