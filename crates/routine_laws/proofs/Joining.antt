-- The routines as their laws say.
use Rattle.std.proofs.Common.{◌≡◌, ℕ, ◌+◌, ◌-◌, ◌*◌, ◌<◌, ◌≤◌, List, ◌++◌, length, get_or, arith, refl, sym, ap, ◌∙◌, subst, ⊎_elim, ◌⊎◌, inl, inr, length-append}
use Rattle.std.proofs.lemmas.Bool.{cases_lt}
use Rattle.std.proofs.lemmas.List.{get_or_append_left, get_or-append_right}
use Rattle.rv_acts.specs.Emitted.{Emitted, IsLaid}
use Rattle.rv_acts.specs.Fine.{Fine}
use Rattle.rv_acts.specs.Trip.{IsLow}
use Rattle.rv_acts.proofs.Trips.{trip_steady}
use Rattle.rv_pieces.specs.Stand.{Stands}
use Rattle.rv_pieces.specs.Route.{Trips, Routes}
use Rattle.rv_pieces.proofs.Standing.{stands_within}
use Rattle.rv_pieces.proofs.Then.{to_goal}
use Rattle.routine_laws.specs.Places.{save_at, end_at, IsNear, IsClear}
use Rattle.routine_laws.specs.Strings.{string_words, StringAt}
use Rattle.rv_acts.specs.Emitted.{IsQuiet}
use Rattle.routine_laws.specs.Concat.{concat_code, Strung, joined_top, Joined, JoinedFull, concat_most}
use Rattle.routine_laws.specs.Print.{print_code, Telling, Printed, print_most}
use Rattle.routine_laws.proofs.Concat as concat
use Rattle.routine_laws.proofs.Makes.{makes_route}
use Rattle.routine_laws.proofs.PrintString as print

route_to : {I : Emitted} {Q : ℕ → Type 0} {Mid Goal : Fine → Type 0} {most : ℕ} {a : Fine} → ((b : Fine) → Mid b → Goal b) → Routes I Q Mid most a → Routes I Q Goal most a
route_to {I} {Q} {Mid} {Goal} {most} {a} k r = record { to = r.to; count = r.count; few = r.few; route = r.route; goal = k r.to r.goal }

-- each byte of a block of a string is below 256
pub block_known : (m : ℕ → ℕ) (x : ℕ) (bs : List ℕ) → StringAt m x bs → ((j : ℕ) → get_or bs j 0 < 256) → (y : ℕ) → x ≤ y → y < x + 8 + 8 * string_words (length bs) → m y < 256
block_known m x bs h small y l k = ⊎_elim
    (λ (q : y < x + 8). let e : x + (y - x) ≡ y = omega arith in subst (λ y. m y < 256) e (h.header.known (y - x) (omega arith)))
    (λ (q : x + 8 ≤ y). let e : x + 8 + (y - (x + 8)) ≡ y = omega arith in subst (λ v. v < 256) (sym (ap m (sym e) ∙ h.bytes (y - (x + 8)) (omega arith))) (small (y - (x + 8))))
    (cases_lt y (x + 8))

both_small : (us bs : List ℕ) → ((j : ℕ) → get_or us j 0 < 256) → ((j : ℕ) → get_or bs j 0 < 256) → (j : ℕ) → get_or (us ++ bs) j 0 < 256
both_small us bs h g j = ⊎_elim
    (λ (l : j < length us). subst (λ v. v < 256) (sym (get_or_append_left us bs 0 j l)) (h j))
    (λ (l : length us ≤ j). subst (λ v. v < 256) (sym (get_or-append_right us bs (length us) j 0 refl l)) (g (j - length us)))
    (cases_lt j (length us))

module _ (I : Emitted) (laid : IsLaid I) (near : IsNear I) (p full : ℕ) (code : Stands I.code p (concat_code I p full)) (clear : IsClear I p 58) (us bs : List ℕ) (xa xb top ret : ℕ) (a : Fine) (s : Strung I us bs xa xb top ret p a) where
  in_text : p + 58 ≤ length I.code
  in_text = stands_within I.code p (concat_code I p full) (omega arith) code

  pub joins : joined_top us bs top ≤ end_at I → ret < length I.code → Routes I (IsQuiet I) (Joined I us bs top ret a) (concat_most us bs) a
  joins l rc =
      let r = concat.concat_fits I laid near (IsQuiet I) p full (concat.concat_stands I p full code) clear in_text us bs xa xb top ret a s l rc in
      let front = trip_steady I (IsQuiet I) r.m a r.mid r.front in
      let mid8 : r.mid.regs 8 ≡ top = front.x8 ∙ s.x8 in
      let mid0 : r.mid.regs 0 ≡ 0 = front.x0 ∙ s.zero_reg in
      let made = r.made in
      let next8 : r.next.regs 8 ≡ joined_top us bs top = made.r8 in
      let len = length-append us bs in
      route_to (λ b g. record { at = g.at; x0 = g.zero_reg; x5 = g.r5; x8 = g.r8; x9 = g.r9; block = g.block; same = g.same; others = g.others; outside = g.outside })
      (makes_route I (IsQuiet I) _ _ (concat_most us bs) a r (record {
        words = 1 + string_words (length us + length bs);
        x0 = made.zero_reg ∙ sym mid0;
        x8 = omega arith;
        room = omega arith;
        low = λ x q. unchanged r.mid r.next x (subst (λ t. IsLow I t x) mid8 q) (front.low x (subst (λ t. IsLow I t x) (sym s.x8) (subst (λ t. IsLow I t x) mid8 q))) (λ l o. made.others x l o);
        known = λ x l k. block_known r.next.byte top (us ++ bs) made.block (both_small us bs s.first.small s.second.small) x (omega arith) (omega arith);
      }))
    where
      unchanged : (mid next : Fine) (x : ℕ) → IsLow I top x → mid.byte x ≡ a.byte x → (x < top → (x < save_at I) ⊎ (save_at I + 24 ≤ x) → next.byte x ≡ a.byte x) → next.byte x ≡ mid.byte x
      unchanged mid next x (inl q) e h = let z = s.low in let y = near.above in h (omega arith) (inl (omega arith)) ∙ sym e
      unchanged mid next x (inr q) e h = let u = q.0 in let v = q.1 in let y = near.above in h (omega arith) (inr (omega arith)) ∙ sym e

  pub fills : end_at I < joined_top us bs top → full < length I.code → Trips I (IsQuiet I) (JoinedFull I us bs full a) 20 a
  fills l fc = to_goal 20 (λ b st g. record { at = g.at; x12 = g.r12; steady = st; outside = g.outside }) (concat.concat_full I laid near (IsQuiet I) p full (concat.concat_stands I p full code) clear in_text us bs xa xb top ret a s l fc)

pub prints : (I : Emitted) (laid : IsLaid I) (near : IsNear I) (p : ℕ) → Stands I.code p (print_code I p) → IsClear I p 24 → (bs : List ℕ) (x top ret : ℕ) (a : Fine) → Telling I bs x top ret p a → ret < length I.code → Trips I (IsQuiet I) (Printed I bs ret a) (print_most bs) a
prints I laid near p code clear bs x top ret a s rc =
    to_goal (print_most bs) (λ b st g. record { at = g.at; x0 = g.zero_reg; x9 = g.r9; same = g.same; others = g.others; out = g.out; err = g.err; input = g.input })
    (print.print_done I laid near (IsQuiet I) p (print.print_stands I p code) clear (stands_within I.code p (print_code I p) (omega arith) code) bs x top ret a s rc)
