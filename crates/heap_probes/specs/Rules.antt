-- The rules of four probes.
use Rattle.std.specs.Prelude.{ℕ, ◌+◌, ◌-◌, ◌^◌, ◌==◌, max, min, nat_le, nat_lt, true, List, [], ◌∷◌, ◌++◌, codes, length, get_or, slice_set, unwrap_or, if◌then◌else◌}
use Rattle.std.specs.List.{position_from}
use Rattle.std.specs.Fmt.{decimal}
use Rattle.heap_probes.specs.Probe.{Rule, Shown}

-- a word, and a number behind it
abbrev pub numbered : List ℕ → ℕ → List ℕ
numbered word n = word ++ decimal n

-- the greatest of the words that are told, which is noted alone
abbrev pub peak_rule : Rule
peak_rule = record {
  after = λ ns e. max (get_or ns 0 0) e.words ∷ [];
  wants_more = λ ns e. true;
  line = λ ns. numbered (codes "probe peak ") (get_or ns 0 0);
}

abbrev pub peak_shown : ℕ → Shown
peak_shown peak = record { rule = peak_rule; noted = peak ∷ [] }

-- the words that were told last, and the greatest rise from one entry to the next
abbrev pub growth_rule : Rule
growth_rule = record {
  after = λ ns e. e.words ∷ max (get_or ns 1 0) (e.words - get_or ns 0 0) ∷ [];
  wants_more = λ ns e. true;
  line = λ ns. numbered (codes "probe growth ") (get_or ns 1 0);
}

abbrev pub growth_shown : ℕ → ℕ → Shown
growth_shown last growth = record { rule = growth_rule; noted = last ∷ growth ∷ [] }

-- the limit: an entry with more words is the last that is told
abbrev pub limit_rule : Rule
limit_rule = record {
  after = λ ns e. ns;
  wants_more = λ ns e. nat_le e.words (get_or ns 0 0);
  line = λ ns. numbered (codes "probe limit ") (get_or ns 0 0) ++ codes " kept";
}

abbrev pub limit_shown : ℕ → Shown
limit_shown limit = record { rule = limit_rule; noted = limit ∷ [] }

-- ---- how often each label was told

-- once more, for a label that has a count; a count that is the greatest of 64 bits stands still
abbrev pub counted : List ℕ → ℕ → List ℕ
counted ns l = if nat_lt l (length ns) then slice_set ns l (min (get_or ns l 0 + 1) (2 ^ 64 - 1)) else ns

-- the greatest of the numbers, or 0
abbrev pub greatest : List ℕ → ℕ
greatest [] = 0
greatest (n ∷ ns) = max n (greatest ns)

-- the first place of the greatest number, or 0
abbrev pub first_greatest : List ℕ → ℕ
first_greatest ns = unwrap_or (position_from (λ n. n == greatest ns) 0 ns) 0

abbrev pub label_rule : Rule
label_rule = record {
  after = λ ns e. counted ns e.label.0;
  wants_more = λ ns e. true;
  line = λ ns. numbered (codes "probe busiest ") (first_greatest ns) ++ numbered (codes " times ") (greatest ns);
}

abbrev pub label_shown : List ℕ → Shown
label_shown counts = record { rule = label_rule; noted = counts }
