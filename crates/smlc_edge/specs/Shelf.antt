-- What a store in memory holds.
use Rattle.std.specs.Prelude.{ℕ, max, List, Option, Some, None, Bool, false, nat_le, bytes_eq, option_and_then, if◌then◌else◌}
use Rattle.std.specs.List.{find, position_from}
use Rattle.std.specs.Option.{option_map, option_map_or}
use Rattle.smlc_edge.specs.declared.calls.Calls.{Calls}
use Rattle.smlc_edge.specs.declared.entry.Entry.{Entry}
use Rattle.smlc_edge.specs.declared.entry.Room.{Room}

-- a store: its entries, and its calls
pub record Shelf : Type 0 where
  pub entries : List Entry
  pub calls : Calls

-- the entry of a name, the first of that name
abbrev pub entry_of : List Entry → List ℕ → Option Entry
entry_of entries name = find (λ (e : Entry). bytes_eq e.name.items name) entries

-- the place of that entry
abbrev pub place_of : List ℕ → List Entry → Option ℕ
place_of name entries = position_from (λ (e : Entry). bytes_eq e.name.items name) 0 entries

abbrev pub held_by : Entry → Option (List ℕ)
held_by e = option_map (λ bytes. bytes.items) e.held

abbrev pub room_by : Entry → Option ℕ
room_by e = option_map (λ (room : Room). room.most) e.room

-- the bytes of a name
abbrev pub file_of : List Entry → List ℕ → Option (List ℕ)
file_of entries name = option_and_then held_by (entry_of entries name)

-- how many bytes may be saved once under a name
abbrev pub room_of : List Entry → List ℕ → Option ℕ
room_of entries name = option_and_then room_by (entry_of entries name)

-- so many bytes may be saved
abbrev pub suffices : ℕ → Option ℕ → Bool
suffices size room = option_map_or (λ most. nat_le size most) room false

-- the greater of the room that there is and so much more
abbrev pub widened : ℕ → Option ℕ → ℕ
widened most None = most
widened most (Some room) = max room most

-- the map with one name changed
abbrev pub changed : {T : Type 0} → (List ℕ → Option T) → List ℕ → Option T → List ℕ → Option T
changed before name value other = if bytes_eq name other then value else before other
