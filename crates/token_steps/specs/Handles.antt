-- A document's handles, in the caller's memory.
use Rattle.std.specs.Prelude.{◌≤◌, ◌+◌, ◌∷◌, ℕ, List, [], Option, None, Some, cond, take, drop, length, bytes_eq}
use Rattle.std.specs.FinMap.{from_entries}
use Rattle.libyaml_events.specs.machine.Config.{Handles}
use Rattle.token_steps.specs.declared.tags.handles.text_t.{text_t}
use Rattle.token_steps.specs.declared.tags.handles.handle_t.{handle_t}

-- the bytes of a range; where it goes past the end, those that there are
abbrev pub bytes_at : List ℕ → text_t → List ℕ
bytes_at texts t = take t.length (drop t.place texts)

abbrev pub entries_at : List ℕ → List handle_t → List (List ℕ × List ℕ)
entries_at texts [] = []
entries_at texts (e ∷ es) = (bytes_at texts e.handle, bytes_at texts e.prefix) ∷ entries_at texts es

-- the map that these records stand for
abbrev pub handles_at : List ℕ → List handle_t → Handles
handles_at texts es = from_entries (entries_at texts es)

-- the prefix of the first record with this handle
abbrev pub prefix_in : List ℕ → List handle_t → List ℕ → Option (List ℕ)
prefix_in texts [] h = None
prefix_in texts (e ∷ es) h = cond (bytes_eq (bytes_at texts e.handle) h) (Some (bytes_at texts e.prefix))
    (prefix_in texts es h)

abbrev pub AreHandlesWithin : List ℕ → List handle_t → Type 0
AreHandlesWithin texts [] = Unit {0}
AreHandlesWithin texts (e ∷ es) = (e.handle.place + e.handle.length ≤ length texts)
    × ((e.prefix.place + e.prefix.length ≤ length texts) × AreHandlesWithin texts es)
