-- A document's handles in a list.
use Rattle.std.specs.Prelude.{◌∷◌, ℕ, List, [], Option, Some, None, String, bytes_eq, cond, string_bytes}

-- the prefix of the first entry with this handle
abbrev pub first_prefix : {Y : Type 0} → List (String Y × String Y) → List ℕ → Option (List ℕ)
first_prefix [] handle = None
first_prefix (e ∷ es) handle = cond (bytes_eq (string_bytes e.0) handle) (Some (string_bytes e.1)) (first_prefix es handle)
