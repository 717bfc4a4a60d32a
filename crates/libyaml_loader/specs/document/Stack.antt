-- The composer as a loader keeps it.
use Rattle.std.specs.Prelude.{◌∷◌, ℕ, List, [], Option, Some, None, Bool, true, false}
use Rattle.libyaml_composer.specs.declared.records.open_t.{open_t}
use Rattle.libyaml_composer.specs.Composing.{Composer}
use Rattle.libyaml_composer.specs.Numbers.{is_id}

-- before a stream's first document
abbrev pub first_composer : ℕ → Composer
first_composer most = record { is_within = false; nodes = 0; most = most; room = 0; stack = [] }

-- a document begins
abbrev pub with_document_begun : Composer → Composer
with_document_begun c = record c { is_within = true; nodes = 0; stack = [] }

-- with room for so many collections
abbrev pub roomy : ℕ → Composer → Composer
roomy room c = record c { room = room }

-- whether a key waits in the innermost open collection, if one is open
abbrev pub waits_in : List open_t → Option Bool
waits_in [] = None
waits_in (o ∷ s) = Some (is_id o.key)
