-- The loader as a machine, event by event: what whoever loops over events needs of it.
use Rattle.std.proofs.Common.{◌≡◌, ℕ, List, [], ◌∷◌, refl, ap, Option, Some, None, Ok, Err}
use Rattle.libyaml_grammar.specs.grammar.Events.{Event}
use Rattle.libyaml_types.specs.Fault.{Fault}
use Rattle.libyaml_grammar.specs.runs.Runs.{Ending}
use Rattle.libyaml_graphs.specs.machine.Loader.{Loader, State, between, bounded_option, fresh, if_going, left_from, load_from, within}
use Rattle.libyaml_graphs.specs.loads.Loads.{Begun, Load, begun, begun_after, document, last_load, left_by}
use Rattle.libyaml_graphs.specs.graphs.GraphParts.{Closing, Opening, Part, closing_of, opening_of, part_of}

-- One load, and what it leaves, by the kind of the next event.
pub nothing_left : (n : ℕ) (s : State) (x : Ending) → load_from n s [] x ≡ last_load x
nothing_left n between x = refl
nothing_left n (within o l) x = refl

abbrev documents_at : List Event → Option Opening → List Begun
documents_at r c = elim c [ None ↦ begun r | Some o ↦ record { opening = o; rest = r } ∷ begun_after r ]

pub passes_left : (e : Event) (r : List Event) → opening_of e ≡ None → left_from between (e ∷ r) ≡ left_from between r
passes_left e r h = ap (λ (c : Option Opening). left_by (documents_at r c)) h

pub opens : (n : ℕ) (e : Event) (r : List Event) (x : Ending) (o : Opening) → opening_of e ≡ Some o
    → load_from n between (e ∷ r) x ≡ load_from n (within o fresh) r x
opens n e r x o h = ap (λ (c : Option Opening). elim c
    [ None ↦ load_from n between r x | Some p ↦ load_from n (within p fresh) r x ]) h

pub opens_left : (e : Event) (r : List Event) (o : Opening) → opening_of e ≡ Some o
    → left_from between (e ∷ r) ≡ left_from (within o fresh) r
opens_left e r o h = ap (λ (c : Option Opening). left_by (documents_at r c)) h

-- what an event within a document does, by its end of a document and its part
abbrev pub within_event : ℕ → Opening → Loader → List Event → Ending → Option Closing → Option Part → Load
within_event n o l r x c p = elim c [
  | Some d ↦ Ok (document o l.nodes d)
  | None ↦ if_going (λ (f : Fault). Err f) (bounded_option n l p) (λ (k : Loader). load_from n (within o k) r x)
]

pub closes : (n : ℕ) (o : Opening) (l : Loader) (e : Event) (r : List Event) (x : Ending) (c : Closing)
    → closing_of e ≡ Some c
    → load_from n (within o l) (e ∷ r) x ≡ Ok (document o l.nodes c)
closes n o l e r x c h = ap (λ (d : Option Closing). within_event n o l r x d (part_of e)) h

pub closes_left : (o : Opening) (l : Loader) (e : Event) (r : List Event) (c : Closing) → closing_of e ≡ Some c
    → left_from (within o l) (e ∷ r) ≡ r
closes_left o l e r c h = ap (λ (d : Option Closing). elim d [ Some y ↦ r | None ↦ left_from (within o l) r ]) h

pub goes_on_left : (o : Opening) (l k : Loader) (e : Event) (r : List Event) → closing_of e ≡ None
    → left_from (within o l) (e ∷ r) ≡ left_from (within o k) r
goes_on_left o l k e r h = ap (λ (d : Option Closing). elim d [ Some y ↦ r | None ↦ left_from (within o k) r ]) h
