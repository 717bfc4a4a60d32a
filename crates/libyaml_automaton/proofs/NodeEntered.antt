-- A node that begins at a step, where the step goes on in another function.
use Rattle.std.proofs.Common.{◌≡◌, ◌⊎◌, inl, inr, ◌∙◌, ℕ, List, refl}
use Rattle.libyaml_types.specs.declared.mark.yaml_mark_t.{yaml_mark_t}
use Rattle.libyaml_types.specs.declared.enums.yaml_token_type_t.{yaml_token_type_t}
use Rattle.libyaml_automaton.specs.declared.action.Action.{Action}
use Rattle.libyaml_automaton.specs.declared.action.Action.TheVariants as action
use Rattle.libyaml_automaton.specs.declared.automaton.Automaton.{Automaton}
use Rattle.libyaml_automaton.specs.declared.reading.Reading.{Reading}
use Rattle.libyaml_automaton.specs.Fits.{FitsBare, IsFull, IsNothingDone, Stays}

-- nothing else is undone
pub full_of : (a : Action) (k : yaml_token_type_t) (r : Reading) → FitsBare a k r ⊎ IsFull a → IsNothingDone a → IsFull a
full_of action.FullStates k r f u = tt
full_of action.FullMarks k r f u = tt
full_of _ k r (inr e) u = e
full_of action.Document k r (inl f) u = absurd f
full_of action.AsksContent k r (inl f) u = absurd f
full_of _ k r (inl f) u = absurd u

stays : (a : Action) (r r' : Reading) → IsFull a → r' ≡ r → Stays a r r'
stays action.AsksContent r r' f e = absurd f
stays _ r r' f e = rw e (refl, refl)

-- a node without a state to push lacks room for its mark alone
pub bare_full : (a : Action) (k : yaml_token_type_t) (r : Reading) → FitsBare a k r → IsFull a → a ≡ action.FullMarks
bare_full action.FullStates k r f u = absurd f
bare_full action.FullMarks k r f u = refl
bare_full _ k r f u = absurd u

-- a node that was begun, where its function did nothing
pub undone_at : (a : Action) (m d m' : Automaton) (r s r' : Reading) (states states' : List ℕ) (marks marks' : List yaml_mark_t)
    → d ≡ m → s ≡ r → IsFull a
    → (IsFull a → (m' ≡ d) × ((states' ≡ states) × ((marks' ≡ marks) × (r' ≡ s))))
    → (m' ≡ m) × ((states' ≡ states) × ((marks' ≡ marks) × Stays a r r'))
undone_at a m d m' r s r' states states' marks marks' i j f h =
    let u = h f in
    (u.0 ∙ i, (u.1.0, (u.1.1.0, stays a r r' f (u.1.1.1 ∙ j))))
