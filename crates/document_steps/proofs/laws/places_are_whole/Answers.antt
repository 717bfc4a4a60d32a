use Rattle.document_steps.proofs.Places.{places}
use Rattle.document_steps.proofs.laws.places_are_whole.Goals as goal

pub returns : goal.returns
returns c = places
