-- What holds of a load's result holds of the same with a half.
use Rattle.std.proofs.Common.{◌≡◌, Result, Ok, Err, IfOk, IfErr}
use Rattle.libyaml_types.specs.declared.enums.yaml_error_type_t.{yaml_error_type_t}
use Rattle.libyaml_documents.specs.Documents.{Document}
use Rattle.libyaml_loader.specs.declared.load_partial.yaml_partial_t.{yaml_partial_t}
use Rattle.libyaml_loader.specs.loads.PartialLoad.{as_load}

pub if_document : (r : Result Document yaml_partial_t) (P : Document → Type 0) → IfOk (as_load r) P → IfOk r P
if_document (Ok d) P h = h
if_document (Err p) P h = tt

pub if_error : (r : Result Document yaml_partial_t) (x : yaml_error_type_t) (Q : Type 0) → IfErr r (λ p. (p.error ≡ x) × Q)
    → IfErr (as_load r) (λ y. (y ≡ x) × Q)
if_error (Ok d) x Q h = tt
if_error (Err p) x Q h = h
