use Rattle.std.proofs.Common.{◌≡◌, ◌++◌, [], ◌∷◌, OnOk, Ok, Err, Result, List, ℕ, true, nat_eq, is_ok, if◌then◌else◌, codes, refl, ap, ◌∙◌, sym}
use Rattle.std.specs.Cmp.Lexicographic.{pointwise, same_text}
use Rattle.line_writing.specs.Escape.{escaped}
use Rattle.line_writing.specs.FieldTexts.{after_spaces, string_text}
use Rattle.line_writing.proofs.document_text.append_tag.Goals as goal

scalar_tag : after_spaces (string_text (codes "tag:yaml.org,2002:str") ∷ []) ≡ codes " =tag:yaml.org,2002:str"
unfolding escaped
scalar_tag = refl

sequence_tag : after_spaces (string_text (codes "tag:yaml.org,2002:seq") ∷ []) ≡ codes " =tag:yaml.org,2002:seq"
unfolding escaped
sequence_tag = refl

mapping_tag : after_spaces (string_text (codes "tag:yaml.org,2002:map") ∷ []) ≡ codes " =tag:yaml.org,2002:map"
unfolding escaped
mapping_tag = refl

-- a tag that was found to be the default
pushed : {X E : Type 0} (old new read tag default text : List ℕ) (r : Result X E)
    → after_spaces (string_text default ∷ []) ≡ text
    → true ≡ pointwise nat_eq read default → read ≡ tag → new ≡ (if is_ok r then old ++ text else old)
    → OnOk r (new ≡ old ++ after_spaces (string_text tag ∷ []))
pushed old new read tag default text (Err e) written equal is grown = tt
pushed old new read tag default text (Ok x) written equal is grown =
    grown ∙ ap (λ l. old ++ l)
    (sym written ∙ ap (λ t. after_spaces (string_text t ∷ [])) (sym (same_text read default equal) ∙ is))

pub returns-in-Scalar : goal.returns-in-Scalar
returns-in-Scalar c = rw (← c.node.view_is)
    (pushed _ _ _ _ _ _ c.push_str.result scalar_tag c.if-eq.ensures c.as_str-tag.ensures.value c.push_str.ensures.bytes)

pub returns-in-Sequence : goal.returns-in-Sequence
returns-in-Sequence c =
    let push = c.push_str-in-Sequence in
    rw (← c.node.view_is) (pushed _ _ _ _ _ _ push.result sequence_tag c.if-eq-2.ensures c.as_str-tag.ensures.value
    push.ensures.bytes)

pub returns-in-Mapping : goal.returns-in-Mapping
returns-in-Mapping c =
    let push = c.push_str-in-Mapping in
    rw (← c.node.view_is) (pushed _ _ _ _ _ _ push.result mapping_tag c.if-eq-3.ensures c.as_str-tag.ensures.value
    push.ensures.bytes)
