use Rattle.std.proofs.Common.{◌≡◌, ◌≤◌, ◌-◌, ◌++◌, ℕ, List, [], ◌∷◌, length, length-drop, take, drop, arith, ◌∙◌, ap, sym, subst, IsAscii, Result, Ok, Err, OnOk, is_ok, if◌then◌else◌}
use Rattle.std.proofs.lemmas.List.{append-nil, take_all}
use Rattle.std.proofs.lemmas.Str.{IsAscii-append}
use Rattle.std.proofs.lemmas.Str.Ascii.{IsAscii-cons, IsAscii-nil}
use Rattle.line_writing.specs.FieldTexts.{after_spaces}
use Rattle.line_writing.proofs.SpacedLemmas.{after_spaces-append}
use Rattle.line_writing.proofs.marks.append_marks.Goals as goal

-- what is at the end of the text, one mark after the other
gathered : (text before m1 m2 : List ℕ) (n from : ℕ) → length text ≤ n → drop from text ≡ after_spaces (m1 ∷ []) ++ before
    → before ≡ after_spaces (m2 ∷ []) ++ []
    → take (n - from) (drop from text) ≡ after_spaces (m1 ∷ m2 ∷ [])
gathered text before m1 m2 n from long first second =
    take_all (n - from) (drop from text) (omega (arith, length-drop from text)) ∙ first
    ∙ ap (λ l. after_spaces (m1 ∷ []) ++ l) (second ∙ append-nil _)
    ∙ sym (after_spaces-append (m1 ∷ []) (m2 ∷ []))

ascii_marks : (m1 m2 : List ℕ) → IsAscii m1 → IsAscii m2 → IsAscii (after_spaces (m1 ∷ m2 ∷ []))
ascii_marks m1 m2 a b =
    IsAscii-cons 0x20 (m1 ++ after_spaces (m2 ∷ [])) (omega arith)
    (IsAscii-append m1 (after_spaces (m2 ∷ [])) a
    (IsAscii-cons 0x20 (m2 ++ []) (omega arith) (IsAscii-append m2 [] b IsAscii-nil)))

pushed : {X E : Type 0} (old new text wanted : List ℕ) (r : Result X E) → text ≡ wanted
    → new ≡ (if is_ok r then old ++ text else old)
    → OnOk r (new ≡ old ++ wanted)
pushed old new text wanted (Err e) same is = tt
pushed old new text wanted (Ok x) same is = is ∙ ap (λ l. old ++ l) same

pub ascii_str-requires : goal.ascii_str-requires
ascii_str-requires c =
    let end = c.write_mark-from in
    let start = c.write_mark-from-2 in
    let text = gathered start.new.text _ _ _ 126 start.result (omega (arith, start.auto.text, end.auto.text))
    start.ensures.written end.ensures.written in
    subst IsAscii (sym text) (ascii_marks _ _ start.ensures.ascii end.ensures.ascii)

pub returns : goal.returns
returns c =
    let end = c.write_mark-from in
    let start = c.write_mark-from-2 in
    let text = gathered start.new.text _ _ _ 126 start.result (omega (arith, start.auto.text, end.auto.text))
    start.ensures.written end.ensures.written in
    pushed _ _ _ _ c.push_str.result (c.ascii_str.ensures ∙ text) c.push_str.ensures.bytes
