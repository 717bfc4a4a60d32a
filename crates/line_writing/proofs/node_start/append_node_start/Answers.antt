use Rattle.std.proofs.Common.{◌≡◌, ◌≤◌, ◌-◌, ◌++◌, ℕ, List, [], ◌∷◌, length, length-drop, take, drop, decimal, arith, ◌∙◌, ap, sym, subst, IsAscii, Result, Ok, Err, OnOk, is_ok, if◌then◌else◌}
use Rattle.std.proofs.lemmas.Fmt.{IsAscii-decimal, length-decimal-le}
use Rattle.std.proofs.lemmas.List.{append-nil, take_all}
use Rattle.std.proofs.lemmas.Str.{IsAscii-append}
use Rattle.std.proofs.lemmas.Str.Ascii.{IsAscii-cons, IsAscii-nil}
use Rattle.libyaml_documents.specs.declared.node.unnamed_yaml_node_t_data.{unnamed_yaml_node_t_data}
use Rattle.libyaml_documents.specs.declared.node.unnamed_yaml_node_t_data.TheVariants.{Scalar, Sequence, Mapping}
use Rattle.line_writing.specs.DocumentText.{node_name}
use Rattle.line_writing.specs.FieldTexts.{after_spaces}
use Rattle.line_writing.proofs.SpacedLemmas.{after_spaces-append}
use Rattle.line_writing.proofs.node_start.append_node_start.Goals as goal

-- what is at the end of the text, one piece after the other
gathered : (text b3 b2 b1 id name m1 m2 : List ℕ) (n from : ℕ) → length text ≤ n → drop from text ≡ id ++ b3
    → b3 ≡ after_spaces (name ∷ []) ++ b2
    → b2 ≡ after_spaces (m1 ∷ []) ++ b1 → b1 ≡ after_spaces (m2 ∷ []) ++ []
    → take (n - from) (drop from text) ≡ id ++ after_spaces (name ∷ m1 ∷ m2 ∷ [])
gathered text b3 b2 b1 id name m1 m2 n from long e4 e3 e2 e1 =
    take_all (n - from) (drop from text) (omega (arith, length-drop from text))
    ∙ e4 ∙ ap (λ l. id ++ l) (e3 ∙ ap (λ l. after_spaces (name ∷ []) ++ l)
    (e2 ∙ ap (λ l. after_spaces (m1 ∷ []) ++ l) (e1 ∙ append-nil _)))
    ∙ ap (λ l. id ++ (after_spaces (name ∷ []) ++ l)) (sym (after_spaces-append (m1 ∷ []) (m2 ∷ [])))
    ∙ ap (λ l. id ++ l) (sym (after_spaces-append (name ∷ []) (m1 ∷ m2 ∷ [])))

ascii_name : (content : unnamed_yaml_node_t_data) → IsAscii (node_name content)
ascii_name (Scalar s) = λ i. grind arith
ascii_name (Sequence s) = λ i. grind arith
ascii_name (Mapping m) = λ i. grind arith

ascii_spaced : (field rest : List ℕ) → IsAscii field → IsAscii rest → IsAscii (0x20 ∷ (field ++ rest))
ascii_spaced field rest a b = IsAscii-cons 0x20 (field ++ rest) (omega arith) (IsAscii-append field rest a b)

ascii_front : (id name m1 m2 : List ℕ) → IsAscii id → IsAscii name → IsAscii m1 → IsAscii m2
    → IsAscii (id ++ after_spaces (name ∷ m1 ∷ m2 ∷ []))
ascii_front id name m1 m2 a b c d =
    let marks = ascii_spaced m1 (after_spaces (m2 ∷ [])) c (ascii_spaced m2 [] d IsAscii-nil) in
    IsAscii-append id (after_spaces (name ∷ m1 ∷ m2 ∷ [])) a (ascii_spaced name (after_spaces (m1 ∷ m2 ∷ [])) b marks)

pushed : {X E : Type 0} (old new text wanted : List ℕ) (r : Result X E) → text ≡ wanted
    → new ≡ (if is_ok r then old ++ text else old)
    → OnOk r (new ≡ old ++ wanted)
pushed old new text wanted (Err e) same is = tt
pushed old new text wanted (Ok x) same is = is ∙ ap (λ l. old ++ l) same

pub write_digits-from-requires : goal.write_digits-from-requires
write_digits-from-requires c =
    let short : length (decimal c.args.id) ≤ 20 = length-decimal-le 20 c.args.id (omega arith) (omega arith)
    (omega arith) in
    (omega arith, omega arith)

pub ascii_str-requires : goal.ascii_str-requires
ascii_str-requires c =
    let small = IsAscii-decimal c.args.id (omega (arith, c.ranges.id)) in
    let end = c.write_mark-from in
    let start = c.write_mark-from-2 in
    let name = c.write_name-from in
    let id = c.write_digits-from in
    let text = gathered id.new.buf _ _ _ _ _ _ _ 155 id.result
    (omega (arith, id.auto.buf, name.auto.text, start.auto.text, end.auto.text)) id.ensures.written
    name.ensures.written start.ensures.written end.ensures.written in
    subst IsAscii (sym text) (ascii_front _ _ _ _ small (ascii_name c.node.inside.content) start.ensures.ascii
    end.ensures.ascii)

pub returns : goal.returns
returns c =
    let end = c.write_mark-from in
    let start = c.write_mark-from-2 in
    let name = c.write_name-from in
    let id = c.write_digits-from in
    let text = gathered id.new.buf _ _ _ _ _ _ _ 155 id.result
    (omega (arith, id.auto.buf, name.auto.text, start.auto.text, end.auto.text)) id.ensures.written
    name.ensures.written start.ensures.written end.ensures.written in
    rw (← c.node.view_is) (pushed _ _ _ _ c.push_str.result (c.ascii_str.ensures ∙ text) c.push_str.ensures.bytes)
