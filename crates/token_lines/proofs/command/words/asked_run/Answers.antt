use Rattle.std.proofs.Common.{◌≡◌, ◌≤◌, ◌<◌, List, [], ◌∷◌, length, get_or, map, string_bytes, ap, sym, ◌∙◌, arith}
use Rattle.token_lines.specs.Arguments.{asked_run}
use Rattle.token_lines.proofs.command.words.asked_run.Goals as goal

-- a list of length one is its first element
one_element : {A : Type 0} (xs : List A) (x : A) → 1 ≤ length xs → length xs < 2 → x ≡ get_or xs 0 x → xs ≡ x ∷ []
one_element [] x some few e = absurd (omega arith)
one_element (y ∷ []) x some few e = ap (λ z. z ∷ []) (sym e)
one_element (y ∷ z ∷ xs) x some few e = absurd (omega arith)

pub returns-in-len1 : goal.returns-in-len1
returns-in-len1 c =
    let one = one_element c.args.words.now c.word-item.result c.in-len1.len_at_least c.in-len1.len_below c.word-item.is in
    let bytes : map string_bytes c.args.words.now ≡ c.as_str.result.now ∷ [] = ap (map string_bytes) one
    ∙ ap (λ w. w ∷ []) (sym c.as_str.ensures.value) in
    c.run_of.ensures ∙ sym (ap asked_run bytes)
