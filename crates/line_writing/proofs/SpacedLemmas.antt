-- How fields that are appended one by one make a line.
use Rattle.std.proofs.Common.{◌≡◌, ◌++◌, ◌+◌, ◌<◌, ℕ, List, [], ◌∷◌, length, get_or, take, codes, refl, ap, ◌∙◌, sym, append_assoc}
use Rattle.std.specs.List.{join_with_byte}
use Rattle.std.proofs.lemmas.List.{append-nil, take_more}
use Rattle.libyaml_types.specs.declared.directive.yaml_tag_directive_t.{yaml_tag_directive_t}
use Rattle.line_writing.specs.FieldTexts.{line_text, line_rest, after_spaces, directive_fields, string_text}

pub join-spaced : (x : List ℕ) (xs : List (List ℕ)) → join_with_byte 0x20 (x ∷ xs) ≡ x ++ after_spaces xs
join-spaced x [] = sym (append-nil x)
join-spaced x (y ∷ ys) = ap (λ l. x ++ (0x20 ∷ l)) (join-spaced y ys)

pub line_text-spaced : (x : List ℕ) (xs : List (List ℕ)) → line_text (x ∷ xs) ≡ x ++ (after_spaces xs ++ codes "\n")
line_text-spaced x xs = ap (λ l. l ++ codes "\n") (join-spaced x xs) ∙ append_assoc x (after_spaces xs) (codes "\n")

pub after_spaces-append : (xs ys : List (List ℕ)) → after_spaces (xs ++ ys) ≡ after_spaces xs ++ after_spaces ys
after_spaces-append [] ys = refl
after_spaces-append (x ∷ xs) ys =
    ap (λ l. 0x20 ∷ (x ++ l)) (after_spaces-append xs ys)
    ∙ ap (λ l. 0x20 ∷ l) (sym (append_assoc x (after_spaces xs) (after_spaces ys)))

pub directive_fields-append : (xs ys : List yaml_tag_directive_t) → directive_fields (xs ++ ys) ≡ directive_fields xs
    ++ directive_fields ys
directive_fields-append [] ys = refl
directive_fields-append (x ∷ xs) ys = ap (λ l. string_text x.handle ∷ string_text x.prefix ∷ l)
    (directive_fields-append xs ys)

-- one more directive
pub directive_fields-more : (ds : List yaml_tag_directive_t) (i : ℕ) (d : yaml_tag_directive_t) → i < length ds
    → after_spaces (directive_fields (take (i + 1) ds)) ≡ after_spaces (directive_fields (take i ds))
    ++ after_spaces (string_text (get_or ds i d).handle ∷ string_text (get_or ds i d).prefix ∷ [])
directive_fields-more ds i d within =
    ap (λ l. after_spaces (directive_fields l)) (take_more ds i d within)
    ∙ ap after_spaces (directive_fields-append (take i ds) (get_or ds i d ∷ []))
    ∙ after_spaces-append (directive_fields (take i ds))
    (string_text (get_or ds i d).handle ∷ string_text (get_or ds i d).prefix ∷ [])

regroup : (old first start middle rest end : List ℕ)
    → ((old ++ (first ++ start)) ++ middle) ++ (rest ++ end) ≡ old ++ (first ++ ((start ++ (middle ++ rest)) ++ end))
regroup old first start middle rest end = simp append_assoc

-- the first fields of a line, some others, and the rest with the line feed, one after the other
pub line_appended : (old l1 l2 l3 first : List ℕ) (start middle rest : List (List ℕ))
    → l1 ≡ old ++ (first ++ after_spaces start)
    → l2 ≡ l1 ++ after_spaces middle → l3 ≡ l2 ++ line_rest rest
    → l3 ≡ old ++ line_text (first ∷ (start ++ (middle ++ rest)))
line_appended old l1 l2 l3 first start middle rest e1 e2 e3 =
    e3 ∙ ap (λ l. l ++ line_rest rest) (e2 ∙ ap (λ l. l ++ after_spaces middle) e1)
    ∙ regroup old first (after_spaces start) (after_spaces middle) (after_spaces rest) (codes "\n")
    ∙ ap (λ l. old ++ (first ++ ((after_spaces start ++ l) ++ codes "\n"))) (sym (after_spaces-append middle rest))
    ∙ ap (λ l. old ++ (first ++ (l ++ codes "\n"))) (sym (after_spaces-append start (middle ++ rest)))
    ∙ ap (λ l. old ++ l) (sym (line_text-spaced first (start ++ (middle ++ rest))))
