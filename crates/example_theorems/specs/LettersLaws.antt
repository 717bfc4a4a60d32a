-- the source of a text keeps the laws of a source
use Rattle.std.proofs.Common.{◌≡◌, ◌+◌, List, [], ◌∷◌, Some, Ok, Err, length, refl, ap, sym, ◌∙◌, inl, add-one}
use Rattle.unsafe_libyaml.specs.Fault.{Fault, SourceResult, memory_fault}
use Rattle.unsafe_libyaml.specs.Source.{Coming, coming, Follows, FollowsList}
use Rattle.unsafe_libyaml.specs.Tokens.{Token}
use Rattle.example_theorems.specs.Letters.{LettersGive}

pub letters_fall : (s t : Coming) (token : Token) → LettersGive s (Ok token) t → length s.tokens ≡ length t.tokens + 1
letters_fall s t token h = ap length h.0 ∙ sym (add-one _)

letters_rest_is : (ts : List Token) (f : Fault) (t : Coming) → t.tokens ≡ ts → t.fault ≡ f → t ≡ coming ts f
letters_rest_is ts f t e h = ap (λ us. coming us t.fault) e ∙ ap (coming ts) h

letters_follow_at : (ts : List Token) (f : Fault) (t : Coming) (answer : SourceResult) → LettersGive (coming ts f) answer t
    → FollowsList (λ fault. fault ≡ memory_fault) ts f answer (Some t)
letters_follow_at [] f t (Ok u) h = cc (h.0)
letters_follow_at [] f t (Err e) h = (inl (h.1 refl), ap Some h.0)
letters_follow_at (v ∷ ts) f t (Ok u) h = (cc (h.0), ap Some (letters_rest_is ts f t (cc (h.0)) h.1))
letters_follow_at (v ∷ ts) f t (Err e) h = (h.2 (λ e. cc), ap Some h.0)

pub letters_follow : (s t : Coming) (answer : SourceResult) → LettersGive s answer t
    → Follows (λ fault. fault ≡ memory_fault) (Some s) answer (Some t)
letters_follow s t answer h = letters_follow_at s.tokens s.fault t answer h

letters_ended : (t u : Coming) (fault : Fault) (answer : SourceResult) → t ≡ coming [] fault → LettersGive t answer u → answer ≡ Err fault
letters_ended t u fault (Ok token) e k = cc (k.0, ap (λ (c : Coming). c.tokens) e)
letters_ended t u fault (Err f) e k = ap Err (k.1 (ap (λ (c : Coming). c.tokens) e) ∙ ap (λ (c : Coming). c.fault) e)

pub letters_repeat : (s t u : Coming) (fault : Fault) (answer : SourceResult) → LettersGive s (Err fault) t → LettersGive t answer u
    → answer ≡ Err fault
letters_repeat s t u fault answer h k = letters_ended t u fault answer h.0 k
