-- a list source keeps the laws of a source
use Rattle.std.proofs.Common.{◌≡◌, ◌+◌, List, [], ◌∷◌, Some, Ok, Err, length, refl, ap, sym, ◌∙◌, inl, add-one}
use Rattle.libyaml_types.specs.declared.token.yaml_token_t.{yaml_token_t}
use Rattle.libyaml_types.specs.Fault.{Fault, SourceResult}
use Rattle.libyaml_types.specs.Source.{Coming, coming, Follows, FollowsList, list_answer, rest_of_list}

falls_at : (ts : List yaml_token_t) (f : Fault) (token : yaml_token_t) → Ok token ≡ list_answer ts f
    → length ts ≡ length (rest_of_list ts) + 1
falls_at [] f token e = cc
falls_at (t ∷ ts) f token e = sym (add-one _)

pub list_falls : (s t : Coming) (token : yaml_token_t) → (Ok token ≡ list_answer s.tokens s.fault)
    × (t ≡ coming (rest_of_list s.tokens) s.fault)
    → length s.tokens ≡ length t.tokens + 1
list_falls s t token h = falls_at s.tokens s.fault token h.0 ∙ ap (λ (c : Coming). length c.tokens + 1) (sym h.1)

follows_at : (P : Fault → Type 0) (ts : List yaml_token_t) (f : Fault) (answer : SourceResult) → answer ≡ list_answer ts f
    → FollowsList P ts f answer (Some (coming (rest_of_list ts) f))
follows_at P [] f (Ok t) e = cc
follows_at P [] f (Err e') e = (inl (cc), ap (λ x. Some (coming [] x)) (cc))
follows_at P (t ∷ ts) f (Ok u) e = (cc, refl)
follows_at P (t ∷ ts) f (Err e') e = cc

pub list_follows : (P : Fault → Type 0) (s t : Coming) (answer : SourceResult) → (answer ≡ list_answer s.tokens s.fault)
    × (t ≡ coming (rest_of_list s.tokens) s.fault) → Follows P (Some s) answer (Some t)
list_follows P s t answer h = rw h.1 (follows_at P s.tokens s.fault answer h.0)

repeats_at : (ts : List yaml_token_t) (f g : Fault) (answer : SourceResult) → Err g ≡ list_answer ts f
    → answer ≡ list_answer (rest_of_list ts) f → answer ≡ Err g
repeats_at [] f g answer e h = h ∙ sym e
repeats_at (t ∷ ts) f g answer e h = cc

pub list_repeats : (s t u : Coming) (fault : Fault) (answer : SourceResult) → (Err fault ≡ list_answer s.tokens s.fault)
    × (t ≡ coming (rest_of_list s.tokens) s.fault) → (answer ≡ list_answer t.tokens t.fault)
    × (u ≡ coming (rest_of_list t.tokens) t.fault)
    → answer ≡ Err fault
list_repeats s t u fault answer h k = repeats_at s.tokens s.fault fault answer h.0
    (k.0 ∙ ap (λ (c : Coming). list_answer c.tokens c.fault) h.1)
