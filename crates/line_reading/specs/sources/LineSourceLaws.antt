-- a line source keeps the laws of a source
use Rattle.std.proofs.Common.{◌≡◌, ◌<◌, ◌≤◌, ℕ, ◌+◌, ◌-◌, List, [], ◌∷◌, Option, Some, None, Ok, Err, refl, ap, sym, ◌∙◌, subst, arith, inl, inr}
use Rattle.std.proofs.lemmas.Bool.{lt-ltb, le-ltb, cases_lt}
use Rattle.libyaml_types.specs.declared.token.yaml_token_t.{yaml_token_t}
use Rattle.libyaml_types.specs.Fault.{Fault, SourceResult}
use Rattle.libyaml_types.specs.Source.{Coming, coming, Follows, FollowsList}
use Rattle.line_reading.specs.declared.line_problem.LineProblem.TheVariants.{TooManyTokens, NoMoreTokens}
use Rattle.line_reading.specs.sources.LineFault.{line_fault}
use Rattle.line_reading.specs.sources.LineLaws.{lines_after}
use Rattle.line_reading.specs.sources.ReadLines.{lines, after_line, line_answer, coming_after, coming_from}
use Rattle.line_reading.specs.sources.NextLine.{first_answer, LineAnswer, BreaksOffAt}
use Rattle.line_reading.specs.sources.LineSource.{LineSource, GivesBy, Gives, coming_of, known_by, known_of, BreaksOff, answer_tokens, answer_fault}

no_token : (token : yaml_token_t) (fault : Fault) → Ok token ≡ Err fault → ⊥
no_token token fault e = cc

falls_by : {R : Type 0} (remaining : R → Option (List ℕ)) (s t : LineSource R) (token : yaml_token_t) (kept : Option Fault)
    → GivesBy kept remaining s (Ok token) t → s.max_tokens - s.given ≡ t.max_tokens - t.given + 1
falls_by remaining s t token (Some fault) h = cc (h.0)
falls_by remaining s t token None h
    = elim (cases_lt s.given s.max_tokens)
    [ inl below_most ↦ omega (arith, h.given, h.max_tokens) | inr bound ↦ absurd (no_token _ _ (h.at_bound bound)) ]

pub source_falls : {R : Type 0} (remaining : R → Option (List ℕ)) (s t : LineSource R) (token : yaml_token_t)
    → Gives remaining s (Ok token) t
    → s.max_tokens - s.given ≡ t.max_tokens - t.given + 1
source_falls remaining s t token h = falls_by remaining s t token s.fault h

repeats_by : {R : Type 0} (remaining : R → Option (List ℕ)) (t u : LineSource R) (fault : Fault) (answer : SourceResult)
    (kept : Option Fault) → kept ≡ Some fault
    → GivesBy kept remaining t answer u → answer ≡ Err fault
repeats_by remaining t u fault answer None e k = cc
repeats_by remaining t u fault answer (Some f) e k = cc (e, k.0)

kept_by : {R : Type 0} (remaining : R → Option (List ℕ)) (s t : LineSource R) (fault : Fault) (kept : Option Fault)
    → kept ≡ s.fault
    → GivesBy kept remaining s (Err fault) t → t.fault ≡ Some fault
kept_by remaining s t fault None e h = h.fault
kept_by remaining s t fault (Some f) e h = ap (λ x. x.fault) h.1 ∙ sym e ∙ (cc (h.0))

pub source_repeats : {R : Type 0} (remaining : R → Option (List ℕ)) (s t u : LineSource R) (fault : Fault)
    (answer : SourceResult) → Gives remaining s (Err fault) t
    → Gives remaining t answer u → answer ≡ Err fault
source_repeats remaining s t u fault answer h k = repeats_by remaining t u fault answer t.fault
    (kept_by remaining s t fault s.fault refl h) k

-- an error by which a source fails early
break_off : (MayBreak : Fault → Type 0) (tokens : List yaml_token_t) (end fault : Fault) (after : Option Coming)
    → MayBreak fault
    → after ≡ Some (coming [] fault) → FollowsList MayBreak tokens end (Err fault) after
break_off MayBreak [] end fault after h e = (inr h, e)
break_off MayBreak (t ∷ ts) end fault after h e = (h, e)

-- the error of a list that has no token
end_fault : (MayBreak : Fault → Type 0) (c : Coming) (fault : Fault) (after : Option Coming) → c ≡ coming [] fault
    → after ≡ Some (coming [] fault)
    → Follows MayBreak (Some c) (Err fault) after
end_fault MayBreak c fault after h e = rw h (inl refl, e)

at_bound : (n max : ℕ) (ls : List (List ℕ)) → max ≤ n → coming_from n max ls ≡ coming [] (line_fault TooManyTokens n)
at_bound n max [] h = rw (le-ltb n max h) refl
at_bound n max (l ∷ ls) h = rw (le-ltb n max h) refl

below_most : (n max : ℕ) (l : List ℕ) (ls : List (List ℕ)) → n < max
    → coming_from n max (l ∷ ls) ≡ coming_after (line_answer n l) (coming_from (n + 1) max ls)
below_most n max l ls h = rw (lt-ltb n max h) refl

follows_fault : (MayBreak : Fault → Type 0) (n max : ℕ) (ls : List (List ℕ)) (fault : Fault) (after : Option Coming)
    → n < max → first_answer n ls ≡ Err fault
    → after ≡ Some (coming [] fault) → Follows MayBreak (Some (coming_from n max ls)) (Err fault) after
follows_fault MayBreak n max [] fault after h a e =
    let same : line_fault NoMoreTokens n ≡ fault = cc in
    end_fault MayBreak (coming_from n max []) fault after (rw (lt-ltb n max h) (ap (coming []) same)) e
follows_fault MayBreak n max (l ∷ ls) fault after h a e
    = end_fault MayBreak _ fault after (below_most n max l ls h ∙ ap (λ x. coming_after x (coming_from (n + 1) max ls)) a) e

follows_token : (MayBreak : Fault → Type 0) (n max : ℕ) (ls : List (List ℕ)) (token : yaml_token_t) (bytes : List ℕ)
    (after : Option Coming) → n < max
    → lines bytes ≡ ls → first_answer n ls ≡ Ok token → after ≡ Some (coming_from (n + 1) max (lines (after_line bytes)))
    → Follows MayBreak (Some (coming_from n max ls)) (Ok token) after
follows_token MayBreak n max [] token bytes after h is a e = cc
follows_token MayBreak n max (l ∷ ls) token bytes after h is a e =
    rw (below_most n max l ls h, a) (refl, e ∙ ap (λ x. Some (coming_from (n + 1) max x)) (sym (lines_after bytes l ls is)))

known_kept : {R : Type 0} (remaining : R → Option (List ℕ)) (t : LineSource R) (fault : Fault) → t.fault ≡ Some fault
    → known_of remaining t ≡ Some (coming [] fault)
known_kept remaining t fault e = ap (λ k. known_by k (remaining t.reader) t.given t.max_tokens) e

known_read : {R : Type 0} (remaining : R → Option (List ℕ)) (t : LineSource R) (n max : ℕ) (bytes : List ℕ)
    → t.fault ≡ None → remaining t.reader ≡ Some bytes
    → t.given ≡ n → t.max_tokens ≡ max → known_of remaining t ≡ Some (coming_from n max (lines bytes))
known_read remaining t n max bytes f r g m = (λ i. known_by (f i) (r i) (g i) (m i))

follows_kept : {R : Type 0} (MayBreak : Fault → Type 0) (remaining : R → Option (List ℕ)) (t : LineSource R)
    (fault : Fault) (answer : SourceResult)
    → answer ≡ Err fault → t.fault ≡ Some fault → Follows MayBreak (Some (coming [] fault)) answer (known_of remaining t)
follows_kept MayBreak remaining t fault answer a e = rw a (inl refl, known_kept remaining t fault e)

follows_bound : {R : Type 0} (MayBreak : Fault → Type 0) (remaining : R
    → Option (List ℕ)) (t : LineSource R) (n max : ℕ) (before : Option (List ℕ)) (answer : SourceResult) → max ≤ n
    → answer ≡ Err (line_fault TooManyTokens n)
    → t.fault ≡ answer_fault answer → Follows MayBreak (coming_of before n max) answer (known_of remaining t)
follows_bound MayBreak remaining t n max None answer h a f = tt
follows_bound MayBreak remaining t n max (Some bytes) answer h a f =
    rw (at_bound n max (lines bytes) h)
    (follows_kept MayBreak remaining t (line_fault TooManyTokens n) answer a (f ∙ ap answer_fault a))

follows_below : {R : Type 0} (remaining : R → Option (List ℕ)) (t : LineSource R) (n max : ℕ)
    (before : Option (List ℕ)) (answer : SourceResult) → n < max
    → LineAnswer before n answer (remaining t.reader) → t.given ≡ n + answer_tokens answer → t.max_tokens ≡ max
    → t.fault ≡ answer_fault answer
    → Follows (BreaksOff t) (coming_of before n max) answer (known_of remaining t)
follows_below remaining t n max None answer h a g m f = tt
follows_below remaining t n max (Some bytes) (Ok token) h a g m f =
    follows_token (BreaksOff t) n max (lines bytes) token bytes _ h refl a.0
    (known_read remaining t (n + 1) max (after_line bytes) f a.1 g m)
follows_below remaining t n max (Some bytes) (Err fault) h (inl a) g m f =
    follows_fault (BreaksOff t) n max (lines bytes) fault _ h a (known_kept remaining t fault f)
follows_below remaining t n max (Some bytes) (Err fault) h (inr a) g m f =
    let same : n ≡ t.given = omega (arith, g) in
    break_off (BreaksOff t) _ _ fault _ (subst (λ k. BreaksOffAt k fault) same a) (known_kept remaining t fault f)

follows_by : {R : Type 0} (remaining : R → Option (List ℕ)) (s t : LineSource R) (answer : SourceResult)
    (kept : Option Fault) → kept ≡ s.fault
    → GivesBy kept remaining s answer t
    → Follows (BreaksOff t) (known_by kept (remaining s.reader) s.given s.max_tokens) answer (known_of remaining t)
follows_by remaining s t answer (Some fault) e h = follows_kept (BreaksOff t) remaining t fault answer h.0
    (ap (λ x. x.fault) h.1 ∙ sym e)
follows_by remaining s t answer None e h =
    elim (cases_lt s.given s.max_tokens) [
      | inl below_most ↦ follows_below remaining t s.given s.max_tokens (remaining s.reader) answer below_most
          (h.below below_most) h.given h.max_tokens h.fault
      | inr bound ↦ follows_bound (BreaksOff t) remaining t s.given s.max_tokens (remaining s.reader) answer bound
          (h.at_bound bound) h.fault
    ]

pub source_follows : {R : Type 0} (remaining : R → Option (List ℕ)) (s t : LineSource R) (answer : SourceResult)
    → Gives remaining s answer t
    → Follows (BreaksOff t) (known_of remaining s) answer (known_of remaining t)
source_follows remaining s t answer h = follows_by remaining s t answer s.fault refl h
