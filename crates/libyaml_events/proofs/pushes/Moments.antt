-- Each moment has one next, but for the token that is handed over; so two moments by the same tokens and events are one.
use Rattle.std.proofs.Common.{◌≡◌, ◌≤◌, ◌<◌, ◌+◌, ◌⊎◌, inl, inr, ◌++◌, ◌∷◌, ℕ, arith, List, [], length, Some, None, Ok, Err, refl, sym, ap, ◌∙◌, subst, append_assoc, append-nil}
use Rattle.std.proofs.lemmas.List.{length_push}
use Rattle.libyaml_grammar.specs.grammar.Tokens.{Token}
use Rattle.libyaml_grammar.specs.grammar.Events.{Event}
use Rattle.libyaml_grammar.proofs.exported.Injectivity.{head_same, not_cons, tail_same}
use Rattle.libyaml_events.specs.machine.Config.{Config, Machine}
use Rattle.libyaml_events.specs.machine.Machine.{Progressed, step}
use Rattle.libyaml_events.specs.machine.Want.{Want, Given, Wants}
use Rattle.libyaml_events.proofs.calls.Keeping.{KeptBy, keeps}
use Rattle.libyaml_events.specs.sources.Pushed.{Pushed, PushParser, push_parser_at}
use Rattle.libyaml_events.specs.sources.Trace.{Moment, Next, Reached, StepLeads, Trace, after_event, amid, goes_on, here}

pub prefix_same : {A : Type 0} (a l m : List A) → a ++ l ≡ a ++ m → l ≡ m
prefix_same [] l m e = e
prefix_same (x ∷ a) l m e = prefix_same a l m (tail_same x x (a ++ l) (a ++ m) e)

abbrev tokens : Moment → List Token
tokens (after_event c l g) = l
tokens (amid w c o l g) = l

-- events, and one more while the next is on its way
abbrev count : Moment → ℕ
count (after_event c l g) = length g
count (amid w c o l g) = length g + 1

record Further (a b : Moment) : Type 0 where
  more : List Token
  all : tokens b ≡ tokens a ++ more
  counts : count a ≤ count b

step_further : (a : Moment) (o : Progressed) (w : Want) (c : Machine) (t : Token) (l : List Token)
    (g : List Event) → Further a (amid w c (Some t) l g) → KeptBy (Further a) l g o
step_further a o w c t l g f = grind (arith, length_push)

further : {a b : Moment} → Trace a b → Further a b
further {a} u = keeps (Further a)
    (λ c l g f. record { more = f.more; all = f.all; counts = let i = f.counts in omega arith })
    (λ w c t l g i f. record {
      more = f.more ++ t ∷ [];
      all = ap (λ (y : List Token). y ++ t ∷ []) f.all ∙ append_assoc (tokens a) f.more (t ∷ []);
      counts = f.counts;
    })
    (λ w c t l g f. step_further a (step w c t) w c t l g f) u
    (record { more = []; all = sym (append-nil (tokens a)); counts = omega arith })

one_next : (a x y : Moment) → Next a x → Next a y → (r s : List Token) → tokens x ++ r ≡ tokens y ++ s → x ≡ y
one_next (after_event c l g) x y h k r s e = h ∙ sym k
one_next (amid w c None l g) x y (i, (t, h)) (j, (u, k)) r s e
    = h ∙ (ap (λ (z : Token). amid w c (Some z) (l ++ z ∷ []) g) same ∙ sym k)
  where
    same : t ≡ u
    same = grind (arith, head_same, prefix_same, append_assoc)
one_next (amid w c (Some t) l g) x y h k r s e = by (step w c t) h k
  where
    by : (o : Progressed) → StepLeads o l g x → StepLeads o l g y → x ≡ y
    by (Err f) i j = absurd i
    by (Ok (Wants v d)) i j = i ∙ sym j
    by (Ok (Given z d)) i j = i ∙ sym j

-- of two moments that tokens of one list lead to, one leads to the other
compared : {a b c : Moment} → Trace a b → Trace a c → (r s : List Token) → tokens b ++ r ≡ tokens c ++ s
    → Trace b c ⊎ Trace c b
compared here u r s e = inl u
compared t here r s e = inr t
compared {a} {b} {c} (goes_on {b = x} n t) (goes_on {b = y} m u) r s e =
    let f = further t in
    let g = further u in
    let same = one_next a x y n m (f.more ++ r) (g.more ++ s) (sym (append_assoc (tokens x) f.more r)
    ∙ (ap (λ (l : List Token). l ++ r) (sym f.all)
    ∙ (e ∙ (ap (λ (l : List Token). l ++ s) g.all ∙ append_assoc (tokens y) g.more s)))) in
    compared t (subst (λ (z : Moment). Trace z c) (sym same) u) r s e

-- a further event comes of a further event alone
no_event_more : {c d : Config} {l m : List Token} {g h : List Event} → Trace (after_event c l g) (after_event d m h) → g ≡ h
    → (c ≡ d) × (l ≡ m)
no_event_more here e = (refl, refl)
no_event_more {g} {h} (goes_on {b = x} n u) e =
    let i = (further u).counts in
    let j : count x ≡ length g + 1 = ap count n in
    let k : length g ≡ length h = ap length e in
    absurd (omega arith)

-- of two moments after events that of the further event is the further one
pub event_more : {c d : Config} {l m : List Token} {g h : List Event} → Reached (after_event c l g)
    → Reached (after_event d m h) → (more : List Token) → m ≡ l ++ more → length g < length h
    → Trace (after_event c l g) (after_event d m h)
event_more {c} {d} {l} {m} {g} {h} t u more e k = by (compared t u more [] (sym e ∙ sym (append-nil m)))
  where
    by : Trace (after_event c l g) (after_event d m h) ⊎ Trace (after_event d m h) (after_event c l g)
        → Trace (after_event c l g) (after_event d m h)
    by (inl v) = v
    by (inr v) = let i = (further v).counts in absurd (omega arith)

-- a further moment that wants a token comes of a further token alone
no_token_more : {w v : Want} {c d : Machine} {l m : List Token} {g h : List Event}
    → Trace (amid w c None l g) (amid v d None m h) → l ≡ m → (push_parser_at w c ≡ push_parser_at v d) × (g ≡ h)
no_token_more here e = (refl, refl)
no_token_more {l} {g} (goes_on (i, (t, n)) u) e =
    let k = further u in
    absurd (not_cons t k.more (sym (prefix_same l (t ∷ k.more) [] (sym (append_assoc l (t ∷ []) k.more)
    ∙ (ap (λ (m : Moment). tokens m ++ k.more) (sym n) ∙ (sym k.all ∙ (sym e ∙ sym (append-nil l))))))))

-- of tokens of one list, and by the same events, a machine comes to one configuration
pub ran_once : {c d : Config} {a b : List Token} {g h : List Event} → Reached (after_event c a g)
    → Reached (after_event d b h) → (r s : List Token) → a ++ r ≡ b ++ s → g ≡ h → (c ≡ d) × (a ≡ b)
ran_once {c} {d} {a} {b} {g} {h} t u r s i j = by (compared t u r s i)
  where
    by : Trace (after_event c a g) (after_event d b h) ⊎ Trace (after_event d b h) (after_event c a g) → (c ≡ d) × (a ≡ b)
    by (inl v) = no_event_more v j
    by (inr v) = let k = no_event_more v (sym j) in (sym k.0, sym k.1)

pub one_pushed : (p q : PushParser) (l : List Token) (g h : List Event) → Pushed p l g → Pushed q l h → (p ≡ q) × (g ≡ h)
one_pushed p q l g h t u = by (compared t u [] [] refl)
  where
    by : Trace (amid p.want p.config None l g) (amid q.want q.config None l h)
        ⊎ Trace (amid q.want q.config None l h) (amid p.want p.config None l g) → (p ≡ q) × (g ≡ h)
    by (inl x) = no_token_more x refl
    by (inr x) = let k = no_token_more x refl in (sym k.0, sym k.1)
