-- A machine has as many marks as the tokens that it took nest deep.
use Rattle.std.proofs.Common.{◌≡◌, ◌∷◌, ◌++◌, ◌∙◌, ℕ, List, [], Option, None, Some, Ok, Err, length, refl, sym, arith}
use Rattle.libyaml_types.specs.Types.{token_type}
use Rattle.libyaml_types.specs.declared.token.yaml_token_t.{yaml_token_t}
use Rattle.libyaml_grammar.specs.grammar.Events.{Event}
use Rattle.libyaml_grammar.specs.grammar.TokenNesting.{IsNestingOfTaken, levels_after, nesting}
use Rattle.libyaml_grammar.proofs.exported.TokenNesting.{nesting_on}
use Rattle.libyaml_events.specs.machine.Config.{Machine}
use Rattle.libyaml_events.specs.machine.Machine.{Progressed, step}
use Rattle.libyaml_events.specs.machine.Want.{Given, Want, Wants}
use Rattle.libyaml_events.specs.sources.Trace.{Moment, Next, Reached, StepLeads, Trace, after_event, amid, goes_on, here}

-- n marks before a step with the token t, and m after it: it was taken, or is in hand

abbrev Taken : yaml_token_t → (n : ℕ) → Option yaml_token_t → (m : ℕ) → Type 0
Taken t n None m = m ≡ levels_after n (token_type t.content)
Taken t n (Some u) m = (u ≡ t) × (m ≡ n)

abbrev Progresses : yaml_token_t → (n : ℕ) → Progressed → Type 0
Progresses t n (Ok (Given e d)) = Taken t n d.lookahead (length d.machine.marks)
Progresses t n (Ok (Wants v d)) = Taken t n None (length d.marks)
Progresses t n (Err f) = Unit {0}

machine_counts : (w : Want) (c : Machine) (t : yaml_token_t) → Progresses t (length c.marks) (step w c t)
machine_counts w c t = grind arith

-- so at each moment

abbrev Counted : Moment → Type 0
Counted (after_event c l g) = IsNestingOfTaken c.lookahead l (length c.machine.marks)
Counted (amid w c o l g) = IsNestingOfTaken o l (length c.marks)

on_hand : (o : Option yaml_token_t) (t : yaml_token_t) (before : List yaml_token_t) (n m : ℕ) → n ≡ nesting before
    → Taken t n o m → IsNestingOfTaken o (before ++ t ∷ []) m
on_hand None t before n m e i = rw (i, e) (sym (nesting_on 0 before t))
on_hand (Some u) t before n m e i = rw i.0 (before, refl, i.1 ∙ e)

stepped : (o : Progressed) (t : yaml_token_t) (before : List yaml_token_t) (g : List Event) (n : ℕ) (b : Moment)
    → n ≡ nesting before → Progresses t n o → StepLeads o (before ++ t ∷ []) g b → Counted b
stepped (Err f) t before g n b e i j = absurd j
stepped (Ok (Given x d)) t before g n b e i j = rw j (on_hand d.lookahead t before n (length d.machine.marks) e i)
stepped (Ok (Wants v d)) t before g n b e i j = rw j (on_hand None t before n (length d.marks) e i)

next_counted : (a b : Moment) → Counted a → Next a b → Counted b
next_counted (after_event c l g) b h i = rw i h
next_counted (amid w c None l g) b h i = rw i.1.1 (l, refl, h)
next_counted (amid w c (Some t) l g) b h i
    = stepped (step w c t) t h.0 g (length c.marks) b h.2 (machine_counts w c t) (rw h.1 at i)

counted_from : {a m : Moment} → Trace a m → Counted a → Counted m
counted_from here h = h
counted_from (goes_on {a} {b} i t) h = counted_from t (next_counted a b h i)

pub counted : {m : Moment} → Reached m → Counted m
counted t = counted_from t refl
