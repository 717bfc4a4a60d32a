-- The stack holds at most the open collections.
use Rattle.std.proofs.Common.{◌≡◌, ◌≤◌, ◌<◌, ◌++◌, ◌∷◌, List, [], ℕ, suc, ℤ, length, nat_le, refl, sym, ap, subst, ◌∙◌, Option, None, Some, Bool, true, false, true≢false, arith}
use Rattle.libyaml_types.specs.Types.{event_type}
use Rattle.libyaml_types.specs.declared.enums.yaml_event_type_t.{yaml_event_type_t}
use Rattle.libyaml_grammar.specs.grammar.Events.{Event}
use Rattle.libyaml_documents.specs.Documents.{Document}
use Rattle.libyaml_composer.specs.declared.composer.composer_t.{composer_t}
use Rattle.libyaml_composer.specs.declared.deed.Deed.{Deed}
use Rattle.libyaml_composer.specs.declared.deed.Deed.TheVariants as deed
use Rattle.libyaml_composer.specs.declared.records.open_t.{open_t}
use Rattle.libyaml_composer.specs.declared.records.place_t.{place_t}
use Rattle.libyaml_composer.specs.Composing.{Composer, Told, at_anchored_node, at_start, between_step, composer_of, collection_ended, holding_top, handing, if_placed, is_start, stack_of, composer_step, step_in, unless, within_step}
use Rattle.libyaml_composer.specs.DocumentSoFar.{DocumentSoFar, event_fact}
use Rattle.libyaml_composer.specs.Numbers.{is_set}
use Rattle.libyaml_composer.proofs.exported.Reasons.{full_starts}
use Rattle.libyaml_composer.proofs.exported.Stacks.{depth_is}
use Rattle.document_steps.specs.Open.{less_one, open_after, open_from, still_open, or_none}
use Rattle.document_steps.specs.RunLaws.{FullWhereOpen, StackFits}
use Rattle.document_steps.specs.Runs.{ComposerRun, begins, moves, takes}

-- the record says whether a document is open, and within it the stack has at most so many entries
abbrev OpenWithAtMost : ℕ → Composer → Type 0
OpenWithAtMost n c = (c.is_within ≡ true) × (length c.stack ≤ n)

abbrev Fits : Option ℕ → Composer → Type 0
Fits None c = c.is_within ≡ false
Fits (Some n) c = OpenWithAtMost n c

handed_length : (i : ℤ) (s : List open_t) → length (holding_top i s) ≡ length s
handed_length i s = grind arith

-- what a test refuses changes nothing
unless_few : (b : Bool) (d : Deed) (p : place_t) (c : Composer) (t : Told) (n : ℕ) → OpenWithAtMost n c → OpenWithAtMost n t.composer
    → OpenWithAtMost n (unless b d p c t).composer
unless_few b d p c t n h g = grind arith

placed_few : (f : ℤ) (p : place_t) (c : Composer) (t : Told) (n : ℕ) → OpenWithAtMost n c → OpenWithAtMost n t.composer
    → OpenWithAtMost n (if_placed f p c t).composer
placed_few f p c t n h g = grind (arith, unless_few)

handing_few : (i j : ℤ) (c : Composer) (n : ℕ) → OpenWithAtMost n c → OpenWithAtMost n (handing i j c).composer
handing_few i j c n h = grind (arith, handed_length)

alias_few : (b : Bool) (i : ℤ) (p : place_t) (c : Composer) (n : ℕ) → OpenWithAtMost n c → OpenWithAtMost n (at_anchored_node b i p c).composer
alias_few b i p c n h = grind arith

start_few : (m : ℕ) (f : ℤ) (p : place_t) (c : Composer) (n : ℕ) → OpenWithAtMost n c → OpenWithAtMost (suc n) (at_start m f p c).composer
start_few m f p c n h = grind arith

ended_few : (s : List open_t) (p : place_t) (c : Composer) (n : ℕ) → c.stack ≡ s → OpenWithAtMost n c
    → OpenWithAtMost (less_one n) (collection_ended s p c).composer
ended_few s p c n e h = grind arith

within_fits : (k : yaml_event_type_t) (f : ℤ) (p : place_t) (c : Composer) (n : ℕ) → OpenWithAtMost n c
    → Fits (open_after (Some n) k) (within_step k f p c).composer
within_fits k f p c n h = grind (arith, alias_few, placed_few, handing_few, start_few, ended_few)

between_fits : (k : yaml_event_type_t) (p : place_t) (c : Composer) → c.is_within ≡ false
    → Fits (open_after None k) (between_step k p c).composer
between_fits k p c h = grind arith

step_fits : (o : Option ℕ) (k : yaml_event_type_t) (f : ℤ) (p : place_t) (c : Composer) → Fits o c
    → Fits (open_after o k) (composer_step k f p c).composer
step_fits o k f p c h = grind (arith, between_fits, within_fits)

open_more : (o : Option ℕ) (es : List Event) (e : Event)
    → open_from o (es ++ e ∷ []) ≡ open_after (open_from o es) (event_type e.content)
open_more o [] e = refl
open_more o (x ∷ es) e = open_more (open_after o (event_type x.content)) es e

roomy : (o : Option ℕ) (c : Composer) (room : ℕ) → Fits o c → Fits o (record c { room = room })
roomy o c room h = grind arith

fits : {most : ℕ} (d : composer_t) (ss : List open_t) (h : DocumentSoFar) (es : List Event) (ds : List Document)
    → ComposerRun most d ss h es ds → Fits (open_from None es) (composer_of d ss)
fits d ss _ _ _ (begins _ _ is) = ap (λ (c : Composer). c.is_within) is
fits d' ss' h es ds (moves d _ ss _ _ _ _ run is) =
    subst (Fits (open_from None es)) (sym is) (roomy (open_from None es) (composer_of d ss) (length ss') (fits d ss h es ds run))
fits _ _ _ _ _ (takes d d' ss ss' h es ds a e p p' run calls taken) =
    rw (← (open_more None es e)) at (rw (← calls) at
    (step_fits (open_from None es) (event_type e.content) (event_fact h e) p (composer_of d ss) (fits d ss h es ds
    run)))

pub stack_fits : StackFits
stack_fits most d ss h es ds run inside within = go (open_from None es) (fits d ss h es ds run)
  where
    go : (o : Option ℕ) → Fits o (composer_of d ss) → d.depth ≤ or_none o
    go None out = absurd (true≢false (sym inside ∙ out))
    go (Some n) few =
        let l : length (stack_of d.depth ss) ≤ n = few.1 in let e = depth_is ss d.depth within in omega arith

-- a stack is full within a document alone
full_inside : (b : Bool) (k : yaml_event_type_t) (f : ℤ) (p : place_t) (c : Composer)
    → (step_in b k f p c).deed ≡ deed.FullStack → b ≡ true
full_inside b k f p c h = grind arith

start_opens : (n : ℕ) (k : yaml_event_type_t) → is_start k ≡ true → open_after (Some n) k ≡ Some (suc n)
start_opens n k h = grind arith

pub full_where_open : FullWhereOpen
full_where_open most d d' ss ss' h es ds e p p' run calls =
    let c = composer_of d ss in
    let k = event_type e.content in
    let full : (composer_step k (event_fact h e) p c).deed ≡ deed.FullStack = sym (ap (λ (t : Told). t.deed) calls) in
    go (open_from None es) (fits d ss h es ds run) (full_inside c.is_within k (event_fact h e) p c full)
    (full_starts k (event_fact h e) p c full).0 (full_starts k (event_fact h e) p c full).1 (open_more None es e)
  where
    go : (o : Option ℕ) → Fits o (composer_of d ss) → is_set d.is_within ≡ true → is_start (event_type e.content) ≡ true
        → nat_le (length ss) (length (stack_of d.depth ss)) ≡ true
        → open_from None (es ++ e ∷ []) ≡ open_after o (event_type e.content) → length ss < still_open (es ++ e ∷ [])
    go None out inside start more is = absurd (true≢false (sym inside ∙ out))
    go (Some n) few inside start more is =
        let opens : still_open (es ++ e ∷ []) ≡ suc n = ap or_none (is ∙ start_opens n (event_type e.content) start) in
        let l : length (stack_of d.depth ss) ≤ n = few.1 in
        grind arith
