-- A call of the original does what a machine does that takes tokens exactly.
use Rattle.std.proofs.Common.{◌≡◌, ◌∷◌, List, [], true, false, Ok, Err, refl, sym, ap, arith, ◌∙◌}
use Rattle.libyaml_types.specs.declared.enums.yaml_parser_state_t.TheVariants as st
use Rattle.libyaml_types.specs.declared.enums.yaml_token_type_t.TheVariants as kinds
use Rattle.libyaml_types.specs.Fault.{Fault}
use Rattle.libyaml_grammar.specs.grammar.Tokens.{Token}
use Rattle.libyaml_automaton.specs.Config.{top_mark}
use Rattle.libyaml_automaton.specs.declared.difference.Difference.{Difference}
use Rattle.libyaml_automaton.specs.declared.difference.Difference.TheVariants.{Nowhere, PairKey, ValueFirst, BareDocument}
use Rattle.libyaml_events.specs.machine.Config.{Config, Machine, is_end_state}
use Rattle.libyaml_events.specs.machine.Machine.{Progressed, step}
use Rattle.libyaml_events.specs.machine.Want.{AtState, Given, Want, Wants}
use Rattle.rust_original.specs.parser.Differences.{Differs, call_there, pair_key}
use Rattle.rust_original.specs.parser.Parser.{OriginalParser, ParserResult, is_one_of}
use Rattle.rust_original.proofs.parser.Calls.{call_same}
use Rattle.rust_original.proofs.parser.Relation.{HereCall, Matches, SamePlace, feed, given, inside, led, stopped, tokens_of}
use Rattle.rust_original.proofs.runs.RunExists.{after_pair_key, empty_at, fresh_none, pair_stands}
use Rattle.rust_original.proofs.exact.Judged.{Found, GivesEvent, Judged, call_found, differs_by, document_fault, judged, judged_at, judged_by, key_fault, met, none}

-- a step, exactly
abbrev pub there : Difference → Want → Machine → Token → Progressed
there Nowhere w c t = step w c t
there PairKey w c t = Ok (Given (empty_at t.end_mark) (after_pair_key c))
there ValueFirst w c t = Err (key_fault (top_mark c.marks) t.start_mark)
there BareDocument w c t = Err (document_fault t.start_mark)

abbrev pub exact : Want → Machine → Token → Progressed
exact w c t = there (differs_by w c t) w c t

-- and a call of such steps
abbrev pub exact_feed : Fault → Want → Machine → List Token → HereCall
exact_feed f w c [] = stopped f
exact_feed f w c (t ∷ l) = led (exact w c t) l (λ v d. exact_feed f v d l)

module _ (f : Fault) where
  -- where nothing is told apart, it is this repository's
  none_met : (l : List Token) (w : Want) (c : Machine) → judged w c l ≡ none → exact_feed f w c l ≡ feed f w c l
  none_met [] w c h = refl
  none_met (t ∷ l) w c h = go (differs_by w c t) h (λ v d i. none_met l v d i)
    where
      on : (o : Progressed) → judged_by o (λ v d. judged v d l) ≡ none
          → ((v : Want) (d : Machine) → judged v d l ≡ none → exact_feed f v d l ≡ feed f v d l)
          → led o l (λ v d. exact_feed f v d l) ≡ led o l (λ v d. feed f v d l)
      on (Err g) h next = refl
      on (Ok (Given e d)) h next = refl
      on (Ok (Wants v d)) h next = next v d h

      go : (k : Difference) → judged_at k c t (judged_by (step w c t) (λ v d. judged v d l)) ≡ none
          → ((v : Want) (d : Machine) → judged v d l ≡ none → exact_feed f v d l ≡ feed f v d l)
          → led (there k w c t) l (λ v d. exact_feed f v d l) ≡ led (step w c t) l (λ v d. feed f v d l)
      go Nowhere h next = on (step w c t) h next
      go PairKey h next = absurd cc
      go ValueFirst h next = absurd cc
      go BareDocument h next = absurd cc

  -- where an error is, the call has it
  abbrev HasError : Judged → HereCall → Type 0
  HasError (met ValueFirst m n) x = x ≡ stopped (key_fault m n)
  HasError (met BareDocument m n) x = x ≡ stopped (document_fault n)
  HasError _ x = Unit {0}

  error_met : (l : List Token) (w : Want) (c : Machine) → HasError (judged w c l) (exact_feed f w c l)
  error_met [] w c = tt
  error_met (t ∷ l) w c = go (differs_by w c t) (λ v d. error_met l v d)
    where
      on : (o : Progressed) → ((v : Want) (d : Machine) → HasError (judged v d l) (exact_feed f v d l))
          → HasError (judged_by o (λ v d. judged v d l)) (led o l (λ v d. exact_feed f v d l))
      on (Err g) next = tt
      on (Ok (Given e d)) next = tt
      on (Ok (Wants v d)) next = next v d

      go : (k : Difference) → ((v : Want) (d : Machine) → HasError (judged v d l) (exact_feed f v d l))
          → HasError (judged_at k c t (judged_by (step w c t) (λ v d. judged v d l)))
          (led (there k w c t) l (λ v d. exact_feed f v d l))
      go Nowhere next = on (step w c t) next
      go PairKey next = tt
      go ValueFirst next = refl
      go BareDocument next = refl

  -- after the KEY of a pair
  lost : (t : Token) (l : List Token) (c : Machine) → c.state ≡ st.YAML_PARSE_FLOW_SEQUENCE_ENTRY_MAPPING_KEY_STATE
      → is_one_of t (kinds.YAML_VALUE_TOKEN ∷ kinds.YAML_FLOW_ENTRY_TOKEN ∷ kinds.YAML_FLOW_SEQUENCE_END_TOKEN ∷ []) ≡ true
      → exact_feed f AtState c (t ∷ l) ≡ given (empty_at t.end_mark) (after_pair_key c) l
  lost t l c i e = grind arith

  lost_call : (q : OriginalParser) (d : Config) (l : List Token) → SamePlace f q d l → {o u : ParserResult}
      → Differs q o u → call_there q ≡ o → GivesEvent (call_there q)
      → Matches f (call_there q) (exact_feed f AtState d.machine (tokens_of d.lookahead l))
  lost_call q d l a (pair_key t k s e i) c g =
      let fits = pair_stands a.fits (sym (ap (λ (p : OriginalParser). p.state) a.is) ∙ s) in
      let fresh = fresh_none d.machine.state d.lookahead fits.2 a.fresh in
      let left : l ≡ t ∷ k = cc in
      rw (c, fresh, left, lost t k d.machine fits.2 i) (
        refl,
        record {
          tags = a.tags;
          flag = a.flag;
          state = st.YAML_PARSE_FLOW_SEQUENCE_ENTRY_MAPPING_VALUE_STATE;
          ended = false;
          marks = d.machine.marks;
          tokens = k;
          is = grind arith;
          fits = inside tt fits.0 fits.1;
          fresh = tt;
        },
      )
  lost_call q d l a b c g = absurd cc

-- a call, where the parsers stand to one another
pub exact_same : (f : Fault) (q : OriginalParser) (d : Config) (l : List Token) → SamePlace f q d l
    → is_end_state d.machine.state ≡ false
    → Matches f (call_there q) (exact_feed f AtState d.machine (tokens_of d.lookahead l))
exact_same f q d l s n = go (judged AtState d.machine (tokens_of d.lookahead l)) refl (call_found f q d l s n)
    (error_met f (tokens_of d.lookahead l) AtState d.machine)
  where
    go : (j : Judged) → judged AtState d.machine (tokens_of d.lookahead l) ≡ j → Found j q
        → HasError f j (exact_feed f AtState d.machine (tokens_of d.lookahead l))
        → Matches f (call_there q) (exact_feed f AtState d.machine (tokens_of d.lookahead l))
    go none i h x = rw (h, none_met f (tokens_of d.lookahead l) AtState d.machine i) (call_same f q d l s n)
    go (met Nowhere m o) i h x = absurd h.1
    go (met PairKey m o) i h x = lost_call f q d l s h.0 refl h.1
    go (met ValueFirst m o) i h x = rw (h.1, x) refl
    go (met BareDocument m o) i h x = rw (h.1, x) refl
