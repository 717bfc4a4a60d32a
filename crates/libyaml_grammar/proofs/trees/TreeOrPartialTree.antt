-- Each list is valid or a viable prefix, or a partial tree fits it, and not both.
use Rattle.std.proofs.Common.{◌≡◌, List, [], ◌∷◌, ◌++◌, refl, sym, ap, ◌∙◌, subst, true, false, ◌⊎◌, inl, inr, append-nil}
use Rattle.std.proofs.lemmas.Bool.{false≢true, or_from, or_parts}
use Rattle.libyaml_grammar.specs.grammar.Tokens.{Marks, StreamEnd, Token, tok, zero_marks}
use Rattle.libyaml_grammar.specs.grammar.Trees.{Stream}
use Rattle.libyaml_grammar.specs.partial.PartialTrees.{PartialTree, partial_in_order, partial_tokens}
use Rattle.libyaml_grammar.specs.partial.Rest.{rest}
use Rattle.libyaml_grammar.specs.grammar.ValidLists.{EitherNotBoth, IsBadToken, IsViablePrefix, IsValidList, has_end, is_end}
use Rattle.libyaml_grammar.specs.partial.Fits.{Fits, HasPartialTree}
use Rattle.libyaml_grammar.proofs.exported.Positions.{Position, done, unopened}
use Rattle.libyaml_grammar.proofs.exported.Reading.{Step, bad, goes, over, reads, reads_all, then_all}
use Rattle.libyaml_grammar.proofs.trees.Append.{partial_append}
use Rattle.libyaml_grammar.proofs.exported.Completion.{Stops, partial_begins_proof, goes_or_stops, reached_begins, read_valid_list, reads_append}
use Rattle.libyaml_grammar.proofs.trees.Ending.{ends_done, stays_open}
use Rattle.libyaml_grammar.proofs.exported.Fitting.{read_over, stops_fits}

-- a prefix of a viable prefix is a viable prefix
shift : (a b r : List Token) (t : Token) → (a ++ t ∷ []) ++ (b ++ r) ≡ (a ++ t ∷ b) ++ r
shift [] b r t = refl
shift (x ∷ a) b r t = ap (λ (l : List Token). x ∷ l) (shift a b r t)

begins_prefix : (a b : List Token) (t : Token) → IsViablePrefix (a ++ t ∷ b) → IsViablePrefix (a ++ t ∷ [])
begins_prefix a b t h = record { rest = b ++ h.rest; valid_list = subst IsValidList (sym (shift a b h.rest t)) h.valid_list }

not_both : (l : List Token) → IsViablePrefix l → HasPartialTree l → ⊥
not_both l h c = c.fits.bad_token (begins_prefix c.before c.after c.token (subst IsViablePrefix c.all h))

valid_list_begins : (l : List Token) → IsValidList l → IsViablePrefix l
valid_list_begins l h = record { rest = []; valid_list = subst IsValidList (sym (append-nil l)) h }

-- where reading stops there is a partial tree, or the stream had ended
stopped : (l : List Token) (h : Stops l unopened)
    → HasPartialTree l ⊎ ((t : Stream) × (reads_all h.before unopened ≡ goes (done t)))
stopped l h = go (reads h.at h.token) refl
  where
    go : (s : Step) → reads h.at h.token ≡ s → HasPartialTree l ⊎ ((t : Stream) × (reads_all h.before unopened ≡ goes (done t)))
    go (goes p) e = absurd (h.stop p e)
    go (bad c) e = inl (record {
      before = h.before;
      token = h.token;
      after = h.after;
      cut = c;
      all = h.all;
      fits
          = stops_fits h.before h.token h.at c h.reached e;
    })
    go over e =
        let (t, f) = read_over h.at h.token e in
        inr (t, h.reached ∙ ap goes f)

-- a prefix of a list without STREAM-END has none
prefix_open : (a b : List Token) → has_end (a ++ b) ≡ false → has_end a ≡ false
prefix_open [] b e = refl
prefix_open (t ∷ a) b e =
    let h = or_parts (is_end t.content) (has_end (a ++ b)) e in
    or_from (is_end t.content) (has_end a) h.0 (prefix_open a b h.1)

-- neither has what stands before the last token of a list whose only STREAM-END is the last
before_open : (l a b : List Token) (e t : Token) → l ++ e ∷ [] ≡ a ++ t ∷ b → has_end l ≡ false → has_end a ≡ false
before_open l [] b e t f h = refl
before_open [] (x ∷ []) b e t f h = cc
before_open [] (x ∷ y ∷ a) b e t f h = cc
before_open (y ∷ l) (x ∷ a) b e t f h =
    let (g, r) = parts y x (l ++ e ∷ []) (a ++ t ∷ b) f in
    let k = or_parts (is_end y.content) (has_end l) h in
    or_from (is_end x.content) (has_end a) (ap (λ (z : Token). is_end z.content) (sym g) ∙ k.0)
    (before_open l a b e t r k.1)
  where
    parts : (y x : Token) (l a : List Token) → y ∷ l ≡ x ∷ a → (y ≡ x) × (l ≡ a)
    parts y x l a f = (cc, cc)

pub viable_prefix_or_partial_tree : (l : List Token) → has_end l ≡ false → EitherNotBoth (IsViablePrefix l) (HasPartialTree l)
viable_prefix_or_partial_tree l n = (go (goes_or_stops l unopened), not_both l)
  where
    late : (h : Stops l unopened) → HasPartialTree l ⊎ ((t : Stream) × (reads_all h.before unopened ≡ goes (done t)))
        → IsViablePrefix l ⊎ HasPartialTree l
    late h (inl c) = inr c
    late h (inr (t, e)) = absurd (false≢true
        (stays_open h.before unopened (done t) refl
        (prefix_open h.before (h.token ∷ h.after) (sym (ap has_end h.all) ∙ n)) e))

    go : ((p : Position) × (reads_all l unopened ≡ goes p)) ⊎ Stops l unopened → IsViablePrefix l ⊎ HasPartialTree l
    go (inl (p, e)) = inl (reached_begins l p e)
    go (inr h) = late h (stopped l h)

pub valid_list_or_partial_tree : (l : List Token) (m : Marks) → has_end l ≡ false
    → EitherNotBoth (IsValidList (l ++ tok StreamEnd m ∷ [])) (HasPartialTree (l ++ tok StreamEnd m ∷ []))
valid_list_or_partial_tree l m n = (
  go (goes_or_stops (l ++ tok StreamEnd m ∷ []) unopened),
  λ h c. not_both (l ++ tok StreamEnd m ∷ []) (valid_list_begins (l ++ tok StreamEnd m ∷ []) h) c,
)
  where
    all : List Token
    all = l ++ tok StreamEnd m ∷ []

    late : (h : Stops all unopened) → HasPartialTree all ⊎ ((t : Stream) × (reads_all h.before unopened ≡ goes (done t)))
        → IsValidList all ⊎ HasPartialTree all
    late h (inl c) = inr c
    late h (inr (t, e)) = absurd (false≢true
        (stays_open h.before unopened (done t) refl
        (before_open l h.before h.after (tok StreamEnd m) h.token h.all n) e))

    ended : (p : Position) → reads_all all unopened ≡ goes p → (s : Step) → reads_all l unopened ≡ s
        → then_all s (reads_all (tok StreamEnd m ∷ [])) ≡ goes p
        → IsValidList all ⊎ HasPartialTree all
    ended p e (goes q) f g = inl (whole (ends_done q p m (last (reads q (tok StreamEnd m)) g)))
      where
        last : (s : Step) → then_all s (reads_all []) ≡ goes p → s ≡ goes p
        last (goes x) g = g
        last (bad c) g = cc
        last over g = cc

        whole : (t : Stream) × (p ≡ done t) → IsValidList all
        whole (t, r) = read_valid_list all t (e ∙ ap goes r)
    ended p e (bad c) f g = cc
    ended p e over f g = cc

    go : ((p : Position) × (reads_all all unopened ≡ goes p)) ⊎ Stops all unopened → IsValidList all ⊎ HasPartialTree all
    go (inl (p, e)) = ended p e (reads_all l unopened) refl (sym (reads_append l (tok StreamEnd m ∷ []) unopened) ∙ e)
    go (inr h) = late h (stopped all h)

-- a partial tree's tokens and its rest are a valid list
pub partial_completes : (c : PartialTree) → partial_in_order c true ≡ true → IsValidList (partial_tokens c [] ++ rest zero_marks c)
partial_completes c h = subst IsValidList (partial_append c (rest zero_marks c)) (partial_begins_proof c h)

pub partial_is_bad : (l : List Token) (b : Token) (c : PartialTree) → Fits l b c → IsBadToken l b
partial_is_bad l b c f = (
  record {
    rest = rest zero_marks c;
    valid_list = rw f.tokens at (partial_completes c f.order);
  },
  f.bad_token,
)

-- the two halves of each law, together
pub ruleset trees_and_cuts = (valid_list_or_partial_tree, viable_prefix_or_partial_tree)

pub ruleset cuts_begin = (partial_completes, partial_is_bad)
