-- A TAG goes on exactly where a node may begin, or after an ANCHOR that begins one.
use Rattle.std.proofs.Common.{◌≡◌, ℕ, List, [], ◌∷◌, ◌++◌, Some, refl, sym, ap, ◌∙◌, subst, Bool, true, inl, inr, ◌↔◌, append-nil, arith}
use Rattle.libyaml_grammar.specs.grammar.Tokens.{Anchor, Marks, Tag, TagName, Token, tok, zero_marks}
use Rattle.libyaml_grammar.specs.grammar.Trees.{anchor_tag, tag}
use Rattle.libyaml_grammar.specs.partial.PartialTrees.{Place, at_tag_after, content_due, place_tokens}
use Rattle.libyaml_grammar.specs.grammar.ValidLists.{IsViablePrefix, IsValidList}
use Rattle.libyaml_grammar.specs.partial.Fits.{NodeBegins}
use Rattle.libyaml_grammar.proofs.exported.Positions.{Position, due, position_in_order, position_rest, position_tokens, unopened}
use Rattle.libyaml_grammar.proofs.exported.Reading.{Step, checked, goes, is_legal, reads, reads_all, step}
use Rattle.libyaml_grammar.proofs.trees.Append.{partial_append}
use Rattle.libyaml_grammar.proofs.exported.Cases.{IsTagHeld, TagGoes, step_tag}
use Rattle.libyaml_grammar.proofs.exported.Completion.{begin_reads, goes_before, position_begins, read_order, reads_append}
use Rattle.libyaml_grammar.proofs.exported.Keeps.{feeds_keep}
use Rattle.libyaml_grammar.proofs.exported.Orders.{reads_to}

same_prefix : (a b : List Token) (x y : Token) → a ++ x ∷ [] ≡ b ++ y ∷ [] → (a ≡ b) × (x ≡ y)
same_prefix [] [] x y e = (refl, cc)
same_prefix [] (b ∷ []) x y e = cc
same_prefix [] (b ∷ c ∷ r) x y e = cc
same_prefix (a ∷ []) [] x y e = cc
same_prefix (a ∷ c ∷ r) [] x y e = cc
same_prefix (a ∷ s) (b ∷ r) x y e =
    let h = same_prefix s r x y (tail e) in
    (head e h.0, h.1)
  where
    tail : a ∷ (s ++ x ∷ []) ≡ b ∷ (r ++ y ∷ []) → s ++ x ∷ [] ≡ r ++ y ∷ []
    tail e = cc

    head : a ∷ (s ++ x ∷ []) ≡ b ∷ (r ++ y ∷ []) → s ≡ r → a ∷ s ≡ b ∷ r
    head e f = cc

legal_step : (s : Step) (b : Bool) (p : Position) → checked s b ≡ goes p → s ≡ goes p
legal_step s b p e = grind arith

module _ (l : List Token) (m : Marks) (s : List ℕ) where
  abbrev whole_tag : TagName
  whole_tag = record { handle = []; suffix = s }

  same_tag : (h : TagName) (n : Marks) → tok (Tag h) n ≡ tok (Tag whole_tag) m → h ≡ whole_tag
  same_tag h n e = grind arith

  -- the position after the TAG holds it
  held : (x : Position) (b : Bool) → IsTagHeld x b m → position_tokens x [] ≡ l ++ tok (Tag whole_tag) m ∷ []
      → position_in_order x true ≡ true → (p : Place)
      × NodeBegins l p
  held (due p (Some (tag h n))) b w e o =
      let f = same_prefix (place_tokens p []) l (tok (Tag h) n) (tok (Tag whole_tag) m)
      (sym (partial_append (content_due p) (tok (Tag h) n ∷ [])) ∙ e) in (
        p,
        (
          rw (same_tag h n f.1) at o,
          inl f.0,
        ),
      )
  held (due p (Some (anchor_tag a k h n))) b w e o =
      let f = same_prefix (place_tokens p (tok (Anchor a) k ∷ [])) l (tok (Tag h) n) (tok (Tag whole_tag) m)
      (sym (partial_append (at_tag_after p a k) (tok (Tag h) n ∷ [])) ∙ e) in (
        p,
        (
          rw (same_tag h n f.1) at o,
          inr (a, k, f.0),
        ),
      )
  held _ b w e o = absurd w

  node_begins : IsViablePrefix (l ++ tok (Tag whole_tag) m ∷ []) → (p : Place) × NodeBegins l p
  node_begins h =
      let (x, e) = begin_reads (l ++ tok (Tag whole_tag) m ∷ []) h in
      let (q, f, g) = goes_before (reads_all l unopened) (reads_all (tok (Tag whole_tag) m ∷ [])) x
      (sym (reads_append l (tok (Tag whole_tag) m ∷ []) unopened)
      ∙ e) in
      let (y, u, v) = goes_before (reads q (tok (Tag whole_tag) m)) (reads_all []) x g in
      let w = legal_step (step q (Tag whole_tag) m) (is_legal q (Tag whole_tag)) x (u ∙ v) in
      held x (is_legal q (Tag whole_tag))
      (subst (λ (z : Step). TagGoes z (is_legal q (Tag whole_tag)) m) w (step_tag q whole_tag m))
      (feeds_keep (l ++ tok (Tag whole_tag) m ∷ []) unopened x
      (reads_to (l ++ tok (Tag whole_tag) m ∷ []) unopened x e).0 []
      ∙ append-nil (l ++ tok (Tag whole_tag) m ∷ [])) (read_order (l ++ tok (Tag whole_tag) m ∷ []) x e)

  after_prefix : (a r : List Token) (t : Token) → a ++ t ∷ r ≡ (a ++ t ∷ []) ++ r
  after_prefix [] r t = refl
  after_prefix (x ∷ a) r t = ap (λ (z : List Token). x ∷ z) (after_prefix a r t)

  tag_goes_on : (p : Place) → NodeBegins l p → IsViablePrefix (l ++ tok (Tag whole_tag) m ∷ [])
  tag_goes_on p (o, inl e) =
      let r = position_rest zero_marks (due p (Some (tag whole_tag m))) in
      record {
        rest = r;
        valid_list = subst IsValidList (partial_append (content_due p) (tok (Tag whole_tag) m ∷ r)
            ∙ (ap (λ (z : List Token). z ++ tok (Tag whole_tag) m ∷ r) e ∙ after_prefix l r (tok (Tag whole_tag) m)))
            (position_begins zero_marks (due p (Some (tag whole_tag m))) o);
      }
  tag_goes_on p (o, inr (a, n, e)) =
      let r = position_rest zero_marks (due p (Some (anchor_tag a n whole_tag m))) in
      record {
        rest = r;
        valid_list = subst IsValidList (partial_append (at_tag_after p a n) (tok (Tag whole_tag) m ∷ r)
            ∙ (ap (λ (z : List Token). z ++ tok (Tag whole_tag) m ∷ r) e ∙ after_prefix l r (tok (Tag whole_tag) m)))
            (position_begins zero_marks (due p (Some (anchor_tag a n whole_tag m))) o);
      }

  pub tag_places_proof : IsViablePrefix (l ++ tok (Tag (record { handle = []; suffix = s })) m ∷ [])
      ↔ ((p : Place) × NodeBegins l p)
  tag_places_proof = (node_begins, λ h. tag_goes_on h.0 h.1)
