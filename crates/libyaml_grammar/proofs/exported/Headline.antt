-- A list whose only STREAM-END is its last token runs to its tree's events, or to its partial tree's events and error.
use Rattle.std.proofs.Common.{◌≡◌, List, [], ◌∷◌, ◌++◌, refl, sym, ap, ◌∙◌, Bool, true, false, inl, inr, append-nil}
use Rattle.libyaml_types.specs.Fault.{Fault}
use Rattle.libyaml_grammar.specs.grammar.Tokens.{Anchor, Content, Marks, StreamEnd, Tag, Token, tok}
use Rattle.libyaml_grammar.specs.grammar.Trees.{Directives, tokens}
use Rattle.libyaml_grammar.specs.partial.PartialTrees.{PartialTree, at_tag, at_tag_after, declared}
use Rattle.libyaml_grammar.specs.partial.Fits.{Fits, IsUnknown}
use Rattle.libyaml_grammar.specs.grammar.ValidLists.{is_end, has_end}
use Rattle.libyaml_grammar.specs.runs.Runs.{has_token, is_after, is_after_properties, RunsWhole, to_its_end, to_its_fault}
use Rattle.libyaml_grammar.proofs.exported.Running.{valid_list_run, partial_run}
use Rattle.libyaml_grammar.proofs.trees.TreeOrPartialTree.{valid_list_or_partial_tree}

abbrev last_from : Token → List Token → Bool
last_from t [] = is_end t.content
last_from t (u ∷ l) = last_from u l

abbrev last_is_end : List Token → Bool
last_is_end [] = false
last_is_end (t ∷ l) = last_from t l

last_of : (a : List Token) (x : Token) (r : List Token) → last_is_end (a ++ x ∷ r) ≡ last_from x r
last_of [] x r = refl
last_of (t ∷ a) x r = go t a
  where
    go : (u : Token) (b : List Token) → last_from u (b ++ x ∷ r) ≡ last_from x r
    go u [] = refl
    go u (v ∷ b) = go v b

not_end : (ds : Directives) (k : Content) → IsUnknown ds k → is_end k ≡ true → ⊥
not_end ds (Tag t) h e = cc
not_end ds _ h e = absurd h

after_one : (k : Content) (l : List Token) → (has_token l ≡ false → is_end k ≡ true) → is_after k l ≡ true
after_one (Anchor a) [] h = h refl
after_one (Anchor a) (t ∷ l) h = refl
after_one _ l h = refl

last_one : (t : Token) (l : List Token) → last_from t l ≡ true → has_token l ≡ false → is_end t.content ≡ true
last_one t [] e h = e
last_one t (u ∷ l) e h = cc

after_ends : (c : PartialTree) (before : List Token) (b : Token) (after : List Token) → Fits before b c → last_from b after ≡ true
    → is_after_properties c after ≡ true
after_ends (at_tag p) before b [] h e = absurd (not_end (declared p) b.content h.tag e)
after_ends (at_tag p) before b (t ∷ l) h e = after_one t.content l (last_one t l e)
after_ends (at_tag_after p a m) before b [] h e = absurd (not_end (declared p) b.content h.tag e)
after_ends (at_tag_after p a m) before b (t ∷ l) h e = refl
after_ends _ before b after h e = refl

pub runs_whole : (l : List Token) (m : Marks) (f : Fault) → has_end l ≡ false → RunsWhole (l ++ tok StreamEnd m ∷ []) f
runs_whole l m f h = elim (valid_list_or_partial_tree l m h).0 [
  | inl s ↦ to_its_end s.tree s.order s.all
      (rw (append-nil (tokens s.tree) ∙ sym s.all) at (valid_list_run s.tree [] f s.order))
  | inr k ↦ to_its_fault k.before k.token k.after k.cut k.all k.fits
      (rw (← k.all) at (partial_run k.before k.token k.after k.cut f k.fits
      (after_ends k.cut k.before k.token k.after k.fits (sym (last_of k.before k.token k.after)
      ∙ (ap last_is_end (sym k.all) ∙ last_of l (tok StreamEnd m) [])))))
]
