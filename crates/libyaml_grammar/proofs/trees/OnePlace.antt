-- At most one partial tree, at one place, fits a list with the token there; and none does if the list is valid.
use Rattle.std.proofs.Common.{◌≡◌, List, [], ◌∷◌, ◌++◌, sym, ap, ◌∙◌, subst, append_assoc}
use Rattle.std.proofs.lemmas.List.{append_cancel_left}
use Rattle.libyaml_grammar.specs.grammar.Tokens.{Token}
use Rattle.libyaml_grammar.specs.grammar.ValidLists.{IsValidList}
use Rattle.libyaml_grammar.specs.partial.Fits.{HasPartialTree}
use Rattle.libyaml_grammar.specs.partial.PartialTrees.{PartialTree, partial_tokens}
use Rattle.libyaml_grammar.proofs.exported.Completion.{reads_append}
use Rattle.libyaml_grammar.proofs.exported.Injectivity.{head_same}
use Rattle.libyaml_grammar.proofs.exported.OnePartialTree.{fits_reach, fits_stop}
use Rattle.libyaml_grammar.proofs.exported.Positions.{unopened}
use Rattle.libyaml_grammar.proofs.exported.Reading.{Step, bad, bad_same, reads_all, then_all}

pub one_case : (l : List Token) → IsValidList l → HasPartialTree l → ⊥
one_case l v h = h.fits.bad_token (record {
  rest = h.after;
  valid_list = subst IsValidList (h.all ∙ sym (append_assoc h.before (h.token ∷ []) h.after)) v;
})

-- reading stops there
stops_there : (l : List Token) (h : HasPartialTree l) → reads_all l unopened ≡ bad h.cut
stops_there l h = ap (λ (x : List Token). reads_all x unopened) h.all
    ∙ (reads_append h.before (h.token ∷ h.after) unopened
    ∙ (ap (λ (s : Step). then_all s (reads_all (h.token ∷ h.after))) (fits_reach h.before h.token h.cut h.fits)
    ∙ ap (λ (s : Step). then_all s (reads_all h.after)) (fits_stop h.before h.token h.cut h.fits)))

pub one_place : (l : List Token) (x y : HasPartialTree l) → (x.before ≡ y.before) × (x.token ≡ y.token) × (x.cut ≡ y.cut)
one_place l x y =
    let c : x.cut ≡ y.cut = bad_same x.cut y.cut (sym (stops_there l x) ∙ stops_there l y) in
    let b : x.before ≡ y.before = sym x.fits.tokens ∙ (ap (λ (w : PartialTree). partial_tokens w []) c ∙ y.fits.tokens) in
    let o : x.token ∷ x.after ≡ y.token ∷ y.after = append_cancel_left x.before (x.token ∷ x.after) (y.token ∷ y.after)
    (sym x.all ∙ (y.all ∙ ap (λ (z : List Token). z ++ y.token ∷ y.after) (sym b))) in
    (b, head_same x.token y.token x.after y.after o, c)
