-- STREAM-END alone leads past the stream's end, so a list without it never stands there.
use Rattle.std.specs.Prelude.{◌||◌}
use Rattle.std.proofs.Common.{◌≡◌, List, [], ◌∷◌, refl, sym, ap, ◌∙◌, subst, Bool, true, false, arith}
use Rattle.libyaml_grammar.specs.grammar.Tokens.{Content, Marks, StreamEnd, Token, tok}
use Rattle.libyaml_grammar.specs.grammar.Trees.{BlockNode, FlowNode, Stream}
use Rattle.libyaml_grammar.specs.grammar.Events.{Event}
use Rattle.libyaml_grammar.specs.grammar.ValidLists.{has_end, is_end}
use Rattle.libyaml_grammar.specs.partial.PartialTrees.{BlockPlace, Place}
use Rattle.libyaml_grammar.proofs.exported.Positions.{Position, done}
use Rattle.libyaml_grammar.proofs.exported.Reading.{Step, bad, checked, fill, fill_flow, goes, over, reads, reads_all, then_all}
use Rattle.libyaml_grammar.proofs.exported.ReadSteps.{ReadStep, a_scalar, an_alias, closes_at_mapping, closes_at_sequence, closes_mapping, closes_sequence, ends_mapping, ends_sequence, fails, is_past, leaves, moves, read_step}

abbrev pub DoneAt : Position → Bool → Type 0
DoneAt (done t) b = b ≡ true
DoneAt _ b = b ≡ false

abbrev pub Done : Step → Bool → Type 0
Done (goes q) b = DoneAt q b
Done (bad c) b = Unit {0}
Done over b = Unit {0}

fill_open : (c : BlockPlace) (x : BlockNode) → DoneAt (fill c x) false
fill_open c x = grind arith

fill_flow_open : (p : Place) (x : FlowNode) → DoneAt (fill_flow p x) false
fill_flow_open p x = grind arith

ends : {m : Marks} {q : Position} {k : Content} {s : Step} {g : List Event → List Event} {l : Bool}
    → ReadStep m q k s g l → Done s (is_end k)
ends is_past = tt
ends (moves x h) = ends h
ends (leaves p e h) = ends h
ends (fails x) = tt
ends (an_alias p a) = fill_flow_open p _
ends (a_scalar p o v) = fill_flow_open p _
ends (ends_sequence c) = fill_open c _
ends (ends_mapping c) = fill_open c _
ends (closes_sequence p) = fill_flow_open p _
ends (closes_mapping p) = fill_flow_open p _
ends (closes_at_sequence p) = fill_flow_open p _
ends (closes_at_mapping p) = fill_flow_open p _
ends _ = refl

checked_done : (s : Step) (b x : Bool) → Done s x → Done (checked s b) x
checked_done s b x h = grind arith

pub reads_done : (q : Position) (t : Token) → Done (reads q t) (is_end t.content)
reads_done q t = grind (arith, checked_done, ends, read_step)

-- a list without STREAM-END that is read from before the stream's end does not lead past it
pub stays_open : (l : List Token) (q p : Position) → DoneAt q false → has_end l ≡ false → reads_all l q ≡ goes p
    → DoneAt p false
stays_open [] q p d n e = subst (λ (s : Step). Done s false) e d
stays_open (t ∷ l) q p d n e =
    go (λ (x : Position) (h : DoneAt x false) (m : has_end l ≡ false) (g : reads_all l x ≡ goes p). stays_open l x p
    h m g)
    (is_end t.content) refl (reads q t) (reads_done q t) e
  where
    go : ((x : Position) → DoneAt x false → has_end l ≡ false → reads_all l x ≡ goes p → DoneAt p false)
        → (b : Bool) → is_end t.content ≡ b → (s : Step)
        → Done s (is_end t.content) → then_all s (reads_all l) ≡ goes p → DoneAt p false
    go ih true f s h g = absurd (no (sym (ap (λ (x : Bool). (x || has_end l)) f) ∙ n))
      where
        no : true ≡ false → ⊥
        no x = cc
    go ih false f (goes x) h g = ih x (subst (DoneAt x) f h) (sym (ap (λ (x : Bool). (x || has_end l)) f) ∙ n) g
    go ih false f (bad c) h g = cc
    go ih false f over h g = cc

-- STREAM-END leads past the stream's end
pub ends_done : (q p : Position) (m : Marks) → reads q (tok StreamEnd m) ≡ goes p → (t : Stream) × (p ≡ done t)
ends_done q p m e = grind arith
