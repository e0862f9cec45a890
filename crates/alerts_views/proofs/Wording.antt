-- The words of an entity's alerts, on plain values: the first string that has a translation decides. Assumes nothing.
use Rattle.std.specs.Prelude.{Option, Some, None}
use Prim.Native.Nat.{ℕ, ◌+◌, ◌≤◌}
use mathlib.Core.Path.{◌≡◌, refl, sym, ap, subst, ◌∙◌}
use mathlib.Core.List.{List, [], ◌++◌}
use mathlib.Core.Logic.{inr}
use mathlib.Core.Option.{some}
use native.Mathlib.Omega.{arith}
use lib.ListN.{length, take, drop}
use Rattle.basics.specs.Lists.{concat_map}
use Rattle.formats_write.specs.Promises.Given.{given_text, Inside}
use Rattle.realtime.specs.Tree.{Tree, tree, sub, rep}
use Rattle.realtime.specs.Schema.{field_rows, feed, alert_entity, alert, header_text, header_translation, description_text}
use Rattle.realtime.specs.Schema.{description_translation}
use Rattle.realtime.proofs.Laws.Merged.{rep_sub}
use Rattle.realtime_views.specs.declared.Scalar.{Scalar}
use Rattle.realtime_views.specs.declared.Walk.{Walk}
use Rattle.realtime_views.specs.declared.Item.{Item}
use Rattle.realtime_views.specs.Promises.Scalars.{said, Lying, OneRead}
use Rattle.realtime_views.specs.Promises.Starts.{at_merged}
use Rattle.realtime_views.specs.Promises.Walks.{left, NextItem, Yields}
use Rattle.realtime_views.specs.Laws.Reading.{front_rest}
use Rattle.realtime_views.specs.Laws.Starts.{merged_sound, left_merged}
use Rattle.realtime_views.specs.Laws.Turns.{Walked, front_length, starts, ends, walks_on}
use Rattle.alerts_feed.specs.Sheet.{text_given, first_text, translated}
use Rattle.alerts_views.specs.Promises.Views.{WordsRead}
use Rattle.alerts_views.specs.Promises.Words.{Worded, First, ItemInside, FirstRead, TextRead}
use Rattle.formats.specs.declared.Span.{Span}

-- a translation's text, by its scalar
abbrev pub to_text : Scalar → Option Span
to_text (Scalar.Number n) = None
to_text (Scalar.Text i l) = Some (record { from = i; to = i + l })
to_text Scalar.Nothing = None

text_says : (s : List ℕ) (x : Scalar) → Lying (length s) x → given_text s (to_text x) ≡ text_given (said s x)
text_says s (Scalar.Number n) h = refl
text_says s (Scalar.Text i l) h = ap inr (front_rest s (i + l) i l refl h)
text_says s Scalar.Nothing h = refl

text_inside : (s : List ℕ) (x : Scalar) → Lying (length s) x → Inside s (to_text x)
text_inside s (Scalar.Number n) h = tt
text_inside s (Scalar.Text i l) h = (omega arith, h)
text_inside s Scalar.Nothing h = tt

module _ {s : List ℕ} {i l : ℕ} {x : Scalar} (S : OneRead 1 s i l x) where
  -- a text lies inside, whatever type lists it: that of a header's translation does
  inside : Lying (length s) x
  unfolding feed field_rows
  inside = (S header_translation refl).within

  pub text_read : {r : Option Span} → r ≡ to_text x → TextRead s i l r
  text_read e = subst (TextRead s i l) (sym e) (record {
    of = λ t p m q. text_says s x inside ∙ ap text_given ((S t p).of m q);
    inside = text_inside s x inside;
  })

  pub text_room : {j n : ℕ} → x ≡ Scalar.Text j n → j + n ≤ length s
  text_room e = subst (Lying (length s)) e inside

-- the two fields of words
pub header_worded : Worded 10
unfolding feed field_rows
header_worded = record {
  string = header_text;
  translation = header_translation;
  strings = refl;
  translations = refl;
  texts = refl;
}

pub description_worded : Worded 11
unfolding feed field_rows
description_worded = record {
  string = description_text;
  translation = description_translation;
  strings = refl;
  translations = refl;
  texts = refl;
}

pub first_there : {k : ℕ} {s : List ℕ} {i l : ℕ} {r : Item} {j n : ℕ} {w : Walk} → FirstRead k s i l r
    → r ≡ Item.At j n w → j + n ≤ length s
first_there {s = s} F e = subst (ItemInside s) e F.inside

-- THE INVARIANT: the first translation of the strings that are left
abbrev pub Wording : List ℕ → ℕ → ℕ → ℕ → Walk → Type 0
Wording s start len k w =
    Walked feed alert_entity 5 alert k alert_entity s start len
    (λ e l. first_text (concat_map (rep 1) l) ≡ translated (sub k (sub 5 e))) w

pub wording : (s : List ℕ) (start len k : ℕ) {w : Walk} → start + len ≤ length s → w ≡ at_merged start
    → Wording s start len k w
wording s start len k h e =
    starts s start len (λ m. rep k (sub 5 m)) h
    (merged_sound start (omega (arith, front_length s (start + len) h)) e)
    (ap (left feed alert_entity 5 alert k (take (start + len) s)) e
    ∙ left_merged feed alert_entity 5 alert k s start len h)
    (λ m. ap first_text (sym (rep_sub 1 k (sub 5 m))))

module _ {s : List ℕ} {start len k : ℕ} {w : Walk} (W : Wording s start len k w) (D : Worded k) {x : List ℕ}
    (X : x ≡ take (start + len) s) {r : Item} where
  -- the strings of the alerts of an entity
  pub strings_of : NextItem 5 k x w r → Yields feed alert_entity 5 alert k D.string x w r
  unfolding feed field_rows
  strings_of N = record { of = N.of alert_entity alert D.string (λ z. refl) (λ z. D.strings); lying = N.lying }

  module _ (N : Yields feed alert_entity 5 alert k D.string x w r) where
    pub wordless : r ≡ Item.Done → WordsRead s start len k None
    wordless d = record { of = λ e q. ends W X N d e q; inside = tt }

    module _ {i l : ℕ} {w' : Walk} {c : Item} (a : r ≡ Item.At i l w') (F : FirstRead 1 s i l c) where
      -- what the string's first translation is
      first_of : (y : Tree) → tree feed D.string (take l (drop i s)) ≡ some y → First D.translation s (rep 1 y) c
      first_of y o = F.of D.string D.translation (λ z. D.translations) y o

      -- none: the strings behind it decide
      pub wording_on : c ≡ Item.Done → Wording s start len k w'
      wording_on d =
          walks_on W X N a (λ e y z q o p.
          let n : rep 1 y ≡ [] = subst (First D.translation s (rep 1 y)) d (first_of y o) in
          ap (λ v. first_text (v ++ concat_map (rep 1) z)) (sym n) ∙ p)

      pub worded : {j m : ℕ} {w'' : Walk} {out : Option Span} → c ≡ Item.At j m w'' → TextRead s j m out
          → WordsRead s start len k out
      worded {j} {m} {w''} {out} g T = record {
        of = λ e q. ((walks_on W X N a {Q = λ e z. given_text s out ≡ translated (sub k (sub 5 e))} (λ e y z q o p.
            let (y', z', f, o') = subst (First D.translation s (rep 1 y)) g (first_of y o) in
            T.of D.translation D.texts y' o'
            ∙ ap (λ v. first_text (v ++ concat_map (rep 1) z)) (sym f) ∙ p)).of e q).holds;
        inside = T.inside;
      }
