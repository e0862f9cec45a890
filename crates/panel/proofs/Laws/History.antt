-- Law. THE HISTORY (document 01, demand 3): for every list of calls from a fresh overlay, refused ones included,
-- what each gives is, byte for byte, what the plain book says. Of calls it needs `lawful` alone.
use Rattle.std.specs.Prelude.{◌≡◌, refl, Bool, true, false, cond, List, [], ◌∷◌, ℕ, eqb, replicate}
use Rattle.std.proofs.Common.{sym, ap, ap₂, ◌∙◌, eqb-true}
use Rattle.std.proofs.lemmas.Bool.{false≢true}
use Rattle.std.proofs.Math.Option.{Option, none, some}
use Rattle.basics.specs.Options.{is_some}
use Rattle.basics.specs.Laws.Options.{none_some}
use Rattle.overlay.specs.State.{State}
use Rattle.overlay.specs.Image.{image, filled, state_of}
use Rattle.overlay.specs.Records.{shown}
use Rattle.overlay.proofs.Laws.Buffer.{image_state, no_state}
use Rattle.panel.specs.Outcome.{Outcome, refused, accepted, number_of, bytes_of}
use Rattle.panel.specs.Questions.{Lengths}
use Rattle.panel.specs.Rule.{Book, no_book, Effect, changes, tells, nothing}
use Rattle.panel.specs.Calls.{Call, fresh, rule, asks, ends, out_of, gives, writing, writes, overlay_after}
use Rattle.panel.specs.Calls.{fresh_overlay, run}
use Rattle.panel.specs.Book.{entering, fed, saying, showing, said, seen, said_all, seen_all, History}
use Rattle.panel.specs.Answers.{order}
use Rattle.panel.proofs.Laws.Asks.{always, zero_accepted}
use Rattle.panel.proofs.Laws.Lawful.{Holds, Leaves, Right}
use Rattle.panel.proofs.Laws.Table.{lawful}

-- what an accepted call wrote
pub accepted_right : (L : Lengths) (old : List ℕ) (c : Call) (bk : Book) → Holds old bk → {x : List ℕ}
    → ends L old c ≡ accepted x → Right L (out_of c) (rule c).does bk x
accepted_right L old c bk h e =
    always (Right L (out_of c) (rule c).does bk) (asks L old c) ((lawful c).right L old bk h) e

-- the same by its number
record Wrote (L : Lengths) (o : Outcome) (n : ℕ) (e : Effect) (bk : Book) : Type 0 where
  bytes : List ℕ
  is : o ≡ accepted bytes
  right : Right L n e bk bytes

wrote : (L : Lengths) (old : List ℕ) (c : Call) (bk : Book) → Holds old bk → number_of (ends L old c) ≡ 0
    → Wrote L (ends L old c) (out_of c) (rule c).does bk
wrote L old c bk h e =
    let a = zero_accepted order (asks L old c) refl ((lawful c).ordered L old) e in
    record { bytes = a.bytes; is = a.is; right = accepted_right L old c bk h a.is }

-- ---- the overlay and the book go on together

left_state : {L : Lengths} {bk : Book} {x : List ℕ} (n : ℕ) (l : Leaves L n bk x)
    → state_of (filled n x) ≡ some l.state
unfolding image
left_state n l = ap (λ x. state_of (filled n x)) l.wrote ∙ image_state n l.state l.held

unsome : {a b : State} → some a ≡ some b → a ≡ b
unsome e = cc

leaves_holds : {L : Lengths} {bk : Book} {x : List ℕ} (n : ℕ) → Leaves L n bk x → Holds (filled n x) bk
leaves_holds n l = record {
  same = λ s d. let z : s ≡ l.state = unsome (sym d ∙ left_state n l) in ap shown z ∙ l.same;
}

step_by : {L : Lengths} (old : List ℕ) (bk : Book) (n : ℕ) (o : Outcome) (e : Effect) → Holds old bk
    → (number_of o ≡ 0 → Wrote L o n e bk)
    → Holds (cond (writing e) (cond (eqb (number_of o) 0) (bytes_of n o) old) old)
    (cond (eqb (number_of o) 0) (entering e bk) bk)
step_by old bk n o (changes e) h w = go (eqb (number_of o) 0) refl
  where
    go : (t : Bool) → eqb (number_of o) 0 ≡ t → Holds (cond t (bytes_of n o) old) (cond t (e bk) bk)
    go true q = let r = w (eqb-true (number_of o) 0 q) in rw r.is (leaves_holds n r.right.does)
    go false q = h
step_by old bk n o (tells t) h w = go (eqb (number_of o) 0)
  where
    go : (t : Bool) → Holds old (cond t bk bk)
    go true = h
    go false = h
step_by old bk n o nothing h w = go (eqb (number_of o) 0)
  where
    go : (t : Bool) → Holds old (cond t bk bk)
    go true = h
    go false = h

step : (L : Lengths) (old : List ℕ) (bk : Book) (c : Call) → Holds old bk
    → Holds (overlay_after old c (gives L old c)) (fed bk c (gives L old c).number)
step L old bk c h = step_by old bk (out_of c) (ends L old c) (rule c).does h (wrote L old c bk h)

-- ---- and the book says what each call gives

refused_zeros : (n : ℕ) (o : Outcome) → eqb (number_of o) 0 ≡ false → bytes_of n o ≡ replicate n 0
refused_zeros n (refused k) e = refl
refused_zeros n (accepted x) e = absurd (false≢true (sym e))

told : {L : Lengths} (n : ℕ) (o : Outcome) (e : Effect) (bk : Book) → Wrote L o n e bk
    → showing e (bytes_of n o) ≡ saying e n bk
told n o (changes e) bk w = refl
told n o (tells t) bk w = ap (bytes_of n) w.is ∙ ap (filled n) w.right.does
told n o nothing bk w = refl

head_says : (L : Lengths) (old : List ℕ) (bk : Book) (c : Call) → Holds old bk
    → seen c (gives L old c) ≡ said bk c (gives L old c).number
head_says L old bk c h = go (eqb (number_of (ends L old c)) 0) refl
  where
    go : (t : Bool) → eqb (number_of (ends L old c)) 0 ≡ t
        → cond t (showing (rule c).does (bytes_of (out_of c) (ends L old c))) (bytes_of (out_of c) (ends L old c))
        ≡ cond t (saying (rule c).does (out_of c) bk) (replicate (out_of c) 0)
    go true e =
        told (out_of c) (ends L old c) (rule c).does bk (wrote L old c bk h (eqb-true (number_of (ends L old c)) 0 e))
    go false e = refused_zeros (out_of c) (ends L old c) e

from_here : (L : Lengths) (old : List ℕ) (bk : Book) → Holds old bk → (cs : List Call) → History L old bk cs
unfolding run seen_all said_all
from_here L old bk h [] = refl
from_here L old bk h (c ∷ cs) =
    let o = gives L old c in
    ap₂ ◌∷◌ (head_says L old bk c h)
    (from_here L (overlay_after old c o) (fed bk c o.number) (step L old bk c h) cs)

-- every buffer has a book, and one without a state has every book
no_holds : (old : List ℕ) (bk : Book) → state_of old ≡ none → Holds old bk
no_holds old bk e = record { same = λ s d. none_some (sym e ∙ d) }

pub record HasBook (old : List ℕ) : Type 0 where
  pub book : Book
  pub holds : Holds old book

pub book_of : (old : List ℕ) → HasBook old
book_of old = go (state_of old) refl
  where
    go : (o : Option State) → state_of old ≡ o → HasBook old
    go none e = record { book = no_book; holds = no_holds old no_book e }
    go (some s) e = record { book = shown s; holds = record { same = λ r d. ap shown (unsome (sym d ∙ e)) } }

-- the fresh overlay: a refused fresh call gives zeros, which are none
fresh_holds : (L : Lengths) → Holds (fresh_overlay L) no_book
fresh_holds L = go (eqb (number_of o) 0) refl
  where
    o : Outcome
    o = ends L [] (fresh L.overlay)

    go : (t : Bool) → eqb (number_of o) 0 ≡ t → Holds (bytes_of L.overlay o) no_book
    go true e =
        let b = book_of [] in
        let r = wrote L [] (fresh L.overlay) b.book b.holds (eqb-true (number_of o) 0 e) in
        rw r.is (leaves_holds L.overlay r.right.does)
    go false e = rw (refused_zeros L.overlay o e)
        (no_holds (replicate L.overlay 0) no_book (no_state L.overlay))

-- THE HISTORY: of every list of calls, from what a fresh call writes
pub history : (L : Lengths) (cs : List Call) → History L (fresh_overlay L) no_book cs
history L cs = from_here L (fresh_overlay L) no_book (fresh_holds L) cs

-- what an accepted writing call left
pub record Written (L : Lengths) (n : ℕ) (out : List ℕ) : Type 0 where
  -- AN OVERLAY: question 2 says yes to it, at every length
  pub overlay : is_some (state_of out) ≡ true
  -- as long as one is due
  pub long : n ≡ L.overlay

pub writes_overlay : (L : Lengths) (old : List ℕ) (c : Call) → writes c ≡ true → (gives L old c).number ≡ 0
    → Written L (out_of c) (gives L old c).out
writes_overlay L old c w e =
    let b = book_of old in
    let r = wrote L old c b.book b.holds e in
    go (rule c).does w r
  where
    go : {bk : Book} (d : Effect) → writing d ≡ true → Wrote L (ends L old c) (out_of c) d bk
        → Written L (out_of c) (bytes_of (out_of c) (ends L old c))
    go (changes f) w r = record {
      overlay = rw (r.is, left_state (out_of c) r.right.does) refl;
      long = r.right.does.long;
    }
    go (tells t) w r = absurd (false≢true w)
    go nothing w r = absurd (false≢true w)
