-- Law. WHATEVER WRITES what a replay tells has told the history: the book's answers, and the same with added fields.
-- For every choice of lengths.
use Rattle.std.specs.Prelude.{ℕ, ◌+◌, ◌≡◌, refl, Bool, true, false, cond, List, [], ◌∷◌, ◌++◌, length, take, drop}
use Rattle.std.proofs.Common.{sym, ap₂, ◌∙◌, arith, length-append, drop_at}
use Rattle.std.proofs.Math.Path.{ap}
use Rattle.std.proofs.Math.Option.{some}
use Rattle.std.proofs.Math.Seq.{take_at}
use Rattle.overlay.specs.Image.{filled}
use Rattle.panel.specs.Outcome.{accepted, need_some, number_of, bytes_of}
use Rattle.panel.specs.Questions.{Lengths}
use Rattle.panel.specs.Calls.{Call, Gave, gives, out_of, writes}
use Rattle.panel.specs.Calls.{overlay_after, fresh_overlay, run, numbers_given}
use Rattle.panel.specs.Rule.{Book, no_book}
use Rattle.panel.specs.Book.{fed, seen, said_all, seen_all}
use Rattle.panel.specs.Gained.{Alike, equal, gained, gained_alerts, AlikeAll}
use Rattle.panel.proofs.Laws.Gained.{history_gains}
use Rattle.panel.proofs.Laws.History.{history}
use Rattle.panel.proofs.Laws.Sizes.{out_long}
use Rattle.replay_script.specs.Script.{standing, size_of, Lent, calls_in}
use Rattle.replay_script.specs.Tells.{telling, tell_all, tells, replay_of, Replays}
use Rattle.replay_script.specs.Told.{numbers_in, seen_here, seen_in, said_here, said_in, Told, ToldGained}
use Rattle.replay_script.specs.Told.{ReplayTold, ReplayGained}

-- ---- what stands of a call

stand_long : (b : Bool) (x : List ℕ) (n : ℕ) → length x ≡ n → length (cond b [] x) ≡ cond b 0 n
stand_long true x n e = refl
stand_long false x n e = e

module _ (L : Lengths) (old : List ℕ) (c : Call) where
  abbrev stands : List ℕ
  stands = cond (writes c) [] (gives L old c).out

  pub stands_long : length stands ≡ standing c
  stands_long = stand_long (writes c) (gives L old c).out (out_of c) (out_long L old c)

  abbrev after : List ℕ
  after = overlay_after old c (gives L old c)

  module _ (rest : List ℕ) where
    past : drop (standing c) (stands ++ rest) ≡ rest
    past = drop_at stands rest (standing c) stands_long

    front : take (standing c) (stands ++ rest) ≡ stands
    front = take_at stands rest (standing c) stands_long

-- ---- what is told, call by call

pub tells_long : (L : Lengths) (old : List ℕ) (cs : List Call) → length (tells L old cs) ≡ size_of cs
unfolding tells tell_all run size_of
tells_long L old [] = refl
tells_long L old (c ∷ cs) =
    let rest = tells L (after L old c) cs in
    omega (arith, length-append (stands L old c) rest, stands_long L old c, tells_long L (after L old c) cs)

numbers_told : (L : Lengths) (old : List ℕ) (cs : List Call)
    → numbers_in cs (tells L old cs) ≡ numbers_given (run L old cs)
unfolding tells tell_all run numbers_in
numbers_told L old [] = refl
numbers_told L old (c ∷ cs) =
    ap (λ l. (gives L old c).number ∷ l)
    (ap (numbers_in cs) (past L old c (tells L (after L old c) cs)) ∙ numbers_told L (after L old c) cs)

-- what is seen or said of each call that answers
abbrev here : List Call → List (List ℕ) → List (List ℕ)
here [] l = []
here (c ∷ cs) [] = []
here (c ∷ cs) (x ∷ l) = cond (writes c) [] x ∷ here cs l

seen_work : (c : Call) (n : ℕ) (x : List ℕ) (w v : List (List ℕ))
    → seen c (record { number = n; out = x; work = w }) ≡ seen c (record { number = n; out = x; work = v })
seen_work c n x w v = refl

seen_here_then : (b : Bool) (c : Call) (g : Gave)
    → cond b [] (seen c (record { number = g.number; out = cond b [] g.out; work = [] })) ≡ cond b [] (seen c g)
seen_here_then true c g = refl
seen_here_then false c g = seen_work c g.number g.out [] g.work

seen_told : (L : Lengths) (old : List ℕ) (cs : List Call)
    → seen_in cs (tells L old cs) ≡ here cs (seen_all cs (run L old cs))
unfolding tells tell_all run seen_in seen_all
seen_told L old [] = refl
seen_told L old (c ∷ cs) =
    let rest = tells L (after L old c) cs in
    ap₂ ◌∷◌
    (ap (seen_here c (gives L old c).number) (front L old c rest) ∙ seen_here_then (writes c) c (gives L old c))
    (ap (seen_in cs) (past L old c rest) ∙ seen_told L (after L old c) cs)

said_here_all : (bk : Book) (cs : List Call) (ns : List ℕ) → said_in bk cs ns ≡ here cs (said_all bk cs ns)
unfolding said_in said_all
said_here_all bk [] ns = refl
said_here_all bk (c ∷ cs) [] = refl
said_here_all bk (c ∷ cs) (n ∷ ns) = ap (λ l. said_here bk c n ∷ l) (said_here_all (fed bk c n) cs ns)

-- THE HISTORY, TOLD
pub told : (L : Lengths) (cs : List Call) {l : List ℕ} → l ≡ tells L (fresh_overlay L) cs → Told cs l
told L cs {l} e =
    let b = fresh_overlay L in
    record {
      size = ap length e ∙ tells_long L b cs;
      history = ap (seen_in cs) e ∙ seen_told L b cs ∙ ap (here cs) (history L cs)
          ∙ sym (said_here_all no_book cs (numbers_given (run L b cs)))
          ∙ ap (said_in no_book cs) (sym (numbers_told L b cs))
          ∙ ap (λ l. said_in no_book cs (numbers_in cs l)) (sym e);
    }

-- ---- added fields

alike_telling : {c d : Call} {n : ℕ} → Alike c n d → (g : Gave) → telling c g ≡ telling d g
alike_telling equal g = refl
alike_telling (gained a z l) g = refl
alike_telling (gained_alerts a z l) g = refl

alike_tells : (cs : List Call) (ns : List ℕ) (ds : List Call) → AlikeAll cs ns ds → (gs : List Gave)
    → tell_all cs gs ≡ tell_all ds gs
unfolding tell_all
alike_tells [] ns [] h gs = refl
alike_tells [] ns (d ∷ ds) h gs = absurd h
alike_tells (c ∷ cs) ns [] h gs = absurd h
alike_tells (c ∷ cs) [] (d ∷ ds) h gs = absurd h
alike_tells (c ∷ cs) (n ∷ ns) (d ∷ ds) h [] = refl
alike_tells (c ∷ cs) (n ∷ ns) (d ∷ ds) h (g ∷ gs) =
    ap₂ ◌++◌ (alike_telling h.0 g) (alike_tells cs ns ds h.1 gs)

tells_gained : (L : Lengths) (old : List ℕ) (cs ds : List Call) → AlikeAll cs (numbers_given (run L old cs)) ds
    → tells L old cs ≡ tells L old ds
unfolding tells
tells_gained L old cs ds h =
    alike_tells cs (numbers_given (run L old cs)) ds h (run L old cs) ∙ ap (tell_all ds) (history_gains L old cs ds h)

-- THE SUPPLIER ADDS FIELDS, TOLD
pub told_gained : (L : Lengths) (cs ds : List Call) {l m : List ℕ} → l ≡ tells L (fresh_overlay L) cs
    → m ≡ tells L (fresh_overlay L) ds → ToldGained cs l ds m
told_gained L cs ds {l} e f =
    let b = fresh_overlay L in
    let n : numbers_in cs l ≡ numbers_given (run L b cs) = ap (numbers_in cs) e ∙ numbers_told L b cs in
    record { gains = λ h. e ∙ tells_gained L b cs ds (rw n at h) ∙ sym f }

-- ---- a replay

-- what an accepted replay wrote
module _ (L : Lengths) (R : Lent) (s : List ℕ) {number : ℕ} {out : List ℕ} (e : Replays L R s number out)
    (cs : List Call) (d : calls_in L R s ≡ some cs) where
  accepts : replay_of L R s ≡ accepted (tells L (fresh_overlay L) cs)
  unfolding replay_of
  accepts = ap (λ o. need_some o 1 (λ cs. accepted (tells L (fresh_overlay L) cs))) d

  left : out ≡ filled R.output (tells L (fresh_overlay L) cs)
  left = e.writes ∙ ap (bytes_of R.output) accepts

  front_left : take (size_of cs) out ≡ tells L (fresh_overlay L) cs
  unfolding filled
  front_left =
      ap (take (size_of cs)) left
      ∙ take_at (tells L (fresh_overlay L) cs) _ (size_of cs) (tells_long L (fresh_overlay L) cs)

-- A REPLAY'S HISTORY
pub replay_told : {L : Lengths} {R : Lent} {s : List ℕ} {number : ℕ} {out : List ℕ} → Replays L R s number out
    → ReplayTold L R s number out
unfolding replay_of
replay_told {L} {R} {s} e = record {
  refused = λ d.
      let z = ap (λ o. need_some o 1 (λ cs. accepted (tells L (fresh_overlay L) cs))) d in
      (e.says ∙ ap number_of z, e.writes ∙ ap (bytes_of R.output) z);
  accepted = λ {cs} d. e.says ∙ ap number_of (accepts L R s e cs d);
  told = λ {cs} d. told L cs (front_left L R s e cs d);
  whole = λ {cs} d. left L R s e cs d ∙ ap (filled R.output) (sym (front_left L R s e cs d));
}

-- AND WITH ADDED FIELDS
pub replay_gained : {L : Lengths} {R : Lent} {s t : List ℕ} {number n : ℕ} {out other : List ℕ}
    → Replays L R s number out → Replays L R t n other → ReplayGained L R s out t other
replay_gained {L} {R} {s} {t} e f = record {
  gains = λ {cs} {ds} d g h.
      let same = (told_gained L cs ds (front_left L R s e cs d) (front_left L R t f ds g)).gains h in
      left L R s e cs d
      ∙ ap (filled R.output) (sym (front_left L R s e cs d) ∙ same ∙ front_left L R t f ds g)
      ∙ sym (left L R t f ds g);
}
