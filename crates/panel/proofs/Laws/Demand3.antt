-- Law. DEMAND 3 of document 01 at the published lengths, for every list of calls: from what a fresh call writes and
-- the empty book, and from each overlay and book that a list of calls left. (`history` and `history_gains` hold at
-- every length; the paper claims it at these.)
use Rattle.std.specs.Prelude.{ℕ, ◌≡◌, List, [], ◌∷◌, ◌++◌}
use Rattle.panel.specs.Questions.{Lengths, Published}
use Rattle.panel.specs.Calls.{Call, gives, overlay_after, fresh_overlay, run, numbers_given}
use Rattle.panel.specs.Rule.{Book, no_book}
use Rattle.panel.specs.Book.{fed, said_all, seen_all, History}
use Rattle.panel.specs.Demand3.{Demand3, overlay_left, book_left}
use Rattle.panel.proofs.Laws.Gained.{history_gains}
use Rattle.panel.proofs.Laws.History.{history}

rest : {A : Type 0} {x y : A} {l m : List A} → x ∷ l ≡ y ∷ m → l ≡ m
rest e = cc

-- the claim over a list, from where its first calls left off
from_there : (L : Lengths) (old : List ℕ) (bk : Book) (before cs : List Call) → History L old bk (before ++ cs)
    → History L (overlay_left L old before) (book_left bk before (numbers_given (run L old before))) cs
unfolding run seen_all said_all overlay_left book_left
from_there L old bk [] cs h = h
from_there L old bk (c ∷ before) cs h =
    from_there L (overlay_after old c (gives L old c)) (fed bk c (gives L old c).number) before cs (rest h)

module _ (L : Lengths) (P : Published L) where
  -- DEMAND 3
  pub demand_3 : (cs : List Call) → Demand3 L (fresh_overlay L) no_book cs
  demand_3 cs = record { history = history L cs; gains = λ ds. history_gains L (fresh_overlay L) cs ds }

  -- and from what any list of calls left
  pub demand_3_later : (before cs : List Call)
      → Demand3 L (overlay_left L (fresh_overlay L) before)
      (book_left no_book before (numbers_given (run L (fresh_overlay L) before))) cs
  demand_3_later before cs = record {
    history = from_there L (fresh_overlay L) no_book before cs (history L (before ++ cs));
    gains = λ ds. history_gains L (overlay_left L (fresh_overlay L) before) cs ds;
  }
