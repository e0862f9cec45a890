-- Law. Worked rows of the script's form, and of what a replay tells, written by hand from docs/CALLS.md.
use Rattle.std.specs.Prelude.{ℕ, ◌≡◌, refl, List, [], ◌∷◌, replicate}
use Rattle.std.proofs.Math.Option.{none, some}
use Rattle.overlay.specs.Image.{filled, room, state_of}
use Rattle.overlay.specs.Valid.{valid, within}
use Rattle.overlay.specs.Report.{report as report_on}
use Rattle.overlay.specs.Change.{feed_at}
use Rattle.panel.specs.Outcome.{accepted}
use Rattle.panel.specs.Questions.{Lengths, whole}
use Rattle.panel.specs.Fresh.{fresh_asks}
use Rattle.panel.specs.Report.{report_asks}
use Rattle.panel.specs.Calls.{fresh, message, report, run}
use Rattle.replay_script.specs.Script.{Lent, calls_of, size_of, calls_in}
use Rattle.replay_script.specs.Tells.{tell_all, tells, replay_of}

abbrev small : Lengths
small = record {
  overlay = 16;
  card = 64;
  sheet = 64;
  work = record { message = 4 ∷ 3 ∷ 2 ∷ 1 ∷ []; alert_sheet = []; vehicle_sheet = []; card = [] };
}

abbrev lent : Lent
lent = record { overlay = 16; output = 40; message_work = 4 ∷ 3 ∷ 2 ∷ 1 ∷ []; card_work = [] }

-- two calls: a fresh one into 16 bytes; a report on the feed 'n' into 25, with a length that it does not take
abbrev two : List ℕ
two =
    2
    ∷ 0 ∷ 0 ∷ 0 ∷ 0 ∷ 16 ∷ 0
    ∷ 5 ∷ 1 ∷ 110 ∷ 0 ∷ 0 ∷ 25 ∷ 1 ∷ 7
    ∷ []

-- a message of the feed 'n' with the bytes 1, 2, working buffers of 4, 3 and 2 elements, and none for a missing length
abbrev one : List ℕ
one = 1 ∷ 1 ∷ 1 ∷ 110 ∷ 2 ∷ 1 ∷ 2 ∷ 0 ∷ 16 ∷ 3 ∷ 4 ∷ 3 ∷ 2 ∷ []

two_calls : calls_in small lent two ≡ some (fresh 16 ∷ report (110 ∷ []) 25 ∷ [])
unfolding calls_in whole calls_of size_of
two_calls = refl

one_call : calls_in small lent one ≡ some (message (110 ∷ []) (1 ∷ 2 ∷ []) 16 (4 ∷ 3 ∷ 2 ∷ 0 ∷ []) ∷ [])
unfolding calls_in whole calls_of size_of
one_call = refl

-- bytes behind the last call, and a kind that is none
behind : calls_in small lent (0 ∷ 0 ∷ []) ≡ none
unfolding calls_in whole calls_of size_of
behind = refl

no_kind : calls_in small lent (1 ∷ 6 ∷ 0 ∷ 0 ∷ 0 ∷ 16 ∷ 0 ∷ []) ≡ none
unfolding calls_in whole calls_of size_of
no_kind = refl

-- what is told: both are accepted, and the report is of version 0, count 0 and no timestamp
two_told : replay_of small lent two ≡ accepted (0 ∷ 0 ∷ replicate 25 0)
unfolding replay_of calls_in whole calls_of size_of tells tell_all run fresh_asks report_asks filled room state_of valid
    within
    report_on feed_at
two_told = refl
