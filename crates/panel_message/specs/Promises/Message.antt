-- Promise. The first of a message's questions 3 to 6 whose answer is no.
use Rattle.std.specs.Prelude.{Bool, cond, List, ℕ, leb, length}
use Rattle.realtime.specs.Tree.{tree}
use Rattle.realtime.specs.Schema.{feed_message, feed}
use Rattle.realtime.specs.Judge.{rules, asked}
use Rattle.realtime.specs.declared.Verdict.{Verdict}
use Rattle.panel.specs.Questions.{feed_ok}

-- the first of the questions 4 to 6 of a message, whose feed's id has a name's form or not
abbrev pub number_by : Verdict → Bool → ℕ
number_by Verdict.Broken b = 4
number_by Verdict.Text b = 5
number_by Verdict.Time b = cond b 6 5
number_by Verdict.Fine b = cond b 0 5

-- the first of the questions 3 to 6
abbrev pub message_number : List ℕ → List ℕ → ℕ
message_number f m =
    cond (leb (length m) 1048576) (number_by (asked rules feed_message (tree feed feed_message m)) (feed_ok f)) 3
